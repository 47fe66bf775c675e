-- For a cue whose tables arrays of words hold: what each function's result is, in the words of the method, and how far its words go.
use mathlib.Core.Path.{◌≡◌, refl, ap, ap₂, sym, subst, ◌∙◌}
use mathlib.Core.Logic.{inl, inr}
use mathlib.Core.List.{List, [], ◌∷◌}
use mathlib.Core.Bool.{Bool, true, false, ◌&&◌}
use Prim.Native.Nat.{ℕ, zero, suc, ◌≤◌, ◌<◌}
use native.Mathlib.Omega.{arith}
use native.Mathlib.Nat.{le_refl}
use lib.Dec.{ltb}
use lib.IntN.{ℤ}
use lib.ListN.{get_or}
use borrow.Author.Tests.{lt-ltb}
use Rattle.maxplus.specs.Entry.{E, num, ◌⊗◌, inv, Present, present?}
use Rattle.maxplus.specs.Finite.{In, only_if}
use Rattle.maxplus.specs.Tables.{Vec, Mat, mv, mm, power, star, NoGain}
use Rattle.maxplus.proofs.EntryLaws.{◌▸◌, ≼_of, ≼_back, inv_num, present?_yes}
use Rattle.maxplus.proofs.FiniteLaws.{each_in}
use Rattle.maxplus.proofs.EachLaws.{each_same}
use Rattle.maxplus.proofs.SupLaws.{sup_ext}
use Rattle.words.specs.Words.{word, entry, Close}
use Rattle.words.proofs.Laws.{entry_word}
use Rattle.sheet.specs.Sheet.{limit}
use Rattle.sheet.specs.Sizes.{order_limit, star_size, through_size, mark_down, least_up}
use Rattle.reading.specs.Reading.{numbers}
use Rattle.rows.specs.Grid.{strip, strips}
use Rattle.rows.proofs.PlaceLaws.{strip_at, strips_at}
use Rattle.cue.specs.Cue.{Cue, timing, overdue, shortfall}
use Rattle.cue.specs.Method.{through, pull_E, pull, mark, least_E, least, floor_panels, kept, kept_byte}
use Rattle.cue.proofs.Deviation.{pull_is, mv_through, mark_keeps, mark_shortfall}
use Rattle.cue.specs.Results.{Within}
use Rattle.cue.proofs.Bounds.{star_within, through_within, pull_within, least_within}
use Rattle.tables.specs.Held.{meant, meant_v, Holds, HoldsV, Closely, CloselyV, Says}
use Rattle.maxplus.specs.Finite.{byte_of}
use Rattle.trigger_sets.specs.Sets.{bit}
use Rattle.trigger_sets.proofs.ByteLaws.{byte_ext, byte_small, byte_bit}
use Rattle.thresholds.specs.Thresholds.{reaches, kept_of, KeptBytes, floored}
use Rattle.tables.proofs.SquareLaws.{close_within, closely_within, closely_within_v, mm_held}
use Rattle.preparing.specs.declared.CueWords.{CueWords}
use Rattle.preparing.specs.Prepared.{HoldsCue}
use Rattle.cue.specs.Sizes.{size_limit}

-- ---- the arrays of a sheet that was read
pub word_held : (e : E) → Within limit limit e → entry (word e) ≡ e
word_held e w = entry_word e (λ z q. let b = w.low.above z q in omega arith)

pub strip_held : {n : ℕ} (x : Vec) → n ≤ size_limit → ((j : ℕ) → j < n → Within limit limit (x j)) → HoldsV n x (strip x)
unfolding meant_v
strip_held x six w = record { at = λ j h. ap entry (strip_at x j (omega arith)) ∙ word_held (x j) (w j h) }

pub strips_held : {m n : ℕ} (A : Mat) → m ≤ size_limit → n ≤ size_limit → ((i j : ℕ) → i < m → j < n → Within limit limit (A i j)) →
    Holds m n A (strips A)
unfolding meant
strips_held A six few w = record {
  at = λ i j hi hj.
      ap (λ (l : List ℕ). entry (get_or l j 0)) (strips_at A i (omega arith)) ∙ ap entry (strip_at (A i) j (omega arith)) ∙ word_held (A i j) (w i j hi hj);
}

-- the first entries of a line of due marks or last moments
pub first_held : (k : ℕ) (f : ℕ → ℤ) → k ≤ size_limit → ((j : ℕ) → j < k → Within limit limit (num (f j))) → HoldsV k (timing f) (strip (numbers k f))
first_held k f few w = record { at = λ j h. held.at j h ∙ there j h }
  where
    there : (j : ℕ) → j < k → numbers k f j ≡ num (f j)
    there j h = rw (lt-ltb j k h)

    held : HoldsV k (numbers k f) (strip (numbers k f))
    held = strip_held _ few (λ j h. subst (Within limit limit) (sym (there j h)) (w j h))

-- ---- tables that agree
power_ext : (n : ℕ) (A B : Mat) → ((i j : ℕ) → i < n → j < n → A i j ≡ B i j) → (k i j : ℕ) → i < n → j < n →
    power n A k i j ≡ power n B k i j
unfolding power mm
power_ext n A B h zero i j hi hj = refl
power_ext n A B h (suc k) i j hi hj = sup_ext n (λ l hl. ap₂ ◌⊗◌ (h i l hi hl) (power_ext n A B h k l j hl hj))

-- ---- the bits of a kept byte, for any tables
module _ (n : ℕ) (P : Cue) (D : ℤ) (i : ℕ) where
  -- bit j is set exactly when trigger j is kept; no other bit is
  pub kept_bit : (j : ℕ) → n ≤ size_limit → j < 6 → bit (kept_byte n P D i) j ≡ ltb j n && kept n P D i j
  unfolding kept_byte
  kept_bit j six h = unfold byte_of in byte_bit n (kept n P D i) j six h

  pub kept_small : n ≤ size_limit → kept_byte n P D i < 64
  unfolding kept_byte
  kept_small six = unfold byte_of in byte_small n (kept n P D i) six

module _ {P : Cue} {orders lags : List (List ℕ)} {c : CueWords} (H : HoldsCue P orders lags c) where
  abbrev n : ℕ
  n = c.triggers

  -- what each function asks of the sheet's words
  pub lags_close : Closely P.panels n limit lags
  lags_close = closely_within (le_refl _) (le_refl _) H.lags_are H.limited.lags

  pub orders_close : Closely n n order_limit orders
  orders_close = closely_within (le_refl _) (le_refl _) H.orders_are H.limited.orders

  pub floors_close : CloselyV P.panels limit c.floor
  floors_close = closely_within_v (le_refl _) (le_refl _) H.floors_are H.limited.floors

  pub dues_close : CloselyV n limit c.due
  dues_close = closely_within_v (le_refl _) (le_refl _) H.dues_are H.limited.dues

  -- ---- step 1
  same_power : (k i j : ℕ) → i < n → j < n → power n (meant orders) k i j ≡ power n P.order k i j
  same_power = power_ext n (meant orders) P.order H.orders_are.at

  pub order_says : (b : Bool) → Says (NoGain n (meant orders)) b → Says (NoGain n P.order) b
  unfolding NoGain
  order_says true h = λ k i p q hi. ≼_back (same_power k i i hi hi) ▸ h k i p q hi
  order_says false h = λ g. h (λ k i p q hi. ≼_of (same_power k i i hi hi) ▸ g k i p q hi)

  pub star_held : {s : List (List ℕ)} → Holds n n (star n (meant orders)) s → Holds n n (star n P.order) s
  unfolding star
  star_held h = record { at = λ i j hi hj. h.at i j hi hj ∙ sup_ext n (λ k hk. same_power k i j hi hj) }

  pub star_close : {s : List (List ℕ)} → Holds n n (star n P.order) s → Closely n n star_size s
  star_close h = closely_within (le_refl _) (le_refl _) h (star_within n 5 limit order_limit P H.limited H.few)

  -- ---- step 2
  pub through_held : {s d : List (List ℕ)} → Holds n n (star n P.order) s → Holds P.panels n (mm n (meant lags) (meant s)) d →
      Holds P.panels n (through n P) d
  unfolding through
  through_held hs hd = mm_held H.lags_are hs hd

  pub through_close : {d : List (List ℕ)} → Holds P.panels n (through n P) d → Closely P.panels n through_size d
  through_close h = closely_within (omega arith) (omega arith) h (through_within n 5 limit order_limit P H.limited H.few)

  pub pulls_held : {s : List (List ℕ)} {u : List ℕ} → Holds n n (star n P.order) s →
      HoldsV n (λ j. overdue n (meant_v c.due) (λ i. meant s i j)) u → HoldsV n (λ j. num (pull n P j)) u
  unfolding pull_E overdue
  pulls_held hs hu = record {
    at = λ j hj. hu.at j hj ∙ sup_ext n (λ i hi. ap₂ ◌⊗◌ (hs.at i j hi hj) (ap inv (H.dues_are.at i hi))) ∙ pull_is n P j hj;
  }

  pub pulls_close : {u : List ℕ} → HoldsV n (λ j. num (pull n P j)) u → CloselyV n mark_down u
  pulls_close h = closely_within_v (omega arith) (omega arith) h (pull_within n 5 limit order_limit P H.limited H.few)

  -- ---- step 5: "panels with a floor in sheet order"
  pub floored_is : floored P.panels (meant_v c.floor) ≡ floor_panels n P
  unfolding floored floor_panels
  floored_is = each_same P.panels _ _ (λ i hi. ap (λ e. only_if (present? e) (i ∷ [])) (H.floors_are.at i hi))

  pub level_floored : (i : ℕ) → In i (floor_panels n P) → (i < P.panels) × Present (P.floor i)
  unfolding floor_panels
  level_floored i h = let (k, hk, q) = each_in P.panels _ i h in go k hk (present? (P.floor k)) refl q
    where
      go : (k : ℕ) → k < P.panels → (b : Bool) → present? (P.floor k) ≡ b → In i (only_if b (k ∷ [])) → (i < P.panels) × Present (P.floor i)
      go k hk false e x = elim x [ ]
      go k hk true e (inr x) = elim x [ ]
      go k hk true e (inl q) = rw q (hk, present?_yes (P.floor k) (rw e tt))

  module _ {d : List (List ℕ)} {u : List ℕ} (hd : Holds P.panels n (through n P) d) (hu : HoldsV n (λ j. num (pull n P j)) u) where
    -- ---- step 3
    landing_is : (i : ℕ) → i < P.panels → mv n (meant d) (λ j. inv (meant_v u j)) i ≡ mv n (through n P) (timing (mark n P)) i
    unfolding mv
    landing_is i hi = sup_ext n (λ j hj. ap₂ ◌⊗◌ (hd.at i j hi hj) (ap inv (hu.at j hj) ∙ inv_num (pull n P j)))

    module _ (np : NoGain n P.order) where
      least_is : least_E n P ≡ num (least n P)
      unfolding least_E
      least_is = same ∙ mark_shortfall n P H.readable np
        where
          same : shortfall P.panels n (through n P) P.floor (timing (mark n P)) ≡ shortfall P.panels n P.lag P.floor (timing (mark n P))
          same = unfold shortfall in
              sup_ext P.panels (λ i hi. ap (λ e. P.floor i ⊗ inv e) (sym (mv_through n P (timing (mark n P)) (mark_keeps n P np) i)))

      pub least_held : (e : ℕ) → entry e ≡ shortfall P.panels n (meant d) (meant_v c.floor) (λ j. inv (meant_v u j)) →
          entry e ≡ num (least n P)
      unfolding least_E shortfall
      least_held e h = h ∙ sup_ext P.panels (λ i hi. ap₂ (λ p l. p ⊗ inv l) (H.floors_are.at i hi) (landing_is i hi)) ∙
          unfold least_E shortfall in least_is

      pub least_close : (e : ℕ) → entry e ≡ num (least n P) → Close least_up e
      least_close e h = close_within least_up e h (omega arith) (omega arith) (least_within n 5 limit order_limit P H.limited H.few np)

    -- ---- step 4, for any deviation D
    module _ (D : ℤ) (e : ℕ) (he : entry e ≡ num D) (r : List ℕ)
        (hr : KeptBytes P.panels n (λ i. kept_of (entry e) (meant d) (meant_v u) (meant_v c.floor i) i) r) where
      kept_is : (i j : ℕ) → i < P.panels → j < n → kept_of (entry e) (meant d) (meant_v u) (meant_v c.floor i) i j ≡ kept n P D i j
      unfolding kept_of reaches kept
      kept_is i j hi hj = rw (H.floors_are.at i hi, hu.at j hj, hd.at i j hi hj, he, inv_num)

      pub kept_held : (i : ℕ) → i < P.panels → get_or r i 0 ≡ kept_byte n P D i
      unfolding kept_byte
      kept_held i hi = hr.at i hi ∙ unfold byte_of in byte_ext n _ _ (λ j hj. kept_is i j hi hj)
