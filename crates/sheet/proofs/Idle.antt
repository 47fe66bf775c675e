-- What a spare trigger lacks, and what that says of who is in use.
use mathlib.Core.Path.{◌≡◌, refl, ap, sym, ◌∙◌}
use mathlib.Core.Logic.{◌↔◌}
use mathlib.Core.Bool.{Bool, true, false, not, ◌&&◌}
use Prim.Native.Nat.{ℕ, ◌≤◌, ◌<◌}
use native.Mathlib.Decide.{dec_lt}
use native.Mathlib.Omega.{arith}
use lib.Dec.{T, ltb, ltb→lt, lt→ltb}
use lib.IntN.{ℤ}
use Rattle.maxplus.specs.Entry.{E, absent, num, ◌≼◌, ◌⊗◌, Present, present?, val}
use Rattle.maxplus.specs.Tables.{sup, Vec}
use Rattle.maxplus.proofs.EntryLaws.{◌▸◌, ≼_anti, ≼_absent, ≼_of, ≼_back, absent_not, val_of}
use Rattle.maxplus.proofs.SupLaws.{sup_ub, sup_lub, sup_at}
use Rattle.maxplus.proofs.FiniteLaws.{both}
use Rattle.sheet.specs.Sheet.{Sheet, given_table, none_present, spare}
use Rattle.sheet.proofs.LineLaws.{true_not_false}
use Rattle.sheet.specs.Cue.{used}

absent_yes : (a : E) → T (not (present? a)) → a ≡ absent
absent_yes absent h = refl
absent_yes (num a) h = absurd h

absent_of : (a : E) → a ≼ absent → T (not (present? a))
absent_of absent h = tt
absent_of (num a) h = absurd h.un

pub absent_left : (a b : E) (z : ℤ) → b ≡ num z → a ⊗ b ≼ absent → a ≡ absent
unfolding ◌⊗◌
absent_left absent b z e h = refl
absent_left (num a) absent z e h = absurd (absent_not e)
absent_left (num a) (num b) z e h = absurd h.un

-- none is present exactly when each is absent
pub none_absent : (n : ℕ) (f : Vec) → T (none_present n f) ↔ ((j : ℕ) → j < n → f j ≡ absent)
none_absent n f = (
  λ h j hj. ≼_anti (sup_ub n f j hj ▸ ≼_of (absent_yes (sup n f) h)) (≼_absent _),
  λ h. absent_of (sup n f) (sup_lub n f (λ j hj. ≼_of (h j hj))),
)

-- one is present where not none is
pub some_of : (n : ℕ) (f : Vec) → none_present n f ≡ false → (i : ℕ) × (i < n) × Present (f i)
some_of n f e = go (sup n f) refl e
  where
    go : (a : E) → sup n f ≡ a → not (present? a) ≡ false → (i : ℕ) × (i < n) × Present (f i)
    go absent q h = absurd (true_not_false h)
    go (num z) q h = let (i, k, p) = sup_at n f (≼_back q) in (i, k, (val (f i), val_of (f i) p))

pub none_yes : (n : ℕ) (f : Vec) → ((k : ℕ) → k < n → present? (f k) ≡ false) → none_present n f ≡ true
none_yes n f h = yes (none_present n f) ((none_absent n f).1 (λ k q. gone (f k) (h k q)))
  where
    yes : (b : Bool) → T b → b ≡ true
    yes true p = refl
    yes false p = absurd p

    gone : (a : E) → present? a ≡ false → a ≡ absent
    gone absent e = refl
    gone (num z) e = absurd (true_not_false e)

pub none_no : (n : ℕ) (f : Vec) (k : ℕ) → k < n → present? (f k) ≡ true → none_present n f ≡ false
none_no n f k h e = go (none_present n f) (none_absent n f).0
  where
    go : (b : Bool) → (T b → (j : ℕ) → j < n → f j ≡ absent) → b ≡ false
    go true p = absurd (true_not_false (sym e ∙ ap present? (p tt k h)))
    go false p = refl

-- the same for vectors with the same places present, and for one that is absent past the first n
pub none_same : (n : ℕ) (f g : Vec) → ((k : ℕ) → k < n → present? (f k) ≡ present? (g k)) → none_present n f ≡ none_present n g
none_same n f g e = go (none_present n g) refl
  where
    go : (b : Bool) → none_present n g ≡ b → none_present n f ≡ b
    go true q = none_yes n f (λ k h. e k h ∙ ap present? ((none_absent n g).0 (rw q tt) k h))
    go false q = let (k, h, (z, p)) = some_of n g q in none_no n f k h (e k h ∙ ap present? p)

pub none_past : (m n : ℕ) (f : Vec) → n ≤ m → ((k : ℕ) → n ≤ k → f k ≡ absent) → none_present m f ≡ none_present n f
none_past m n f few past = go (none_present n f) refl
  where
    all_gone : none_present n f ≡ true → (k : ℕ) → Dec (k < n) → f k ≡ absent
    all_gone q k (yes h) = (none_absent n f).0 (rw q tt) k h
    all_gone q k (no h) = past k (omega arith)

    go : (b : Bool) → none_present n f ≡ b → none_present m f ≡ b
    go true q = none_yes m f (λ k h. ap present? (all_gone q k (dec_lt k n)))
    go false q = let (k, h, (z, p)) = some_of n f q in none_no m f k (omega arith) (ap present? p)

module _ (t : Sheet) where
  open t use {panels, triggers, lag, after, land}

  -- "no lag to any panel, no present after entry in its row or column, and no present land entry in its row"
  pub record Idle (j : ℕ) : Type 0 where
    pub no_lag : (i : ℕ) → i < panels → lag i j ≡ absent
    pub no_row : (k : ℕ) → k < triggers → after j k ≡ absent
    pub no_column : (k : ℕ) → k < triggers → after k j ≡ absent
    pub no_land : (i : ℕ) → i < panels → given_table land j i ≡ absent

  pub spare_idle : (j : ℕ) → T (spare t j) ↔ Idle j
  unfolding spare
  spare_idle j = (to, from)
    where
      a : Bool
      a = none_present panels (λ i. lag i j)

      b : Bool
      b = none_present triggers (λ k. after j k)

      c : Bool
      c = none_present triggers (λ k. after k j)

      d : Bool
      d = none_present panels (λ i. given_table land j i)

      to : T (a && b && c && d) → Idle j
      to h =
          let (abc, pd) = (both (a && b && c) d).0 h in
          let (ab, pc) = (both (a && b) c).0 abc in
          let (pa, pb) = (both a b).0 ab in
          record {
            no_lag = (none_absent panels (λ i. lag i j)).0 pa;
            no_row = (none_absent triggers (λ k. after j k)).0 pb;
            no_column = (none_absent triggers (λ k. after k j)).0 pc;
            no_land = (none_absent panels (λ i. given_table land j i)).0 pd;
          }

      from : Idle j → T (a && b && c && d)
      from h = (both (a && b && c) d).1 (
        (both (a && b) c).1 (
          (both a b).1 ((none_absent panels (λ i. lag i j)).1 h.no_lag, (none_absent triggers (λ k. after j k)).1 h.no_row),
          (none_absent triggers (λ k. after k j)).1 h.no_column,
        ),
        (none_absent panels (λ i. given_table land j i)).1 h.no_land,
      )

  -- ---- used: a trigger of the sheet that is not spare
  pub used_not_spare : (j : ℕ) → T (used t j) ↔ ((j < triggers) × T (not (spare t j)))
  unfolding used
  used_not_spare j = (
    λ h. let (a, b) = (both (ltb j triggers) (not (spare t j))).0 h in (ltb→lt j triggers a, b),
    λ h. (both (ltb j triggers) (not (spare t j))).1 (lt→ltb j triggers h.0, h.1),
  )
