-- Laws of a cue's marks, step by step: what each step asks and gives, so that the walk follows document 01's and the lines are drawn from
-- prepared words.
use mathlib.Core.Path.{◌≡◌, refl, ap, ap₂, sym, ◌∙◌}
use mathlib.Core.Bool.{◌&&◌}
use mathlib.Core.List.{List, [], ◌∷◌}
use Prim.Native.Nat.{ℕ, zero, suc, ◌≤◌, ◌<◌}
use native.Mathlib.Omega.{arith}
use native.Mathlib.Decide.{dec_lt}
use lib.Dec.{ltb}
use lib.IntN.{ℤ}
use lib.ListN.{length, get_or}
use lib.Seq.{get_or-take}
use Rattle.maxplus.specs.Entry.{num, ◌⊗◌, inv, leq_E}
use Rattle.maxplus.specs.Finite.{In}
use Rattle.maxplus.proofs.FiniteLaws.{in_at}
use Rattle.maxplus.proofs.EachLaws.{map_at}
use Rattle.maxplus.proofs.EntryLaws.{inv_num, absent_not}
use Rattle.cue.proofs.Walk.{in_floor_panels, floor_panels_few}
use Rattle.cue.specs.Cue.{Cue, overdue, shortfall}
use Rattle.cue.specs.Method.{through, pull, least, ask, kept, kept_byte, floor_panels, serves_as_well}
use Rattle.words.specs.Words.{entry, far, Close, Near}
use Rattle.sheet.specs.Sheet.{limit}
use Rattle.sheet.specs.Sizes.{star_size, through_size, mark_down, least_up}
use Rattle.tables.specs.Held.{meant, meant_v, HoldsV, Closely, CloselyV}
use Rattle.thresholds.specs.Thresholds.{kept_of, KeptBytes, floored}
use Rattle.preparing.proofs.Results.{floors_close, dues_close, star_close, through_close, pulls_held, pulls_close}
use Rattle.preparing.proofs.Results.{least_held, least_close, kept_held, floored_is, level_floored, kept_bit, kept_small}
use Rattle.words.proofs.Laws.{word_order, close_more, close_minus, entry_zero}
use Rattle.trigger_sets.specs.Sets.{bit}
use Rattle.walk.specs.Follows.{Follows}
use Rattle.preparing.specs.Levels.{PackedAs, LevelsNear, LevelTables}
use Rattle.preparing.specs.declared.CueWords.{CueWords}
use Rattle.preparing.specs.Prepared.{Fit, MarkedAs}
use Rattle.preparing.specs.declared.Packed.{Packed}
use Rattle.cue.specs.Sizes.{size_limit}

positive : (v : ℕ) {z : ℤ} → entry v ≡ num z → 0 < v
positive zero e = absurd (absent_not (sym entry_zero ∙ e))
positive (suc v) e = omega arith

not_empty : (l : List ℕ) (i : ℕ) → In i l → 0 < length l
not_empty [] i h = absurd h
not_empty (k ∷ l) i h = omega arith

module _ {P : Cue} {c : CueWords} {orders lags stars throughs : List (List ℕ)} (F : Fit P c orders lags stars throughs) where
  abbrev n : ℕ
  n = c.triggers

  abbrev D : ℤ
  D = least n P

  abbrev panels : List ℕ
  panels = floor_panels n P

  pub six_panels : c.panels ≤ size_limit
  six_panels = rw F.held.panels_are F.held.few_panels

  pub floors_near : CloselyV c.panels limit c.floor
  floors_near = rw F.held.panels_are (floors_close F.held)

  -- ---- the pulls
  pub pulls_ask : (c.triggers ≤ size_limit) × Closely c.triggers c.triggers star_size stars × CloselyV c.triggers limit c.due
  pulls_ask = (F.held.few, star_close F.held F.starred, dues_close F.held)

  module _ {u : List ℕ} (hu : HoldsV c.triggers (λ j. overdue c.triggers (meant_v c.due) (λ i. meant stars i j)) u) where
    pulled : HoldsV n (λ j. num (pull n P j)) u
    pulled = pulls_held F.held F.starred hu

    pub pulls_near : CloselyV c.triggers mark_down u
    pulls_near = pulls_close F.held pulled

    -- ---- Δ
    pub least_ask : (c.panels ≤ size_limit) × (c.triggers ≤ size_limit) × Closely c.panels c.triggers through_size throughs ×
        CloselyV c.triggers mark_down u × CloselyV c.panels limit c.floor
    least_ask = (six_panels, F.held.few, rw F.held.panels_are (through_close F.held F.reached), pulls_near, floors_near)

    module _ (e : ℕ) (he : entry e ≡ shortfall c.panels c.triggers (meant throughs) (meant_v c.floor) (λ j. inv (meant_v u j))) where
      pub deviation_is : entry e ≡ num (least c.triggers P)
      deviation_is = least_held F.held F.reached pulled F.order e (rw F.held.panels_are at he)

      pub least_near : Close least_up e
      least_near = least_close F.held F.reached pulled F.order e deviation_is

      pub asks_ask : (c.panels ≤ size_limit) × CloselyV c.panels far c.floor × Near e
      asks_ask = (six_panels, record { at = λ i h. close_more (omega arith) (floors_near.at i h) }, close_more (omega arith) least_near)

      -- ---- the kept triggers, packed by levels
      module _ {b : List ℕ}
          (hb : KeptBytes c.panels c.triggers (λ i. kept_of (entry e) (meant throughs) (meant_v u) (meant_v c.floor i) i) b)
          {k : Packed} (hk : PackedAs b (floored c.panels (meant_v c.floor)) k) where
        bytes_of : KeptBytes P.panels n (λ i. kept_of (entry e) (meant throughs) (meant_v u) (meant_v c.floor i) i) b
        bytes_of = rw F.held.panels_are at hb

        bytes : (i : ℕ) → i < P.panels → get_or b i 0 ≡ kept_byte n P D i
        bytes = kept_held F.held F.reached pulled D e deviation_is b bytes_of

        floored_are : floored c.panels (meant_v c.floor) ≡ panels
        floored_are = rw F.held.panels_are (floored_is F.held)

        many : k.panels ≡ length panels
        many = hk.many ∙ ap length floored_are

        pub levels_few : k.panels ≤ size_limit
        levels_few = rw many (let a = floor_panels_few n P in let b = F.held.few_panels in omega arith)

        some : 0 < k.panels
        some = let (i, hi, p) = F.held.readable.floored in rw many (not_empty panels i (in_floor_panels n P i hi p))

        panel_at : (l : ℕ) → l < k.panels → get_or k.at l 0 ≡ get_or panels l 0
        panel_at l h = sym (get_or-take k.panels k.at l 0 h) ∙ ap (λ a. get_or a l 0) (hk.panels_are ∙ floored_are)

        panel_there : (l : ℕ) → l < k.panels → get_or k.at l 0 < P.panels
        panel_there l h = rw (panel_at l h) (level_floored F.held _ (in_at 0 panels l (let q = many in omega arith))).0

        -- a level's byte is its panel's, and its mask the panel's kept triggers
        level_byte : (l : ℕ) → l < k.panels → get_or k.kept l 0 ≡ kept_byte n P D (get_or panels l 0)
        level_byte l h = sym (get_or-take k.panels k.kept l 0 h) ∙ ap (λ a. get_or a l 0) hk.bytes_are ∙
            map_at (λ i. get_or b i 0) (floored c.panels (meant_v c.floor)) l 0 0 (let q = hk.many in omega arith) ∙
            ap (λ i. get_or b i 0) (ap (λ a. get_or a l 0) floored_are) ∙ bytes _ (rw (← panel_at l h) (panel_there l h))

        small : (l : ℕ) → get_or k.kept l 0 < 64
        small l = elim (dec_lt l k.panels) [
          | yes h ↦ rw (level_byte l h) (kept_small n P D _ F.held.few)
          | no h ↦ let e = hk.past l (omega arith) in omega arith
        ]

        level_bits : (l j : ℕ) → l < k.panels → j < 6 → bit (get_or k.kept l 0) j ≡ (ltb j n && kept n P D (get_or panels l 0) j)
        level_bits l j h hj = ap (λ b. bit b j) (level_byte l h) ∙ kept_bit n P D _ j F.held.few hj

        -- ---- p(i) − Δ
        module _ {a : List ℕ} (ha : HoldsV c.panels (λ i. meant_v c.floor i ⊗ inv (entry e)) a) where
          asked : HoldsV P.panels (ask n P D) a
          asked = record {
            at = λ i h. ha.at i (rw F.held.panels_are h) ∙ ap₂ (λ p d. p ⊗ d) (F.held.floors_are.at i h) (ap inv deviation_is ∙ inv_num D);
          }

          asks_near : CloselyV P.panels far a
          unfolding meant_v
          asks_near = record {
            at = λ i h. close_more (omega arith)
                (close_minus (get_or c.floor i 0) e _ (ha.at i (rw F.held.panels_are h)) ((floors_close F.held).at i h) least_near);
          }

          pub levels_near : LevelsNear k.panels c.triggers throughs c.floor a k.at
          levels_near =
              record {
                panel = λ l h. let q = panel_there l h in let s = F.held.few_panels in omega arith;
                row_near = λ l h. record { at = λ j hj. close_more (omega arith) ((through_close F.held F.reached).at _ j (panel_there l h) hj) };
                floor_near = λ l h. close_more (omega arith) ((floors_close F.held).at _ (panel_there l h));
                ask_near = λ l h. asks_near.at _ (panel_there l h);
              }

          -- ---- what the walk compares, and what step 6's w is made of
          module _ {gains needs : List (List ℕ)}
              (C : LevelTables k.panels c.triggers (meant throughs) (meant_v c.floor) (meant_v a) k.at gains needs) where
            gain_is : (l j : ℕ) → l < k.panels → j < n → meant gains l j ≡ through n P (get_or panels l 0) j ⊗ inv (P.floor (get_or panels l 0))
            gain_is l j h hj = C.gained.at l j h hj ∙
                ap₂ (λ a p. a ⊗ inv p) (F.reached.at _ j (panel_there l h) hj) (F.held.floors_are.at _ (panel_there l h)) ∙
                ap (λ i. through n P i j ⊗ inv (P.floor i)) (panel_at l h)

            follows : Follows n P D k.panels k.kept gains panels
            unfolding serves_as_well meant
            follows =
                record {
                  floors = refl;
                  many = sym many;
                  few = F.held.few;
                  small = small;
                  bits = level_bits;
                  order = λ l k j h hk hj p q. word_order _ _ ∙ ap₂ leq_E (gain_is l j (omega arith) hj) (gain_is k j hk hj);
                }

            pub marked_as : MarkedAs c.triggers P lags stars gains needs
                (record {
                  least = e;
                  kept = b;
                  marks = record {
                    triggers = c.triggers;
                    panels = c.panels;
                    levels = k.panels;
                    pulls = u;
                    due = c.due;
                    asks = a;
                    kept = k.kept;
                  };
                })
            marked_as =
                record {
                  triggers_are = refl;
                  deviation = deviation_is;
                  word = (positive e deviation_is, close_more (omega arith) least_near);
                  size = bytes_of.size;
                  bytes = bytes;
                  past = bytes_of.past;
                  some_levels = some;
                  few_levels = levels_few;
                  masks_size = hk.size;
                  follows = follows;
                  prepared = record {
                    some = F.held.some;
                    few = F.held.few;
                    few_panels = F.held.few_panels;
                    triggers = refl;
                    panels = F.held.panels_are;
                    levels = many;
                    readable = F.held.readable;
                    limited = F.held.limited;
                    order = F.order;
                    starred = F.starred;
                    lagged = F.held.lags_are;
                    pulled = pulled;
                    due = F.held.dues_are;
                    asked = asked;
                    needed = λ l j h hj. C.needed.at l j h hj ∙
                        ap₂ (λ a d. a ⊗ inv d) (asked.at _ (panel_there l h)) (F.reached.at _ j (panel_there l h) hj) ∙
                        ap (λ i. ask n P D i ⊗ inv (through n P i j)) (panel_at l h);
                    masks = level_bits;
                  };
                }
