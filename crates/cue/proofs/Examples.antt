-- Four small sheets, computed from the definitions: what they give is what a changed definition would not.
use mathlib.Core.Path.{◌≡◌, refl}
use mathlib.Core.List.{List, [], ◌∷◌}
use Prim.Native.Nat.{ℕ, zero, suc}
use native.Mathlib.Decide.{dec_le}
use lib.IntN.{ℤ, pos, negsuc}
use lib.ListN.{length}
use Rattle.maxplus.specs.Whole.{◌+z◌, neg, maxz}
use Rattle.maxplus.specs.Entry.{E, absent, num, ◌⊗◌, ◌⊕◌, inv, unit, val}
use Rattle.maxplus.specs.Finite.{each, map_l, sum, byte_of}
use Rattle.maxplus.specs.Tables.{sup, sup_l, Vec, Mat, mv, mm, idm, power, star, normal}
use Rattle.maxplus.specs.Line.{Line, at, line}
use Rattle.maxplus.specs.Sorted.{put, sift}
use Rattle.maxplus.proofs.WholeLaws.{z_dec}
use Rattle.maxplus.proofs.EntryLaws.{≼_dec, present_dec}
use Rattle.maxplus.proofs.FiniteLaws.{all_or, all_dec, any_dec, dec_×, dec_¬, dec_→}
use Rattle.maxplus.proofs.LineLaws.{lt_E_cmp, lt_l_cmp, strict, same?}
use Rattle.maxplus.proofs.CombinationLaws.{under_dec, met?, asked?, combination?}
use Rattle.cue.specs.Minimal.{others, needed?, minimal}
use Rattle.cue.specs.Cue.{Cue, overdue, shortfall}
use Rattle.cue.specs.Method.{through, pull_E, pull, least_E, least, floor_panels, serves_as_well, cut, walk, fixings, kept, kept_byte}
use Rattle.cue.specs.Method.{Selection, selections, steps, need, seed, ray, candidate, candidates, lines}
use Rattle.cue.specs.Latest.{made, fit, latest}

-- row 1, 2, … of entries; what is not written is absent
abbrev row : List E → Vec
row [] i = absent
row (a ∷ l) zero = a
row (a ∷ l) (suc i) = row l i

abbrev table : List (List E) → Mat
table [] i = λ j. absent
table (r ∷ t) zero = row r
table (r ∷ t) (suc i) = table t i

-- lags, floors and after rules; every due mark is 0
abbrev sheet : List (List E) → List E → List (List E) → Cue
sheet a p b = record { panels = length a; lag = table a; floor = row p; due = λ j. pos 0; order = table b }

-- Δ, each panel's kept triggers, steps, the number of selections, the lines
abbrev Shown : ℕ → Type 0
Shown n = ℤ × List ℕ × ℕ × ℕ × List (Line n)

abbrev shown : (n : ℕ) → Cue → Shown n
shown n P = (
  least n P,
  each P.panels (λ i. kept_byte n P (least n P) i ∷ []),
  steps n P (least n P),
  length (selections n P (least n P)),
  lines n P,
)

abbrev zero_lag : E
zero_lag = num (pos 0)

-- two times, and the latest that a wish leaves in reach
abbrev pair : ℤ → ℤ → ℕ → ℤ
pair a b zero = a
pair a b (suc j) = b

abbrev reached : Cue → (ℕ → ℤ) → ℤ × ℤ
reached P G = let X = latest 2 P G in (X 0, X 1)

-- step 6's w of the panels fixed
abbrev bounds : Cue → Selection → E × E
bounds P s = (need 2 P (least 2 P) s 0, need 2 P (least 2 P) s 1)

-- two panels that ask the same of two equal triggers: a trigger that serves the second as well as the first is taken for both
abbrev alike : Cue
alike = sheet ((zero_lag ∷ zero_lag ∷ []) ∷ (zero_lag ∷ zero_lag ∷ []) ∷ []) (zero_lag ∷ zero_lag ∷ []) []

-- panel 2 has no floor
abbrev one_floor : Cue
one_floor = sheet ((zero_lag ∷ absent ∷ []) ∷ (absent ∷ zero_lag ∷ []) ∷ []) (zero_lag ∷ absent ∷ []) []

-- trigger 1 comes 1 after trigger 2, and only trigger 2 reaches the panel: the rays of both triggers are one line
abbrev followed : Cue
followed = sheet ((absent ∷ zero_lag ∷ []) ∷ []) (zero_lag ∷ []) ((absent ∷ num (pos 1) ∷ []) ∷ [])

-- document 01's whole case, with its due marks; README has the two wishes
abbrev whole : Cue
whole = record {
  panels = 2;
  lag = table ((num (pos 2) ∷ num (pos 0) ∷ []) ∷ (num (pos 4) ∷ num (pos 1) ∷ []) ∷ []);
  floor = row (num (pos 5) ∷ num (pos 2) ∷ []);
  due = pair (pos 1) (pos 2);
  order = table [];
}

computed : (shown 2 alike ≡ (pos 0, 3 ∷ 3 ∷ [], 4, 2, (absent, (unit, tt)) ∷ (unit, (absent, tt)) ∷ [])) ×
    (shown 2 one_floor ≡ (pos 0, 1 ∷ 0 ∷ [], 1, 1, (unit, (absent, tt)) ∷ (unit, (unit, tt)) ∷ [])) ×
    (shown 2 followed ≡ (pos 1, 2 ∷ [], 1, 1, (unit, (num (negsuc 0), tt)) ∷ [])) ×
    (reached whole (pair (pos 0) (pos 2)) ≡ (pos 0, pos 1)) ×
    (reached whole (pair (pos 1) (pos 2)) ≡ (pos 1, pos 2)) ×
    (bounds whole [] ≡ (absent, absent)) ×
    (bounds whole ((0, 0) ∷ []) ≡ (num (pos 1), absent)) ×
    (bounds whole ((0, 0) ∷ (1, 0) ∷ []) ≡ (num (pos 1), absent)) ×
    (bounds whole ((0, 1) ∷ (1, 0) ∷ []) ≡ (num (negsuc 3), num (pos 3)))
unfolding least least_E shortfall through pull pull_E overdue kept kept_byte byte_of floor_panels serves_as_well cut walk fixings selections steps need seed ray
    candidate candidates lines minimal needed? others combination? asked? met? under_dec normal star power idm mm mv sup sup_l each map_l sum
    at line put sift strict same? lt_E_cmp lt_l_cmp ≼_dec z_dec present_dec all_or all_dec any_dec dec_× dec_→ dec_¬ dec_le ◌⊗◌ ◌⊕◌ inv val
    maxz ◌+z◌ neg made fit latest
computed = (refl, refl, refl, refl, refl, refl, refl, refl, refl)
