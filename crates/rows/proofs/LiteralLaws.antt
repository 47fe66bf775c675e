-- A literal at a place of the bytes: it is there exactly where the bytes begin with its key.
use mathlib.Core.Path.{◌≡◌, refl, ap, ap₂, sym, ◌∙◌}
use mathlib.Core.List.{List, [], ◌∷◌, ◌++◌}
use mathlib.Core.Bool.{Bool, true, false}
use Prim.Native.Nat.{ℕ, ◌-◌, ◌≤◌}
use native.Mathlib.Decide.{ℕ_discrete}
use native.Mathlib.Omega.{arith}
use borrow.Author.Tests.{eq-eqb, ne_eqb}
use lib.ListN.{length, take, drop, length-drop, length-append}
use Rattle.std.specs.Prelude.{◌==◌}
use Rattle.sheet.proofs.LineLaws.{true_not_false}
use Rattle.std.specs.Cmp.Lexicographic.{pointwise}
use Rattle.std.proofs.lemmas.Bool.Decides.{Decides-eqb}
use Rattle.std.proofs.lemmas.List.{take_all, drop-drop}
use Rattle.std.proofs.lemmas.Slice.Eq.{starts_is}
use Rattle.sheet.specs.Sheet.{got, refused, literal}
use Rattle.rows.specs.Inner.{LiteralAt}

literal_own : (key y : List ℕ) → literal key (key ++ y) ≡ got tt y
unfolding literal
literal_own [] y = refl
literal_own (b ∷ key) y = rw (eq-eqb b b refl) (literal_own key y)

literal_other : (key x : List ℕ) → ((y : List ℕ) → x ≡ key ++ y → ⊥) → literal key x ≡ refused 2
unfolding literal
literal_other [] x n = absurd (n x refl)
literal_other (b ∷ key) [] n = refl
literal_other (b ∷ key) (c ∷ x) n = go (ℕ_discrete c b) (λ e. literal_other key x (λ y p. n y (ap₂ ◌∷◌ e p)))
  where
    go : Dec (c ≡ b) → (c ≡ b → literal key x ≡ refused 2) → literal (b ∷ key) (c ∷ x) ≡ refused 2
    go (yes e) r = rw (eq-eqb c b e) (r e)
    go (no d) r = rw (ne_eqb c b d)

-- what the bytes from a place on begin with, as a slice of them
pub literal_begins : (s : List ℕ) (at : ℕ) (key : List ℕ) (r : Bool) → at ≤ length s →
    r ≡ pointwise (λ x y. x == y) key (take (length key) (take (length s - at) (drop at s))) → LiteralAt s at key r
literal_begins s at key r h e = go r (starts_is Decides-eqb (drop at s) key r (rw all at e))
  where
    all : take (length s - at) (drop at s) ≡ drop at s
    all = take_all (length s - at) (drop at s) (let l = length-drop at s in omega arith)

    go : (r : Bool) → (r ≡ true → drop at s ≡ key ++ drop (length key) (drop at s)) × ((rest : List ℕ) → drop at s ≡ key ++ rest → r ≡ true) →
        LiteralAt s at key r
    go true (p, q) =
        let e = p refl in
        let l = ap length e in
        let m = length-append key (drop (length key) (drop at s)) in
        let n = length-drop at s in
        (ap (literal key) e ∙ literal_own key (drop (length key) (drop at s)) ∙ ap (got tt) (drop-drop (length key) at s), omega arith)
    go false (p, q) = literal_other key (drop at s) (λ y e. absurd (true_not_false (sym (q y e))))
