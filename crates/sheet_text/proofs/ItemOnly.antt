-- The other way round: an item that was read stands in the bytes as it is written, and as nothing else.
use mathlib.Core.Path.{◌≡◌, refl, ap, ap₂, sym, ◌∙◌}
use mathlib.Core.List.{List, [], ◌∷◌, ◌++◌, append_assoc}
use mathlib.Core.Bool.{Bool, true, false, cond, ◌&&◌}
use Prim.Native.Nat.{ℕ, zero, suc, ◌+◌, ◌-◌, ◌*◌, ◌/◌, ◌%◌, ◌≤◌}
use native.Mathlib.Omega.{arith}
use borrow.Author.Tests.{leb-true, eqb-true}
use lib.Dec.{leb, eqb}
use lib.IntN.{pos}
use Rattle.maxplus.specs.Whole.{neg}
use Rattle.maxplus.specs.Entry.{E, absent, num}
use Rattle.sheet.specs.Text.{bytes}
use Rattle.sheet.specs.Sheet.{Got, got, refused, literal, digit, leading, value, behind, signed, ending, ended}
use Rattle.sheet.specs.Sheet as sheet
use Rattle.sheet.proofs.LineLaws.{not_got, bind_got}
use Rattle.writing.specs.Numerals.{digits, natural, item}
use Rattle.writing.proofs.NumeralLaws.{natural_small, natural_more}

-- ---- key bytes
met : {A : Type 0} (b : Bool) (k : ℕ) (g : Got A) {a : A} {s : List ℕ} → cond b g (refused k) ≡ got a s → (b ≡ true) × (g ≡ got a s)
met true k g e = (refl, e)
met false k g e = absurd (not_got e)

pub literal_only : (key s : List ℕ) {u : Unit {0}} {r : List ℕ} → literal key s ≡ got u r → s ≡ key ++ r
unfolding literal
literal_only [] s e = cc
literal_only (b ∷ key) [] e = absurd (not_got e)
literal_only (b ∷ key) (c ∷ s) {r = r} e =
    let (p, q) = met (eqb c b) 2 (literal key s) e in
    let same : c ≡ b = eqb-true c b p in
    let rest : s ≡ key ++ r = literal_only key s q in
    cc

-- ---- numerals
pub both : (a b : Bool) → a && b ≡ true → (a ≡ true) × (b ≡ true)
both true b e = (refl, e)
both false b e = (e, cc)

between : (a b : ℕ) → leb a b && leb b 57 ≡ true → (a ≤ b) × (b ≤ 57)
between a b e = let (p, q) = both (leb a b) (leb b 57) e in (leb-true a b p, leb-true b 57 q)

value_some : (v : ℕ) (s : List ℕ) → 1 ≤ v → 1 ≤ value v s
unfolding value
value_some v [] h = h
value_some v (b ∷ s) h = go (digit b) (value_some (v * 10 + (b - 48)) s (omega arith))
  where
    go : (t : Bool) → 1 ≤ value (v * 10 + (b - 48)) s → 1 ≤ cond t (value (v * 10 + (b - 48)) s) v
    go true i = i
    go false i = h

-- one more digit
natural_next : (v b : ℕ) → 1 ≤ v → digit b ≡ true → natural (v * 10 + (b - 48)) ≡ natural v ++ b ∷ []
natural_next v b h e =
    let t = between 48 b e in
    let tenth : (v * 10 + (b - 48)) / 10 ≡ v = omega arith in
    let last : 48 + (v * 10 + (b - 48)) % 10 ≡ b = omega arith in
    natural_more (v * 10 + (b - 48)) (omega arith) ∙ rw (tenth, last)

-- The digits of what is read on from v are those of v, and those that were read: each digit that is read makes v ten times as large and
-- adds the digit, which is what stands last when the number is written.
natural_on : (v : ℕ) (s : List ℕ) → 1 ≤ v → natural v ++ s ≡ natural (value v s) ++ behind s
unfolding value behind
natural_on v [] h = refl
natural_on v (b ∷ s) h = go (digit b) refl (natural_on (v * 10 + (b - 48)) s (omega arith))
  where
    go : (t : Bool) → digit b ≡ t →
        natural (v * 10 + (b - 48)) ++ s ≡ natural (value (v * 10 + (b - 48)) s) ++ behind s →
        natural v ++ b ∷ s ≡ natural (cond t (value (v * 10 + (b - 48)) s) v) ++ cond t (behind s) (b ∷ s)
    go true e ih = sym (append_assoc (natural v) (b ∷ []) s) ∙ ap (λ t. t ++ s) (sym (natural_next v b h e)) ∙ ih
    go false e ih = refl

numeral_only : (b : ℕ) (s : List ℕ) → leading b ≡ true → b ∷ s ≡ natural (value (b - 48) s) ++ behind s
numeral_only b s e =
    let t = between 49 b e in
    let one : natural (b - 48) ≡ b ∷ [] = natural_small (b - 48) (omega arith) ∙ ap (λ c. c ∷ []) (let q : 48 + (b - 48) ≡ b = omega arith in q) in
    ap (λ t. t ++ s) (sym one) ∙ natural_on (b - 48) s (omega arith)

-- ---- items
minus_text : (v : ℕ) → 1 ≤ v → item (num (neg (pos v))) ≡ bytes "-" ++ natural v
unfolding neg
minus_text zero h = let x : ⊥ = omega arith in absurd x
minus_text (suc v) h = refl

signed_only : (s : List ℕ) {e : E} {r : List ℕ} → signed s ≡ got e r → bytes "-" ++ s ≡ item e ++ r
unfolding signed
signed_only [] {e} {r} q =
    let a : absent ≡ e = cc in
    let b : [] ≡ r = cc in
    rw (← a, ← b)
signed_only (b ∷ s) {e} {r} q = go (leading b) refl q
  where
    go : (t : Bool) → leading b ≡ t → cond t (got (num (neg (pos (value (b - 48) s)))) (behind s)) (got absent (b ∷ s)) ≡ got e r →
        bytes "-" ++ (b ∷ s) ≡ item e ++ r
    go true p q =
        let a : num (neg (pos (value (b - 48) s))) ≡ e = cc in
        let c : behind s ≡ r = cc in
        let h = between 49 b p in
        rw (← a, ← c, minus_text (value (b - 48) s) (value_some (b - 48) s (omega arith)))
        (ap (λ t. bytes "-" ++ t) (numeral_only b s p) ∙ sym (append_assoc (bytes "-") (natural (value (b - 48) s)) (behind s)))
    go false p q =
        let a : absent ≡ e = cc in
        let c : b ∷ s ≡ r = cc in
        rw (← a, ← c)

item_only : (s : List ℕ) {e : E} {r : List ℕ} → sheet.item s ≡ got e r → s ≡ item e ++ r
unfolding sheet.item bytes digits
item_only [] q = absurd (not_got q)
item_only (b ∷ s) {e} {r} q = zero_or (eqb b 0x30) refl q
  where
    number_or : (t : Bool) → leading b ≡ t → cond t (got (num (pos (value (b - 48) s))) (behind s)) (refused 2) ≡ got e r → b ∷ s ≡ item e ++ r
    number_or true p q =
        let a : num (pos (value (b - 48) s)) ≡ e = cc in
        let c : behind s ≡ r = cc in
        rw (← a, ← c) (numeral_only b s p)
    number_or false p q = absurd (not_got q)

    minus_or : (t : Bool) → eqb b 0x2D ≡ t →
        cond t (signed s) (cond (leading b) (got (num (pos (value (b - 48) s))) (behind s)) (refused 2)) ≡ got e r → b ∷ s ≡ item e ++ r
    minus_or true p q = ap (λ c. c ∷ s) (eqb-true b 0x2D p) ∙ signed_only s q
    minus_or false p q = number_or (leading b) refl q

    zero_or : (t : Bool) → eqb b 0x30 ≡ t →
        cond t (got (num (pos 0)) s)
        (cond (eqb b 0x2D) (signed s) (cond (leading b) (got (num (pos (value (b - 48) s))) (behind s)) (refused 2))) ≡ got e r →
        b ∷ s ≡ item e ++ r
    zero_or true p q =
        let a : num (pos 0) ≡ e = cc in
        let c : s ≡ r = cc in
        rw (← a, ← c) (ap (λ c. c ∷ s) (eqb-true b 0x30 p))
    zero_or false p q = minus_or (eqb b 0x2D) refl q

pub ended_only : (k : ℕ) (s : List ℕ) {e : E} {r : List ℕ} → ended k s ≡ got e r → s ≡ item e ++ (ending k ++ r)
unfolding ended
ended_only k s {e} {r} q =
    let (f, x, p, q) = bind_got (sheet.item s) q in
    let (u, y, a, b) = bind_got (literal (ending k) x) q in
    let c : f ≡ e = cc in
    let d : y ≡ r = cc in
    item_only s p ∙ ap (λ t. item f ++ t) (literal_only (ending k) x a) ∙ ap₂ (λ f y. item f ++ (ending k ++ y)) c d
