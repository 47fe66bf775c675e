-- Laws of the sentences, one for each number from 1 to 14; and of a program's two texts.
use Rattle.std.proofs.Common.{◌≡◌, ℕ, zero, suc, ◌≤◌, ◌<◌, Bool, true, false, List, [], ◌∷◌, map, Bor, refl, length, take, get_or, sym, ap, ◌∙◌, arith}
use lib.ListN.{get_or-eq_default}
use lib.ListN.{get_or-map}
use Rattle.std.proofs.lemmas.List.{get_or_default}
use Rattle.sheet.specs.Text.{bytes}
use Rattle.sheet.specs.Sheet.{any}
use Rattle.advice.specs.Advice.{sentences, advice}
use Rattle.writing.specs.Writing.{Writes}
use Rattle.writing.proofs.TextLaws.{counted}

-- ---- the sentences in the program, each behind a reference
pub now_at : (l : List (Bor (List ℕ))) (k : ℕ) (d : Bor (List ℕ)) → (get_or l k d).now ≡ get_or (map (λ b. b.now) l) k d.now
now_at l k d = sym (get_or-map (λ b. b.now) l k d)

pub spoken : (place k : ℕ) (d : List ℕ) → place ≡ k → place < 15 → get_or ([] ∷ sentences) place d ≡ advice k
unfolding advice sentences
spoken place k d p h = get_or_default ([] ∷ sentences) place d [] h ∙ ap (λ j. get_or ([] ∷ sentences) j []) p

pub unspoken : (place k : ℕ) → place ≡ k → 15 ≤ place → [] ≡ advice k
unfolding advice sentences
unspoken place k p h = sym (get_or-eq_default ([] ∷ sentences) [] {n = k} (omega arith))

-- the text T and the sentence S that a program writes, each with the count of its bytes
pub answered : {out errors t u T S : List ℕ} {r q : ℕ} → Writes out r t → t ≡ T → Writes errors q u → u ≡ S →
    ((r ≤ length out) × (r ≡ length (take r out))) ×
    ((take r out ≡ T) × (((q ≤ length errors) × (q ≡ length (take q errors))) × (take q errors ≡ S)))
answered w e v f = (counted _ _ w.within, (w.text ∙ e, (counted _ _ v.within, v.text ∙ f)))

-- ---- every number from 1 to 14 has a sentence
abbrev none : List ℕ → Bool
none [] = true
none (c ∷ s) = false

some_at : (l : List (List ℕ)) (k : ℕ) → any none l ≡ false → k < length l → 0 < length (get_or l k [])
unfolding any
some_at [] k h i = let x : ⊥ = omega arith in absurd x
some_at ([] ∷ l) k h i = absurd (let z : ◌≡◌ {A = ℕ} 0 1 = cc in let x : ⊥ = omega arith in x)
some_at ((b ∷ s) ∷ l) zero h i = omega arith
some_at ((b ∷ s) ∷ l) (suc k) h i = some_at l k h (omega arith)

pub advised : (k : ℕ) → 1 ≤ k → k ≤ 14 → 0 < length (advice k)
unfolding advice sentences any bytes
advised zero h l = let x : ⊥ = omega arith in absurd x
advised (suc k) h l = some_at sentences k refl (omega arith)
