-- What is known of a kept table's outcome: a refusal is one of `refusals`, a table has at most six panels. So the text of the answer in a
-- program is the text of the outcome.
use mathlib.Core.Path.{◌≡◌, refl, ap, sym, ◌∙◌}
use mathlib.Core.List.{List, [], ◌∷◌}
use Prim.Native.Nat.{ℕ, ◌≤◌, ◌<◌}
use native.Mathlib.Omega.{arith}
use lib.ListN.{length, get_or}
use lib.IntN.{ℤ}
use lib.Seq.{ext_get_or}
use mir.Facts.{to_z-of_z}
use mir.Syntax.{w64}
use mir.Val.{SFits, to_z, of_z}
use Rattle.maxplus.specs.Finite.{each}
use Rattle.maxplus.proofs.EachLaws.{length_each, each_at}
use Rattle.sheet.specs.Sheet.{Got, got, Sheet}
use Rattle.sheet.specs.Sheet as sheet
use Rattle.std.specs.Prelude.{Result, Ok, Err}
use Rattle.refusals.specs.Numbers.{number}
use Rattle.refusals.specs.declared.Refusal.{Refusal}
use Rattle.refusals.proofs.NumberLaws.{Known, number_of, known_within}
use Rattle.refusals.proofs.ResultLaws.{ok_not_err, same_ok, same_err}
use Rattle.keeping.proofs.KeptLaws.{refused_known}
use Rattle.reading.proofs.Refusals.{ordered_is}
use Rattle.sheet.proofs.Good.{read_good}
use Rattle.advice.specs.Advice.{advice}
use Rattle.writing.specs.Texts.{kept_text, refusal_text}
use Rattle.keeping.specs.Keeping.{KeptOutcome, kept, refused, kept_of, keeping, kept_answer}
use Rattle.cue.specs.Sizes.{six}
use Rattle.sheet.proofs.OrderedLaws.{ordered_read}
use Rattle.sheet.specs.Ordered.{ordered}
use Rattle.keeping.specs.declared.KeptTable.{KeptTable}
use Rattle.advice.proofs.AdviceLaws.{advised}
use Rattle.kept.specs.Output.{kept_output, kept_complaint}
use Rattle.cue.specs.Sizes.{size_limit}

abbrev pub Sound : KeptOutcome → Type 0
Sound (kept D panels k l) = length panels ≤ size_limit
Sound (refused k) = Known k

pub keeping_sound : (s : List ℕ) → Sound (keeping s)
unfolding keeping
keeping_sound s = go (ordered s) refl
  where
    go : (g : Got Sheet) → ordered s ≡ g → Sound (kept_of g)
    go (sheet.refused k) e = ordered_is s k e
    go (got t r) e = simp length_each (read_good s t r (ordered_read s t r e)).panels_few

-- the first six pairs, part by part, are the pairs again
module _ (P : List (ℕ × ℕ)) (few : length P ≤ size_limit) where
  again : ℕ → ℕ × ℕ
  again i = (get_or (six (λ i. (get_or P i (0, 0)).0)) i 0, get_or (six (λ i. (get_or P i (0, 0)).1)) i 0)

  again_at : (i : ℕ) → i < length P → again i ≡ get_or P i (0, 0)
  unfolding again
  again_at i h =
      let p = each_at 6 i (λ i. (get_or P i (0, 0)).0) 0 (omega arith) in
      let q = each_at 6 i (λ i. (get_or P i (0, 0)).1) 0 (omega arith) in
      rw (p, q)

  pub panels_again : each (length P) (λ i. (get_or (six (λ i. (get_or P i (0, 0)).0)) i 0, get_or (six (λ i. (get_or P i (0, 0)).1)) i 0) ∷ []) ≡ P
  unfolding again
  panels_again =
      ext_get_or (0, 0) (each (length P) (λ i. again i ∷ [])) P (length_each (length P) again)
      (λ i h. let k : i < length P = simp length_each at h in each_at (length P) i again (0, 0) k ∙ again_at i k)

-- ---- the answer's text is the outcome's
abbrev table_text : KeptTable → List ℕ
table_text t = kept_text t.deviation (each t.panels (λ i. (get_or t.kept i 0, get_or t.counts i 0) ∷ [])) t.steps t.selections

table_is : (o : KeptOutcome) → Sound o → (t : KeptTable) → Ok t ≡ kept_answer o →
    (t.panels ≤ size_limit) × (table_text t ≡ kept_output o) × (kept_complaint o ≡ [])
table_is (kept D P k l) few t e = rw (same_ok t _ e) (few, ap (λ p. kept_text D p k l) (panels_again P few), refl)
table_is (refused k) q t e = ok_not_err t _ e

refused_is : (o : KeptOutcome) → Sound o → (r : Refusal) → Err r ≡ kept_answer o → o ≡ refused (number r)
refused_is (kept D P k l) q r e = ok_not_err _ r (sym e)
refused_is (refused k) q r e = ap refused (sym (ap number (same_err r _ e) ∙ number_of k q))

module _ (s : List ℕ) {a : Result KeptTable Refusal} (e : a ≡ kept_answer (keeping s)) where
  module _ (t : KeptTable) (is : a ≡ Ok t) where
    pub few_out : t.panels ≤ size_limit
    few_out = (table_is (keeping s) (keeping_sound s) t (sym is ∙ e)).0

    pub table_out : table_text t ≡ kept_output (keeping s)
    table_out = (table_is (keeping s) (keeping_sound s) t (sym is ∙ e)).1

    pub quiet : [] ≡ kept_complaint (keeping s)
    quiet = sym (table_is (keeping s) (keeping_sound s) t (sym is ∙ e)).2

  module _ (r : Refusal) (is : a ≡ Err r) where
    pub refusal_out : refusal_text (number r) ≡ kept_output (keeping s)
    refusal_out = sym (ap kept_output (refused_is (keeping s) (keeping_sound s) r (sym is ∙ e)))

    pub complaint_out : advice (number r) ≡ kept_complaint (keeping s)
    complaint_out = sym (ap kept_complaint (refused_is (keeping s) (keeping_sound s) r (sym is ∙ e)))

-- the deviation as a signed word is the deviation
pub deviation_back : {D : ℤ} (P : List (ℕ × ℕ)) (k l : ℕ) → SFits w64 D → kept_text (to_z w64 (of_z w64 D)) P k l ≡ kept_text D P k l
deviation_back P k l f = ap (λ z. kept_text z P k l) (to_z-of_z f)

-- a refusal gets a sentence
pub explained : (s : List ℕ) (k : ℕ) → keeping s ≡ refused k → 0 < length (kept_complaint (keeping s))
explained s k e =
    let n = known_within k (refused_known s k e) in
    rw e (advised k n.0 n.1)
