-- The shift of a ray: its greatest component is taken from each.
use mathlib.Core.Path.{◌≡◌, ap, ◌∙◌}
use Prim.Native.Nat.{ℕ}
use Rattle.maxplus.specs.Entry.{◌⊗◌, inv}
use Rattle.maxplus.specs.Tables.{sup, Vec, normal}
use Rattle.maxplus.proofs.EntryLaws.{⊗_comm}
use Rattle.words.specs.Words.{entry}
use Rattle.words.specs.declared.LineWords.{LineWords}
use Rattle.tables.specs.Lines.{Carries}

pub shifted_normal : {n d : ℕ} {r : LineWords} (x : Vec) (top : ℕ) → entry top ≡ sup n x → Carries n d (λ j. x j ⊗ inv (entry top)) r →
    Carries n d (normal n x) r
unfolding normal
shifted_normal {n} x top e w = record {
  count = w.count;
  words = record {
    sized = w.words.sized;
    is = record { at = λ j i. w.words.is.at j i ∙ ap (λ b. x j ⊗ inv b) e ∙ ⊗_comm (x j) (inv (sup n x)) };
    close = w.words.close;
  };
}
