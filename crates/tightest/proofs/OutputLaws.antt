-- What stands in the lent bytes after a text was put at their front; and that every refusal gets a sentence.
use mathlib.Core.Path.{◌≡◌, ap, sym, ◌∙◌}
use mathlib.Core.List.{List, ◌++◌}
use Prim.Native.Nat.{ℕ, ◌<◌}
use native.Mathlib.Omega.{arith}
use lib.ListN.{length, take, drop, length-append}
use lib.Seq.{take_at, take-length}
use Rattle.io.specs.Counts.{IsPrefixLen}
use Rattle.writing.specs.Writing.{Writes}
use Rattle.writing.proofs.TextLaws.{counted}
use Rattle.sheet.specs.Meaning.{Timing}
use Rattle.testing.specs.Testing.{refused, testing}
use Rattle.testing.proofs.TestLaws.{known_number}
use Rattle.advice.proofs.AdviceLaws.{advised}
use Rattle.tightest.specs.Output.{tested_complaint}

-- the text t, and r counts its bytes
abbrev pub Stands : List ℕ → ℕ → List ℕ → Type 0
Stands out r t = IsPrefixLen r out × (take r out ≡ t)

pub written : {out : List ℕ} {r : ℕ} {t : List ℕ} → Writes out r t → Stands out r t
written w = (counted _ _ w.within, w.text)

pub copied : (t before out : List ℕ) (r : ℕ) → r ≡ length t → out ≡ take (length t) t ++ drop (length t) before → Stands out r t
copied t before out r e f =
    let whole : out ≡ t ++ drop (length t) before = f ∙ ap (λ l. l ++ drop (length t) before) (take-length t) in
    let long = length-append t (drop (length t) before) in
    let same = ap length whole in
    written (record { within = omega arith; text = rw whole (take_at t (drop (length t) before) r (sym e)) })

-- a refusal gets a sentence
pub explained : (s : List ℕ) (count : ℕ) (X : Timing) (k : ℕ) → refused k ≡ testing s count X → 0 < length (tested_complaint (testing s count X))
explained s count X k e = let n = known_number s count X k e in rw (← e) (advised k n.0 (let m = n.1 in omega arith))
