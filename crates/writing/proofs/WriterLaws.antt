-- Laws of a writer: nothing put, one text put behind another, a field; and what stands in the bytes then.
use Rattle.std.proofs.Common.{◌≡◌, ℕ, ◌+◌, ◌≤◌, List, [], ◌++◌, length, refl, subst, ◌∙◌, arith}
use lib.ListN.{length-append}
use mathlib.Core.Path.{ap}
use Rattle.sheet.specs.Text.{bytes}
use Rattle.writing.specs.Texts.{field}
use Rattle.writing.specs.Writing.{Puts, Put, Writes}
use Rattle.writing.specs.declared.Writer.{Writer}
use Rattle.writing.proofs.PutLaws as lists

pub put_nothing : (w : Writer) → w.at ≤ length w.out.now → Put w w []
put_nothing w h = record { same = refl; puts = lists.put_nothing w.out.now w.at h }

module _ {a b : Writer} where
  pub then : {c : Writer} {t u : List ℕ} → Put a b t → Put b c u → Put a c (t ++ u)
  then p q = record { same = q.same ∙ p.same; puts = lists.then p.puts q.puts }

  pub put_as : {t u : List ℕ} → t ≡ u → Put a b t → Put a b u
  put_as e p = subst (Put a b) e p

  pub put_short : {k : ℕ} {t : List ℕ} → length t ≤ k → Put a b t → Put a b t × (b.at ≤ a.at + k)
  put_short h p = (p, (lists.put_short h p.puts).1)

-- a text put at the front is all that is written
pub written : {a b : Writer} {t : List ℕ} → a.at ≡ 0 → Put a b t → Writes b.out.now b.at t
written {a} {b} {t} e p = lists.written (subst (λ n. Puts a.out.now b.out.now n b.at t) e p.puts)

-- ---- a field of at most 20 bytes behind its key
pub field_length : (key v : List ℕ) → length (field key v) ≡ length key + length v + 1
unfolding bytes
field_length key v = length-append (key ++ v) (bytes "\n") ∙ ap (λ k. k + 1) (length-append key v)

pub put_field : {a b c d : Writer} {key v : List ℕ} → Put a b key → Put b c v → Put c d (bytes "\n") → c.at ≤ b.at + 20 →
    Put a d (field key v) × (d.at ≤ a.at + length key + 21)
unfolding bytes
put_field p q e h = (then (then p q) e, omega (arith, p.puts.end, e.puts.end))
