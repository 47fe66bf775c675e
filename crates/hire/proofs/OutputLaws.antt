-- What is known of the outcome: a sheet, or 12, or 13. So the text of the answer in a program is the text of the outcome, and every refusal gets a
-- sentence; with good sizes the program writes the sheet.
use Rattle.std.proofs.Common.{◌≡◌, ℕ, ◌%◌, ◌^◌, ◌<◌, ◌≤◌, min, Bool, true, false, cond, ◌&&◌, leb, List, [], Some, length, drop, sym, refl, ap, ◌∙◌, subst, ap₂, arith, length-append, take_at, le-leb}
use native.Mathlib.Decide.{dec_le}
use borrow.Author.Tests.{lt-leb}
use Rattle.cue.specs.Sizes.{size_limit}
use Rattle.sheet.specs.Sheet.{got}
use Rattle.sheet_text.specs.SheetText.{sheet_text}
use Rattle.argument.specs.Whole.{word_limit}
use Rattle.writing.specs.Texts.{refusal_text}
use Rattle.writing.specs.Writing.{Writes}
use Rattle.advice.specs.Advice.{advice}
use Rattle.advice.proofs.AdviceLaws.{advised}
use Rattle.hiring.specs.Hiring.{drawn, sheet_from, draws, chained, HireOutcome, hired, refused, size?, hiring, bytes_after, hire_answer}
use Rattle.hiring.specs.declared.Hired.{Hired}
use Rattle.std.specs.Prelude.{Result, Ok, Err}
use Rattle.refusals.specs.Numbers.{number}
use Rattle.refusals.specs.declared.Refusal.{Refusal}
use Rattle.refusals.proofs.NumberLaws as numbers
use Rattle.refusals.proofs.NumberLaws.{number_of}
use Rattle.refusals.proofs.ResultLaws.{ok_not_err, same_ok, same_err}
use Rattle.hiring.proofs.HireLaws.{size_there, no_panels, no_triggers, refused_known}
use Rattle.hiring.proofs.Loads.{room_enough}
use Rattle.hire.specs.Call.{Wanted}
use Rattle.hire.specs.Output.{hire_text, hire_complaint, program_hire}
use Rattle.hire.specs.Inner.{call, held}
use Rattle.hire.specs.declared.asking.Call.{Call}
use Rattle.hire.proofs.CallLaws.{some_same}

-- ---- the outcome
abbrev Known : HireOutcome → Type 0
Known (hired t x) = Unit {0}
Known (refused k) = (12 ≤ k) × (k ≤ 13)

hiring_known : (m n s room : ℕ) → Known (hiring m n s room)
unfolding hiring
hiring_known m n s room = go (size? m && size? n) (leb (length (sheet_text (sheet_from m n s))) room)
  where
    go : (a b : Bool) → Known (cond a (cond b (hired (sheet_text (sheet_from m n s)) (drawn s (draws m n))) (refused 13)) (refused 12))
    go true true = tt
    go true false = (omega arith, omega arith)
    go false b = (omega arith, omega arith)

pub program_known : (w : Wanted) → Known (program_hire w)
program_known w = hiring_known w.panels w.triggers _ 2048

-- whatever is not a sheet gets a sentence
pub explained : (w : Wanted) (k : ℕ) → program_hire w ≡ refused k → 0 < length (hire_complaint (program_hire w))
explained w k e = go (program_hire w) (program_known w) e
  where
    go : (o : HireOutcome) → Known o → o ≡ refused k → 0 < length (hire_complaint o)
    go (hired t x) h e = absurd (let z : ◌≡◌ {A = ℕ} 0 1 = cc in let y : ⊥ = omega arith in y)
    go (refused j) h e = advised j (let a = h.0 in omega arith) (let a = h.1 in omega arith)

-- ---- the answer's texts are the outcome's
sheet_out : (h : Hired) (lent after : List ℕ) (o : HireOutcome) → Ok h ≡ hire_answer o → after ≡ bytes_after o lent →
    Writes after h.length (hire_text o) × (hire_complaint o ≡ [])
sheet_out h lent after (hired t x) e q = rw (q, same_ok h _ e) (
  record { within = omega (arith, length-append t (drop (length t) lent)); text = take_at t (drop (length t) lent) (length t) refl },
  refl,
)
sheet_out h lent after (refused k) e q = ok_not_err h _ e

refused_is : (r : Refusal) (o : HireOutcome) → ((k : ℕ) → o ≡ refused k → numbers.Known k) → Err r ≡ hire_answer o → o ≡ refused (number r)
refused_is r (hired t x) f e = ok_not_err _ r (sym e)
refused_is r (refused k) f e = ap refused (sym (ap number (same_err r _ e) ∙ number_of k (f k refl)))

module _ (w : Wanted) {a : Result Hired Refusal} (e : a ≡ hire_answer (program_hire w)) where
  pub good_texts : (lent : List ℕ) {after errors : List ℕ} (h : Hired) → a ≡ Ok h → after ≡ bytes_after (program_hire w) lent →
      Writes after h.length (hire_text (program_hire w)) × Writes errors 0 (hire_complaint (program_hire w))
  good_texts lent {after} {errors} h is q =
      let (t, n) = sheet_out h lent after (program_hire w) (sym is ∙ e) q in
      (t, rw n (record { within = omega arith; text = refl }))

  pub refused_texts : {out errors : List ℕ} {n m : ℕ} (r : Refusal) → a ≡ Err r → Writes out n (refusal_text (number r)) →
      Writes errors m (advice (number r)) → Writes out n (hire_text (program_hire w)) × Writes errors m (hire_complaint (program_hire w))
  refused_texts r is t u =
      let o = refused_is r (program_hire w) (refused_known w.panels w.triggers _ 2048) (sym is ∙ e) in
      (rw o t, rw o u)

-- ---- the call as the program holds it: a size of 2^32 is none, as the size is none that stands behind it
held_small : (m : ℕ) → size? m ≡ true → min m word_limit ≡ m
held_small m e = let h = (size_there m e).1 in omega arith

held_size : (m : ℕ) → size? (min m word_limit) ≡ size? m
held_size m = go (dec_le m size_limit)
  where
    go : Dec (m ≤ size_limit) → size? (min m word_limit) ≡ size? m
    go (yes h) = ap size? (let e : min m word_limit ≡ m = omega arith in e)
    go (no h) = none (min m word_limit) (omega arith) ∙ sym (none m (omega arith))
      where
        none : (k : ℕ) → size_limit < k → size? k ≡ false
        none k q = rw (le-leb 1 k (omega arith), lt-leb k size_limit q)

program_hired : (w : Wanted) (x : ℕ) → ((k : ℕ) → w.before % word_limit ≡ k % 2 ^ 32 → min w.panels word_limit ≤ size_limit →
    min w.triggers word_limit ≤ size_limit → x ≡ chained (min w.panels word_limit) (min w.triggers word_limit) w.state k) →
    hiring (min w.panels word_limit) (min w.triggers word_limit) x 2048 ≡ program_hire w
program_hired w x later = go (size? w.panels) refl (size? w.triggers) refl
  where
    a : ℕ
    a = min w.panels word_limit

    b : ℕ
    b = min w.triggers word_limit

    go : (p : Bool) → size? w.panels ≡ p → (q : Bool) → size? w.triggers ≡ q → hiring a b x 2048 ≡ program_hire w
    go true e true f =
        let m = held_small w.panels e in
        let n = held_small w.triggers f in
        let hm = (size_there w.panels e).1 in
        let hn = (size_there w.triggers f).1 in
        ap (λ x. hiring a b x 2048) (later w.before refl (omega arith) (omega arith)) ∙
        ap₂ (λ a b. hiring a b (chained a b w.state w.before) 2048) m n
    go true e false f = no_triggers a b x 2048 (held_size w.panels ∙ e) (held_size w.triggers ∙ f) ∙
        sym (no_triggers w.panels w.triggers _ 2048 e f)
    go false e q f = no_panels a b x 2048 (held_size w.panels ∙ e) ∙ sym (no_panels w.panels w.triggers _ 2048 e)

-- the outcome for a call as it is held, where x is the state from which its sheet starts
abbrev Starts : Call → ℕ → Type 0
Starts a x = (k : ℕ) → a.before ≡ k % 2 ^ 32 → a.panels ≤ size_limit → a.triggers ≤ size_limit →
    x ≡ chained a.panels a.triggers a.state k

pub called : (w : Wanted) (x room : ℕ) (a : Call) → Some a ≡ held (got w []) → room ≡ 2048 → Starts a x →
    hiring a.panels a.triggers x room ≡ program_hire w
called w x room a e r later =
    subst (λ (a : Call). Starts a x → hiring a.panels a.triggers x room ≡ program_hire w) (sym (some_same a (call w) e))
    (λ later. ap (hiring (min w.panels word_limit) (min w.triggers word_limit) x) r ∙ program_hired w x later) later

-- ---- "a generator writes one sheet": with sizes 1 to 6 the program's space is enough
pub sheet_written : (w : Wanted) → size? w.panels ≡ true → size? w.triggers ≡ true →
    hire_text (program_hire w) ≡ sheet_text (sheet_from w.panels w.triggers (chained w.panels w.triggers w.state w.before))
sheet_written w p q = ap hire_text (room_enough w.panels w.triggers _ 2048 p q (omega arith))
