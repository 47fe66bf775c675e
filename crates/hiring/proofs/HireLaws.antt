-- Laws of the generator: what its outcome is in each case, by the tests of the sizes and of the room; how its text comes to the front.
use Rattle.std.proofs.Common.{◌≡◌, ℕ, ◌<◌, ◌≤◌, true, false, leb, List, ◌++◌, length, take, drop, sym, ap, ◌∙◌, arith, le-leb, leb-true}
use borrow.Author.Tests.{lt-leb}
use Rattle.cue.specs.Sizes.{size_limit}
use Rattle.writing.specs.Writing.{Puts, Writes}
use Rattle.writing.proofs.PutLaws.{put_as, put_front}
use Rattle.writing.proofs.TextLaws.{counted}
use Rattle.sheet_text.specs.SheetText.{sheet_text}
use Rattle.sheet_text.proofs.ItemOnly.{both}
use Rattle.hiring.specs.Hiring.{drawn, sheet_from, draws, HireOutcome, hired, refused, size?, hiring, bytes_after, hire_answer}
use Rattle.std.specs.Prelude.{Result}
use Rattle.std.proofs.Common.{Bool, cond, ◌&&◌}
use Rattle.refusals.specs.declared.Refusal.TheVariants.{NoLoadSize, SpaceTooShort}
use Rattle.refusals.proofs.NumberLaws.{Known}
use Rattle.refusals.specs.declared.Refusal.{Refusal}
use Rattle.hiring.specs.declared.Hired.{Hired}

pub size_there : (k : ℕ) → size? k ≡ true → (1 ≤ k) × (k ≤ size_limit)
size_there k e = let (p, q) = both (leb 1 k) (leb k size_limit) e in (leb-true 1 k p, leb-true k size_limit q)

-- "It refuses sizes outside 1 to 6 as 12, then too little space as 13."
module _ (m n s room : ℕ) where
  pub no_panels : size? m ≡ false → hiring m n s room ≡ refused 12
  unfolding hiring
  no_panels e = rw e

  module _ (p : size? m ≡ true) where
    pub no_triggers : size? n ≡ false → hiring m n s room ≡ refused 12
    unfolding hiring
    no_triggers e = rw (p, e)

    module _ (q : size? n ≡ true) where
      pub no_room : room < length (sheet_text (sheet_from m n s)) → hiring m n s room ≡ refused 13
      unfolding hiring
      no_room h = rw (p, q, lt-leb (length (sheet_text (sheet_from m n s))) room h)

      pub room_there : length (sheet_text (sheet_from m n s)) ≤ room → hiring m n s room ≡ hired (sheet_text (sheet_from m n s)) (drawn s (draws m n))
      unfolding hiring
      room_there h = rw (p, q, le-leb (length (sheet_text (sheet_from m n s))) room h)

  -- what is returned and left is what the outcome says
  pub does : (lent : List ℕ) {o : HireOutcome} {r : Result Hired Refusal} {after : List ℕ} → hiring m n s room ≡ o → r ≡ hire_answer o →
      after ≡ bytes_after o lent → (r ≡ hire_answer (hiring m n s room)) × (after ≡ bytes_after (hiring m n s room) lent)
  does lent e p q = (p ∙ sym (ap hire_answer e), q ∙ sym (ap (λ o. bytes_after o lent) e))

-- what is refused is one of `refusals`
pub refused_known : (m n s room k : ℕ) → hiring m n s room ≡ refused k → Known k
unfolding hiring
refused_known m n s room k = go (size? m && size? n) (leb (length (sheet_text (sheet_from m n s))) room)
  where
    go : (b c : Bool) → cond b (cond c (hired (sheet_text (sheet_from m n s)) (drawn s (draws m n))) (refused 13)) (refused 12) ≡ refused k → Known k
    go true true e = let z : ◌≡◌ {A = ℕ} 0 1 = cc in let x : ⊥ = omega arith in absurd x
    go true false e = let h : k ≡ 13 = cc in (SpaceTooShort, h)
    go false c e = let h : k ≡ 12 = cc in (NoLoadSize, h)

-- ---- a text that was made apart, and is then put at the front
module _ {text t : List ℕ} {end : ℕ} where
  pub made_length : Writes text end t → end ≡ length t
  made_length made = (counted end text made.within).1 ∙ ap length made.text

  pub delivered : {lent out : List ℕ} {r : ℕ} → Puts lent out 0 r (take end text) → Writes text end t → out ≡ t ++ drop (length t) lent
  delivered put made = put_front (put_as made.text put)
