-- What is known of the outcome: a timing has at most six components; 9 has a count; any other refusal is one of `refusals`. So the text of the
-- answer in a program is the text of the outcome, and every refusal gets a sentence.
use mathlib.Core.Path.{◌≡◌, refl, ap, sym, ◌∙◌}
use mathlib.Core.Bool.{Bool, true, false, cond}
use mathlib.Core.List.{List, [], ◌∷◌}
use mathlib.Core.Option.{Option, none, some}
use Prim.Native.Nat.{ℕ, ◌/◌, ◌≤◌, ◌<◌}
use native.Mathlib.Omega.{arith}
use native.Mathlib.Decide.{dec_lt}
use Rattle.std.specs.Prelude.{Result, Ok, Err}
use Rattle.refusals.specs.Numbers.{number}
use Rattle.refusals.proofs.NumberLaws.{Known, number_of, known_within}
use Rattle.refusals.proofs.ResultLaws.{ok_not_err, same_ok, same_err}
use Rattle.planning.specs.Planning.{unplanned_number}
use Rattle.planning.specs.declared.Unplanned.{Unplanned}
use Rattle.planning.specs.declared.Unplanned.TheVariants.{Refused, NoRoom}
use borrow.Author.Tests.{leb-true, leb-false}
use lib.Dec.{leb}
use lib.IntN.{ℤ}
use lib.ListN.{length}
use Rattle.maxplus.specs.Line.{Line}
use Rattle.maxplus.proofs.EachLaws.{each_same}
use Rattle.cue.specs.Sizes.{size_limit}
use Rattle.cue.specs.Written.{width}
use Rattle.sheet.specs.Text.{bytes}
use Rattle.sheet.specs.Sheet.{Got, got, Sheet}
use Rattle.sheet.specs.Sheet as sheet
use Rattle.sheet.specs.Cue.{sheet_caps, sheet_lines}
use Rattle.sheet.specs.Meaning.{Timing}
use Rattle.sheet.specs.Admitted.{admitted}
use Rattle.sheet.proofs.Good.{read_good}
use Rattle.sheet.proofs.AdmittedLaws.{admitted_as}
use Rattle.sheet.proofs.Latest.{latest_exists}
use Rattle.admitting.proofs.Known.{admitted_is}
use Rattle.timing.specs.Times.{component, timing_of}
use Rattle.timing.proofs.NumberLaws.{component_of}
use Rattle.writing.specs.Numerals.{numeral}
use Rattle.writing.specs.Texts.{field, joined, latest_text}
use Rattle.advice.specs.Advice.{advice}
use Rattle.advice.proofs.AdviceLaws.{advised}
use Rattle.reaching.specs.Reaching.{ReachOutcome, reached, full, refused, reach_of, reaching, reach_answer, reach_extent}
use Rattle.reaching.specs.Promise.{Succeeds}
use Rattle.reaching.specs.declared.Reached.{Reached}
use Rattle.latest.specs.Output.{reached_text, unplanned_text, reached_complaint, program_reach, program_text, program_complaint}

abbrev Sound : ReachOutcome → Type 0
Sound (reached n X caps L) = n ≤ size_limit
Sound (full w k) = 2000 < k
Sound (refused k) = Known k

module _ (s : List ℕ) (count : ℕ) (G : Timing) where
  reach_sound : (g : Got Sheet) (e : admitted s count G ≡ g) → Sound (reach_of s count G (λ wide. 2000) g e)
  reach_sound (sheet.refused k) e = admitted_is s count G k e
  reach_sound (got t r) e = go (leb (length (sheet_lines t)) 2000) (leb-false (length (sheet_lines t)) 2000)
    where
      go : (b : Bool) → (b ≡ false → 2000 < length (sheet_lines t)) →
          Sound (cond b (reached t.triggers (latest_exists s count G t r e).0 (sheet_caps t) (sheet_lines t))
          (full (width (sheet_caps t)) (length (sheet_lines t))))
      go true f = (read_good s t r (admitted_as s count G t r e).read_is).triggers_few
      go false f = f refl

  program_sound : Sound (program_reach s count G)
  program_sound = reach_sound (admitted s count G) refl

  -- whatever is not reached gets a sentence
  pub explained : ¬ (Succeeds (program_reach s count G)) → 0 < length (program_complaint s count G)
  unfolding program_complaint
  explained n = go (program_reach s count G) program_sound n
    where
      go : (o : ReachOutcome) → Sound o → ¬ (Succeeds o) → 0 < length (reached_complaint o)
      go (reached n X caps L) q h = absurd (h tt)
      go (full w k) q h = advised 9 (omega arith) (omega arith)
      go (refused k) q h = let n = known_within k q in advised k n.0 n.1

-- ---- the answer's text is the outcome's
-- the words of a timing's first components are these
latest_words : (n : ℕ) (X : Timing) → n ≤ size_limit → latest_text n (component (timing_of n X).at) ≡ latest_text n X
unfolding latest_text
latest_words n X few =
    ap (λ l. field (bytes "latest=") (joined l)) (each_same n _ _ (λ j h. ap (λ z. numeral z ∷ []) (component_of n X j few h)))

latest_of : (o : ReachOutcome) → Sound o → (p : Reached) → Ok p ≡ reach_answer o →
    (p.timing.count ≤ size_limit) × (latest_text p.timing.count (component p.timing.at) ≡ reached_text o) × (reached_complaint o ≡ [])
latest_of (reached n X caps L) q p e =
    rw (same_ok p _ e) (q, latest_words n X q, refl)
latest_of (full w k) q p e = ok_not_err p _ e
latest_of (refused k) q p e = ok_not_err p _ e

-- an answer with no timing
abbrev outcome_of : Unplanned → ReachOutcome
outcome_of (Refused r) = refused (number r)
outcome_of (NoRoom needed) = full needed.width needed.count

unplanned_is : (o : ReachOutcome) → Sound o → (u : Unplanned) → Err u ≡ reach_answer o → o ≡ outcome_of u
unplanned_is (reached n X caps L) q u e = ok_not_err _ u (sym e)
unplanned_is (full w k) q u e = rw (same_err u _ e) refl
unplanned_is (refused k) q u e = rw (same_err u _ e) (ap refused (sym (number_of k q)))

unplanned_out : (u : Unplanned) → unplanned_text u ≡ reached_text (outcome_of u)
unplanned_out (Refused r) = refl
unplanned_out (NoRoom needed) = refl

unplanned_complaint : (u : Unplanned) → advice (unplanned_number u) ≡ reached_complaint (outcome_of u)
unplanned_complaint (Refused r) = refl
unplanned_complaint (NoRoom needed) = refl

-- ---- in the program, which lends 16,000 words: room for 2,000 lines of eight words, or for more of seven, which it does not write
abbrev lent : ℕ → ℕ
lent wide = 16000 / wide

-- the answer to the space lent, beside the outcome with room for 2,000 lines
pub record Cut (p : Result Reached Unplanned) (o : ReachOutcome) : Type 0 where
  pub many : 2000 < (reach_extent p).count → o ≡ full (reach_extent p).width (reach_extent p).count
  pub few : (reach_extent p).count ≤ 2000 → p ≡ reach_answer o

cut_by : (n : ℕ) (X : Timing) (caps : Option (Line n → ℤ)) (L : List (Line n)) (b c : Bool) → (b ≡ true → length L ≤ lent (width caps)) →
    (b ≡ false → lent (width caps) < length L) → (c ≡ true → length L ≤ 2000) → (c ≡ false → 2000 < length L) →
    2000 ≤ lent (width caps) →
    Cut (reach_answer (cond b (reached n X caps L) (full (width caps) (length L)))) (cond c (reached n X caps L) (full (width caps) (length L)))
cut_by n X caps L true true f g h k r = record {
  many = λ q. let l = h refl in let x : ⊥ = omega arith in absurd x;
  few = λ q. refl;
}
cut_by n X caps L true false f g h k r = record { many = λ q. refl; few = λ q. let l = k refl in let x : ⊥ = omega arith in absurd x }
cut_by n X caps L false true f g h k r =
    let l = g refl in let m = h refl in let x : ⊥ = omega arith in absurd x
cut_by n X caps L false false f g h k r = record { many = λ q. refl; few = λ q. let l = k refl in let x : ⊥ = omega arith in absurd x }

wide_enough : {A : Type 0} (o : Option A) → 2000 ≤ lent (width o)
wide_enough none = omega arith
wide_enough (some a) = omega arith

module _ (s : List ℕ) (count : ℕ) (G : Timing) where
  cut_of : (g : Got Sheet) (e : admitted s count G ≡ g) → Cut (reach_answer (reach_of s count G lent g e)) (reach_of s count G (λ wide. 2000) g e)
  cut_of (sheet.refused k) e = record { many = λ q. let x : ⊥ = omega arith in absurd x; few = λ q. refl }
  cut_of (got t r) e = let m = length (sheet_lines t) in let w = lent (width (sheet_caps t)) in
      cut_by t.triggers _ (sheet_caps t) (sheet_lines t) (leb m w) (leb m 2000) (leb-true m w) (leb-false m w) (leb-true m 2000) (leb-false m 2000)
      (wide_enough (sheet_caps t))

module _ (s : List ℕ) (count : ℕ) (G : Timing) (space : List ℤ) (sized : length space ≡ 16000) {a : Result Reached Unplanned}
    (e : a ≡ reach_answer (reaching s count G space)) where
  cut : Cut a (program_reach s count G)
  unfolding reaching
  cut = rw (e, sized) (cut_of s count G (admitted s count G) refl)

  -- there is no timing: more than 2,000 lines, or a refusal
  module _ (u : Unplanned) (is : a ≡ Err u) where
    none_is : program_reach s count G ≡ outcome_of u
    none_is = go u (rw is at cut)
      where
        go : (u : Unplanned) → Cut (Err u) (program_reach s count G) → program_reach s count G ≡ outcome_of u
        go (Refused r) c = unplanned_is (program_reach s count G) (program_sound s count G) (Refused r) (c.few (omega arith))
        go (NoRoom needed) c = elim (dec_lt 2000 needed.count) [
          | yes h ↦ c.many h
          | no h ↦ unplanned_is (program_reach s count G) (program_sound s count G) (NoRoom needed) (c.few (omega arith))
        ]

    pub none_out : unplanned_text u ≡ program_text s count G
    unfolding program_text
    none_out = unplanned_out u ∙ sym (ap reached_text none_is)

    pub none_complaint : advice (unplanned_number u) ≡ program_complaint s count G
    unfolding program_complaint
    none_complaint = unplanned_complaint u ∙ sym (ap reached_complaint none_is)

  module _ (p : Reached) (is : a ≡ Ok p) where
    own : Cut (Ok p) (program_reach s count G)
    own = rw is at cut

    module _ (over : 2000 < p.count) where
      pub full_out : unplanned_text (NoRoom (record { count = p.count; width = p.width })) ≡ program_text s count G
      unfolding program_text
      full_out = ap reached_text (sym (own.many over))

      pub full_complaint : advice (unplanned_number (NoRoom (record { count = p.count; width = p.width }))) ≡ program_complaint s count G
      unfolding program_complaint
      full_complaint = ap reached_complaint (sym (own.many over))

    module _ (few : p.count ≤ 2000) where
      pub latest_few : p.timing.count ≤ size_limit
      latest_few = (latest_of (program_reach s count G) (program_sound s count G) p (own.few few)).0

      pub latest_out : latest_text p.timing.count (component p.timing.at) ≡ program_text s count G
      unfolding program_text
      latest_out = (latest_of (program_reach s count G) (program_sound s count G) p (own.few few)).1

      pub quiet_out : [] ≡ program_complaint s count G
      unfolding program_complaint
      quiet_out = sym (latest_of (program_reach s count G) (program_sound s count G) p (own.few few)).2
