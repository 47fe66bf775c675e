-- What is known of the program's outcome: a refusal is one of `refusals`, 9 has a count of more than 2,000; a plan has at most six triggers, no more
-- lines than that, and numbers that fit. The program lends 16,000 words, room for 2,000 lines of eight words and for more of seven; what planning
-- then answers and leaves is that outcome, but where the list has more than 2,000 lines. So the text of the answer in the program is the text of
-- the outcome.
use mathlib.Core.Path.{◌≡◌, refl, ap, ap₂, sym, subst, ◌∙◌}
use mathlib.Core.Bool.{Bool, true, false, cond}
use mathlib.Core.List.{List, []}
use mathlib.Core.Option.{Option, none, some}
use Prim.Native.Nat.{ℕ, ◌+◌, ◌*◌, ◌/◌, ◌≤◌, ◌<◌}
use native.Mathlib.Omega.{arith}
use native.Mathlib.Decide.{dec_lt}
use Rattle.std.specs.Prelude.{Result, Ok, Err}
use Rattle.refusals.specs.Numbers.{number}
use Rattle.refusals.specs.declared.Refusal.TheVariants.{NoTimes}
use Rattle.refusals.proofs.NumberLaws.{Known, number_of, known_within}
use Rattle.refusals.proofs.ResultLaws.{ok_not_err, same_ok, same_err}
use borrow.Author.Tests.{leb-true, leb-false}
use lib.Dec.{leb}
use lib.IntN.{ℤ}
use lib.ListN.{length}
use lib.Seq.{take_at}
use Rattle.maxplus.specs.Line.{Line}
use Rattle.cue.specs.Results.{Fitting}
use Rattle.cue.specs.Sizes.{size_limit}
use Rattle.cue.specs.Standing.{StandsWith}
use Rattle.cue.specs.Written.{line_size, width}
use Rattle.cue.proofs.LentLaws.{lent_words_length}
use Rattle.sheet.specs.Sheet.{Got, got, Sheet, read}
use Rattle.sheet.specs.Sheet as sheet
use Rattle.sheet.specs.Cue.{Orderly, orderly?, sheet_caps, sheet_lines}
use Rattle.sheet.specs.Good.{Good}
use Rattle.sheet.specs.Ordered.{ordered}
use Rattle.sheet.proofs.Good.{read_good}
use Rattle.sheet.proofs.ListLaws.{fitting}
use Rattle.sheet.proofs.OrderedLaws.{ordered_refused, ordered_8, ordered_got}
use Rattle.reading.proofs.Refusals.{refusal_is}
use Rattle.trigger_sets.specs.Sets.{bit}
use Rattle.trigger_sets.proofs.ByteLaws.{bit_at}
use Rattle.writing.specs.Texts.{plan_text}
use Rattle.writing.proofs.TextLaws.{plan_text_same}
use Rattle.advice.specs.Advice.{advice}
use Rattle.advice.proofs.AdviceLaws.{advised}
use Rattle.planning.specs.Planning.{PlanOutcome, planned, full, refused, plan_of, planning, space_after, plan_answer, extent_of, unplanned_number}
use Rattle.planning.specs.declared.Unplanned.{Unplanned}
use Rattle.planning.specs.declared.Unplanned.TheVariants.{Refused, NoRoom}
use Rattle.planning.proofs.PlanLaws.{refused_known}
use Rattle.planning.specs.Demands.{Planned, count_of, width_of}
use Rattle.planning.specs.declared.CuePlan.{CuePlan}
use Rattle.planning.proofs.Demands.{plan}
use Rattle.plan.specs.Output.{text, unplanned_text, complaint, program_plan, program_text, program_complaint}

abbrev pub Sound : PlanOutcome → Type 0
Sound (planned n s D k l caps L) = (n ≤ size_limit) × (length L ≤ 2000) × Fitting n L
Sound (full w k) = 2000 < k
Sound (refused k) = Known k

abbrev program_of : Got Sheet → PlanOutcome
program_of g = plan_of (λ wide. 2000) g

-- the outcome of a sheet, by whether there is room for its list
module _ (t : Sheet) where
  abbrev many : ℕ
  many = length (sheet_lines t)

  abbrev wide : ℕ
  wide = width (sheet_caps t)

  abbrev outcome : Bool → PlanOutcome
  outcome b = cond b (plan t) (full wide many)

listed_sound : (t : Sheet) (r : List ℕ) → Good t → Orderly t → Sound (program_of (got t r))
listed_sound t r G np = go (leb (many t) 2000) (leb-true (many t) 2000) (leb-false (many t) 2000)
  where
    go : (b : Bool) → (b ≡ true → many t ≤ 2000) → (b ≡ false → 2000 < many t) → Sound (outcome t b)
    go true f g = (G.triggers_few, f refl, fitting t G np)
    go false f g = g refl

pub program_sound : (s : List ℕ) → Sound (program_plan s)
program_sound s = go (read s) refl
  where
    by_order : (t : Sheet) (r : List ℕ) → read s ≡ got t r → Dec (Orderly t) → Sound (program_plan s)
    by_order t r e (yes np) = subst (λ g. Sound (program_of g)) (sym (ordered_got s t r e np)) (listed_sound t r (read_good s t r e) np)
    by_order t r e (no f) = subst (λ g. Sound (program_of g)) (sym (ordered_8 s t r e f)) (NoTimes, refl)

    go : (g : Got Sheet) → read s ≡ g → Sound (program_plan s)
    go (sheet.refused k) e = subst (λ g. Sound (program_of g)) (sym (ordered_refused s k e))
        (refusal_is s k e)
    go (got t r) e = by_order t r e (orderly? t)

-- ---- 16,000 words and the program's room
room_enough : {A : Type 0} (o : Option A) → 2000 ≤ 16000 / width o
room_enough none = omega arith
room_enough (some a) = omega arith

-- an outcome o in 16,000 words, and the program's q
abbrev Agree : (o q : PlanOutcome) → Type 0
Agree o q = (count_of o ≤ 2000 → o ≡ q) × (2000 < count_of o → q ≡ full (width_of o) (count_of o))

agree : (g : Got Sheet) → Agree (plan_of (λ wide. 16000 / wide) g) (program_of g)
agree (sheet.refused k) = (λ h. refl, λ h. let x : ⊥ = omega arith in absurd x)
agree (got t r) = go (leb (many t) (16000 / wide t)) (leb (many t) 2000) (leb-false (many t) (16000 / wide t)) (leb-true (many t) 2000)
    (leb-false (many t) 2000)
  where
    go : (b c : Bool) → (b ≡ false → 16000 / wide t < many t) → (c ≡ true → many t ≤ 2000) → (c ≡ false → 2000 < many t) →
        Agree (outcome t b) (outcome t c)
    go true true f g h = (λ e. refl, λ e. let q = g refl in let x : ⊥ = omega arith in absurd x)
    go false true f g h = let x : ⊥ = omega (arith, f refl, g refl, room_enough (sheet_caps t)) in absurd x
    go true false f g h = (λ e. let q = h refl in let x : ⊥ = omega arith in absurd x, λ e. refl)
    go false false f g h = (λ e. refl, λ e. refl)

-- ---- the answer's text is the outcome's
pub record Lists (o : PlanOutcome) (space : List ℤ) (p : CuePlan) : Type 0 where
  pub caps : Option (Line p.triggers → ℤ)
  pub list : List (Line p.triggers)
  pub wide_is : p.width ≡ width caps
  pub stands : StandsWith p.triggers p.count (space_after o space) caps list
  pub text_is : plan_text p.triggers (bit p.spares) p.deviation p.steps p.selections caps list ≡ text o

-- what is asked of a plan whose text is written
abbrev pub Fits : CuePlan → Type 0
Fits p = (p.triggers ≤ size_limit) × (line_size ≤ p.width) × (p.width * p.count ≤ 16000)

-- an answer with a plan
module _ {p : CuePlan} where
  few_of : (o : PlanOutcome) → Sound o → Ok p ≡ plan_answer o → Fits p
  few_of (planned n s D k l none L) q e = rw (same_ok p _ e) (q.0, omega arith, let c = q.1 in omega arith)
  few_of (planned n s D k l (some w) L) q e = rw (same_ok p _ e) (q.0, omega arith, let c = q.1 in omega arith)
  few_of (full w k) q e = ok_not_err p _ e
  few_of (refused k) q e = ok_not_err p _ e

  lists_of : (o : PlanOutcome) (space : List ℤ) → Sound o → Ok p ≡ plan_answer o → Lists o space p
  unfolding text space_after
  lists_of (planned n s D k l caps L) space q e =
      rw (same_ok p _ e)
      (record {
        caps = caps;
        list = L;
        wide_is = refl;
        stands = record { many = refl; words = take_at _ _ _ (lent_words_length n caps L); fitting = q.2 };
        text_is = plan_text_same n _ s (λ j i. bit_at n s j q.0 i) D k l caps L;
      })
  lists_of (full w k) space q e = ok_not_err p _ e
  lists_of (refused k) space q e = ok_not_err p _ e

  quiet_of : (o : PlanOutcome) → Ok p ≡ plan_answer o → complaint o ≡ []
  quiet_of (planned n s D k l caps L) e = refl
  quiet_of (full w k) e = ok_not_err p _ e
  quiet_of (refused k) e = ok_not_err p _ e

-- an answer with none
abbrev outcome_of : Unplanned → PlanOutcome
outcome_of (Refused r) = refused (number r)
outcome_of (NoRoom needed) = full needed.width needed.count

unplanned_is : (o : PlanOutcome) → ((k : ℕ) → o ≡ refused k → Known k) → (e : Unplanned) → Err e ≡ plan_answer o → o ≡ outcome_of e
unplanned_is (planned n s D k l caps L) f e h = ok_not_err _ e (sym h)
unplanned_is (full w k) f e h = rw (same_err e _ h) refl
unplanned_is (refused k) f e h = rw (same_err e _ h) (ap refused (sym (number_of k (f k refl))))

unplanned_out : (e : Unplanned) → unplanned_text e ≡ text (outcome_of e)
unfolding text
unplanned_out (Refused r) = refl
unplanned_out (NoRoom needed) = refl

unplanned_complaint : (e : Unplanned) → advice (unplanned_number e) ≡ complaint (outcome_of e)
unplanned_complaint (Refused r) = refl
unplanned_complaint (NoRoom needed) = refl

-- so many lines or fewer: as in the program; more: 9
by_count : {o q : PlanOutcome} → Agree o q → (w k : ℕ) → o ≡ full w k → q ≡ full w k
by_count a w k e = elim (dec_lt 2000 k) [
  | yes h ↦ a.1 (rw e h) ∙ rw e refl
  | no h ↦ sym (a.0 (rw e (let f : k ≤ 2000 = omega arith in f))) ∙ e
]

-- ---- in the program
module _ (s : List ℕ) (space : List ℤ) (sized : length space ≡ 16000) {a : Result CuePlan Unplanned} (e : a ≡ plan_answer (planning s space)) where
  agreed : Agree (planning s space) (program_plan s)
  unfolding planning
  agreed = subst (λ len. Agree (plan_of (λ wide. len / wide) (ordered s)) (program_plan s)) (sym sized) (agree (ordered s))

  -- there is no plan
  module _ (u : Unplanned) (is : a ≡ Err u) where
    none_is : program_plan s ≡ outcome_of u
    none_is = go u (unplanned_is (planning s space) (refused_known s space) u (sym is ∙ e))
      where
        go : (u : Unplanned) → planning s space ≡ outcome_of u → program_plan s ≡ outcome_of u
        go (Refused r) q = sym (agreed.0 (rw q (omega arith))) ∙ q
        go (NoRoom needed) q = by_count agreed needed.width needed.count q

    pub none_out : unplanned_text u ≡ program_text s
    unfolding program_text
    none_out = unplanned_out u ∙ sym (ap text none_is)

    pub none_complaint : advice (unplanned_number u) ≡ program_complaint s
    unfolding program_complaint
    none_complaint = unplanned_complaint u ∙ sym (ap complaint none_is)

  module _ (p : CuePlan) (is : a ≡ Ok p) where
    counted : p.count ≡ count_of (planning s space)
    counted = ap (λ r. (extent_of r).count) (sym is ∙ e)

    wide_is : p.width ≡ width_of (planning s space)
    wide_is = ap (λ r. (extent_of r).width) (sym is ∙ e)

    -- more than 2,000 lines
    module _ (over : 2000 < p.count) where
      full_is : program_plan s ≡ full p.width p.count
      full_is = agreed.1 (subst (λ k. 2000 < k) counted over) ∙ ap₂ full (sym wide_is) (sym counted)

      pub full_out : unplanned_text (NoRoom (record { count = p.count; width = p.width })) ≡ program_text s
      unfolding program_text text
      full_out = sym (ap text full_is)

      pub full_complaint : advice (unplanned_number (NoRoom (record { count = p.count; width = p.width }))) ≡ program_complaint s
      unfolding program_complaint
      full_complaint = sym (ap complaint full_is)

    -- no more
    module _ (few : p.count ≤ 2000) where
      same : planning s space ≡ program_plan s
      same = agreed.0 (subst (λ k. k ≤ 2000) counted few)

      answer_is : Ok p ≡ plan_answer (program_plan s)
      answer_is = sym is ∙ e ∙ ap plan_answer same

      pub quiet_out : [] ≡ program_complaint s
      unfolding program_complaint
      quiet_out = sym (quiet_of (program_plan s) answer_is)

      pub few_out : Fits p
      few_out = few_of (program_plan s) (program_sound s) answer_is

      lists : Lists (program_plan s) space p
      lists = lists_of (program_plan s) space (program_sound s) answer_is

      -- the text of a plan from the words that are left
      pub plan_out : (after : List ℤ) → after ≡ space_after (planning s space) space → (out : List ℕ) →
          ((caps : Option (Line p.triggers → ℤ)) (L : List (Line p.triggers)) → p.width ≡ width caps →
          StandsWith p.triggers p.count after caps L →
          out ≡ plan_text p.triggers (bit p.spares) p.deviation p.steps p.selections caps L) → out ≡ program_text s
      unfolding program_text
      plan_out after w out t = t lists.caps lists.list lists.wide_is (rw (w, same) lists.stands) ∙ lists.text_is

-- the program's room for 2,000 lines
pub bytes_for : (len count : ℕ) → 200200 ≤ len → count ≤ 2000 → 100 * count + 200 ≤ len
bytes_for len count h q = omega arith

pub words_for : (len words : ℕ) → 16000 ≤ len → words ≤ 16000 → words ≤ len
words_for len words h q = omega arith

-- whatever is not planned gets a sentence
pub explained : (s : List ℕ) → ¬ (Planned (program_plan s)) → 0 < length (program_complaint s)
unfolding program_complaint
explained s n = go (program_plan s) (program_sound s) n
  where
    go : (o : PlanOutcome) → Sound o → ¬ (Planned o) → 0 < length (complaint o)
    go (planned n s D k l caps L) q h = absurd (h tt)
    go (full w k) q h = advised 9 (omega arith) (omega arith)
    go (refused k) q h = let n = known_within k q in advised k n.0 n.1
