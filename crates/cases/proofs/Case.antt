-- Cases as tables about the operations themselves: for each the sheet, what is lent, what the operation returns and what it leaves. A case
-- holds where the operation's contract allows nothing else. `Learnt` of an operation is its contract as a caller has it: the toolchain reads
-- it from the `ensures` in the source, so that another contract there makes another claim here.
use denote.MutBor.{MutBor}
use mathlib.Core.Path.{◌≡◌, refl, ap, sym, ◌∙◌}
use mathlib.Core.Bool.{Bool, true, false, decide}
use mathlib.Core.List.{List, [], ◌∷◌, ◌++◌}
use Prim.Native.Nat.{ℕ, ◌-◌, ◌<◌}
use lib.Dec.{T}
use Prim.Native.String.{String}
use lib.IntN.{ℤ, pos, negsuc}
use lib.ListN.{length, replicate}
use contract.Lifetimes.{Lfts}
use denote.Ref.{Bor}
use Rattle.maxplus.specs.Entry.{num, ◌≼◌, ◌⊗◌, unit}
use Rattle.maxplus.proofs.EntryLaws.{≼_dec}
use Rattle.maxplus.proofs.FiniteLaws.{all_dec, decide_yes, decide_of}
use Rattle.cue.specs.Vectors.{Tightest, Readable}
use Rattle.cue.proofs.Deviation.{tightest?}
use Rattle.sheet.specs.Text.{bytes}
use Rattle.sheet.specs.Sheet.{read, Sheet}
use Rattle.sheet.specs.Cue.{cue_size, cue_of, Orderly}
use Rattle.sheet.specs.Overruns.{overruns}
use Rattle.sheet.proofs.Overruns.{in_time_early}
use Rattle.sheet.specs.Good.{Measured}
use Rattle.sheet.proofs.Good.{read_good}
use Rattle.sheet.proofs.Seam.{at_used, tightest_cue}
use Rattle.sheet.specs.Sheet as sheet
use Rattle.sheet.specs.Times.{some_beyond}
use Rattle.timing.specs.Times.{component}
use Rattle.timing.specs.declared.Timing.{Timing}
use Rattle.planning.specs.Planning.{planning, space_after, plan_answer}
use Rattle.keeping.specs.Keeping.{keeping, kept_answer}
use Rattle.testing.specs.Testing.{answer, testing, test_answer}
use Rattle.tables.specs.Held.{Says}
use Rattle.sheet.specs.Meaning as sheets
use Rattle.std.specs.Prelude.{Result, Ok, Err}
use Rattle.refusals.specs.Numbers.{refusal_of}
use Rattle.refusals.specs.declared.Refusal.{Refusal}
use Rattle.keeping.specs.declared.KeptTable.{KeptTable}
use Rattle.planning.specs.declared.CuePlan.{CuePlan}
use Rattle.planning.specs.declared.Unplanned.{Unplanned}
use Rattle.planning.specs.declared.Unplanned.TheVariants.{Refused, NoRoom}
use Rattle.reaching.specs.Reaching.{reaching, reached_space, reach_answer}
use Rattle.reaching.specs.declared.Reached.{Reached}
use Rattle.testing.proofs.TestLaws.{tested_one, testing_says}
use Rattle.sheet.proofs.OrderedLaws.{ordered_got}
use Rattle.sheet.proofs.AdmittedLaws.{admitted_on}
use Rattle.keeping.proofs.kept_table.Reads as keptTable
use Rattle.planning.proofs.plan.Reads as plan
use Rattle.testing.proofs.test_timing.Reads as test_timing
use Rattle.reaching.proofs.latest_timing.Reads as latest_timing

-- ---- what a case says
pub data Case : Type 0 where
  plans : (sheet : String) (lent : List ℤ) (answer : Result CuePlan Unplanned) (left : List ℤ) → Case
  keeps : (sheet : String) (answer : Result KeptTable Refusal) → Case
  tests : (sheet : String) (times : List ℤ) (answer : Result Bool Refusal) → Case
  reaches : (sheet : String) (times lent : List ℤ) (answer : Result Reached Unplanned) (left : List ℤ) → Case

-- whatever references a caller hands over to these bytes and words: what the contract allows is the case's answer, and what is left
abbrev pub CaseHolds : Case → Type 0
CaseHolds (plans s lent r left) = (κs : Lfts 2) (sheet : Bor (List ℕ)) (before after : MutBor (List ℤ)) (q : Result CuePlan Unplanned) →
    sheet.now ≡ bytes s → before.now ≡ lent → plan.Learnt κs (sheet, (before, tt)) q (sheet, (after, tt)) → (q ≡ r) × (after.now ≡ left)
CaseHolds (keeps s r) = (κs : Lfts 1) (sheet : Bor (List ℕ)) (q : Result KeptTable Refusal) →
    sheet.now ≡ bytes s → keptTable.Learnt κs (sheet, tt) q (sheet, tt) → q ≡ r
CaseHolds (tests s times r) = (κs : Lfts 1) (sheet : Bor (List ℕ)) (timing : Timing) (rest : List ℤ) (q : Result Bool Refusal) →
    sheet.now ≡ bytes s → timing ≡ record { count = length times; at = times ++ rest } →
    test_timing.Learnt κs (sheet, (timing, tt)) q (sheet, (timing, tt)) → q ≡ r
CaseHolds (reaches s times lent r left) =
    (κs : Lfts 2) (sheet : Bor (List ℕ)) (timing : Timing) (rest : List ℤ) (before after : MutBor (List ℤ)) (q : Result Reached Unplanned) →
    sheet.now ≡ bytes s → timing ≡ record { count = length times; at = times ++ rest } → before.now ≡ lent →
    latest_timing.Learnt κs (sheet, (timing, (before, tt))) q (sheet, (timing, (after, tt))) → (q ≡ r) × (after.now ≡ left)

infixr 4 ◌then◌
pub data Every (P : Case → Type 0) : List Case → Type 0 where
  done : Every P []
  ◌then◌ : {c : Case} {l : List Case} → P c → Every P l → Every P (c ∷ l)

-- ---- answers and words
-- triggers, spares, deviation, steps, selections, words of a line, count; without a last line; with no spare
abbrev pub lined : (wide : ℕ) → ℕ → ℕ → ℤ → ℕ → ℕ → ℕ → Result CuePlan Unplanned
lined w n s D k l c = Ok (record { triggers = n; spares = s; deviation = D; steps = k; selections = l; width = w; count = c })

abbrev pub spared : ℕ → ℕ → ℤ → ℕ → ℕ → ℕ → Result CuePlan Unplanned
spared = lined 7

abbrev pub planned : ℕ → ℤ → ℕ → ℕ → ℕ → Result CuePlan Unplanned
planned n D k l c = spared n 0 D k l c

abbrev pub full_by : (wide : ℕ) → ℕ → Result CuePlan Unplanned
full_by w c = Err (NoRoom (record { count = c; width = w }))

abbrev pub full : ℕ → Result CuePlan Unplanned
full = full_by 7

abbrev pub no_plan : ℕ → Result CuePlan Unplanned
no_plan k = Err (Refused (refusal_of k))

-- lines and timing; 9 and the count needed; any other refusal
abbrev pub timing_of_six : List ℤ → Timing
timing_of_six l = record { count = length l; at = l ++ replicate (6 - length l) (pos 0) }

abbrev pub reached_by : (wide : ℕ) → ℕ → List ℤ → Result Reached Unplanned
reached_by w c l = Ok (record { width = w; count = c; timing = timing_of_six l })

abbrev pub reached : ℕ → List ℤ → Result Reached Unplanned
reached = reached_by 7

abbrev pub no_room_by : (wide : ℕ) → ℕ → Result Reached Unplanned
no_room_by w c = Err (NoRoom (record { count = c; width = w }))

abbrev pub no_room : ℕ → Result Reached Unplanned
no_room = no_room_by 7

abbrev pub not_reached : ℕ → Result Reached Unplanned
not_reached k = Err (Refused (refusal_of k))

-- of each panel on the sheet; 0 past them
abbrev pub six_of : List ℕ → List ℕ
six_of l = l ++ replicate (6 - length l) 0

-- deviation, steps, selections, each panel's byte, and its number of bits
abbrev pub kept_triggers : ℤ → ℕ → ℕ → List ℕ → List ℕ → Result KeptTable Refusal
kept_triggers D k l b c = Ok (record { deviation = D; panels = length b; kept = six_of b; counts = six_of c; steps = k; selections = l })

abbrev pub no_table : ℕ → Result KeptTable Refusal
no_table k = Err (refusal_of k)

-- whether a timing is tightest and in time; why it was not tested
abbrev pub Yes : Result Bool Refusal
Yes = Ok true

abbrev pub No : Result Bool Refusal
No = Ok false

abbrev pub not_tested : ℕ → Result Bool Refusal
not_tested k = Err (refusal_of k)

abbrev pub absent_word : ℤ
absent_word = negsuc 0x7fff_ffff

-- k words that no plan writes
abbrev pub old : ℕ → List ℤ
old k = replicate k (pos 12345)

-- the words of a line of one trigger, of two and of three
abbrev pub one : ℤ → List ℤ
one a = pos 1 ∷ a ∷ replicate 5 absent_word

abbrev pub two : ℤ → ℤ → List ℤ
two a b = pos 2 ∷ a ∷ b ∷ replicate 4 absent_word

abbrev pub three : ℤ → ℤ → ℤ → List ℤ
three a b c = pos 3 ∷ a ∷ b ∷ c ∷ replicate 3 absent_word

-- ---- a case holds by the value of its definition
abbrev pub Computed : Case → Type 0
Computed (plans s lent r left) =
    (plan_answer (planning (bytes s) lent) ≡ r) × (space_after (planning (bytes s) lent) lent ≡ left)
Computed (keeps s r) = kept_answer (keeping (bytes s)) ≡ r
Computed (reaches s times lent r left) = (rest : List ℤ) → let o = reaching (bytes s) (length times) (component (times ++ rest)) lent in
    (reach_answer o ≡ r) × (reached_space o lent ≡ left)
Computed (tests s times r) = (rest : List ℤ) → test_answer r ≡ testing (bytes s) (length times) (component (times ++ rest))

holds : (c : Case) → Computed c → CaseHolds c
holds (plans s lent r left) (e, w) = λ κs sheet before after q b l (f, v). (
  f ∙ ap (λ s. plan_answer (planning s before.now)) b ∙ ap (λ l. plan_answer (planning (bytes s) l)) l ∙ e,
  v ∙ ap (λ s. space_after (planning s before.now) before.now) b ∙ ap (λ l. space_after (planning (bytes s) l) l) l ∙ w,
)
holds (keeps s r) e = λ κs sheet q b f. f ∙ ap (λ s. kept_answer (keeping s)) b ∙ e
holds (tests s times r) e = λ κs sheet timing rest q b t h.
    tested_one q r (h ∙ ap (λ s. testing s timing.count (component timing.at)) b ∙
    ap (λ (t : Timing). testing (bytes s) t.count (component t.at)) t ∙ sym (e rest))
holds (reaches s times lent r left) e = λ κs sheet timing rest before after q b t l (f, v). let (x, y) = e rest in (
  f ∙ ap (λ s. reach_answer (reaching s timing.count (component timing.at) before.now)) b ∙
      ap (λ (t : Timing). reach_answer (reaching (bytes s) t.count (component t.at) before.now)) t ∙
      ap (λ l. reach_answer (reaching (bytes s) (length times) (component (times ++ rest)) l)) l ∙ x,
  v ∙ ap (λ s. reached_space (reaching s timing.count (component timing.at) before.now) before.now) b ∙
      ap (λ (t : Timing). reached_space (reaching (bytes s) t.count (component t.at) before.now) before.now) t ∙
      ap (λ l. reached_space (reaching (bytes s) (length times) (component (times ++ rest)) l) l) l ∙ y,
)

pub all_hold : {l : List Case} → Every Computed l → Every CaseHolds l
all_hold done = done
all_hold (◌then◌ {c} h k) = holds c h then all_hold k

-- ---- what testing answers is what is decided of the sheet's cue and of each trigger's overrun
module _ (s : String) (t : Sheet) (e : read (bytes s) ≡ sheet.got t []) (R : Readable (cue_size t) (cue_of t)) (O : Orderly t) where
  abbrev pub asked : (X : sheets.Timing) → Dec (Tightest (cue_size t) (cue_of t) (at_used t X))
  asked X = tightest? (cue_size t) (cue_of t) R O (at_used t X)

  abbrev pub early : (X : sheets.Timing) → Dec ((j : ℕ) → j < t.triggers → overruns t j ⊗ num (X j) ≼ unit)
  early X = all_dec (λ j. overruns t j ⊗ num (X j) ≼ unit) (λ j. ≼_dec (overruns t j ⊗ num (X j)) unit) t.triggers

  measured : Measured t t.measure
  measured = (read_good (bytes s) t [] e).measured

  says : (X : sheets.Timing) → some_beyond t.triggers X ≡ false → (v : Bool) → Says (sheets.TightestInTime t X) v →
      answer v ≡ testing (bytes s) t.triggers X
  says X near v h =
      testing_says (bytes s) t.triggers X t [] (admitted_on (bytes s) t.triggers X t [] e refl near ∙ ordered_got (bytes s) t [] e O) v h

  pub says_yes : (X : sheets.Timing) → some_beyond t.triggers X ≡ false → T (decide (asked X)) → T (decide (early X)) →
      answer true ≡ testing (bytes s) t.triggers X
  says_yes X near y z = says X near true (record {
    tightest = (tightest_cue t measured X).1 (decide_yes (asked X) y);
    in_time = (in_time_early t X).1 (decide_yes (early X) z);
  })

  pub says_no : (X : sheets.Timing) → some_beyond t.triggers X ≡ false → ¬ (T (decide (asked X))) →
      answer false ≡ testing (bytes s) t.triggers X
  says_no X near n = says X near false (λ h. n (decide_of (asked X) ((tightest_cue t measured X).0 h.tightest)))

  pub says_late : (X : sheets.Timing) → some_beyond t.triggers X ≡ false → ¬ (T (decide (early X))) →
      answer false ≡ testing (bytes s) t.triggers X
  says_late X near n = says X near false (λ h. n (decide_of (early X) ((in_time_early t X).0 h.in_time)))

-- the first two of the times
abbrev pub times : ℕ → ℕ → List ℤ → sheets.Timing
times a b rest = component (pos a ∷ pos b ∷ rest)
