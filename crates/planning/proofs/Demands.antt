-- Demands 2 and 3, from the bytes of each sheet to the words written (specs/Demands states them): a planning without refusal is the plan of
-- the sheet's tables, of which cue's theorems speak.
use mathlib.Core.Path.{◌≡◌, refl, ap, sym, subst, ◌∙◌}
use mathlib.Core.Logic.{◌↔◌}
use mathlib.Core.List.{List}
use mathlib.Core.Bool.{Bool, true, false, cond}
use Prim.Native.Nat.{ℕ, ◌/◌, ◌≤◌}
use native.Mathlib.Omega.{arith}
use lib.Dec.{leb}
use lib.IntN.{ℤ}
use lib.ListN.{length}
use lib.Seq.{take_at}
use Rattle.sheet.specs.Meaning.{Timing, Keeps}
use Rattle.cue.specs.Written.{width, list_words, lent_words}
use Rattle.cue.proofs.LentLaws.{lent_words_length, uncapped_lent}
use Rattle.sheet.proofs.ListLaws.{spare_shown}
use Rattle.sheet.proofs.Caps.{cap_is, in_time_capped}
use Rattle.sheet.proofs.LineLandings.{reaches}
use Rattle.sheet.proofs.TwoSheets.{SameLists}
use Rattle.sheet.proofs.Demands as sheets
use Rattle.sheet.specs.Sheet.{got, Sheet, read, spare}
use Rattle.sheet.specs.Sheet as sheet
use Rattle.sheet.specs.Cue.{used, order_table, Orderly, orderly?, sheet_least, sheet_steps, sheet_selections, sheet_caps, sheet_lines}
use Rattle.sheet.specs.Cue.{most_steps}
use Rattle.sheet.proofs.Fits.{all_fit}
use Rattle.sheet.proofs.Spread.{least_not_negative}
use Rattle.sheet.specs.Good.{Good}
use Rattle.sheet.proofs.Good.{read_good}
use Rattle.planning.specs.Planning.{PlanOutcome, planned, full, refused, plan_of, planning, space_after, plan_answer, plan_in}
use Rattle.sheet.specs.Ordered.{ordered}
use Rattle.sheet.proofs.OrderedLaws.{ordered_by}
use Rattle.planning.specs.Demands.{Planned, deviation_of, count_of, written, lines_written, Least, Demand2, Demand8, TwoPlans, SameWritten}
use Rattle.planning.specs.Demands.{Demand3, Demand3Whole, LastIgnored, NeverNegative, StepsAtMost}

-- ---- a planning without refusal is the plan of the sheet's tables
abbrev pub plan : Sheet → PlanOutcome
plan t = planned t.triggers (spare t) (sheet_least t) (sheet_steps t) (sheet_selections t) (sheet_caps t) (sheet_lines t)

abbrev no_room : Sheet → PlanOutcome
no_room t = full (width (sheet_caps t)) (length (sheet_lines t))

abbrev room_in : List ℤ → ℕ → ℕ
room_in space wide = length space / wide

module _ (s : List ℕ) (t : Sheet) (r : List ℕ) (e : read s ≡ got t r) (space : List ℤ) where
  planned_as : Planned (planning s space) → Orderly t × (planning s space ≡ plan t)
  unfolding planning
  planned_as h = go (orderly? t) (ordered_by s t r e)
    where
      room : (b : Bool) → Planned (cond b (plan t) (no_room t)) → cond b (plan t) (no_room t) ≡ plan t
      room true q = refl
      room false q = absurd q

      go : (d : Dec (Orderly t)) → ordered s ≡ elim d [ yes h ↦ got t r | no h ↦ sheet.refused 8 ] →
          Orderly t × (plan_of (room_in space) (ordered s) ≡ plan t)
      go (yes np) q = (
        np,
        ap (plan_of (room_in space)) q ∙
            room (leb (length (sheet_lines t)) (room_in space (width (sheet_caps t)))) (subst (λ g. Planned (plan_of (room_in space) g)) q h),
      )
      go (no np) q = absurd (subst (λ g. Planned (plan_of (room_in space) g)) q h)

  -- what is known of a sheet that was planned
  pub record Known : Type 0 where
    pub good : Good t
    pub orderly : Orderly t
    pub plan_is : planning s space ≡ plan t

  pub known : Planned (planning s space) → Known
  known h = let (np, q) = planned_as h in record { good = read_good s t r e; orderly = np; plan_is = q }

  -- the words at the front are those of the list
  written_is : Known → written (planning s space) space ≡ lent_words t.triggers (sheet_caps t) (sheet_lines t)
  unfolding space_after
  written_is k = ap (λ o. written o space) k.plan_is ∙ take_at _ _ _ (lent_words_length t.triggers (sheet_caps t) (sheet_lines t))

  -- and with the caps left out those of its lines
  lines_is : Known → lines_written (planning s space) space ≡ list_words t.triggers (sheet_lines t)
  unfolding space_after
  lines_is k = ap (λ o. lines_written o space) k.plan_is ∙ uncapped_lent t.triggers (sheet_caps t) (sheet_lines t) _

-- ---- demand 2
pub demand_2 : Demand2
demand_2 s t r space e h = go (known s t r e space h)
  where
    go : Known s t r e space → Least t space (planning s space)
    go k =
        let D = ap deviation_of k.plan_is in
        record {
          spares = ap (λ o. (plan_in (plan_answer o)).spares) k.plan_is;
          shown = spare_shown t k.good k.orderly;
          counted = ap count_of k.plan_is;
          front = written_is s t r e space k;
          at_least = λ X q. rw D (sheets.deviation_at_least t k.good k.orderly X q);
          reached = rw D (sheets.deviation_reached t k.good k.orderly);
          combined = λ X. rw D (
            λ q. (sheets.demand_2 t k.good k.orderly X).0 ((sheets.tightest_test t k.good k.orderly X).1 q),
            λ w. (sheets.tightest_test t k.good k.orderly X).0 ((sheets.demand_2 t k.good k.orderly X).1 w),
          );
          reaches = reaches t k.good k.orderly;
          caps = λ b e c q. cap_is t k.good k.orderly b c q;
          in_time = λ X. rw D (
            λ q. (in_time_capped t k.good k.orderly X).0 ((sheets.tightest_test t k.good k.orderly X).1 (q.0, q.1), q.2),
            λ w. let (h, i) = (in_time_capped t k.good k.orderly X).1 w in
                let (u, d) = (sheets.tightest_test t k.good k.orderly X).0 h in (u, d, i),
          );
        }

-- ---- refusal 8
pub refused_8 : Demand8
unfolding planning
refused_8 s t r space e = go (orderly? t) (ordered_by s t r e)
  where
    other : (b : Bool) → ¬ (cond b (plan t) (no_room t) ≡ refused 8)
    other true q = let z : ◌≡◌ {A = ℕ} 0 1 = cc in let x : ⊥ = omega arith in x
    other false q = let z : ◌≡◌ {A = ℕ} 0 1 = cc in let x : ⊥ = omega arith in x

    go : (d : Dec (Orderly t)) → ordered s ≡ elim d [ yes h ↦ got t r | no h ↦ sheet.refused 8 ] →
        (plan_of (room_in space) (ordered s) ≡ refused 8) ↔ ¬ ((X : Timing) × Keeps t X)
    go (yes o) q = (
      λ p. absurd (other (leb (length (sheet_lines t)) (room_in space (width (sheet_caps t)))) (sym (ap (plan_of (room_in space)) q) ∙ p)),
      λ f. absurd (f ((sheets.order_kept t).1 o)),
    )
    go (no o) q = (λ p x. o ((sheets.order_kept t).0 x), λ f. ap (plan_of (room_in space)) q)

-- ---- demand 3: the words that are written are those of the two sheets' lists
module _ (s₁ s₂ : List ℕ) (t₁ t₂ : Sheet) (space₁ space₂ : List ℤ) (two : TwoPlans s₁ s₂ t₁ t₂ space₁ space₂) where
  known₁ : Known s₁ t₁ two.rest₁ two.read₁ space₁
  known₁ = known s₁ t₁ two.rest₁ two.read₁ space₁ two.planned₁

  known₂ : Known s₂ t₂ two.rest₂ two.read₂ space₂
  known₂ = known s₂ t₂ two.rest₂ two.read₂ space₂ two.planned₂

  written_lists : SameWritten s₁ s₂ space₁ space₂ ↔ SameLists t₁ t₂
  written_lists =
      let c₁ = ap count_of known₁.plan_is in
      let c₂ = ap count_of known₂.plan_is in
      let w₁ = lines_is s₁ t₁ two.rest₁ two.read₁ space₁ known₁ in
      let w₂ = lines_is s₂ t₂ two.rest₂ two.read₂ space₂ known₂ in (
        λ q. (sym c₁ ∙ q.0 ∙ c₂, sym w₁ ∙ q.1 ∙ w₂),
        λ q. (c₁ ∙ q.0 ∙ sym c₂, w₁ ∙ q.1 ∙ sym w₂),
      )

pub demand_3 : Demand3
demand_3 s₁ s₂ t₁ t₂ space₁ space₂ two same =
    let k₁ = known₁ s₁ s₂ t₁ t₂ space₁ space₂ two in
    let k₂ = known₂ s₁ s₂ t₁ t₂ space₁ space₂ two in
    let lists = written_lists s₁ s₂ t₁ t₂ space₁ space₂ two in
    let both = sheets.demand_3 t₁ t₂ k₁.good k₂.good k₁.orderly k₂.orderly two.same_size same in
    (λ q. both.0 (lists.0 q), λ f. lists.1 (both.1 f))

pub demand_3_whole : Demand3Whole
demand_3_whole s₁ s₂ t₁ t₂ space₁ space₂ two =
    let k₁ = known₁ s₁ s₂ t₁ t₂ space₁ space₂ two in
    let k₂ = known₂ s₁ s₂ t₁ t₂ space₁ space₂ two in
    let lists = written_lists s₁ s₂ t₁ t₂ space₁ space₂ two in
    let both = sheets.demand_3_whole t₁ t₂ k₁.good k₂.good k₁.orderly k₂.orderly two.same_size in
    (λ q. both.0 (lists.0 q), λ f. lists.1 (both.1 f))

-- ---- the last moments have no part in the cue
pub last_ignored : LastIgnored
unfolding sheet_lines used spare order_table
last_ignored s₁ s₂ t₁ t₂ space₁ space₂ two e =
    let p = (known₁ s₁ s₂ t₁ t₂ space₁ space₂ two).plan_is in
    let q = (known₂ s₁ s₂ t₁ t₂ space₁ space₂ two).plan_is in (
      ap deviation_of p ∙ ap sheet_least e ∙ sym (ap deviation_of q),
      ap (λ o. (plan_in (plan_answer o)).steps) p ∙ ap sheet_steps e ∙ sym (ap (λ o. (plan_in (plan_answer o)).steps) q),
      ap (λ o. (plan_in (plan_answer o)).selections) p ∙ ap sheet_selections e ∙ sym (ap (λ o. (plan_in (plan_answer o)).selections) q),
      (written_lists s₁ s₂ t₁ t₂ space₁ space₂ two).1
          (ap (λ t. length (sheet_lines t)) e, ap (λ t. list_words t.triggers (sheet_lines t)) e),
    )

-- ---- rule 2
pub not_negative : NeverNegative
not_negative s t r space e m h =
    let k = known s t r e space h in
    rw (ap deviation_of k.plan_is) (least_not_negative t k.good k.orderly m)

-- ---- steps
pub steps_at_most : StepsAtMost
unfolding planning
steps_at_most s t r space e = go (orderly? t) (ordered_by s t r e)
  where
    room : (b : Bool) → (plan_in (plan_answer (cond b (plan t) (no_room t)))).steps ≤ most_steps t
    room true = (all_fit s t r e).steps_most
    room false = omega arith

    go : (d : Dec (Orderly t)) → ordered s ≡ elim d [ yes h ↦ got t r | no h ↦ sheet.refused 8 ] →
        (plan_in (plan_answer (plan_of (room_in space) (ordered s)))).steps ≤ most_steps t
    go (yes o) q = rw q (room (leb (length (sheet_lines t)) (room_in space (width (sheet_caps t)))))
    go (no o) q = rw q (omega arith)
