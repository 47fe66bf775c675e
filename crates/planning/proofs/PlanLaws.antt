-- What a planning returns and leaves, by what became of its list.
use mathlib.Core.Path.{◌≡◌, refl, ap, sym, subst, ◌∙◌}
use mathlib.Core.Bool.{Bool, true, false, cond}
use mathlib.Core.List.{List, []}
use Prim.Native.Nat.{ℕ, ◌/◌, ◌≤◌, ◌<◌}
use native.Mathlib.Omega.{arith}
use borrow.Author.Tests.{leb-true, leb-false}
use lib.Dec.{leb}
use lib.IntN.{ℤ}
use lib.ListN.{length}
use Rattle.std.specs.Prelude.{Result, Ok, Err, IsErrAnd, MatchResult}
use Rattle.maxplus.specs.Finite.{byte_of}
use Rattle.sheet.specs.Sheet.{Got, got, Sheet, read, spare}
use Rattle.sheet.specs.Sheet as spec
use Rattle.sheet.specs.Cue.{Orderly, sheet_least, sheet_steps, sheet_selections, sheet_caps, sheet_lines}
use Rattle.walk.specs.declared.Counts.{Counts}
use Rattle.laying.specs.Laying.{Lists}
use Rattle.sheet.specs.Ordered.{ordered}
use Rattle.sheet.proofs.OrderedLaws.{ordered_refused, ordered_8, ordered_got}
use Rattle.planning.specs.Planning.{PlanOutcome, planned, full, refused, plan_of, planning, space_after, plan_answer}
use Rattle.planning.specs.Inner.{Does}
use Rattle.reading.proofs.Refusals.{ordered_is}
use Rattle.refusals.proofs.NumberLaws.{Known}
use Rattle.planning.proofs.Demands.{plan}
use Rattle.planning.specs.declared.CuePlan.{CuePlan}
use Rattle.planning.specs.declared.Unplanned.{Unplanned}
use Rattle.cue.specs.Written.{width}

-- ---- what `map_err` makes of an answer, where each error is named so
module _ {A E F : Type 0} (name : E → F) where
  pub err_named : (r : Result A E) {m : Result A F} {d : F} → MatchResult r (λ x. m ≡ Ok x) (λ e. IsErrAnd m (λ y. y ≡ name e)) →
      m ≡ Err d → (e : E) × (r ≡ Err e) × (d ≡ name e)
  err_named (Ok x) h q = let z : ◌≡◌ {A = ℕ} 0 1 = cc in let y : ⊥ = omega arith in absurd y
  err_named (Err e) h q = (e, refl, subst (λ m. IsErrAnd m (λ y. y ≡ name e)) q h)

  pub ok_named : (r : Result A E) {m : Result A F} {a : A} → MatchResult r (λ x. m ≡ Ok x) (λ e. IsErrAnd m (λ y. y ≡ name e)) →
      m ≡ Ok a → r ≡ Ok a
  ok_named (Ok x) {a = a} h q = let z : x ≡ a = cc in ap Ok z
  ok_named (Err e) h q = absurd (subst (λ m. IsErrAnd m (λ y. y ≡ name e)) q h)

-- ---- what became of the list
module _ (t : Sheet) (before after : List ℤ) where
  abbrev count : ℕ
  count = length (sheet_lines t)

  abbrev wide : ℕ
  wide = width (sheet_caps t)

  abbrev room : ℕ
  room = length before / wide

  abbrev whole : PlanOutcome
  whole = planned t.triggers (spare t) (sheet_least t) (sheet_steps t) (sheet_selections t) (sheet_caps t) (sheet_lines t)

  abbrev plan_at : PlanOutcome
  plan_at = cond (leb count room) whole (full wide count)

  lines_at : (r : CuePlan) → r.count ≡ count → Lists t before after (Ok r.count) → Ok r ≡ plan_answer whole → Does plan_at before after (Ok r)
  unfolding space_after
  lines_at r c (e, fits, w) q = go (leb count room) (leb-false count room)
    where
      go : (b : Bool) → (b ≡ false → room < count) → Does (cond b whole (full wide count)) before after (Ok r)
      go true f = record { answer = q; written = w }
      go false f = let q = f refl in let x : ⊥ = omega arith in absurd x

  full_at : (k : ℕ) → Lists t before after (Err (record { count = k })) → Does plan_at before after (plan_answer (full wide k))
  unfolding space_after
  full_at k (e, small, w) = go (leb count room) (leb-true count room)
    where
      go : (b : Bool) → (b ≡ true → count ≤ room) → Does (cond b whole (full wide count)) before after (plan_answer (full wide k))
      go true f = let q = f refl in let x : ⊥ = omega arith in absurd x
      go false f = record { answer = ap (λ k. plan_answer (full wide k)) e; written = w }

-- ---- the outcomes
module _ (s : List ℕ) (space : List ℤ) where
  abbrev room_for : ℕ → ℕ
  room_for wide = length space / wide

  planning_of : {g : Got Sheet} → ordered s ≡ g → plan_of room_for g ≡ planning s space
  unfolding planning
  planning_of e = sym (ap (plan_of room_for) e)

  pub planning_refused : (k : ℕ) → read s ≡ spec.refused k → planning s space ≡ refused k
  planning_refused k e = sym (planning_of (ordered_refused s k e))

  module _ (t : spec.Sheet) (r : List ℕ) (e : read s ≡ got t r) where
    pub planning_8 : ¬ (Orderly t) → planning s space ≡ refused 8
    planning_8 f = sym (planning_of (ordered_8 s t r e f))

    pub planning_listed : Orderly t → plan_of (λ wide. length space / wide) (got t []) ≡ planning s space
    planning_listed np = planning_of (ordered_got s t r e np)

  -- what planning refuses is one of `refusals`
  pub refused_known : (k : ℕ) → planning s space ≡ refused k → Known k
  unfolding planning
  refused_known k = go (ordered s) refl
    where
      listed : (t : Sheet) (b : Bool) → ¬ (cond b (plan t) (full (width (sheet_caps t)) (length (sheet_lines t))) ≡ refused k)
      listed t true e = let z : ◌≡◌ {A = ℕ} 0 1 = cc in let x : ⊥ = omega arith in x
      listed t false e = let z : ◌≡◌ {A = ℕ} 0 1 = cc in let x : ⊥ = omega arith in x

      go : (g : Got Sheet) → ordered s ≡ g → plan_of room_for g ≡ refused k → Known k
      go (spec.refused j) q e = let h : j ≡ k = cc in subst Known h (ordered_is s j q)
      go (got t r) q e = absurd (listed t (leb (length (sheet_lines t)) (room_for (width (sheet_caps t)))) e)

  -- ---- what a planning does
  does_same : {o : PlanOutcome} {after : List ℤ} {r : Result CuePlan Unplanned} → o ≡ planning s space → Does o space after r → Does (planning s space) space after r
  does_same {o} {after} {r} e d = subst (λ o. Does o space after r) e d

  pub does_refused : (k : ℕ) {r : Result CuePlan Unplanned} → ordered s ≡ spec.refused k → r ≡ plan_answer (refused k) → Does (planning s space) space space r
  unfolding space_after
  does_refused k q e = does_same (planning_of q) (record { answer = e; written = refl })

  module _ (t : Sheet) (x : List ℕ) (q : ordered s ≡ got t x) (after : List ℤ) (k : ℕ) where
    -- the numbers returned, by what was found of them
    pub does_lines : (n b : ℕ) (D : ℤ) (C : Counts) (w : ℕ) → n ≡ t.triggers → b ≡ byte_of t.triggers (spare t) → D ≡ sheet_least t →
        ◌≡◌ {A = Counts} C (record { steps = sheet_steps t; selections = sheet_selections t }) → w ≡ width (sheet_caps t) →
        Lists t space after (Ok k) → Does (planning s space) space after
        (Ok (record { triggers = n; spares = b; deviation = D; steps = C.steps; selections = C.selections; width = w; count = k }))
    does_lines n b D C w h u d c v a = does_same (planning_of q) (lines_at t space after _ a.0 a (let e = a.0 in cc))

    pub does_full : {w : ℕ} {r : Result CuePlan Unplanned} → r ≡ plan_answer (full w k) → w ≡ width (sheet_caps t) → Lists t space after (Err (record { count = k })) →
        Does (planning s space) space after r
    does_full e v a = does_same (planning_of q)
        (subst (Does _ space after) (sym (e ∙ ap (λ w. plan_answer (full w k)) v)) (full_at t space after k a))
