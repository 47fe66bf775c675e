-- Comparing two sheets: what planning refuses with no room, and the answer by demand 3.
use mathlib.Core.Path.{◌≡◌, refl, ap, sym, subst, ◌∙◌}
use mathlib.Core.Logic.{◌↔◌, ◌⊎◌, inl, inr}
use mathlib.Core.List.{List}
use mathlib.Core.Bool.{Bool, true, false, cond, not, ◌||◌, decide}
use mathlib.Core.Option.{Option, none, some}
use Prim.Native.Nat.{ℕ, ◌+◌, ◌-◌, ◌*◌, ◌/◌, ◌≤◌, ◌<◌}
use native.Mathlib.Omega.{arith}
use borrow.Author.Tests.{leb-true, leb-false, le-leb, lt-leb}
use Rattle.std.specs.Bool.{Decides}
use Rattle.std.specs.Cmp.{signed_Decides}
use Rattle.std.specs.Ordering.{int_eq}
use Rattle.std.proofs.lemmas.Slice.Eq.{slice_eq-Decides}
use lib.Pointwise.{pointwise}
use Rattle.sheet.proofs.LineLaws.{true_not_false}
use Rattle.std.specs.Prelude.{Result, Ok, Err, IsOk}
use lib.Dec.{leb, eqb}
use lib.IntN.{ℤ}
use lib.ListN.{length, take, drop}
use Rattle.maxplus.specs.Finite.{byte_of}
use Rattle.sheet.specs.Sheet.{Got, got, Sheet, read}
use Rattle.sheet.specs.Sheet as sheet
use Rattle.sheet.specs.Cue.{sheet_caps, sheet_lines}
use Rattle.trigger_sets.specs.Sets.{bit}
use Rattle.trigger_sets.proofs.ByteLaws.{bit_at}
use Rattle.tables.specs.Held.{Says}
use Rattle.planning.specs.Planning.{PlanOutcome, planned, full, refused, plan_of, planning, space_after, plan_answer, plan_in, extent_of}
use Rattle.sheet.specs.Ordered.{ordered}
use Rattle.comparing.specs.Inner.{unplanned_in}
use Rattle.planning.specs.Demands.{Planned, count_of, lines_written, TwoPlans}
use Rattle.comparing.specs.Comparing.{Comparison, answer, unlike, comparing, compared_space, compare_answer}
use Rattle.planning.specs.declared.CuePlan.{CuePlan}
use Rattle.planning.specs.declared.Extent.{Extent}
use Rattle.planning.specs.declared.Unplanned.{Unplanned}
use Rattle.planning.specs.declared.Unplanned.TheVariants.{Refused, NoRoom}
use Rattle.comparing.specs.declared.Uncompared.TheVariants.{First, Second}
use Rattle.planning.proofs.Demands.{plan, known, demand_3}
use Rattle.sheet.specs.Asked.{Alike}
use Rattle.sheet.specs.Meaning.{SameSpares}
use Rattle.sheet.proofs.Decided.{alike?}
use Rattle.planning.proofs.PlanLaws.{planning_refused}
use Rattle.maxplus.proofs.FiniteLaws.{equal, unequal, decided_yes, decided_no}
use Rattle.laying.proofs.WidthLaws.{width_room, wide_there}
use Rattle.cue.specs.Written.{line_size, width, uncapped}

-- ---- an answer taken
pub said_yes : {P : Type 0} {b : Bool} → b ≡ true → Says P b → P
said_yes {P} e h = subst (Says P) e h

pub said_no : {P : Type 0} {b : Bool} → b ≡ false → Says P b → ¬ P
said_no {P} e h = subst (Says P) e h

says_of : {P : Type 0} (b : Bool) → Decides b P → Says P b
says_of true d = d.0 refl
says_of false d = λ p. let z : ◌≡◌ {A = Bool} false true = d.1 p in true_not_false (sym z)

-- two ranges of k words that are compared
pub ranges_say : (a b : List ℤ) (from at k : ℕ) {r : Bool} →
    r ≡ pointwise int_eq (take (from + k - from) (drop from a)) (take (at + k - at) (drop at b)) →
    Says (take k (drop from a) ≡ take k (drop at b)) r
ranges_say a b from at k e =
    let l : from + k - from ≡ k = omega arith in
    let m : at + k - at ≡ k = omega arith in
    says_of _ (slice_eq-Decides signed_Decides _ _ _ (rw (l, m) at e))

-- ---- what planning refuses, from what it answers with no room: its refusal, but 9 only where the count is more than the room
module _ (t : Sheet) where
  abbrev many : ℕ
  many = length (sheet_lines t)

  abbrev wide : ℕ
  wide = width (sheet_caps t)

  abbrev outcome : Bool → PlanOutcome
  outcome b = cond b (plan t) (full wide many)

-- one word has room for no line
no_line : {A : Type 0} (o : Option A) → 1 / width o ≡ 0
no_line none = refl
no_line (some a) = refl

-- what is refused with so many words, by the answer with one word
abbrev pub refused_by : ℕ → Result CuePlan Unplanned → Result Unit Unplanned
refused_by words (Ok p) = Ok tt
refused_by words (Err (Refused r)) = Err (Refused r)
refused_by words (Err (NoRoom a)) = cond (leb a.count (words / a.width)) (Ok tt) (Err (NoRoom a))

module _ (words : ℕ) where
  by_room : (t : Sheet) → refused_by words (plan_answer (outcome t (leb (many t) (1 / wide t)))) ≡
      unplanned_in (plan_answer (outcome t (leb (many t) (words / wide t))))
  by_room t = go (leb (many t) (1 / wide t)) (leb (many t) (words / wide t)) (leb-true (many t) (1 / wide t)) (leb-false (many t) (words / wide t)) refl
    where
      go : (b c : Bool) → (b ≡ true → many t ≤ 1 / wide t) → (c ≡ false → words / wide t < many t) → leb (many t) (words / wide t) ≡ c →
          refused_by words (plan_answer (outcome t b)) ≡ unplanned_in (plan_answer (outcome t c))
      go true true f g e = refl
      go true false f g e = let x : ⊥ = omega (arith, f refl, g refl, no_line (sheet_caps t)) in absurd x
      go false true f g e = rw e refl
      go false false f g e = rw e refl

  by_sheet : (g : Got Sheet) → refused_by words (plan_answer (plan_of (λ wide. 1 / wide) g)) ≡
      unplanned_in (plan_answer (plan_of (λ wide. words / wide) g))
  by_sheet (sheet.refused k) = refl
  by_sheet (got t r) = by_room t

module _ (s : List ℕ) (none : List ℤ) (few : length none ≡ 1) {P : Result CuePlan Unplanned} (e : P ≡ plan_answer (planning s none)) where
  at_none : P ≡ plan_answer (plan_of (λ wide. 1 / wide) (ordered s))
  unfolding planning
  at_none = e ∙ ap (λ k. plan_answer (plan_of (λ wide. k / wide) (ordered s))) few

  -- a list that is counted takes some words a line
  pub wide_known : {a : Extent} → P ≡ Err (NoRoom a) → 0 < a.width
  wide_known {a} q = go (ordered s) (sym q ∙ at_none)
    where
      whole : (t : Sheet) (b : Bool) → Err (NoRoom a) ≡ plan_answer (outcome t b) → 0 < a.width
      whole t true f = let z : ◌≡◌ {A = ℕ} 0 1 = cc in let x : ⊥ = omega arith in absurd x
      whole t false f = wide_there (sheet_caps t) (ap (λ r. (extent_of r).width) f)

      go : (g : Got Sheet) → Err (NoRoom a) ≡ plan_answer (plan_of (λ wide. 1 / wide) g) → 0 < a.width
      go (sheet.refused k) f = let z : ◌≡◌ {A = ℕ} 0 1 = cc in let x : ⊥ = omega arith in absurd x
      go (got t r) f = whole t (leb (many t) (1 / wide t)) f

  pub refused_as : {o : Result Unit Unplanned} {words : ℕ} → o ≡ refused_by words P → (space : List ℤ) → length space ≡ words →
      o ≡ unplanned_in (plan_answer (planning s space))
  unfolding planning
  refused_as {words = words} q space same = q ∙ ap (refused_by words) at_none ∙ by_sheet words (ordered s) ∙
      ap (λ w. unplanned_in (plan_answer (plan_of (λ wide. w / wide) (ordered s)))) (sym same)

pub room_there : (words : ℕ) (a : Extent) → a.count ≤ words / a.width → Ok tt ≡ refused_by words (Err (NoRoom a))
room_there words a h = rw (le-leb a.count (words / a.width) h) refl

pub room_short : (words : ℕ) (a : Extent) → words / a.width < a.count → Err (NoRoom a) ≡ refused_by words (Err (NoRoom a))
room_short words a h = rw (lt-leb a.count (words / a.width) h) refl

-- ---- equal bytes are of the same triggers
same_bits : (n m : ℕ) (a b : ℕ → Bool) → n ≤ 6 → n ≡ m → byte_of n a ≡ byte_of m b → (j : ℕ) → j < n → a j ≡ b j
same_bits n m a b h e f j q = sym (bit_at n a j h q) ∙ ap (λ c. bit c j) f ∙ bit_at m b j (omega arith) (omega arith)

abbrev room_in : List ℤ → ℕ → ℕ
room_in space wide = length space / wide

-- ---- two sheets of which each is planned
pub planned_read : (s : List ℕ) (space : List ℤ) → Planned (planning s space) → (t : Sheet) × (r : List ℕ) × (read s ≡ got t r)
planned_read s space h = go (read s) refl
  where
    go : (g : Got Sheet) → read s ≡ g → (t : Sheet) × (r : List ℕ) × (read s ≡ got t r)
    go (got t r) e = (t, r, e)
    go (sheet.refused k) e = absurd (subst Planned (planning_refused s space k e) h)

-- the list's words are within the space, seven or more a line
abbrev pub Within : CuePlan → List ℤ → Type 0
Within p space = (line_size ≤ p.width) × (p.width * p.count ≤ length space)

pub front_fits : (s : List ℕ) (space : List ℤ) → Planned (planning s space) → Within (plan_in (plan_answer (planning s space))) space
unfolding planning
front_fits s space = go (ordered s)
  where
    seven : {A : Type 0} (o : Option A) → line_size ≤ width o
    seven none = omega arith
    seven (some a) = omega arith

    whole : (t : Sheet) (b : Bool) → (b ≡ true → many t ≤ room_in space (wide t)) → Planned (outcome t b) →
        Within (plan_in (plan_answer (outcome t b))) space
    whole t true f h = (seven (sheet_caps t), width_room (sheet_caps t) (many t) (length space) (f refl))
    whole t false f h = absurd h

    go : (g : Got Sheet) → Planned (plan_of (room_in space) g) → Within (plan_in (plan_answer (plan_of (room_in space) g))) space
    go (sheet.refused k) h = absurd h
    go (got t r) h = whole t (leb (many t) (room_in space (wide t))) (leb-true (many t) (room_in space (wide t))) h

pub accepted : (o : PlanOutcome) {r : Result CuePlan Unplanned} → r ≡ plan_answer o → Planned o → IsOk r
accepted o e h = rw e (go o h)
  where
    go : (o : PlanOutcome) → Planned o → IsOk (plan_answer o)
    go (planned n spare D k l caps L) h = refl
    go (full w k) h = absurd h
    go (refused k) h = absurd h

-- P and Q are what the two plannings answered, `front` and `back` what they left
module _ (s₁ s₂ : List ℕ) (left right : List ℤ) (h₁ : Planned (planning s₁ left)) (h₂ : Planned (planning s₂ right)) (P Q : CuePlan)
    (p : Ok P ≡ plan_answer (planning s₁ left)) (q : Ok Q ≡ plan_answer (planning s₂ right)) (A B : Extent) (a : A ≡ extent_of (Ok P))
    (b : B ≡ extent_of (Ok Q)) where
  abbrev asked : Bool
  asked = decide (alike? s₁ s₂)

  -- the answer, by whether the numbers of triggers are equal and whether the bytes of the spares are
  abbrev by_tests : Bool → Bool → Comparison
  by_tests sizes spares = cond (not sizes || not spares) (unlike A B) (answer asked A B)

  compared : (r : Comparison) → by_tests (eqb P.triggers Q.triggers) (eqb P.spares Q.spares) ≡ r → r ≡ comparing s₁ s₂ left right
  unfolding comparing
  compared r h = sym (rw (← p, ← q, ← a, ← b) h)

  pub unlike_answer : ¬ (P.triggers ≡ Q.triggers) ⊎ ¬ (P.spares ≡ Q.spares) → unlike A B ≡ comparing s₁ s₂ left right
  unlike_answer (inl f) = compared _ (rw (unequal P.triggers Q.triggers f) refl)
  unlike_answer (inr f) = compared _ (rw (unequal P.spares Q.spares f) (go (eqb P.triggers Q.triggers)))
    where
      go : (sizes : Bool) → by_tests sizes false ≡ unlike A B
      go true = refl
      go false = refl

  module _ (front back : List ℤ) (w₁ : front ≡ space_after (planning s₁ left) left) (w₂ : back ≡ space_after (planning s₂ right) right)
      (k : P.triggers ≡ Q.triggers) (idle : P.spares ≡ Q.spares) where
    abbrev SameLines : Type 0
    SameLines = uncapped P.width P.count front ≡ uncapped Q.width P.count back

    abbrev Equal : Type 0
    Equal = (P.count ≡ Q.count) × SameLines

    c₁ : P.count ≡ count_of (planning s₁ left)
    c₁ = ap (λ r. (extent_of r).count) p

    c₂ : Q.count ≡ count_of (planning s₂ right)
    c₂ = ap (λ r. (extent_of r).count) q

    l₁ : uncapped P.width P.count front ≡ lines_written (planning s₁ left) left
    l₁ = let c = c₁ in let v = ap (λ r. (extent_of r).width) p in cc

    l₂ : uncapped Q.width Q.count back ≡ lines_written (planning s₂ right) right
    l₂ = let c = c₂ in let v = ap (λ r. (extent_of r).width) q in cc

    -- the two lists are equal exactly when the same timings are tightest
    alike_by : Equal ↔ Alike (read s₁) (read s₂)
    alike_by = go (planned_read s₁ left h₁) (planned_read s₂ right h₂)
      where
        go : (t : Sheet) × (r : List ℕ) × (read s₁ ≡ got t r) → (t : Sheet) × (r : List ℕ) × (read s₂ ≡ got t r) →
            Equal ↔ Alike (read s₁) (read s₂)
        go (t, m, e) (u, w, f) =
            let K₁ = known s₁ t m e left h₁ in
            let K₂ = known s₂ u w f right h₂ in
            let a₁ : Ok P ≡ plan_answer (plan t) = p ∙ ap plan_answer K₁.plan_is in
            let a₂ : Ok Q ≡ plan_answer (plan u) = q ∙ ap plan_answer K₂.plan_is in
            let size = sym (ap (λ r. (plan_in r).triggers) a₁) ∙ k ∙ ap (λ r. (plan_in r).triggers) a₂ in
            let byte = sym (ap (λ r. (plan_in r).spares) a₁) ∙ idle ∙ ap (λ r. (plan_in r).spares) a₂ in
            let same : SameSpares t u = same_bits _ _ _ _ K₁.good.triggers_few size byte in
            let two : TwoPlans s₁ s₂ t u left right =
            record { rest₁ = m; rest₂ = w; read₁ = e; read₂ = f; same_size = size; planned₁ = h₁; planned₂ = h₂ } in
            let d = demand_3 s₁ s₂ t u left right two same in
            rw (e, f) (
              λ q. (size, same, d.0 (sym c₁ ∙ q.0 ∙ c₂, sym l₁ ∙ q.1 ∙ cc (l₂))),
              λ a. let l = d.1 a.2 in (c₁ ∙ l.0 ∙ sym c₂, l₁ ∙ l.1 ∙ cc (l₂)),
            )

    alike_answer : (same : Bool) → asked ≡ same → answer same A B ≡ comparing s₁ s₂ left right
    alike_answer same e = compared _ (rw (equal P.triggers Q.triggers k, equal P.spares Q.spares idle, e) refl)

    pub same_answer : P.count ≡ Q.count → SameLines → answer true A B ≡ comparing s₁ s₂ left right
    same_answer c e = alike_answer true (decided_yes (alike? s₁ s₂) (alike_by.0 (c, e)))

    pub different_answer : ¬ Equal → answer false A B ≡ comparing s₁ s₂ left right
    different_answer f = alike_answer false (decided_no (alike? s₁ s₂) (λ a. f (alike_by.1 a)))

-- ---- a refusal, or none
pub none_refused : (o : PlanOutcome) → Ok tt ≡ unplanned_in (plan_answer o) → Planned o
none_refused (planned n spare D k l caps L) e = tt
none_refused (full w k) e = let z : ◌≡◌ {A = ℕ} 0 1 = cc in let x : ⊥ = omega arith in absurd x
none_refused (refused k) e = let z : ◌≡◌ {A = ℕ} 0 1 = cc in let x : ⊥ = omega arith in absurd x

refused_is : {e : Unplanned} (r : Result CuePlan Unplanned) → Err e ≡ unplanned_in r → r ≡ Err e
refused_is (Ok p) q = let z : ◌≡◌ {A = ℕ} 0 1 = cc in let x : ⊥ = omega arith in absurd x
refused_is (Err d) q = cc

planned_is : (o : PlanOutcome) → Planned o → plan_answer o ≡ Ok (plan_in (plan_answer o))
planned_is (planned n spare D k l caps L) h = refl
planned_is (full w k) h = absurd h
planned_is (refused k) h = absurd h

module _ (o p : PlanOutcome) (space : List ℤ) where
  -- the space of a refused sheet, and the one beside it
  own_kept : {e : Unplanned} → Err e ≡ unplanned_in (plan_answer o) → space ≡ compared_space o p space
  unfolding compared_space space_after
  own_kept {e} f = go o p f
    where
      go : (o p : PlanOutcome) → Err e ≡ unplanned_in (plan_answer o) → space ≡ compared_space o p space
      go (planned n spare D k l caps L) p f = let z : ◌≡◌ {A = ℕ} 0 1 = cc in let x : ⊥ = omega arith in absurd x
      go (full w c) (planned n spare D k l caps L) f = refl
      go (full w c) (full u k) f = refl
      go (full w c) (refused k) f = refl
      go (refused c) (planned n spare D k l caps L) f = refl
      go (refused c) (full w k) f = refl
      go (refused c) (refused k) f = refl

  other_kept : {e : Unplanned} → Err e ≡ unplanned_in (plan_answer p) → space ≡ compared_space o p space
  unfolding compared_space
  other_kept {e} f = go p f
    where
      go : (p : PlanOutcome) → Err e ≡ unplanned_in (plan_answer p) → space ≡ compared_space o p space
      go (planned n spare D k l caps L) f = let z : ◌≡◌ {A = ℕ} 0 1 = cc in let x : ⊥ = omega arith in absurd x
      go (full w k) f = refl
      go (refused k) f = refl

  pub both_written : Planned p → space_after o space ≡ compared_space o p space
  unfolding compared_space
  both_written = go p
    where
      go : (p : PlanOutcome) → Planned p → space_after o space ≡ compared_space o p space
      go (planned n spare D k l caps L) h = refl
      go (full w k) h = absurd h
      go (refused k) h = absurd h

-- ---- a refusal's answer, and the two spaces as they were
module _ (s₁ s₂ : List ℕ) (left right : List ℤ) where
  abbrev Kept : Comparison → Type 0
  Kept r = (r ≡ comparing s₁ s₂ left right) × ((left ≡ compared_space (planning s₁ left) (planning s₂ right) left) ×
      (right ≡ compared_space (planning s₂ right) (planning s₁ left) right))

  module _ (e : Unplanned) where
    pub first_answer : Err e ≡ unplanned_in (plan_answer (planning s₁ left)) → Kept (compare_answer (Err (First e)))
    unfolding comparing
    first_answer f = (rw (refused_is _ f) refl, (own_kept _ _ left f, other_kept _ _ right f))

    pub second_answer : Ok tt ≡ unplanned_in (plan_answer (planning s₁ left)) → Err e ≡ unplanned_in (plan_answer (planning s₂ right)) →
        Kept (compare_answer (Err (Second e)))
    unfolding comparing
    second_answer z f = (rw (planned_is _ (none_refused _ z), refused_is _ f) refl, (other_kept _ _ left f, own_kept _ _ right f))
