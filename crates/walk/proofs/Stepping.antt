-- What a caller of `step` learns, and what holds all along a loop over the selections.
use mathlib.Core.Path.{◌≡◌, sym, ap, subst, ◌∙◌}
use mathlib.Core.List.{List, [], ◌∷◌, ◌++◌, append_assoc, append-nil}
use mathlib.Core.Logic.{inl, inr}
use Prim.Native.Nat.{ℕ, ◌+◌, ◌<◌, ◌≤◌}
use native.Mathlib.Omega.{arith}
use lib.IntN.{ℤ}
use lib.ListN.{length, length-append, length-replicate}
use Rattle.cue.specs.Cue.{Cue}
use Rattle.walk.specs.Trace.{Event, fixing, whole, walk_of, selections, fixings, Masks}
use Rattle.walk.specs.State.{After, Ended, marks, picked, pending, resumed, levels, start_of}
use Rattle.walk.specs.Follows.{Follows}
use Rattle.walk.specs.Remembers.{Asks, Remembers}
use Rattle.walk.specs.Steps.{StepReady, StepTaken}
use Rattle.walk.specs.declared.Walk.{Walk}
use Rattle.walk.specs.declared.Stepped.{Stepped}
use Rattle.walk.specs.declared.Outcome.{Outcome}
use Rattle.walk.specs.declared.Outcome.TheVariants.{Selection, End}
use Rattle.walk.proofs.TraceLaws.{fixings_marks, selections_marks, marked_fixings, marked_selections, marked_length, selections_few}
use Rattle.walk.proofs.Whole.{walk_few, start_pending, start_ready}
use Rattle.walk.proofs.Stack.{pending_none}
use Rattle.walk.proofs.Walking.{whole_resumed, inner_resumed}
use Rattle.walk.proofs.RememberLaws.{start_remembers}
use Rattle.cue.specs.Sizes.{size_limit}

-- the selections that a state still has to give
abbrev pub remaining : List ℕ → List (List ℕ) → ℕ → Walk → List (List ℕ)
remaining kept gains f w = selections (pending kept gains f (resumed f w.place))

-- the events that it still has to give
abbrev ahead : List ℕ → List (List ℕ) → ℕ → Walk → List Event
ahead kept gains f w = pending kept gains f (resumed f w.place)

module _ {kept : List ℕ} {gains needs : List (List ℕ)} {f : ℕ} {w : Walk} {r : Stepped} (s : StepTaken kept gains needs f w r) where
  module _ (e : r.outcome ≡ Selection) where
    found : After kept gains f Selection r.next.place (marks w.place.fixings ++ ahead kept gains f w)
    found = subst (λ (o : Outcome). After kept gains f o r.next.place (marks w.place.fixings ++ ahead kept gains f w)) e s.gives.given

    -- a selection: every panel is fixed, and it is the first of those that were left
    pub found_deep : r.next.place.depth ≡ f
    found_deep = found.1

    given : marks w.place.fixings ++ ahead kept gains f w ≡
        marks r.next.place.fixings ++ whole (picked f r.next.place.picks) ∷ ahead kept gains f r.next
    given = rw (whole_resumed f r.next.place found_deep).0 found.2

    pub found_selection : remaining kept gains f w ≡ picked f r.next.place.picks ∷ remaining kept gains f r.next
    unfolding selections
    found_selection =
        sym (marked_selections w.place.fixings (ahead kept gains f w)) ∙ ap selections given ∙ marked_selections r.next.place.fixings _

    pub found_fixings : w.place.fixings + fixings (ahead kept gains f w) ≡ r.next.place.fixings + fixings (ahead kept gains f r.next)
    unfolding fixings
    found_fixings =
        sym (marked_fixings w.place.fixings (ahead kept gains f w)) ∙ ap fixings given ∙ marked_fixings r.next.place.fixings _

    pub found_ready : StepReady kept gains f w.place → StepReady kept gains f r.next.place
    found_ready y = record {
      stands = inl (found.0, found_deep);
      masks = y.masks;
      room = omega (
        arith,
        y.room,
        marked_length w.place.fixings (ahead kept gains f w),
        ap length given,
        marked_length r.next.place.fixings (whole (picked f r.next.place.picks) ∷ ahead kept gains f r.next),
      );
    }

  module _ (e : r.outcome ≡ End) where
    last : After kept gains f End r.next.place (marks w.place.fixings ++ ahead kept gains f w)
    last = subst (λ (o : Outcome). After kept gains f o r.next.place (marks w.place.fixings ++ ahead kept gains f w)) e s.gives.given

    -- the end: no selection was left, and nothing is fixed
    pub end_selections : remaining kept gains f w ≡ []
    end_selections =
        sym (marked_selections w.place.fixings (ahead kept gains f w)) ∙ ap selections last.2 ∙ selections_marks r.next.place.fixings

    pub end_fixings : w.place.fixings + fixings (ahead kept gains f w) ≡ r.next.place.fixings
    end_fixings = sym (marked_fixings w.place.fixings (ahead kept gains f w)) ∙ ap fixings last.2 ∙ fixings_marks r.next.place.fixings

    pub end_ended : Ended r.next.place
    end_ended = last.1

    -- a step may be taken there
    pub end_ready : StepReady kept gains f w.place → StepReady kept gains f r.next.place
    end_ready y = record {
      stands = inr last.0;
      masks = y.masks;
      room =
          rw (
            (inner_resumed f r.next.place (λ e. let z : ⊥ = omega (arith, e, last.0.deep) in z)).0,
            pending_none kept gains f r.next.place last.1.0 last.1.1,
          )
          (omega (
            arith,
            y.room,
            marked_length w.place.fixings (ahead kept gains f w),
            ap length last.2,
            length-replicate r.next.place.fixings fixing,
          ));
    }

-- a state that the walk comes to, after the selections seen: it remembers step 6's w of the panels fixed in it
pub record Walked (kept : List ℕ) (gains needs : List (List ℕ)) (f n : ℕ) (w : Walk) (seen : List (List ℕ)) : Type 0 where
  pub ready : StepReady kept gains f w.place
  pub steps : fixings (walk_of kept gains f) ≡ w.place.fixings + fixings (ahead kept gains f w)
  pub rest : selections (walk_of kept gains f) ≡ seen ++ remaining kept gains f w
  pub remembers : (P : Cue) (D : ℤ) (panels : List ℕ) → Follows n P D f kept gains panels → Asks n P D panels f needs →
      Remembers n P D panels (levels f w.place) w

pub walked_start : (kept : List ℕ) (gains needs : List (List ℕ)) (f n : ℕ) → 0 < f → f ≤ size_limit → Masks kept →
    Walked kept gains needs f n (start_of kept n) []
walked_start kept gains needs f n h k m = record {
  ready = start_ready kept gains f n h k m;
  steps = rw (start_pending kept gains f n h m) (omega arith);
  rest = rw (start_pending kept gains f n h m);
  remembers = λ P D panels F A. rw (inner_resumed f (start_of kept n).place (λ e. let z : ⊥ = omega (arith, h, e) in z)).1 (start_remembers F h);
}

module _ {kept : List ℕ} {gains needs : List (List ℕ)} {f n : ℕ} {w : Walk} {seen : List (List ℕ)}
    (b : Walked kept gains needs f n w seen) {r : Stepped} (s : StepTaken kept gains needs f w r) where
  -- whatever the step gave, a selection, the end or the end again
  pub step_remembers : (P : Cue) (D : ℤ) (panels : List ℕ) → Follows n P D f kept gains panels → Asks n P D panels f needs →
      Remembers n P D panels (levels f r.next.place) r.next
  step_remembers P D panels F A = s.remembers n P D panels F A (b.remembers P D panels F A)

  module _ (e : r.outcome ≡ Selection) where
    pub walked_next : Walked kept gains needs f n r.next (seen ++ picked f r.next.place.picks ∷ [])
    walked_next = record {
      ready = found_ready s e b.ready;
      steps = b.steps ∙ found_fixings s e;
      rest = b.rest ∙ ap (λ (l : List (List ℕ)). seen ++ l) (found_selection s e) ∙
          sym (append_assoc seen (picked f r.next.place.picks ∷ []) (remaining kept gains f r.next));
      remembers = step_remembers;
    }

    -- a loop over the selections ends
    pub walked_less : length (remaining kept gains f r.next) < length (remaining kept gains f w)
    walked_less = omega (arith, ap length (found_selection s e))

    pub walked_few : f ≤ size_limit → length seen < 102642
    walked_few h = omega (
      arith,
      length-append seen (remaining kept gains f w),
      ap length b.rest,
      ap length (found_selection s e),
      selections_few (walk_of kept gains f),
      walk_few kept gains f h,
    )

  module _ (e : r.outcome ≡ End) where
    pub walked_fixings : r.next.place.fixings ≡ fixings (walk_of kept gains f)
    walked_fixings = sym (b.steps ∙ end_fixings s e)

    pub walked_all : seen ≡ selections (walk_of kept gains f)
    walked_all = sym (b.rest ∙ ap (λ (l : List (List ℕ)). seen ++ l) (end_selections s e) ∙ append-nil seen)
