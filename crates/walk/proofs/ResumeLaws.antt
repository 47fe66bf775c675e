-- A step from a state that was handed back: first the last panel gives up its trigger, where every panel is fixed.
use mathlib.Core.Path.{◌≡◌, sym, ap, ◌∙◌}
use mathlib.Core.List.{List}
use Prim.Native.Nat.{ℕ, suc, ◌%◌, ◌<◌}
use native.Mathlib.Omega.{arith}
use native.Mathlib.Decide.{ℕ_discrete}
use lib.IntN.{ℤ}
use Rattle.cue.specs.Cue.{Cue}
use Rattle.walk.specs.State.{resumed, levels, Ended}
use Rattle.walk.specs.Follows.{Follows}
use Rattle.walk.specs.Remembers.{Remembers}
use Rattle.walk.specs.Inner.{TryReady, Tried, Resumed}
use Rattle.walk.specs.Steps.{StepReady, StepTaken}
use Rattle.walk.specs.declared.Place.{Place}
use Rattle.walk.specs.declared.Walk.{Walk}
use Rattle.walk.specs.declared.Stepped.{Stepped}
use Rattle.walk.specs.declared.Outcome.TheVariants.{End}
use Rattle.walk.proofs.Stack.{triggers_up}
use Rattle.walk.proofs.Walking.{whole_resumed, inner_resumed, whole_sound, whole_ready, inner_ready}
use Rattle.walk.proofs.RememberLaws.{back_remembers, few_given}

pub may_give_up : {kept : List ℕ} {gains : List (List ℕ)} {f : ℕ} {p : Place} → StepReady kept gains f p → p.depth ≡ f →
    (0 < p.depth) × (p.picks % 8 < 6)
may_give_up {p} y e =
    let s = whole_sound y e in
    (s.some, (triggers_up p.depth p.picks (λ z. let x : ⊥ = omega (arith, s.some) in x) s.inside).0)

module _ {kept : List ℕ} {gains : List (List ℕ)} {f : ℕ} (w : Walk) (y : StepReady kept gains f w.place) {v : Walk} (R : Resumed f w v) where
  abbrev p : Place
  p = w.place

  -- the place from which the walk goes on
  place_is : v.place ≡ resumed f p
  place_is = elim (ℕ_discrete p.depth f) [
    | yes e ↦ (R.whole e).place ∙ sym (whole_resumed f p e).0
    | no n ↦ ap (λ (w : Walk). w.place) (R.inner n) ∙ sym (inner_resumed f p n).0
  ]

  fixings_same : v.place.fixings ≡ p.fixings
  fixings_same = elim (ℕ_discrete p.depth f) [
    | yes e ↦ ap (λ (p : Place). p.fixings) (R.whole e).place
    | no n ↦ ap (λ (w : Walk). w.place.fixings) (R.inner n)
  ]

  pub resume_ready : TryReady kept gains f v.place
  resume_ready = rw place_is (elim (ℕ_discrete p.depth f) [
    | yes e ↦ rw (whole_resumed f p e).0 (whole_ready y e)
    | no n ↦ rw (inner_resumed f p n).0 (inner_ready y n)
  ])

  -- after the end nothing is fixed, so nothing has changed
  resume_same : Ended p → v ≡ w
  resume_same e = R.inner (λ q. let s = whole_sound y q in let z : ⊥ = omega (arith, s.some, e.0) in z)

  resume_remembers : {n : ℕ} {P : Cue} {D : ℤ} {panels : List ℕ} → Follows n P D f kept gains panels →
      Remembers n P D panels (levels f p) w → Remembers n P D panels (suc v.place.depth) v
  resume_remembers {n} {P} {D} {panels} F m = elim (ℕ_discrete p.depth f) [
    | yes e ↦
        let s = whole_sound y e in
        let nz : ¬ (p.depth ≡ 0) = λ z. let x : ⊥ = omega (arith, s.some) in x in
        let k : Remembers n P D panels p.depth w = rw (whole_resumed f p e).1 at m in
        back_remembers F s.deep s.few nz (R.whole e) k (few_given F p.depth p.left nz k.untried)
    | no q ↦ rw (R.inner q) (rw (inner_resumed f p q).1 at m)
  ]

  pub resume_taken : {needs : List (List ℕ)} {r : Stepped} → Tried kept gains needs f v r → StepTaken kept gains needs f w r
  resume_taken {needs} {r} t = record {
    gives = rw (← place_is, ← fixings_same) t.gives;
    again = λ e. let q = resume_same e in again e q t.again;
    remembers = λ n P D panels F A m. t.remembers n P D panels F A (resume_remembers F m);
  }
    where
      again : Ended p → v ≡ w → (Ended v.place → r ≡ record { next = v; outcome = End }) → r ≡ record { next = w; outcome = End }
      again e q h = h (rw (← ap (λ (w : Walk). w.place) q) at e) ∙ ap (λ (w : Walk). record { next = w; outcome = End }) q
