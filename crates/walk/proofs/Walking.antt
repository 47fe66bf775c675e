-- One law for each way that the walk goes on: what it may be asked, what falls, and what it gives.
-- What falls is eight times the events pending, plus the depth, or 7 where a panel has just been fixed.
use mathlib.Core.Path.{◌≡◌, ap}
use mathlib.Core.Bool.{Bool, cond}
use mathlib.Core.Logic.{⊎_elim}
use mathlib.Core.List.{List, ◌++◌, append-nil}
use Prim.Native.Nat.{ℕ, suc, ◌+◌, ◌*◌, ◌^◌, ◌<◌, ◌≤◌}
use native.Mathlib.Nat.{pow-le-pow_right}
use native.Mathlib.Omega.{arith}
use borrow.Author.Tests.{eq-eqb, ne_eqb}
use lib.Dec.{lit<}
use lib.ListN.{length}
use Rattle.walk.specs.Trace.{mask_at}
use Rattle.walk.specs.State.{Sound, FixedSound, marks, picked, pending, fixed, given_up, resumed, levels}
use Rattle.walk.specs.Steps.{StepReady, Gives}
use Rattle.walk.specs.Inner.{TryReady, FixedReady}
use Rattle.walk.specs.declared.Place.{Place}
use Rattle.walk.specs.declared.Walk.{Walk}
use Rattle.walk.specs.declared.Stepped.{Stepped}
use Rattle.walk.specs.declared.Outcome.TheVariants.{Selection, End}
use Rattle.walk.proofs.PickLaws.{triggers_fit}
use Rattle.walk.proofs.Stack.{untried, fix_at, Splits, down, up, mark_more, pending_fix, pending_up, fixed_down, fixed_whole, pending_none}
use Rattle.walk.proofs.Stack.{sound_fix, sound_down, sound_up, sound_given_up}
use Rattle.cue.specs.Sizes.{size_limit}

pub under : {a b t : ℕ} → b ≡ t → a < b → a < t
under e h = omega arith

pub at_most : {a b : ℕ} → a < b → a ≤ b
at_most h = omega arith

pub not_whole : {a b : ℕ} → a < b → ¬ (a ≡ b)
not_whole h e = let z : ⊥ = omega arith in z

-- the bits of all levels, and of one more, fit a word
pub left_fits : {f : ℕ} {p : Place} → FixedSound f p → p.left < 64 ^ 6
left_fits {f} {p} s =
    let six : p.depth ≤ size_limit = omega (arith, s.few, s.deep) in
    let l : 64 ^ p.depth ≤ 64 ^ 6 = pow-le-pow_right (lit< tt) six in
    omega (arith, s.small)

pub picks_fit : {f : ℕ} {p : Place} → Sound f p → p.picks < 8 ^ 6
picks_fit {f} {p} s =
    let six : p.depth ≤ size_limit = omega (arith, s.few, s.deep) in
    let l : 8 ^ p.depth ≤ 8 ^ 6 = pow-le-pow_right (lit< tt) six in
    omega (arith, triggers_fit p.depth p.picks s.inside)

module _ {kept : List ℕ} {gains : List (List ℕ)} {f : ℕ} {p : Place} where
  -- a call of `descending` after a fixing
  module _ (y : TryReady kept gains f p) (h : ¬ (untried p ≡ 0)) where
    pub some : 0 < untried p
    some = omega (arith, h)

    module _ {j r : ℕ} (e : Splits j r (untried p)) where
      fix_length : length (pending kept gains f p) ≡ suc (length (fixed kept gains f (fix_at j r p)))
      fix_length = ap length (pending_fix kept gains f p j r some e)

      pub fix_less : 8 * length (fixed kept gains f (fix_at j r p)) + 7 < 8 * length (pending kept gains f p) + p.depth
      fix_less = omega (arith, fix_length)

      pub fix_ready : FixedReady kept gains f (fix_at j r p)
      fix_ready = record { sound = sound_fix f p y.sound j r some e; masks = y.masks; room = omega (arith, fix_length, y.room) }

      pub fix_gives : (g : Stepped) → Gives kept gains f (marks (p.fixings + 1) ++ fixed kept gains f (fix_at j r p)) g →
          Gives kept gains f (marks p.fixings ++ pending kept gains f p) g
      fix_gives g s = rw (pending_fix kept gains f p j r some e, mark_more p.fixings (fixed kept gains f (fix_at j r p))) s

  -- a call of `trying` at the panel above, at the place q
  module _ (y : TryReady kept gains f p) (d : ¬ (p.depth ≡ 0)) (h : untried p ≡ 0) {q : Place} (e : q ≡ up p) where
    up_same : pending kept gains f p ≡ pending kept gains f q
    up_same = rw e (pending_up kept gains f p y.sound (omega (arith, d)) h)

    pub up_less : 8 * length (pending kept gains f q) + q.depth < 8 * length (pending kept gains f p) + p.depth
    up_less = omega (arith, d, ap length up_same, ap (λ (q : Place). q.depth) e)

    pub up_ready : TryReady kept gains f q
    up_ready = record {
      sound = rw e (sound_up f p y.sound d);
      masks = y.masks;
      room = omega (arith, ap length up_same, y.room, ap (λ (q : Place). q.fixings) e);
    }

    pub up_gives : (r : Stepped) → Gives kept gains f (marks q.fixings ++ pending kept gains f q) r →
        Gives kept gains f (marks p.fixings ++ pending kept gains f p) r
    up_gives r s = rw (up_same, ← ap (λ (q : Place). q.fixings) e) s

  -- a call of `trying` at the panel below
  module _ (y : FixedReady kept gains f p) (d : ¬ (p.depth ≡ f)) {m : ℕ} (n : m < 64) (k : m ≡ mask_at kept gains (picked p.depth p.picks)) where
    pub further : p.depth < f
    further = omega (arith, d, y.sound.deep)

    down_same : fixed kept gains f p ≡ pending kept gains f (down m p)
    down_same = fixed_down kept gains f p y.sound m further n k

    pub down_less : 8 * length (pending kept gains f (down m p)) + p.depth < 8 * length (fixed kept gains f p) + 7
    down_less = omega (arith, ap length down_same, further, y.sound.few)

    pub down_ready : TryReady kept gains f (down m p)
    down_ready = record {
      sound = sound_down f p y.sound m further n;
      masks = y.masks;
      room = omega (arith, ap length down_same, y.room);
    }

    pub down_gives : (r : Stepped) → Gives kept gains f (marks p.fixings ++ pending kept gains f (down m p)) r →
        Gives kept gains f (marks p.fixings ++ fixed kept gains f p) r
    down_gives r s = rw down_same s

  -- a whole selection, and the end
  pub whole_gives : FixedReady kept gains f p → (e : p.depth ≡ f) (w : Walk) → w.place ≡ p →
      Gives kept gains f (marks p.fixings ++ fixed kept gains f p) (record { next = w; outcome = Selection })
  whole_gives y e w q = record { given = rw q (y.sound, e, rw (fixed_whole kept gains f p e)) }

  pub end_gives : TryReady kept gains f p → p.depth ≡ 0 → untried p ≡ 0 → (w : Walk) → w.place ≡ p →
      Gives kept gains f (marks p.fixings ++ pending kept gains f p) (record { next = w; outcome = End })
  end_gives y e h w q = record { given = rw q (y.sound, (e, h), rw (pending_none kept gains f p e h) (append-nil (marks p.fixings))) }

-- ---- from a state that was handed back: where every panel is fixed, the last one gives up its trigger, elsewhere nothing changes
pub whole_resumed : (f : ℕ) (p : Place) → p.depth ≡ f → (resumed f p ≡ given_up p) × (levels f p ≡ p.depth)
whole_resumed f p e =
    let q = eq-eqb p.depth f e in
    (ap (λ (b : Bool). cond b (given_up p) p) q, ap (λ (b : Bool). cond b p.depth (suc p.depth)) q)

pub inner_resumed : (f : ℕ) (p : Place) → ¬ (p.depth ≡ f) → (resumed f p ≡ p) × (levels f p ≡ suc p.depth)
inner_resumed f p n =
    let q = ne_eqb p.depth f n in
    (ap (λ (b : Bool). cond b (given_up p) p) q, ap (λ (b : Bool). cond b p.depth (suc p.depth)) q)

module _ {kept : List ℕ} {gains : List (List ℕ)} {f : ℕ} {p : Place} (y : StepReady kept gains f p) where
  pub whole_sound : p.depth ≡ f → FixedSound f p
  whole_sound e = ⊎_elim (λ s. s.0) (λ s. let z : ⊥ = omega (arith, s.deep) in absurd z) y.stands

  pub inner_sound : ¬ (p.depth ≡ f) → Sound f p
  inner_sound n = ⊎_elim (λ s. absurd (n s.1)) (λ s. s) y.stands

  pub whole_ready : p.depth ≡ f → TryReady kept gains f (given_up p)
  whole_ready e = record { sound = sound_given_up f p (whole_sound e); masks = y.masks; room = rw (whole_resumed f p e).0 at y.room }

  pub inner_ready : ¬ (p.depth ≡ f) → TryReady kept gains f p
  inner_ready n = record { sound = inner_sound n; masks = y.masks; room = rw (inner_resumed f p n).0 at y.room }
