-- What is still to be given from a place, after a fixing, on the way down and on the way up.
use mathlib.Core.Path.{◌≡◌, refl, ap, ◌∙◌}
use mathlib.Core.List.{List, [], ◌∷◌, ◌++◌, append_assoc, append-nil}
use Prim.Native.Nat.{ℕ, zero, suc, ◌+◌, ◌-◌, ◌*◌, ◌/◌, ◌%◌, ◌^◌, ◌<◌}
use native.Mathlib.Omega.{arith}
use native.Mathlib.Numerals.{add-one}
use native.Mathlib.Nat.{not-suc-le-zero, pow-suc}
use lib.Bits.{bit_and, and_le_l}
use lib.Count.{count_trailing_zeros}
use Rattle.trigger_sets.specs.Sets.{members}
use Rattle.trigger_sets.proofs.MemberLaws.{members_split, members_none, low_in}
use Rattle.walk.specs.Trace.{Event, fixing, whole, for_each, mask_at, run}
use Rattle.walk.specs.State.{marks, picked, Triggers, level, stack, pending, fixed, given_up, Sound, FixedSound, place_at}
use Rattle.walk.specs.declared.Place.{Place}

-- the untried triggers of the panel below those fixed
abbrev pub untried : Place → ℕ
untried p = p.left % 64

-- trigger j of that panel is fixed, and r are the others
abbrev pub fix_at : ℕ → ℕ → Place → Place
fix_at j r p = place_at (p.depth + 1) (p.fixings + 1) (p.left / 64 * 64 + r) (p.picks * 8 + j)

abbrev pub Splits : ℕ → ℕ → ℕ → Type 0
Splits j r m = (j ≡ count_trailing_zeros 8 m) × (r ≡ bit_and m (m - 1))

-- a trigger fixed is one of six
pub split_low : {j r m : ℕ} → 0 < m → m < 64 → Splits j r m → j < 6
split_low {m} h n (e, k) = rw e (low_in m h n)

-- down to the next panel, whose mask is m
abbrev pub down : ℕ → Place → Place
down m p = place_at p.depth p.fixings (p.left * 64 + m) p.picks

-- up to the panel above
abbrev pub up : Place → Place
up p = place_at (p.depth - 1) p.fixings (p.left / 64) (p.picks / 8)

pub mark_more : (n : ℕ) (es : List Event) → marks n ++ fixing ∷ es ≡ marks (n + 1) ++ es
mark_more n es = rw (add-one n) (go n)
  where
    go : (n : ℕ) → marks n ++ fixing ∷ es ≡ marks (suc n) ++ es
    go zero = refl
    go (suc n) = ap (λ (l : List Event). fixing ∷ l) (go n)

module _ (kept : List ℕ) (gains : List (List ℕ)) where
  level_none : (l : ℕ) (p : List ℕ) → level kept gains l 0 p ≡ []
  unfolding level for_each
  level_none l p = rw members_none

  level_some : (l m j r : ℕ) (p : List ℕ) → members m ≡ j ∷ members r →
      level kept gains l m p ≡ (fixing ∷ run kept gains l (p ++ j ∷ [])) ++ level kept gains l r p
  unfolding level for_each
  level_some l m j r p e = rw e

  stack_open : (l d left picks : ℕ) →
      stack kept gains l (suc d) left picks ≡ level kept gains l (left % 64) (picked d picks) ++ stack kept gains (suc l) d (left / 64) (picks / 8)
  unfolding stack
  stack_open l d left picks = refl

  stack_skip : (l d left picks : ℕ) → left % 64 ≡ 0 → stack kept gains l (suc d) left picks ≡ stack kept gains (suc l) d (left / 64) (picks / 8)
  unfolding stack
  stack_skip l d left picks e = rw (e, level_none l (picked d picks))

  -- the deepest open level has j, and r after it
  stack_fix : (l d j r left picks others chosen : ℕ) → members (left % 64) ≡ j ∷ members r →
      others / 64 ≡ left / 64 → others % 64 ≡ r → chosen / 8 ≡ picks → chosen % 8 ≡ j →
      stack kept gains l (suc d) left picks ≡ fixing ∷ (run kept gains l (picked (suc d) chosen) ++ stack kept gains l (suc d) others (chosen / 8))
  unfolding picked
  stack_fix l d j r left picks others chosen e a b x y =
      rw (stack_open l d left picks, stack_open l d others (chosen / 8), a, b, x, y, level_some l (left % 64) j r (picked d picks) e)
      (ap (λ (x : List Event). fixing ∷ x)
      (append_assoc (run kept gains l (picked d picks ++ j ∷ [])) (level kept gains l r (picked d picks))
      (stack kept gains (suc l) d (left / 64) (picks / 8))))

  run_level : (l : ℕ) (q : List ℕ) → run kept gains (suc l) q ≡ level kept gains l (mask_at kept gains q) q
  unfolding run level
  run_level l q = refl

  stack_down : (l d m left picks : ℕ) → m < 64 → m ≡ mask_at kept gains (picked d picks) →
      run kept gains (suc l) (picked d picks) ++ stack kept gains (suc l) d left (picks / 8) ≡ stack kept gains l (suc d) (left * 64 + m) picks
  stack_down l d m left picks h e =
      let a : (left * 64 + m) % 64 ≡ m = omega arith in
      let b : (left * 64 + m) / 64 ≡ left = omega arith in
      rw (stack_open l d (left * 64 + m) picks, a, b, run_level l (picked d picks), ← e)

  module _ (f : ℕ) (p : Place) where
    pub pending_fix : (j r : ℕ) → 0 < untried p → Splits j r (untried p) → pending kept gains f p ≡ fixing ∷ fixed kept gains f (fix_at j r p)
    unfolding pending fixed
    pending_fix j r h (e, k) =
        let m = untried p in
        let n = and_le_l m (m - 1) in
        let i : j < 6 = split_low h (omega arith) (e, k) in
        let d : suc p.depth - 1 ≡ p.depth = omega arith in
        rw (add-one p.depth, d)
        (stack_fix (f - suc p.depth) p.depth j r p.left p.picks (p.left / 64 * 64 + r) (p.picks * 8 + j)
        (rw (e, k) (members_split m h (omega arith))) (omega arith) (omega arith) (omega arith) (omega arith))

    pub pending_up : Sound f p → 0 < p.depth → untried p ≡ 0 → pending kept gains f p ≡ pending kept gains f (up p)
    unfolding pending
    pending_up s h e = go p.depth h s.deep
      where
        go : (d : ℕ) → 0 < d → d < f → stack kept gains (f - suc d) (suc d) p.left p.picks ≡
            stack kept gains (f - suc (d - 1)) (suc (d - 1)) (p.left / 64) (p.picks / 8)
        go zero h k = absurd (not-suc-le-zero h)
        go (suc d) h k =
            let a : suc d - 1 ≡ d = omega arith in
            let b : suc (f - suc (suc d)) ≡ f - suc d = omega arith in
            rw a (stack_skip (f - suc (suc d)) (suc d) p.left p.picks e ∙ rw b)

    pub fixed_down : FixedSound f p → (m : ℕ) → p.depth < f → m < 64 → m ≡ mask_at kept gains (picked p.depth p.picks) →
        fixed kept gains f p ≡ pending kept gains f (down m p)
    unfolding pending fixed
    fixed_down s m h k e =
        let a : f - p.depth ≡ suc (f - suc p.depth) = omega arith in
        let b : suc (p.depth - 1) ≡ p.depth = omega (arith, s.some) in
        rw (b, a) (stack_down (f - suc p.depth) p.depth m p.left p.picks k e)

    pub fixed_whole : p.depth ≡ f → fixed kept gains f p ≡ whole (picked f p.picks) ∷ pending kept gains f (given_up p)
    unfolding fixed run
    fixed_whole e = let a : f - f ≡ 0 = omega arith in rw (e, a)

    pub pending_none : p.depth ≡ 0 → untried p ≡ 0 → pending kept gains f p ≡ []
    unfolding pending stack
    pending_none e h = rw (e, h) (append-nil (level kept gains (f - 1) 0 (picked 0 p.picks)) ∙ level_none (f - 1) (picked 0 p.picks))

-- a pick less
pub triggers_up : (d picks : ℕ) → ¬ (d ≡ 0) → Triggers d picks → (picks % 8 < 6) × Triggers (d - 1) (picks / 8)
triggers_up zero picks n t = absurd (n refl)
triggers_up (suc d) picks n t = let e : suc d - 1 ≡ d = omega arith in rw e t

-- a place stays sound
module _ (f : ℕ) (p : Place) where
  pub sound_fix : Sound f p → (j r : ℕ) → 0 < untried p → Splits j r (untried p) → FixedSound f (fix_at j r p)
  sound_fix s j r h (e, k) =
      let m = untried p in
      let n = and_le_l m (m - 1) in
      let i : j < 6 = split_low h (omega arith) (e, k) in
      let x : (p.picks * 8 + j) % 8 ≡ j = omega arith in
      let y : (p.picks * 8 + j) / 8 ≡ p.picks = omega arith in
      record {
        few = s.few;
        some = omega arith;
        deep = omega (arith, s.deep);
        small = rw (add-one p.depth) (omega (arith, s.small));
        inside = rw (add-one p.depth) (rw x i, rw y s.inside);
      }

  pub sound_down : FixedSound f p → (m : ℕ) → p.depth < f → m < 64 → Sound f (down m p)
  sound_down s m h n = record { few = s.few; deep = h; small = omega (arith, s.small, pow-suc 64 p.depth); inside = s.inside }

  pub sound_up : Sound f p → ¬ (p.depth ≡ 0) → Sound f (up p)
  sound_up s n = record {
    few = s.few;
    deep = omega (arith, s.deep);
    small = go p.depth n s.small;
    inside = (triggers_up p.depth p.picks n s.inside).1;
  }
    where
      go : (d : ℕ) → ¬ (d ≡ 0) → p.left < 64 ^ suc d → p.left / 64 < 64 ^ suc (d - 1)
      go zero n h = absurd (n refl)
      go (suc d) n h = let e : suc d - 1 ≡ d = omega arith in rw e (omega (arith, pow-suc 64 (suc d)))

  pub sound_given_up : FixedSound f p → Sound f (given_up p)
  sound_given_up s =
      let n : ¬ (p.depth ≡ 0) = λ e. let z : ⊥ = omega (arith, s.some) in z in
      let b : suc (p.depth - 1) ≡ p.depth = omega (arith, s.some) in
      record {
        few = s.few;
        deep = omega (arith, s.some, s.deep);
        small = rw b s.small;
        inside = (triggers_up p.depth p.picks n s.inside).1;
      }
