-- Laws of a call: when it is wrong, and what is held of one that is not.
use Rattle.std.proofs.Common.{◌≡◌, ℕ, ◌-◌, ◌%◌, min, Bool, true, false, cond, ◌&&◌, List, Option, Some, None, ℤ, sym, refl, arith}
use Rattle.maxplus.specs.Whole.{up}
use Rattle.sheet.specs.Sheet.{Got, got, refused}
use Rattle.argument.specs.Whole.{sole, word_limit}
use Rattle.argument.specs.Inner.{parts, whole_of}
use Rattle.argument.specs.declared.whole.Whole.{Whole}
use Rattle.hire.specs.Call.{Wanted, state?, place?, looked_at, asked}
use Rattle.hire.specs.Inner.{state_of, before_of, held}

some_not_none : {A : Type 0} (x : A) → ◌≡◌ {A = Option A} (Some x) None → ⊥
some_not_none x e = let z : ◌≡◌ {A = ℕ} 0 1 = cc in omega arith

pub some_same : {A : Type 0} (x y : A) → ◌≡◌ {A = Option A} (Some x) (Some y) → x ≡ y
some_same x y e = cc

-- ---- an argument that is no number
panels_wrong_of : (P T S K : Got ℤ) → None ≡ whole_of P → None ≡ held (looked_at P T S K)
panels_wrong_of (got m x) T S K e = absurd (some_not_none _ (sym e))
panels_wrong_of (refused k) T S K e = refl

triggers_wrong_of : (P T S K : Got ℤ) → None ≡ whole_of T → None ≡ held (looked_at P T S K)
triggers_wrong_of (refused k) T S K e = refl
triggers_wrong_of (got m x) (got n y) S K e = absurd (some_not_none _ (sym e))
triggers_wrong_of (got m x) (refused k) S K e = refl

state_wrong_of : (P T S K : Got ℤ) → None ≡ whole_of S → None ≡ held (looked_at P T S K)
state_wrong_of (refused k) T S K e = refl
state_wrong_of (got m x) (refused k) S K e = refl
state_wrong_of (got m x) (got n y) (got s z) K e = absurd (some_not_none _ (sym e))
state_wrong_of (got m x) (got n y) (refused k) K e = refl

number_wrong_of : (P T S K : Got ℤ) → None ≡ whole_of K → None ≡ held (looked_at P T S K)
number_wrong_of (refused k) T S K e = refl
number_wrong_of (got m x) (refused k) S K e = refl
number_wrong_of (got m x) (got n y) (refused k) K e = refl
number_wrong_of (got m x) (got n y) (got s z) (got k u) e = absurd (some_not_none _ (sym e))
number_wrong_of (got m x) (got n y) (got s z) (refused k) e = refl

-- ---- a number that is no state, or no place
state_fails : (a b : Bool) (x : ℕ) (g : Got Wanted) → None ≡ cond a (Some x) None → None ≡ held (cond (a && b) g (refused 2))
state_fails true b x g e = absurd (some_not_none x (sym e))
state_fails false b x g e = refl

place_fails : (a b : Bool) (x : ℕ) (g : Got Wanted) → None ≡ cond b (Some x) None → None ≡ held (cond (a && b) g (refused 2))
place_fails a true x g e = absurd (some_not_none x (sym e))
place_fails true false x g e = refl
place_fails false false x g e = refl

no_state_of : (w : Whole) (P T S K : Got ℤ) → Some w ≡ whole_of S → ((z : ℤ) → w ≡ parts z → None ≡ state_of z) → None ≡ held (looked_at P T S K)
no_state_of w (refused k) T S K e h = refl
no_state_of w (got m x) (refused k) S K e h = refl
no_state_of w (got m x) (got n y) (refused k) K e h = refl
no_state_of w (got m x) (got n y) (got s z) (refused k) e h = refl
no_state_of w (got m x) (got n y) (got s z) (got k u) e h = state_fails (state? s) (place? k) _ _ (h s (some_same _ _ e))

no_place_of : (w : Whole) (P T S K : Got ℤ) → Some w ≡ whole_of K → ((z : ℤ) → w ≡ parts z → None ≡ before_of z) → None ≡ held (looked_at P T S K)
no_place_of w (refused k) T S K e h = refl
no_place_of w (got m x) (refused k) S K e h = refl
no_place_of w (got m x) (got n y) (refused k) K e h = refl
no_place_of w (got m x) (got n y) (got s z) (refused k) e h = refl
no_place_of w (got m x) (got n y) (got s z) (got k u) e h = place_fails (state? s) (place? k) _ _ (h k (some_same _ _ e))

-- ---- a good call
passes : (a : Bool) (x y : ℕ) → Some x ≡ cond a (Some y) None → (a ≡ true) × (x ≡ y)
passes true x y e = (refl, some_same x y e)
passes false x y e = absurd (some_not_none x e)

module _ (a b x d : ℕ) (m n y w : Whole) (sm : (z : ℤ) → m ≡ parts z → a ≡ min (up z) word_limit) (sn : (z : ℤ) → n ≡ parts z → b ≡ min (up z) word_limit)
    (ss : (z : ℤ) → y ≡ parts z → Some x ≡ state_of z) (sk : (z : ℤ) → w ≡ parts z → Some d ≡ before_of z) where
  call_held_of : (P T S K : Got ℤ) → Some m ≡ whole_of P → Some n ≡ whole_of T → Some y ≡ whole_of S → Some w ≡ whole_of K →
      Some (record { panels = a; triggers = b; state = x; before = d }) ≡ held (looked_at P T S K)
  call_held_of (refused j) T S K em en es ek = absurd (some_not_none _ em)
  call_held_of (got p _) (refused j) S K em en es ek = absurd (some_not_none _ en)
  call_held_of (got p _) (got t _) (refused j) K em en es ek = absurd (some_not_none _ es)
  call_held_of (got p _) (got t _) (got z _) (refused j) em en es ek = absurd (some_not_none _ ek)
  call_held_of (got p _) (got t _) (got z _) (got u _) em en es ek =
      let (is_state, state) = passes (state? z) x (up z) (ss z (some_same _ _ es)) in
      let (is_place, before) = passes (place? u) d ((up u - 1) % word_limit) (sk u (some_same _ _ ek)) in
      rw (is_state, is_place) (λ i. Some (record {
        panels = sm p (some_same _ _ em) i;
        triggers = sn t (some_same _ _ en) i;
        state = state i;
        before = before i;
      }))

  pub call_held : (p t s k : List ℕ) → Some m ≡ whole_of (sole p) → Some n ≡ whole_of (sole t) → Some y ≡ whole_of (sole s) → Some w ≡ whole_of (sole k) →
      Some (record { panels = a; triggers = b; state = x; before = d }) ≡ held (asked p t s k)
  unfolding asked
  call_held p t s k = call_held_of (sole p) (sole t) (sole s) (sole k)

-- ---- the same of the arguments
module _ (p t s k : List ℕ) where
  pub panels_wrong : None ≡ whole_of (sole p) → None ≡ held (asked p t s k)
  unfolding asked
  panels_wrong = panels_wrong_of (sole p) (sole t) (sole s) (sole k)

  pub triggers_wrong : None ≡ whole_of (sole t) → None ≡ held (asked p t s k)
  unfolding asked
  triggers_wrong = triggers_wrong_of (sole p) (sole t) (sole s) (sole k)

  pub state_wrong : None ≡ whole_of (sole s) → None ≡ held (asked p t s k)
  unfolding asked
  state_wrong = state_wrong_of (sole p) (sole t) (sole s) (sole k)

  pub number_wrong : None ≡ whole_of (sole k) → None ≡ held (asked p t s k)
  unfolding asked
  number_wrong = number_wrong_of (sole p) (sole t) (sole s) (sole k)

  pub no_state : (w : Whole) → Some w ≡ whole_of (sole s) → ((z : ℤ) → w ≡ parts z → None ≡ state_of z) → None ≡ held (asked p t s k)
  unfolding asked
  no_state w = no_state_of w (sole p) (sole t) (sole s) (sole k)

  pub no_place : (w : Whole) → Some w ≡ whole_of (sole k) → ((z : ℤ) → w ≡ parts z → None ≡ before_of z) → None ≡ held (asked p t s k)
  unfolding asked
  no_place w = no_place_of w (sole p) (sole t) (sole s) (sole k)
