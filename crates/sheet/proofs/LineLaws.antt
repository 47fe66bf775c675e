-- Laws of a sheet's lines: members of a list that pass a test, what was not refused, what was read in front of what is left, lists with one
-- more at the end, and entries that their line allows.
use mathlib.Core.Path.{◌≡◌, refl, ap, sym}
use mathlib.Core.List.{List, [], ◌∷◌, ◌++◌, append_assoc}
use mathlib.Core.Bool.{Bool, true, false, cond, ◌||◌}
use Prim.Native.Nat.{ℕ, zero, suc, ◌≤◌, ◌<◌}
use native.Mathlib.Omega.{arith}
use borrow.Author.Tests.{ltb-false}
use lib.Dec.{ltb, eqb}
use lib.IntN.{pos, negsuc}
use lib.ListN.{length, get_or}
use Rattle.maxplus.specs.Entry.{E, absent, num, val}
use Rattle.maxplus.specs.Finite.{each}
use Rattle.maxplus.proofs.EachLaws.{each_at, length_each}
use Rattle.sheet.specs.Good.{Passes}
use Rattle.sheet.specs.Sheet.{Got, got, refused, ◌>>=◌, Content, size, entry, mark, out_of_range, no_size, absent?, any, checked}
use Rattle.cue.specs.Sizes.{size_limit}

-- ---- members that pass a test
pub true_not_false : true ≡ false → ⊥
true_not_false e = let z : ◌≡◌ {A = ℕ} 0 1 = cc in omega arith

pub none_or : (t u : Bool) → t || u ≡ false → (t ≡ false) × (u ≡ false)
none_or true u e = (e, cc)
none_or false u e = (refl, e)

or-true : (t u : Bool) → u ≡ true → t || u ≡ true
or-true true u e = refl
or-true false u e = e

module _ {A : Type 0} (f : A → Bool) (d : A) where
  pub none_at : (l : List A) (j : ℕ) → any f l ≡ false → j < length l → f (get_or l j d) ≡ false
  unfolding any
  none_at [] j e h = absurd (let x : ⊥ = omega arith in x)
  none_at (a ∷ l) zero e h = (none_or (f a) (any f l) e).0
  none_at (a ∷ l) (suc j) e h = none_at l j (none_or (f a) (any f l) e).1 (omega arith)

  pub any_none : (l : List A) → ((j : ℕ) → j < length l → f (get_or l j d) ≡ false) → any f l ≡ false
  unfolding any
  any_none [] h = refl
  any_none (a ∷ l) h = rw (h 0 (omega arith)) (any_none l (λ j q. h (suc j) (omega arith)))

  pub any_at : (l : List A) (j : ℕ) → j < length l → f (get_or l j d) ≡ true → any f l ≡ true
  unfolding any
  any_at [] j h e = absurd (let x : ⊥ = omega arith in x)
  any_at (a ∷ l) zero h e = rw e
  any_at (a ∷ l) (suc j) h e = or-true (f a) (any f l) (any_at l j (omega arith) e)

  pub at_any : (l : List A) → any f l ≡ true → (j : ℕ) × (j < length l) × (f (get_or l j d) ≡ true)
  unfolding any
  at_any [] e = absurd (true_not_false (sym e))
  at_any (a ∷ l) e = go (f a) refl e (at_any l)
    where
      go : (t : Bool) → f a ≡ t → t || any f l ≡ true → (any f l ≡ true → (j : ℕ) × (j < length l) × (f (get_or l j d) ≡ true)) →
          (j : ℕ) × (j < length (a ∷ l)) × (f (get_or (a ∷ l) j d) ≡ true)
      go true p q ih = (0, omega arith, p)
      go false p q ih = let (j, h, r) = ih q in (suc j, omega arith, r)

-- two tests that agree on the members
any_same : {A : Type 0} (f g : A → Bool) (d : A) (l : List A) → ((j : ℕ) → j < length l → f (get_or l j d) ≡ g (get_or l j d)) → any f l ≡ any g l
unfolding any
any_same f g d [] h = refl
any_same f g d (a ∷ l) h = rw (h 0 (omega arith)) (ap (λ b. g a || b) (any_same f g d l (λ j q. h (suc j) (omega arith))))

-- over the places below n
module _ (n : ℕ) (f : ℕ → Bool) where
  pub none_place : any f (each n (λ j. j ∷ [])) ≡ false → (j : ℕ) → j < n → f j ≡ false
  none_place e j h = rw (each_at n j (λ j. j) 0 h) at (none_at f 0 (each n (λ j. j ∷ [])) j e (rw (length_each n (λ j. j)) h))

  pub place_any : (j : ℕ) → j < n → f j ≡ true → any f (each n (λ j. j ∷ [])) ≡ true
  place_any j h e = any_at f 0 (each n (λ j. j ∷ [])) j (rw (length_each n (λ j. j)) h) (rw (each_at n j (λ j. j) 0 h) e)

  pub place_none : ((j : ℕ) → j < n → f j ≡ false) → any f (each n (λ j. j ∷ [])) ≡ false
  place_none e = any_none f 0 (each n (λ j. j ∷ [])) (λ j q.
      let h : j < n = rw (length_each n (λ j. j)) at q in
      rw (each_at n j (λ j. j) 0 h) (e j h))

  pub place_same : (g : ℕ → Bool) → ((j : ℕ) → j < n → f j ≡ g j) → any f (each n (λ j. j ∷ [])) ≡ any g (each n (λ j. j ∷ []))
  place_same g e = any_same f g 0 (each n (λ j. j ∷ [])) (λ j q.
      let h : j < n = rw (length_each n (λ j. j)) at q in
      rw (each_at n j (λ j. j) 0 h) (e j h))

-- ---- what was read was not refused
pub not_got : {A : Type 0} {k : ℕ} {a : A} {s : List ℕ} → refused k ≡ got a s → ⊥
not_got e = let z : ◌≡◌ {A = ℕ} 0 1 = cc in omega arith

pub bind_got : {A B : Type 0} (g : Got A) {f : A → List ℕ → Got B} {b : B} {s : List ℕ} → (g >>= f) ≡ got b s →
    (a : A) × (x : List ℕ) × (g ≡ got a x) × (f a x ≡ got b s)
bind_got (got a x) e = (a, x, refl, e)
bind_got (refused k) e = absurd (not_got e)

module _ {A : Type 0} where
  pub passed : (b : Bool) (k : ℕ) (g : Got A) {a : A} {s : List ℕ} → cond b (refused k) g ≡ got a s → (b ≡ false) × (g ≡ got a s)
  passed true k g e = absurd (not_got e)
  passed false k g e = (refl, e)

  -- ---- what was read, in front of what is left
  abbrev pub onto : List A → Got (List A) → Got (List A)
  onto t (got u s) = got (t ++ u) s
  onto t (refused k) = refused k

  pub onto_onto : (t u : List A) (g : Got (List A)) → onto t (onto u g) ≡ onto (t ++ u) g
  onto_onto t u (got v s) = ap (λ w. got w s) (sym (append_assoc t u v))
  onto_onto t u (refused k) = refl

  pub onto_nil : (g : Got (List A)) → onto [] g ≡ g
  onto_nil (got u s) = refl
  onto_nil (refused k) = refl

  pub front : (a : A) (g : Got (List A)) → (g >>= λ l s. got (a ∷ l) s) ≡ onto (a ∷ []) g
  front a (got l s) = refl
  front a (refused k) = refl

  -- ---- a list with one more at its end
  pub at_last : (l : List A) (a d : A) → get_or (l ++ a ∷ []) (length l) d ≡ a
  at_last [] a d = refl
  at_last (b ∷ l) a d = at_last l a d

  pub at_other : (l : List A) (a d : A) (j : ℕ) → ¬ (j ≡ length l) → get_or l j d ≡ get_or (l ++ a ∷ []) j d
  at_other [] a d zero h = absurd (h refl)
  at_other [] a d (suc j) h = refl
  at_other (b ∷ l) a d zero h = refl
  at_other (b ∷ l) a d (suc j) h = at_other l a d j (λ x. h (ap suc x))

-- ---- entries that their line allows
pub checked_passes : (r : Content) (es : List E) (s : List ℕ) {fs : List E} {x : List ℕ} → checked r es s ≡ got fs x →
    Passes r es × (got es s ≡ got fs x)
unfolding checked
checked_passes size es s e =
    let (a, f) = passed (any absent? es) 2 (cond (any no_size es) (refused 3) (got es s)) e in
    let (b, g) = passed (any no_size es) 3 (got es s) f in
    ((a, b), g)
checked_passes entry es s e = passed (any out_of_range es) 4 (got es s) e
checked_passes mark es s e =
    let (a, f) = passed (any out_of_range es) 4 (cond (any absent? es) (refused 5) (got es s)) e in
    let (b, g) = passed (any absent? es) 5 (got es s) f in
    ((a, b), g)

pub there : (e : E) → absent? e ≡ false → e ≡ num (val e)
unfolding val
there absent h = absurd (true_not_false h)
there (num z) h = refl

-- a good size is a number 1 to 6
pub size_there : (e : E) → absent? e ≡ false → no_size e ≡ false → (m : ℕ) × (e ≡ num (pos (suc m))) × (suc m ≤ size_limit)
size_there absent h g = absurd (true_not_false h)
size_there (num (negsuc n)) h g = absurd (true_not_false g)
size_there (num (pos zero)) h g = absurd (true_not_false g)
size_there (num (pos (suc m))) h g = (m, refl, ltb-false 6 (suc m) (none_or (ltb 6 (suc m)) (eqb (suc m) 0) g).0)
