-- Laws of laying lines out: it can be taken back, and it keeps step 7's order.
use mathlib.Core.Path.{◌≡◌, refl, ap, ap₂, sym, ◌∙◌}
use mathlib.Core.Logic.{◌⊎◌, inl, inr}
use mathlib.Core.Bool.{Bool, not}
use mathlib.Core.List.{List, [], ◌∷◌}
use Prim.Native.Nat.{ℕ, zero, suc, ◌≤◌, ◌<◌}
use native.Mathlib.Omega.{arith}
use native.Mathlib.Decide.{dec_lt}
use lib.Dec.{T}
use Rattle.maxplus.specs.Entry.{E, absent}
use Rattle.maxplus.specs.Finite.{In, map_l}
use Rattle.maxplus.specs.Tables.{sup_l}
use Rattle.maxplus.specs.Line.{Line, at, line, lt_E, lt_l}
use Rattle.maxplus.specs.Sorted.{Sorted}
use Rattle.maxplus.proofs.FiniteLaws.{map_in, test}
use Rattle.maxplus.proofs.LineLaws.{line_ext, at_line, at_past, strict}
use Rattle.maxplus.specs.Packing.{rank, place, filled, layout}
use Rattle.maxplus.proofs.PackingLaws.{rank_more, placed, filled_place, filled_rank, filled_other}

-- ---- lists that are mapped
pub map_one : {A C : Type 0} (f : A → C) → ((a b : A) → f a ≡ f b → a ≡ b) → (L M : List A) → map_l f L ≡ map_l f M → L ≡ M
unfolding map_l
map_one f h [] [] e = refl
map_one f h [] (d ∷ M) e = absurd (let z : ◌≡◌ {A = ℕ} 0 1 = cc in let f : ⊥ = omega arith in f)
map_one f h (c ∷ L) [] e = absurd (let z : ◌≡◌ {A = ℕ} 0 1 = cc in let f : ⊥ = omega arith in f)
map_one f h (c ∷ L) (d ∷ M) e =
    let a : f c ≡ f d = cc in
    let b : map_l f L ≡ map_l f M = cc in
    ap₂ ◌∷◌ (h c d a) (map_one f h L M b)

pub sup_l_map : {A C : Type 0} (f : A → C) (L : List A) (g : C → E) → sup_l (map_l f L) g ≡ sup_l L (λ a. g (f a))
unfolding sup_l map_l
sup_l_map f [] g = refl
sup_l_map f (a ∷ L) g = rw (sup_l_map f L g)

-- ---- "sorted by component 1, then 2 and so on": lower where they differ first
pub record First (n : ℕ) (c d : Line n) : Type 0 where
  pub place : ℕ
  pub here : place < n
  pub lower : lt_E (at n c place) (at n d place)
  pub equal : (j : ℕ) → j < place → at n c j ≡ at n d j

pub lt_l_first : (n : ℕ) (c d : Line n) → lt_l n c d → First n c d
unfolding at
lt_l_first zero c d h = absurd h
lt_l_first (suc n) c d (inl h) = record { place = 0; here = omega arith; lower = h; equal = λ j hj. let e : ⊥ = omega arith in absurd e }
lt_l_first (suc n) c d (inr (e, h)) = go (lt_l_first n c.1 d.1 h)
  where
    go : First n c.1 d.1 → First (suc n) c d
    go f = record {
      place = suc f.place;
      here = let q = f.here in omega arith;
      lower = f.lower;
      equal = λ j hj. before j hj;
    }
      where
        before : (j : ℕ) → j < suc f.place → at (suc n) c j ≡ at (suc n) d j
        before zero hj = e
        before (suc j) hj = f.equal j (omega arith)

pub first_lt_l : (n : ℕ) (c d : Line n) → First n c d → lt_l n c d
first_lt_l n c d f = go n c d f.place f.here f.lower f.equal
  where
    go : (n : ℕ) (c d : Line n) (p : ℕ) → p < n → lt_E (at n c p) (at n d p) → ((j : ℕ) → j < p → at n c j ≡ at n d j) → lt_l n c d
    go zero c d p h l e = let x : ⊥ = omega arith in absurd x
    go (suc n) c d zero h l e = inl (unfold at in l)
    go (suc n) c d (suc p) h l e = inr (
      unfold at in e 0 (omega arith),
      go n c.1 d.1 p (omega arith) (unfold at in l) (λ j hj. unfold at in e (suc j) (omega arith)),
    )

-- a line over w places taken back
unfoldable pub unlay : (t : ℕ → Bool) (n w : ℕ) → Line w → Line (rank t n)
unlay t n w l = line (rank t n) (λ k. at w l (place t n k))

-- n places are looked at, m of them pass the test t, and there is room for w
module _ (t : ℕ → Bool) (n w : ℕ) (room : n ≤ w) where
  abbrev m : ℕ
  m = rank t n

  pub layout_at : (c : Line m) (j : ℕ) → j < w → at w (layout t m w c) j ≡ filled t (λ j. absent) (at m c) j
  unfolding layout
  layout_at c j h = at_line w (filled t (λ j. absent) (at m c)) j h

  pub layout_place : (c : Line m) (k : ℕ) → k < m → at w (layout t m w c) (place t n k) ≡ at m c k
  layout_place c k h = layout_at c (place t n k) (let b = (placed t n k h).below in omega arith) ∙ filled_place t n (λ j. absent) (at m c) k h

  pub unlay_layout : (c : Line m) → unlay t n w (layout t m w c) ≡ c
  unfolding unlay
  unlay_layout c = line_ext m _ c (λ k h. at_line m (λ k. at w (layout t m w c) (place t n k)) k h ∙ layout_place c k h)

  pub layout_one : (c d : Line m) → layout t m w c ≡ layout t m w d → c ≡ d
  layout_one c d e = sym (unlay_layout c) ∙ ap (unlay t n w) e ∙ unlay_layout d

  -- where two lines differ first, their layouts do: before it stands what they have in common, or absent
  pub layout_up : (c d : Line m) → lt_l m c d → lt_l w (layout t m w c) (layout t m w d)
  layout_up c d h = first_lt_l w _ _ (go (lt_l_first m c d h))
    where
      go : First m c d → First w (layout t m w c) (layout t m w d)
      go f =
          let p = placed t n f.place f.here in
          record {
            place = place t n f.place;
            here = let b = p.below in omega arith;
            lower = rw (layout_place c f.place f.here, layout_place d f.place f.here) f.lower;
            equal = λ j hj. layout_at c j (let b = p.below in omega arith) ∙ before j hj (test (t j)) ∙
                sym (layout_at d j (let b = p.below in omega arith));
          }
        where
          before : (j : ℕ) → j < place t n f.place → T (t j) ⊎ T (not (t j)) →
              filled t (λ j. absent) (at m c) j ≡ filled t (λ j. absent) (at m d) j
          before j hj (inl u) = filled_rank t (λ j. absent) (at m c) j u ∙
              f.equal (rank t j) (let a = rank_more t j _ hj u in let b = (placed t n f.place f.here).ranked in omega arith) ∙
              sym (filled_rank t (λ j. absent) (at m d) j u)
          before j hj (inr u) = filled_other t (λ j. absent) (at m c) j u ∙ sym (filled_other t (λ j. absent) (at m d) j u)

  -- a sorted list is laid out as a sorted list
  pub layout_sorted : (L : List (Line m)) → Sorted (lt_l m) (strict m) L → Sorted (lt_l w) (strict w) (map_l (layout t m w) L)
  unfolding map_l
  layout_sorted [] s = tt
  layout_sorted (c ∷ L) s = (λ l h. ahead (map_in (layout t m w) L l h), layout_sorted L s.1)
    where
      ahead : {l : Line w} → (d : Line m) × In d L × (l ≡ layout t m w d) → lt_l w (layout t m w c) l
      ahead (d, hd, e) = rw e (layout_up c d (s.0 d hd))

  pub layouts_one : (L M : List (Line m)) → map_l (layout t m w) L ≡ map_l (layout t m w) M → L ≡ M
  layouts_one = map_one (layout t m w) layout_one

-- where no place from n on passes, a line over n places is absent behind them, as its layout is
module _ (t : ℕ → Bool) (n : ℕ) (guard : (j : ℕ) → T (t j) → j < n) (c : Line (rank t n)) where
  pub layout_all : (j : ℕ) → at n (layout t (rank t n) n c) j ≡ filled t (λ j. absent) (at (rank t n) c) j
  layout_all j = go (dec_lt j n)
    where
      go : Dec (j < n) → at n (layout t (rank t n) n c) j ≡ filled t (λ j. absent) (at (rank t n) c) j
      go (yes h) = layout_at t n n (omega arith) c j h
      go (no h) = at_past n _ j (omega arith) ∙ sym (filled_other t (λ j. absent) (at (rank t n) c) j (out (test (t j))))
        where
          out : T (t j) ⊎ T (not (t j)) → T (not (t j))
          out (inl u) = absurd (h (guard j u))
          out (inr u) = u
