-- Laws of spreading over the levels: what comes of rays are rays of one level more, below each vector that keeps the order and meets the levels
-- there is one, and so the lines of each trigger's rays generate the cone.
use mathlib.Core.Path.{◌≡◌, refl, ap, ap₂, sym, subst, ◌∙◌}
use mathlib.Core.Logic.{inl, inr}
use mathlib.Core.Bool.{Bool, true, false}
use mathlib.Core.List.{List, [], ◌∷◌, ◌++◌, append_assoc, append-nil}
use Prim.Native.Nat.{ℕ, ◌+◌, ◌≤◌, ◌<◌}
use native.Mathlib.Omega.{arith}
use native.Mathlib.Decide.{ℕ_discrete, dec_lt}
use lib.Dec.{T, ltb, lt→ltb}
use lib.ListN.{length, get_or, set, take}
use native.Mathlib.Numerals.{add-one}
use lib.Seq.{get_or-set_same, get_or-take, length-take-le, take-suc}
use Rattle.maxplus.specs.Entry.{E, num, ◌≼◌, ◌⊗◌, ◌⊕◌, inv, unit, Present}
use Rattle.maxplus.specs.Finite.{In, map_l}
use Rattle.maxplus.specs.Tables.{Vec, normal}
use Rattle.maxplus.specs.Line.{Line}
use Rattle.maxplus.specs.Sorted.{sift}
use Rattle.maxplus.proofs.EntryLaws.{◌▸◌, ≼_of, ≼_back, ⊕_l, ⊕_r, ⊗_right, ⊗_unit_r, inv_num}
use Rattle.maxplus.proofs.FiniteLaws.{in_app, in_left, in_right, in_at, in_place, in_map, map_in}
use Rattle.maxplus.proofs.EachLaws.{map_append}
use Rattle.maxplus.proofs.StarLaws.{star_diag}
use Rattle.words.specs.Words.{entry}
use Rattle.words.specs.declared.LineWords.{LineWords}
use Rattle.words.proofs.Laws.{entry_mono, entry_reflects}
use Rattle.cue.specs.Cue.{Cue}
use Rattle.cue.specs.Sizes.{size_limit}
use Rattle.cue.specs.Vectors.{Keeps}
use Rattle.cue.specs.Method.{through, pull, least, floor_panels, ask, kept}
use Rattle.cue.proofs.Walk.{and_of, and_r, floor_panels_in, in_floor_panels}
use Rattle.cue.proofs.Candidates.{Served, kept_mark}
use Rattle.cue.proofs.Rays.{on_mark_as, first_ray, joined, first_on_mark, joined_on_mark, joined_below, Ray, ray_line, Covers, covers_generate}
use Rattle.cue.proofs.Rays.{above_first, ray_extreme}
use Rattle.cue.specs.Closures.{Common}
use Rattle.sheet.specs.Sizes.{starred_size, shifted_size}
use Rattle.tables.specs.Held.{meant, meant_v, Closely, CloselyV}
use Rattle.tables.specs.Lines.{line_of, Sized, Carries}
use Rattle.tables.proofs.LineLaws.{written_line}
use Rattle.trigger_sets.specs.Sets.{Has}
use Rattle.candidates.specs.Drawable.{Drawable}
use Rattle.candidates.specs.declared.Marks.{Marks}
use Rattle.buffer.specs.Buffer.{room, row, held}
use Rattle.rays.specs.Rays.{places, Under, Covered, Meets, joined_of, Raised, Next, NextCovered, Expanded, Added, Rows}
use Rattle.gather.specs.Gathering.{first, Gathered, drawn, Sure, Met, RayTo, RaysTo, Below, Spread, Whole, CarriedTo, Considered, Turned, Filled}
use Rattle.buffer.proofs.HeldLaws.{held_row, stored_as}
use Rattle.gather.proofs.GatherLaws.{gathered_as, first_all}

under_below : {n : ℕ} {a w : List ℕ} {b : Vec} → n ≤ size_limit → Under a w → Below n w b → Below n a b
unfolding meant_v
under_below {a = a} {w} h u k j hj = entry_mono (get_or a j 0) (get_or w j 0) (u.at j (omega arith)) ▸ (unfold meant_v in k j hj)

-- the words of what comes of rays
pub next_rows : {n from to mask found : ℕ} {wants : List ℕ} {stars s next : List (List ℕ)} → Rows n to s →
    Expanded s from to mask wants stars n next found → Rows n found next
next_rows {n} {stars = stars} {s} {next} r x = record {
  sized = λ k h. let (i, hi, q) = x.made k h in elim q [ inl t ↦ rw t.0 (r.sized i hi) | inr t ↦ t.raised.sized ];
  close = λ k h. let (i, hi, q) = x.made k h in elim q [ inl t ↦ rw t.0 (r.close i hi) | inr t ↦ t.raised.close ];
}

pub rows_part : {n to many : ℕ} {s : List (List ℕ)} → to ≤ many → Rows n many s → Rows n to s
rows_part h r = record { sized = λ k l. r.sized k (omega arith); close = λ k l. r.close k (omega arith) }

-- what a level wants, by its row
pub level_wants : {m n c l : ℕ} {t : List (List ℕ)} → l < m → Closely m n c t → CloselyV n c (get_or t l [])
level_wants h k = record { at = λ j hj. k.at _ j h hj }

module _ {M : Marks} {stars lags needs : List (List ℕ)} {P : Cue} (g : Drawable M.triggers P M stars lags needs) where
  abbrev n : ℕ
  n = M.triggers

  -- the l-th panel with a floor
  abbrev panel : ℕ → ℕ
  panel l = get_or (floor_panels n P) l 0

  -- ---- a level's mask is its panel's kept triggers, and its needs are what the panel asks of them
  mask_kept : (l j : ℕ) → l < M.levels → j < n → Has (get_or M.kept l 0) j → T (kept n P (least n P) (panel l) j)
  mask_kept l j hl hj t = and_r (ltb j n) _ (subst T (g.masks l j hl (omega (arith, g.few))) t)

  kept_mask : (l j : ℕ) → l < M.levels → j < n → T (kept n P (least n P) (panel l) j) → Has (get_or M.kept l 0) j
  kept_mask l j hl hj t = subst T (sym (g.masks l j hl (omega (arith, g.few)))) (and_of (ltb j n) _ (lt→ltb j n hj) t)

  panel_there : (l : ℕ) → l < M.levels → (panel l < P.panels) × Present (P.floor (panel l))
  panel_there l h = floor_panels_in n P (panel l) (in_at 0 (floor_panels n P) l (omega (arith, g.levels)))

  level_of : (i : ℕ) → i < P.panels → Present (P.floor i) → (l : ℕ) × (l < M.levels) × (panel l ≡ i)
  level_of i hi p = let (l, hl, e) = in_place 0 (floor_panels n P) i (in_floor_panels n P i hi p) in (l, omega (arith, g.levels), e)

  met_served : {b : Vec} → ((l : ℕ) → l < M.levels → Met M needs l b) → Served n P (least n P) b
  met_served {b} f i hi p =
      let (l, hl, e) = level_of i hi p in
      let (j, hj, m, y) = f l hl in (
        j,
        hj,
        subst (λ i. T (kept n P (least n P) i j)) e (mask_kept l j hl hj m),
        subst (λ i. ask n P (least n P) i ⊗ inv (through n P i j) ≼ b j) e (≼_back (g.needed l j hl hj) ▸ y),
      )

  served_met : {b : Vec} → Served n P (least n P) b → (l : ℕ) → l < M.levels → Met M needs l b
  served_met f l hl = let (hi, p) = panel_there l hl in let (j, hj, k, y) = f (panel l) hi p in
      (j, hj, kept_mask l j hl hj k, ≼_of (g.needed l j hl hj) ▸ y)

  -- what is wanted of a kept trigger is no later than its new due mark
  want_marked : (l j : ℕ) → l < M.levels → j < n → Has (get_or M.kept l 0) j → meant needs l j ⊗ num (pull n P j) ≼ unit
  want_marked l j hl hj m = ≼_of (ap (λ a. a ⊗ num (pull n P j)) (g.needed l j hl hj)) ▸
      kept_mark n P (least n P) (panel l) j (mask_kept l j hl hj m)

  -- words joined with a column are the ray joined with it
  joined_is : (x : Vec) (a : E) (s j : ℕ) → s < n → j < n → joined_of (meant stars) x a s j ≡ joined n P x a s j
  unfolding joined_of joined
  joined_is x a s j hs hj = ap (λ b. x j ⊕ a ⊗ b) (g.starred.at j s hj hs)

  diagonal : (s : ℕ) → s < n → unit ≼ meant stars s s
  diagonal s hs = star_diag n P.order s hs ▸ ≼_back (g.starred.at s s hs hs)

  ray_of : {t : ℕ} {w : List ℕ} → RayTo M stars needs t M.levels w → Ray M.triggers P t (meant_v w)
  ray_of r = record { on = r.on P lags g; served = met_served (r.met P lags g) }

-- ---- rays of one level more
module _ {M : Marks} {stars needs : List (List ℕ)} {t l : ℕ} (hl : l < M.levels) where
  -- a ray that meets the level
  stays_ray : {x : List ℕ} → RayTo M stars needs t l x → Meets M.triggers x (get_or M.kept l 0) (get_or needs l []) → RayTo M stars needs t (l + 1) x
  unfolding meant meant_v
  stays_ray {x} b (j, hj, q, y) = record {
    trigger = b.trigger;
    sized = b.sized;
    close = b.close;
    on = λ P lags p. b.on P lags p;
    met = λ P lags p k h. elim (ℕ_discrete k l) [
      | yes e ↦ rw e (j, hj, q, entry_mono _ _ y)
      | no d ↦ b.met P lags p k (omega arith)
    ];
  }

  -- one that is raised
  raised_ray : {x v : List ℕ} {s : ℕ} → RayTo M stars needs t l x → s < M.triggers → Has (get_or M.kept l 0) s →
      Raised M.triggers x (get_or M.kept l 0) (get_or needs l []) stars s v → RayTo M stars needs t (l + 1) v
  raised_ray {x} {v} {s} b hs q w = record {
    trigger = b.trigger;
    sized = w.sized;
    close = w.close;
    on = λ P lags p. on_mark_as M.triggers P t _ (meant_v v) b.trigger
        (λ j hj. sym (w.is.at j hj ∙ joined_is p (meant_v x) (meant_v (get_or needs l []) s) s j hs hj))
        (joined_on_mark M.triggers P p.order t (meant_v x) (meant_v (get_or needs l []) s) s hs
        (unfold meant meant_v in want_marked p l s hl hs q) (b.on P lags p));
    met = λ P lags p k h. elim (ℕ_discrete k l) [
      | yes e ↦ rw e (
        s,
        hs,
        q,
        (unfold meant meant_v joined_of in (≼_back (⊗_unit_r _) ▸ ⊗_right _ (unfold meant in diagonal p s hs) ▸ ⊕_r _ _ ▸
            ≼_back (unfold meant meant_v joined_of in w.is.at s hs))),
      )
      | no d ↦ let (i, hi, m, y) = b.met P lags p k (omega arith) in
          (i, hi, m, y ▸ (unfold joined_of in (⊕_l _ _ ▸ ≼_back (unfold joined_of in w.is.at i hi))))
    ];
  }

  next_ray : {x v : List ℕ} → RayTo M stars needs t l x → Next M.triggers x (get_or M.kept l 0) (get_or needs l []) stars v →
      RayTo M stars needs t (l + 1) v
  next_ray b (inl (e, m)) = rw e (stays_ray b m)
  next_ray b (inr r) = raised_ray b r.below r.kept r.raised

  stay_rays : (s : List (List ℕ)) {many : ℕ} → ((k : ℕ) → k < many → Meets M.triggers (row s k) (get_or M.kept l 0) (get_or needs l [])) →
      RaysTo M stars needs t l s many → RaysTo M stars needs t (l + 1) s many
  stay_rays s m b k h = stays_ray (b k h) (m k h)

  spread_rays : {s next : List (List ℕ)} {from to many found : ℕ} → to ≤ many →
      Expanded s from to (get_or M.kept l 0) (get_or needs l []) stars M.triggers next found →
      RaysTo M stars needs t l s many → RaysTo M stars needs t (l + 1) next found
  spread_rays h x b k hk = let (i, hi, q) = x.made k hk in next_ray (b i (omega arith)) q

-- what keeps the order, meets a level and has a ray below it that had its turn has one of those that came of it below it
next_below : {M : Marks} {stars lags needs : List (List ℕ)} {P : Cue} {from to found : ℕ} {s next : List (List ℕ)} {v : Vec}
    (l : ℕ) → Drawable M.triggers P M stars lags needs →
    Expanded s from to (get_or M.kept l 0) (get_or needs l []) stars M.triggers next found → Keeps M.triggers P.order v →
    Met M needs l v → {k : ℕ} → from ≤ k → k < to → Below M.triggers (row s k) v →
    (i : ℕ) × (i < found) × Below M.triggers (row next i) v
next_below {M} {stars} {lags} {needs} {P} {found = found} {s} {next} {v} l p x o m {k} h i d = go (x.new k h i)
  where
    below : {w : List ℕ} → Covered next found w → Below M.triggers w v → (i : ℕ) × (i < found) × Below M.triggers (row next i) v
    below c u = (c.place, c.there, under_below p.few c.under u)

    go : NextCovered M.triggers (row s k) (get_or M.kept l 0) (get_or needs l []) stars next found →
        (i : ℕ) × (i < found) × Below M.triggers (row next i) v
    go (inl c) = below c d
    go (inr f) = let (j, hj, q, y) = m in let (u, e, c) = f j hj q in
        below c (λ i hi. ≼_of (e.is.at i hi ∙ joined_is p (meant_v (row s k)) (meant_v (get_or needs l []) j) j i hj hi) ▸
        joined_below M.triggers P (meant_v (row s k)) v (meant_v (get_or needs l []) j) j hj o d (unfold meant meant_v in y) i hi)

-- ---- the least rays of a trigger
-- one level more
pub whole_more : {M : Marks} {stars needs : List (List ℕ)} {t l many found : ℕ} {s next : List (List ℕ)} → l < M.levels →
    Expanded s 0 many (get_or M.kept l 0) (get_or needs l []) stars M.triggers next found → Whole M stars needs t l s many →
    Whole M stars needs t (l + 1) next found
whole_more {l = l} {many} hl x w = record {
  rays = spread_rays hl (omega arith) x w.rays;
  apart = x.apart w.apart;
  covers = λ P lags p b o m f. let (k, hk, u) = w.covers P lags p b o (λ k h. m k (omega arith)) f in
      next_below l p x o (m l (omega arith)) (omega arith) hk u;
}

pub whole_rows : {M : Marks} {stars needs : List (List ℕ)} {t l many : ℕ} {s : List (List ℕ)} → Whole M stars needs t l s many →
    Rows M.triggers many s
whole_rows w = record { sized = λ k h. (w.rays k h).sized; close = λ k h. (w.rays k h).close }

-- carried on to a level: to none, to one more, and no further
module _ {M : Marks} {stars needs first : List (List ℕ)} where
  pub carried_none : length first ≡ places → Rows M.triggers 1 first → CarriedTo M stars needs first first 0 1
  carried_none z r = record { so_far = omega arith; few = omega arith; size = z; words = r; whole = λ t w. w }

  module _ {level many : ℕ} {s after : List (List ℕ)} where
    pub carried_more : {r : ℕ} → level < M.levels →
        Added s many (get_or M.kept level 0) (get_or needs level []) stars M.triggers after r true → CarriedTo M stars needs first s level many →
        CarriedTo M stars needs first after (level + 1) r
    carried_more hl x v = record {
      so_far = omega arith;
      few = x.few;
      size = x.size;
      words = next_rows v.words x;
      whole = λ t w. whole_more hl x (v.whole t w);
    }

  pub carried_end : {level many : ℕ} {s : List (List ℕ)} → level ≡ M.levels → CarriedTo M stars needs first s level many →
      CarriedTo M stars needs first s M.levels many
  carried_end {level} {many} {s} e v = subst (λ l. CarriedTo M stars needs first s l many) e v

-- words that lie below others by their entries
below_under : {n : ℕ} {a w : List ℕ} → Sized n a → Sized n w → Below n a (meant_v w) → Under a w
unfolding meant_v
below_under {n} {a} {w} za zw h = record {
  at = λ j hj. elim (dec_lt j n) [ yes l ↦ entry_reflects (get_or a j 0) (get_or w j 0) (h j l) | no l ↦ rw (za.past j (omega arith)) (omega arith) ];
}

-- With all levels each of them is extreme: below a ray of t that lies below one of them there is again one of them, which can only be itself.
pub whole_extreme : {M : Marks} {stars lags needs : List (List ℕ)} {P : Cue} {t many : ℕ} {s : List (List ℕ)} → t < M.triggers →
    Drawable M.triggers P M stars lags needs → Whole M stars needs t M.levels s many → Sure true M.triggers P s many
unfolding drawn ray_line
whole_extreme {M} {stars} {lags} {needs} {P} {t} {many} {s} ht p w e k hk =
    ray_extreme M.triggers P p.order t ht (meant_v (row s k)) (ray_of p (w.rays k hk)) least_one
  where
    least_one : (y : Vec) → Ray M.triggers P t y → ((j : ℕ) → j < M.triggers → y j ≼ meant_v (row s k) j) →
        (j : ℕ) → j < M.triggers → meant_v (row s k) j ≼ y j
    least_one y r u = go (w.covers P lags p y r.on.ordered (served_met p r.served) (above_first M.triggers P t ht y r.on))
      where
        go : (i : ℕ) × (i < many) × Below M.triggers (row s i) y → (j : ℕ) → j < M.triggers → meant_v (row s k) j ≼ y j
        go (i, hi, d) = elim (ℕ_discrete i k) [
          | yes q ↦ subst (λ i. Below M.triggers (row s i) y) q d
          | no q ↦ absurd (w.apart.at i k hi hk q
              (below_under (w.rays i hi).sized (w.rays k hk).sized (λ j hj. d j hj ▸ u j hj)))
        ]

pub whole_sure : {M : Marks} {stars lags needs : List (List ℕ)} {P : Cue} {t level many : ℕ} {s : List (List ℕ)} → t < M.triggers →
    Drawable M.triggers P M stars lags needs → level ≡ M.levels → Whole M stars needs t level s many → Sure true M.triggers P s many
whole_sure {M} {stars} {needs = needs} {t = t} {many = many} {s} ht p e w = whole_extreme ht p (subst (λ l. Whole M stars needs t l s many) e w)

-- ---- the lines of a set's rays: those of the first k rays have been considered
pub record DrawnTo (M : Marks) (stars lags : List (List ℕ)) (last : List ℕ) (s : List (List ℕ)) (many : ℕ) (known : Bool) (len₀ : ℕ)
    (buf₀ : List (List ℕ)) (k len : ℕ) (buf : List (List ℕ)) : Type 0 where
  pub so_far : k ≤ many
  pub gathered : (P : Cue) (needs : List (List ℕ)) (C : List (Line M.triggers)) → Drawable M.triggers P M stars lags needs →
      Sure known M.triggers P s many → Gathered M.triggers P last C len₀ buf₀ →
      Gathered M.triggers P last (C ++ map_l (drawn M.triggers) (take k s)) len buf

all_none : {A B : Type 0} (f : A → B) (C : List B) → C ≡ C ++ map_l f []
unfolding map_l
all_none f C = sym (append-nil C)

all_snoc : {A B : Type 0} (f : A → B) (C : List B) (W : List A) (w : A) → (C ++ map_l f W) ++ f w ∷ [] ≡ C ++ map_l f (W ++ w ∷ [])
unfolding map_l
all_snoc f C W w = append_assoc C _ _ ∙ ap (λ l. C ++ l) (sym (map_append f W (w ∷ [])))

-- the line of a ray's shifted words
drawn_line : {n d : ℕ} (w : List ℕ) {r : LineWords} → Carries n d (normal n (meant_v w)) r → line_of n r.at ≡ drawn n w
unfolding drawn
drawn_line w c = written_line c.words.is

module _ {M : Marks} {stars lags : List (List ℕ)} {last : List ℕ} {s : List (List ℕ)} {many len₀ : ℕ} {known : Bool}
    {buf₀ : List (List ℕ)} where
  pub drawn_to_none : DrawnTo M stars lags last s many known len₀ buf₀ 0 len₀ buf₀
  drawn_to_none = record { so_far = omega arith; gathered = λ P needs C p h g. gathered_as g (all_none (drawn M.triggers) C) }

  module _ {k len : ℕ} {buf : List (List ℕ)} (d : DrawnTo M stars lags last s many known len₀ buf₀ k len buf) where
    pub drawn_to_more : k < many → many ≤ length s → {r : LineWords} {more : ℕ} {after : List (List ℕ)} →
        Carries M.triggers shifted_size (normal M.triggers (meant_v (row s k))) r →
        ((P : Cue) (needs : List (List ℕ)) (C : List (Line M.triggers)) → Drawable M.triggers P M stars lags needs →
        (known ≡ true → Common M.triggers P (least M.triggers P) (line_of M.triggers r.at)) →
        Gathered M.triggers P last C len buf → Gathered M.triggers P last (C ++ line_of M.triggers r.at ∷ []) more after) →
        DrawnTo M stars lags last s many known len₀ buf₀ (k + 1) more after
    drawn_to_more h z e f = record {
      so_far = omega arith;
      gathered = λ P needs C p q g. gathered_as
          (f P needs _ p (λ i. subst (Common M.triggers P (least M.triggers P)) (sym (drawn_line (row s k) e)) (q i k h))
          (d.gathered P needs C p q g))
          (ap (λ c. (C ++ map_l (drawn M.triggers) (take k s)) ++ c ∷ []) (drawn_line (row s k) e) ∙
          all_snoc (drawn M.triggers) C (take k s) (row s k) ∙
          ap (λ W. C ++ map_l (drawn M.triggers) W) (sym (rw add-one (take-suc s k [] (omega arith)))));
    }

    pub drawn_to_end : many ≤ k → DrawnTo M stars lags last s many known len₀ buf₀ many len buf
    drawn_to_end h = let e : k ≡ many = omega (arith, d.so_far) in
        subst (λ k. DrawnTo M stars lags last s many known len₀ buf₀ k len buf) e d

-- nothing is known
pub not_sure : (n : ℕ) (P : Cue) (s : List (List ℕ)) (many : ℕ) → Sure false n P s many
not_sure n P s many e = let z : ◌≡◌ {A = ℕ} 0 1 = cc in let x : ⊥ = omega arith in absurd x

-- the rays of a set, as a list
set_rays : {M : Marks} {stars needs : List (List ℕ)} {t l many : ℕ} (s : List (List ℕ)) → many ≤ length s → RaysTo M stars needs t l s many →
    (w : List ℕ) → In w (take many s) → RayTo M stars needs t l w
set_rays {M} {stars} {needs} {t} {l} {many} s z b w i = let (k, hk, q) = in_place [] (take many s) w i in
    let h : k < many = omega (arith, length-take-le many s z) in
    subst (λ w. RayTo M stars needs t l w) (sym (get_or-take many s k [] h) ∙ q) (b k h)

-- ---- spreading
module _ {M : Marks} {stars lags needs : List (List ℕ)} {last : List ℕ} {s : List (List ℕ)} {from many level len : ℕ} {buf : List (List ℕ)} where
  -- at the last level the rays are those of the set
  pub spread_end : {r : ℕ} {after : List (List ℕ)} → many ≤ length s → level ≡ M.levels →
      ((P : Cue) (needs : List (List ℕ)) (C : List (Line M.triggers)) → Drawable M.triggers P M stars lags needs →
      Sure false M.triggers P s many → Gathered M.triggers P last C len buf →
      Gathered M.triggers P last (C ++ map_l (drawn M.triggers) (take many s)) r after) →
      Spread M stars lags needs last s from many level len buf r after
  spread_end z e f = record {
    used = take many s;
    rays = λ t b. set_rays s z (subst (λ l. RaysTo M stars needs t l s many) e b);
    gathered = λ P C p g. f P needs C p (not_sure M.triggers P s many) g;
    covers = λ P p v o m k h l d. (row s k, held_row M.triggers s many k z l, d);
  }

  -- no ray is left
  pub spread_none : many ≤ from → Spread M stars lags needs last s from many level len buf len buf
  spread_none h = record {
    used = [];
    rays = λ t b w i. absurd i;
    gathered = λ P C p g. gathered_as g (all_none (drawn M.triggers) C);
    covers = λ P p v o m k l i. let e : ⊥ = omega arith in absurd e;
  }

  -- all of them meet the level
  pub spread_stay : {r : ℕ} {after : List (List ℕ)} → level < M.levels →
      ((k : ℕ) → k < many → Meets M.triggers (row s k) (get_or M.kept level 0) (get_or needs level [])) →
      Spread M stars lags needs last s 0 many (level + 1) len buf r after → Spread M stars lags needs last s from many level len buf r after
  spread_stay hl m a = record {
    used = a.used;
    rays = λ t b. a.rays t (stay_rays hl s m b);
    gathered = a.gathered;
    covers = λ P p v o q k h l d. a.covers P p v o (λ l hl. q l (omega arith)) k (omega arith) l d;
  }

  -- the rays up to a place with one panel more, and then the others
  pub spread_more : {to found held r : ℕ} {next mid after : List (List ℕ)} → level < M.levels → to ≤ many →
      Expanded s from to (get_or M.kept level 0) (get_or needs level []) stars M.triggers next found →
      Spread M stars lags needs last next 0 found (level + 1) len buf held mid →
      Spread M stars lags needs last s to many level held mid r after →
      Spread M stars lags needs last s from many level len buf r after
  spread_more {to} {found} {next = next} hl ht x a c = record {
    used = a.used ++ c.used;
    rays = λ t b w i. elim (in_app a.used c.used w i) [ inl h ↦ a.rays t (spread_rays hl ht x b) w h | inr h ↦ c.rays t b w h ];
    gathered = λ P C p q. gathered_as (c.gathered P _ p (a.gathered P C p q)) (append_assoc C _ _ ∙
        ap (λ l. C ++ l) (sym (map_append (drawn M.triggers) a.used c.used)));
    covers = λ P p v o m k h l d. elim (dec_lt k to) [
      | yes i ↦ let (w, q, u) = early P p v o m k h i d in (w, in_left a.used c.used w q, u)
      | no i ↦ let (w, q, u) = c.covers P p v o m k (omega arith) l d in (w, in_right a.used c.used w q, u)
    ];
  }
    where
      early : (P : Cue) → Drawable M.triggers P M stars lags needs → (v : Vec) → Keeps M.triggers P.order v →
          ((l : ℕ) → level ≤ l → l < M.levels → Met M needs l v) → (k : ℕ) → from ≤ k → k < to →
          Below M.triggers (row s k) v → (w : List ℕ) × In w a.used × Below M.triggers w v
      early P p v o m k h i d = let (q, hq, u) = next_below level p x o (m level (omega arith) hl) h i d in
          a.covers P p v o (λ l hl. m l (omega arith)) q (omega arith) hq u

first_row : (s : List (List ℕ)) (w : List ℕ) → length s ≡ places → row (set s 0 w) 0 ≡ w
first_row s w z = get_or-set_same s 0 w [] (rw z (omega arith))

-- ---- column t at r(t) is a ray of no level
module _ (M : Marks) (stars needs : List (List ℕ)) {t : ℕ} (ht : t < M.triggers) {f : LineWords}
    (c : Carries M.triggers starred_size (λ i. meant stars i t ⊗ inv (entry (get_or M.pulls t 0))) f) where
  first_is : (P : Cue) (lags : List (List ℕ)) → Drawable M.triggers P M stars lags needs → (i : ℕ) → i < M.triggers →
      first_ray M.triggers P t i ≡ meant_v f.at i
  unfolding first_ray
  first_is P lags p i hi = sym (c.words.is.at i hi ∙ ap₂ ◌⊗◌ (p.starred.at i t hi ht) (ap inv word ∙ inv_num (pull M.triggers P t)))
    where
      word : entry (get_or M.pulls t 0) ≡ num (pull M.triggers P t)
      word = unfold meant_v in p.pulled.at t ht

  first_to : RayTo M stars needs t 0 f.at
  first_to = record {
    trigger = ht;
    sized = c.words.sized;
    close = c.words.close;
    on = λ P lags p. on_mark_as M.triggers P t _ (meant_v f.at) ht (first_is P lags p) (first_on_mark M.triggers P p.order t ht);
    met = λ P lags p k h. let e : ⊥ = omega arith in absurd e;
  }

  pub whole_first : (s : List (List ℕ)) → length s ≡ places → Whole M stars needs t 0 (set s 0 f.at) 1
  whole_first s z = record {
    rays = λ k h. let e : k ≡ 0 = omega arith in rw (e, first_row s f.at z) first_to;
    apart = record { at = λ i j hi hj d. let e : ⊥ = d (omega arith) in absurd e };
    covers = λ P lags p b o m l.
        (0, omega arith, λ j hj. rw (first_row s f.at z) (≼_back (first_is P lags p j hj) ▸ l j hj));
  }

-- ---- the lines of a trigger's rays: those of a whole set with all levels, or of what came of it in parts
module _ {M : Marks} {stars lags needs : List (List ℕ)} {last : List ℕ} {s : List (List ℕ)} {t level many len r : ℕ} {buf after : List (List ℕ)} where
  pub considered_whole : t < M.triggers → many ≤ length s → level ≡ M.levels → Whole M stars needs t level s many →
      ((P : Cue) (needs : List (List ℕ)) (C : List (Line M.triggers)) → Drawable M.triggers P M stars lags needs →
      Sure true M.triggers P s many → Gathered M.triggers P last C len buf →
      Gathered M.triggers P last (C ++ map_l (drawn M.triggers) (take many s)) r after) →
      Considered M stars lags needs last t len buf r after
  considered_whole ht z e v f = record {
    used = take many s;
    rays = set_rays s z w.rays;
    gathered = λ P C p g. f P needs C p (whole_extreme ht p w) g;
    covers = λ P p b o m l. let (k, hk, u) = w.covers P lags p b o m l in (row s k, held_row M.triggers s many k z hk, u);
  }
    where
      w : Whole M stars needs t M.levels s many
      w = subst (λ l. Whole M stars needs t l s many) e v

  pub considered_parts : level ≤ M.levels → Whole M stars needs t level s many →
      Spread M stars lags needs last s 0 many level len buf r after → Considered M stars lags needs last t len buf r after
  considered_parts hl w a = record {
    used = a.used;
    rays = a.rays t w.rays;
    gathered = a.gathered;
    covers = λ P p b o m l. let (k, hk, u) = w.covers P lags p b o (λ k h. m k (omega arith)) l in
        a.covers P p b o (λ l h q. m l q) k (omega arith) hk u;
  }

-- ---- trigger by trigger
module _ {M : Marks} {stars lags needs : List (List ℕ)} {last : List ℕ} where
  pub turned_none : {buf : List (List ℕ)} → length buf ≡ room → Turned M stars lags needs last 0 0 buf
  unfolding first held sift map_l
  turned_none z = record {
    so_far = omega arith;
    used = [];
    rays = λ w i. absurd i;
    gathered = λ P p. record { stored = record { few = omega arith; size = z; sized = λ w i. absurd i; lines = refl } };
    covers = λ P p s h. let e : ⊥ = omega arith in absurd e;
  }

  pub turned_more : {t len r : ℕ} {buf after : List (List ℕ)} → t < M.triggers → Turned M stars lags needs last t len buf →
      Considered M stars lags needs last t len buf r after → Turned M stars lags needs last (t + 1) r after
  turned_more {t} ht d a = record {
    so_far = omega arith;
    used = d.used ++ a.used;
    rays = λ w i. elim (in_app d.used a.used w i) [ inl h ↦ d.rays w h | inr h ↦ (t, a.rays w h) ];
    gathered = λ P p. gathered_as (a.gathered P _ p (d.gathered P p)) (sym (map_append (drawn M.triggers) d.used a.used));
    covers = λ P p v hv b o m l. elim (ℕ_discrete v t) [
      | yes e ↦ subst (λ v. ((j : ℕ) → j < M.triggers → first_ray M.triggers P v j ≼ b j) → (w : List ℕ) × In w (d.used ++ a.used)
          × RayTo M stars needs v M.levels w × Below M.triggers w b) (sym e) (here P p b o m) l
      | no e ↦ let (w, i, q, u) = d.covers P p v (omega arith) b o m l in (w, in_left d.used a.used w i, q, u)
    ];
  }
    where
      here : (P : Cue) → Drawable M.triggers P M stars lags needs → (b : Vec) → Keeps M.triggers P.order b →
          ((l : ℕ) → l < M.levels → Met M needs l b) → ((j : ℕ) → j < M.triggers → first_ray M.triggers P t j ≼ b j) →
          (w : List ℕ) × In w (d.used ++ a.used) × RayTo M stars needs t M.levels w × Below M.triggers w b
      here P p b o m l = let (w, i, u) = a.covers P p b o m l in (w, in_right d.used a.used w i, a.rays w i, u)

  -- all triggers: the lines generate the cone
  pub turned_filled : {t len : ℕ} {buf : List (List ℕ)} → Turned M stars lags needs last t len buf → M.triggers ≤ t →
      (P : Cue) → Drawable M.triggers P M stars lags needs → Filled M.triggers P last len buf
  unfolding drawn ray_line
  turned_filled {t} d h P p = record {
    stored = stored_as (d.gathered P p).stored
        (first_all p.order _ (covers_generate M.triggers P p.order _ cover) (line_of M.triggers last));
  }
    where
      cover : Covers M.triggers P (map_l (drawn M.triggers) d.used)
      cover = record {
        sound = λ c i. let (w, k, e) = map_in (drawn M.triggers) d.used c i in let (s, r) = d.rays w k in
            (s, r.trigger, (meant_v w, ray_of p r, e));
        full = λ s hs b o v l. let (w, i, r, u) = d.covers P p s (omega arith) b o (served_met p v) l in
            (meant_v w, ray_of p r, u, in_map (drawn M.triggers) d.used w i);
      }
