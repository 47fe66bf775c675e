-- Extreme vectors of the cone, and the theorem that they are the list: the list is what the cone alone decides.
use mathlib.Core.Path.{◌≡◌, refl, sym, ◌∙◌, subst}
use mathlib.Core.Logic.{◌↔◌}
use mathlib.Core.List.{List}
use Prim.Native.Nat.{ℕ, ◌<◌}
use native.Mathlib.Omega.{arith}
use lib.IntN.{ℤ}
use Rattle.maxplus.specs.Whole.{◌+z◌, neg}
use Rattle.maxplus.specs.Entry.{E, absent, num, ◌≼◌, ◌⊗◌, inv, Present}
use Rattle.maxplus.specs.Finite.{In}
use Rattle.maxplus.specs.Tables.{Vec, NoGain}
use Rattle.maxplus.specs.Line.{Line, at}
use Rattle.maxplus.specs.Normal.{Normal}
use Rattle.maxplus.specs.Combination.{Combination}
use Rattle.maxplus.proofs.WholeLaws.{up_add, up_neg}
use Rattle.maxplus.proofs.EntryLaws.{◌▸◌, ≼_anti, ≼_absent, ≼_back, ⊗_left, ⊗_right, absent_not, cancel_r}
use Rattle.maxplus.proofs.CombinationLaws.{weight_fits, weight_meets, Under, under_anti, Span, span_combination}
use Rattle.cue.proofs.MinimalLaws.{Needed, in_minimal, Increasing, minimal_increasing, needed_alone, alone_needed, needed_meet}
use Rattle.cue.specs.Cue.{Cue, timing}
use Rattle.cue.specs.Vectors.{Readable}
use Rattle.cue.specs.Method.{mark, least, candidates, lines}
use Rattle.cue.proofs.Cone.{Cone, cone_⊗, cone_ext, cone_combination, mark_cone}
use Rattle.cue.proofs.Candidates.{candidates_normal, candidates_cone, cone_span}

unshift_E : (di dj xi xj : E) → Present dj → (xj ⊗ inv dj) ⊗ di ≡ xi → xi ⊗ dj ≼ di ⊗ xj
unfolding ◌⊗◌ inv
unshift_E di absent xi xj p e = absurd (absent_not p.1)
unshift_E di (num dj) xi absent p e = rw (← e) (≼_absent _)
unshift_E absent (num dj) xi (num xj) p e = rw (← e) (≼_absent _)
unshift_E (num di) (num dj) xi (num xj) p e =
    rw (← e) (omega (arith, up_neg dj, up_add xj (neg dj), up_add (xj +z neg dj) di, up_add (xj +z neg dj +z di) dj, up_add di xj))

module _ (n : ℕ) (P : Cue) (D : ℤ) where
  open P use {panels, lag, floor, due, order}

  -- every vector of the cone that lies below c and meets it at j is c
  abbrev pub Alone : Vec → ℕ → Type 0
  Alone c j = (v : Vec) → Cone n P D v → ((i : ℕ) → i < n → v i ≼ c i) → v j ≡ c j → (i : ℕ) → i < n → v i ≡ c i

  pub record Extreme (c : Line n) : Type 0 where
    pub inside : Cone n P D (at n c)
    pub shape : Normal n c
    pub where_at : ℕ
    pub in_range : where_at < n
    pub there : Present (at n c where_at)
    pub alone : Alone (at n c) where_at

  -- an extreme line is the only normal line of the cone under it, seen from its place
  pub extreme_only : (c : Line n) (x : Extreme c) (d : Line n) → Cone n P D (at n d) → Normal n d → Present (at n d x.where_at) →
      Under n x.where_at d (at n c) → d ≡ c
  extreme_only c x d cd nd pd ld =
      under_anti n j d c nd x.shape pd ld (λ i hi. unshift_E (at n d i) (at n d j) (at n c i) (at n c j) pd (same i hi))
    where
      j : ℕ
      j = x.where_at

      v : Vec
      v i = (at n c j ⊗ inv (at n d j)) ⊗ at n d i

      same : (i : ℕ) → i < n → v i ≡ at n c i
      same = x.alone v (cone_⊗ n P D _ (at n d) cd) (λ i hi. weight_fits (at n d i) (at n d j) (at n c i) (at n c j) (ld i hi))
          (weight_meets (at n d j) (at n c j) pd)

  -- a candidate is no combination of the other ones exactly when it is extreme; and every extreme line is a candidate. A vector of the
  -- cone is met at j by a candidate below it; if it lies below c and meets c at j, that candidate is c, where c is needed at j.
  pub needed_extreme : NoGain n order → (c : Line n) → Needed n (candidates n P D) c ↔ Extreme c
  needed_extreme np c = (to, from)
    where
      C : List (Line n)
      C = candidates n P D

      from : Extreme c → Needed n C c
      from x = let (d, hd, pd, ld) = cone_span n P D (at n c) x.inside x.where_at x.in_range x.there in
          alone_needed n C c x.where_at x.in_range (subst (λ d. In d C) (only d hd pd ld) hd) x.there only
        where
          only : (d : Line n) → In d C → Present (at n d x.where_at) → Under n x.where_at d (at n c) → d ≡ c
          only d hd pd ld = extreme_only c x d (candidates_cone n P D np d hd) (candidates_normal n P D d hd) pd ld

      to : Needed n C c → Extreme c
      to h = go (needed_alone n C c h)
        where
          go : (j : ℕ) × (j < n) × Present (at n c j) × ((d : Line n) → In d C → Present (at n d j) → Under n j d (at n c) → d ≡ c) →
              Extreme c
          go (j, hj, (z, ez), f) =
              record {
                inside = candidates_cone n P D np c h.0;
                shape = candidates_normal n P D c h.0;
                where_at = j;
                in_range = hj;
                there = (z, ez);
                alone = λ v cv lv ev i hi. ≼_anti (lv i hi) (above v cv lv ev i hi);
              }
            where
              above : (v : Vec) → Cone n P D v → ((i : ℕ) → i < n → v i ≼ at n c i) → v j ≡ at n c j → (i : ℕ) → i < n →
                  at n c i ≼ v i
              above v cv lv ev i hi =
                  let (d, hd, pd, ld) = cone_span n P D v cv j hj (z, ev ∙ ez) in
                  let e : d ≡ c = f d hd pd (λ i hi. ⊗_right _ (≼_back ev) ▸ ld i hi ▸ ⊗_left _ (lv i hi)) in
                  let l : Under n j c v = subst (λ d. Under n j d v) e ld in
                  cancel_r (at n c i) (v i) z (subst (λ e. at n c i ⊗ e ≼ v i ⊗ e) ez (⊗_right _ (≼_back ev) ▸ l i hi))

module _ (n : ℕ) (P : Cue) where
  pub in_lines : (c : Line n) → In c (lines n P) ↔ Needed n (candidates n P (least n P)) c
  unfolding lines
  in_lines c = in_minimal n (candidates n P (least n P)) c

  pub lines_increasing : Increasing n (lines n P)
  unfolding lines
  lines_increasing = minimal_increasing n (candidates n P (least n P))

  pub lines_normal : (c : Line n) → In c (lines n P) → Normal n c
  lines_normal c h = candidates_normal n P (least n P) c ((in_lines c).0 h).0

module _ (n : ℕ) (P : Cue) (np : NoGain n P.order) where
  -- the list is the extreme lines of the cone, in increasing order
  pub lines_extreme : (c : Line n) → In c (lines n P) ↔ Extreme n P (least n P) c
  lines_extreme c = (
    λ h. (needed_extreme n P (least n P) np c).0 ((in_lines n P c).0 h),
    λ x. (in_lines n P c).1 ((needed_extreme n P (least n P) np c).1 x),
  )

  -- the lines generate the cone
  pub lines_meet : (x : Vec) → Cone n P (least n P) x → Span n (lines n P) x
  lines_meet x cx j hj p =
      let (c, hc, pc, lc) = needed_meet n (candidates n P (least n P)) (candidates_normal n P (least n P)) x j hj
      (cone_span n P (least n P) x cx j hj p) in
      (c, (in_lines n P c).1 hc, pc, lc)

  pub cone_combination_of_lines : (x : Vec) → Cone n P (least n P) x ↔ Combination n (lines n P) x
  cone_combination_of_lines x = (
    λ c. span_combination n (lines n P) x (lines_meet x c),
    λ k. cone_ext n P (least n P) _ x (λ i hi. sym (k.is i hi))
        (cone_combination n P (least n P) (lines n P) (λ c h. candidates_cone n P (least n P) np c ((in_lines n P c).0 h).0) k.weight),
  )

-- the list is never empty
module _ (n : ℕ) (P : Cue) (R : Readable n P) (np : NoGain n P.order) where
  pub some_line : (c : Line n) × In c (lines n P)
  some_line = let (c, hc, pc, lc) = lines_meet n P np (timing (mark n P)) (mark_cone n P R np) 0 R.trigger (mark n P 0, refl) in (c, hc)

-- the extremes depend on the cone alone
module _ (n : ℕ) (P Q : Cue) (D F : ℤ) where
  pub extreme_same : ((v : Vec) → Cone n P D v ↔ Cone n Q F v) → (c : Line n) → Extreme n P D c → Extreme n Q F c
  extreme_same e c x =
      record {
        inside = (e (at n c)).0 x.inside;
        shape = x.shape;
        where_at = x.where_at;
        in_range = x.in_range;
        there = x.there;
        alone = λ v cv. x.alone v ((e v).1 cv);
      }
