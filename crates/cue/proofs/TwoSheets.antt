-- Two sheets: their lists are equal exactly when the same timings are tightest on both. First for one count of triggers,
-- then for lines as they are written, with the count of triggers and six components, the unused ones absent.
use mathlib.Core.Path.{◌≡◌, refl, ap, ap₂, sym, ◌∙◌, subst}
use mathlib.Core.Logic.{◌↔◌}
use mathlib.Core.List.{List, [], ◌∷◌}
use Prim.Native.Nat.{ℕ, ◌≤◌}
use native.Mathlib.Omega.{arith}
use native.Mathlib.Decide.{ℕ_discrete}
use lib.IntN.{ℤ}
use Rattle.maxplus.specs.Finite.{In, map_l}
use Rattle.maxplus.specs.Tables.{Vec, NoGain}
use Rattle.maxplus.specs.Line.{Line, at, line}
use Rattle.maxplus.specs.Combination.{Weighed}
use Rattle.maxplus.proofs.FiniteLaws.{in_map, map_in}
use Rattle.maxplus.proofs.LineLaws.{line_ext, at_line}
use Rattle.cue.proofs.MinimalLaws.{increasing_equal}
use Rattle.cue.specs.Cue.{Cue}
use Rattle.cue.specs.Vectors.{Tightest, Readable}
use Rattle.cue.specs.Method.{mark, least, lines}
use Rattle.cue.proofs.Cone.{Cone, tightest_cone, mark_tightest, mark_cone, timings_determine}
use Rattle.cue.proofs.Extreme.{lines_increasing, lines_extreme, some_line, extreme_same}
use Rattle.cue.proofs.Weights.{tightest_weighed}
use Rattle.cue.specs.Sizes.{size_limit}

module _ (n : ℕ) (P Q : Cue) (R : Readable n P) (S : Readable n Q) (np : NoGain n P.order) (nq : NoGain n Q.order) where
  -- the same timings, so the same cone, so the same extreme lines
  pub lists_equal : (lines n P ≡ lines n Q) ↔ ((X : ℕ → ℤ) → Tightest n P X ↔ Tightest n Q X)
  lists_equal = (there, back)
    where
      there : lines n P ≡ lines n Q → (X : ℕ → ℤ) → Tightest n P X ↔ Tightest n Q X
      there e X = (
        λ t. (tightest_weighed n Q S nq X).1 (subst (λ L. Weighed n L X) e ((tightest_weighed n P R np X).0 t)),
        λ t. (tightest_weighed n P R np X).1 (subst (λ L. Weighed n L X) (sym e) ((tightest_weighed n Q S nq X).0 t)),
      )

      back : ((X : ℕ → ℤ) → Tightest n P X ↔ Tightest n Q X) → lines n P ≡ lines n Q
      back f = increasing_equal n (lines n P) (lines n Q) (lines_increasing n P) (lines_increasing n Q) (λ c. (
        λ h. (lines_extreme n Q nq c).1 (extreme_same n P Q (least n P) (least n Q) cones c ((lines_extreme n P np c).0 h)),
        λ h. (lines_extreme n P np c).1 (extreme_same n Q P (least n Q) (least n P) (λ v. ((cones v).1, (cones v).0)) c ((lines_extreme n Q nq c).0 h)),
      ))
        where
          cones : (v : Vec) → Cone n P (least n P) v ↔ Cone n Q (least n Q) v
          cones v = (
            timings_determine n P Q (least n P) (least n Q) (mark n P) (mark_cone n P R np)
                (λ X c. (tightest_cone n Q S nq X).0 ((f X).0 ((tightest_cone n P R np X).1 c))) v,
            timings_determine n Q P (least n Q) (least n P) (mark n Q) (mark_cone n Q S nq)
                (λ X c. (tightest_cone n P R np X).0 ((f X).1 ((tightest_cone n Q S nq X).1 c))) v,
          )

-- ---- as written
abbrev pub WrittenLine : Type 0
WrittenLine = ℕ × Line 6

unfoldable pub write : (n : ℕ) → Line n → WrittenLine
write n c = (n, line 6 (at n c))

unfoldable pub written : (n : ℕ) → List (Line n) → List WrittenLine
written n L = map_l (write n) L

-- k whole numbers are tightest on a sheet of n triggers
abbrev pub TightestOf : ℕ → Cue → ℕ → (ℕ → ℤ) → Type 0
TightestOf n P k X = (k ≡ n) × Tightest n P X

write_one : (n : ℕ) → n ≤ size_limit → (c d : Line n) → write n c ≡ write n d → c ≡ d
unfolding write
write_one n h c d e = line_ext n c d
    (λ i hi. sym (at_line 6 (at n c) i (omega arith)) ∙ ap (λ w. at 6 w.1 i) e ∙ at_line 6 (at n d) i (omega arith))

written_one : (n : ℕ) → n ≤ size_limit → (L M : List (Line n)) → written n L ≡ written n M → L ≡ M
unfolding written map_l
written_one n h [] [] e = refl
written_one n h [] (d ∷ M) e = absurd (let z : ◌≡◌ {A = ℕ} 0 1 = cc in let f : ⊥ = omega arith in f)
written_one n h (c ∷ L) [] e = absurd (let z : ◌≡◌ {A = ℕ} 0 1 = cc in let f : ⊥ = omega arith in f)
written_one n h (c ∷ L) (d ∷ M) e =
    let a : write n c ≡ write n d = cc in
    let b : map_l (write n) L ≡ map_l (write n) M = cc in
    ap₂ ◌∷◌ (write_one n h c d a) (written_one n h L M b)

in_written : (n : ℕ) (L : List (Line n)) (c : Line n) → In c L → In (write n c) (written n L)
unfolding written
in_written n L c h = in_map (write n) L c h

-- a line carries its count
count_in : (n k : ℕ) (c : Line n) (L : List (Line k)) → In (write n c) (written k L) → n ≡ k
unfolding written write
count_in n k c L h = let (d, hd, e) = map_in (write k) L (write n c) h in ap (λ w. w.0) e

abbrev EqualWhenTightestAgree : ℕ → Cue → ℕ → Cue → Type 0
EqualWhenTightestAgree n P k Q =
    (written n (lines n P) ≡ written k (lines k Q)) ↔ ((l : ℕ) (X : ℕ → ℤ) → TightestOf n P l X ↔ TightestOf k Q l X)

module _ (n : ℕ) (P : Cue) (hn : n ≤ size_limit) (R : Readable n P) (np : NoGain n P.order) where
  same_count : (Q : Cue) → Readable n Q → NoGain n Q.order → EqualWhenTightestAgree n P n Q
  same_count Q S nq = (
    λ e l X. let t = (lists_equal n P Q R S np nq).0 (written_one n hn (lines n P) (lines n Q) e) X in
        (λ h. (h.0, t.0 h.1), λ h. (h.0, t.1 h.1)),
    λ f. ap (written n) ((lists_equal n P Q R S np nq).1 (λ X. (λ t. ((f n X).0 (refl, t)).1, λ t. ((f n X).1 (refl, t)).1))),
  )

  -- another count: neither side holds, since lists are never empty and some timing is tightest
  other_count : (k : ℕ) (Q : Cue) → ¬ (n ≡ k) → EqualWhenTightestAgree n P k Q
  other_count k Q d = (λ e. absurd (d (from_lists e)), λ f. absurd (d ((f n (mark n P)).0 (refl, mark_tightest n P R np)).0))
    where
      from_lists : written n (lines n P) ≡ written k (lines k Q) → n ≡ k
      from_lists e = let (c, hc) = some_line n P R np in
          count_in n k c (lines k Q) (subst (λ L. In (write n c) L) e (in_written n (lines n P) c hc))

pub written_lists_equal : (n k : ℕ) (P Q : Cue) → n ≤ size_limit → k ≤ size_limit → Readable n P → Readable k Q → NoGain n P.order →
    NoGain k Q.order →
    (written n (lines n P) ≡ written k (lines k Q)) ↔ ((l : ℕ) (X : ℕ → ℤ) → TightestOf n P l X ↔ TightestOf k Q l X)
written_lists_equal n k P Q hn hk R S np nq = go (ℕ_discrete n k)
  where
    go : Dec (n ≡ k) → EqualWhenTightestAgree n P k Q
    go (yes e) = subst (λ k. (Q : Cue) → Readable k Q → NoGain k Q.order → EqualWhenTightestAgree n P k Q) e
        (same_count n P hn R np) Q S nq
    go (no d) = other_count n P hn R np k Q d
