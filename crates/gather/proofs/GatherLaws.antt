-- Laws of gathering: one line more, and the list when the lines considered generate the cone.
use mathlib.Core.Path.{◌≡◌, ap, sym, subst, ◌∙◌}
use mathlib.Core.Bool.{true, false}
use mathlib.Core.List.{List, [], ◌∷◌, ◌++◌}
use Prim.Native.Nat.{ℕ, ◌≤◌}
use lib.ListN.{take}
use Rattle.maxplus.specs.Finite.{In}
use Rattle.maxplus.specs.Tables.{NoGain}
use Rattle.maxplus.specs.Line.{Line, lt_l}
use Rattle.maxplus.specs.Sorted.{put, sift}
use Rattle.maxplus.proofs.LineLaws.{strict}
use Rattle.maxplus.specs.Above.{above}
use Rattle.maxplus.proofs.SortedLaws.{in_above, above_sorted, sorted_eq, sift_sorted, sift_in, in_sift}
use Rattle.maxplus.proofs.GatherLaws.{sift_last, sift_skip, put_take}
use Rattle.cue.proofs.MinimalLaws.{Increasing}
use Rattle.cue.specs.Cue.{Cue}
use Rattle.cue.specs.Method.{least, lines}
use Rattle.cue.specs.Closures.{Common}
use Rattle.cue.proofs.Rays.{Generates, lines_generated}
use Rattle.tables.specs.Lines.{line_of, Sized}
use Rattle.candidates.proofs.OrderLaws.{below_says}
use Rattle.buffer.specs.Buffer.{room, Before, Ordered, Placed, Fresh, Inserted}
use Rattle.gather.specs.Gathering.{Wanted, wanted?, first, Gathered, rest}
use Rattle.buffer.proofs.ListLaws.{sorted_take}
use Rattle.buffer.proofs.HeldLaws.{stored_as, stored_ordered, stale_line, fresh_line}
use Rattle.cue.specs.Sizes.{size_limit}

module _ (n : ℕ) (P : Cue) (last : Line n) where
  first_increasing : (C : List (Line n)) → Increasing n (first n P last C)
  unfolding first
  first_increasing C = sorted_take (lt_l n) (strict n) room (sift (lt_l n) (strict n) (wanted? n P last) C)
      (sift_sorted (lt_l n) (strict n) (wanted? n P last) C)

  module _ (C : List (Line n)) (c : Line n) where
    first_skip : ¬ (Wanted n P last c) → first n P last (C ++ c ∷ []) ≡ first n P last C
    unfolding first
    first_skip h = ap (take room) (sift_skip (lt_l n) (strict n) (wanted? n P last) C c h)

    first_put : Wanted n P last c → first n P last (C ++ c ∷ []) ≡ take room (put (lt_l n) (strict n) c (first n P last C))
    unfolding first
    first_put h = ap (take room) (sift_last (lt_l n) (strict n) (wanted? n P last) C c h) ∙
        sym (put_take (lt_l n) (strict n) room c (sift (lt_l n) (strict n) (wanted? n P last) C))

    -- a line that would change nothing needs no test
    first_same : take room (put (lt_l n) (strict n) c (first n P last C)) ≡ first n P last C → first n P last (C ++ c ∷ []) ≡ first n P last C
    first_same e = elim (wanted? n P last c) [ yes h ↦ first_put h ∙ e | no h ↦ first_skip h ]

pub gathered_as : {n : ℕ} {P : Cue} {last : List ℕ} {C D : List (Line n)} {len : ℕ} {buf : List (List ℕ)} → Gathered n P last C len buf →
    C ≡ D → Gathered n P last D len buf
gathered_as {n} {P} {last} {len = len} {buf} g e = subst (λ C. Gathered n P last C len buf) e g

-- ---- one line more in the buffer, or not
module _ {n : ℕ} {P : Cue} {last c : List ℕ} {C : List (Line n)} {len : ℕ} {buf : List (List ℕ)}
    (few : n ≤ size_limit) (z : Sized n last) (y : Sized n c) (g : Gathered n P last C len buf) where
  kept : first n P (line_of n last) (C ++ line_of n c ∷ []) ≡ first n P (line_of n last) C → Gathered n P last (C ++ line_of n c ∷ []) len buf
  kept e = record { stored = stored_as g.stored (sym e) }

  pub not_above : ¬ (Before last c) → Gathered n P last (C ++ line_of n c ∷ []) len buf
  not_above h = kept (first_skip n P (line_of n last) C (line_of n c) (λ w. below_says false few z y h w.0))

  pub not_fresh : (at : ℕ) → Placed buf len c at → ¬ (Fresh buf len at c) → Gathered n P last (C ++ line_of n c ∷ []) len buf
  not_fresh at p f = kept (first_same n P (line_of n last) C (line_of n c) (stale_line few g.stored c at y p f))

  pub not_extreme : ¬ (Common n P (least n P) (line_of n c)) → Gathered n P last (C ++ line_of n c ∷ []) len buf
  not_extreme h = kept (first_skip n P (line_of n last) C (line_of n c) (λ w. h w.1))

  pub put_in : (at r : ℕ) (after : List (List ℕ)) → Before last c → Placed buf len c at → Fresh buf len at c →
      Common n P (least n P) (line_of n c) → Inserted buf len at c after r → Gathered n P last (C ++ line_of n c ∷ []) r after
  put_in at r after l p f x i = record {
    stored = stored_as (fresh_line few g.stored c at y p f after r i)
        (sym (first_put n P (line_of n last) C (line_of n c) (below_says true few z y l, x)));
  }

  pub gathered_ordered : Ordered len buf
  gathered_ordered = stored_ordered few g.stored (first_increasing n P (line_of n last) C)

-- when the lines considered generate the cone, the least lines above last are there
pub first_all : {n : ℕ} {P : Cue} → NoGain n P.order → (C : List (Line n)) → Generates n P C → (last : Line n) →
    first n P last C ≡ take room (rest n P last)
unfolding first
first_all {n} {P} np C v last = ap (take room) (sorted_eq (lt_l n) (strict n) (sift (lt_l n) (strict n) (wanted? n P last) C)
    (above (lt_l n) (strict n) last (lines n P)) (sift_sorted (lt_l n) (strict n) (wanted? n P last) C)
    (above_sorted (lt_l n) (strict n) last (lines n P)) to from)
  where
    to : (c : Line n) → In c (sift (lt_l n) (strict n) (wanted? n P last) C) → In c (above (lt_l n) (strict n) last (lines n P))
    to c h = let (i, q) = sift_in (lt_l n) (strict n) (wanted? n P last) C c h in
        (in_above (lt_l n) (strict n) last (lines n P) c).1 ((lines_generated n P np C v c).1 (i, q.1), q.0)

    from : (c : Line n) → In c (above (lt_l n) (strict n) last (lines n P)) → In c (sift (lt_l n) (strict n) (wanted? n P last) C)
    from c h = let (i, l) = (in_above (lt_l n) (strict n) last (lines n P) c).0 h in
        let (k, q) = (lines_generated n P np C v c).0 i in in_sift (lt_l n) (strict n) (wanted? n P last) C c k (l, q)
