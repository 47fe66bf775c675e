-- What `admitted` gives for a sheet's bytes and a timing: reading's refusal, 10, 11, or what `ordered` gives; and what is so where it gives
-- the sheet.
use mathlib.Core.Path.{◌≡◌, sym, ◌∙◌}
use mathlib.Core.List.{List}
use mathlib.Core.Bool.{true, false, cond, not}
use Prim.Native.Nat.{ℕ}
use borrow.Author.Tests.{not-false, eqb-true}
use lib.Dec.{eqb}
use Rattle.maxplus.proofs.FiniteLaws.{equal, unequal}
use Rattle.sheet.specs.Sheet.{got, refused, Sheet, read}
use Rattle.sheet.specs.Meaning.{Timing}
use Rattle.sheet.specs.Cue.{Orderly, orderly?}
use Rattle.sheet.specs.Ordered.{ordered}
use Rattle.sheet.specs.Times.{some_beyond}
use Rattle.sheet.specs.Admitted.{admitted}
use Rattle.sheet.proofs.LineLaws.{not_got, bind_got, passed}
use Rattle.sheet.proofs.OrderedLaws.{ordered_8, ordered_read}

module _ (s : List ℕ) (count : ℕ) (G : Timing) where
  pub admitted_refused : (k : ℕ) → read s ≡ refused k → admitted s count G ≡ refused k
  unfolding admitted
  admitted_refused k e = rw e

  module _ (t : Sheet) (r : List ℕ) (e : read s ≡ got t r) where
    pub admitted_10 : ¬ (count ≡ t.triggers) → admitted s count G ≡ refused 10
    unfolding admitted
    admitted_10 f = rw (e, unequal count t.triggers f)

    module _ (same : count ≡ t.triggers) where
      pub admitted_11 : some_beyond t.triggers G ≡ true → admitted s count G ≡ refused 11
      unfolding admitted
      admitted_11 far = rw (e, equal count t.triggers same, far)

      pub admitted_on : some_beyond t.triggers G ≡ false → admitted s count G ≡ ordered s
      unfolding admitted
      admitted_on near = rw (e, equal count t.triggers same, near)

-- what the tests let pass
pub record Admits (s : List ℕ) (count : ℕ) (G : Timing) (t : Sheet) (r : List ℕ) : Type 0 where
  pub read_is : read s ≡ got t r
  pub same_count : count ≡ t.triggers
  pub near : some_beyond t.triggers G ≡ false
  pub orderly : Orderly t

pub admitted_as : (s : List ℕ) (count : ℕ) (G : Timing) (t : Sheet) (r : List ℕ) → admitted s count G ≡ got t r → Admits s count G t r
unfolding admitted
admitted_as s count G t r e =
    let (u, x, p, f) = bind_got (read s) e in
    let (same, g) = passed (not (eqb count u.triggers)) 10 (cond (some_beyond u.triggers G) (refused 11) (ordered s)) f in
    let (near, h) = passed (some_beyond u.triggers G) 11 (ordered s) g in
    let q = ordered_read s t r h in
    let c : u ≡ t = cc in
    record {
      read_is = q;
      same_count = rw (← c) (eqb-true count u.triggers (not-false _ same));
      near = rw (← c) near;
      orderly = elim (orderly? t) [ yes o ↦ o | no f ↦ absurd (not_got (sym (ordered_8 s t r q f) ∙ h)) ];
    }
