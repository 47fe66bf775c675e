-- The members of a list above a given one, in order.
use Rattle.std.specs.Prelude.{List}
use Rattle.maxplus.specs.Sorted.{less, same, more, Strict, sift}

module _ {A : Type 0} (lt : A → A → Type 0) (S : Strict lt) where
  unfoldable pub gt? : (a b : A) → Dec (lt a b)
  gt? a b = elim (S.cmp a b) [
    | less h ↦ yes h
    | same e ↦ no (λ h. S.irrefl b (rw e at h))
    | more h ↦ no (λ k. S.irrefl a (S.trans a b a k h))
  ]

  unfoldable pub above : A → List A → List A
  above a l = sift lt S (gt? a) l
