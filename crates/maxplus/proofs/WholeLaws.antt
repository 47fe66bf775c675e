-- Laws of whole numbers. A linear goal is one omega with a fact up-add or up_neg listed for each sum and each sign.
use mathlib.Core.Path.{◌≡◌, refl, ap}
use mathlib.Core.Logic.{◌⊎◌, inl, inr}
use mathlib.Core.Bool.{Bool, true, false, cond}
use Prim.Native.Nat.{ℕ, zero, suc, ◌+◌, ◌≤◌, ◌<◌}
use native.Mathlib.Omega.{arith}
use native.Mathlib.Decide.{dec_le}
use lib.Dec.{T, ltb, ltb→lt, nltb→le, leb→le, nleb→lt, le→leb}
use lib.IntN.{ℤ, pos, negsuc, sub_ℕ}
use Rattle.maxplus.specs.Whole.{up, dn, ◌≤z◌, ◌<z◌, ◌+z◌, neg, leqz, maxz}

-- equal when as far up as down
pub z_eq : (a b : ℤ) → up a + dn b ≡ up b + dn a → a ≡ b
z_eq (pos a) (pos b) h = let e : a ≡ b = omega arith in ap pos e
z_eq (pos a) (negsuc b) h = let e : ⊥ = omega arith in absurd e
z_eq (negsuc a) (pos b) h = let e : ⊥ = omega arith in absurd e
z_eq (negsuc a) (negsuc b) h = let e : a ≡ b = omega arith in ap negsuc e

pub up_sub : (a b : ℕ) → up (sub_ℕ a b) + b ≡ a + dn (sub_ℕ a b)
up_sub a b = go (ltb a b) refl
  where
    go : (t : Bool) → ltb a b ≡ t → up (sub_ℕ a b) + b ≡ a + dn (sub_ℕ a b)
    go true e = let h : a < b = ltb→lt a b (rw e tt) in rw e (omega arith)
    go false e = let h : b ≤ a = nltb→le a b (rw e tt) in rw e (omega arith)

pub up_add : (a b : ℤ) → up (a +z b) + (dn a + dn b) ≡ up a + up b + dn (a +z b)
unfolding ◌+z◌
up_add (pos a) (pos b) = omega arith
up_add (pos a) (negsuc b) = omega (arith, up_sub a (suc b))
up_add (negsuc a) (pos b) = omega (arith, up_sub b (suc a))
up_add (negsuc a) (negsuc b) = omega arith

pub up_neg : (a : ℤ) → up (neg a) + up a ≡ dn a + dn (neg a)
unfolding neg
up_neg (pos zero) = omega arith
up_neg (pos (suc n)) = omega arith
up_neg (negsuc n) = omega arith

pub neg_neg : (a : ℤ) → neg (neg a) ≡ a
neg_neg a = z_eq _ _ (omega (arith, up_neg a, up_neg (neg a)))

pub z_refl : (a : ℤ) → a ≤z a
z_refl a = omega arith

pub z_trans : {a b c : ℤ} → a ≤z b → b ≤z c → a ≤z c
z_trans {a} {b} {c} h k = omega arith

pub z_anti : {a b : ℤ} → a ≤z b → b ≤z a → a ≡ b
z_anti {a} {b} h k = z_eq a b (omega arith)

pub z_add : {a b c d : ℤ} → a ≤z b → c ≤z d → a +z c ≤z b +z d
z_add {a} {b} {c} {d} h k = omega (arith, up_add a c, up_add b d)

pub z_comm : (a b : ℤ) → a +z b ≡ b +z a
z_comm a b = z_eq _ _ (omega (arith, up_add a b, up_add b a))

pub z_assoc : (a b c : ℤ) → (a +z b) +z c ≡ a +z (b +z c)
z_assoc a b c = z_eq _ _ (omega (arith, up_add a b, up_add (a +z b) c, up_add b c, up_add a (b +z c)))

unfoldable pub z_dec : (a b : ℤ) → Dec (a ≤z b)
z_dec a b = go (dec_le (up a + dn b) (up b + dn a))
  where
    go : Dec (up a + dn b ≤ up b + dn a) → Dec (a ≤z b)
    go (yes h) = yes (omega arith)
    go (no h) = no (λ k. h k.le)

pub same_whole? : (a b : ℤ) → Dec (a ≡ b)
same_whole? a b = go (z_dec a b) (z_dec b a)
  where
    go : Dec (a ≤z b) → Dec (b ≤z a) → Dec (a ≡ b)
    go (yes h) (yes k) = yes (z_anti h k)
    go (yes h) (no k) = no (λ e. k (rw e (z_refl b)))
    go (no h) k = no (λ e. h (rw e (z_refl b)))

pub z_not : {a b : ℤ} → ¬ (a ≤z b) → b <z a
z_not {a} {b} h = z_not' (dec_le (up a + dn b) (up b + dn a))
  where
    z_not' : Dec (up a + dn b ≤ up b + dn a) → b <z a
    z_not' (yes k) = absurd (h (omega arith))
    z_not' (no k) = omega arith

pub max_cases : (a b : ℤ) → ((maxz a b ≡ b) × (a ≤z b)) ⊎ ((maxz a b ≡ a) × (b ≤z a))
unfolding maxz
max_cases a b = go (leqz a b) refl
  where
    go : (t : Bool) → leqz a b ≡ t → ((cond (leqz a b) b a ≡ b) × (a ≤z b)) ⊎ ((cond (leqz a b) b a ≡ a) × (b ≤z a))
    go true e = inl (rw e, record { le = leb→le _ _ (rw e tt) })
    go false e = inr (rw e, let h = nleb→lt (up a + dn b) (up b + dn a) (rw e tt) in omega arith)

pub leqz_yes : (a b : ℤ) → T (leqz a b) → a ≤z b
leqz_yes a b t = record { le = leb→le _ _ t }

pub leqz_of : (a b : ℤ) → a ≤z b → T (leqz a b)
leqz_of a b h = le→leb _ _ h.le
