-- Laws of entries. After this file an entry is taken apart only in small lemmas over entries (most are named -E), each ending in one omega.
use mathlib.Core.Path.{◌≡◌, refl, ap, sym, ◌∙◌}
use mathlib.Core.Logic.{◌⊎◌, inl, inr}
use native.Mathlib.Omega.{arith}
use lib.Dec.{T}
use lib.IntN.{ℤ, pos, negsuc}
use Rattle.maxplus.specs.Whole.{◌≤z◌, ◌<z◌, ◌+z◌, neg}
use Rattle.maxplus.specs.Entry.{E, absent, num, ◌≼◌, leq_E, ◌⊗◌, ◌⊕◌, inv, unit, Present, present?, val}
use Rattle.maxplus.proofs.WholeLaws.{z_eq, up_add, up_neg, z_refl, z_trans, z_anti, z_add, z_comm, z_assoc, z_dec, z_not, neg_neg, max_cases}
use Rattle.maxplus.proofs.WholeLaws.{leqz_yes, leqz_of}

pub ≼_refl : (a : E) → a ≼ a
≼_refl absent = record { un = tt }
≼_refl (num a) = record { un = z_refl a }

-- ≼ is transitive, written as a chain
infixr 30 ◌▸◌
pub ◌▸◌ : {a b c : E} → a ≼ b → b ≼ c → a ≼ c
◌▸◌ {a = absent} {b} {c} h k = record { un = tt }
◌▸◌ {a = num a} {b = absent} {c} h k = absurd h.un
◌▸◌ {a = num a} {b = num b} {c = absent} h k = absurd k.un
◌▸◌ {a = num a} {b = num b} {c = num c} h k = record { un = z_trans h.un k.un }

pub ≼_anti : {a b : E} → a ≼ b → b ≼ a → a ≡ b
≼_anti {a = absent} {b = absent} h k = refl
≼_anti {a = absent} {b = num b} h k = absurd k.un
≼_anti {a = num a} {b = absent} h k = absurd h.un
≼_anti {a = num a} {b = num b} h k = ap num (z_anti h.un k.un)

pub ≼_absent : (a : E) → absent ≼ a
≼_absent a = record { un = tt }

pub ≼_of : {a b : E} → a ≡ b → a ≼ b
≼_of {a} e = rw (← e) (≼_refl a)

pub ≼_back : {a b : E} → a ≡ b → b ≼ a
≼_back e = ≼_of (sym e)

pub ⊕_l : (a b : E) → a ≼ a ⊕ b
unfolding ◌⊕◌
⊕_l absent b = record { un = tt }
⊕_l (num a) absent = ≼_refl (num a)
⊕_l (num a) (num b) = elim (max_cases a b) [ inl h ↦ rw h.0 (record { un = h.1 }) | inr h ↦ rw h.0 (≼_refl (num a)) ]

pub ⊕_r : (a b : E) → b ≼ a ⊕ b
unfolding ◌⊕◌
⊕_r absent b = ≼_refl b
⊕_r (num a) absent = record { un = tt }
⊕_r (num a) (num b) = elim (max_cases a b) [ inl h ↦ rw h.0 (≼_refl (num b)) | inr h ↦ rw h.0 (record { un = h.1 }) ]

pub ⊕_or : (a b : E) → (a ⊕ b ≡ a) ⊎ (a ⊕ b ≡ b)
unfolding ◌⊕◌
⊕_or absent b = inr refl
⊕_or (num a) absent = inl refl
⊕_or (num a) (num b) = elim (max_cases a b) [ inl h ↦ inr (ap num h.0) | inr h ↦ inl (ap num h.0) ]

pub ⊕_lub : {a b c : E} → a ≼ c → b ≼ c → a ⊕ b ≼ c
⊕_lub {a} {b} {c} h k = elim (⊕_or a b) [ inl e ↦ rw e h | inr e ↦ rw e k ]

pub ⊕_comm : (a b : E) → a ⊕ b ≡ b ⊕ a
⊕_comm a b = ≼_anti (⊕_lub (⊕_r b a) (⊕_l b a)) (⊕_lub (⊕_r a b) (⊕_l a b))

pub ⊗_mono : {a b c d : E} → a ≼ b → c ≼ d → a ⊗ c ≼ b ⊗ d
unfolding ◌⊗◌
⊗_mono {a = absent} {b} {c} {d} h k = record { un = tt }
⊗_mono {a = num a} {b = absent} {c} {d} h k = absurd h.un
⊗_mono {a = num a} {b = num b} {c = absent} {d} h k = record { un = tt }
⊗_mono {a = num a} {b = num b} {c = num c} {d = absent} h k = absurd k.un
⊗_mono {a = num a} {b = num b} {c = num c} {d = num d} h k = record { un = z_add h.un k.un }

pub ⊗_left : (c : E) {a b : E} → a ≼ b → a ⊗ c ≼ b ⊗ c
⊗_left c h = ⊗_mono h (≼_refl c)

pub ⊗_right : (c : E) {a b : E} → a ≼ b → c ⊗ a ≼ c ⊗ b
⊗_right c h = ⊗_mono (≼_refl c) h

pub ⊗_comm : (a b : E) → a ⊗ b ≡ b ⊗ a
unfolding ◌⊗◌
⊗_comm absent absent = refl
⊗_comm absent (num b) = refl
⊗_comm (num a) absent = refl
⊗_comm (num a) (num b) = ap num (z_comm a b)

pub ⊗_assoc : (a b c : E) → (a ⊗ b) ⊗ c ≡ a ⊗ (b ⊗ c)
unfolding ◌⊗◌
⊗_assoc absent b c = refl
⊗_assoc (num a) absent c = refl
⊗_assoc (num a) (num b) absent = refl
⊗_assoc (num a) (num b) (num c) = ap num (z_assoc a b c)

pub ⊗_absent : (a : E) → a ⊗ absent ≡ absent
unfolding ◌⊗◌
⊗_absent absent = refl
⊗_absent (num a) = refl

pub ⊗_nothing : (a : E) → absent ⊗ a ≡ absent
unfolding ◌⊗◌
⊗_nothing a = refl

pub ⊗_unit : (a : E) → unit ⊗ a ≡ a
unfolding ◌⊗◌
⊗_unit absent = refl
⊗_unit (num a) = ap num (z_eq _ _ (omega (arith, up_add (pos 0) a)))

pub distrib : (a b c : E) → a ⊗ (b ⊕ c) ≡ a ⊗ b ⊕ a ⊗ c
distrib a b c =
    ≼_anti (elim (⊕_or b c) [ inl e ↦ rw e (⊕_l _ _) | inr e ↦ rw e (⊕_r _ _) ])
    (⊕_lub (⊗_mono (≼_refl a) (⊕_l b c)) (⊗_mono (≼_refl a) (⊕_r b c)))

-- a bound, by the numbers below
pub ≼_num : {a c : E} → ((z : ℤ) → num z ≼ a → num z ≼ c) → a ≼ c
≼_num {a = absent} {c} h = ≼_absent c
≼_num {a = num x} {c} h = h x (≼_refl _)

-- a present product: the second factor is a number
pub ⊗_split : {z : ℤ} (a b : E) → num z ≼ a ⊗ b → (y : ℤ) × (num y ≼ b) × (num z ≼ a ⊗ num y)
unfolding ◌⊗◌
⊗_split absent b h = absurd h.un
⊗_split (num a) absent h = absurd h.un
⊗_split (num a) (num b) h = (b, ≼_refl _, h)

pub ⊗_unit_r : (a : E) → a ⊗ unit ≡ a
⊗_unit_r a = ⊗_comm a unit ∙ ⊗_unit a

pub cancel : (a : E) (x : ℤ) → a ⊗ num x ≼ num x → a ≼ unit
unfolding ◌⊗◌
cancel absent x h = ≼_absent _
cancel (num a) x h = record { un = let k = h.un in omega (arith, up_add a x) }

pub val_of : {z : ℤ} (a : E) → num z ≼ a → a ≡ num (val a)
unfolding val
val_of absent h = absurd h.un
val_of (num a) h = refl

-- both factors of a present product are numbers
pub ⊗_nums : {z : ℤ} (a b : E) → num z ≼ a ⊗ b → (x y : ℤ) × (a ≡ num x) × (b ≡ num y) × (z ≤z x +z y)
unfolding ◌⊗◌
⊗_nums absent b h = absurd h.un
⊗_nums (num a) absent h = absurd h.un
⊗_nums (num a) (num b) h = (a, b, refl, refl, h.un)

pub num_≼ : {x y : ℤ} → x ≤z y → num x ≼ num y
num_≼ h = record { un = h }

pub num_⊗ : (x y : ℤ) → num x ⊗ num y ≡ num (x +z y)
unfolding ◌⊗◌
num_⊗ x y = refl

pub ⊗_left_comm : (a b c : E) → a ⊗ (b ⊗ c) ≡ b ⊗ (a ⊗ c)
⊗_left_comm a b c = sym (⊗_assoc a b c) ∙ ap (λ x. x ⊗ c) (⊗_comm a b) ∙ ⊗_assoc b a c

unfoldable pub ≼_dec : (a b : E) → Dec (a ≼ b)
≼_dec absent b = yes (≼_absent b)
≼_dec (num a) absent = no (λ h. h.un)
≼_dec (num a) (num b) = elim (z_dec a b) [ yes h ↦ yes (num_≼ h) | no h ↦ no (λ k. h k.un) ]

pub leq_E_yes : (a b : E) → T (leq_E a b) → a ≼ b
leq_E_yes absent b t = ≼_absent b
leq_E_yes (num a) absent t = absurd t
leq_E_yes (num a) (num b) t = num_≼ (leqz_yes a b t)

pub leq_E_of : (a b : E) → a ≼ b → T (leq_E a b)
leq_E_of absent b h = tt
leq_E_of (num a) absent h = absurd h.un
leq_E_of (num a) (num b) h = leqz_of a b h.un

pub inv_num : (a : ℤ) → inv (num a) ≡ num (neg a)
unfolding inv
inv_num a = refl

pub inv_inv : (a : E) → inv (inv a) ≡ a
unfolding inv
inv_inv absent = refl
inv_inv (num a) = ap num (neg_neg a)

pub present_of : {z : ℤ} (a : E) → num z ≼ a → Present a
present_of a h = (val a, val_of a h)

pub absent_not : {z : ℤ} → absent ≡ num z → ⊥
absent_not e = (≼_of (sym e)).un

unfoldable pub present_dec : (a : E) → Dec (Present a)
present_dec absent = no (λ t. absent_not t.1)
present_dec (num a) = yes (a, refl)

pub present?_yes : (a : E) → T (present? a) → Present a
present?_yes absent t = absurd t
present?_yes (num a) t = (a, refl)

pub present?_of : (a : E) → Present a → T (present? a)
present?_of absent t = absurd (absent_not t.1)
present?_of (num a) t = tt

pub absent_of : (a : E) → ¬ (Present a) → a ≡ absent
absent_of absent h = refl
absent_of (num a) h = absurd (h (a, refl))

pub num_inj : {x y : ℤ} → num x ≡ num y → x ≡ y
num_inj e = unfold val in ap val e

-- ---- cancelling a number
pub cancel_r : (a b : E) (x : ℤ) → a ⊗ num x ≼ b ⊗ num x → a ≼ b
unfolding ◌⊗◌
cancel_r absent b x h = ≼_absent b
cancel_r (num a) absent x h = absurd h.un
cancel_r (num a) (num b) x h = omega (arith, up_add a x, up_add b x)

pub inv_self : (s : ℤ) → inv (num s) ⊗ num s ≡ unit
unfolding inv ◌⊗◌
inv_self s = ap num (z_eq _ _ (omega (arith, up_neg s, up_add (neg s) s)))

unfoldable pub same_entry? : (a b : E) → Dec (a ≡ b)
same_entry? a b = go (≼_dec a b) (≼_dec b a)
  where
    go : Dec (a ≼ b) → Dec (b ≼ a) → Dec (a ≡ b)
    go (yes h) (yes k) = yes (≼_anti h k)
    go (yes h) (no k) = no (λ e. k (≼_of (sym e)))
    go (no h) k = no (λ e. h (≼_of e))

-- ---- one less: the smallest change there is
abbrev pub minus_one : E
minus_one = num (negsuc 0)

-- below, so equal or below by one at least
pub equal_or_less : (a b : E) → a ≼ b → (a ≡ b) ⊎ (a ≼ b ⊗ minus_one)
equal_or_less a b h = go (≼_dec b a)
  where
    less_E : (a b : E) → ¬ (b ≼ a) → a ≼ b ⊗ minus_one
    less_E absent b k = ≼_absent _
    less_E (num a) absent k = absurd (k (≼_absent _))
    less_E (num a) (num b) k = let l : a <z b = z_not (λ h. k (num_≼ h)) in unfold ◌⊗◌ in omega (arith, l, up_add b (negsuc 0))

    go : Dec (b ≼ a) → (a ≡ b) ⊎ (a ≼ b ⊗ minus_one)
    go (yes k) = inl (≼_anti h k)
    go (no k) = inr (less_E a b k)

pub not_less : (a : ℤ) → num a ≼ num a ⊗ minus_one → ⊥
unfolding ◌⊗◌
not_less a h = let k = h.un in omega (arith, k, up_add a (negsuc 0))

pub less_below : (a : E) → a ⊗ minus_one ≼ a
unfolding ◌⊗◌
less_below absent = ≼_absent _
less_below (num a) = omega (arith, up_add a (negsuc 0))
