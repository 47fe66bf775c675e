-- Laws of lines: equal by components, a strict order, and shifting so that the greatest component is 0.
use mathlib.Core.Path.{◌≡◌, refl, ap, sym, ◌∙◌}
use mathlib.Core.Logic.{inl, inr}
use Prim.Native.Nat.{ℕ, zero, suc, ◌≤◌, ◌<◌}
use native.Mathlib.Omega.{arith}
use lib.IntN.{ℤ}
use Rattle.maxplus.specs.Whole.{◌≤z◌, ◌+z◌, neg}
use Rattle.maxplus.specs.Entry.{E, absent, num, ◌≼◌, ◌⊗◌, inv, Present, val}
use Rattle.maxplus.specs.Tables.{sup, Vec, normal}
use Rattle.maxplus.specs.Line.{Line, at, line, lt_E, lt_l}
use Rattle.maxplus.specs.Normal.{Normal}
use Rattle.maxplus.specs.Sorted.{Cmp, less, same, more, Strict}
use Rattle.maxplus.proofs.WholeLaws.{z_anti, z_dec, z_not}
use Rattle.maxplus.proofs.EntryLaws.{◌▸◌, ≼_anti, ≼_of, ≼_back, ⊗_right, val_of, num_⊗, inv_num, present_of, inv_self}
use Rattle.maxplus.proofs.SupLaws.{sup_ub, sup_at}

pub line_ext : (n : ℕ) (c d : Line n) → ((i : ℕ) → i < n → at n c i ≡ at n d i) → c ≡ d
unfolding at
line_ext zero c d h = refl
line_ext (suc n) c d h = pair (h 0 (omega arith)) (line_ext n c.1 d.1 (λ i k. h (suc i) (omega arith)))
  where
    pair : c.0 ≡ d.0 → c.1 ≡ d.1 → c ≡ d
    pair p q = λ i. (p i, q i)

-- past the last component nothing is there
pub at_past : (n : ℕ) (c : Line n) (i : ℕ) → n ≤ i → at n c i ≡ absent
unfolding at
at_past zero c i h = refl
at_past (suc n) c zero h = let x : ⊥ = omega arith in absurd x
at_past (suc n) c (suc i) h = at_past n c.1 i (omega arith)

pub at_line : (n : ℕ) (f : Vec) (i : ℕ) → i < n → at n (line n f) i ≡ f i
unfolding at line
at_line zero f i h = let e : ⊥ = omega arith in absurd e
at_line (suc n) f zero h = refl
at_line (suc n) f (suc i) h = at_line n (λ i. f (suc i)) i (omega arith)

lt_E_irrefl : (a : E) → ¬ (lt_E a a)
lt_E_irrefl absent h = h
lt_E_irrefl (num a) h = let e : ⊥ = omega arith in e

lt_E_trans : (a b c : E) → lt_E a b → lt_E b c → lt_E a c
lt_E_trans a b absent h k = k
lt_E_trans a absent (num c) h k = absurd h
lt_E_trans absent (num b) (num c) h k = tt
lt_E_trans (num a) (num b) (num c) h k = omega arith

unfoldable pub lt_E_cmp : (a b : E) → Cmp lt_E a b
lt_E_cmp absent absent = same refl
lt_E_cmp absent (num b) = less tt
lt_E_cmp (num a) absent = more tt
lt_E_cmp (num a) (num b) = go (z_dec a b) (z_dec b a)
  where
    go : Dec (a ≤z b) → Dec (b ≤z a) → Cmp lt_E (num a) (num b)
    go (yes h) (yes k) = same (ap num (z_anti h k))
    go (yes h) (no k) = less (z_not k)
    go (no h) k = more (z_not h)

pub lt_l_irrefl : (n : ℕ) (c : Line n) → ¬ (lt_l n c c)
lt_l_irrefl zero c h = h
lt_l_irrefl (suc n) c (inl h) = lt_E_irrefl c.0 h
lt_l_irrefl (suc n) c (inr h) = lt_l_irrefl n c.1 h.1

pub lt_l_trans : (n : ℕ) (a b c : Line n) → lt_l n a b → lt_l n b c → lt_l n a c
lt_l_trans zero a b c h k = h
lt_l_trans (suc n) a b c (inl h) (inl k) = inl (lt_E_trans a.0 b.0 c.0 h k)
lt_l_trans (suc n) a b c (inl h) (inr k) = inl (rw k.0 at h)
lt_l_trans (suc n) a b c (inr h) (inl k) = inl (rw h.0 k)
lt_l_trans (suc n) a b c (inr h) (inr k) = inr (h.0 ∙ k.0, lt_l_trans n a.1 b.1 c.1 h.1 k.1)

unfoldable pub lt_l_cmp : (n : ℕ) (c d : Line n) → Cmp (lt_l n) c d
lt_l_cmp zero c d = same refl
lt_l_cmp (suc n) c d = go (lt_E_cmp c.0 d.0) (lt_l_cmp n c.1 d.1)
  where
    pair : c.0 ≡ d.0 → c.1 ≡ d.1 → c ≡ d
    pair p q = λ i. (p i, q i)

    go : Cmp lt_E c.0 d.0 → Cmp (lt_l n) c.1 d.1 → Cmp (lt_l (suc n)) c d
    go (less h) k = less (inl h)
    go (more h) k = more (inl h)
    go (same h) (less k) = less (inr (h, k))
    go (same h) (more k) = more (inr (sym h, k))
    go (same h) (same k) = same (pair h k)

unfoldable pub strict : (n : ℕ) → Strict (lt_l n)
strict n = record { irrefl = lt_l_irrefl n; trans = lt_l_trans n; cmp = lt_l_cmp n }

unfoldable pub same? : (n : ℕ) (c d : Line n) → Dec (c ≡ d)
same? n c d = go ((strict n).cmp c d)
  where
    go : Cmp (lt_l n) c d → Dec (c ≡ d)
    go (less h) = no (λ e. (strict n).irrefl d (rw e at h))
    go (same e) = yes e
    go (more h) = no (λ e. (strict n).irrefl d (rw e at h))

-- ---- lines whose greatest component is 0
module _ (n : ℕ) where
  pub normal_line : (x : Vec) (t : ℕ) {z : ℤ} → t < n → num z ≼ x t → Normal n (line n (normal n x))
  unfolding normal
  normal_line x t {z} ht h = go (val (sup n x)) (val_of (sup n x) (h ▸ sup_ub n x t ht))
    where
      go : (s : ℤ) → sup n x ≡ num s → Normal n (line n (normal n x))
      go s e = let (j, hj, k) = sup_at n x (≼_back e) in
          record {
            top = j;
            here = hj;
            zero_there = at_line n (normal n x) j hj ∙ ap (λ e. inv e ⊗ x j) e ∙ ap (λ e. inv (num s) ⊗ e) (≼_anti (sup_ub n x j hj ▸
                ≼_of e) k) ∙ inv_self s;
            low = λ i hi. ≼_of (at_line n (normal n x) i hi ∙ ap (λ e. inv e ⊗ x i) e) ▸ (⊗_right _ (sup_ub n x i hi ▸ ≼_of e)) ▸
                ≼_of (inv_self s);
          }

  pub normal_present : (x : Vec) (t : ℕ) {z : ℤ} → t < n → num z ≼ x t → Present (at n (line n (normal n x)) t)
  unfolding normal
  normal_present x t {z} ht h = rw (at_line n (normal n x) t ht, val_of (sup n x) (h ▸ sup_ub n x t ht)) (shifted _ (x t) h)
    where
      shifted : (s : ℤ) (a : E) {z : ℤ} → num z ≼ a → Present (inv (num s) ⊗ a)
      shifted s a h = let (z, e) = present_of a h in (neg s +z z, ap (λ e. inv (num s) ⊗ e) e ∙ ap (λ e. e ⊗ num z) (inv_num s) ∙ num_⊗ _ _)
