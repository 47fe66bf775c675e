-- Laws of combinations. x is one exactly when at each component that is there some line, shifted, lies below x and meets it;
-- that is the form in which combinations are decided.
use mathlib.Core.Path.{◌≡◌, refl, ap, sym, ◌∙◌}
use mathlib.Core.List.{List}
use Prim.Native.Nat.{ℕ, ◌<◌}
use native.Mathlib.Omega.{arith}
use lib.IntN.{ℤ}
use Rattle.maxplus.specs.Whole.{◌+z◌, neg}
use Rattle.maxplus.specs.Entry.{E, absent, num, ◌≼◌, ◌⊗◌, inv, unit, Present, val}
use Rattle.maxplus.specs.Finite.{In}
use Rattle.maxplus.specs.Tables.{sup, sup_l, Vec, normal}
use Rattle.maxplus.specs.Line.{Line, at, line}
use Rattle.maxplus.specs.Normal.{Normal}
use Rattle.maxplus.specs.Combination.{Combination}
use Rattle.maxplus.proofs.WholeLaws.{z_eq, up_add, up_neg}
use Rattle.maxplus.proofs.EntryLaws.{≼_refl, ◌▸◌, ≼_anti, ≼_absent, ≼_of, ≼_back, ⊗_left, ⊗_right, ⊗_comm, ⊗_assoc, ⊗_nothing}
use Rattle.maxplus.proofs.EntryLaws.{⊗_unit, ≼_num, val_of, ⊗_nums, ⊗_left_comm, ≼_dec, absent_not, present_dec, cancel_r}
use Rattle.maxplus.proofs.FiniteLaws.{all_dec, any_dec, dec_×, dec_→}
use Rattle.maxplus.proofs.SupLaws.{sup_ub, sup_lub, sup_⊗r, sup_l_ub, sup_l_lub, sup_l_at}
use Rattle.maxplus.proofs.LineLaws.{line_ext, at_line}

-- below d, shifted to meet, and d below x: c below x
trans_E : (ci cj di dj xi xj : E) → Present dj → ci ⊗ dj ≼ di ⊗ cj → di ⊗ xj ≼ xi ⊗ dj → ci ⊗ xj ≼ xi ⊗ cj
unfolding ◌⊗◌
trans_E absent cj di dj xi xj d h k = ≼_absent _
trans_E (num ci) cj absent dj xi xj d h k = absurd (rw d.1 at h).un
trans_E (num ci) cj (num di) dj xi absent d h k = ≼_absent _
trans_E (num ci) absent (num di) dj xi (num xj) d h k = absurd (rw d.1 at h).un
trans_E (num ci) (num cj) (num di) dj absent (num xj) d h k = absurd k.un
trans_E (num ci) (num cj) (num di) dj (num xi) (num xj) d h k = go d.0 (rw d.1 at h) (rw d.1 at k)
  where
    go : (dj : ℤ) → num (ci +z dj) ≼ num (di +z cj) → num (di +z xj) ≼ num (xi +z dj) → num (ci +z xj) ≼ num (xi +z cj)
    go dj h k = omega (arith, up_add ci dj, up_add di cj, up_add di xj, up_add xi dj, up_add ci xj, up_add xi cj)

-- a line that is 0 where the other is at most 0 is the lower one
top_E : (a b c : E) → unit ⊗ b ≼ a ⊗ c → a ≼ unit → b ≼ c
top_E a b c h k = ≼_back (⊗_unit b) ▸ h ▸ ⊗_left _ k ▸ ≼_of (⊗_unit c)

-- the weight x(j) − c(j) fits
pub weight_fits : (ci cj xi xj : E) → ci ⊗ xj ≼ xi ⊗ cj → xj ⊗ inv cj ⊗ ci ≼ xi
unfolding ◌⊗◌ inv
weight_fits ci cj xi absent h = ≼_absent _
weight_fits ci absent xi (num xj) h = ≼_absent _
weight_fits absent (num cj) xi (num xj) h = ≼_absent _
weight_fits (num ci) (num cj) absent (num xj) h = absurd h.un
weight_fits (num ci) (num cj) (num xi) (num xj) h =
    omega (arith, up_add ci xj, up_add xi cj, up_neg cj, up_add xj (neg cj), up_add (xj +z neg cj) ci)

-- and with it c meets x at j
pub weight_meets : (cj xj : E) → Present cj → xj ⊗ inv cj ⊗ cj ≡ xj
unfolding ◌⊗◌ inv
weight_meets absent xj p = absurd (absent_not p.1)
weight_meets (num cj) absent p = refl
weight_meets (num cj) (num xj) p = ap num (z_eq _ _ (omega (arith, up_neg cj, up_add xj (neg cj), up_add (xj +z neg cj) cj)))

-- what a decision is worth: 0 or absent
abbrev pick : {A : Type 0} → Dec A → E
pick (yes e) = unit
pick (no e) = absent

gate : {P : Type 0} (d : Dec P) (a c : E) → (P → a ≼ c) → pick d ⊗ a ≼ c
gate (yes h) a c f = rw ⊗_unit (f h)
gate (no h) a c f = rw ⊗_nothing (≼_absent c)

gated : {P : Type 0} (d : Dec P) (a : E) → P → a ≼ pick d ⊗ a
gated (yes h) a p = rw ⊗_unit (≼_refl a)
gated (no h) a p = absurd (h p)

module _ (n : ℕ) where
  -- c, shifted to meet x at j, lies below x: c(i) − c(j) ≤ x(i) − x(j)
  abbrev pub Under : ℕ → Line n → Vec → Type 0
  Under j c x = (i : ℕ) → i < n → at n c i ⊗ x j ≼ x i ⊗ at n c j

  unfoldable pub under_dec : (j : ℕ) (c : Line n) (x : Vec) → Dec (Under j c x)
  under_dec j c x = all_dec (λ i. at n c i ⊗ x j ≼ x i ⊗ at n c j) (λ i. ≼_dec _ _) n

  pub under_trans : (j : ℕ) (c d : Line n) (x : Vec) → Present (at n d j) → Under j c (at n d) → Under j d x → Under j c x
  under_trans j c d x p h k i hi = trans_E (at n c i) (at n c j) (at n d i) (at n d j) (x i) (x j) p (h i hi) (k i hi)

  pub under_refl : (j : ℕ) (c : Line n) → Under j c (at n c)
  under_refl j c i hi = ≼_refl _

  pub under_anti : (j : ℕ) (c d : Line n) → Normal n c → Normal n d → Present (at n c j) → Under j c (at n d) → Under j d (at n c) → c ≡ d
  under_anti j c d nc nd (x, ex) h k = line_ext n c d (λ i hi. ≼_anti
      (cancel_r _ _ x (rw (← ex) (rw (← eq) at (h i hi))))
      (cancel_r _ _ x (rw (← ex) (rw (← eq) at (k i hi)))))
    where
      eq : at n c j ≡ at n d j
      eq = ≼_anti (top_E (at n c nd.top) (at n c j) (at n d j) (rw nd.zero_there at (k nd.top nd.here))
          (nc.low nd.top nd.here))
          (top_E (at n d nc.top) (at n d j) (at n c j) (rw nc.zero_there at (h nc.top nc.here)) (nd.low nc.top nc.here))

  -- a vector y that, shifted, lies below x and meets it at j: so does its line
  pub under_line : (y x : Vec) (j : ℕ) → j < n → ((i : ℕ) → i < n → y i ⊗ x j ≼ x i ⊗ y j) → Under j (line n (normal n y)) x
  unfolding normal
  under_line y x j hj h i hi = rw (at_line n (normal n y) i hi, at_line n (normal n y) j hj)
      (rw (⊗_assoc, ⊗_left_comm (x i)) (⊗_right _ (h i hi)))

  -- some line of C, shifted, lies below x and meets it at j
  abbrev pub Met : List (Line n) → Vec → ℕ → Type 0
  Met C x j = (c : Line n) × In c C × Present (at n c j) × Under j c x

  abbrev pub Span : List (Line n) → Vec → Type 0
  Span C x = (j : ℕ) → j < n → Present (x j) → Met C x j

  -- the weight of a line is the largest with which it stays below x
  pub span_combination : (C : List (Line n)) (x : Vec) → Span C x → Combination n C x
  span_combination C x s =
      record {
        weight = fit;
        is = λ i hi. ≼_anti (≼_num (λ z h. below i hi z h)) (sup_l_lub C _ (λ c hc. rw sup_⊗r (sup_lub n _ (λ j hj.
            rw ⊗_assoc (gate (under_dec j c x) _ _ (λ l. weight_fits (at n c i) (at n c j) (x i) (x j) (l i hi)))))));
      }
    where
      fit : Line n → E
      fit c = sup n (λ j. pick (under_dec j c x) ⊗ (x j ⊗ inv (at n c j)))

      below : (i : ℕ) → i < n → (z : ℤ) → num z ≼ x i → num z ≼ sup_l C (λ c. fit c ⊗ at n c i)
      below i hi z h =
          let (c, hc, pc, l) = s i hi (val (x i), val_of (x i) h) in
          h ▸ ≼_back (weight_meets (at n c i) (x i) pc) ▸ ⊗_left _ (gated (under_dec i c x) (x i ⊗ inv (at n c i)) l ▸
          sup_ub n (λ j. pick (under_dec j c x) ⊗ (x j ⊗ inv (at n c j))) i hi) ▸ sup_l_ub C (λ c. fit c ⊗ at n c i) c hc

  -- a line that reaches x at j, with its weight, lies below x and meets it there
  pub combination_span : (C : List (Line n)) (x : Vec) → Combination n C x → Span C x
  combination_span C x k j hj (z, ez) = go (sup_l_at C (λ c. k.weight c ⊗ at n c j) (≼_of (sym ez ∙ k.is j hj)))
    where
      go : (c : Line n) × In c C × (num z ≼ k.weight c ⊗ at n c j) → Met C x j
      go (c, hc, h) = (
        c,
        hc,
        (let (a, b, ea, eb, l) = ⊗_nums (k.weight c) (at n c j) h in (b, eb)),
        λ i hi. rw ez
            (⊗_right _ h ▸ ≼_of (sym (⊗_assoc (at n c i) (k.weight c) (at n c j)) ∙
            ap (λ e. e ⊗ at n c j) (⊗_comm (at n c i) (k.weight c))) ▸
            ⊗_left _ (sup_l_ub C (λ c. k.weight c ⊗ at n c i) c hc ▸ ≼_back (k.is i hi))),
      )

  -- ---- decided
  unfoldable pub met? : (C : List (Line n)) (x : Vec) (j : ℕ) → Dec (Met C x j)
  met? C x j = go (any_dec (λ c. Present (at n c j) × Under j c x) (λ c. dec_× (present_dec (at n c j)) (under_dec j c x)) C)
    where
      go : Dec ((c : Line n) × In c C × (Present (at n c j) × Under j c x)) → Dec (Met C x j)
      go (yes t) = yes (t.0, t.1, t.2.0, t.2.1)
      go (no f) = no (λ t. f (t.0, t.1, (t.2, t.3)))

  unfoldable pub asked? : (C : List (Line n)) (x : Vec) (j : ℕ) → Dec (Present (x j) → Met C x j)
  asked? C x j = dec_→ (present_dec (x j)) (met? C x j)

  unfoldable pub combination? : (C : List (Line n)) (x : Vec) → Dec (Combination n C x)
  combination? C x = elim (all_dec (λ j. Present (x j) → Met C x j) (asked? C x) n) [
    | yes s ↦ yes (span_combination C x s)
    | no s ↦ no
        (λ k. s (combination_span C x k))
  ]
