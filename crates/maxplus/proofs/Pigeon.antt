-- n + 1 numbers below n: two are the same. If the last number is none of the others, put it in the place of each n − 1 among them;
-- they are then one fewer, below n − 1, and two that are the same were the same before.
use mathlib.Core.Path.{◌≡◌, sym, ◌∙◌}
use Prim.Native.Nat.{ℕ, zero, suc, ◌≤◌, ◌<◌}
use native.Mathlib.Omega.{arith}
use native.Mathlib.Decide.{ℕ_discrete}
use Rattle.maxplus.proofs.FiniteLaws.{some_dec}

abbrev instead : {A : Type 0} → Dec A → ℕ → ℕ → ℕ
instead (yes e) x y = x
instead (no e) x y = y

pub pigeon : (n : ℕ) (v : ℕ → ℕ) → ((k : ℕ) → k ≤ n → v k < n) → (a b : ℕ) × (a < b) × (b ≤ n) × (v a ≡ v b)
pigeon zero v h = let e : v 0 < 0 = h 0 (omega arith) in let e2 : ⊥ = omega arith in absurd e2
pigeon (suc n) v h = go (pigeon n) (some_dec (λ k. v k ≡ v (suc n)) (λ k. ℕ_discrete (v k) (v (suc n))) (suc n))
  where
    w : ℕ → ℕ
    w k = instead (ℕ_discrete (v k) n) (v (suc n)) (v k)

    low : ((k : ℕ) → k < suc n → ¬ (v k ≡ v (suc n))) → (k : ℕ) → k ≤ n → w k < n
    low f k q = at (ℕ_discrete (v k) n)
      where
        at : (d : Dec (v k ≡ n)) → instead d (v (suc n)) (v k) < n
        at (yes e) = let x = h (suc n) (omega arith) in let y : ¬ (v k ≡ v (suc n)) = f k (omega arith) in omega arith
        at (no e) = let x = h k (omega arith) in omega arith

    back : ((k : ℕ) → k < suc n → ¬ (v k ≡ v (suc n))) → (a b : ℕ) → a < b → b ≤ n → w a ≡ w b → v a ≡ v b
    back f a b p q = at (ℕ_discrete (v a) n) (ℕ_discrete (v b) n)
      where
        at : (d : Dec (v a ≡ n)) (d' : Dec (v b ≡ n)) → instead d (v (suc n)) (v a) ≡ instead d' (v (suc n)) (v b) → v a ≡ v b
        at (yes e) (yes e') r = e ∙ sym e'
        at (yes e) (no e') r = absurd (f b (omega arith) (sym r))
        at (no e) (yes e') r = absurd (f a (omega arith) r)
        at (no e) (no e') r = r

    go : ((v : ℕ → ℕ) → ((k : ℕ) → k ≤ n → v k < n) → (a b : ℕ) × (a < b) × (b ≤ n) × (v a ≡ v b)) →
        Dec ((k : ℕ) × (k < suc n) × (v k ≡ v (suc n))) →
        (a b : ℕ) × (a < b) × (b ≤ suc n) × (v a ≡ v b)
    go ih (yes t) = (t.0, suc n, t.1, omega arith, t.2)
    go ih (no g) = let f : (k : ℕ) → k < suc n → ¬ (v k ≡ v (suc n)) = λ k h e. g (k, h, e) in
        let t = ih w (low f) in (t.0, t.1, t.2, omega arith, back f t.0 t.1 t.2 t.3 t.4)
