-- Laws of chains: the state behind any number of draws, and behind any number of sheets, at once.
use Rattle.std.proofs.Common.{◌≡◌, ℕ, zero, suc, ◌+◌, ◌*◌, ◌/◌, ◌%◌, ◌^◌, ◌<◌, ◌≤◌, sym, ap, ◌∙◌, mul_assoc, suc-mul, mul_comm, add-mul, mul-le-mul, div-add-mod', zero-mul, arith}
use native.Mathlib.Nat.{add-mod-mod, mul-add-mod_self_right}
use Rattle.cue.specs.Sizes.{size_limit}
use Rattle.hiring.specs.Hiring.{stride, drawn, draws, chained}
use Rattle.hiring.proofs.DrawLaws.{drawn_add}

-- k draws add k strides, "discarding what exceeds 32 bits" once for all of them
pub drawn_at_once : (s k : ℕ) → s < 2 ^ 32 → drawn s k ≡ (s + k * stride) % 2 ^ 32
unfolding drawn
drawn_at_once s zero h = omega arith
drawn_at_once s (suc k) h = rw (drawn_at_once s k h) (omega arith)

-- ---- the draws of a sheet
module _ {m n : ℕ} (few-m : m ≤ size_limit) (few-n : n ≤ size_limit) where
  pub lags_few : m * n ≤ 36
  lags_few = mul-le-mul few-m few-n

  pub afters_few : n * n ≤ 36
  afters_few = mul-le-mul few-n few-n

pub product_small : (a b : ℕ) → a < 2 ^ 32 → b ≤ 84 → a * b < 2 ^ 64
product_small a b h g = let q : a * b ≤ 2 ^ 32 * 84 = mul-le-mul (let x : a ≤ 2 ^ 32 = omega arith in x) g in omega arith

-- ---- sheets
module _ (m n s : ℕ) where
  chained_drawn : (k : ℕ) → chained m n s k ≡ drawn s (k * draws m n)
  unfolding chained drawn
  chained_drawn zero = ap (drawn s) (sym (zero-mul (draws m n)))
  chained_drawn (suc k) =
      ap (λ x. drawn x (draws m n)) (chained_drawn k) ∙ drawn_add s (k * draws m n) (draws m n) ∙ ap (drawn s) (sym (suc-mul k (draws m n)))

  -- of the number of sheets only its remainder counts
  remainder_enough : (k d : ℕ) → (k % 2 ^ 32) * d % 2 ^ 32 ≡ k * d % 2 ^ 32
  remainder_enough k d =
      let W = 2 ^ 32 in
      let split : k * d ≡ (k / W * d) * W + k % W * d =
      (ap (λ x. x * d) (sym (div-add-mod' k W)) ∙ add-mul (k / W * W) (k % W) d ∙
      ap (λ x. x + k % W * d) (mul_assoc (k / W) W d ∙ ap (λ x. k / W * x) (mul_comm W d) ∙ sym (mul_assoc (k / W) d W))) in
      sym (ap (λ x. x % W) split ∙ mul-add-mod_self_right (k / W * d) W (k % W * d))

  strides_same : (x y : ℕ) → x ≡ y % 2 ^ 32 → (s + x * stride) % 2 ^ 32 ≡ (s + y * stride) % 2 ^ 32
  strides_same x y e =
      sym (add-mod-mod s (x * stride) (2 ^ 32)) ∙
      ap (λ z. (s + z) % 2 ^ 32) (ap (λ x. x * stride % 2 ^ 32) e ∙ remainder_enough y stride) ∙ add-mod-mod s (y * stride) (2 ^ 32)

  pub chained_at_once : (k before d : ℕ) → s < 2 ^ 32 → before ≡ k % 2 ^ 32 → d ≡ draws m n →
      (s + before * d % 2 ^ 32 * stride) % 2 ^ 32 ≡ chained m n s k
  chained_at_once k before d h e f =
      strides_same (before * d % 2 ^ 32) (k * draws m n)
      (ap (λ b. b * d % 2 ^ 32) e ∙ remainder_enough k d ∙ ap (λ d. k * d % 2 ^ 32) f)
      ∙ sym (drawn_at_once s (k * draws m n) h) ∙ sym (chained_drawn k)
