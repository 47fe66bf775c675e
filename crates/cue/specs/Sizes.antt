-- How large results are, each size by its name: L limits lags, floors and due marks, B the entries of the order table. At most six triggers.
use Rattle.std.specs.Prelude.{List, [], ◌∷◌, ℕ, zero, suc, ◌+◌, ◌*◌, ◌^◌}
use Rattle.maxplus.specs.Finite.{each}

-- "There are m panels and n triggers, each 1 to 6."
abbrev pub size_limit : ℕ
size_limit = 6

-- what stands at six places, "the unused ones" too
abbrev pub six : {A : Type 0} → (ℕ → A) → List A
six f = each size_limit (λ i. f i ∷ [])

-- "n + n² + ... + n to the power f"
unfoldable pub geometric : ℕ → ℕ → ℕ
geometric n zero = 0
geometric n (suc f) = geometric n f + n ^ suc f

-- 6 · 6⁶: there are no more lines
abbrev pub most_lines : ℕ
most_lines = 279936

module _ (L B : ℕ) where
  -- a power of the order table; M*; d
  abbrev pub power_size : ℕ → ℕ
  power_size k = k * B

  abbrev pub star_size : ℕ
  star_size = 5 * B

  abbrev pub through_size : ℕ
  through_size = star_size + L

  -- r and Δ: how far down and how far up
  abbrev pub mark_down : ℕ
  mark_down = star_size + L

  abbrev pub mark_up : ℕ
  mark_up = L

  abbrev pub least_down : ℕ
  least_down = 3 * L

  abbrev pub least_up : ℕ
  least_up = star_size + 3 * L

  -- p(i) − Δ − r(j); d(i,j) − p(i)
  abbrev pub threshold_size : ℕ
  threshold_size = star_size + 5 * L

  abbrev pub gain_size : ℕ
  gain_size = through_size + L

  -- w, a candidate before the shift, a line: how far down and how far up
  abbrev pub need_down : ℕ
  need_down = 2 * star_size + 5 * L

  abbrev pub need_up : ℕ
  need_up = L

  abbrev pub ray_down : ℕ
  ray_down = 3 * star_size + 6 * L

  abbrev pub ray_up : ℕ
  ray_up = star_size + 2 * L

  abbrev pub line_down : ℕ
  line_down = 4 * star_size + 8 * L

  -- words on the way: p(i) − Δ; a ray, made of M* and what panels want, before and after the shift; its lateness
  abbrev pub ask_size : ℕ
  ask_size = least_up + L

  abbrev pub starred_size : ℕ
  starred_size = star_size + need_down

  abbrev pub shifted_size : ℕ
  shifted_size = 2 * starred_size

  abbrev pub late_size : ℕ
  late_size = shifted_size + L
