-- Laws of a plan's lines in their words: what is read from a line's own words, and how many lines of the words are passed.
use Rattle.std.proofs.Common.{◌≡◌, ℕ, zero, suc, ◌+◌, ◌-◌, ◌*◌, ◌<◌, ◌≤◌, Bool, List, ◌++◌, length, drop, get_or, ℤ, pos, sym, ap, ap₂, ◌∙◌, arith, zero-add, eqb, ne_eqb}
use native.Mathlib.Nat.{mul-suc, mul-le-mul_left}
use native.Mathlib.Decide.{ℕ_discrete}
use Rattle.std.proofs.lemmas.List.{get_or-drop, length-drop, drop-drop}
use lib.ListN.{get_or-append}
use Rattle.std.proofs.Math.Seq.{drop-append_seam}
use Rattle.maxplus.specs.Finite.{only_if}
use Rattle.cue.specs.Sizes.{size_limit}
use Rattle.cue.specs.Written.{line_size, capped_size}
use Rattle.cue.proofs.StandingLaws.{line_local}
use Rattle.sheet.specs.Text.{bytes}
use Rattle.writing.specs.Numerals.{numeral}
use Rattle.writing.specs.Texts.{field, line_text}
use Rattle.writing.specs.Writing.{text_at}

module _ (n : ℕ) (six : n ≤ size_limit) (spare : ℕ → Bool) {wide : ℕ} (enough : line_size ≤ wide) where
  -- a line's text and its cap's are read from its own words alone
  pub text_local : (ws vs : List ℤ) (from to : ℕ) → ((i : ℕ) → i < wide → get_or ws (from + i) (pos 0) ≡ get_or vs (to + i) (pos 0)) →
      text_at n spare wide ws from ≡ text_at n spare wide vs to
  unfolding text_at
  text_local ws vs from to e =
      ap₂ (λ c t. line_text n spare c ++ t) (line_local n six ws vs from to (λ i h. e i (omega arith))) (cap (ℕ_discrete wide capped_size))
    where
      cap_of : List ℤ → ℕ → List ℕ
      cap_of xs at = field (bytes "cap=") (numeral (get_or xs (at + line_size) (pos 0)))

      cap : Dec (wide ≡ capped_size) → only_if (eqb wide capped_size) (cap_of ws from) ≡ only_if (eqb wide capped_size) (cap_of vs to)
      cap (yes h) = ap (λ z. only_if (eqb wide capped_size) (field (bytes "cap=") (numeral z))) (e 7 (omega arith))
      cap (no h) = rw (ne_eqb wide capped_size h)

  -- and so from the part of the words that a line is
  pub text_part : (ws line rest : List ℤ) (at : ℕ) → drop at ws ≡ line ++ rest → length line ≡ wide →
      text_at n spare (length line) line 0 ≡ text_at n spare wide ws at
  text_part ws line rest at e l =
      rw l (text_local line ws 0 at (λ i h.
      ap (λ k. get_or line k (pos 0)) (zero-add i)
      ∙ sym (get_or-append line rest (pos 0) i (omega arith))
      ∙ ap (λ s. get_or s i (pos 0)) (sym e)
      ∙ get_or-drop at ws i (pos 0)))

-- `left` of `count` lines are not passed yet, and their words are the rest
pub record Passing (ws : List ℤ) (wide count left size : ℕ) (rest : List ℤ) : Type 0 where
  pub few : left ≤ count
  pub size_is : size ≡ wide
  pub rest_is : rest ≡ drop (wide * (count - left)) ws

pub pass_none : {ws : List ℤ} {wide count left size : ℕ} {rest : List ℤ} → left ≡ count → size ≡ wide → rest ≡ ws →
    Passing ws wide count left size rest
pass_none {ws} {wide} {count} {left} l s e =
    let none : wide * (count - left) ≡ 0 = let z : count - left ≡ 0 = omega arith in rw z (omega arith) in
    record { few = omega arith; size_is = s; rest_is = rw none e }

module _ {ws : List ℤ} {wide count left size : ℕ} {rest : List ℤ} (p : Passing ws wide count left size rest) where
  pub pass : {fewer same : ℕ} (line : List ℤ) {more : List ℤ} → fewer + 1 ≡ left → same ≡ size → rest ≡ line ++ more → length line ≡ size →
      Passing ws wide count fewer same more
  pass {fewer} {same} line {more} f s e l =
      let few = p.few in
      let step : count - fewer ≡ suc (count - left) = omega arith in
      let behind : wide * (count - left) + length line ≡ wide * (count - fewer) = rw step (omega (arith, mul-suc wide (count - left), p.size_is)) in
      record {
        few = omega arith;
        size_is = s ∙ p.size_is;
        rest_is =
            sym (drop-append_seam line more) ∙ ap (drop (length line)) (sym e ∙ p.rest_is) ∙ drop-drop (length line) (wide * (count - left)) ws
            ∙ ap (λ k. drop k ws) behind;
      }

  -- where there are as many lines, none is left at the end
  pub all_passed : wide * count ≤ length ws → (0 < left → length rest < size) → count - left ≡ count
  all_passed room end = go left p end
    where
      go : (left : ℕ) → Passing ws wide count left size rest → (0 < left → length rest < size) → count - left ≡ count
      go zero q h = omega arith
      go (suc m) q h =
          let few = q.few in
          let next : suc (count - suc m) ≤ count = omega arith in
          let short = h (omega arith) in
          let long = ap length q.rest_is ∙ length-drop (wide * (count - suc m)) ws in
          absurd (omega (arith, mul-suc wide (count - suc m), mul-le-mul_left wide next, q.size_is))
