-- Laws of the lines that a buffer holds: their places, their order, and one more put in among them.
use mathlib.Core.Path.{◌≡◌, refl, ap, ap₂, sym, ◌∙◌}
use mathlib.Core.Logic.{inl, inr}
use mathlib.Core.Bool.{true, false}
use mathlib.Core.List.{List, [], ◌∷◌, ◌++◌}
use Prim.Native.Nat.{ℕ, ◌+◌, ◌*◌, ◌≤◌, ◌<◌}
use native.Mathlib.Omega.{arith}
use native.Mathlib.Decide.{dec_lt}
use native.Mathlib.Numerals.{add-one}
use lib.IntN.{ℤ}
use lib.ListN.{length, get_or, take, drop}
use lib.Seq.{take-suc, take_all, take_at, length-take-le, get_or-take}
use Rattle.maxplus.specs.Finite.{In, map_l}
use Rattle.maxplus.specs.Line.{Line, lt_l}
use Rattle.maxplus.specs.Sorted.{Cmp, less, same, more, put}
use Rattle.maxplus.proofs.FiniteLaws.{in_app, in_at}
use Rattle.maxplus.proofs.EachLaws.{map_append, map_length, map_at}
use Rattle.maxplus.proofs.LineLaws.{strict}
use Rattle.maxplus.specs.Above.{gt?}
use Rattle.cue.proofs.MinimalLaws.{Increasing}
use Rattle.cue.specs.Written.{line_size, line_words, list_words}
use Rattle.cue.proofs.WrittenLaws.{list_words_length, line_words_length}
use Rattle.tables.specs.Lines.{line_of, Sized}
use Rattle.candidates.proofs.OrderLaws.{below_says}
use Rattle.buffer.specs.Buffer.{room, row, Before, Ordered, Placed, Fresh, between, Inserted, held, Stored}
use Rattle.buffer.specs.Space.{laid}
use Rattle.buffer.proofs.SpaceLaws.{laid_more, list_words_more, list_words_single}
use Rattle.buffer.proofs.ListLaws.{in_take, in_drop, sorted_at, put_new, put_there, map_take, map_drop}
use Rattle.cue.specs.Sizes.{size_limit}

module _ (n : ℕ) (buf : List (List ℕ)) where
  pub held_length : (len : ℕ) → len ≤ length buf → length (held n len buf) ≡ len
  unfolding held
  held_length len h = map_length (line_of n) (take len buf) ∙ length-take-le len buf h

  held_at : (len k : ℕ) (d : Line n) → len ≤ length buf → k < len → get_or (held n len buf) k d ≡ line_of n (row buf k)
  unfolding held
  held_at len k d h i = map_at (line_of n) (take len buf) k [] d (omega (arith, length-take-le len buf h)) ∙ ap (line_of n) (get_or-take len buf k [] i)

  pub held_row : (len k : ℕ) → len ≤ length buf → k < len → In (row buf k) (take len buf)
  held_row len k h i = rw (← get_or-take len buf k [] i) (in_at [] (take len buf) k (omega (arith, length-take-le len buf h)))

  held_more : (k : ℕ) → k < length buf → held n (k + 1) buf ≡ held n k buf ++ line_of n (row buf k) ∷ []
  unfolding held map_l
  held_more k h = rw (add-one, take-suc buf k [] h) (map_append (line_of n) (take k buf) (row buf k ∷ []))

  -- one line more in the space
  pub laid_none_held : (before : List ℤ) (at : ℕ) → laid before at (list_words n (held n 0 buf)) ≡ laid before at []
  unfolding held map_l list_words
  laid_none_held before at = refl

  pub laid_held : (before out after : List ℤ) (at k : ℕ) → k < length buf → at + line_size * (k + 1) ≤ length before →
      out ≡ laid before at (list_words n (held n k buf)) → after ≡ laid out (at + line_size * k) (line_words n (line_of n (row buf k))) →
      after ≡ laid before at (list_words n (held n (k + 1) buf))
  laid_held before out after at k h i p q =
      q ∙ ap₂ (λ o m. laid o m (line_words n c)) p (let e : at + line_size * k ≡ at + length W = omega (arith, size) in e) ∙
      laid_more before at W (line_words n c) (omega (arith, size, line_words_length n c)) ∙
      ap (laid before at) (sym (ap (list_words n) (held_more k h) ∙ list_words_more n (held n k buf) (c ∷ []) ∙
      ap (λ m. W ++ m) (list_words_single n c)))
    where
      c : Line n
      c = line_of n (row buf k)

      W : List ℤ
      W = list_words n (held n k buf)

      size : length W ≡ line_size * k
      size = list_words_length n (held n k buf) ∙ ap (λ m. line_size * m) (held_length k (omega arith))

-- ---- the order of lines is that of their words
before_line : {n : ℕ} {a b : List ℕ} → n ≤ size_limit → Sized n a → Sized n b → Before a b → lt_l n (line_of n a) (line_of n b)
before_line h s t l = below_says true h s t l

not_before_line : {n : ℕ} {a b : List ℕ} → n ≤ size_limit → Sized n a → Sized n b → ¬ (Before a b) → ¬ (lt_l n (line_of n a) (line_of n b))
not_before_line h s t l = below_says false h s t l

line_before : {n : ℕ} {a b : List ℕ} → n ≤ size_limit → Sized n a → Sized n b → lt_l n (line_of n a) (line_of n b) → Before a b
line_before {n} {a} {b} h s t l =
    elim (gt? (lt_l 6) (strict 6) (line_of 6 a) (line_of 6 b)) [ yes q ↦ q | no q ↦ absurd (not_before_line h s t q l) ]

pub stored_as : {n len : ℕ} {buf : List (List ℕ)} {L M : List (Line n)} → Stored n len buf L → L ≡ M → Stored n len buf M
stored_as s e = record { few = s.few; size = s.size; sized = s.sized; lines = s.lines ∙ e }

module _ {n len : ℕ} {buf : List (List ℕ)} {L : List (Line n)} (few : n ≤ size_limit) (s : Stored n len buf L) where
  pub row_sized : (k : ℕ) → k < len → Sized n (row buf k)
  row_sized k h = s.sized (row buf k) (held_row n buf len k (omega (arith, s.few, s.size)) h)

  pub row_line : (k : ℕ) (d : Line n) → k < len → get_or L k d ≡ line_of n (row buf k)
  row_line k d h = ap (λ l. get_or l k d) (sym s.lines) ∙ held_at n buf len k d (omega (arith, s.few, s.size)) h

  pub stored_length : length L ≡ len
  stored_length = ap length (sym s.lines) ∙ held_length n buf len (omega (arith, s.few, s.size))

  pub stored_ordered : Increasing n L → Ordered len buf
  stored_ordered g = record { at = λ i j h k. line_before few (row_sized i (omega arith)) (row_sized j k) (pair i j h k) }
    where
      pair : (i j : ℕ) → i < j → j < len → lt_l n (line_of n (row buf i)) (line_of n (row buf j))
      pair i j h k = rw (← row_line i (line_of n []) (omega arith), ← row_line j (line_of n []) k)
          (sorted_at (lt_l n) (strict n) (line_of n []) L i j g h (omega (arith, stored_length)))

  module _ (c : List ℕ) (at : ℕ) (z : Sized n c) (p : Placed buf len c at) where
    below_it : (i : ℕ) → i < at → lt_l n (get_or L i (line_of n [])) (line_of n c)
    below_it i h = let k : i < len = omega (arith, p.few) in
        rw (row_line i (line_of n []) k) (before_line few (row_sized i k) z (p.before i h))

    -- a line that is there, or past the end of a full buffer, changes nothing
    pub stale_line : ¬ (Fresh buf len at c) → take room (put (lt_l n) (strict n) (line_of n c) L) ≡ L
    stale_line f = go (dec_lt at len)
      where
        there : (h : at < len) → Cmp (lt_l n) (line_of n c) (line_of n (row buf at)) → line_of n c ≡ line_of n (row buf at)
        there h (less q) = absurd (f (omega (arith, s.few), λ k. line_before few z (row_sized at h) q))
        there h (same q) = q
        there h (more q) = absurd (not_before_line few (row_sized at h) z (p.from at (omega arith) h) q)

        go : Dec (at < len) → take room (put (lt_l n) (strict n) (line_of n c) L) ≡ L
        go (yes h) = ap (take room) (put_there (lt_l n) (strict n) (line_of n []) (line_of n c) L at (omega (arith, stored_length)) below_it
            (there h ((strict n).cmp _ _) ∙ sym (row_line at (line_of n []) h))) ∙ take_all room L (omega (arith, stored_length, s.few))
        go (no h) = full (dec_lt at room)
          where
            full : Dec (at < room) → take room (put (lt_l n) (strict n) (line_of n c) L) ≡ L
            full (yes k) = absurd (f (k, λ q. absurd (h q)))
            full (no k) = let e : length L ≡ room = omega (arith, stored_length, s.few, p.few) in
                ap (take room) (put_new (lt_l n) (strict n) (line_of n []) (line_of n c) L at (omega (arith, stored_length, p.few)) below_it
                (λ q. let x : ⊥ = omega (arith, stored_length) in absurd x) ∙
                ap (λ l. l ++ line_of n c ∷ drop at L) (take_all at L (omega (arith, p.few)))) ∙
                take_at L (line_of n c ∷ drop at L) room e

    -- a new one is put in at its place
    pub fresh_line : Fresh buf len at c → (after : List (List ℕ)) (r : ℕ) → Inserted buf len at c after r →
        Stored n r after (take room (put (lt_l n) (strict n) (line_of n c) L))
    unfolding held map_l
    fresh_line f after r i = record {
      few = i.few;
      size = i.size;
      sized = λ w h. member w (in_take room (between (take len buf) at c) w (rw i.rows at h));
      lines = ap (map_l (line_of n)) i.rows ∙ map_take (line_of n) room (between (take len buf) at c) ∙ ap (take room) (mapped ∙ sym placed);
    }
      where
        member : (w : List ℕ) → In w (between (take len buf) at c) → Sized n w
        member w h = elim (in_app (take at (take len buf)) _ w h) [
          | inl q ↦ s.sized w (in_take at (take len buf) w q)
          | inr q ↦ elim q [ inl e ↦ rw e z | inr k ↦ s.sized w (in_drop at (take len buf) w k) ]
        ]

        mapped : map_l (line_of n) (between (take len buf) at c) ≡ between L at (line_of n c)
        mapped = map_append (line_of n) (take at (take len buf)) (c ∷ drop at (take len buf)) ∙
            ap₂ (λ u v. u ++ line_of n c ∷ v) (map_take (line_of n) at (take len buf) ∙ ap (take at) s.lines)
            (map_drop (line_of n) at (take len buf) ∙ ap (drop at) s.lines)

        placed : put (lt_l n) (strict n) (line_of n c) L ≡ between L at (line_of n c)
        placed = put_new (lt_l n) (strict n) (line_of n []) (line_of n c) L at (omega (arith, stored_length, p.few)) below_it
            (λ q. let h : at < len = omega (arith, stored_length) in
            rw (row_line at (line_of n []) h) (before_line few z (row_sized at h) (f.1 h)))
