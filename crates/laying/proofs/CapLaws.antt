-- Laws of caps in a lent space: the eight words of a line written one by one, a line and its cap by the words read, and the lines moved one
-- after the other, the last one first. With k lines left to be moved the first 7k words are those of the first k lines, and what stands from
-- 8k on are the other lines with their caps and then the rest: what is written at 8(k − 1) is behind the lines still to be read.
use mathlib.Core.Path.{◌≡◌, refl, ap, ap₂, sym, ◌∙◌}
use mathlib.Core.Logic.{inl, inr}
use mathlib.Core.List.{List, [], ◌∷◌, ◌++◌, append_assoc}
use mathlib.Core.Option.{some}
use Prim.Native.Nat.{ℕ, suc, ◌+◌, ◌-◌, ◌*◌, ◌≤◌, ◌<◌}
use native.Mathlib.Omega.{arith}
use native.Mathlib.Numerals.{add-one}
use lib.IntN.{ℤ, pos}
use lib.ListN.{length, get_or, take, drop, set, length-append, length-set, drop_of_length-le}
use lib.Seq.{paste, take_all, take-suc, take-suc-set, drop-cons, drop-set-lt, append_snoc, take_at, drop_at, take-take, take-add, take-append-le}
use lib.Seq.{get_or_at, get_or-drop, length-take-le}
use borrow.Rule.Slice.PartMut.{put_mid}
use Rattle.std.proofs.lemmas.Slice.{put_mid-paste}
use Rattle.maxplus.specs.Entry.{absent, num, ◌⊗◌, inv}
use Rattle.maxplus.specs.Finite.{In}
use Rattle.maxplus.specs.Tables.{sup}
use Rattle.maxplus.specs.Line.{Line, at, line}
use Rattle.maxplus.proofs.EachLaws.{each_same, each_at}
use Rattle.maxplus.proofs.FiniteLaws.{in_at}
use Rattle.maxplus.proofs.SupLaws.{sup_ext}
use Rattle.cue.specs.Results.{Signed32}
use Rattle.cue.specs.Sizes.{size_limit, six}
use Rattle.cue.specs.Standing.{of_signed, line_at, lines_of, Stands}
use Rattle.cue.specs.Written.{line_size, capped_size, signed, line_words, list_words, lent_words}
use Rattle.cue.proofs.StandingLaws.{lines_back}
use Rattle.cue.proofs.WrittenLaws.{line_words_length, list_words_length}
use Rattle.words.specs.Words.{entry, signed_far, Close}
use Rattle.words.proofs.Laws.{close_of}
use Rattle.tables.specs.Held.{meant_v, HoldsV}
use Rattle.tables.proofs.LineLaws.{line_same}
use Rattle.buffer.specs.Space.{laid}
use Rattle.buffer.proofs.SpaceLaws.{list_words_more, list_words_single}
use Rattle.laying.specs.Laying.{CappableLine, Cappable}
use Rattle.laying.proofs.LayLaws.{component_word, word_set}

-- ---- the words of a line with its cap: the six components and the cap are written behind the count, which is written as n and the cap as cap
pub put_all : (before : List ℤ) (from : ℕ) {components written : List ℤ} {n v cap w : ℤ} → length components ≡ 6 →
    from + capped_size ≤ length before → n ≡ v → cap ≡ w → written ≡ components →
    set (put_mid (from + 1) (from + 7 - (from + 1)) (set before from n) written) (from + 7) cap ≡ laid before from (v ∷ components ++ (w ∷ []))
unfolding laid
put_all before from {components} {written} {n} {v} {cap} {w} l h p q e =
    ap₂ (λ o k. set o k cap) copied (let f : from + 7 ≡ from + 1 + 6 = omega arith in f) ∙
    word_set first (from + 1) tail 6 (omega (arith, size, length-set before from n)) (omega (arith, size)) (sym (get_or_at components cap [] (pos 0) 6 l)) ∙
    ap₂ ◌++◌ (ap₂ ◌++◌ (ap (λ k. take k first) (add-one from) ∙ take-suc-set before from n (omega arith))
    (take_all 7 tail (omega (arith, size))) ∙ append_snoc (take from before) n tail)
    (drop-set-lt (from + 1 + 7) before from n (omega arith) ∙
    ap (λ k. drop k before) (let f : from + 1 + 7 ≡ from + suc (length tail) = omega (arith, size) in f)) ∙
    ap₂ (λ a b. laid before from (a ∷ components ++ (b ∷ []))) p q
  where
    first : List ℤ
    first = set before from n

    tail : List ℤ
    tail = components ++ (cap ∷ [])

    size : length tail ≡ 7
    size = length-append components (cap ∷ []) ∙ omega arith

    copied : put_mid (from + 1) (from + 7 - (from + 1)) first written ≡ paste first (from + 1) tail 6
    copied = put_mid-paste (from + 1) (from + 7 - (from + 1)) first written components 6 e (omega arith) (omega arith) ∙
        ap (λ m. take (from + 1) first ++ m ++ drop (from + 1 + 6) first) (sym (take-append-le 6 components (cap ∷ []) (omega arith)))

-- ---- one line by its words
module _ (w : List ℤ) (from n : ℕ) (c : Line n) (e : take line_size (drop from w) ≡ line_words n c) where
  -- its count and the six words behind it
  pub line_words_read : pos n ∷ six (λ j. get_or w (from + 1 + j) (pos 0)) ≡ line_words n c
  unfolding line_words
  line_words_read = ap (λ l. pos n ∷ l) (each_same 6 _ _ (λ j h. ap (λ z. z ∷ []) (component_word w from n c e j h)))

  -- the line that they stand for
  module _ (few : n ≤ size_limit) (f : (j : ℕ) → j < n → Signed32 (at n c j)) where
    alone : Stands n 1 (drop from w) (c ∷ [])
    alone = record {
      many = refl;
      words = e ∙ sym (list_words_single n c);
      fitting = λ d h. elim h [ inl q ↦ rw q f | inr x ↦ absurd x ];
    }

    -- the same line where the words before it are left out
    line_dropped : line_at n w from ≡ line_at n (drop from w) 0
    unfolding line_at
    line_dropped = line_same {n = n} (λ j h. ap of_signed (ap (λ i. get_or w i (pos 0)) (let q : from + 1 + j ≡ from + (0 + 1 + j) = omega arith in q) ∙
        sym (get_or-drop from w (0 + 1 + j) (pos 0))))

    pub line_back : line_at n w from ≡ c
    unfolding lines_of
    line_back = line_dropped ∙ sym (each_at 1 0 (λ k. line_at n (drop from w) (line_size * k)) c (omega arith)) ∙
        ap (λ l. get_or l 0 c) (lines_back few alone)

-- ---- its cap by the words of the overruns and of the line
module _ {n k : ℕ} {overruns : List ℕ} {space : List ℤ} {c : Line n} {z : ℤ} (l : CappableLine n overruns k space c z) where
  pub cap_entry : {entries : List ℕ} (r : ℕ) → HoldsV n (at n (line_at n space (line_size * k))) entries →
      entry r ≡ inv (sup n (λ j. meant_v overruns j ⊗ meant_v entries j)) → entry r ≡ num z
  cap_entry r h e = e ∙ ap inv (sup_ext n (λ j q. ap (λ x. meant_v overruns j ⊗ x)
      (h.at j q ∙ ap (λ c. at n c j) (line_back space (line_size * k) n c l.words l.few l.fitting)))) ∙ sym l.cap.is

  pub cap_close : (r : ℕ) → entry r ≡ num z → Close signed_far r
  cap_close r e = close_of signed_far r (λ y f. let (u, d) = l.cap.fits.fits y (sym e ∙ f) in (omega arith, omega arith))

  -- the line moved, with its cap
  pub line_moved : {words : List ℤ} {v : ℤ} (r : ℕ) {after : List ℤ} → words ≡ six (λ j. get_or space (line_size * k + 1 + j) (pos 0)) →
      v ≡ signed (entry r) → entry r ≡ num z → after ≡ laid space (capped_size * k) (pos n ∷ words ++ (v ∷ [])) →
      after ≡ laid space (capped_size * k) (line_words n c ++ (z ∷ []))
  line_moved r p q e f = f ∙ ap₂ (λ a b. laid space (capped_size * k) (pos n ∷ a ++ (b ∷ []))) p (q ∙ ap signed e) ∙
      ap (λ a. laid space (capped_size * k) (a ++ (z ∷ []))) (line_words_read space (line_size * k) n c l.words)

-- ---- one line after the other: k of them are left where they stood, the others are moved
pub record Capping (n : ℕ) (overruns : List ℕ) (count : ℕ) (before out : List ℤ) (k : ℕ) : Type 0 where
  pub few : k ≤ count
  pub size : length out ≡ length before
  pub front : (caps : Line n → ℤ) (L : List (Line n)) → Cappable n overruns count before caps L →
      take (line_size * k) out ≡ list_words n (take k L)
  pub behind : (caps : Line n → ℤ) (L : List (Line n)) → Cappable n overruns count before caps L →
      drop (capped_size * k) out ≡ lent_words n (some caps) (drop k L) ++ drop (capped_size * count) before

module _ {n : ℕ} {overruns : List ℕ} {count : ℕ} {before : List ℤ} where
  pub capping_none : Capping n overruns count before before count
  capping_none = record {
    few = omega arith;
    size = refl;
    front = λ caps L u. u.stands.words ∙ ap (list_words n) (sym (take_all count L (omega (arith, u.stands.many))));
    behind = λ caps L u. sym (ap (λ M. lent_words n (some caps) M ++ drop (capped_size * count) before)
        (drop_of_length-le L {i = count} (omega (arith, u.stands.many))) ∙ (unfold lent_words in refl));
  }

  pub capping_all : {out : List ℤ} {k : ℕ} → k ≡ 0 → Capping n overruns count before out k →
      (caps : Line n → ℤ) (L : List (Line n)) → Cappable n overruns count before caps L →
      out ≡ lent_words n (some caps) L ++ drop (capped_size * count) before
  capping_all {out} {k} e y caps L u = (rw e at y).behind caps L u

  -- one more
  module _ {out : List ℤ} {k m : ℕ} (room : capped_size * count ≤ length before) (one : m ≡ suc k) (l : Capping n overruns count before out m) where
    here : Capping n overruns count before out (suc k)
    here = rw one at l

    module _ {caps : Line n → ℤ} {L : List (Line n)} (u : Cappable n overruns count before caps L) where
      abbrev next : Line n
      next = get_or L k (line n (λ j. absent))

      next_in : In next L
      next_in = in_at _ L k (omega (arith, here.few, u.stands.many))

      abbrev left : List ℤ
      left = list_words n (take k L)

      left_length : length left ≡ line_size * k
      left_length = list_words_length n (take k L) ∙ ap (λ k. line_size * k) (length-take-le k L (omega (arith, here.few, u.stands.many)))

      -- the words of the lines before it, and then its own
      front_parts : take (line_size * k + line_size) out ≡ left ++ line_words n next
      front_parts =
          ap (λ k. take k out) (let e : line_size * k + line_size ≡ line_size * suc k = omega arith in e) ∙ here.front caps L u ∙
          ap (list_words n) (take-suc L k _ (omega (arith, here.few, u.stands.many))) ∙ list_words_more n (take k L) (next ∷ []) ∙
          ap (λ l. left ++ l) (list_words_single n next)

      front_left : take (line_size * k) out ≡ left
      front_left = sym (take-take (line_size * k) (line_size * k + line_size) out (omega arith)) ∙ ap (take (line_size * k)) front_parts ∙
          take_at left (line_words n next) (line_size * k) left_length

      next_stands : take line_size (drop (line_size * k) out) ≡ line_words n next
      next_stands =
          sym (drop_at (take (line_size * k) out) (take line_size (drop (line_size * k) out)) (line_size * k) (ap length front_left ∙ left_length)) ∙
          ap (drop (line_size * k)) (sym (take-add (line_size * k) line_size out) ∙ front_parts) ∙
          drop_at left (line_words n next) (line_size * k) left_length

      pub next_cappable : CappableLine n overruns k out next (caps next)
      next_cappable = record {
        few = u.few;
        words = next_stands;
        fitting = u.stands.fitting next next_in;
        close = u.close;
        cap = u.cap next next_in;
      }

    module _ {after : List ℤ} (size : length after ≡ length out)
        (moved : (c : Line n) (z : ℤ) → CappableLine n overruns k out c z → after ≡ laid out (capped_size * k) (line_words n c ++ (z ∷ []))) where
      module _ {caps : Line n → ℤ} {L : List (Line n)} (u : Cappable n overruns count before caps L) where
        abbrev words : List ℤ
        words = line_words n (next u) ++ (caps (next u) ∷ [])

        words_length : length words ≡ capped_size
        words_length = length-append (line_words n (next u)) _ ∙ omega (arith, line_words_length n (next u))

        after_words : after ≡ take (capped_size * k) out ++ (words ++ drop (capped_size * suc k) out)
        unfolding laid
        after_words = moved (next u) (caps (next u)) (next_cappable u) ∙ append_assoc (take (capped_size * k) out) words _ ∙
            ap (λ j. take (capped_size * k) out ++ (words ++ drop j out))
            (let e : capped_size * k + length words ≡ capped_size * suc k = omega (arith, words_length) in e)

        head_length : length (take (capped_size * k) out) ≡ capped_size * k
        head_length = length-take-le (capped_size * k) out (omega (arith, here.few, here.size))

        front_after : take (line_size * k) after ≡ left u
        front_after = ap (take (line_size * k)) after_words ∙
            take-append-le (line_size * k) (take (capped_size * k) out) _ (omega (arith, head_length)) ∙
            take-take (line_size * k) (capped_size * k) out (omega arith) ∙ front_left u

        behind_after : drop (capped_size * k) after ≡ lent_words n (some caps) (drop k L) ++ drop (capped_size * count) before
        unfolding lent_words
        behind_after = ap (drop (capped_size * k)) after_words ∙ drop_at (take (capped_size * k) out) _ (capped_size * k) head_length ∙
            ap (λ l. words ++ l) (here.behind caps L u) ∙ sym (append_assoc words (lent_words n (some caps) (drop (suc k) L)) _) ∙
            ap (λ M. lent_words n (some caps) M ++ drop (capped_size * count) before) (sym (drop-cons L k _ (omega (arith, here.few, u.stands.many))))

      pub capping_more : Capping n overruns count before after k
      capping_more = record {
        few = omega (arith, here.few);
        size = size ∙ here.size;
        front = λ caps L u. front_after u;
        behind = λ caps L u. behind_after u;
      }
