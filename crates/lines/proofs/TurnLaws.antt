-- Laws of counting and writing the list one buffer-full after the other.
use mathlib.Core.Path.{◌≡◌, refl, ap, ap₂, sym, ◌∙◌}
use mathlib.Core.List.{List, [], ◌++◌, append_assoc}
use Prim.Native.Nat.{ℕ, ◌+◌, ◌*◌, ◌≤◌, ◌<◌}
use native.Mathlib.Omega.{arith}
use lib.IntN.{ℤ}
use lib.ListN.{length, drop, length-append}
use Rattle.maxplus.specs.Line.{Line}
use Rattle.cue.specs.Cue.{Cue}
use Rattle.cue.specs.Method.{lines}
use Rattle.cue.specs.Written.{line_size, list_words}
use Rattle.cue.proofs.WrittenLaws.{list_words_length}
use Rattle.tables.specs.Lines.{line_of, Sized}
use Rattle.candidates.specs.declared.Marks.{Marks}
use Rattle.tables.proofs.LineLaws.{blank, sized_none}
use Rattle.buffer.specs.Buffer.{room, end, row, held}
use Rattle.buffer.specs.Space.{laid}
use Rattle.candidates.specs.Drawable.{Drawable}
use Rattle.gather.specs.Gathering.{rest, Filled}
use Rattle.lines.specs.Listing.{Answers}
use Rattle.std.specs.Prelude.{Ok}
use Rattle.buffer.proofs.SpaceLaws.{laid_none, laid_more, list_words_more}
use Rattle.buffer.proofs.HeldLaws.{held_length, row_sized}
use Rattle.lines.proofs.ListingLaws.{above_blank, filled_few, filled_all, filled_full, lines_few}
use Rattle.cue.specs.Sizes.{most_lines}

-- words at the front
laid_front : (before : List ℤ) (n : ℕ) (L : List (Line n)) → laid before 0 (list_words n L) ≡ list_words n L ++ drop (line_size * length L) before
unfolding laid
laid_front before n L = let e : 0 + length (list_words n L) ≡ line_size * length L = omega (arith, list_words_length n L) in
    ap (λ k. list_words n L ++ drop k before) e

-- a whole list at the front
pub answers_lines : (n : ℕ) (L : List (Line n)) (most : ℕ) (before after : List ℤ) (k : ℕ) → k ≡ length L → k ≤ most →
    after ≡ laid before 0 (list_words n L) → Answers n L most before after (Ok k)
answers_lines n L most before after k e h o = (e, omega arith, o ∙ laid_front before n L)

-- ---- counting: so many lines are not above last
pub record Counted (M : Marks) (stars lags needs : List (List ℕ)) (last : List ℕ) (count : ℕ) : Type 0 where
  pub sized : Sized M.triggers last
  pub counted : (P : Cue) → Drawable M.triggers P M stars lags needs →
      count + length (rest M.triggers P (line_of M.triggers last)) ≡ length (lines M.triggers P)

-- ---- writing: the lines that are not above last are written
pub record Laid (n : ℕ) (P : Cue) (last : List ℕ) (before out : List ℤ) (at : ℕ) : Type 0 where
  pub done : List (Line n)
  pub parts : done ++ rest n P (line_of n last) ≡ lines n P
  pub place : at ≡ line_size * length done
  pub words : out ≡ laid before 0 (list_words n done)

pub record Writing (M : Marks) (stars lags needs : List (List ℕ)) (last : List ℕ) (before out : List ℤ) (at : ℕ) : Type 0 where
  pub sized : Sized M.triggers last
  pub size : length out ≡ length before
  pub written : (P : Cue) → Drawable M.triggers P M stars lags needs → line_size * length (lines M.triggers P) ≤ length before →
      Laid M.triggers P last before out at

module _ {M : Marks} {stars lags needs : List (List ℕ)} where
  pub counted_start : Counted M stars lags needs blank 0
  counted_start = record {
    sized = sized_none M.triggers;
    counted = λ P g. omega (arith, ap length (above_blank M.triggers P));
  }

  pub writing_start : {before : List ℤ} → Writing M stars lags needs blank before before 0
  writing_start {before} = record {
    sized = sized_none M.triggers;
    size = refl;
    written = λ P g h. record {
      done = [];
      parts = above_blank M.triggers P;
      place = refl;
      words = laid_none before 0 ∙ ap (laid before 0) (sym (unfold list_words in refl));
    };
  }

  -- what a walk has gathered
  module _ {last : List ℕ} {len : ℕ} {buf : List (List ℕ)}
      (s : (P : Cue) → Drawable M.triggers P M stars lags needs → Filled M.triggers P last len buf) where
    module _ {P : Cue} (g : Drawable M.triggers P M stars lags needs) where
      all_held : len < room → held M.triggers len buf ≡ rest M.triggers P (line_of M.triggers last)
      all_held = filled_all g.few (s P g)

      full_held : room ≤ len → rest M.triggers P (line_of M.triggers last) ≡
          held M.triggers len buf ++ rest M.triggers P (line_of M.triggers (row buf end))
      full_held = filled_full g.few (s P g)

      many_held : length (held M.triggers len buf) ≡ len
      many_held = held_length M.triggers buf len (omega (arith, (s P g).stored.few, (s P g).stored.size))

      few_held : len ≤ length (rest M.triggers P (line_of M.triggers last))
      few_held = filled_few g.few (s P g)

      next_sized : room ≤ len → Sized M.triggers (row buf end)
      next_sized h = row_sized g.few (s P g).stored end (omega arith)

    module _ {count : ℕ} (k : Counted M stars lags needs last count) where
      pub counted_few : {P : Cue} → Drawable M.triggers P M stars lags needs → count + len ≤ most_lines
      counted_few {P} g = omega (arith, k.counted P g, few_held g, lines_few g)

      pub counted_end : len < room → (P : Cue) → Drawable M.triggers P M stars lags needs → count + len ≡ length (lines M.triggers P)
      counted_end h P g = omega (arith, k.counted P g, ap length (all_held g h), many_held g)

      pub counted_more : {P : Cue} → Drawable M.triggers P M stars lags needs → room ≤ len →
          Counted M stars lags needs (row buf end) (count + len)
      counted_more f h = record {
        sized = next_sized f h;
        counted = λ P g. omega (
          arith,
          k.counted P g,
          ap length (full_held g h),
          length-append (held M.triggers len buf) (rest M.triggers P (line_of M.triggers (row buf end))),
          many_held g,
        );
      }

    module _ {before out : List ℤ} {at : ℕ} (w : Writing M stars lags needs last before out at) where
      module _ {P : Cue} (g : Drawable M.triggers P M stars lags needs) (h : line_size * length (lines M.triggers P) ≤ length before) where
        abbrev written : List (Line M.triggers)
        written = (w.written P g h).done

        -- what is held fits
        pub writing_room : at + line_size * len ≤ length before
        writing_room = let l = w.written P g h in omega (
          arith,
          l.place,
          ap length l.parts,
          length-append l.done (rest M.triggers P (line_of M.triggers last)),
          few_held g,
        )

        module _ {after : List ℤ} (e : after ≡ laid out at (list_words M.triggers (held M.triggers len buf))) where
          more_words : after ≡ laid before 0 (list_words M.triggers (written ++ held M.triggers len buf))
          more_words = e ∙ ap₂ (λ o k. laid o k new_words) (w.written P g h).words place ∙ laid_more before 0 old_words new_words room_for ∙
              ap (laid before 0) (sym (list_words_more M.triggers written (held M.triggers len buf)))
            where
              old_words : List ℤ
              old_words = list_words M.triggers written

              new_words : List ℤ
              new_words = list_words M.triggers (held M.triggers len buf)

              place : at ≡ 0 + length old_words
              place = omega (arith, (w.written P g h).place, list_words_length M.triggers written)

              room_for : 0 + length old_words + length new_words ≤ length before
              room_for = omega (arith, place, list_words_length M.triggers (held M.triggers len buf), many_held g, writing_room)

          pub writing_end : len < room → after ≡ laid before 0 (list_words M.triggers (lines M.triggers P))
          writing_end k = more_words ∙ ap (λ L. laid before 0 (list_words M.triggers L))
              (ap (λ L. written ++ L) (all_held g k) ∙ (w.written P g h).parts)

          laid_full : room ≤ len → Laid M.triggers P (row buf end) before after (at + line_size * len)
          laid_full k = record {
            done = written ++ held M.triggers len buf;
            parts = append_assoc written (held M.triggers len buf) _ ∙ ap (λ L. written ++ L) (sym (full_held g k)) ∙ (w.written P g h).parts;
            place = omega (arith, (w.written P g h).place, length-append written (held M.triggers len buf), many_held g);
            words = more_words;
          }

      pub writing_more : {P : Cue} → Drawable M.triggers P M stars lags needs → room ≤ len → {after : List ℤ} →
          length after ≡ length out → after ≡ laid out at (list_words M.triggers (held M.triggers len buf)) →
          Writing M stars lags needs (row buf end) before after (at + line_size * len)
      writing_more f k z e = record {
        sized = next_sized f k;
        size = z ∙ w.size;
        written = λ P g h. laid_full g h e k;
      }

  -- ---- the first walk: a buffer that was not filled holds the whole list
  module _ {len : ℕ} {buf : List (List ℕ)} (s : (P : Cue) → Drawable M.triggers P M stars lags needs → Filled M.triggers P blank len buf)
      (h : len < room) {P : Cue} (g : Drawable M.triggers P M stars lags needs) where
    whole_held : held M.triggers len buf ≡ lines M.triggers P
    whole_held = all_held s g h ∙ above_blank M.triggers P

    pub whole_count : len ≡ length (lines M.triggers P)
    whole_count = sym (many_held s g) ∙ ap length whole_held

    pub answers_held : (most : ℕ) (before after : List ℤ) → len ≤ most →
        after ≡ laid before 0 (list_words M.triggers (held M.triggers len buf)) →
        Answers M.triggers (lines M.triggers P) most before after (Ok len)
    answers_held most before after k e = answers_lines M.triggers (lines M.triggers P) most before after len whole_count k
        (e ∙ ap (λ L. laid before 0 (list_words M.triggers L)) whole_held)
