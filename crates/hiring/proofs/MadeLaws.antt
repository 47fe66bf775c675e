-- Laws of a load's sheets: their tables are sound, so that each sheet is read; firing trigger i at 1,000 · i keeps the order of all of them.
use Rattle.std.proofs.Common.{◌≡◌, ℕ, suc, ◌+◌, ◌*◌, ◌<◌, ◌≤◌, Bool, true, false, cond, ltb, length, pos, refl, arith, ltb-true}
use mathlib.Core.Option.{none-ne-some}
use Rattle.maxplus.specs.Entry.{E, absent, num, val, ◌⊗◌, ◌≼◌, Present}
use Rattle.maxplus.proofs.WholeLaws.{up_add}
use Rattle.maxplus.proofs.EntryLaws.{≼_absent, ⊗_nothing, num_≼, num_⊗}
use Rattle.cue.specs.Results.{Within}
use Rattle.cue.specs.Sizes.{size_limit}
use Rattle.sheet.specs.Sheet.{limit}
use Rattle.sheet.specs.Meaning.{Timing, Keeps}
use Rattle.sheet.proofs.Longest.{longest}
use Rattle.sheet.proofs.WithinLaws.{within_absent}
use Rattle.sheet_text.specs.SheetText.{sheet_text, trimmed, Sound}
use Rattle.sheet_text.proofs.SoundFits.{text_short}
use Rattle.hiring.specs.Hiring.{drawn_number, drawn_item, by_sevens, always, Kind, absence, first_there, all_there, below_diagonal}
use Rattle.hiring.specs.Hiring.{upper, drawn, drawn_items, sheet_from}
use Rattle.hiring.proofs.ItemLaws.{number_small, of_items, made_within}

-- ---- "the first lag of each panel, the first floor and every due mark are never absent"
first_there_is : (n s i : ℕ) → Present (drawn_items first_there n s i 0)
unfolding drawn_items drawn_item absence
first_there_is n s i = (drawn_number (upper (drawn s (suc (i * n + 0)))), refl)

all_there_are : (n s j : ℕ) → num (val (drawn_items all_there n s 0 j)) ≡ drawn_items all_there n s 0 j
unfolding drawn_items drawn_item absence val
all_there_are n s j = refl

items_within : (k : Kind) (n s i j : ℕ) → Within limit limit (drawn_items k n s i j)
unfolding drawn_items
items_within k n s i j = made_within (absence k i j) (upper (drawn s (suc (i * n + j))))

module _ (m n s : ℕ) (some-m : 1 ≤ m) (few-m : m ≤ size_limit) (some-n : 1 ≤ n) (few-n : n ≤ size_limit) where
  pub made_sound : Sound (sheet_from m n s)
  unfolding sheet_from
  made_sound =
      record {
        panels_some = some-m;
        panels_few = few-m;
        triggers_some = some-n;
        triggers_few = few-n;
        lags = λ i j h q. items_within first_there n s i j;
        floors = λ i h. items_within first_there m (drawn s (m * n)) 0 i;
        dues = λ j h. let x = drawn s (m * n + m) in rw (all_there_are n x j) (items_within all_there n x 0 j);
        afters = λ i j h q. items_within below_diagonal n (drawn s (m * n + m + n)) i j;
        lands = λ i j h q. within_absent;
        lasts = λ b e i h. absurd (none-ne-some b e);
        lagged = λ i h. (0, some-n, first_there_is n s i);
        floored = (0, some-m, first_there_is m (drawn s (m * n)) 0);
        measured = tt;
      }

  pub made_short : length (sheet_text (sheet_from m n s)) ≤ longest
  made_short = text_short (sheet_from m n s) made_sound

-- ---- "and its order can be kept": a present after item stands below the diagonal and is at most 1,000
abbrev thousands : Timing
thousands i = pos (1000 * i)

number_kept : (i j u : ℕ) → j < i → num (drawn_number u) ⊗ num (thousands j) ≼ num (thousands i)
number_kept i j u h =
    let small = number_small u in
    rw (num_⊗ (drawn_number u) (thousands j)) (num_≼ (omega (arith, up_add (drawn_number u) (thousands j))))

below_kept : (i j u : ℕ) → drawn_item (absence below_diagonal i j) u ⊗ num (thousands j) ≼ num (thousands i)
unfolding absence drawn_item
below_kept i j u = go (ltb j i) refl
  where
    go : (t : Bool) → ltb j i ≡ t → drawn_item (cond t by_sevens always) u ⊗ num (thousands j) ≼ num (thousands i)
    go true e = of_items (λ a. a ⊗ num (thousands j) ≼ num (thousands i)) (rw ⊗_nothing (≼_absent _)) (λ u. number_kept i j u (ltb-true j i e))
        by_sevens u
    go false e = rw ⊗_nothing (≼_absent _)

module _ (m n s : ℕ) where
  -- an entry outside the sizes is absent
  trimmed_kept : (b : Bool) (a : E) (i j : ℕ) → a ⊗ num (thousands j) ≼ num (thousands i) →
      cond b a absent ⊗ num (thousands j) ≼ num (thousands i)
  trimmed_kept true a i j h = h
  trimmed_kept false a i j h = rw ⊗_nothing (≼_absent _)

  pub made_keeps : Keeps (trimmed (sheet_from m n s)) thousands
  unfolding sheet_from drawn_items
  made_keeps =
      record {
        after_rules = λ i j h q. trimmed_kept (ltb i n) _ i j (trimmed_kept (ltb j n) _ i j (below_kept i j _));
        land_rules = λ i j h q. rw ⊗_nothing (≼_absent _);
      }
