-- From the list of a sheet's cue, laid out where it stands, to the sheet's in the lent space: without a last line it stands there, with one
-- each line has a cap by the overruns.
use mathlib.Core.Path.{◌≡◌, refl, ap, ap₂, sym, subst, ◌∙◌}
use mathlib.Core.Bool.{Bool, true, false, true≢false}
use mathlib.Core.List.{List, ◌++◌}
use mathlib.Core.Option as maybe
use mathlib.Core.Option.{some}
use Prim.Native.Nat.{ℕ, ◌+◌, ◌*◌, ◌≤◌}
use native.Mathlib.Omega.{arith}
use lib.IntN.{ℤ}
use lib.ListN.{length, take, drop, length-append, length-drop}
use lib.Seq.{take_at, drop-append-add, drop-drop}
use Rattle.maxplus.specs.Entry.{◌⊗◌, inv}
use Rattle.maxplus.specs.Finite.{In, map_l}
use Rattle.maxplus.specs.Line.{Line, at}
use Rattle.maxplus.specs.Packing.{rank, layout}
use Rattle.maxplus.proofs.SupLaws.{sup_ext}
use Rattle.cue.specs.Method.{lines}
use Rattle.cue.specs.Written.{line_size, capped_size, width, list_words, lent_words, with_list}
use Rattle.cue.proofs.Bounds.{signed32}
use Rattle.cue.proofs.LentLaws.{lent_none}
use Rattle.cue.proofs.WrittenLaws.{list_words_length}
use Rattle.sheet.specs.Sheet.{Sheet, given}
use Rattle.sheet.specs.Cue.{used, cue_size, cue_of, sheet_lines, cap, caps_by, sheet_caps}
use Rattle.sheet.specs.Overruns.{overruns_by}
use Rattle.sheet.proofs.Caps.{cap_overruns}
use Rattle.sheet.proofs.Fits.{cap_within}
use Rattle.sheet.proofs.ListLaws.{fitting, lines_many}
use Rattle.tables.specs.Held.{meant_v}
use Rattle.moments.specs.Moments.{MomentsOf}
use Rattle.std.specs.Prelude.{Option, Some, None}
use Rattle.spares.specs.declared.Places.{Places}
use Rattle.spares.specs.Using.{PlacesOf}
use Rattle.laying.specs.Laying.{CapOf, Cappable, Listing}

-- a last line is there
last_there : (last : maybe.Option (ℕ → ℤ)) → given last ≡ true → (b : ℕ → ℤ) × (last ≡ some b)
last_there maybe.none e = absurd (true≢false (sym e))
last_there (some b) e = (b, refl)

module _ {t : Sheet} {before : List ℤ} {count : ℕ} {space : List ℤ} {p : Places} {r : Option (List ℕ)} (l : Listing t before count space p r) where
  abbrev n : ℕ
  n = t.triggers

  abbrev L : List (Line n)
  L = sheet_lines t

  many : length L ≡ count
  many = lines_many t ∙ sym l.many

  pub listing_room : line_size * count ≤ length space
  listing_room = rw l.words (omega (
    arith,
    length-append (list_words (cue_size t) (lines (cue_size t) (cue_of t))) (drop (line_size * count) before),
    list_words_length (cue_size t) (lines (cue_size t) (cue_of t)),
    l.many,
  ))

  module _ {out : List ℤ} (laid : (s : ℕ → Bool) (n : ℕ) → PlacesOf s n p → (L : List (Line (rank s n))) (rest : List ℤ) →
      length L ≡ count → space ≡ list_words (rank s n) L ++ rest → out ≡ list_words n (map_l (layout s (rank s n) n) L) ++ rest) where
    out_words : out ≡ list_words n L ++ drop (line_size * count) before
    unfolding sheet_lines
    out_words = laid (used t) n l.placed (lines (cue_size t) (cue_of t)) _ (sym l.many) l.words

    front_length : length (list_words n L) ≡ line_size * count
    front_length = list_words_length n L ∙ ap (λ k. line_size * k) many

    -- ---- without a last line
    plain_by : (last : maybe.Option (ℕ → ℤ)) → given last ≡ false → out ≡ with_list n (caps_by t last) L before
    plain_by maybe.none e = out_words ∙ ap₂ (λ w k. w ++ drop (line_size * k) before) (sym (lent_none n L)) (sym many)
    plain_by (some b) e = absurd (true≢false e)

    pub finished_plain : r ≡ None → out ≡ with_list n (sheet_caps t) L before
    finished_plain e = plain_by t.last (subst (MomentsOf t) e l.moments)

    -- ---- with one
    module _ {overruns : List ℕ} (g : r ≡ Some overruns) (b : ℕ → ℤ) (e : t.last ≡ some b) where
      late : MomentsOf t (Some overruns)
      late = subst (MomentsOf t) g l.moments

      cap_of : (c : Line n) → In c L → CapOf n (meant_v overruns) c (cap t b c)
      cap_of c h = record {
        is = cap_overruns t l.good l.order b c h ∙
            ap inv (sup_ext n (λ j q. ap (λ x. x ⊗ at n c j) (sym (late.holds.at j q ∙ ap (λ o. overruns_by t o j) e))));
        fits = signed32 (omega arith) (omega arith) (cap_within t l.good l.order b e c h);
      }

      cappable : Cappable n overruns count out (cap t b) L
      cappable = record {
        few = l.placed.few;
        stands = record {
          many = many;
          words = ap (take (line_size * count)) out_words ∙ take_at (list_words n L) _ (line_size * count) front_length;
          fitting = fitting t l.good l.order;
        };
        close = late.close;
        cap = cap_of;
      }

      room : capped_size * count ≤ length before
      room = rw (ap (λ o. width (caps_by t o)) e) at l.room

      out_length : length out ≡ length before
      out_length = ap length out_words ∙ length-append (list_words n L) (drop (line_size * count) before) ∙
          omega (arith, front_length, length-drop (line_size * count) before, room)

      rest : drop (capped_size * count) out ≡ drop (capped_size * length L) before
      rest = ap₂ drop (let q : capped_size * count ≡ length (list_words n L) + count = omega (arith, front_length) in q) out_words ∙
          drop-append-add (list_words n L) (drop (line_size * count) before) count ∙ drop-drop count (line_size * count) before ∙
          ap (λ k. drop k before) (let q : line_size * count + count ≡ capped_size * length L = omega (arith, many) in q)

    -- by any name m of the number of triggers
    module _ {m : ℕ} (same : m ≡ n) {overruns : List ℕ} (g : r ≡ Some overruns) where
      there : (b : ℕ → ℤ) × (t.last ≡ some b)
      there = last_there t.last (subst (MomentsOf t) g l.moments).given_is

      pub caps_ready : (capped_size * count ≤ length out) ×
          ((caps : Line m → ℤ) × (L : List (Line m)) × Cappable m overruns count out caps L)
      caps_ready = let (b, e) = there in (
        omega (arith, room g b e, out_length g b e),
        subst (λ m. (caps : Line m → ℤ) × (L : List (Line m)) × Cappable m overruns count out caps L) (sym same) (cap t b, L, cappable g b e),
      )

      pub finished_capped : {after : List ℤ} → ((caps : Line m → ℤ) (L : List (Line m)) → Cappable m overruns count out caps L →
          after ≡ lent_words m (some caps) L ++ drop (capped_size * count) out) → after ≡ with_list n (sheet_caps t) L before
      finished_capped {after} f =
          let (b, e) = there in
          subst (λ m. (caps : Line m → ℤ) (L : List (Line m)) → Cappable m overruns count out caps L →
          after ≡ lent_words m (some caps) L ++ drop (capped_size * count) out) same f (cap t b) L (cappable g b e) ∙
          ap (λ x. lent_words n (some (cap t b)) L ++ x) (rest g b e) ∙ ap (λ o. with_list n (caps_by t o) L before) (sym e)
