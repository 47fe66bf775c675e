-- Laws of laying lines out in a lent space: a line's words, each at its own trigger, and one line after the other. With no spare trigger they
-- stand as they should.
use mathlib.Core.Path.{◌≡◌, refl, ap, ap₂, sym, ◌∙◌}
use mathlib.Core.Bool.{Bool, true, false}
use mathlib.Core.List.{List, [], ◌∷◌, ◌++◌, append_assoc}
use Prim.Native.Nat.{ℕ, suc, ◌+◌, ◌-◌, ◌*◌, ◌≤◌, ◌<◌}
use native.Mathlib.Omega.{arith}
use native.Mathlib.Decide.{dec_lt}
use native.Mathlib.Numerals.{add-one}
use lib.IntN.{ℤ, pos}
use lib.Signed.{mag}
use lib.ListN.{length, get_or, take, drop, set, drop_of_length-le, length-set, length-drop}
use lib.Seq.{paste, paste-zero, paste-suc, take-suc, drop-cons, take_all, take-append_seam, drop-append_seam, drop-append-add, drop_at}
use lib.Seq.{ext_get_or, length-take-le, get_or-take, get_or-drop}
use mir.Syntax.{w32}
use mir.Val.{to_z, of_z}
use mir.Facts.{to_z-of_z}
use Rattle.maxplus.specs.Entry.{absent}
use Rattle.maxplus.specs.Finite.{map_l, sum}
use Rattle.maxplus.specs.Line.{Line, at, line}
use Rattle.maxplus.specs.Packing.{rank, filled, layout}
use Rattle.maxplus.proofs.EachLaws.{length_each, each_same, each_at, map_append, map_length}
use Rattle.maxplus.proofs.LineLaws.{at_past}
use Rattle.maxplus.proofs.PackingLaws.{rank_next, rank_few, filled_rank, filled_other}
use Rattle.maxplus.proofs.LayoutLaws.{layout_all}
use Rattle.cue.specs.Sizes.{six}
use Rattle.cue.specs.Written.{line_size, signed, line_words, list_words}
use Rattle.cue.proofs.WrittenLaws.{line_words_length, list_words_length}
use Rattle.trigger_sets.specs.Sets.{bit}
use Rattle.buffer.specs.Space.{laid}
use Rattle.buffer.proofs.SpaceLaws.{component_words, laid_line, list_words_more, list_words_single}
use Rattle.spares.specs.declared.Places.{Places}
use Rattle.spares.specs.Using.{PlacesOf}
use Rattle.spares.proofs.AgreeLaws.{passes, fails}
use Rattle.spares.proofs.PlaceLaws.{used_bit, no_spare, own_rank}

-- a word is read out of its bits as it stands
pub read_back : {z : ℤ} → mag z < 0x8000_0000 → to_z w32 (of_z w32 z) ≡ z
read_back h = to_z-of_z {w = w32} (record { sfits = h })

-- ---- the six words after a line's count
pub six_copied : (w : List ℤ) (from : ℕ) → from + line_size ≤ length w →
    take (from + 7 - (from + 1)) (drop (from + 1) w) ≡ six (λ j. get_or w (from + 1 + j) (pos 0))
six_copied w from h = ext_get_or (pos 0) _ _ (sizes ∙ sym full)
    (λ i k. let l : i < 6 = omega (arith, sizes) in
    get_or-take (from + 7 - (from + 1)) (drop (from + 1) w) i (pos 0) (omega (arith, sizes)) ∙ get_or-drop (from + 1) w i (pos 0) ∙
    sym (each_at 6 i (λ j. get_or w (from + 1 + j) (pos 0)) (pos 0) l))
  where
    sizes : length (take (from + 7 - (from + 1)) (drop (from + 1) w)) ≡ 6
    sizes = length-take-le (from + 7 - (from + 1)) (drop (from + 1) w) (omega (arith, length-drop (from + 1) w)) ∙ omega arith

    full : length (six (λ j. get_or w (from + 1 + j) (pos 0))) ≡ 6
    full = length_each 6 (λ j. get_or w (from + 1 + j) (pos 0))

-- of a line they are its components
pub component_word : (w : List ℤ) (from m : ℕ) (c : Line m) → take line_size (drop from w) ≡ line_words m c → (k : ℕ) → k < 6 →
    get_or w (from + 1 + k) (pos 0) ≡ signed (at m c k)
unfolding line_words
component_word w from m c e k h =
    ap (λ i. get_or w i (pos 0)) (let f : from + 1 + k ≡ from + suc k = omega arith in f) ∙
    sym (get_or-take line_size (drop from w) (suc k) (pos 0) (omega arith) ∙ get_or-drop from w (suc k) (pos 0)) ∙
    ap (λ l. get_or l (suc k) (pos 0)) e ∙ each_at 6 k (λ i. signed (at m c i)) (pos 0) h

six_components : (w : List ℤ) (from m : ℕ) (c : Line m) → take line_size (drop from w) ≡ line_words m c → (k : ℕ) → k < 6 →
    get_or (six (λ j. get_or w (from + 1 + j) (pos 0))) k (pos 0) ≡ signed (at m c k)
six_components w from m c e k h = each_at 6 k (λ j. get_or w (from + 1 + j) (pos 0)) (pos 0) h ∙ component_word w from m c e k h

-- ---- one more of the words W written behind those before it
pub word_set : (first : List ℤ) (from : ℕ) (W : List ℤ) (j : ℕ) {z : ℤ} → from + length W ≤ length first → j < length W →
    z ≡ get_or W j (pos 0) → set (paste first from W j) (from + j) z ≡ paste first from W (j + 1)
word_set first from W j h k e = ap (set (paste first from W j) (from + j)) e ∙ paste-suc first from W j (pos 0) (omega arith) k ∙
    ap (paste first from W) (sym (add-one j))

component_set : (first : List ℤ) (from n : ℕ) (c : Line n) (j : ℕ) {z : ℤ} → from + line_size ≤ length first → j < 6 →
    z ≡ signed (at n c j) →
    set (paste first (from + 1) (component_words n c) j) (from + 1 + j) z ≡ paste first (from + 1) (component_words n c) (j + 1)
component_set first from n c j h k e =
    let l = length_each 6 (λ i. signed (at n c i)) in
    word_set first (from + 1) (component_words n c) j (omega arith) (omega arith) (e ∙ sym (each_at 6 j (λ i. signed (at n c i)) (pos 0) k))

-- ---- one line: j triggers have been looked at, k of them are in use, and out has the words of the j
pub record Laying (p : Places) (packed first : List ℤ) (from : ℕ) (out : List ℤ) (k j : ℕ) : Type 0 where
  pub few : k ≤ j
  pub room : from + line_size ≤ length out
  pub size : length out ≡ length first
  pub words : (s : ℕ → Bool) (n : ℕ) → PlacesOf s n p → (c : Line (rank s n)) →
      ((i : ℕ) → i < 6 → get_or packed i (pos 0) ≡ signed (at (rank s n) c i)) →
      (k ≡ rank s j) × (out ≡ paste first (from + 1) (component_words n (layout s (rank s n) n c)) j)

pub laying_none : {p : Places} {packed first : List ℤ} {from : ℕ} → from + line_size ≤ length first → Laying p packed first from first 0 0
laying_none {first = first} {from} h = record {
  few = omega arith;
  room = h;
  size = refl;
  words = λ s n u c e. (sym (unfold rank sum in refl), paste-zero first (from + 1) (component_words n (layout s (rank s n) n c)));
}

module _ {p : Places} {packed first out : List ℤ} {from k j : ℕ} {z : ℤ} (h : j < 6) (y : Laying p packed first from out k j) where
  -- the word of one more trigger: j's in the layout, whatever the line
  laying_next : {l : ℕ} → l ≤ j + 1 → ((s : ℕ → Bool) (n : ℕ) → PlacesOf s n p → (c : Line (rank s n)) →
      ((i : ℕ) → i < 6 → get_or packed i (pos 0) ≡ signed (at (rank s n) c i)) →
      (l ≡ rank s (j + 1)) × (z ≡ signed (filled s (λ j. absent) (at (rank s n) c) j))) →
      Laying p packed first from (set out (from + 1 + j) z) l (j + 1)
  laying_next f e = record {
    few = f;
    room = omega (arith, y.room, length-set out (from + 1 + j) z);
    size = length-set out (from + 1 + j) z ∙ y.size;
    words = λ s n u c w. (
      (e s n u c w).0,
      rw (y.words s n u c w).1 (component_set first from n (layout s (rank s n) n c) j (omega (arith, y.room, y.size)) h
          ((e s n u c w).1 ∙ ap signed (sym (layout_all s n u.inside c j)))),
    );
  }

  -- a trigger in use: the next of the line's components
  pub laying_used : bit p.used j ≡ true → z ≡ get_or packed k (pos 0) → Laying p packed first from (set out (from + 1 + j) z) (k + 1) (j + 1)
  laying_used b e = laying_next (omega (arith, y.few)) (λ s n u c w.
      let q = passes (sym (used_bit u j h) ∙ b) in
      let r = (y.words s n u c w).0 in (
        omega (arith, r, (rank_next s j).1 q, ap (rank s) (add-one j)),
        e ∙ w k (omega (arith, y.few)) ∙ ap (λ x. signed (at (rank s n) c x)) r ∙
            ap signed (sym (filled_rank s (λ j. absent) (at (rank s n) c) j q)),
      ))

  -- a spare trigger: absent
  pub laying_spare : bit p.used j ≡ false → z ≡ signed absent → Laying p packed first from (set out (from + 1 + j) z) k (j + 1)
  laying_spare b e = laying_next (omega (arith, y.few)) (λ s n u c w.
      let q = fails (sym (used_bit u j h) ∙ b) in (
        omega (arith, (y.words s n u c w).0, (rank_next s j).2 q, ap (rank s) (add-one j)),
        e ∙ ap signed (sym (filled_other s (λ j. absent) (at (rank s n) c) j q)),
      ))

-- all six of them: the line is laid out
pub laying_all : {p : Places} (before : List ℤ) (from : ℕ) {packed out : List ℤ} {k j : ℕ} (v : ℤ) → from + line_size ≤ length before →
    packed ≡ six (λ i. get_or before (from + 1 + i) (pos 0)) → v ≡ pos p.triggers → j ≡ 6 →
    Laying p packed (set before from v) from out k j → (s : ℕ → Bool) (n : ℕ) → PlacesOf s n p → (c : Line (rank s n)) →
    take line_size (drop from before) ≡ line_words (rank s n) c → out ≡ laid before from (line_words n (layout s (rank s n) n c))
laying_all before from v room e f g l s n u c w =
    (l.words s n u c (λ i h. ap (λ x. get_or x i (pos 0)) e ∙ six_components before from (rank s n) c w i h)).1 ∙
    ap₂ (λ x y. paste (set before from x) (from + 1) (component_words n d) y) (f ∙ ap pos u.triggers_are) g ∙ laid_line before from n d room
  where
    d : Line n
    d = layout s (rank s n) n c

-- ---- one line after the other: i of them are laid out, the others stand as they did
pub record LaidOut (p : Places) (before out : List ℤ) (i : ℕ) : Type 0 where
  pub size : length out ≡ length before
  pub words : (s : ℕ → Bool) (n : ℕ) → PlacesOf s n p → (L : List (Line (rank s n))) (rest : List ℤ) → i ≤ length L →
      before ≡ list_words (rank s n) L ++ rest →
      out ≡ list_words n (map_l (layout s (rank s n) n) (take i L)) ++ (list_words (rank s n) (drop i L) ++ rest)

pub laid_out_none : {p : Places} {before : List ℤ} → LaidOut p before before 0
laid_out_none = record { size = refl; words = λ s n u L rest h e. unfold list_words map_l in e }

-- what stands between two parts, and something as long in its stead
standing : (a u b : List ℤ) → take (length u) (drop (length a) (a ++ (u ++ b))) ≡ u
standing a u b = ap (take (length u)) (drop-append_seam a (u ++ b)) ∙ take-append_seam u b

replaced : (a u b v : List ℤ) → length u ≡ length v → laid (a ++ (u ++ b)) (length a) v ≡ a ++ (v ++ b)
unfolding laid
replaced a u b v e = ap₂ (λ x y. x ++ v ++ y) (take-append_seam a (u ++ b))
    (drop-append-add a (u ++ b) (length v) ∙ drop_at u b (length v) e) ∙ append_assoc a v b

module _ {p : Places} {before out after : List ℤ} {i from : ℕ} (place : from ≡ line_size * i) (l : LaidOut p before out i)
    (size : length after ≡ length out)
    (one : (s : ℕ → Bool) (n : ℕ) → PlacesOf s n p → (c : Line (rank s n)) → take line_size (drop from out) ≡ line_words (rank s n) c →
    after ≡ laid out from (line_words n (layout s (rank s n) n c))) where
  -- the words of the lines before the i-th, of it and of those behind it
  module _ (s : ℕ → Bool) (n : ℕ) (u : PlacesOf s n p) (L : List (Line (rank s n))) (rest : List ℤ) (h : i < length L)
      (e : before ≡ list_words (rank s n) L ++ rest) where
    abbrev next : Line (rank s n)
    next = get_or L i (line (rank s n) (λ j. absent))

    abbrev done : List ℤ
    done = list_words n (map_l (layout s (rank s n) n) (take i L))

    abbrev new_words : List ℤ
    new_words = line_words n (layout s (rank s n) n next)

    abbrev left : List ℤ
    left = list_words (rank s n) (drop (suc i) L) ++ rest

    done_length : from ≡ length done
    done_length = place ∙ sym (list_words_length n _ ∙ ap (λ k. line_size * k) (map_length _ (take i L) ∙ length-take-le i L (omega arith)))

    out_words : out ≡ done ++ (line_words (rank s n) next ++ left)
    unfolding list_words
    out_words = l.words s n u L rest (omega arith) e ∙ ap (λ M. done ++ (list_words (rank s n) M ++ rest)) (drop-cons L i _ h) ∙
        ap (λ x. done ++ x) (append_assoc (line_words (rank s n) next) (list_words (rank s n) (drop (suc i) L)) rest)

    done_more : list_words n (map_l (layout s (rank s n) n) (take (suc i) L)) ≡ done ++ new_words
    unfolding map_l
    done_more = ap (λ M. list_words n (map_l (layout s (rank s n) n) M)) (take-suc L i _ h) ∙
        ap (list_words n) (map_append (layout s (rank s n) n) (take i L) (next ∷ [])) ∙ list_words_more n _ _ ∙
        ap (λ x. done ++ x) (list_words_single n (layout s (rank s n) n next))

    next_stands : take line_size (drop from out) ≡ line_words (rank s n) next
    next_stands = ap₂ (λ x k. take line_size (drop k x)) out_words done_length ∙
        ap (λ k. take k (drop (length done) (done ++ (line_words (rank s n) next ++ left)))) (sym (line_words_length (rank s n) next)) ∙
        standing done (line_words (rank s n) next) left

    after_words : after ≡ list_words n (map_l (layout s (rank s n) n) (take (i + 1) L)) ++ (list_words (rank s n) (drop (i + 1) L) ++ rest)
    after_words = one s n u next next_stands ∙ ap₂ (λ x k. laid x k new_words) out_words done_length ∙
        replaced done (line_words (rank s n) next) left new_words (line_words_length (rank s n) next ∙ sym (line_words_length n _)) ∙
        rw add-one (sym (append_assoc done new_words left) ∙ ap (λ x. x ++ left) (sym done_more))

  pub laid_out_more : LaidOut p before after (i + 1)
  laid_out_more = record { size = size ∙ l.size; words = λ s n u L rest h e. after_words s n u L rest (omega arith) e }

-- all of them
pub laid_out_all : {p : Places} {before out : List ℤ} {i : ℕ} (count : ℕ) → i ≡ count → LaidOut p before out i → (s : ℕ → Bool) (n : ℕ) →
    PlacesOf s n p → (L : List (Line (rank s n))) (rest : List ℤ) → length L ≡ count → before ≡ list_words (rank s n) L ++ rest →
    out ≡ list_words n (map_l (layout s (rank s n) n) L) ++ rest
laid_out_all {i = i} count e l s n u L rest h w =
    l.words s n u L rest (omega arith) w ∙
    ap₂ (λ x y. list_words n (map_l (layout s (rank s n) n) x) ++ (list_words (rank s n) y ++ rest))
    (take_all i L (omega arith)) (drop_of_length-le L {i = i} (omega arith)) ∙ (unfold list_words in refl)

-- ---- no spare trigger: all n are in use, each is its own rank, and what a line is laid out as has the words of the line
module _ {s : ℕ → Bool} {n : ℕ} {p : Places} (u : PlacesOf s n p) (e : p.spares ≡ 0) where
  component_stands : (c : Line (rank s n)) (j : ℕ) → at n (layout s (rank s n) n c) j ≡ at (rank s n) c j
  component_stands c j = elim (dec_lt j n) [
    | yes h ↦ layout_all s n u.inside c j ∙ filled_rank s (λ j. absent) (at (rank s n) c) j (no_spare u e j h) ∙
        ap (at (rank s n) c) (own_rank u e j (omega arith))
    | no h ↦ at_past n _ j (omega arith) ∙ sym (at_past (rank s n) c j (omega (arith, rank_few s n)))
  ]

  line_stands : (c : Line (rank s n)) → line_words n (layout s (rank s n) n c) ≡ line_words (rank s n) c
  unfolding line_words
  line_stands c = ap₂ (λ k l. pos k ∷ l) (sym (own_rank u e n (omega arith)))
      (each_same 6 _ _ (λ j h. ap (λ x. signed x ∷ []) (component_stands c j)))

  lines_stand : (L : List (Line (rank s n))) → list_words n (map_l (layout s (rank s n) n) L) ≡ list_words (rank s n) L
  unfolding list_words map_l
  lines_stand [] = refl
  lines_stand (c ∷ L) = ap₂ ◌++◌ (line_stands c) (lines_stand L)

-- so they are laid out before anything is done
pub laid_out_before : {p : Places} {before : List ℤ} {count : ℕ} → p.spares ≡ 0 → (s : ℕ → Bool) (n : ℕ) → PlacesOf s n p →
    (L : List (Line (rank s n))) (rest : List ℤ) → length L ≡ count → before ≡ list_words (rank s n) L ++ rest →
    before ≡ list_words n (map_l (layout s (rank s n) n) L) ++ rest
laid_out_before e s n u L rest h w = w ∙ ap (λ x. x ++ rest) (sym (lines_stand u e L))
