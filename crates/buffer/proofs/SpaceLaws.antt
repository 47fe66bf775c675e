-- Laws of the lent space: a line's seven words, and lines laid one after the other.
use mathlib.Core.Path.{◌≡◌, refl, ap, ap₂, sym, ◌∙◌}
use mathlib.Core.List.{List, [], ◌∷◌, ◌++◌, append_assoc, append-nil}
use Prim.Native.Nat.{ℕ, zero, suc, ◌+◌, ◌≤◌, ◌<◌}
use native.Mathlib.Omega.{arith}
use native.Mathlib.Nat.{add-zero}
use native.Mathlib.Decide.{dec_lt}
use native.Mathlib.Numerals.{add-one}
use lib.IntN.{ℤ, pos}
use lib.ListN.{length, get_or, take, drop, set, take-append-drop, length-append}
use lib.Seq.{paste, paste-suc, take_all, take-suc-set, drop-set-lt, append_snoc, take_at, drop_at, drop-drop, length-take-le}
use Rattle.maxplus.specs.Entry.{absent}
use Rattle.maxplus.specs.Finite.{each}
use Rattle.maxplus.specs.Line as line
use Rattle.maxplus.specs.Line.{Line, at}
use Rattle.maxplus.proofs.EachLaws.{length_each, each_at}
use Rattle.cue.specs.Written.{line_size, signed, line_words, list_words}
use Rattle.words.specs.Words.{entry, Close}
use Rattle.words.proofs.Laws.{entry_zero, close_none}
use Rattle.tables.specs.Held.{meant_v, CloselyV}
use Rattle.tables.specs.Lines.{line_of, Sized}
use Rattle.tables.proofs.LineLaws.{line_at}
use Rattle.buffer.specs.Space.{laid}

-- ---- the words of a line after its count
abbrev pub component_words : (n : ℕ) → Line n → List ℤ
component_words n c = each 6 (λ i. signed (at n c i) ∷ [])

at_past : (n : ℕ) (c : Line n) (i : ℕ) → n ≤ i → at n c i ≡ absent
unfolding at
at_past zero c i h = refl
at_past (suc n) c zero h = let x : ⊥ = omega arith in absurd x
at_past (suc n) c (suc i) h = at_past n c.1 i (omega arith)

entry_at : (n : ℕ) (c : List ℕ) (j : ℕ) → Sized n c → entry (get_or c j 0) ≡ at n (line_of n c) j
unfolding meant_v
entry_at n c j s = elim (dec_lt j n) [
  | yes k ↦ sym (line_at n c j k)
  | no k ↦ ap entry (s.past j (omega arith)) ∙ entry_zero ∙ sym (at_past n (line_of n c) j (omega arith))
]

component_words_length : (n : ℕ) (c : Line n) → length (component_words n c) ≡ 6
component_words_length n c = length_each 6 (λ i. signed (at n c i))

pub component_more : (out : List ℤ) (at n : ℕ) (c : List ℕ) (j : ℕ) (z : ℤ) → at + line_size ≤ length out → j < 6 → Sized n c →
    z ≡ signed (entry (get_or c j 0)) →
    set (paste out (at + 1) (component_words n (line_of n c)) j) (at + 1 + j) z ≡ paste out (at + 1) (component_words n (line_of n c)) (j + 1)
component_more out at n c j z h k s e =
    ap (set (paste out (at + 1) W j) (at + 1 + j)) (e ∙ ap signed (entry_at n c j s) ∙
    sym (each_at 6 j (λ i. signed (line.at n (line_of n c) i)) (pos 0) k)) ∙
    paste-suc out (at + 1) W j (pos 0) (omega arith) (omega (arith, component_words_length n (line_of n c))) ∙
    ap (paste out (at + 1) W) (sym (add-one j))
  where
    W : List ℤ
    W = component_words n (line_of n c)

-- past the last component the words are absent
pub close_all : {n k : ℕ} {c : List ℕ} (j : ℕ) → Sized n c → CloselyV n k c → Close k (get_or c j 0)
close_all {n} {k} j s h = elim (dec_lt j n) [ yes l ↦ h.at j l | no l ↦ rw (s.past j (omega arith)) (close_none k) ]

-- ---- words laid in the space
pub laid_none : (before : List ℤ) (at : ℕ) → before ≡ laid before at []
unfolding laid
laid_none before at = sym (ap₂ ◌++◌ (append-nil (take at before)) (ap (λ k. drop k before) (add-zero at)) ∙ take-append-drop at before)

pub laid_line : (before : List ℤ) (at n : ℕ) (c : Line n) → at + line_size ≤ length before →
    paste (set before at (pos n)) (at + 1) (component_words n c) 6 ≡ laid before at (line_words n c)
unfolding laid line_words
laid_line before at n c h =
    ap₂ ◌++◌ (ap₂ ◌++◌ (ap (λ k. take k (set before at (pos n))) (add-one at) ∙ take-suc-set before at (pos n) (omega arith))
    (take_all 6 (component_words n c) (omega (arith, component_words_length n c))) ∙ append_snoc (take at before) (pos n) (component_words n c))
    (drop-set-lt (at + 1 + 6) before at (pos n) (omega arith) ∙
    ap (λ k. drop k before) (let e : at + 1 + 6 ≡ at + suc (length (component_words n c)) = omega (arith, component_words_length n c) in e))

pub laid_more : (before : List ℤ) (at : ℕ) (u v : List ℤ) → at + length u + length v ≤ length before →
    laid (laid before at u) (at + length u) v ≡ laid before at (u ++ v)
unfolding laid
laid_more before at u v h =
    ap₂ ◌++◌ (ap (λ l. l ++ v) (take_at (take at before ++ u) (drop (at + length u) before) (at + length u) front) ∙
    append_assoc (take at before) u v)
    (sym (drop-drop (length v) (at + length u) _) ∙
    ap (drop (length v)) (drop_at (take at before ++ u) (drop (at + length u) before) (at + length u) front) ∙
    drop-drop (length v) (at + length u) before ∙
    ap (λ k. drop k before) (let e : at + length u + length v ≡ at + length (u ++ v) = omega (arith, length-append u v) in e))
  where
    front : length (take at before ++ u) ≡ at + length u
    front = length-append (take at before) u ∙ omega (arith, length-take-le at before (omega arith))

pub list_words_more : (n : ℕ) (L M : List (Line n)) → list_words n (L ++ M) ≡ list_words n L ++ list_words n M
unfolding list_words
list_words_more n [] M = refl
list_words_more n (c ∷ L) M = ap (λ l. line_words n c ++ l) (list_words_more n L M) ∙
    sym (append_assoc (line_words n c) (list_words n L) (list_words n M))

pub list_words_single : (n : ℕ) (c : Line n) → list_words n (c ∷ []) ≡ line_words n c
unfolding list_words
list_words_single n c = append-nil (line_words n c)
