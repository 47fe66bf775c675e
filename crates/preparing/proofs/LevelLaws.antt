-- Packing the panels with a floor, one panel more.
use mathlib.Core.Path.{◌≡◌, refl, ap, sym, ◌∙◌}
use mathlib.Core.List.{List, [], ◌∷◌, ◌++◌, append-nil}
use mathlib.Core.Bool.{true, false}
use Prim.Native.Nat.{ℕ, ◌+◌, ◌≤◌, ◌<◌}
use native.Mathlib.Omega.{arith}
use native.Mathlib.Numerals.{add-one}
use lib.ListN.{length, get_or, take, set, length-set, replicate}
use lib.Seq.{length-take-le, take-suc-set, get_or-set_other}
use Rattle.maxplus.specs.Entry.{◌⊗◌, inv, present?}
use Rattle.maxplus.specs.Finite.{each, map_l}
use Rattle.maxplus.specs.Tables.{Vec}
use Rattle.maxplus.proofs.EachLaws.{map_append}
use Rattle.words.specs.Words.{entry}
use Rattle.tables.specs.Held.{meant, meant_v, HoldsV}
use Rattle.thresholds.specs.Thresholds.{floored}
use Rattle.preparing.specs.Levels.{PackedAs}
use Rattle.tables.proofs.Loops.{blank_word}
use Rattle.cue.specs.Sizes.{size_limit}

module _ (kept : List ℕ) (p : Vec) where
  -- the panels below i are packed into f places
  pub record Packing (bytes at : List ℕ) (f i : ℕ) : Type 0 where
    pub bytes_size : length bytes ≡ 6
    pub at_size : length at ≡ 6
    pub few : f ≤ i
    pub panels_are : take f at ≡ floored i p
    pub bytes_are : take f bytes ≡ map_l (λ i. get_or kept i 0) (floored i p)
    pub past : (l : ℕ) → f ≤ l → get_or bytes l 0 ≡ 0

  pub packing_none : Packing (replicate 6 0) (replicate 6 0) 0 0
  unfolding floored each map_l
  packing_none = record { bytes_size = refl; at_size = refl; few = omega arith; panels_are = refl; bytes_are = refl; past = λ l h. blank_word l }

  floored_yes : (i : ℕ) → present? (p i) ≡ true → floored (i + 1) p ≡ floored i p ++ (i ∷ [])
  unfolding floored each
  floored_yes i h = rw (add-one, h)

  floored_no : (i : ℕ) → present? (p i) ≡ false → floored (i + 1) p ≡ floored i p
  unfolding floored each
  floored_no i h = rw (add-one, h) (append-nil _)

  pub packing_more : {bytes at : List ℕ} {f i v : ℕ} → i < 6 → present? (p i) ≡ true → v ≡ get_or kept i 0 → Packing bytes at f i →
      Packing (set bytes f v) (set at f i) (f + 1) (i + 1)
  unfolding map_l
  packing_more {bytes} {at} {f} {i} {v} h t e k = record {
    bytes_size = simp length-set k.bytes_size;
    at_size = simp length-set k.at_size;
    few = let q = k.few in omega arith;
    panels_are = rw (add-one f, floored_yes i t)
        (take-suc-set at f i (let q = k.few in let s = k.at_size in omega arith) ∙ ap (λ l. l ++ (i ∷ [])) k.panels_are);
    bytes_are = rw (add-one f, floored_yes i t)
        (take-suc-set bytes f v (let q = k.few in let s = k.bytes_size in omega arith) ∙ ap (λ l. l ++ (v ∷ [])) k.bytes_are ∙
        ap (λ x. map_l (λ i. get_or kept i 0) (floored i p) ++ (x ∷ [])) e ∙ sym (map_append (λ i. get_or kept i 0) (floored i p) (i ∷ [])));
    past = λ l q. get_or-set_other bytes f l v 0 (λ x. omega arith) ∙ k.past l (omega arith);
  }

  pub packing_less : {bytes at : List ℕ} {f i : ℕ} → present? (p i) ≡ false → Packing bytes at f i → Packing bytes at f (i + 1)
  packing_less {bytes} {at} {f} {i} t k = record {
    bytes_size = k.bytes_size;
    at_size = k.at_size;
    few = let q = k.few in omega arith;
    panels_are = rw (floored_no i t) k.panels_are;
    bytes_are = rw (floored_no i t) k.bytes_are;
    past = k.past;
  }

  pub packing_all : (bytes at : List ℕ) (f i m : ℕ) → m ≤ size_limit → i ≡ m → Packing bytes at f i →
      PackedAs kept (floored m p) (record { panels = f; kept = bytes; at = at })
  packing_all bytes at f i m h e k = rw (← e) (record {
    size = k.bytes_size;
    many = sym (length-take-le f at (let q = k.few in let s = k.at_size in omega arith)) ∙ ap length k.panels_are;
    panels_are = k.panels_are;
    bytes_are = k.bytes_are;
    past = k.past;
  })

-- a level's rows, by the panel's number as it was read
pub gained_at : (t : List (List ℕ)) (w : List ℕ) {i k n : ℕ} {r : List ℕ} → i ≡ k →
    HoldsV n (λ j. meant_v (get_or t i []) j ⊗ inv (entry (get_or w i 0))) r → HoldsV n (λ j. meant t k j ⊗ inv (meant_v w k)) r
unfolding meant meant_v
gained_at t w e h = rw (← e) h

pub needed_at : (t : List (List ℕ)) (w : List ℕ) {i k n : ℕ} {r : List ℕ} → i ≡ k →
    HoldsV n (λ j. entry (get_or w i 0) ⊗ inv (meant_v (get_or t i []) j)) r → HoldsV n (λ j. meant_v w k ⊗ inv (meant t k j)) r
unfolding meant meant_v
needed_at t w e h = rw (← e) h
