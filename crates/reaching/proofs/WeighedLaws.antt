-- Laws of weighing the lines in a lent space: the lines passed, one more, and the timing that all of them make.
use mathlib.Core.Path.{◌≡◌, refl, ap, ap₂, sym, ◌∙◌}
use mathlib.Core.List.{List}
use Prim.Native.Nat.{ℕ, ◌+◌, ◌*◌, ◌<◌}
use lib.IntN.{ℤ}
use Rattle.maxplus.specs.Entry.{num, ◌⊗◌, inv}
use Rattle.maxplus.specs.Finite.{In}
use Rattle.maxplus.specs.Tables.{sup, Vec}
use Rattle.maxplus.specs.Line.{Line, at}
use Rattle.maxplus.proofs.WholeLaws.{neg_neg}
use Rattle.maxplus.proofs.EntryLaws.{inv_num}
use Rattle.maxplus.proofs.SupLaws.{sup_ext, sup_l_same, sup_l_each}
use Rattle.cue.specs.Cue.{Cue, timing, overdue}
use Rattle.cue.specs.Method.{lines}
use Rattle.cue.specs.Latest.{fit, latest}
use Rattle.cue.specs.Standing.{line_at, lines_of}
use Rattle.cue.specs.Written.{line_size}
use Rattle.cue.proofs.StandingLaws.{lines_back}
use Rattle.cue.proofs.Extreme.{lines_normal}
use Rattle.cue.proofs.Room.{fit_is}
use Rattle.cue.proofs.Latest.{made_makes}
use Rattle.words.specs.Words.{entry}
use Rattle.tables.specs.Held.{meant_v, HoldsV, Raised}
use Rattle.tables.proofs.SquareLaws.{row_more}
use Rattle.timing.specs.Times.{timing_of}
use Rattle.timing.specs.declared.Timing as words
use Rattle.reaching.specs.Inner.{weight_in, most_within, Weighable}

overdue_same : (n : ℕ) {x y u v : Vec} → ((j : ℕ) → j < n → x j ≡ y j) → ((j : ℕ) → j < n → u j ≡ v j) → overdue n x u ≡ overdue n y v
unfolding overdue
overdue_same n e f = sup_ext n (λ j h. ap₂ (λ a b. a ⊗ inv b) (f j h) (e j h))

-- ---- line by line
module _ (n : ℕ) (x : Vec) (ws : List ℤ) where
  -- the line at place k with its weight
  abbrev pub weighed : ℕ → Vec
  weighed k j = let c = line_at n ws (line_size * k) in weight_in n x c ⊗ at n c j

  pub weighed_more : {r s line : List ℕ} (k w : ℕ) → HoldsV n (λ j. sup k (λ k. weighed k j)) r →
      HoldsV n (at n (line_at n ws (line_size * k))) line → entry w ≡ inv (overdue n x (meant_v line)) → Raised n (entry w) (meant_v line) r s →
      HoldsV n (λ j. sup (k + 1) (λ k. weighed k j)) s
  unfolding weight_in
  weighed_more k w h l e u =
      row_more weighed k h u (λ j q. ap₂ ◌⊗◌ (e ∙ ap inv (overdue_same n (λ j q. refl) l.at)) (l.at j q))

  pub weighed_all : {r : List ℕ} (count : ℕ) → HoldsV n (λ j. sup count (λ k. weighed k j)) r →
      HoldsV n (most_within n x (lines_of n count ws)) r
  unfolding lines_of
  weighed_all count h = record { at = λ j q. h.at j q ∙ sym (sup_l_each count _ _) }

-- ---- what all the lines of a cue make within a wish is its latest timing
module _ {n : ℕ} {P : Cue} {G : ℕ → ℤ} {count : ℕ} {ws : List ℤ} {wish : List ℕ} (w : Weighable n P G count ws wish) where
  fit_weight : (c : Line n) → In c (lines n P) → weight_in n (meant_v wish) c ≡ num (fit n G c)
  unfolding weight_in
  fit_weight c h =
      ap inv (overdue_same n w.wished.at (λ j q. refl) ∙ fit_is n G c (lines_normal n P c h)) ∙ inv_num _ ∙ ap num (neg_neg _)

  pub latest_held : {r : List ℕ} → HoldsV n (most_within n (meant_v wish) (lines_of n count ws)) r → HoldsV n (timing (latest n P G)) r
  unfolding latest
  latest_held h = record {
    at = λ j q. h.at j q ∙ ap (λ L. most_within n (meant_v wish) L j) (lines_back w.few w.stands) ∙
        sup_l_same (lines n P) (λ c k. ap (λ v. v ⊗ at n c j) (fit_weight c k)) ∙
        sym (made_makes n P w.readable w.order (fit n G) j q);
  }

-- the timing of its numbers, for another name of n
pub latest_told : {n m : ℕ} {X : ℕ → ℤ} {w : List ℕ} {T : words.Timing} → m ≡ n → HoldsV n (timing X) w →
    ((Y : ℕ → ℤ) → HoldsV m (timing Y) w → T ≡ timing_of m Y) → T ≡ timing_of n X
latest_told {X = X} e h f = f X (rw e h) ∙ ap (λ n. timing_of n X) e
