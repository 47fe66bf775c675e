-- What the words of an admitted sheet and wish give on the way to the timing, for any name m of the number of triggers.
use mathlib.Core.Path.{◌≡◌, ap, sym, subst, ◌∙◌}
use mathlib.Core.Logic.{◌⊎◌, inl, inr}
use mathlib.Core.Bool.{false, not}
use mathlib.Core.List.{List}
use Prim.Native.Nat.{ℕ, ◌<◌}
use lib.Dec.{T}
use lib.IntN.{ℤ}
use lib.Seq.{take_at}
use Rattle.maxplus.specs.Packing.{rank, filled}
use Rattle.maxplus.proofs.FiniteLaws.{test}
use Rattle.maxplus.proofs.PackingLaws.{rank_more, filled_rank, filled_other}
use Rattle.cue.specs.Method.{lines}
use Rattle.cue.specs.Latest.{latest}
use Rattle.cue.specs.Standing.{Stands}
use Rattle.cue.specs.Written.{list_words}
use Rattle.cue.proofs.WrittenLaws.{list_words_length}
use Rattle.words.specs.declared.LineWords.{LineWords}
use Rattle.sheet.specs.Sheet.{got, Sheet}
use Rattle.sheet.specs.Meaning.{Timing}
use Rattle.sheet.specs.Cue.{used, cue_size, cue_of}
use Rattle.sheet.specs.Overruns.{lowered}
use Rattle.sheet.specs.Good.{Good}
use Rattle.sheet.specs.Times.{some_beyond}
use Rattle.sheet.specs.Admitted.{admitted}
use Rattle.sheet.proofs.AdmittedLaws.{Admits, admitted_as}
use Rattle.sheet.proofs.Good.{read_good}
use Rattle.sheet.proofs.Seam.{at_used}
use Rattle.sheet.proofs.ListLaws.{fitting_cue}
use Rattle.sheet.proofs.Latest.{latest_on, latest_fits}
use Rattle.timing.specs.Times.{component, TimingWords, timing_of}
use Rattle.timing.specs.declared.Timing as words
use Rattle.timing.proofs.NumberLaws.{component_of, timing_same}
use Rattle.lines.specs.Listing.{Answers}
use Rattle.std.specs.Prelude.{Ok}
use Rattle.lines.proofs.ListingLaws.{listed_room}
use Rattle.reaching.specs.Inner.{Weighable}

module _ (s : List ℕ) (count : ℕ) (G : Timing) (t : Sheet) (x : List ℕ) (e : admitted s count G ≡ got t x) where
  abbrev admits : Admits s count G t x
  admits = admitted_as s count G t x e

  abbrev good : Good t
  good = read_good s t x admits.read_is

  -- no component is beyond the limit, spare ones included
  pub near : some_beyond t.triggers G ≡ false
  near = admits.near

  -- the given times at the triggers in use, made early enough
  abbrev within : Timing
  within = at_used t (lowered t G)

  module _ (m : ℕ) (same : m ≡ cue_size t) (room : ℕ) (before : List ℤ) {between : List ℤ} {k : ℕ}
      (a : Answers m (lines m (cue_of t)) room before between (Ok k)) where
    -- the list stands at the front
    stands : Stands (cue_size t) k between (lines (cue_size t) (cue_of t))
    stands =
        let L = lines (cue_size t) (cue_of t) in
        let (c, fits, w) = subst (λ n. Answers n (lines n (cue_of t)) room before between (Ok k)) same a in
        record {
          many = sym c;
          words = rw (w, c) (take_at (list_words (cue_size t) L) _ _ (list_words_length (cue_size t) L));
          fitting = fitting_cue t good admits.orderly;
        }

    -- all that the latest timing is made from, by the wish's own count
    pub weighable : {wish : LineWords} → TimingWords (cue_size t) within wish →
        Weighable wish.count (cue_of t) within k between wish.at
    weighable {wish} w = subst (λ n. Weighable n (cue_of t) within k between wish.at) (sym w.count) (record {
      few = good.few;
      holds = listed_room m (lines m (cue_of t)) room before a;
      stands = stands;
      wished = w.words.is;
      close = w.words.close;
      readable = good.readable;
      order = admits.orderly;
      sizes = latest_fits s count G t x e;
    })

  -- the times that the lines make, each at its own trigger, with the wish's at the spare ones
  pub handed : {n : ℕ} {times : words.Timing} → n ≡ cue_size t → times ≡ timing_of n (latest n (cue_of t) within) → (R : words.Timing) →
      R ≡ timing_of t.triggers (filled (used t) G (component times.at)) → R ≡ timing_of t.triggers (latest_on t G)
  unfolding latest_on
  handed {n} {times} same q R f = f ∙ timing_same t.triggers _ _ (λ j h. go j h (test (used t j)))
    where
      made : times ≡ timing_of (cue_size t) (latest (cue_size t) (cue_of t) within)
      made = subst (λ n. times ≡ timing_of n (latest n (cue_of t) within)) same q

      at : (k : ℕ) → k < cue_size t → component times.at k ≡ latest (cue_size t) (cue_of t) within k
      at k h = ap (λ T. component T.at k) made ∙ component_of (cue_size t) _ k good.few h

      go : (j : ℕ) → j < t.triggers → T (used t j) ⊎ T (not (used t j)) →
          filled (used t) G (component times.at) j ≡ filled (used t) G (latest (cue_size t) (cue_of t) within) j
      go j h (inl u) = filled_rank (used t) _ _ j u ∙ at (rank (used t) j) (rank_more (used t) j t.triggers h u) ∙ sym (filled_rank (used t) _ _ j u)
      go j h (inr u) = filled_other (used t) _ _ j u ∙ sym (filled_other (used t) _ _ j u)
