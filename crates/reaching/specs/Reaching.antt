-- What reaching for the latest tightest timing returns and leaves in the lent space (document 02, No. 1).
use Rattle.std.specs.Prelude.{◌≡◌, refl, List, cond, ℕ, ◌/◌, leb, ℤ, pos, length, Result, Ok, Err}
use Rattle.std.proofs.Math.Option.{Option}
use Rattle.maxplus.specs.Line.{Line}
use Rattle.cue.specs.Written.{width, with_list}
use Rattle.sheet.specs.Sheet.{Got, got, Sheet}
use Rattle.sheet.specs.Sheet as sheet
use Rattle.sheet.specs.Meaning.{Timing}
use Rattle.sheet.specs.Cue.{sheet_caps, sheet_lines}
use Rattle.sheet.specs.Admitted.{admitted}
use Rattle.sheet.proofs.Latest.{latest_exists}
use Rattle.timing.specs.Times.{timing_of}
use Rattle.refusals.specs.Numbers.{refusal_of}
use Rattle.planning.specs.Planning.{needed}
use Rattle.planning.specs.declared.Extent.{Extent}
use Rattle.planning.specs.declared.Unplanned.{Unplanned}
use Rattle.planning.specs.declared.Unplanned.TheVariants.{Refused, NoRoom}
use Rattle.reaching.specs.declared.Reached.{Reached}

pub data ReachOutcome : Type 0 where
  reached : (triggers : ℕ) → Timing → Option (Line triggers → ℤ) → List (Line triggers) → ReachOutcome
  full : (wide count : ℕ) → ReachOutcome
  refused : ℕ → ReachOutcome

-- "The refusals are those of testing, in that order, then 9." Otherwise the timing that `latest_exists` gives: by its type the latest of the
-- tightest timings that meet every last moment and none of whose components exceeds the given G's, and there is no other (`Promise`)
module _ (s : List ℕ) (count : ℕ) (G : Timing) (room : ℕ → ℕ) where
  abbrev pub reach_of : (g : Got Sheet) → admitted s count G ≡ g → ReachOutcome
  reach_of (sheet.refused k) e = refused k
  reach_of (got t r) e =
      let L = sheet_lines t in
      let wide = width (sheet_caps t) in
      cond (leb (length L) (room wide)) (reached t.triggers (latest_exists s count G t r e).0 (sheet_caps t) L) (full wide (length L))

unfoldable pub reaching : List ℕ → ℕ → Timing → List ℤ → ReachOutcome
reaching s count G space = reach_of s count G (λ wide. length space / wide) (admitted s count G) refl

-- "On success the lent space holds the list as after planning"; a refusal changes no word
unfoldable pub reached_space : ReachOutcome → List ℤ → List ℤ
reached_space (reached n X caps L) space = with_list n caps L space
reached_space (full w k) space = space
reached_space (refused k) space = space

-- the answer in a program: how many words a line takes, the number of lines and the timing, 0 in its unused components; or the refusal, 9 with
-- the count needed and the words of a line
abbrev pub reach_answer : ReachOutcome → Result Reached Unplanned
reach_answer (reached n X caps L) = Ok (record { width = width caps; count = length L; timing = timing_of n X })
reach_answer (full w k) = Err (NoRoom (record { count = k; width = w }))
reach_answer (refused k) = Err (Refused (refusal_of k))

-- what is returned of a timing; all 0 where there is none
abbrev pub reached_in : Result Reached Unplanned → Reached
reached_in (Ok r) = r
reached_in (Err e) = record { width = 0; count = 0; timing = timing_of 0 (λ j. pos 0) }

-- how much reaching writes, or with 9 needs
abbrev pub reach_extent : Result Reached Unplanned → Extent
reach_extent (Ok r) = record { count = r.count; width = r.width }
reach_extent (Err e) = needed e
