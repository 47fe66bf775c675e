-- How far the numbers of an answer go, from the bytes: at most six panels, and at most so many lines as six by six can have.
use mathlib.Core.Path.{◌≡◌, refl, ap}
use mathlib.Core.Bool.{Bool, true, false, cond}
use mathlib.Core.List.{List}
use mathlib.Core.Option.{Option, none, some}
use Prim.Native.Nat.{ℕ, ◌/◌, ◌≤◌}
use native.Mathlib.Omega.{arith}
use lib.Dec.{leb}
use lib.IntN.{ℤ}
use lib.ListN.{length}
use Rattle.maxplus.specs.Line.{Line}
use Rattle.maxplus.proofs.EachLaws.{length_each}
use Rattle.cue.specs.Sizes.{most_lines}
use Rattle.cue.proofs.Few.{lines_few}
use Rattle.sheet.specs.Sheet.{Got, got, Sheet, read}
use Rattle.sheet.specs.Sheet as sheet
use Rattle.sheet.specs.Meaning.{Timing}
use Rattle.sheet.specs.Cue.{cue_size, cue_of, Orderly, orderly?, sheet_byte, sheet_count, sheet_caps, sheet_lines}
use Rattle.sheet.specs.Admitted.{admitted}
use Rattle.sheet.proofs.Good.{read_good}
use Rattle.sheet.proofs.Longest.{longest_is}
use Rattle.sheet.proofs.ListLaws.{lines_many}
use Rattle.sheet.proofs.AdmittedLaws.{admitted_as}
use Rattle.planning.specs.Planning.{planned, full, plan_of, planning, plan_answer, extent_of}
use Rattle.keeping.specs.Keeping.{kept_of, keeping, kept_answer, table_in}
use Rattle.reaching.specs.Reaching.{reached, reach_of, reaching, reach_answer, reach_extent}
use Rattle.reaching.specs.Reaching as reaches
use Rattle.hiring.specs.Hiring.{hiring, hire_answer, hired_in}
use Rattle.hiring.proofs.Loads.{hired_few}
use Rattle.answer_words.specs.Inner.{Few}
use Rattle.std.specs.Prelude.{Result, Ok, Err, IfOk}
use Rattle.refusals.specs.declared.Refusal.{Refusal}
use Rattle.keeping.specs.declared.KeptTable.{KeptTable}
use Rattle.hiring.specs.declared.Hired.{Hired}
use Rattle.sheet.specs.Ordered.{ordered}
use Rattle.cue.specs.Written.{width}
use Rattle.cue.specs.Sizes.{size_limit}

width_few : {A : Type 0} (o : Option A) → width o ≤ most_lines
width_few none = omega arith
width_few (some a) = omega arith

-- no sheet's list has more lines than there can be
list_few : (t : Sheet) → (cue_size t ≤ size_limit) × (t.panels ≤ size_limit) → length (sheet_lines t) ≤ most_lines
list_few t (hn, hm) = rw (lines_many t) (lines_few (cue_size t) (cue_of t) hn hm)

module _ (s : List ℕ) where
  abbrev Sized : Got Sheet → Type 0
  Sized (sheet.refused k) = Unit {0}
  Sized (got t r) = (cue_size t ≤ size_limit) × (t.panels ≤ size_limit)

  sized : Sized (ordered s)
  unfolding ordered
  sized = go (read s) refl
    where
      ask : (t : Sheet) (r : List ℕ) → Sized (got t r) → (d : Dec (Orderly t)) →
          Sized (elim d [ yes h ↦ got t r | no h ↦ sheet.refused 8 ])
      ask t r z (yes h) = z
      ask t r z (no h) = tt

      go : (g : Got Sheet) → read s ≡ g →
          Sized (sheet.◌>>=◌ g (λ t r. elim (orderly? t) [ yes h ↦ got t r | no h ↦ sheet.refused 8 ]))
      go (sheet.refused k) e = tt
      go (got t r) e = let G = read_good s t r e in ask t r (G.few, G.panels_few) (orderly? t)

  pub plan_few : (space : List ℤ) → Few (extent_of (plan_answer (planning s space)))
  unfolding planning
  plan_few space = go (ordered s) sized
    where
      either : (n : ℕ) (s : ℕ → Bool) (D : ℤ) (k l : ℕ) (o : Option (Line n → ℤ)) (L : List (Line n)) (b : Bool) → length L ≤ most_lines →
          Few (extent_of (plan_answer (cond b (planned n s D k l o L) (full (width o) (length L)))))
      either n s D k l o L true h = (h, width_few o)
      either n s D k l o L false h = (h, width_few o)

      go : (g : Got Sheet) → Sized g → Few (extent_of (plan_answer (plan_of (λ wide. length space / wide) g)))
      go (sheet.refused k) z = (omega arith, omega arith)
      go (got t r) z =
          either _ _ _ _ _ (sheet_caps t) (sheet_lines t) (leb (length (sheet_lines t)) (length space / width (sheet_caps t))) (list_few t z)

  pub panels_few : (table_in (kept_answer (keeping s))).panels ≤ size_limit
  unfolding keeping
  panels_few = go (ordered s) sized
    where
      go : (g : Got Sheet) → Sized g → (table_in (kept_answer (kept_of g))).panels ≤ size_limit
      go (sheet.refused k) z = omega arith
      go (got t r) (hn, hm) = rw (length_each {A = ℕ × ℕ} t.panels (λ i. (sheet_byte t i, sheet_count t i))) hm

  pub reach_few : (count : ℕ) (G : Timing) (space : List ℤ) → Few (reach_extent (reach_answer (reaching s count G space)))
  unfolding reaching
  reach_few count G space = go (admitted s count G) refl
    where
      either : (n : ℕ) (X : Timing) (o : Option (Line n → ℤ)) (L : List (Line n)) (b : Bool) → length L ≤ most_lines →
          Few (reach_extent (reach_answer (cond b (reached n X o L) (reaches.full (width o) (length L)))))
      either n X o L true h = (h, width_few o)
      either n X o L false h = (h, width_few o)

      go : (g : Got Sheet) (e : admitted s count G ≡ g) → Few (reach_extent (reach_answer (reach_of s count G (λ wide. length space / wide) g e)))
      go (sheet.refused k) e = (omega arith, omega arith)
      go (got t r) e =
          let good = read_good s t r (admitted_as s count G t r e).read_is in
          either _ _ (sheet_caps t) (sheet_lines t) (leb (length (sheet_lines t)) (length space / width (sheet_caps t)))
          (list_few t (good.few, good.panels_few))

-- ---- the bytes of a sheet that was made are no more than those of the longest good sheet
pub hire_few : (m n s room : ℕ) → (hired_in (hire_answer (hiring m n s room))).length ≤ most_lines
hire_few m n s room = omega (arith, hired_few m n s room, longest_is)

-- ---- the same of what was answered
pub if_panels : (s : List ℕ) {r : Result KeptTable Refusal} → r ≡ kept_answer (keeping s) → IfOk r (λ t. t.panels ≤ size_limit)
if_panels s {r} e = go r (ap (λ r. (table_in r).panels) e) (panels_few s)
  where
    go : (r : Result KeptTable Refusal) → (table_in r).panels ≡ (table_in (kept_answer (keeping s))).panels →
        (table_in (kept_answer (keeping s))).panels ≤ size_limit → IfOk r (λ t. t.panels ≤ size_limit)
    go (Ok t) q h = omega arith
    go (Err k) q h = tt

pub if_length : (m n s room : ℕ) {r : Result Hired Refusal} → r ≡ hire_answer (hiring m n s room) → IfOk r (λ h. h.length ≤ most_lines)
if_length m n s room {r} e = go r (ap (λ r. (hired_in r).length) e) (hire_few m n s room)
  where
    go : (r : Result Hired Refusal) → (hired_in r).length ≡ (hired_in (hire_answer (hiring m n s room))).length →
        (hired_in (hire_answer (hiring m n s room))).length ≤ most_lines → IfOk r (λ h. h.length ≤ most_lines)
    go (Ok h) q f = omega arith
    go (Err k) q f = tt
