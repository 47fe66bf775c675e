-- What reaching returns and leaves, by what was admitted and by what became of the list.
use mathlib.Core.Path.{◌≡◌, refl, ap, sym, subst, path_j, ◌∙◌}
use mathlib.Core.Bool.{Bool, true, false, cond}
use mathlib.Core.List.{List}
use Prim.Native.Nat.{ℕ, ◌/◌, ◌≤◌, ◌<◌}
use native.Mathlib.Omega.{arith}
use borrow.Author.Tests.{leb-true, leb-false}
use lib.Dec.{leb}
use lib.IntN.{ℤ}
use lib.ListN.{length}
use Rattle.std.specs.Prelude.{Result, Ok, Err}
use Rattle.planning.specs.declared.Unplanned.{Unplanned}
use Rattle.cue.specs.Written.{width}
use Rattle.sheet.specs.Sheet.{Got, got, Sheet}
use Rattle.sheet.specs.Sheet as sheet
use Rattle.sheet.specs.Meaning.{Timing}
use Rattle.sheet.specs.Cue.{sheet_caps, sheet_lines}
use Rattle.sheet.specs.Admitted.{admitted}
use Rattle.sheet.proofs.Latest.{latest_on, latest_exists}
use Rattle.admitting.proofs.Known.{admitted_is}
use Rattle.refusals.proofs.NumberLaws.{Known}
use mathlib.Core.Option.{Option}
use Rattle.maxplus.specs.Line.{Line}
use Rattle.timing.specs.Times.{timing_of}
use Rattle.timing.specs.declared.Timing as words
use Rattle.laying.specs.Laying.{Lists}
use Rattle.reaching.specs.Reaching.{ReachOutcome, reached, full, refused, reach_of, reaching, reached_space, reach_answer}
use Rattle.reaching.specs.declared.Reached.{Reached}

-- reaching returns and leaves what its outcome says
pub record Does (o : ReachOutcome) (before after : List ℤ) (r : Result Reached Unplanned) : Type 0 where
  pub answer : r ≡ reach_answer o
  pub written : after ≡ reached_space o before

module _ (s : List ℕ) (count : ℕ) (G : Timing) (space : List ℤ) where
  abbrev room_for : ℕ → ℕ
  room_for wide = length space / wide

  -- however it is known what was admitted
  pub reaching_of : {g : Got Sheet} (e : admitted s count G ≡ g) → reaching s count G space ≡ reach_of s count G room_for g e
  unfolding reaching
  reaching_of e = path_j (λ g e. reach_of s count G room_for (admitted s count G) refl ≡ reach_of s count G room_for g e) refl e

  -- what reaching refuses is one of `refusals`
  pub refused_known : (k : ℕ) → reaching s count G space ≡ refused k → Known k
  refused_known k e = go (admitted s count G) refl
    where
      listed : (n : ℕ) (X : Timing) (o : Option (Line n → ℤ)) (L : List (Line n)) (b : Bool) →
          ¬ (cond b (reached n X o L) (full (width o) (length L)) ≡ refused k)
      listed n X o L true e = let z : ◌≡◌ {A = ℕ} 0 1 = cc in let x : ⊥ = omega arith in x
      listed n X o L false e = let z : ◌≡◌ {A = ℕ} 0 1 = cc in let x : ⊥ = omega arith in x

      go : (g : Got Sheet) → admitted s count G ≡ g → Known k
      go (sheet.refused j) q = let f = sym (reaching_of q) ∙ e in let h : j ≡ k = cc in subst Known h (admitted_is s count G j q)
      go (got t x) q = absurd (listed _ _ (sheet_caps t) (sheet_lines t) (leb (length (sheet_lines t)) (room_for (width (sheet_caps t))))
          (sym (reaching_of q) ∙ e))

  does_same : {o : ReachOutcome} {after : List ℤ} {r : Result Reached Unplanned} → reaching s count G space ≡ o → Does o space after r →
      Does (reaching s count G space) space after r
  does_same {o} {after} {r} e d = subst (λ o. Does o space after r) (sym e) d

  pub does_refused : (k : ℕ) {r : Result Reached Unplanned} → admitted s count G ≡ sheet.refused k → r ≡ reach_answer (refused k) →
      Does (reaching s count G space) space space r
  unfolding reached_space
  does_refused k e q = does_same (reaching_of e) (record { answer = q; written = refl })

  -- ---- what became of the list
  module _ (t : Sheet) (x : List ℕ) (e : admitted s count G ≡ got t x) (after : List ℤ) where
    abbrev many : ℕ
    many = length (sheet_lines t)

    abbrev wide : ℕ
    wide = width (sheet_caps t)

    abbrev whole : ReachOutcome
    whole = reached t.triggers (latest_exists s count G t x e).0 (sheet_caps t) (sheet_lines t)

    abbrev by_room : Bool → ReachOutcome
    by_room b = cond b whole (full wide many)

    lines_at : (k v : ℕ) (T : words.Timing) → v ≡ wide → T ≡ timing_of t.triggers (latest_exists s count G t x e).0 →
        Lists t space after (Ok k) →
        Does (by_room (leb many (room_for wide))) space after (Ok (record { width = v; count = k; timing = T }))
    unfolding reached_space
    lines_at k v T u q (c, fits, w) = go (leb many (room_for wide)) (leb-false many (room_for wide))
      where
        go : (b : Bool) → (b ≡ false → room_for wide < many) →
            Does (by_room b) space after (Ok (record { width = v; count = k; timing = T }))
        go true f = record { answer = cc; written = w }
        go false f = let h = f refl in let y : ⊥ = omega arith in absurd y

    full_at : (k : ℕ) → Lists t space after (Err (record { count = k })) → Does (by_room (leb many (room_for wide))) space after (reach_answer (full wide k))
    unfolding reached_space
    full_at k (c, small, w) = go (leb many (room_for wide)) (leb-true many (room_for wide))
      where
        go : (b : Bool) → (b ≡ true → many ≤ room_for wide) → Does (by_room b) space after (reach_answer (full wide k))
        go true f = let h = f refl in let y : ⊥ = omega arith in absurd y
        go false f = record { answer = ap (λ k. reach_answer (full wide k)) c; written = w }

    module _ (k : ℕ) {v : ℕ} (u : v ≡ wide) where
      pub does_lines : (T : words.Timing) → T ≡ timing_of t.triggers (latest_on t G) → Lists t space after (Ok k) →
          Does (reaching s count G space) space after (Ok (record { width = v; count = k; timing = T }))
      unfolding latest_exists
      does_lines T q a = does_same (reaching_of e) (lines_at k v T u q a)

      pub does_full : {r : Result Reached Unplanned} → r ≡ reach_answer (full v k) → Lists t space after (Err (record { count = k })) → Does (reaching s count G space) space after r
      does_full q a = does_same (reaching_of e) (subst (Does _ space after) (sym (q ∙ ap (λ v. reach_answer (full v k)) u)) (full_at k a))
