-- Two sheets with equal numbers of triggers. Where the same of them are spare, both cues have the same triggers, and their lists are equal
-- exactly when the same timings are tightest, which is the cue's theorem. A list shows which triggers are spare, so that equal lists force
-- equal spares.
use mathlib.Core.Path.{◌≡◌, refl, ap, sym, ◌∙◌, subst, subst₂, fun_ext}
use mathlib.Core.Logic.{◌↔◌}
use mathlib.Core.Bool.{Bool, true, false, not, ◌&&◌}
use mathlib.Core.List.{List}
use Prim.Native.Nat.{ℕ, ◌<◌}
use native.Mathlib.Omega.{arith}
use lib.Dec.{T, ltb, ltb→lt}
use lib.IntN.{pos}
use lib.ListN.{length}
use Rattle.maxplus.specs.Finite.{map_l}
use Rattle.maxplus.specs.Tables.{NoGain}
use Rattle.maxplus.specs.Line.{Line}
use Rattle.maxplus.specs.Packing.{rank, place, filled, layout}
use Rattle.maxplus.proofs.PackingLaws.{filled_place}
use Rattle.maxplus.proofs.LayoutLaws.{layouts_one}
use Rattle.cue.specs.Cue.{Cue}
use Rattle.cue.specs.Vectors.{Readable}
use Rattle.cue.specs.Vectors as cue
use Rattle.cue.specs.Method.{lines}
use Rattle.cue.specs.Results.{Fitting}
use Rattle.cue.specs.Written.{list_words}
use Rattle.cue.proofs.WrittenLaws.{list_words_one}
use Rattle.cue.proofs.Demands as theory
use Rattle.sheet.specs.Sheet.{Sheet, spare}
use Rattle.sheet.specs.Meaning.{Timing, Tightest, SameSpares, SameTimings}
use Rattle.sheet.specs.Cue.{used, cue_size, only, whole_cue, cue_of, Orderly, sheet_lines}
use Rattle.sheet.specs.Good.{Good}
use Rattle.sheet.proofs.Seam.{at_used, tightest_ext, tightest_cue}
use Rattle.sheet.proofs.ListLaws.{Shown, shown, fitting}

-- ---- the same spares, so the same triggers in use
used_same : (t u : Sheet) → t.triggers ≡ u.triggers → SameSpares t u → used t ≡ used u
unfolding used
used_same t u e same = fun_ext (λ j. go j (ltb j t.triggers) (ltb→lt j t.triggers) ∙ ap (λ n. ltb j n && not (spare u j)) e)
  where
    go : (j : ℕ) (b : Bool) → (T b → j < t.triggers) → (b && not (spare t j)) ≡ (b && not (spare u j))
    go j true h = ap not (same j (h tt))
    go j false h = refl

-- ---- cues over the same places
module _ (n : ℕ) (s : ℕ → Bool) where
  abbrev laid_lines : Cue → List (Line n)
  laid_lines P = map_l (layout s (rank s n) n) (lines (rank s n) P)

  abbrev picked : Timing → Timing
  picked X k = X (place s n k)

  -- any times of the cue's triggers are those of some timing
  carried : (P Q : Cue) → ((X : Timing) → cue.Tightest (rank s n) P (picked X) → cue.Tightest (rank s n) Q (picked X)) → (Y : Timing) →
      cue.Tightest (rank s n) P Y → cue.Tightest (rank s n) Q Y
  carried P Q f Y h = tightest_ext (rank s n) Q (λ k q. filled_place s n (λ j. pos 0) Y k q)
      (f (filled s (λ j. pos 0) Y) (tightest_ext (rank s n) P (λ k q. sym (filled_place s n (λ j. pos 0) Y k q)) h))

  packed_lists : (P Q : Cue) → Readable (rank s n) P → Readable (rank s n) Q → NoGain (rank s n) P.order → NoGain (rank s n) Q.order →
      (laid_lines P ≡ laid_lines Q) ↔ ((X : Timing) → cue.Tightest (rank s n) P (picked X) ↔ cue.Tightest (rank s n) Q (picked X))
  packed_lists P Q R S np nq =
      let both = theory.demand_3 (rank s n) P Q R S np nq in (
        λ e X. both.0 (layouts_one s n n (omega arith) _ _ e) (picked X),
        λ f. ap (map_l (layout s (rank s n) n)) (both.1 (λ Y. (carried P Q (λ X. (f X).0) Y, carried Q P (λ X. (f X).1) Y))),
      )

-- ---- the lists of two sheets, as a lent space has them
abbrev pub SameLists : Sheet → Sheet → Type 0
SameLists t u = (length (sheet_lines t) ≡ length (sheet_lines u)) ×
    (list_words t.triggers (sheet_lines t) ≡ list_words u.triggers (sheet_lines u))

module _ (t u : Sheet) (G : Good t) (H : Good u) (o : Orderly t) (p : Orderly u) (same_size : t.triggers ≡ u.triggers) where
  -- the tables of u over the places below k that pass the test s
  abbrev over_places : ℕ → (ℕ → Bool) → Cue
  over_places k s = only (place s k) (whole_cue u)

  abbrev SameAs : (k : ℕ) → List (Line k) → Type 0
  SameAs k M = (length (sheet_lines t) ≡ length M) × (list_words t.triggers (sheet_lines t) ≡ list_words k M)

  lists_agree : SameSpares t u →
      SameLists t u ↔ ((X : Timing) → cue.Tightest (cue_size t) (cue_of t) (at_used t X) ↔ cue.Tightest (cue_size u) (cue_of u) (at_used u X))
  unfolding sheet_lines
  lists_agree same = subst₂ alike same_size (used_same t u same_size same) here H.readable p (fitting u H p)
    where
      alike : ℕ → (ℕ → Bool) → Type 0
      alike k s = let Q = over_places k s in
          Readable (rank s k) Q → NoGain (rank s k) Q.order → Fitting k (laid_lines k s Q) →
          SameAs k (laid_lines k s Q) ↔
          ((X : Timing) → cue.Tightest (cue_size t) (cue_of t) (at_used t X) ↔ cue.Tightest (rank s k) Q (picked k s X))

      here : alike t.triggers (used t)
      here R nq f =
          let both = packed_lists t.triggers (used t) (cue_of t) (over_places t.triggers (used t)) G.readable R o nq in (
            λ e. both.0 (list_words_one t.triggers G.triggers_few _ _ (fitting t G o) f e.1),
            λ h. let l = both.1 h in (ap length l, ap (list_words t.triggers) l),
          )

  pub lists_timings : SameSpares t u → SameLists t u ↔ SameTimings t u
  lists_timings same = let both = lists_agree same in (
    λ e X. let b = both.0 e X in (λ h. (second X).1 (b.0 ((first X).0 h)), λ h. (first X).1 (b.1 ((second X).0 h))),
    λ f. both.1 (λ X. let b = f X in (λ h. (second X).0 (b.0 ((first X).1 h)), λ h. (first X).0 (b.1 ((second X).1 h)))),
  )
    where
      first : (X : Timing) → Tightest t X ↔ cue.Tightest (cue_size t) (cue_of t) (at_used t X)
      first = tightest_cue t G.measured

      second : (X : Timing) → Tightest u X ↔ cue.Tightest (cue_size u) (cue_of u) (at_used u X)
      second = tightest_cue u H.measured

  -- ---- equal lists show the same triggers
  shows_same : SameLists t u → (j : ℕ) → Shown t.triggers (sheet_lines t) j ↔ Shown u.triggers (sheet_lines u) j
  shows_same e = subst alike same_size here (sheet_lines u) (fitting u H p) e.1
    where
      alike : ℕ → Type 0
      alike k = (M : List (Line k)) → Fitting k M → list_words t.triggers (sheet_lines t) ≡ list_words k M →
          (j : ℕ) → Shown t.triggers (sheet_lines t) j ↔ Shown k M j

      here : alike t.triggers
      here M f w j = let l = list_words_one t.triggers G.triggers_few _ M (fitting t G o) f w in
          (λ s. rw l at s, λ s. rw (← l) at s)

  pub lists_spares : SameLists t u → SameSpares t u
  lists_spares e j h = agree (spare t j) (spare u j)
      (λ s. (shown u H p j k).0 ((shows_same e j).0 ((shown t G o j h).1 s)))
      (λ s. (shown t G o j h).0 ((shows_same e j).1 ((shown u H p j k).1 s)))
    where
      k : j < u.triggers
      k = rw same_size at h

      agree : (a b : Bool) → (T (not a) → T (not b)) → (T (not b) → T (not a)) → a ≡ b
      agree true true f g = refl
      agree true false f g = absurd (g tt)
      agree false true f g = absurd (f tt)
      agree false false f g = refl
