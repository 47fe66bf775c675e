-- A sheet's list: the cue's lines, each component at its own trigger. It has as many lines, weights for the one list are weights for the
-- other, each trigger in use stands in some line and a spare one in none.
use mathlib.Core.Path.{◌≡◌, refl, ap, ap₂, sym, ◌∙◌, fun_ext}
use mathlib.Core.Logic.{◌↔◌, ◌⊎◌, inl, inr}
use mathlib.Core.Bool.{not}
use mathlib.Core.List.{List}
use Prim.Native.Nat.{ℕ, ◌<◌}
use native.Mathlib.Omega.{arith}
use lib.Dec.{T}
use lib.ListN.{length}
use Rattle.maxplus.specs.Entry.{E, absent, num, ◌⊗◌, Present}
use Rattle.maxplus.specs.Finite.{In}
use Rattle.maxplus.specs.Tables.{sup_l}
use Rattle.maxplus.specs.Line.{Line, at}
use Rattle.maxplus.specs.Packing.{rank, filled, layout}
use Rattle.maxplus.specs.Combination as combination
use Rattle.maxplus.proofs.EntryLaws.{absent_not}
use Rattle.maxplus.proofs.FiniteLaws.{in_map, map_in, test}
use Rattle.maxplus.proofs.EachLaws.{map_length}
use Rattle.maxplus.proofs.PackingLaws.{rank_more, placed, place_rank, filled_rank, filled_other}
use Rattle.maxplus.proofs.LayoutLaws.{sup_l_map, layout_at, layout_place, unlay, unlay_layout}
use Rattle.cue.specs.Cue.{timing}
use Rattle.cue.specs.Method.{mark, lines}
use Rattle.cue.specs.Results.{Within, Signed32, Fitting}
use Rattle.cue.proofs.Bounds.{results_six, results_32}
use Rattle.cue.proofs.Cone.{mark_cone}
use Rattle.cue.proofs.Extreme.{lines_meet}
use Rattle.sheet.specs.Sheet.{Sheet, limit, spare}
use Rattle.sheet.specs.Sizes.{order_limit, line_down}
use Rattle.sheet.specs.Meaning.{Timing, Weighed}
use Rattle.sheet.specs.Cue.{used, cue_size, trigger_at, cue_of, Orderly, sheet_lines}
use Rattle.sheet.specs.Good.{Good}
use Rattle.sheet.proofs.WithinLaws.{within_absent}
use Rattle.sheet.proofs.Idle.{used_not_spare}
use Rattle.sheet.proofs.Spares.{spare_unused}
use Rattle.sheet.proofs.Seam.{at_used}

-- some line of a list has a component at j
abbrev pub Shown : (n : ℕ) → List (Line n) → ℕ → Type 0
Shown n L j = (l : Line n) × In l L × Present (at n l j)

module _ (t : Sheet) where
  open t use {triggers}

  abbrev cue_lines : List (Line (cue_size t))
  cue_lines = lines (cue_size t) (cue_of t)

  abbrev lay : Line (cue_size t) → Line triggers
  lay = layout (used t) (cue_size t) triggers

  abbrev un : Line triggers → Line (cue_size t)
  un = unlay (used t) triggers triggers

  pub lines_many : length (sheet_lines t) ≡ length cue_lines
  unfolding sheet_lines
  lines_many = map_length lay cue_lines

  -- ---- a line laid out can be taken back, and has its components where the sheet has them
  pub weighed_cue : (X : Timing) → Weighed t (sheet_lines t) X ↔ combination.Weighed (cue_size t) cue_lines (at_used t X)
  unfolding sheet_lines
  weighed_cue X = (
    λ w. record {
      weight = λ c. w.weight (lay c);
      is = λ k hk.
          let p = placed (used t) triggers k hk in
          w.is (trigger_at t k) p.below ((used_not_spare t (trigger_at t k)).0 p.passes).1 ∙
          sup_l_map lay cue_lines (λ l. num (w.weight l) ⊗ at triggers l (trigger_at t k)) ∙
          ap (sup_l cue_lines) (fun_ext (λ c. ap (λ e. num (w.weight (lay c)) ⊗ e) (layout_place (used t) triggers triggers (omega arith) c k hk)));
    },
    λ w. record {
      weight = λ l. w.weight (un l);
      is = λ j hj s.
          let u = (used_not_spare t j).1 (hj, s) in
          ap (λ j. num (X j)) (sym (place_rank (used t) triggers j hj u)) ∙ w.is (rank (used t) j) (rank_more (used t) j triggers hj u) ∙
          ap (sup_l cue_lines) (fun_ext (λ c. ap₂ (λ z e. num z ⊗ e) (ap w.weight (sym (unlay_layout (used t) triggers triggers (omega arith) c)))
          (sym (layout_at (used t) triggers triggers (omega arith) c j hj ∙ filled_rank (used t) (λ j. absent) (at (cue_size t) c) j u)))) ∙
          sym (sup_l_map lay cue_lines (λ l. num (w.weight (un l)) ⊗ at triggers l j));
    },
  )

  -- ---- what the list shows of a trigger
  abbrev Shows : ℕ → Type 0
  Shows j = Shown triggers (sheet_lines t) j

  spare_absent : (l : Line triggers) → In l (sheet_lines t) → (j : ℕ) → j < triggers → T (not (used t j)) → at triggers l j ≡ absent
  unfolding sheet_lines
  spare_absent l h j hj u =
      let (c, hc, e) = map_in lay cue_lines l h in
      ap (λ l. at triggers l j) e ∙ layout_at (used t) triggers triggers (omega arith) c j hj ∙
      filled_other (used t) (λ j. absent) (at (cue_size t) c) j u

  shown_used : (j : ℕ) → j < triggers → Shows j → T (used t j)
  shown_used j hj (l, h, (z, e)) = go (test (used t j))
    where
      go : T (used t j) ⊎ T (not (used t j)) → T (used t j)
      go (inl u) = u
      go (inr u) = absurd (absent_not (sym (spare_absent l h j hj u) ∙ e))

  -- what is so of every component of the cue's lines, and of absent, is so of those of the sheet's
  pub laid_out : (K : E → Type 0) → K absent →
      ((c : Line (cue_size t)) → In c cue_lines → (i : ℕ) → i < cue_size t → K (at (cue_size t) c i)) →
      (l : Line triggers) → In l (sheet_lines t) → (j : ℕ) → j < triggers → K (at triggers l j)
  unfolding sheet_lines
  laid_out K none f l h j hj = let (c, hc, e) = map_in lay cue_lines l h in
      rw (e, layout_at (used t) triggers triggers (omega arith) c j hj) (go c hc (test (used t j)))
    where
      go : (c : Line (cue_size t)) → In c cue_lines → T (used t j) ⊎ T (not (used t j)) → K (filled (used t) (λ j. absent) (at (cue_size t) c) j)
      go c hc (inl u) = rw (filled_rank (used t) (λ j. absent) (at (cue_size t) c) j u)
          (f c hc (rank (used t) j) (rank_more (used t) j triggers hj u))
      go c hc (inr u) = rw (filled_other (used t) (λ j. absent) (at (cue_size t) c) j u) none

  module _ (G : Good t) (o : Orderly t) where
    used_shown : (j : ℕ) → j < triggers → T (used t j) → Shows j
    unfolding sheet_lines
    used_shown j hj u =
        let k = rank (used t) j in
        let hk : k < cue_size t = rank_more (used t) j triggers hj u in
        let (c, hc, (z, e), lc) = lines_meet (cue_size t) (cue_of t) o (timing (mark (cue_size t) (cue_of t)))
        (mark_cone (cue_size t) (cue_of t) G.readable o) k hk (mark (cue_size t) (cue_of t) k, refl) in (
          lay c,
          in_map lay cue_lines c hc,
          (z, ap (at triggers (lay c)) (sym (place_rank (used t) triggers j hj u)) ∙ layout_place (used t) triggers triggers (omega arith) c k hk ∙ e),
        )

    -- exactly the triggers that are not spare stand in some line
    pub shown : (j : ℕ) → j < triggers → Shows j ↔ T (not (spare t j))
    shown j hj = (λ s. ((used_not_spare t j).0 (shown_used j hj s)).1, λ s. used_shown j hj ((used_not_spare t j).1 (hj, s)))

    -- and a spare one is absent from every line
    pub spare_shown : (j : ℕ) → j < triggers → T (spare t j) ↔ ((l : Line triggers) → In l (sheet_lines t) → at triggers l j ≡ absent)
    spare_shown j hj = (
      λ s l h. spare_absent l h j hj (spare_unused t j s),
      λ f. go (test (spare t j)) f,
    )
      where
        go : T (spare t j) ⊎ T (not (spare t j)) → ((l : Line triggers) → In l (sheet_lines t) → at triggers l j ≡ absent) → T (spare t j)
        go (inl s) f = s
        go (inr s) f = let (l, h, (z, e)) = (shown j hj).1 s in absurd (absent_not (sym (f l h) ∙ e))

    -- ---- the components of a listed line fit the words of the lent space
    pub fitting_cue : Fitting (cue_size t) cue_lines
    fitting_cue c h i q = (results_32 (cue_size t) limit order_limit (cue_of t) o G.limited G.few (omega arith)).components c h i q

    pub fitting : Fitting triggers (sheet_lines t)
    fitting = laid_out Signed32 (record { fits = λ z q. absurd (absent_not q) }) fitting_cue

    -- how far from 0 they are
    pub components_within : (l : Line triggers) → In l (sheet_lines t) → (j : ℕ) → j < triggers → Within line_down 0 (at triggers l j)
    components_within = laid_out (Within line_down 0) within_absent
        (results_six (cue_size t) limit order_limit (cue_of t) o G.limited G.few).components
