-- The sets of the test for extreme are the closures of cue's law, and what they have in common decides.
use mathlib.Core.Path.{◌≡◌, refl, ap, ap₂, sym, ◌∙◌, subst}
use mathlib.Core.Logic.{inl, inr, ◌↔◌}
use mathlib.Core.Bool.{Bool, true, false, not}
use mathlib.Core.List.{List}
use Prim.Native.Nat.{ℕ, ◌<◌}
use native.Mathlib.Omega.{arith}
use lib.Bits.{bit_and}
use lib.Dec.{eqb}
use lib.IntN.{ℤ}
use lib.ListN.{get_or}
use borrow.Author.Tests.{eqb-true, eqb-false}
use Rattle.maxplus.specs.Whole.{◌+z◌, neg}
use Rattle.maxplus.specs.Entry.{E, num, ◌⊗◌, inv, Present}
use Rattle.maxplus.specs.Tables.{sup, Vec, mv}
use Rattle.maxplus.specs.Line.{at}
use Rattle.maxplus.proofs.EntryLaws.{≼_back, ⊗_nums, num_⊗, inv_num, present_dec, same_entry?}
use Rattle.maxplus.proofs.FiniteLaws.{dec_×, some_dec}
use Rattle.maxplus.proofs.SupLaws.{sup_ext}
use Rattle.words.specs.Words.{entry}
use Rattle.words.specs.declared.LineWords.{LineWords}
use Rattle.words.proofs.Laws.{entry_inj}
use Rattle.cue.specs.Cue.{Cue, timing, overdue}
use Rattle.cue.specs.Vectors.{landing}
use Rattle.cue.specs.Method.{least, ask}
use Rattle.cue.proofs.Deviation.{overdue_there}
use Rattle.cue.specs.Closures as cue
use Rattle.cue.specs.Closures.{Foremost, Fires, Closure, Common}
use Rattle.tables.specs.Held.{meant, meant_v, HoldsV, Says}
use Rattle.candidates.specs.declared.Marks.{Marks}
use Rattle.trigger_sets.specs.Sets.{Has, SetOf}
use Rattle.tables.specs.Lines.{line_of}
use Rattle.candidates.specs.Rays.{HeldSets, Tight, TightSets, Inside, Closed}
use Rattle.candidates.specs.Drawable.{Drawable}
use Rattle.trigger_sets.proofs.SetLaws.{set_inside, set_some, set_empty, never_inside}
use Rattle.tables.proofs.LineLaws.{line_at}

asked : (a : E) (z : ℤ) → Present (a ⊗ num z) ↔ Present a
asked a z = (
  λ p. let (x, y, e, f, l) = ⊗_nums a (num z) (≼_back p.1) in (x, e),
  λ p. (p.0 +z z, ap (λ e. e ⊗ num z) p.1 ∙ num_⊗ p.0 z),
)

module _ (n : ℕ) (P : Cue) (M : Marks) (stars lags needs : List (List ℕ)) (p : Drawable n P M stars lags needs) (w : List ℕ) where
  open P use {panels, lag, floor, due, order}

  abbrev D : ℤ
  D = least n P

  abbrev x : Vec
  x = at n (line_of n w)

  -- ---- A(k)
  module _ (held : List ℕ) (hh : HeldSets n (meant stars) (meant_v w) held) where
    held_is : (k j : ℕ) → k < n → j < 6 → Has (get_or held k 0) j ↔ (Present (x k) × ((j < n) × cue.HeldBy n P D x k j))
    held_is k j hk h = (
      λ t. let (q, (hj, e)) = ((hh.at k hk).has j h).0 t in
          (rw l q, (hj, ap₂ ◌⊗◌ (sym (p.starred.at k j hk hj)) (line_at n w j hj) ∙ e ∙ sym l)),
      λ t. let (q, (hj, e)) = t in
          ((hh.at k hk).has j h).1 (rw l at q, (hj, ap₂ ◌⊗◌ (p.starred.at k j hk hj) (sym (line_at n w j hj)) ∙ e ∙ l)),
    )
      where
        l : x k ≡ meant_v w k
        l = line_at n w k hk

    -- ---- the largest lateness, and A(R)
    module _ (late : List ℕ) (most : ℕ) (hl : HoldsV n (λ j. meant_v w j ⊗ inv (meant_v M.due j)) late) (hm : entry most ≡ sup n (meant_v late)) where
      late_is : (j : ℕ) → j < n → meant_v late j ≡ x j ⊗ num (neg (due j))
      late_is j h = hl.at j h ∙ ap₂ ◌⊗◌ (sym (line_at n w j h)) (ap inv (p.due.at j h) ∙ inv_num (due j))

      most_is : entry most ≡ overdue n (timing due) x
      unfolding overdue inv
      most_is = hm ∙ sup_ext n late_is

      foremost_is : (l : ℕ) → l < n → (get_or late l 0 ≡ most) ↔ Foremost n P D x l
      unfolding meant_v
      foremost_is l h = (λ e. sym (late_is l h) ∙ ap entry e ∙ most_is, λ e. entry_inj (late_is l h ∙ e ∙ sym most_is))

      -- where some component is there, there is a lateness, and the foremost triggers are there
      most_there : (k : ℕ) → k < n → Present (x k) → Present (entry most)
      most_there k hk q = (_, most_is ∙ overdue_there n due x k hk q)

      foremost_there : (k l : ℕ) → k < n → Present (x k) → Foremost n P D x l → Present (x l)
      foremost_there k l hk q e = (asked (x l) (neg (due l))).0 (_, e ∙ overdue_there n due x k hk q)

      -- ---- tight panels
      module _ (tight : List ℕ) (ht : TightSets M.panels n (meant lags) (meant_v M.asks) (meant_v w) (entry most) tight) where
        times : ℕ → Vec
        times i j = meant lags i j ⊗ meant_v w j

        time_is : (i j : ℕ) → i < panels → j < n → times i j ≡ lag i j ⊗ x j
        unfolding times
        time_is i j hi hj = ap₂ ◌⊗◌ (p.lagged.at i j hi hj) (sym (line_at n w j hj))

        landing_is : (i : ℕ) → i < panels → sup n (times i) ≡ landing n P x i
        unfolding mv
        landing_is i hi = sup_ext n (λ j hj. time_is i j hi hj)

        tight_is : (i : ℕ) → i < panels →
            Tight n (times i) (meant_v M.asks i) (entry most) ↔ (Present (floor i) × (ask n P D i ⊗ overdue n (timing due) x ≡ landing n P x i))
        tight_is i hi = (
          λ t. ((asked (floor i) (neg D)).0 (rw a at t.0), ap₂ ◌⊗◌ (sym a) (sym most_is) ∙ t.1 ∙ landing_is i hi),
          λ t. (rw a ((asked (floor i) (neg D)).1 t.0), ap₂ ◌⊗◌ a most_is ∙ t.1 ∙ sym (landing_is i hi)),
        )
          where
            a : meant_v M.asks i ≡ ask n P D i
            a = p.asked.at i hi

        fires_is : (k : ℕ) → k < n → Present (x k) → Inside tight M.panels (get_or held k 0) ↔ ((i : ℕ) × (i < panels) × Fires n P D x k i)
        unfolding times
        fires_is k hk here = (
          λ t. let (i, hi, e) = t in (i, omega (arith, p.panels), to i hi e (dec_× (present_dec _) (same_entry? _ _))),
          λ t. let (i, hi, (q, (e, f))) = t in (i, omega (arith, p.panels), from i hi q e f),
        )
          where
            to : (i : ℕ) → i < M.panels → bit_and (get_or tight i 0) (get_or held k 0) ≡ get_or tight i 0 →
                Dec (Tight n (times i) (meant_v M.asks i) (entry most)) → Fires n P D x k i
            to i hi e (no t) = absurd (never_inside (get_or held k 0) (hh.at k hk).small (rw ((ht.at i hi).never t) at e))
            to i hi e (yes t) = let h : i < panels = omega (arith, p.panels) in let u = (tight_is i h).0 t in (
              u.0,
              (
                u.1,
                λ j hj q. let h6 : j < 6 = omega (arith, p.few) in
                    ((held_is k j hk h6).0 (((hh.at k hk).has j h6).1
                    ((set_inside ((ht.at i hi).tight (most_there k hk here) t) (hh.at k hk)).0 e j h6
                    (hj, time_is i j h hj ∙ q ∙ sym (landing_is i h))))).1.1,
              ),
            )

            from : (i : ℕ) → i < panels → Present (floor i) → ask n P D i ⊗ overdue n (timing due) x ≡ landing n P x i →
                ((j : ℕ) → j < n → lag i j ⊗ x j ≡ landing n P x i → cue.HeldBy n P D x k j) →
                bit_and (get_or tight i 0) (get_or held k 0) ≡ get_or tight i 0
            from i hi q e f = (set_inside ((ht.at i (omega (arith, p.panels))).tight (most_there k hk here) ((tight_is i hi).1 (q, e))) (hh.at k hk)).1
                (λ j h6 u. ((hh.at k hk).has j h6).0 ((held_is k j hk h6).1
                (here, (u.0, f j u.0 (sym (time_is i j hi u.0) ∙ u.1 ∙ landing_is i hi)))))

        -- ---- closures, and what they have in common
        module _ (front : ℕ) (hf : SetOf (λ j. (l : ℕ) × (l < n) × ((get_or late l 0 ≡ most) × Has (get_or held l 0) j)) front) where
          closed_is : (k j : ℕ) → k < n → j < 6 → Present (x k) →
              Closed tight M.panels front (get_or held k 0) j ↔ ((j < n) × Closure n P D x k j)
          closed_is k j hk h6 here = (to, from)
            where
              to : Closed tight M.panels front (get_or held k 0) j → (j < n) × Closure n P D x k j
              to (inl t) = let u = ((held_is k j hk h6).0 t).1 in (u.0, inl u.1)
              to (inr t) = let (l, hl, (e, q)) = (hf.has j h6).0 t.1 in let u = ((held_is l j hl h6).0 q).1 in
                  (u.0, inr ((fires_is k hk here).0 t.0, (l, hl, ((foremost_is l hl).0 e, u.1))))

              from : (j < n) × Closure n P D x k j → Closed tight M.panels front (get_or held k 0) j
              from (hj, inl t) = inl ((held_is k j hk h6).1 (here, (hj, t)))
              from (hj, inr (t, (l, hl, (e, q)))) = inr (
                (fires_is k hk here).1 t,
                (hf.has j h6).1 (l, hl, ((foremost_is l hl).1 e, (held_is l j hl h6).1 (foremost_there k l hk here e, (hj, q)))),
              )

          module _ (all : ℕ)
              (ha : SetOf (λ j. (k : ℕ) → k < n → Present (meant_v w k) → Closed tight M.panels front (get_or held k 0) j) all) where
            common_to : ¬ (all ≡ 0) → Common n P D (line_of n w)
            common_to h = let (j, h6, f) = set_some ha h in go j h6 f (some_dec (λ k. Present (x k)) (λ k. present_dec (x k)) n)
              where
                go : (j : ℕ) → j < 6 → ((k : ℕ) → k < n → Present (meant_v w k) → Closed tight M.panels front (get_or held k 0) j) →
                    Dec ((k : ℕ) × (k < n) × Present (x k)) → Common n P D (line_of n w)
                go j h6 f (yes (k, hk, q)) = (
                  j,
                  ((closed_is k j hk h6 q).0 (f k hk (rw (line_at n w k hk) at q))).0,
                  λ k hk q. ((closed_is k j hk h6 q).0 (f k hk (rw (line_at n w k hk) at q))).1,
                )
                go j h6 f (no t) = (0, p.some, λ k hk q. absurd (t (k, hk, q)))

            common_from : all ≡ 0 → ¬ (Common n P D (line_of n w))
            common_from e (j, hj, f) = let h6 : j < 6 = omega (arith, p.few) in
                set_empty ha e j h6 (λ k hk q. let here : Present (x k) = rw (line_at n w k hk) q in (closed_is k j hk h6 here).1 (hj, f k hk here))

            pub extreme_says : Says (Common n P D (line_of n w)) (not (eqb all 0))
            extreme_says = go (eqb all 0) (eqb-true all 0) (eqb-false all 0)
              where
                go : (b : Bool) → (b ≡ true → all ≡ 0) → (b ≡ false → ¬ (all ≡ 0)) → Says (Common n P D (line_of n w)) (not b)
                go true f g = common_from (f refl)
                go false f g = common_to (g refl)

-- the line's count is the marks', which tell n
pub extreme_own : {n : ℕ} {P : Cue} {M : Marks} {stars lags needs : List (List ℕ)} (l : LineWords) (r : Bool) → l.count ≡ M.triggers →
    (Drawable l.count P M stars lags needs → Says (Common l.count P (least l.count P) (line_of l.count l.at)) r) →
    Drawable n P M stars lags needs → Says (Common n P (least n P) (line_of n l.at)) r
extreme_own {n} {P} {M} {stars} {lags} {needs} l r e f p =
    subst (λ n. Drawable n P M stars lags needs → Says (Common n P (least n P) (line_of n l.at)) r) (e ∙ p.triggers) f p
