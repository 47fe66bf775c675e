-- Laws of the minimal list: its members are the lines that no others make, it is in strict order, and two such lists with the same
-- members are equal. A needed line is met, somewhere, by itself alone, and the needed lines generate what all lines generate.
use mathlib.Core.Path.{◌≡◌, refl, ◌∙◌}
use mathlib.Core.Logic.{◌⊎◌, inl, inr, ◌↔◌}
use mathlib.Core.List.{List, [], ◌∷◌}
use Prim.Native.Nat.{ℕ, ◌<◌}
use Rattle.maxplus.specs.Entry.{Present}
use Rattle.maxplus.specs.Finite.{In}
use Rattle.maxplus.specs.Tables.{Vec}
use Rattle.maxplus.specs.Line.{Line, at, lt_l}
use Rattle.maxplus.specs.Normal.{Normal}
use Rattle.maxplus.specs.Sorted.{Sorted}
use Rattle.maxplus.specs.Combination.{Combination}
use Rattle.maxplus.proofs.EntryLaws.{present_dec}
use Rattle.maxplus.proofs.FiniteLaws.{all_or, dec_×}
use Rattle.maxplus.proofs.SortedLaws.{sorted_eq, sift_sorted, sift_in, in_sift}
use Rattle.maxplus.proofs.LineLaws.{strict, same?}
use Rattle.maxplus.proofs.CombinationLaws.{Under, under_dec, under_trans, under_refl, under_anti, Met, span_combination, combination_span}
use Rattle.maxplus.proofs.CombinationLaws.{asked?}
use Rattle.cue.specs.Minimal.{others, needed?, minimal}

module _ (n : ℕ) where
  -- a line of C that is no combination of the others
  abbrev pub Needed : List (Line n) → Line n → Type 0
  Needed C c = In c C × ¬ (Combination n (others n C c) (at n c))

  pub others_in : (C : List (Line n)) (c d : Line n) → In d (others n C c) → In d C × ¬ (d ≡ c)
  unfolding others
  others_in [] c d h = absurd h
  others_in (b ∷ C) c d h = go (others_in C c d) (same? n b c) h
    where
      go : (In d (others n C c) → In d C × ¬ (d ≡ c)) → (k : Dec (b ≡ c)) →
          In d (elim k [ yes e ↦ others n C c | no e ↦ b ∷ others n C c ]) → In d (b ∷ C) × ¬ (d ≡ c)
      go ih (yes e) h = (inr (ih h).0, (ih h).1)
      go ih (no e) (inl r) = (inl r, rw r e)
      go ih (no e) (inr h) = (inr (ih h).0, (ih h).1)

  pub in_others : (C : List (Line n)) (c d : Line n) → In d C → ¬ (d ≡ c) → In d (others n C c)
  unfolding others
  in_others [] c d h f = elim h [ ]
  in_others (b ∷ C) c d h f = go (λ h. in_others C c d h f) (same? n b c) h
    where
      go : (In d C → In d (others n C c)) → (k : Dec (b ≡ c)) → (d ≡ b) ⊎ In d C →
          In d (elim k [ yes e ↦ others n C c | no e ↦ b ∷ others n C c ])
      go ih (yes e) (inl r) = absurd (f (r ∙ e))
      go ih (yes e) (inr h) = ih h
      go ih (no e) (inl r) = inl r
      go ih (no e) (inr h) = inr (ih h)

  -- ---- the list
  pub in_minimal : (C : List (Line n)) (c : Line n) → In c (minimal n C) ↔ Needed C c
  unfolding minimal
  in_minimal C c = (
    λ h. sift_in (lt_l n) (strict n) (needed? n C) C c h,
    λ h. in_sift (lt_l n) (strict n) (needed? n C) C c h.0 h.1,
  )

  abbrev pub Increasing : List (Line n) → Type 0
  Increasing L = Sorted (lt_l n) (strict n) L

  pub minimal_increasing : (C : List (Line n)) → Increasing (minimal n C)
  unfolding minimal
  minimal_increasing C = sift_sorted (lt_l n) (strict n) (needed? n C) C

  pub increasing_equal : (L M : List (Line n)) → Increasing L → Increasing M → ((c : Line n) → In c L ↔ In c M) → L ≡ M
  increasing_equal L M s t e = sorted_eq (lt_l n) (strict n) L M s t (λ c h. (e c).0 h) (λ c h. (e c).1 h)

  -- ---- a needed line is met, somewhere, by itself alone
  pub needed_alone : (C : List (Line n)) (c : Line n) → Needed C c →
      (j : ℕ) × (j < n) × Present (at n c j) × ((d : Line n) → In d C → Present (at n d j) → Under n j d (at n c) → d ≡ c)
  needed_alone C c (hc, ns) = go (all_or (λ j. Present (at n c j) → Met n (others n C c) (at n c) j) (asked? n (others n C c) (at n c)) n)
    where
      go : ((j : ℕ) → j < n → Present (at n c j) → Met n (others n C c) (at n c) j) ⊎
          ((j : ℕ) × (j < n) × ¬ (Present (at n c j) → Met n (others n C c) (at n c) j)) →
          (j : ℕ) × (j < n) × Present (at n c j) × ((d : Line n) → In d C → Present (at n d j) → Under n j d (at n c) → d ≡ c)
      go (inl f) = absurd (ns (span_combination n (others n C c) (at n c) f))
      go (inr (j, hj, nq)) = (
        j,
        hj,
        elim (present_dec (at n c j)) [ yes p ↦ p | no p ↦ absurd (nq (λ p'. absurd (p p'))) ],
        λ d hd pd ld. elim (same? n d c) [ yes e ↦ e | no e ↦ absurd (nq (λ p. (d, in_others C c d hd e, pd, ld))) ],
      )

  pub alone_needed : (C : List (Line n)) (c : Line n) (j : ℕ) → j < n → In c C → Present (at n c j) →
      ((d : Line n) → In d C → Present (at n d j) → Under n j d (at n c) → d ≡ c) → Needed C c
  alone_needed C c j hj h p f = (
    h,
    λ k. let (d, hd, pd, ld) = combination_span n (others n C c) (at n c) k j hj p in
        let o = others_in C c d hd in o.1 (f d o.0 pd ld),
  )

  -- ---- below each line of a list there is a least one, seen from j
  abbrev Least : ℕ → List (Line n) → Line n → Type 0
  Least j C c = (d : Line n) → In d C → Present (at n d j) → Under n j d (at n c) → Under n j c (at n d)

  abbrev Found : ℕ → List (Line n) → Line n → Type 0
  Found j l c = (m : Line n) × ((m ≡ c) ⊎ In m l) × Present (at n m j) × Under n j m (at n c) × Least j l m

  least_under : (j : ℕ) (l : List (Line n)) (c : Line n) → Present (at n c j) → Found j l c
  least_under j [] c p = (c, inl refl, p, under_refl n j c, λ d h. absurd h)
  least_under j (d ∷ l) c p = go (λ c p. least_under j l c p) (dec_× (present_dec (at n d j)) (under_dec n j d (at n c)))
    where
      go : ((c : Line n) → Present (at n c j) → Found j l c) → Dec (Present (at n d j) × Under n j d (at n c)) → Found j (d ∷ l) c
      go ih (yes t) =
          let (m, h, pm, lm, f) = ih d t.0 in (
            m,
            elim h [ inl e ↦ inr (inl e) | inr e ↦ inr (inr e) ],
            pm,
            under_trans n j m d (at n c) t.0 lm t.1,
            λ e he pe le. elim he [ inl r ↦ rw r lm | inr r ↦ f e r pe le ],
          )
      go ih (no t) =
          let (m, h, pm, lm, f) = ih c p in (
            m,
            elim h [ inl e ↦ inl e | inr e ↦ inr (inr e) ],
            pm,
            lm,
            λ e he pe le. elim he [ inl r ↦ absurd (t (rw r at pe, under_trans n j d m (at n c) pm (rw r at le) lm)) | inr r ↦ f e r pe le ],
          )

  -- so the needed lines generate what all lines generate
  pub needed_meet : (C : List (Line n)) → ((c : Line n) → In c C → Normal n c) → (x : Vec) (j : ℕ) → j < n → Met n C x j →
      (c : Line n) × Needed C c × Present (at n c j) × Under n j c x
  needed_meet C nm x j hj (c, hc, pc, lc) =
      let (m, h, pm, lm, f) = least_under j C c pc in
      let hm : In m C = elim h [ inl e ↦ rw e hc | inr e ↦ e ] in (
        m,
        alone_needed C m j hj hm pm (λ d hd pd ld. under_anti n j d m (nm d hd) (nm m hm) pd ld (f d hd pd ld)),
        pm,
        under_trans n j m c x pc lm lc,
      )
