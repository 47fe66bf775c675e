-- Words stored one after the other make the answers.
use mathlib.Core.Path.{◌≡◌, refl, ap, sym, ◌∙◌}
use mathlib.Core.List.{List, [], ◌∷◌, ◌++◌}
use Prim.Native.Nat.{ℕ, zero, suc, ◌+◌, ◌*◌, ◌^◌, ◌<◌}
use native.Mathlib.Omega.{arith}
use native.Mathlib.Numerals.{add-one}
use lib.IntN.{ℤ, pos}
use lib.ListN.{length, length-append, get_or, set}
use lib.Seq.{sets}
use lib.Signed.{mag}
use mir.Syntax.{w64}
use mir.Val.{hbits, to_z, of_z}
use mir.Facts.{to_z-of_z}
use borrow.Author.Tests.{ne_eqb, eq-eqb}
use Rattle.maxplus.specs.Finite.{each}
use Rattle.maxplus.proofs.EachLaws.{length_each}
use Rattle.cue.specs.Sizes.{six}
use Rattle.timing.specs.Times.{component}
use Rattle.keeping.specs.declared.KeptTable.{KeptTable}
use Rattle.planning.specs.declared.CuePlan.{CuePlan}
use Rattle.reaching.specs.declared.Reached.{Reached}
use Rattle.planning.specs.Planning.{unplanned_number, needed}
use Rattle.planning.specs.declared.Extent.{Extent}
use Rattle.planning.specs.declared.Unplanned.{Unplanned}
use Rattle.planning.specs.declared.Unplanned.TheVariants.{Refused, NoRoom}
use Rattle.refusals.specs.Numbers.{number}
use Rattle.refusals.specs.declared.Refusal.{Refusal}
use Rattle.refusals.proofs.NumberLaws.{not_nine}
use Rattle.std.specs.Prelude.{Result, Ok, Err}
use Rattle.hiring.specs.declared.Hired.{Hired}
use Rattle.answer_words.specs.Words.{pairs, plan_words, kept_words, room_words, reach_words, written_words, hire_words}

-- a word comes back as it was
pub back : {z t : ℤ} → mag z < 2 ^ hbits w64 → z ≡ t → to_z w64 (of_z w64 z) ≡ t
back h e = to_z-of_z {w = w64} (record { sfits = h }) ∙ e

pub sets_append : (vs ws l : List ℤ) (i k : ℕ) → i + length vs ≡ k → sets l i (vs ++ ws) ≡ sets (sets l i vs) k ws
sets_append [] ws l i k e = ap (λ k. sets l k ws) (let q : i ≡ k = omega arith in q)
sets_append (v ∷ vs) ws l i k e = sets_append vs ws (set l i v) (suc i) k (omega arith)

pairs_long : (m : ℕ) (bytes counts : List ℕ) → length (pairs m bytes counts) ≡ 2 * m
unfolding pairs each
pairs_long zero b c = refl
pairs_long (suc m) b c = omega (arith, pairs_long m b c, length-append (pairs m b c) (pos (get_or b m 0) ∷ pos (get_or c m 0) ∷ []))

pairs_more : (lent : List ℤ) (m : ℕ) (bytes counts : List ℕ) →
    set (set (sets lent 4 (pairs m bytes counts)) (4 + 2 * m) (pos (get_or bytes m 0))) (5 + 2 * m) (pos (get_or counts m 0)) ≡
    sets lent 4 (pairs (m + 1) bytes counts)
unfolding pairs each
pairs_more lent m b c = rw add-one (let e : 5 + 2 * m ≡ suc (4 + 2 * m) = omega arith in
    rw e (sym (sets_append (pairs m b c) (pos (get_or b m 0) ∷ pos (get_or c m 0) ∷ []) lent 4 (4 + 2 * m) (omega (arith, pairs_long m b c)))))

-- one panel more
pub panel_more : (lent : List ℤ) {l a z : List ℤ} {v w : ℤ} (m : ℕ) (bytes counts : List ℕ) → l ≡ sets lent 4 (pairs m bytes counts) →
    v ≡ pos (get_or bytes m 0) → a ≡ set l (4 + 2 * m) v → w ≡ pos (get_or counts m 0) → z ≡ set a (5 + 2 * m) w →
    z ≡ sets lent 4 (pairs (m + 1) bytes counts)
panel_more lent m bytes counts el ev ea ew ez = ez ∙ rw (ea, ew, el, ev) (pairs_more lent m bytes counts)

-- ---- the count needed and the words of a line
module _ (lent : List ℤ) where
  pub room_stored : {a b : List ℤ} {v u : ℤ} (at wide_at k c w : ℕ) → k ≡ 9 → v ≡ pos c → a ≡ set lent at v → u ≡ pos w →
      b ≡ set a wide_at u → b ≡ room_words at wide_at k c w lent
  unfolding room_words
  room_stored at wide_at k c w h ev ea eu eb = eb ∙ rw (ea, ev, eu, eq-eqb k 9 h) refl

  pub no_room : (at wide_at k c w : ℕ) → ¬ (k ≡ 9) → lent ≡ room_words at wide_at k c w lent
  unfolding room_words
  no_room at wide_at k c w f = rw (ne_eqb k 9 f) refl

module _ (lent : List ℤ) {e : Unplanned} (at wide_at : ℕ) where
  pub needed_stored : {b : List ℤ} {x : Extent} → e ≡ NoRoom x → b ≡ room_words at wide_at 9 x.count x.width lent →
      b ≡ room_words at wide_at (unplanned_number e) (needed e).count (needed e).width lent
  needed_stored is h = rw is h

  pub none_needed : ((x : Extent) → e ≡ NoRoom x → ⊥) →
      lent ≡ room_words at wide_at (unplanned_number e) (needed e).count (needed e).width lent
  none_needed f = go e f
    where
      go : (e : Unplanned) → ((x : Extent) → e ≡ NoRoom x → ⊥) →
          lent ≡ room_words at wide_at (unplanned_number e) (needed e).count (needed e).width lent
      go (Refused r) f = no_room lent at wide_at (number r) 0 0 (not_nine r)
      go (NoRoom x) f = absurd (f x refl)

-- ---- planning's answer
module _ (lent : List ℤ) {r : Result CuePlan Unplanned} where
  pub planned_words : {p : CuePlan} {a b c d e f : List ℤ} {D k l n s w : ℤ} → r ≡ Ok p → D ≡ p.deviation → a ≡ set lent 0 D →
      k ≡ pos p.steps → b ≡ set a 1 k → l ≡ pos p.selections → c ≡ set b 2 l → n ≡ pos p.count → d ≡ set c 3 n →
      s ≡ pos p.spares → e ≡ set d 4 s → w ≡ pos p.width → f ≡ set e 5 w → f ≡ plan_words r lent
  unfolding plan_words
  planned_words is eD ea ek eb el ec en ed es ee ew ef = rw is (ef ∙ rw (ee, ed, ec, eb, ea, eD, ek, el, en, es, ew) refl)

  pub unplanned_words : {e : Unplanned} {d : List ℤ} → r ≡ Err e →
      d ≡ room_words 3 5 (unplanned_number e) (needed e).count (needed e).width lent → d ≡ plan_words r lent
  unfolding plan_words
  unplanned_words is h = rw is h

-- ---- the kept table's
module _ (lent : List ℤ) {r : Result KeptTable Refusal} where
  pub table_words : {t : KeptTable} {a b c d e : List ℤ} {D k l m : ℤ} → r ≡ Ok t → D ≡ t.deviation → a ≡ set lent 0 D →
      k ≡ pos t.steps → b ≡ set a 1 k → l ≡ pos t.selections → c ≡ set b 2 l → m ≡ pos t.panels → d ≡ set c 3 m →
      e ≡ sets d 4 (pairs 6 t.kept t.counts) → e ≡ kept_words r lent
  unfolding kept_words
  table_words is eD ea ek eb el ec em ed ee = rw is (ee ∙ rw (ed, ec, eb, ea, eD, ek, el, em) refl)

  pub no_table : {e : Refusal} → r ≡ Err e → lent ≡ kept_words r lent
  unfolding kept_words
  no_table is = rw is refl

-- ---- reaching's: one component more
pub time_more : (lent at : List ℤ) {l z : List ℤ} {v : ℤ} (j : ℕ) → l ≡ sets lent 1 (each j (λ i. component at i ∷ [])) →
    v ≡ component at j → z ≡ set l (1 + j) v → z ≡ sets lent 1 (each (j + 1) (λ i. component at i ∷ []))
unfolding each
time_more lent at j el ev ez = ez ∙ rw (el, ev, add-one)
    (sym (sets_append (each j (λ i. component at i ∷ [])) (component at j ∷ []) lent 1 (1 + j) (omega (arith, length_each j (component at)))))

module _ (lent : List ℤ) {r : Result Reached Unplanned} where
  pub reached_words : {p : Reached} {a b c : List ℤ} {n w : ℤ} → r ≡ Ok p → n ≡ pos p.count → a ≡ set lent 0 n →
      b ≡ sets a 1 (six (component p.timing.at)) → w ≡ pos p.width → c ≡ set b 7 w → c ≡ reach_words r lent
  unfolding reach_words
  reached_words {p} is en ea eb ew ec = rw is (ec ∙ rw (eb, ea, en, ew)
      (sym (sets_append (six (component p.timing.at)) (pos p.width ∷ []) (set lent 0 (pos p.count)) 1 7
      (omega (arith, length_each 6 (component p.timing.at))))))

  pub unreached_words : {e : Unplanned} {d : List ℤ} → r ≡ Err e →
      d ≡ room_words 0 7 (unplanned_number e) (needed e).count (needed e).width lent → d ≡ reach_words r lent
  unfolding reach_words
  unreached_words is h = rw is h

-- ---- comparing's: how much each list takes
pub extents_stored : (lent : List ℤ) (a b : Extent) {l m n o : List ℤ} {u v w x : ℤ} → u ≡ pos a.count → l ≡ set lent 0 u →
    v ≡ pos b.count → m ≡ set l 1 v → w ≡ pos a.width → n ≡ set m 2 w → x ≡ pos b.width → o ≡ set n 3 x →
    o ≡ written_words a b lent
unfolding written_words
extents_stored lent a b eu el ev em ew en ex eo = eo ∙ rw (en, em, el, eu, ev, ew, ex) refl

-- ---- six times
pub six_listed : (lent : List ℤ) {a b c d e f : ℤ} → a ≡ component lent 0 → b ≡ component lent 1 → c ≡ component lent 2 →
    d ≡ component lent 3 → e ≡ component lent 4 → f ≡ component lent 5 → a ∷ b ∷ c ∷ d ∷ e ∷ f ∷ [] ≡ six (component lent)
unfolding each
six_listed lent ea eb ec ed ee ef = rw (ea, eb, ec, ed, ee, ef) refl

-- ---- the generator's answer
module _ (lent : List ℤ) {r : Result Hired Refusal} where
  pub hired_words : {h : Hired} {a b : List ℤ} {v w : ℤ} → r ≡ Ok h → v ≡ pos h.length → a ≡ set lent 0 v → w ≡ pos h.state →
      b ≡ set a 1 w → b ≡ hire_words r lent
  unfolding hire_words
  hired_words is ev ea ew eb = rw is (eb ∙ rw (ea, ev, ew) refl)

  pub unhired_words : {e : Refusal} → r ≡ Err e → lent ≡ hire_words r lent
  unfolding hire_words
  unhired_words is = rw is refl
