-- What is shown of rule 2 (specs/Spread): the spread lies between two landings, and the marks of rule 2 measure it.
use mathlib.Core.Path.{◌≡◌, ap, sym, subst, ◌∙◌}
use Prim.Native.Nat.{ℕ, ◌<◌}
use native.Mathlib.Omega.{arith}
use lib.IntN.{pos}
use Rattle.maxplus.specs.Whole.{◌≤z◌, neg}
use Rattle.maxplus.specs.Entry.{E, absent, num, ◌≼◌, ◌⊗◌, inv, unit, Present, val}
use Rattle.maxplus.specs.Tables.{sup, Vec, mv}
use Rattle.maxplus.proofs.WholeLaws.{up_neg}
use Rattle.maxplus.proofs.EntryLaws.{◌▸◌, ≼_anti, ≼_of, ≼_back, ⊗_right, ⊗_comm, absent_not, val_of, inv_inv, inv_self}
use Rattle.maxplus.proofs.SupLaws.{sup_ub, sup_at}
use Rattle.sheet.specs.Sheet.{Sheet, by_spread}
use Rattle.sheet.specs.Meaning.{Timing, landing, latest_landing, earliest_landing, spread, deviation, deviation_by}
use Rattle.sheet.specs.Cue.{cue_size, trigger_at, Orderly, sheet_least}
use Rattle.sheet.specs.Good.{Good, Measured}
use Rattle.sheet.specs.Spread.{Bounds, ByRule2, Rule2}
use Rattle.sheet.proofs.Good.{read_good}
use Rattle.sheet.proofs.Seam.{landing_cue, spread_marks}
use Rattle.sheet.proofs.Demands.{deviation_reached}

-- of numbers the signs turn the order round
turned : (a b : E) → Present a → a ≼ b → inv b ≼ inv a
unfolding inv
turned absent b (z, e) h = absurd (absent_not e)
turned (num a) absent p h = absurd h.un
turned (num a) (num b) p h = record { un = let q = h.un in omega (arith, up_neg a, up_neg b) }

-- ---- the largest of some numbers is one of them
largest_is : (n : ℕ) (f : Vec) → ((i : ℕ) → i < n → Present (f i)) → (first : ℕ) → first < n → (i : ℕ) × (i < n) × (f i ≡ sup n f)
largest_is n f there first h =
    let (z, e) = there first h in
    let is = val_of (sup n f) (≼_back e ▸ sup_ub n f first h) in
    let (i, k, p) = sup_at n f (≼_back is) in
    (i, k, ≼_anti (sup_ub n f i k) (≼_of is ▸ p))

module _ (t : Sheet) (G : Good t) (X : Timing) where
  -- each panel has a lag, so that it lands
  lands : (i : ℕ) → i < t.panels → Present (landing t X i)
  unfolding mv ◌⊗◌
  lands i h =
      let (k, q, (z, e)) = G.readable.lagged i h in
      let at = sup_ub (cue_size t) (λ k. t.lag i (trigger_at t k) ⊗ num (X (trigger_at t k))) k q in
      let is = val_of (landing t X i) (≼_back (ap (λ a. a ⊗ num (X (trigger_at t k))) e) ▸ at ▸ ≼_back (landing_cue t X i h)) in
      (val (landing t X i), is)

  abbrev turned_landing : Vec
  turned_landing i = inv (landing t X i)

  bounds : Bounds t X
  unfolding latest_landing earliest_landing inv
  bounds =
      let (first, h, _) = G.readable.floored in
      let (i, q, e) = largest_is t.panels turned_landing (λ i k. let (z, e) = lands i k in (neg z, ap inv e)) first h in
      record {
        latest = largest_is t.panels (landing t X) lands first h;
        none_later = sup_ub t.panels (landing t X);
        earliest = (i, q, sym (inv_inv (landing t X i)) ∙ ap inv e);
        none_earlier = λ j k. turned (turned_landing j) (sup t.panels turned_landing) (let (z, e) = lands j k in (neg z, ap inv e))
            (sup_ub t.panels turned_landing j k) ▸ ≼_of (inv_inv (landing t X j));
      }

  -- the latest landing is no earlier than the earliest
  spread_more : unit ≼ spread t X
  unfolding spread
  spread_more =
      let (i, h, e) = bounds.earliest in
      let (z, f) = lands i h in
      let is : earliest_landing t X ≡ num z = sym e ∙ f in
      ≼_back (ap (λ a. inv a ⊗ a) is ∙ inv_self z) ▸
      ⊗_right (inv (earliest_landing t X)) (≼_back e ▸ bounds.none_later i h) ▸ ≼_of (⊗_comm _ _)

  by_rule_2 : t.measure ≡ by_spread → ByRule2 t X
  unfolding deviation
  by_rule_2 e =
      record {
        bounds = bounds;
        measured = ap (λ M. deviation_by t M X) e;
        as_marks = spread_marks t (subst (Measured t) e G.measured) X;
        not_negative = spread_more ▸ ≼_back (ap (λ M. deviation_by t M X) e);
      }

pub rule_2 : Rule2
rule_2 s t r e m X = by_rule_2 t (read_good s t r e) X m

-- so the least deviation is not below 0
pub least_not_negative : (t : Sheet) (G : Good t) → Orderly t → t.measure ≡ by_spread → pos 0 ≤z sheet_least t
least_not_negative t G o e =
    let (X, k, d) = deviation_reached t G o in
    ((by_rule_2 t G X e).not_negative ▸ ≼_of d).un
