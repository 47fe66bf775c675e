-- A packed set laid out, one trigger more at a time: u is the test for the triggers in use, set the packed set.
use mathlib.Core.Path.{◌≡◌, refl, ap, sym, ◌∙◌}
use mathlib.Core.Bool.{Bool, true, false}
use Prim.Native.Nat.{ℕ, ◌+◌, ◌≤◌, ◌<◌}
use native.Mathlib.Omega.{arith}
use Rattle.maxplus.specs.Finite.{sum, byte_of}
use Rattle.maxplus.specs.Packing.{rank, filled}
use Rattle.maxplus.proofs.PackingLaws.{rank_few, filled_rank, filled_other}
use Rattle.trigger_sets.specs.Sets.{bit}
use Rattle.trigger_sets.proofs.ByteLaws.{byte_ext, bit_at, byte_none, byte_set, byte_clear, shifted, bit_here}
use Rattle.spares.specs.declared.Places.{Places}
use Rattle.spares.specs.Using.{PlacesOf}
use Rattle.spares.proofs.AgreeLaws.{passes, fails, rank_yes, rank_no, filled_same}

module _ (u : ℕ → Bool) (set : ℕ) where
  -- the set with each trigger at its own bit
  abbrev pub laid : ℕ → Bool
  laid = filled u (λ j. false) (bit set)

  -- the triggers below j have been looked at
  pub record Laying (byte k j : ℕ) : Type 0 where
    pub byte_is : byte ≡ byte_of j laid
    pub rank_is : k ≡ rank u j

  pub laying_none : Laying 0 0 0
  laying_none = record { byte_is = byte_none _; rank_is = unfold rank sum in refl }

  module _ {byte k j : ℕ} (f : Laying byte k j) where
    pub laying_few : k ≤ j
    laying_few = let a = rank_few u j in let b = f.rank_is in omega arith

    laid_is : u j ≡ true → laid j ≡ bit set k
    laid_is e = filled_rank u _ (bit set) j (passes e) ∙ ap (bit set) (sym f.rank_is)

    -- one trigger more, by the answers of the tests
    pub laying_in : j < 6 → u j ≡ true → bit set k ≡ true → Laying (byte + shifted j) (k + 1) (j + 1)
    laying_in l e h = record {
      byte_is = byte_set laid j byte (shifted j) f.byte_is (bit_here j l) (laid_is e ∙ h);
      rank_is = rw (rank_yes u j e, f.rank_is);
    }

    pub laying_out : u j ≡ true → bit set k ≡ false → Laying byte (k + 1) (j + 1)
    laying_out e h = record {
      byte_is = byte_clear laid j byte f.byte_is (laid_is e ∙ h);
      rank_is = rw (rank_yes u j e, f.rank_is);
    }

    pub laying_spare : u j ≡ false → Laying byte k (j + 1)
    laying_spare e = record {
      byte_is = byte_clear laid j byte f.byte_is (filled_other u _ _ j (fails e));
      rank_is = f.rank_is ∙ sym (rank_no u j e);
    }

-- all n have been looked at; the triggers in use are the bits of their set
pub laying_all : {s : ℕ → Bool} {n : ℕ} {p : Places} {set byte k j : ℕ} → PlacesOf s n p → j ≡ p.triggers →
    Laying (bit p.used) set byte k j → byte ≡ byte_of n (filled s (λ j. false) (bit set))
laying_all {s} {n} {p} {set} {j = j} h e f =
    f.byte_is ∙ ap (λ m. byte_of m (laid (bit p.used) set)) (e ∙ h.triggers_are) ∙
    byte_ext n _ _ (filled_same (bit p.used) s n agree _ (bit set))
  where
    agree : (i : ℕ) → i < n → bit p.used i ≡ s i
    agree i l = ap (λ b. bit b i) h.used_is ∙ bit_at n s i h.few l
