-- Sums, differences and largest values of entries within limits.
use mathlib.Core.Logic.{inl, inr}
use Prim.Native.Nat.{ℕ, ◌+◌, ◌≤◌, ◌<◌}
use Rattle.maxplus.specs.Entry.{E, absent, ◌⊗◌, ◌⊕◌, inv}
use Rattle.maxplus.specs.Tables.{sup}
use Rattle.maxplus.proofs.EntryLaws.{⊕_or, absent_not}
use Rattle.cue.specs.Results.{Within}
use Rattle.cue.proofs.Bounds.{above_more, below_more, above_⊗, below_⊗, above_inv, below_inv, above_sup, below_sup}

pub within_absent : {k l : ℕ} → Within k l absent
within_absent = record { low = record { above = λ z e. absurd (absent_not e) }; high = record { below = λ z e. absurd (absent_not e) } }

pub within_more : {k l : ℕ} {a : E} → k ≤ l → Within k k a → Within l l a
within_more h i = record { low = above_more h i.low; high = below_more h i.high }

pub within_⊗ : {k l : ℕ} {a b : E} → Within k k a → Within l l b → Within (k + l) (k + l) (a ⊗ b)
within_⊗ h i = record { low = above_⊗ _ _ h.low i.low; high = below_⊗ _ _ h.high i.high }

pub within_inv : {k : ℕ} {a : E} → Within k k a → Within k k (inv a)
within_inv h = record { low = above_inv _ h.high; high = below_inv _ h.low }

pub within_⊕ : {k : ℕ} (a b : E) → Within k k a → Within k k b → Within k k (a ⊕ b)
within_⊕ a b h i = elim (⊕_or a b) [ inl e ↦ rw e h | inr e ↦ rw e i ]

pub within_sup : (n : ℕ) {k : ℕ} (f : ℕ → E) → ((j : ℕ) → j < n → Within k k (f j)) → Within k k (sup n f)
within_sup n f h = record { low = above_sup n f (λ j q. (h j q).low); high = below_sup n f (λ j q. (h j q).high) }
