-- How close a largest is: it is one of its parts, and a part adds up words that are close.
use mathlib.Core.Path.{◌≡◌}
use mathlib.Core.List.{List}
use Prim.Native.Nat.{ℕ, ◌+◌, ◌<◌}
use native.Mathlib.Nat.{le_refl}
use Rattle.maxplus.specs.Entry.{E, ◌⊗◌, inv}
use Rattle.maxplus.specs.Tables.{sup, mv}
use Rattle.words.specs.Words.{entry, Close}
use Rattle.cue.specs.Cue.{overdue, shortfall}
use Rattle.cue.specs.Results.{Within}
use Rattle.cue.proofs.Bounds.{above_⊗, below_⊗, above_inv, below_inv, above_sup, below_sup}
use Rattle.tables.specs.Held.{meant, meant_v, Closely, CloselyV}
use Rattle.tables.proofs.SquareLaws.{close_within, meant_within, meant_v_within}

-- ---- entries from −c to c
within_⊗ : {c d : ℕ} {a b : E} → Within c c a → Within d d b → Within (c + d) (c + d) (a ⊗ b)
within_⊗ {a = a} {b} v w = record { low = above_⊗ a b v.low w.low; high = below_⊗ a b v.high w.high }

within_inv : {c : ℕ} {a : E} → Within c c a → Within c c (inv a)
within_inv {a = a} w = record { low = above_inv a w.high; high = below_inv a w.low }

within_sup : {n c : ℕ} (f : ℕ → E) → ((j : ℕ) → j < n → Within c c (f j)) → Within c c (sup n f)
within_sup {n} f w = record { low = above_sup n f (λ j h. (w j h).low); high = below_sup n f (λ j h. (w j h).high) }

within_dot : {m n c d : ℕ} {t : List (List ℕ)} {x : List ℕ} (i : ℕ) → i < m → Closely m n c t → CloselyV n d x →
    Within (c + d) (c + d) (mv n (meant t) (meant_v x) i)
unfolding mv
within_dot i h k l = within_sup _ (λ j hj. within_⊗ (meant_within k i j h hj) (meant_v_within l j hj))

-- ---- their words
close_as : {c : ℕ} {e : E} (r : ℕ) → entry r ≡ e → Within c c e → Close c r
close_as {c} r h w = close_within c r h (le_refl _) (le_refl _) w

pub close_largest : {n c : ℕ} {x : List ℕ} (r : ℕ) → CloselyV n c x → entry r ≡ sup n (meant_v x) → Close c r
close_largest r k e = close_as r e (within_sup _ (meant_v_within k))

pub close_dot : {m n c d : ℕ} {t : List (List ℕ)} {x : List ℕ} (i r : ℕ) → i < m → Closely m n c t → CloselyV n d x →
    entry r ≡ mv n (meant t) (meant_v x) i → Close (c + d) r
close_dot i r h k l e = close_as r e (within_dot i h k l)

pub close_overdue : {n c d : ℕ} {due x : List ℕ} (r : ℕ) → CloselyV n c due → CloselyV n d x → entry r ≡ overdue n (meant_v due) (meant_v x) →
    Close (d + c) r
unfolding overdue
close_overdue r k l e = close_as r e (within_sup _ (λ j hj. within_⊗ (meant_v_within l j hj) (within_inv (meant_v_within k j hj))))

pub close_shortfall : {m n a b c : ℕ} {t : List (List ℕ)} {floor x : List ℕ} (r : ℕ) → Closely m n a t → CloselyV m b floor → CloselyV n c x →
    entry r ≡ shortfall m n (meant t) (meant_v floor) (meant_v x) → Close (b + (a + c)) r
unfolding shortfall
close_shortfall r k f l e = close_as r e (within_sup _ (λ i hi. within_⊗ (meant_v_within f i hi) (within_inv (within_dot i hi k l))))
