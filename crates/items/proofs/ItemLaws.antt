-- Laws of numerals and items at a place of the bytes.
use mathlib.Core.Path.{◌≡◌, refl, ap, sym, ◌∙◌}
use mathlib.Core.List.{List, [], ◌∷◌}
use Rattle.std.proofs.Common.{Option, Some, None}
use mathlib.Core.Bool.{Bool, true, false, cond, ◌&&◌}
use Prim.Native.Nat.{ℕ, zero, suc, ◌+◌, ◌-◌, ◌*◌, ◌≤◌, ◌<◌, min}
use native.Mathlib.Numerals.{add-one}
use native.Mathlib.Omega.{arith}
use borrow.Author.Tests.{leb-true, eq-eqb, ne_eqb}
use lib.Dec.{leb}
use lib.IntN.{pos}
use lib.ListN.{length, drop, get_or, drop_of_length-le}
use lib.Seq.{drop-cons}
use Rattle.maxplus.specs.Whole.{neg}
use Rattle.maxplus.specs.Entry.{absent, num}
use Rattle.words.specs.Words.{word}
use Rattle.sheet.specs.Sheet.{got, refused, digit, leading, value, behind, signed, item, ending, ended, literal}
use Rattle.sheet.specs.Text.{bytes}
use Rattle.items.specs.Inner.{clip, NumeralAt, ItemIs}
use Rattle.items.specs.declared.Numeral.{Numeral}
use Rattle.items.specs.declared.Item.{Item}

-- the tests of a byte
both_true : (t u : Bool) → t && u ≡ true → (t ≡ true) × (u ≡ true)
both_true true u e = (refl, e)
both_true false u e = (e, cc)

pub range_bounds : (a b : ℕ) → leb a b && leb b 57 ≡ true → (a ≤ b) × (b ≤ 57)
range_bounds a b e =
    let p = both_true (leb a b) (leb b 57) e in
    (leb-true a b p.0, leb-true b 57 p.1)

module _ (most : ℕ) where
  cond_capped : (t : Bool) (a b x y : ℕ) → min a (suc most) ≡ min b (suc most) → min x (suc most) ≡ min y (suc most)
      → min (cond t a x) (suc most) ≡ min (cond t b y) (suc most)
  cond_capped true a b x y p q = p
  cond_capped false a b x y p q = q

  -- values that are the same capped stay so however many digits follow
  value_capped : (x y : ℕ) (s : List ℕ) → min x (suc most) ≡ min y (suc most) → min (value x s) (suc most) ≡ min (value y s) (suc most)
  unfolding value
  value_capped x y [] h = h
  value_capped x y (b ∷ s) h = cond_capped (digit b) _ _ _ _ (value_capped (x * 10 + (b - 48)) (y * 10 + (b - 48)) s (omega arith)) h

-- part of a numeral is read: what is left from `at` on, read on from v, gives what the whole gives
pub record ReadTo (most : ℕ) (s : List ℕ) (from first at v : ℕ) : Type 0 where
  pub within : at ≤ length s
  pub small : v ≤ suc most
  pub value_on : min (value v (drop at s)) (suc most) ≡ min (value first (drop from s)) (suc most)
  pub behind_on : behind (drop at s) ≡ behind (drop from s)

-- no digit stands at the front
pub record Stop (s : List ℕ) : Type 0 where
  pub value_stays : (v : ℕ) → value v s ≡ v
  pub none_passed : behind s ≡ s

stop_nil : Stop []
unfolding value behind
stop_nil = record { value_stays = λ v. refl; none_passed = refl }

stop_cons : (b : ℕ) (s : List ℕ) → digit b ≡ false → Stop (b ∷ s)
unfolding value behind
stop_cons b s e = record { value_stays = λ v. rw e; none_passed = rw e }

module _ (s : List ℕ) (at : ℕ) where
  pub stop_end : length s ≤ at → Stop (drop at s)
  stop_end h = rw (drop_of_length-le s h) stop_nil

  module _ (h : at < length s) where
    pub stop_other : digit (get_or s at 0) ≡ false → Stop (drop at s)
    stop_other e = rw (drop-cons s at 0 h) (stop_cons _ _ e)

    value_digit : (v : ℕ) → digit (get_or s at 0) ≡ true → value v (drop at s) ≡ value (v * 10 + (get_or s at 0 - 48)) (drop (at + 1) s)
    unfolding value
    value_digit v e = rw (add-one, drop-cons s at 0 h, e)

    behind_digit : digit (get_or s at 0) ≡ true → behind (drop at s) ≡ behind (drop (at + 1) s)
    unfolding behind
    behind_digit e = rw (add-one, drop-cons s at 0 h, e)

module _ {most : ℕ} {s : List ℕ} {from first : ℕ} where
  module _ {at v : ℕ} (r : ReadTo most s from first at v) where
    pub read_digit : (w : ℕ) → at < length s → digit (get_or s at 0) ≡ true → w ≡ min (v * 10 + (get_or s at 0 - 48)) (suc most)
        → ReadTo most s from first (at + 1) w
    read_digit w h d e =
        record {
          within = omega arith;
          small = omega arith;
          value_on =
              value_capped most w (v * 10 + (get_or s at 0 - 48)) (drop (at + 1) s) (omega arith)
              ∙ ap (λ n. min n (suc most)) (sym (value_digit s at h v d))
              ∙ r.value_on;
          behind_on = sym (behind_digit s at h d) ∙ r.behind_on;
        }

    pub read_whole : Stop (drop at s) → NumeralAt most s from first (record { value = v; next = at })
    read_whole t =
        let small = r.small in
        let e : v ≡ min v (suc most) = omega arith in
        record {
          value_is = e ∙ ap (λ n. min n (suc most)) (sym (t.value_stays v)) ∙ r.value_on;
          within = r.within;
          rest = sym t.none_passed ∙ r.behind_on;
        }

-- items
abbrev pub stands : ℕ → ℕ → Option Item
stands w next = Some (record { word = w; next = next })

clip_neg : (most n : ℕ) → clip most (num (neg (pos n))) ≡ num (neg (pos (min n (suc most))))
unfolding neg
clip_neg most zero = let e : min 0 (suc most) ≡ 0 = omega arith in rw e
clip_neg most (suc n) =
    let e : min (suc n) (suc most) ≡ suc (min n most) = omega arith in
    rw e

module _ (s : List ℕ) (at : ℕ) where
  pub item_end : length s ≤ at → item (drop at s) ≡ refused 2
  unfolding item
  item_end h = rw (drop_of_length-le s h)

  signed_nil : length s ≤ at → signed (drop at s) ≡ got absent (drop at s)
  unfolding signed
  signed_nil h = rw (drop_of_length-le s h)

  lone_minus : (most : ℕ) → at ≤ length s → signed (drop at s) ≡ got absent (drop at s) → ItemIs most signed s at (stands 0 at)
  unfolding word
  lone_minus most h e = (absent, e, refl, h)

  pub signed_end : (most : ℕ) → at ≤ length s → length s ≤ at → ItemIs most signed s at (stands 0 at)
  signed_end most k h = lone_minus most k (signed_nil h)

  module _ (h : at < length s) where
    signed_leading : leading (get_or s at 0) ≡ true
        → signed (drop at s) ≡ got (num (neg (pos (value (get_or s at 0 - 48) (drop (at + 1) s))))) (behind (drop (at + 1) s))
    unfolding signed
    signed_leading e = rw (add-one, drop-cons s at 0 h, e)

    signed_none : leading (get_or s at 0) ≡ false → signed (drop at s) ≡ got absent (drop at s)
    unfolding signed
    signed_none e = rw (drop-cons s at 0 h, e)

    pub signed_other : (most : ℕ) → leading (get_or s at 0) ≡ false → ItemIs most signed s at (stands 0 at)
    signed_other most e = lone_minus most (omega arith) (signed_none e)

    pub signed_numeral : {most : ℕ} {m : Numeral} (w : ℕ) → leading (get_or s at 0) ≡ true → NumeralAt most s (at + 1) (get_or s at 0 - 48) m
        → w ≡ word (num (neg (pos m.value))) → ItemIs most signed s at (stands w m.next)
    signed_numeral {most} w e r q =
        let v = value (get_or s at 0 - 48) (drop (at + 1) s) in
        let clipped = ap (λ n. num (neg (pos n))) r.value_is ∙ sym (clip_neg most v) in
        (num (neg (pos v)), signed_leading e ∙ rw r.rest, q ∙ ap word clipped, r.within)

    item_minus : get_or s at 0 ≡ 45 → item (drop at s) ≡ signed (drop (at + 1) s)
    unfolding item
    item_minus e = rw (add-one, drop-cons s at 0 h, e)

    pub item_signed : (most : ℕ) → get_or s at 0 ≡ 45 → (r : Option Item) → ItemIs most signed s (at + 1) r → ItemIs most item s at r
    item_signed most e (Some r) (x, q, v, k) = (x, item_minus e ∙ q, v, k)
    item_signed most e None q = item_minus e ∙ q

    item_nought : get_or s at 0 ≡ 48 → item (drop at s) ≡ got (num (pos 0)) (drop (at + 1) s)
    unfolding item
    item_nought e = rw (add-one, drop-cons s at 0 h, eq-eqb _ _ e)

    pub item_zero : (most : ℕ) → get_or s at 0 ≡ 48 → (w : ℕ) → w ≡ word (num (pos 0)) → ItemIs most item s at (stands w (at + 1))
    item_zero most e w q =
        let none : min 0 (suc most) ≡ 0 = omega arith in
        (num (pos 0), item_nought e, rw none q, omega arith)

    module _ (n : get_or s at 0 ≡ 48 → ⊥) (k : get_or s at 0 ≡ 45 → ⊥) where
      item_leading : leading (get_or s at 0) ≡ true
          → item (drop at s) ≡ got (num (pos (value (get_or s at 0 - 48) (drop (at + 1) s)))) (behind (drop (at + 1) s))
      unfolding item
      item_leading e = rw (add-one, drop-cons s at 0 h, ne_eqb _ _ n, ne_eqb _ _ k, e)

      pub item_numeral : {most : ℕ} {m : Numeral} (w : ℕ) → leading (get_or s at 0) ≡ true → NumeralAt most s (at + 1) (get_or s at 0 - 48) m
          → w ≡ word (num (pos m.value)) → ItemIs most item s at (stands w m.next)
      item_numeral w e r q =
          let v = value (get_or s at 0 - 48) (drop (at + 1) s) in
          (num (pos v), item_leading e ∙ rw r.rest, q ∙ ap (λ n. word (num (pos n))) r.value_is, r.within)

      pub item_none : leading (get_or s at 0) ≡ false → item (drop at s) ≡ refused 2
      unfolding item
      item_none e = rw (drop-cons s at 0 h, ne_eqb _ _ n, ne_eqb _ _ k, e)

-- the byte that ends an item
pub line_ends : (k b : ℕ) → k ≡ 0 → b ≡ 10 → ending k ≡ b ∷ []
unfolding bytes
line_ends k b e q = rw (e, q)

pub item_ends : (k b : ℕ) → (k ≡ 0 → ⊥) → b ≡ 44 → ending k ≡ b ∷ []
unfolding bytes
item_ends zero b n q = absurd (n refl)
item_ends (suc k) b n q = rw q

pub ended_none : (left : ℕ) (s : List ℕ) → item s ≡ refused 2 → ended left s ≡ refused 2
unfolding ended
ended_none left s e = rw e

module _ (most left : ℕ) (s : List ℕ) (at next : ℕ) {w : ℕ} (i : ItemIs most item s at (stands w next)) {b : ℕ} (end : ending left ≡ b ∷ []) where
  pub ended_short : length s ≤ next → ended left (drop at s) ≡ refused 2
  unfolding ended literal
  ended_short h = rw (i.1, end, drop_of_length-le s h)

  module _ (h : next < length s) where
    pub ended_differs : (get_or s next 0 ≡ b → ⊥) → ended left (drop at s) ≡ refused 2
    unfolding ended literal
    ended_differs n = rw (i.1, end, drop-cons s next 0 h, ne_eqb _ _ n)

    pub ended_whole : get_or s next 0 ≡ b → ItemIs most (ended left) s at (stands w (next + 1))
    unfolding ended literal
    ended_whole e = (i.0, rw (i.1, end, add-one, drop-cons s next 0 h, eq-eqb _ _ e), i.2, omega arith)
