-- Laws of putting: nothing, one text behind another, a key byte by byte.
use mathlib.Core.Path.{◌≡◌, refl, sym, ap, ap₂, subst, ◌∙◌}
use mathlib.Core.List.{List, [], ◌++◌, append-nil, append_assoc}
use Prim.Native.Nat.{ℕ, ◌+◌, ◌≤◌, ◌<◌}
use native.Mathlib.Numerals.{add-one}
use native.Mathlib.Omega.{arith}
use lib.ListN.{length, take, drop, get_or, set, length-append, length-set, take-append-drop}
use lib.Seq.{take-length, drop-drop, paste, paste-zero, paste-suc, take-paste, drop-paste}
use Rattle.writing.specs.Writing.{Puts, Writes}

pub put_nothing : (b : List ℕ) (at : ℕ) → at ≤ length b → Puts b b at at []
put_nothing b at h =
    record {
      same_length = refl;
      within = h;
      end = omega arith;
      text = sym (append-nil (take at b));
      rest = refl;
    }

-- what is the same behind one place is so behind a later one
drop_further : (a b : List ℕ) (r s k : ℕ) → s ≡ r + k → drop r b ≡ drop r a → drop s b ≡ drop s a
drop_further a b r s k e h = rw e (sym (drop-drop k r b) ∙ ap (drop k) h ∙ drop-drop k r a)

module _ {a b : List ℕ} {from r : ℕ} where
  pub then : {c : List ℕ} {s : ℕ} {t u : List ℕ} → Puts a b from r t → Puts b c r s u → Puts a c from s (t ++ u)
  then {c} {s} {t} {u} p q =
      record {
        same_length = q.same_length ∙ p.same_length;
        within = q.within;
        end = omega (arith, length-append t u);
        text = q.text ∙ ap (λ l. l ++ u) p.text ∙ append_assoc (take from a) t u;
        rest = q.rest ∙ drop_further a b r s (length u) q.end p.rest;
      }

  pub put_as : {t u : List ℕ} → t ≡ u → Puts a b from r t → Puts a b from r u
  put_as e p = subst (Puts a b from r) e p

  pub put_short : {k : ℕ} {t : List ℕ} → length t ≤ k → Puts a b from r t → Puts a b from r t × (r ≤ from + k)
  put_short h p = (p, omega (arith, p.end))

-- a text put at the front stands there, and the rest behind it
pub put_front : {a b : List ℕ} {r : ℕ} {t : List ℕ} → Puts a b 0 r t → b ≡ t ++ drop (length t) a
put_front {a} {b} {r} {t} p =
    let e : r ≡ length t = omega (arith, p.end) in
    sym (take-append-drop r b) ∙ ap₂ ◌++◌ p.text (p.rest ∙ ap (λ k. drop k a) e)

-- a text put at the front is all that is written
pub written : {a b : List ℕ} {r : ℕ} {t : List ℕ} → Puts a b 0 r t → Writes b r t
written p = record { within = p.within; text = p.text }

-- ---- a key, byte by byte: the first i bytes are put
pub record Copied (before after : List ℕ) (at : ℕ) (key : List ℕ) (i : ℕ) : Type 0 where
  pub few : i ≤ length key
  pub room : at + length key ≤ length before
  pub same_length : length after ≡ length before
  pub is : after ≡ paste before at key i

pub copied_none : (b : List ℕ) (at : ℕ) (key : List ℕ) → at + length key ≤ length b → Copied b b at key 0
copied_none b at key h =
    record {
      few = omega arith;
      room = h;
      same_length = refl;
      is = paste-zero b at key;
    }

module _ {b c : List ℕ} {at : ℕ} {key : List ℕ} {i : ℕ} (p : Copied b c at key i) where
  pub copied_more : i < length key → Copied b (set c (at + i) (get_or key i 0)) at key (i + 1)
  copied_more h =
      record {
        few = omega arith;
        room = p.room;
        same_length = length-set c (at + i) (get_or key i 0) ∙ p.same_length;
        is = rw (p.is, add-one i) (paste-suc b at key i 0 (omega (arith, p.room)) h);
      }

  pub copied_all : length key ≤ i → Puts b c at (at + length key) key
  copied_all h =
      let e : i ≡ length key = omega (arith, p.few) in
      record {
        same_length = p.same_length;
        within = omega (arith, p.room, p.same_length);
        end = omega arith;
        text = rw (p.is, e) (take-paste b at key (length key) (omega (arith, p.room)) (omega arith) ∙ ap (λ l. take at b ++ l) (take-length key));
        rest = rw (p.is, e) (drop-paste b at key (length key) (omega (arith, p.room)) (omega arith));
      }
