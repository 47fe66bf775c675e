-- Laws of reading the argument: what its first numbers are, and what is left.
use Rattle.std.proofs.Common.{Option, Some}
use mathlib.Core.Path.{◌≡◌, refl, ap, sym, subst, ◌∙◌}
use mathlib.Core.List.{List, [], ◌∷◌, ◌++◌, append_assoc}
use mathlib.Core.Bool.{Bool, true, false, cond, ◌||◌}
use Prim.Native.Nat.{ℕ, suc, ◌+◌, ◌-◌, ◌≤◌, ◌<◌, min}
use native.Mathlib.Numerals.{add-one}
use native.Mathlib.Omega.{arith}
use native.Mathlib.Decide.{dec_lt}
use borrow.Author.Tests.{eq-eqb, ne_eqb, lt-ltb, le-ltb, ltb-false}
use lib.Dec.{ltb, eqb}
use lib.IntN.{ℤ, pos, negsuc}
use lib.ListN.{length, length-drop, drop, get_or, drop_of_length-le, length-append, get_or-append, get_or-eq_default}
use mir.Facts.{to_z-of_z}
use mir.Syntax.{w64}
use mir.Val.{SFits, to_z, of_z}
use lib.Seq.{drop-cons, get_or_at}
use Rattle.maxplus.specs.Entry.{E, absent, num, present?}
use Rattle.maxplus.specs.Finite.{each}
use Rattle.maxplus.specs.Whole.{up, dn}
use Rattle.maxplus.proofs.EachLaws.{each_same, each_set}
use Rattle.maxplus.proofs.EntryLaws.{num_inj}
use Rattle.words.specs.Words.{word, entry, Near}
use Rattle.words.proofs.Laws.{entry_word}
use Rattle.sheet.specs.Sheet.{Got, got, refused, ◌>>=◌, digit, leading, behind, signed, item}
use Rattle.sheet.proofs.LineLaws.{true_not_false}
use Rattle.items.specs.Inner as items
use Rattle.items.specs.Inner.{ItemIs}
use Rattle.items.proofs.ItemLaws.{stands}
use Rattle.sheet.specs.Times.{far_limit, beyond}
use Rattle.argument.specs.Times.{number, numbers, followed, far_beyond, clip}
use Rattle.argument.specs.Inner.{six_of, put_at, times_of}
use Rattle.timing.specs.declared.Timing.{Timing}

-- no number is read yet
pub six_none : pos 0 ∷ pos 0 ∷ pos 0 ∷ pos 0 ∷ pos 0 ∷ pos 0 ∷ [] ≡ six_of []
unfolding each
six_none = refl

-- ---- the components
earlier_at : (zs : List ℤ) (z : ℤ) (j : ℕ) → j < length zs → get_or zs j (pos 0) ≡ get_or (zs ++ (z ∷ [])) j (pos 0)
earlier_at zs z j h = sym (get_or-append zs (z ∷ []) (pos 0) j h)

past_at : (zs : List ℤ) (z : ℤ) (j : ℕ) → length zs < j → get_or zs j (pos 0) ≡ get_or (zs ++ (z ∷ [])) j (pos 0)
past_at zs z j h =
    let e = length-append zs (z ∷ []) in
    get_or-eq_default zs (pos 0) {n = j} (omega arith) ∙ sym (get_or-eq_default (zs ++ (z ∷ [])) (pos 0) {n = j} (omega arith))

pub put_six : (zs : List ℤ) (z x : ℤ) (count : ℕ) → length zs ≡ count → x ≡ clip z → put_at (six_of zs) count x ≡ six_of (zs ++ (z ∷ []))
put_six zs z x count e q = go (dec_lt count 6)
  where
    same : (j : ℕ) → ¬ (j ≡ count) → clip (get_or zs j (pos 0)) ≡ clip (get_or (zs ++ (z ∷ [])) j (pos 0))
    same j n = elim (dec_lt j count) [
      | yes h ↦ ap clip (earlier_at zs z j (omega arith))
      | no h ↦ ap clip (past_at zs z j (let l : ¬ (j ≡ count) = n in omega arith))
    ]

    here : x ≡ clip (get_or (zs ++ (z ∷ [])) count (pos 0))
    here = q ∙ ap clip (sym (get_or_at zs z [] (pos 0) count e))

    go : Dec (count < 6) → put_at (six_of zs) count x ≡ six_of (zs ++ (z ∷ []))
    go (yes h) = rw (lt-ltb count 6 h)
        (each_set 6 count (λ j. clip (get_or zs j (pos 0))) (λ j. clip (get_or (zs ++ (z ∷ [])) j (pos 0))) x h here (λ j l n. same j n))
    go (no h) = rw (le-ltb count 6 (omega arith)) (each_same 6 _ _ (λ j l. ap (λ v. v ∷ []) (same j (λ f. omega arith))))

-- ---- clipping
-- a clipped number is beyond the limit exactly when the number is, and else it is the number: an operation that refuses one beyond the limit
-- answers as for the numbers themselves
pub clip_beyond : (z : ℤ) → beyond (clip z) ≡ beyond z
clip_beyond (pos n) = elim (dec_lt far_limit n) [
  | yes h ↦ rw (lt-ltb far_limit n h, lt-ltb far_limit (min n far_beyond) (omega arith))
  | no h ↦ rw (le-ltb far_limit n (omega arith), le-ltb far_limit (min n far_beyond) (omega arith))
]
clip_beyond (negsuc n) = elim (dec_lt far_limit (suc n)) [
  | yes h ↦ rw (lt-ltb far_limit (suc n) h, lt-ltb far_limit (suc (min n far_limit)) (omega arith))
  | no h ↦ rw (le-ltb far_limit (suc n) (omega arith), le-ltb far_limit (suc (min n far_limit)) (omega arith))
]

or-false : (a b : Bool) → a || b ≡ false → (a ≡ false) × (b ≡ false)
or-false true b e = absurd (let x : ◌≡◌ {A = ℕ} 0 1 = cc in let y : ⊥ = omega arith in y)
or-false false b e = (refl, e)

pub clip_within : (z : ℤ) → beyond z ≡ false → clip z ≡ z
clip_within (pos n) e =
    let h = ltb-false far_limit n (or-false (ltb far_limit n) (ltb far_limit 0) e).0 in
    let same : min n far_beyond ≡ n = omega arith in
    rw same
clip_within (negsuc n) e =
    let h = ltb-false far_limit (suc n) (or-false (ltb far_limit 0) (ltb far_limit (suc n)) e).1 in
    let same : min n far_limit ≡ n = omega arith in
    rw same

-- ---- a number's word
clip_near : (z : ℤ) → (dn (clip z) ≤ far_beyond) × (up (clip z) ≤ far_beyond)
clip_near (pos n) = (omega arith, omega arith)
clip_near (negsuc n) = (omega arith, omega arith)

clip_fits : (z : ℤ) → SFits w64 (clip z)
clip_fits (pos n) = record { sfits = omega arith }
clip_fits (negsuc n) = record { sfits = omega arith }

module _ (z : ℤ) (w : ℕ) (e : w ≡ word (num (clip z))) where
  pub word_near : (0 < w) × Near w
  unfolding word
  word_near = let (d, u) = clip_near z in (omega arith, record { high = omega arith; low = λ p. omega arith })

  word_there : entry w ≡ num (clip z)
  word_there = ap entry e ∙ entry_word (num (clip z)) (λ y q. let (d, u) = clip_near z in rw (← num_inj q) (omega arith))

  pub word_read : (x : ℤ) → entry w ≡ num x → to_z w64 (of_z w64 x) ≡ clip z
  word_read x f = let q : x ≡ clip z = num_inj (sym f ∙ word_there) in rw q (to_z-of_z (clip_fits z))

-- ---- a number of the argument is an item that is not absent
behind_shorter : (s : List ℕ) → length (behind s) ≤ length s
unfolding behind
behind_shorter [] = omega arith
behind_shorter (b ∷ s) = go (digit b) (behind_shorter s)
  where
    go : (d : Bool) → length (behind s) ≤ length s → length (cond d (behind s) (b ∷ s)) ≤ suc (length s)
    go true h = omega arith
    go false h = omega arith

-- what stands behind what was read has at most n bytes
abbrev Shorter : ℕ → Got E → Type 0
Shorter n (got e r) = length r ≤ n
Shorter n (refused k) = Unit {0}

shorter_of : (t : Bool) (n : ℕ) (g h : Got E) → Shorter n g → Shorter n h → Shorter n (cond t g h)
shorter_of true n g h p q = p
shorter_of false n g h p q = q

signed_shorter : (s : List ℕ) → Shorter (length s) (signed s)
unfolding signed
signed_shorter [] = omega arith
signed_shorter (b ∷ s) = shorter_of (leading b) _ _ _ (let h = behind_shorter s in omega arith) (omega arith)

item_shorter : (b : ℕ) (s : List ℕ) → Shorter (length s) (item (b ∷ s))
unfolding item
item_shorter b s =
    shorter_of (eqb b 0x30) _ _ _ (omega arith)
    (shorter_of (eqb b 0x2D) _ _ _ (signed_shorter s) (shorter_of (leading b) _ _ _ (behind_shorter s) tt))

item_on : (s : List ℕ) (place next : ℕ) {e : E} → item (drop place s) ≡ got e (drop next s) → place ≤ length s → next ≤ length s →
    place < next
unfolding item
item_on s place next {e} q p k = go (dec_lt place (length s))
  where
    go : Dec (place < length s) → place < next
    go (yes h) =
        let at : item (get_or s place 0 ∷ drop (suc place) s) ≡ got e (drop next s) = ap item (sym (drop-cons s place 0 h)) ∙ q in
        let l = subst (Shorter (length (drop (suc place) s))) at (item_shorter (get_or s place 0) (drop (suc place) s)) in
        let a = length-drop (suc place) s in
        let b = length-drop next s in
        omega arith
    go (no h) = absurd (none_got (ap item (sym (drop_of_length-le s {i = place} (omega arith))) ∙ q))
      where
        none_got : {r : List ℕ} → ◌≡◌ {A = Got E} (refused 2) (got e r) → ⊥
        none_got f = let z : ◌≡◌ {A = ℕ} 0 1 = cc in omega arith

pub record Found (s : List ℕ) (place w next : ℕ) : Type 0 where
  pub number_is : ℤ
  pub reads : number (drop place s) ≡ got number_is (drop next s)
  pub word_is : w ≡ word (num (clip number_is))
  pub within : next ≤ length s
  pub on : place < next

clip_num : (z : ℤ) → items.clip far_limit (num z) ≡ num (clip z)
clip_num (pos n) = refl
clip_num (negsuc n) = refl

module _ (s : List ℕ) (place : ℕ) {w next : ℕ} where
  pub found : place ≤ length s → ItemIs far_limit item s place (stands w next) → present? (entry w) ≡ true → Found s place w next
  unfolding number word entry
  found p (absent, q, e, k) n = absurd (true_not_false (sym (rw e at n)))
  found p (num z, q, e, k) n =
      record { number_is = z; reads = rw q; word_is = e ∙ ap word (clip_num z); within = k; on = item_on s place next q p k }

  -- a lone minus is no number
  pub lone_minus : ItemIs far_limit item s place (stands w next) → present? (entry w) ≡ false → number (drop place s) ≡ refused 2
  unfolding number
  lone_minus (absent, q, e, k) h = rw q
  lone_minus (num z, q, e, k) h = absurd (true_not_false (sym (ap present? (word_there z w (e ∙ ap word (clip_num z)))) ∙ h))

pub no_item : (s : List ℕ) (place : ℕ) → item (drop place s) ≡ refused 2 → number (drop place s) ≡ refused 2
unfolding number
no_item s place e = rw e

-- ---- reading on
same_components : {i j : ℕ} {a b : List ℤ} → i ≡ j → a ≡ b →
    ◌≡◌ {A = Option Timing} (Some (record { count = i; at = a })) (Some (record { count = j; at = b }))
same_components p q = cc

bind_got : {A : Type 0} (g : Got A) → g ≡ (g >>= λ a s. got a s)
bind_got (got a s) = refl
bind_got (refused k) = refl

bind_more : (zs : List ℤ) (z : ℤ) (g : Got (List ℤ)) →
    ((g >>= λ more s. got (z ∷ more) s) >>= λ more s. got (zs ++ more) s) ≡ (g >>= λ more s. got ((zs ++ (z ∷ [])) ++ more) s)
bind_more zs z (got a s) = ap (λ l. got l s) (sym (append_assoc zs (z ∷ []) a))
bind_more zs z (refused k) = refl

-- part of the argument is read: its first numbers are zs, and what is left from `place` on gives the others
pub record ReadTo (s : List ℕ) (at : List ℤ) (count place : ℕ) : Type 0 where
  pub zs : List ℤ
  pub many : length zs ≡ count
  pub on : count ≤ place
  pub within : place ≤ length s
  pub others : numbers (suc (length s)) s ≡ (numbers (suc (length s - count)) (drop place s) >>= λ more r. got (zs ++ more) r)
  pub held : at ≡ six_of zs

pub read_none : (s : List ℕ) (at : List ℤ) → at ≡ six_of [] → ReadTo s at 0 0
read_none s at e =
    let k : length s - 0 ≡ length s = omega arith in
    record { zs = []; many = refl; on = omega arith; within = omega arith; others = rw k (bind_got (numbers (suc (length s)) s)); held = e }

module _ {s : List ℕ} {at : List ℤ} {count place : ℕ} (r : ReadTo s at count place) where
  pub read_faulty : number (drop place s) ≡ refused 2 → numbers (suc (length s)) s ≡ refused 2
  unfolding numbers
  read_faulty q = r.others ∙ rw q

  module _ {w next : ℕ} (g : Found s place w next) where
    abbrev pub z : ℤ
    z = g.number_is

    reads_on : numbers (suc (length s)) s ≡ (followed (numbers (length s - count)) z (drop next s) >>= λ more x. got (r.zs ++ more) x)
    unfolding numbers
    reads_on = r.others ∙ rw g.reads

    pub read_last : next ≡ length s → numbers (suc (length s)) s ≡ got (r.zs ++ (z ∷ [])) []
    read_last e = reads_on ∙ rw (drop_of_length-le s {i = next} (omega arith))

    last_held : {x : ℤ} → x ≡ clip z → {new : List ℤ} → new ≡ put_at at count x → new ≡ six_of (r.zs ++ (z ∷ []))
    last_held {x} p f = f ∙ ap (λ l. put_at l count x) r.held ∙ put_six r.zs z x count r.many p

    module _ (h : next < length s) where
      at_comma : (b : Bool) → eqb (get_or s next 0) 44 ≡ b → numbers (suc (length s)) s ≡
          (cond b (numbers (length s - count) (drop (next + 1) s) >>= λ more x. got (z ∷ more) x) (refused 2) >>= λ more x. got (r.zs ++ more) x)
      at_comma b e = reads_on ∙ rw (add-one, drop-cons s next 0 h, e)

      pub read_other : ¬ (get_or s next 0 ≡ 44) → numbers (suc (length s)) s ≡ refused 2
      read_other n = at_comma false (ne_eqb _ _ n)

      pub read_more : get_or s next 0 ≡ 44 → {x : ℤ} → x ≡ clip z → {new : List ℤ} → new ≡ put_at at count x →
          ReadTo s new (count + 1) (next + 1)
      read_more e p f =
          let l = r.on in
          let o = g.on in
          let left : length s - count ≡ suc (length s - (count + 1)) = omega arith in
          record {
            zs = r.zs ++ (z ∷ []);
            many = let m = r.many in let n = length-append r.zs (z ∷ []) in omega arith;
            on = omega arith;
            within = omega arith;
            others = at_comma true (eq-eqb _ _ e) ∙ rw (← left) (bind_more r.zs z (numbers (length s - count) (drop (next + 1) s)));
            held = last_held p f;
          }

    pub times_last : next ≡ length s → {x : ℤ} → x ≡ clip z → {new : List ℤ} → new ≡ put_at at count x →
        ◌≡◌ {A = Option Timing} (Some (record { count = count + 1; at = new })) (times_of (numbers (suc (length s)) s))
    times_last e p f =
        let m = r.many in
        let l = length-append r.zs (z ∷ []) in
        let many : count + 1 ≡ length (r.zs ++ (z ∷ [])) = omega arith in
        rw (read_last e) (same_components many (last_held p f))
