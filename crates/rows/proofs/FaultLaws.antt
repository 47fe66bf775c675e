-- Laws of faults: clipping leaves each as it is, kind after kind gives what a line is refused for, and the entries of a line that has none.
use mathlib.Core.Path.{◌≡◌, refl, ap, ap₂, sym, ◌∙◌}
use mathlib.Core.List.{List, [], ◌∷◌}
use mathlib.Core.Bool.{Bool, true, false, cond, ◌||◌}
use Prim.Native.Nat.{ℕ, zero, suc, ◌+◌, ◌≤◌, ◌<◌, min}
use native.Mathlib.Decide.{dec_lt}
use native.Mathlib.Numerals.{add-one}
use native.Mathlib.Omega.{arith}
use borrow.Author.Tests.{ltb-false, lt-ltb, le-ltb, eq-eqb, ne_eqb}
use lib.Dec.{ltb, eqb}
use lib.IntN.{ℤ, pos, negsuc}
use lib.ListN.{length, take, drop, get_or, length-take, drop_of_length-le}
use lib.Seq.{drop-cons}
use Rattle.std.proofs.lemmas.List.{get_or-take}
use Rattle.maxplus.specs.Whole.{up, dn}
use Rattle.maxplus.specs.Entry.{E, absent, num, present?, val}
use Rattle.maxplus.specs.Finite.{map_l}
use Rattle.maxplus.proofs.EachLaws.{map_at}
use Rattle.maxplus.proofs.EntryLaws.{num_inj, absent_not}
use Rattle.words.specs.Words.{word, entry, far}
use Rattle.words.proofs.Laws.{entry_word}
use Rattle.sheet.specs.Sheet as sheet
use Rattle.sheet.specs.Sheet.{Got, got, refused, limit, absent?, no_size, out_of_range, any, checked, row}
use Rattle.sheet.proofs.LineLaws.{true_not_false, none_or, none_at, any_none, any_at, checked_passes}
use Rattle.sheet.specs.Good.{Passes}
use Rattle.rows.specs.Grid.{strip}
use Rattle.rows.specs.Inner.{clip, words_of, faults, fault_number, has_fault, FaultIs}
use Rattle.rows.specs.declared.Fault.{Fault}
use Rattle.rows.specs.declared.Fault.TheVariants as fault
use Rattle.std.specs.Prelude.{Some, None}
use Rattle.rows.proofs.PlaceLaws.{strip_at}
use Rattle.cue.specs.Sizes.{size_limit}

-- ---- the faults of one entry, by how far its number is above and below 0
pub range_above : (e : E) (a : ℕ) → a ≡ up (val e) → limit < a → true ≡ out_of_range e
unfolding val
range_above absent a q h = let x : ⊥ = omega arith in absurd x
range_above (num z) a q h = rw (lt-ltb limit (up z) (omega arith))

pub range_below : (e : E) (a b : ℕ) → a ≡ up (val e) → a ≤ limit → b ≡ dn (val e) → ltb limit b ≡ out_of_range e
unfolding val
range_below absent a b q h p = rw p
range_below (num z) a b q h p = rw (p, le-ltb limit (up z) (omega arith))

pub size_absent : (e : E) → present? e ≡ false → false ≡ no_size e
size_absent absent h = refl
size_absent (num z) h = absurd (true_not_false h)

pub size_none : (e : E) (a : ℕ) → present? e ≡ true → a ≡ up (val e) → a ≡ 0 → true ≡ no_size e
unfolding val
size_none absent a p q h = absurd (true_not_false (sym p))
size_none (num z) a p q h = rw (le-ltb 6 (up z) (omega arith), eq-eqb (up z) 0 (omega arith))

pub size_some : (e : E) (a : ℕ) → present? e ≡ true → a ≡ up (val e) → ¬ (a ≡ 0) → ltb 6 a ≡ no_size e
unfolding val
size_some absent a p q h = absurd (true_not_false (sym p))
size_some (num z) a p q h = rw (q, ne_eqb (up z) 0 (λ z. h (q ∙ z))) (go (ltb 6 (up z)))
  where
    go : (t : Bool) → t ≡ t || false
    go true = refl
    go false = refl

-- ---- a clipped entry has the faults of the entry
same_beyond : (c a b : ℕ) → min a (suc c) ≡ min b (suc c) → ltb c a ≡ ltb c b
same_beyond c a b e = go (dec_lt c a)
  where
    go : Dec (c < a) → ltb c a ≡ ltb c b
    go (yes h) = rw (lt-ltb c a h, lt-ltb c b (omega arith))
    go (no h) = rw (le-ltb c a (omega arith), le-ltb c b (omega arith))

clip_size : (e : E) → no_size (clip e) ≡ no_size e
clip_size absent = refl
clip_size (num (pos zero)) = refl
clip_size (num (pos (suc n))) = ap₂ ◌||◌ (same_beyond 6 (min (suc n) (suc limit)) (suc n) (omega arith))
    (ne_eqb (min (suc n) (suc limit)) 0 (λ e. let x : ⊥ = omega arith in x) ∙ sym (ne_eqb (suc n) 0 (λ e. let x : ⊥ = omega arith in x)))
clip_size (num (negsuc n)) = refl

clip_range : (e : E) → out_of_range (clip e) ≡ out_of_range e
clip_range absent = refl
clip_range (num (pos n)) = ap (λ t. t || ltb limit 0) (same_beyond limit (min n (suc limit)) n (omega arith))
clip_range (num (negsuc n)) = ap (λ t. ltb limit 0 || t) (same_beyond limit (suc (min n limit)) (suc n) (omega arith))

clip_absent : (e : E) → absent? (clip e) ≡ absent? e
clip_absent absent = refl
clip_absent (num (pos n)) = refl
clip_absent (num (negsuc n)) = refl

clip_fault : (f : Fault) (e : E) → has_fault f (clip e) ≡ has_fault f e
clip_fault fault.AbsentSize e = clip_absent e
clip_fault fault.NoSize e = clip_size e
clip_fault fault.OutOfRange e = clip_range e
clip_fault fault.AbsentMark e = clip_absent e

clip_near : (e : E) (z : ℤ) → clip e ≡ num z → dn z ≤ far + up z
clip_near absent z q = absurd (absent_not q)
clip_near (num (pos n)) z q = rw (← num_inj q) (omega arith)
clip_near (num (negsuc n)) z q = rw (← num_inj q) (omega arith)

-- the word of an entry of a line
word_fault : (f : Fault) (es : List E) (ws : List ℕ) (j : ℕ) → length es ≤ size_limit → ws ≡ words_of es → j < length es →
    has_fault f (entry (get_or ws j 0)) ≡ has_fault f (row es j)
word_fault f es ws j six e h =
    let at = ap (λ l. get_or l j 0) e ∙ strip_at (row (map_l clip es)) j (omega arith) ∙ ap word (map_at clip es j absent absent h) in
    ap (λ w. has_fault f (entry w)) at ∙ ap (has_fault f) (entry_word (clip (row es j)) (clip_near (row es j))) ∙ clip_fault f (row es j)

-- the first n of a list are where they were
pub taken : {A : Type 0} (l : List A) (n j : ℕ) (d : A) → j < length (take n l) → get_or (take n l) j d ≡ get_or l j d
taken l n j d h = let long = length-take n l in let k : j < n = omega arith in get_or-take n l j d k

-- ---- kind after kind
abbrev first : List Fault → List E → List ℕ → Got (List E)
first [] es s = got es s
first (f ∷ fs) es s = cond (any (has_fault f) es) (refused (fault_number f)) (first fs es s)

checked_first : (r : sheet.Content) (es : List E) (s : List ℕ) → checked r es s ≡ first (faults r) es s
unfolding checked
checked_first sheet.size es s = refl
checked_first sheet.entry es s = refl
checked_first sheet.mark es s = refl

-- what the loop over the kinds keeps: the first i are no fault of the line, and the others give what the line is refused for
pub record Asked (fs : List Fault) (ws : List ℕ) (n i : ℕ) : Type 0 where
  pub left : (r : sheet.Content) → fs ≡ faults r → (es : List E) (s : List ℕ) → length es ≡ n → ws ≡ words_of es →
      checked r es s ≡ first (drop i fs) es s

pub asked_none : {fs : List Fault} {ws : List ℕ} {n : ℕ} → Asked fs ws n 0
asked_none = record { left = λ r k es s l e. rw k (checked_first r es s) }

module _ {fs : List Fault} {ws : List ℕ} {n i : ℕ} (A : Asked fs ws n i) (r : sheet.Content) (k : fs ≡ faults r) where
  pub asked_all : length fs ≤ i → FaultIs r ws n None
  asked_all h = record { checks = λ es s l e. A.left r k es s l e ∙ ap (λ fs. first fs es s) (drop_of_length-le fs {i = i} h) }

  module _ {f : Fault} (h : i < length fs) (is : get_or fs i fault.AbsentSize ≡ f) (six : n ≤ size_limit) where
    next : drop i fs ≡ f ∷ drop (i + 1) fs
    next = rw (add-one i, drop-cons fs i fault.AbsentSize h, is)

    decided : (r : sheet.Content) → fs ≡ faults r → (es : List E) (s : List ℕ) → length es ≡ n → ws ≡ words_of es → (b : Bool) →
        any (has_fault f) es ≡ b → checked r es s ≡ cond b (refused (fault_number f)) (first (drop (i + 1) fs) es s)
    decided r k es s l e b q = A.left r k es s l e ∙ ap (λ fs. first fs es s) next ∙ rw q

    pub asked_hit : (j : ℕ) → j < n → has_fault f (entry (get_or ws j 0)) ≡ true → FaultIs r ws n (Some f)
    asked_hit j q there =
        record {
          checks = λ es s l e.
              decided r k es s l e true (any_at _ absent es j (omega arith) (sym (word_fault f es ws j (omega arith) e (omega arith)) ∙ there));
        }

    pub asked_more : ((j : ℕ) → j < n → has_fault f (entry (get_or ws j 0)) ≡ false) → Asked fs ws n (i + 1)
    asked_more none =
        record {
          left = λ r k es s l e. decided r k es s l e false
              (any_none _ absent es (λ j q. sym (word_fault f es ws j (omega arith) e q) ∙ none j (omega arith)));
        }

-- ---- the entries of a line without fault
size_in_range : (e : E) → no_size e ≡ false → out_of_range e ≡ false
size_in_range absent h = refl
size_in_range (num (pos n)) h =
    let small = ltb-false 6 n (none_or (ltb 6 n) (eqb n 0) h).0 in
    rw (le-ltb limit n (omega arith))
size_in_range (num (negsuc n)) h = absurd (true_not_false h)

in_range : (r : sheet.Content) (es : List E) → Passes r es → any out_of_range es ≡ false
in_range sheet.size es p = any_none out_of_range absent es (λ j h. size_in_range (row es j) (none_at no_size absent es j p.1 h))
in_range sheet.entry es p = p
in_range sheet.mark es p = p.0

in_range_clip : (e : E) → out_of_range e ≡ false → clip e ≡ e
in_range_clip absent h = refl
in_range_clip (num (pos n)) h =
    let small = ltb-false limit n (none_or (ltb limit n) false h).0 in
    let m : min n (suc limit) ≡ n = omega arith in
    rw m
in_range_clip (num (negsuc n)) h =
    let small = ltb-false limit (suc n) h in
    let m : min n limit ≡ n = omega arith in
    rw m

clip_same : (es : List E) → any out_of_range es ≡ false → map_l clip es ≡ es
unfolding any map_l
clip_same [] h = refl
clip_same (e ∷ es) h = let (p, q) = none_or (out_of_range e) (any out_of_range es) h in rw (in_range_clip e p, clip_same es q)

pub good_words : (r : sheet.Content) (es : List E) → checked r es [] ≡ got es [] → words_of es ≡ strip (row es)
good_words r es e = rw (clip_same es (in_range r es (checked_passes r es [] e).0))
