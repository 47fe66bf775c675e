-- Laws of listing: below every line, what is left after a full buffer, how many lines there can be, and how far their words go.
use mathlib.Core.Path.{◌≡◌, refl, ap, ap₂, sym, subst, ◌∙◌}
use mathlib.Core.Logic.{inl, inr}
use mathlib.Core.List.{List, [], ◌∷◌, ◌++◌}
use Prim.Native.Nat.{ℕ, zero, suc, ◌*◌, ◌≤◌, ◌<◌}
use native.Mathlib.Omega.{arith}
use lib.IntN.{ℤ, pos}
use lib.ListN.{length, get_or, take, drop, length-append, length-take, take-append-drop}
use lib.Seq.{split_at, take_all, get_or-take}
use Rattle.maxplus.specs.Entry.{E, absent, num, Present}
use Rattle.maxplus.specs.Finite.{In}
use Rattle.maxplus.specs.Tables.{Vec}
use Rattle.maxplus.specs.Line.{Line, at, line, lt_l}
use Rattle.maxplus.specs.Normal.{Normal}
use Rattle.maxplus.specs.Sorted.{Strict, Sorted}
use Rattle.maxplus.proofs.FiniteLaws.{in_app, in_right, in_map}
use Rattle.maxplus.proofs.LineLaws.{strict}
use Rattle.maxplus.specs.Above.{above}
use Rattle.maxplus.proofs.SortedLaws.{in_above, above_sorted, sorted_eq}
use Rattle.cue.specs.Cue.{Cue}
use Rattle.cue.specs.Method.{lines}
use Rattle.cue.specs.Written.{line_size, list_words}
use Rattle.cue.proofs.WrittenLaws.{list_words_length}
use Rattle.cue.proofs.Extreme.{lines_increasing, lines_normal}
use Rattle.cue.proofs.Bounds.{line_within}
use Rattle.words.specs.Words.{entry}
use Rattle.words.proofs.Laws.{entry_zero, close_of}
use Rattle.sheet.specs.Sheet.{limit}
use Rattle.sheet.specs.Sizes.{order_limit, line_down}
use Rattle.tables.specs.Held.{meant_v, CloselyV}
use Rattle.cue.proofs.Few as few
use Rattle.cue.specs.Sizes.{most_lines}
use Rattle.tables.specs.Lines.{line_of, Sized}
use Rattle.candidates.specs.Drawable.{Drawable}
use Rattle.candidates.specs.declared.Marks.{Marks}
use Rattle.tables.proofs.LineLaws.{blank, sized_none, line_at}
use Rattle.buffer.specs.Buffer.{room, end, row, held}
use Rattle.gather.specs.Gathering.{rest, Filled}
use Rattle.buffer.proofs.ListLaws.{in_take}
use Rattle.buffer.proofs.HeldLaws.{stored_length, row_line}
use Rattle.cue.specs.Sizes.{size_limit}
use Rattle.lines.specs.Listing.{Answers}
use Rattle.std.specs.Prelude.{Ok}

-- ---- a line with no component stands below every line that has one
below_some : (n : ℕ) (x : Vec) (c : Line n) (j : ℕ) → j < n → ((k : ℕ) → x k ≡ absent) → Present (at n c j) → lt_l n (line n x) c
unfolding line at
below_some zero x c j h e p = let q : ⊥ = omega arith in absurd q
below_some (suc n) x c zero h e (z, q) = inl (rw (e 0, q) tt)
below_some (suc n) x c (suc j) h e p = go c.0 refl (below_some n (λ k. x (suc k)) c.1 j (omega arith) (λ k. e (suc k)) p)
  where
    go : (a : E) → c.0 ≡ a → lt_l n (line n (λ k. x (suc k))) c.1 → lt_l (suc n) (line (suc n) x) c
    go (num z) q l = inl (rw (e 0, q) tt)
    go absent q l = inr (e 0 ∙ sym q, l)

blank_below : (n : ℕ) (c : Line n) → Normal n c → lt_l n (line_of n blank) c
unfolding line_of meant_v
blank_below n c h = below_some n (meant_v blank) c h.top h.here
    (λ k. ap entry ((sized_none 0).past k (omega arith)) ∙ entry_zero) (pos 0, h.zero_there)

pub above_blank : (n : ℕ) (P : Cue) → above (lt_l n) (strict n) (line_of n blank) (lines n P) ≡ lines n P
above_blank n P = sorted_eq (lt_l n) (strict n) _ (lines n P) (above_sorted (lt_l n) (strict n) (line_of n blank) (lines n P)) (lines_increasing n P)
    (λ c h. ((in_above (lt_l n) (strict n) (line_of n blank) (lines n P) c).0 h).0)
    (λ c h. (in_above (lt_l n) (strict n) (line_of n blank) (lines n P) c).1 (h, blank_below n c (lines_normal n P c h)))

-- ---- what is above a member that is above a is what comes after it there
module _ {A : Type 0} (lt : A → A → Type 0) (S : Strict lt) where
  parts : (k : List A) (b : A) (l : List A) → Sorted lt S (k ++ b ∷ l) → ((c : A) → In c k → lt c b) × Sorted lt S (b ∷ l)
  parts [] b l s = (λ c h. absurd h, s)
  parts (a ∷ k) b l s = let q = parts k b l s.1 in
      (λ c h. elim h [ inl e ↦ rw e (s.0 b (in_right k (b ∷ l) b (inl refl))) | inr i ↦ q.0 c i ], q.1)

  above_after : (a b : A) (l k m : List A) → above lt S a l ≡ k ++ b ∷ m → above lt S b l ≡ m
  above_after a b l k m e = sorted_eq lt S (above lt S b l) m (above_sorted lt S b l) q.1.1 to from
    where
      q : ((c : A) → In c k → lt c b) × Sorted lt S (b ∷ m)
      q = parts k b m (subst (λ r. Sorted lt S r) e (above_sorted lt S a l))

      under : lt a b
      under = ((in_above lt S a l b).0 (subst (λ r. In b r) (sym e) (in_right k (b ∷ m) b (inl refl)))).1

      to : (c : A) → In c (above lt S b l) → In c m
      to c h = let (i, j) = (in_above lt S b l c).0 h in
          elim (in_app k (b ∷ m) c (subst (λ r. In c r) e ((in_above lt S a l c).1 (i, S.trans a b c under j)))) [
            | inl x ↦ absurd (S.irrefl b (S.trans b c b j (q.0 c x)))
            | inr x ↦ elim x [ inl y ↦ absurd (S.irrefl b (rw y at j)) | inr y ↦ y ]
          ]

      from : (c : A) → In c m → In c (above lt S b l)
      from c h = (in_above lt S b l c).1
          (((in_above lt S a l c).0 (subst (λ r. In c r) (sym e) (in_right k (b ∷ m) c (inr h)))).0, q.1.0 c h)

-- ---- a buffer that was not filled holds all, and a full one leaves what is above its last line
module _ {n len : ℕ} {P : Cue} {last : List ℕ} {buf : List (List ℕ)} (few : n ≤ size_limit) (s : Filled n P last len buf) where
  abbrev left : List (Line n)
  left = rest n P (line_of n last)

  pub filled_few : len ≤ length left
  filled_few = omega (arith, stored_length few s.stored, length-take room left)

  pub filled_all : len < room → held n len buf ≡ left
  filled_all h = s.stored.lines ∙ take_all room left (omega (arith, stored_length few s.stored, length-take room left))

  pub filled_full : room ≤ len → left ≡ held n len buf ++ rest n P (line_of n (row buf end))
  filled_full h = sym (take-append-drop room left) ∙ ap₂ ◌++◌ (sym s.stored.lines) after
    where
      b : Line n
      b = get_or left end (line_of n last)

      e : b ≡ line_of n (row buf end)
      e = sym (get_or-take room left end (line_of n last) (omega arith)) ∙ row_line few s.stored end (line_of n last) (omega arith)

      after : drop room left ≡ rest n P (line_of n (row buf end))
      after = sym (above_after (lt_l n) (strict n) (line_of n last) b (lines n P) (take end left) (drop room left)
          (split_at left end (line_of n last) (omega (arith, filled_few)))) ∙ ap (rest n P) e

pub lines_few : {P : Cue} {M : Marks} {stars lags needs : List (List ℕ)} → Drawable M.triggers P M stars lags needs →
    length (lines M.triggers P) ≤ most_lines
lines_few {P} {M} g = few.lines_few M.triggers P g.few g.few_panels

-- ---- the words of lines that are held fit
pub held_close : {n len : ℕ} {P : Cue} {M : Marks} {stars lags needs buf : List (List ℕ)} {last : List ℕ} → Drawable n P M stars lags needs →
    Filled n P last len buf → (w : List ℕ) → In w (take len buf) → Sized n w × CloselyV n line_down w
unfolding held meant_v
held_close {n} {len} {P} {buf = buf} {last} p s w h = (
  s.stored.sized w h,
  record {
    at = λ j hj. close_of line_down (get_or w j 0) (λ z e.
        let b = line_within n 5 limit order_limit P p.limited p.few p.order (line_of n w) member j hj in
        let f = line_at n w j hj ∙ e in (b.low.above z f, omega (arith, b.high.below z f)));
  },
)
  where
    member : In (line_of n w) (lines n P)
    member = ((in_above (lt_l n) (strict n) (line_of n last) (lines n P) (line_of n w)).0 (in_take room (rest n P (line_of n last)) (line_of n w)
        (subst (λ l. In (line_of n w) l) s.stored.lines (in_map (line_of n) (take len buf) w h)))).0

-- a list that was written has its words in the space
pub listed_room : (n : ℕ) (L : List (Line n)) (room : ℕ) (before : List ℤ) {k : ℕ} {after : List ℤ} → Answers n L room before after (Ok k) →
    line_size * k ≤ length after
listed_room n L room before a =
    let l = length-append (list_words n L) (drop (line_size * length L) before) in
    rw (a.2, a.0) (omega (arith, l, list_words_length n L))
