-- Laws of lines and rows: what is read so far goes in front of what is left, and a row or a table of words with one entry more.
use mathlib.Core.Path.{◌≡◌, refl, ap, ap₂, sym, ◌∙◌}
use mathlib.Core.List.{List, [], ◌∷◌, ◌++◌, append-nil}
use mathlib.Core.Bool.{true, false}
use mathlib.Core.Option.{none, some}
use Prim.Native.Nat.{ℕ, suc, ◌+◌, ◌-◌, ◌≤◌, ◌<◌}
use native.Mathlib.Omega.{arith}
use lib.ListN.{length, drop, set, length-append}
use Rattle.maxplus.specs.Entry.{E, absent}
use Rattle.maxplus.specs.Finite.{map_l}
use Rattle.maxplus.proofs.EachLaws.{each_set, map_append, map_length}
use Rattle.words.specs.Words.{word}
use Rattle.sheet.specs.Sheet.{got, refused, literal, ended, items, Content, line, rows, row, table, Section}
use Rattle.rows.specs.Grid.{strip, strips}
use Rattle.std.specs.Prelude.{Option, Some, None, Ok, Err}
use Rattle.refusals.specs.Numbers.{number}
use Rattle.refusals.specs.declared.Refusal.{Refusal}
use Rattle.rows.specs.Inner.{clip, LiteralAt, words_of, verdict, FaultIs, RowsAre, OptionalIs}
use Rattle.rows.specs.declared.Fault.{Fault}
use Rattle.sheet.proofs.LineLaws.{onto, onto_onto, onto_nil, front, at_last, at_other}
use Rattle.sheet.proofs.SectionLaws.{optional_none, optional_refused, optional_some}
use Rattle.rows.proofs.FaultLaws.{good_words}
use Rattle.cue.specs.Sizes.{size_limit}

-- one entry more, at its place
map_last : (es : List E) (e : E) → map_l clip (es ++ e ∷ []) ≡ map_l clip es ++ clip e ∷ []
unfolding map_l
map_last es e = map_append clip es (e ∷ [])

pub words_more : (es : List E) (e : E) (k : ℕ) → length es ≡ k → k < 6 → set (words_of es) k (word (clip e)) ≡ words_of (es ++ e ∷ [])
unfolding strip
words_more es e k h q = each_set 6 k _ _ _ q
    (ap word (sym (at_last (map_l clip es) (clip e) absent) ∙ ap₂ row (sym (map_last es e)) (map_length clip es ∙ h)))
    (λ j p x. ap word (at_other (map_l clip es) (clip e) absent j (λ y. x (y ∙ map_length clip es ∙ h)) ∙ ap (λ l. row l j) (sym (map_last es e))))

pub strips_more : (t : List (List E)) (es : List E) (i : ℕ) → length t ≡ i → i < 6 →
    set (strips (table t)) i (strip (row es)) ≡ strips (table (t ++ es ∷ []))
unfolding strips
strips_more t es i h q = each_set 6 i _ _ _ q
    (ap strip (sym (ap row (at_last t es [])) ∙ ap (table (t ++ es ∷ [])) h))
    (λ j p x. ap strip (ap row (at_other t es [] j (λ y. x (y ∙ h)))))

-- ---- an item more, a line more
module _ (k n : ℕ) (x : List ℕ) (h : k < n) where
  items_bad : (f : ℕ) → ended (n - k - 1) x ≡ refused f → items (n - k) x ≡ refused f
  unfolding items
  items_bad f e = let q : n - k ≡ suc (n - k - 1) = omega arith in rw (q, e)

  items_more : (e : E) (y : List ℕ) → ended (n - k - 1) x ≡ got e y → items (n - k) x ≡ onto (e ∷ []) (items (n - (k + 1)) y)
  unfolding items
  items_more e y p =
      let q : n - k ≡ suc (n - k - 1) = omega arith in
      let r : n - (k + 1) ≡ n - k - 1 = omega arith in
      rw (q, p, r) (front e (items (n - k - 1) y))

module _ (key : List ℕ) (r : Content) (n : ℕ) (x : List ℕ) where
  pub line_key : (f : ℕ) → literal key x ≡ refused f → line key r n x ≡ refused f
  unfolding line
  line_key f e = rw e

  pub line_items : (y : List ℕ) (f : ℕ) → literal key x ≡ got tt y → items n y ≡ refused f → line key r n x ≡ refused f
  unfolding line
  line_items y f e p = rw (e, p)

  module _ (i lines : ℕ) (h : i < lines) where
    rows_bad : (f : ℕ) → line key r n x ≡ refused f → rows key r (lines - i) n x ≡ refused f
    unfolding rows
    rows_bad f e = let q : lines - i ≡ suc (lines - (i + 1)) = omega arith in rw (q, e)

    rows_more : (es : List E) (y : List ℕ) → line key r n x ≡ got es y →
        rows key r (lines - i) n x ≡ onto (es ∷ []) (rows key r (lines - (i + 1)) n y)
    unfolding rows
    rows_more es y p = let q : lines - i ≡ suc (lines - (i + 1)) = omega arith in rw (q, p) (front es (rows key r (lines - (i + 1)) n y))

-- ---- what the loop over the items of a line keeps: k of n items are read, from `from` to `at`, and their words stored
pub record ItemsRead (s : List ℕ) (from n : ℕ) (ws : List ℕ) (at k : ℕ) : Type 0 where
  pub es : List E
  pub few : k ≤ n
  pub within : at ≤ length s
  pub long : length es ≡ k
  pub words : ws ≡ words_of es
  pub left : items n (drop from s) ≡ onto es (items (n - k) (drop at s))

module _ {s : List ℕ} {from n : ℕ} where
  pub items_none : {ws : List ℕ} → from ≤ length s → ws ≡ words_of [] → ItemsRead s from n ws from 0
  items_none h e =
      record {
        es = [];
        few = omega arith;
        within = h;
        long = refl;
        words = e;
        left = let q : n - 0 ≡ n = omega arith in rw q (sym (onto_nil (items n (drop from s))));
      }

  module _ {ws : List ℕ} {at k : ℕ} (I : ItemsRead s from n ws at k) where
    pub items_stop : k < n → ended (n - k - 1) (drop at s) ≡ refused 2 → items n (drop from s) ≡ refused 2
    items_stop h e = I.left ∙ ap (onto I.es) (items_bad k n (drop at s) h 2 e)

    pub items_step : k < n → n ≤ size_limit → (e : E) (w next : ℕ) → ended (n - k - 1) (drop at s) ≡ got e (drop next s) → w ≡ word (clip e) →
        next ≤ length s → ItemsRead s from n (set ws k w) next (k + 1)
    items_step h six e w next p q b =
        record {
          es = I.es ++ e ∷ [];
          few = omega arith;
          within = b;
          long = length-append I.es (e ∷ []) ∙ ap (λ m. m + 1) I.long;
          words = ap₂ (λ l v. set l k v) I.words q ∙ words_more I.es e k I.long (let f = I.few in omega arith);
          left = I.left ∙ ap (onto I.es) (items_more k n (drop at s) h e (drop next s) p) ∙
              onto_onto I.es (e ∷ []) (items (n - (k + 1)) (drop next s));
        }

    module _ (h : n ≤ k) {r : Content} {f : Option Fault} (F : FaultIs r ws n f) where
      many : length I.es ≡ n
      many = let l = I.long in let q = I.few in omega arith

      pub items_line : (key x : List ℕ) → literal key x ≡ got tt (drop from s) → line key r n x ≡ verdict f I.es (drop at s)
      unfolding line
      items_line key x e = rw (e, items_done) (F.checks I.es (drop at s) many I.words)
        where
          items_done : items n (drop from s) ≡ got I.es (drop at s)
          items_done = I.left ∙ (let q : n - k ≡ 0 = omega arith in rw q (unfold items in ap (λ l. got l (drop at s)) (append-nil I.es)))

      pub items_words : f ≡ None → ws ≡ strip (row I.es)
      items_words z = I.words ∙ good_words r I.es (F.checks I.es [] many I.words ∙ rw z)

-- ---- what the loop over lines keeps: i of the lines are read, from `from` to `at`, and their words stored
pub record RowsRead (s key : List ℕ) (from : ℕ) (r : Content) (lines n : ℕ) (ws : List (List ℕ)) (at i : ℕ) : Type 0 where
  pub t : List (List E)
  pub few : i ≤ lines
  pub within : at ≤ length s
  pub tall : length t ≡ i
  pub words : ws ≡ strips (table t)
  pub left : rows key r lines n (drop from s) ≡ onto t (rows key r (lines - i) n (drop at s))

module _ {s key : List ℕ} {from : ℕ} {r : Content} {lines n : ℕ} where
  pub rows_none : {ws : List (List ℕ)} → from ≤ length s → ws ≡ strips (table []) → RowsRead s key from r lines n ws from 0
  rows_none h e =
      record {
        t = [];
        few = omega arith;
        within = h;
        tall = refl;
        words = e;
        left = let q : lines - 0 ≡ lines = omega arith in rw q (sym (onto_nil (rows key r lines n (drop from s))));
      }

  module _ {ws : List (List ℕ)} {at i : ℕ} (R : RowsRead s key from r lines n ws at i) where
    pub rows_stop : i < lines → (f : ℕ) → line key r n (drop at s) ≡ refused f → rows key r lines n (drop from s) ≡ refused f
    rows_stop h f e = R.left ∙ ap (onto R.t) (rows_bad key r n (drop at s) i lines h f e)

    pub rows_step : i < lines → lines ≤ size_limit → (es : List E) (next : ℕ) → line key r n (drop at s) ≡ got es (drop next s) →
        next ≤ length s →
        RowsRead s key from r lines n (set ws i (strip (row es))) next (i + 1)
    rows_step h six es next e b =
        record {
          t = R.t ++ es ∷ [];
          few = omega arith;
          within = b;
          tall = length-append R.t (es ∷ []) ∙ ap (λ m. m + 1) R.tall;
          words = ap (λ l. set l i (strip (row es))) R.words ∙ strips_more R.t es i R.tall (omega arith);
          left = R.left ∙ ap (onto R.t) (rows_more key r n (drop at s) i lines h es (drop next s) e) ∙
              onto_onto R.t (es ∷ []) (rows key r (lines - (i + 1)) n (drop next s));
        }

    pub rows_done : lines ≤ i → rows key r lines n (drop from s) ≡ got R.t (drop at s)
    rows_done h = R.left ∙ (let q : lines - i ≡ 0 = omega arith in rw q (unfold rows in ap (λ l. got l (drop at s)) (append-nil R.t)))

-- ---- lines that may be missing
module _ (key : List ℕ) (r : Content) (lines n : ℕ) where
  abbrev lines_of : Section
  lines_of = record { key = key; content = r; lines = lines; items = n }

  pub lines_missing : (s : List ℕ) (from : ℕ) → LiteralAt s from key false → from ≤ length s → OptionalIs key r lines n s from (Ok (None, from))
  lines_missing s from l h = record { value = none; is = optional_none lines_of (drop from s) 2 l; within = h; words = refl }

  pub lines_refused : (s : List ℕ) (from : ℕ) (e : Refusal) → LiteralAt s from key true → rows key r lines n (drop from s) ≡ refused (number e) →
      OptionalIs key r lines n s from (Err e)
  lines_refused s from e (l, h) R = optional_refused lines_of (drop from s) _ l _ R

  pub lines_given : (s : List ℕ) (from : ℕ) {next : ℕ} {held : List (List ℕ)} → LiteralAt s from key true →
      RowsAre (rows key r lines n (drop from s)) s (Ok next) held → OptionalIs key r lines n s from (Ok (Some held, next))
  lines_given s from (l, h) F =
      record {
        value = some (table F.value);
        is = optional_some lines_of (drop from s) _ l F.value _ F.is;
        within = F.within;
        words = ap Some F.words;
      }
