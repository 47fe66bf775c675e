-- The other way round: lines that were read stand in the bytes as their table is written.
use mathlib.Core.Path.{◌≡◌, ap, ap₂, sym, ◌∙◌}
use mathlib.Core.List.{List, [], ◌∷◌, ◌++◌, append_assoc}
use mathlib.Core.Bool.{Bool, true, false, cond}
use mathlib.Core.Option.{Option, none, some}
use Prim.Native.Nat.{ℕ, zero, suc, ◌≤◌}
use Rattle.maxplus.specs.Entry.{E}
use Rattle.maxplus.specs.Finite.{each}
use Rattle.maxplus.specs.Tables.{Mat}
use Rattle.sheet.specs.Sheet.{got, got?, ◌>>=◌, literal, ending, ended, items, Content, line, rows, row, table, Section, section, sections, optional, part}
use Rattle.sheet.proofs.LineLaws.{bind_got, checked_passes}
use Rattle.writing.specs.Numerals.{item}
use Rattle.sheet_text.specs.SheetText.{row_text, rows_text, section_text, sections_text, optional_text}
use Rattle.sheet_text.proofs.LineText.{ends, row_ends, first_line_on}
use Rattle.sheet_text.proofs.ItemOnly.{literal_only, ended_only}

items_more : (k : ℕ) (s : List ℕ) (e : E) (x : List ℕ) (es : List E) (r : List ℕ) → s ≡ item e ++ (ending k ++ x) → x ≡ ends k (row es) ++ r →
    s ≡ ends (suc k) (row (e ∷ es)) ++ r
unfolding ends
items_more k s e x es r p q = rw (p, q) (simp append_assoc)

items_only : (k : ℕ) (s : List ℕ) {es : List E} {r : List ℕ} → items k s ≡ got es r → s ≡ ends k (row es) ++ r
unfolding items ends
items_only zero s q = cc
items_only (suc k) s {es} {r} q =
    let (e, x, p, f) = bind_got (ended k s) q in
    let (fs, y, g, h) = bind_got (items k x) f in
    let a : e ∷ fs ≡ es = cc in
    let b : y ≡ r = cc in
    items_more k s e x fs y (ended_only k s p) (items_only k x g) ∙ ap₂ (λ es r. ends (suc k) (row es) ++ r) a b

module _ (key : List ℕ) (r : Content) (n : ℕ) (more : 1 ≤ n) where
  line_only : (s : List ℕ) {es : List E} {x : List ℕ} → line key r n s ≡ got es x → s ≡ row_text key n (row es) ++ x
  unfolding line
  line_only s {es} {x} q =
      let (u, y, p, f) = bind_got (literal key s) q in
      let (fs, z, a, g) = bind_got (items n y) f in
      let same = (checked_passes r fs z g).1 in
      let b : fs ≡ es = cc in
      let c : z ≡ x = cc in
      literal_only key s p ∙ ap (λ t. key ++ t) (items_only n y a) ∙ sym (row_ends key n (row fs) z more)
      ∙ ap₂ (λ es x. row_text key n (row es) ++ x) b c

  rows_more : (m : ℕ) (s : List ℕ) (es : List E) (y : List ℕ) (t : List (List E)) (x : List ℕ) → s ≡ row_text key n (row es) ++ y →
      y ≡ rows_text key m n (table t) ++ x → s ≡ rows_text key (suc m) n (table (es ∷ t)) ++ x
  rows_more m s es y t x p q =
      p ∙ ap (λ r. row_text key n (row es) ++ r) q ∙ sym (first_line_on key m n (table (es ∷ t)) x)

  rows_only : (m : ℕ) (s : List ℕ) {t : List (List E)} {x : List ℕ} → rows key r m n s ≡ got t x → s ≡ rows_text key m n (table t) ++ x
  unfolding rows rows_text each
  rows_only zero s q = cc
  rows_only (suc m) s {t} {x} q =
      let (es, y, p, f) = bind_got (line key r n s) q in
      let (u, z, g, h) = bind_got (rows key r m n y) f in
      let a : es ∷ u ≡ t = cc in
      let b : z ≡ x = cc in
      rows_more m s es y u z (line_only s p) (rows_only m y g) ∙ ap₂ (λ t x. rows_text key (suc m) n (table t) ++ x) a b

-- ---- the lines of a kind, of one kind after the other, of a kind that a sheet may have or not
section_only : (k : Section) (s : List ℕ) → 1 ≤ k.items → {t : List (List E)} {x : List ℕ} → section k s ≡ got t x →
    s ≡ section_text k (table t) ++ x
section_only k s more q = rows_only k.key k.content k.items more k.lines s q

-- the tables of as many kinds as there are, by their places
abbrev pub tables_at : List Section → (ℕ → List (List E)) → List Mat
tables_at [] part = []
tables_at (k ∷ ks) part = table (part 0) ∷ tables_at ks (λ i. part (suc i))

-- each kind has items in its lines
abbrev SomeItems : List Section → Type 0
SomeItems [] = Unit {0}
SomeItems (k ∷ ks) = (1 ≤ k.items) × SomeItems ks

sections_more : (k : Section) (ks : List Section) (s : List ℕ) (t : List (List E)) (y : List ℕ) (ts : List (List (List E))) (x : List ℕ) →
    s ≡ section_text k (table t) ++ y → y ≡ sections_text ks (tables_at ks (part ts)) ++ x →
    s ≡ sections_text (k ∷ ks) (tables_at (k ∷ ks) (part (t ∷ ts))) ++ x
sections_more k ks s t y ts x p q =
    p ∙ ap (λ r. section_text k (table t) ++ r) q ∙ sym (append_assoc (section_text k (table t)) (sections_text ks (tables_at ks (part ts))) x)

pub sections_only : (ks : List Section) (s : List ℕ) → SomeItems ks → {ts : List (List (List E))} {x : List ℕ} → sections ks s ≡ got ts x →
    s ≡ sections_text ks (tables_at ks (part ts)) ++ x
unfolding sections
sections_only [] s more q = cc
sections_only (k ∷ ks) s (one, more) {ts} {x} q =
    let (t, y, p, f) = bind_got (section k s) q in
    let (us, z, g, h) = bind_got (sections ks y) f in
    let a : t ∷ us ≡ ts = cc in
    let b : z ≡ x = cc in
    sections_more k ks s t y us z (section_only k s one p) (sections_only ks y more g)
    ∙ ap₂ (λ ts x. sections_text (k ∷ ks) (tables_at (k ∷ ks) (part ts)) ++ x) a b

pub optional_only : (k : Section) (s : List ℕ) → 1 ≤ k.items → {o : Option Mat} {x : List ℕ} → optional k s ≡ got o x →
    s ≡ optional_text k o ++ x
unfolding optional
optional_only k s more {o} {x} q = go (got? (literal k.key s)) q
  where
    go : (b : Bool) → cond b (section k s >>= λ t s. got (some (table t)) s) (got none s) ≡ got o x → s ≡ optional_text k o ++ x
    go true q =
        let (t, z, p, f) = bind_got (section k s) q in
        let a : some (table t) ≡ o = cc in
        let b : z ≡ x = cc in
        section_only k s more p ∙ ap₂ (λ o x. optional_text k o ++ x) a b
    go false q =
        let a : none ≡ o = cc in
        let b : s ≡ x = cc in
        ap₂ (λ o x. optional_text k o ++ x) a b
