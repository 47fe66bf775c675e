-- Lines that are written are read back: a line, several with one key, one kind after the other, lines that a sheet may have or not.
use mathlib.Core.Path.{◌≡◌, refl, ap, sym, ◌∙◌}
use mathlib.Core.List.{List, [], ◌∷◌, ◌++◌, append_assoc}
use mathlib.Core.Bool.{Bool, false}
use mathlib.Core.Option.{Option, none, some}
use Prim.Native.Nat.{ℕ, zero, suc, ◌≤◌, ◌<◌}
use native.Mathlib.Omega.{arith}
use borrow.Author.Tests.{eq-eqb}
use Rattle.maxplus.specs.Entry.{E, absent}
use Rattle.maxplus.specs.Finite.{each}
use Rattle.maxplus.specs.Tables.{Vec, Mat}
use Rattle.maxplus.proofs.EachLaws.{length_each, each_at}
use Rattle.sheet.specs.Good.{Passes}
use Rattle.sheet.specs.Sheet.{got, refused, literal, ending, items, Content, size, entry, mark, out_of_range, no_size, absent?, any, checked, line, rows}
use Rattle.sheet.specs.Sheet.{table, Section, section, sections, optional}
use Rattle.sheet.proofs.LineLaws.{any_none}
use Rattle.sheet.proofs.SectionLaws.{optional_none, optional_some}
use Rattle.writing.specs.Numerals.{item}
use Rattle.sheet_text.specs.SheetText.{row_text, rows_text, section_text, sections_text, optional_text, if_given}
use Rattle.sheet_text.proofs.LineText.{each_first, ends, row_ends, first_line_on}
use Rattle.sheet_text.proofs.ItemBack.{ended_back}

-- ---- what a line allows
abbrev pub Allowed : Content → E → Type 0
Allowed size e = (absent? e ≡ false) × (no_size e ≡ false)
Allowed entry e = out_of_range e ≡ false
Allowed mark e = (out_of_range e ≡ false) × (absent? e ≡ false)

-- what stands at 0 to n − 1, and the rows of a table
abbrev pub listed : {A : Type 0} → ℕ → (ℕ → A) → List A
listed n f = each n (λ j. f j ∷ [])

abbrev pub listed_rows : (lines items : ℕ) → Mat → List (List E)
listed_rows lines items A = listed lines (λ i. listed items (A i))

module _ (n : ℕ) (v : Vec) where
  none_listed : (f : E → Bool) → ((j : ℕ) → j < n → f (v j) ≡ false) → any f (listed n v) ≡ false
  none_listed f h = any_none f absent (listed n v) (λ j q. let p : j < n = omega (arith, length_each n v) in rw (each_at n j v absent p) (h j p))

  listed_passes : (r : Content) → ((j : ℕ) → j < n → Allowed r (v j)) → Passes r (listed n v)
  listed_passes size h = (none_listed absent? (λ j q. (h j q).0), none_listed no_size (λ j q. (h j q).1))
  listed_passes entry h = none_listed out_of_range h
  listed_passes mark h = (none_listed out_of_range (λ j q. (h j q).0), none_listed absent? (λ j q. (h j q).1))

-- ---- a line
literal_back : (key s : List ℕ) → literal key (key ++ s) ≡ got tt s
unfolding literal
literal_back [] s = refl
literal_back (b ∷ key) s = rw (eq-eqb b b refl) (literal_back key s)

items_back : (k : ℕ) (v : Vec) (s : List ℕ) → items k (ends k v ++ s) ≡ got (listed k v) s
unfolding items ends each
items_back zero v s = refl
items_back (suc k) v s =
    let split : ends (suc k) v ++ s ≡ item (v 0) ++ (ending k ++ (ends k (λ j. v (suc j)) ++ s)) = simp append_assoc in
    rw (split, ended_back k (v 0) (ends k (λ j. v (suc j)) ++ s), items_back k (λ j. v (suc j)) s)
    (ap (λ l. got l s) (sym (each_first k (λ j. v j ∷ []))))

checked_back : (r : Content) (es : List E) (s : List ℕ) → Passes r es → checked r es s ≡ got es s
unfolding checked
checked_back size es s (p, q) = rw (p, q)
checked_back entry es s p = rw p
checked_back mark es s (p, q) = rw (p, q)

module _ (key : List ℕ) (r : Content) (n : ℕ) (some : 1 ≤ n) where
  line_back : (v : Vec) (s : List ℕ) → ((j : ℕ) → j < n → Allowed r (v j)) → line key r n (row_text key n v ++ s) ≡ got (listed n v) s
  unfolding line
  line_back v s allowed =
      rw (row_ends key n v s some, literal_back key (ends n v ++ s), items_back n v s) (checked_back r (listed n v) s (listed_passes n v r allowed))

  rows_back : (m : ℕ) (A : Mat) (s : List ℕ) → ((i j : ℕ) → i < m → j < n → Allowed r (A i j)) →
      rows key r m n (rows_text key m n A ++ s) ≡ got (listed_rows m n A) s
  unfolding rows rows_text each
  rows_back zero A s allowed = refl
  rows_back (suc m) A s allowed =
      let later : List ℕ = rows_text key m n (λ i. A (suc i)) in
      ap (rows key r (suc m) n) (first_line_on key m n A s) ∙
      rw (line_back (A 0) (later ++ s) (λ j. allowed 0 j (omega arith)), rows_back m (λ i. A (suc i)) s (λ i j h. allowed (suc i) j (omega arith)))
      (ap (λ t. got t s) (sym (each_first m (λ i. listed n (A i) ∷ []))))

-- ---- the lines of a kind
-- a table with lines of that kind: what stands within the sizes is allowed
pub record Fits (k : Section) (A : Mat) : Type 0 where
  pub items_some : 1 ≤ k.items
  pub allowed : (i j : ℕ) → i < k.lines → j < k.items → Allowed k.content (A i j)

abbrev pub section_rows : Section → Mat → List (List E)
section_rows k A = listed_rows k.lines k.items A

section_back : (k : Section) (A : Mat) (s : List ℕ) → Fits k A → section k (section_text k A ++ s) ≡ got (section_rows k A) s
section_back k A s F = rows_back k.key k.content k.items F.items_some k.lines A s F.allowed

-- ---- one kind after the other
abbrev pub AllFit : List Section → List Mat → Type 0
AllFit [] As = Unit {0}
AllFit (k ∷ ks) [] = ⊥
AllFit (k ∷ ks) (A ∷ As) = Fits k A × AllFit ks As

abbrev pub sections_rows : List Section → List Mat → List (List (List E))
sections_rows [] As = []
sections_rows (k ∷ ks) [] = []
sections_rows (k ∷ ks) (A ∷ As) = section_rows k A ∷ sections_rows ks As

pub sections_back : (ks : List Section) (As : List Mat) (s : List ℕ) → AllFit ks As →
    sections ks (sections_text ks As ++ s) ≡ got (sections_rows ks As) s
unfolding sections
sections_back [] As s F = refl
sections_back (k ∷ ks) [] s F = absurd F
sections_back (k ∷ ks) (A ∷ As) s (F, G) =
    rw (append_assoc (section_text k A) (sections_text ks As) s, section_back k A (sections_text ks As ++ s) F, sections_back ks As s G)

-- ---- lines that a sheet may have or not: where it has them, there is one
abbrev pub MayFit : Section → Option Mat → Type 0
MayFit k none = Unit {0}
MayFit k (some A) = (1 ≤ k.lines) × Fits k A

-- a line begins with its key
key_first : (k : Section) (A : Mat) (s : List ℕ) → 1 ≤ k.lines → Fits k A → (x : List ℕ) × (literal k.key (section_text k A ++ s) ≡ got tt x)
key_first k A s more F = go k.lines more
  where
    go : (m : ℕ) → 1 ≤ m → (x : List ℕ) × (literal k.key (rows_text k.key m k.items A ++ s) ≡ got tt x)
    go zero h = absurd (let x : ⊥ = omega arith in x)
    go (suc m) h =
        let later : List ℕ = rows_text k.key m k.items (λ i. A (suc i)) ++ s in
        let begin = first_line_on k.key m k.items A s ∙ row_ends k.key k.items (A 0) later F.items_some in
        (_, ap (literal k.key) begin ∙ literal_back k.key (ends k.items (A 0) ++ later))

-- where there are none, what comes next must not begin with their key
pub optional_back : (k : Section) (o : Option Mat) (s : List ℕ) → MayFit k o → (o ≡ none → literal k.key s ≡ refused 2) →
    optional k (optional_text k o ++ s) ≡ got (if_given (λ A. table (section_rows k A)) o) s
optional_back k none s F other = optional_none k s 2 (other refl)
optional_back k (some A) s (more, F) other =
    let (x, e) = key_first k A s more F in
    optional_some k (section_text k A ++ s) x e (section_rows k A) s (section_back k A s F)
