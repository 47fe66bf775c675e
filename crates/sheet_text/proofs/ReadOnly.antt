-- The other way round: the bytes of a sheet that was read are the text of its tables.
use mathlib.Core.Path.{◌≡◌, refl, ap, ap₂, sym, subst, ◌∙◌}
use mathlib.Core.List.{List, [], ◌∷◌, ◌++◌}
use mathlib.Core.Bool.{Bool, true, false, cond}
use mathlib.Core.Option.{Option, none, some}
use Prim.Native.Nat.{ℕ, zero, suc, ◌≤◌, ◌<◌}
use native.Mathlib.Omega.{arith}
use lib.Dec.{ltb}
use lib.ListN.{length, get_or}
use Rattle.maxplus.specs.Entry.{E, absent, val}
use Rattle.maxplus.specs.Finite.{each}
use Rattle.maxplus.specs.Tables.{Mat}
use Rattle.sheet.specs.Text.{bytes}
use Rattle.sheet.specs.Good.{RowsOf}
use Rattle.sheet.specs.Sheet.{got, got?, ◌>>=◌, literal, size, entry, mark, absent?, table, kind, ruled, sections, sizes, tables, optional, land_kind}
use Rattle.sheet.specs.Sheet.{last_kind, part, panels_line, triggers_line, lag_lines, floor_line, due_line, after_lines, Sheet, count, moments, measure_of}
use Rattle.sheet.specs.Sheet.{sheet_of, sized, lines, read}
use Rattle.sheet.proofs.LineLaws.{none_at, bind_got, passed, there}
use Rattle.sheet.proofs.SectionLaws.{row_long, row_passes, sections_of, optional_of, size_read}
use Rattle.sheet.proofs.Good.{size_good, finished_got}
use Rattle.sheet_text.specs.SheetText.{rows_text, section_text, sections_text, optional_text, size_line, one_line, number_line, rule_text, if_given}
use Rattle.sheet_text.specs.SheetText.{sheet_text}
use Rattle.sheet_text.proofs.LineText.{rows_same}
use Rattle.sheet_text.proofs.ReadBack.{sizes_text, tables_text, rest_text, text_parts}
use Rattle.sheet_text.proofs.ItemOnly.{literal_only}
use Rattle.sheet_text.proofs.LineOnly.{tables_at, sections_only, optional_only}

-- ---- the line of a rule, or nothing
abbrev rule_line : Bool → List ℕ
rule_line two = cond two (bytes "rule=2\n") []

ruled_only : (s : List ℕ) {two : Bool} {x : List ℕ} → ruled s ≡ got two x → s ≡ rule_line two ++ x
unfolding ruled
ruled_only s {two} {x} e = go (got? (literal (bytes "rule=") s)) e
  where
    go : (b : Bool) → cond b (literal (bytes "rule=2\n") s >>= λ _ s. got true s) (got false s) ≡ got two x → s ≡ rule_line two ++ x
    go true e =
        let (u, y, p, q) = bind_got (literal (bytes "rule=2\n") s) e in
        let (c, d) : (true ≡ two) × (y ≡ x) = (cc, cc) in
        literal_only (bytes "rule=2\n") s p ∙ ap₂ (λ b r. rule_line b ++ r) c d
    go false e = let (c, d) : (false ≡ two) × (s ≡ x) = (cc, cc) in ap₂ (λ b r. rule_line b ++ r) c d

rule_same : (two : Bool) (ts : List (List (List E))) → rule_text (measure_of two ts) ≡ rule_line two
rule_same true ts = refl
rule_same false ts = refl

-- ---- a size, a line of entries and one of marks, as a sheet holds them: the same entries within the sizes, and so the same text
size_same : {t : List (List E)} → RowsOf size 1 1 t → (i j : ℕ) → i < 1 → j < 1 → table t i j ≡ size_line (count t) i j
unfolding val
size_same R zero zero h q = let (k, e, few) = size_read R in rw e
size_same R zero (suc j) h q = absurd (let x : ⊥ = omega arith in x)
size_same R (suc i) j h q = absurd (let x : ⊥ = omega arith in x)

line_same : (A : Mat) (i j : ℕ) → i < 1 → A i j ≡ one_line (A 0) i j
line_same A zero j h = refl
line_same A (suc i) j h = absurd (let x : ⊥ = omega arith in x)

marks_same : {n : ℕ} {t : List (List E)} → RowsOf mark 1 n t → (i j : ℕ) → i < 1 → j < n →
    table t i j ≡ number_line (λ j. val (table t 0 j)) i j
marks_same {t = t} R zero j h q =
    there (table t 0 j) (none_at absent? absent (get_or t 0 []) j (row_passes R 0 (omega arith)).1 (let l = row_long R 0 (omega arith) in omega arith))
marks_same R (suc i) j h q = absurd (let x : ⊥ = omega arith in x)

sizes_same : (s : List ℕ) {ps : List (List (List E))} {x : List ℕ} → sections sizes s ≡ got ps x →
    sections_text sizes (tables_at sizes (part ps)) ≡
    sections_text sizes (size_line (count (part ps panels_line)) ∷ size_line (count (part ps triggers_line)) ∷ [])
sizes_same s e =
    ap₂ (λ p q. p ++ (q ++ [])) (rows_same (bytes "panels=") 1 1 _ _ (size_same (sections_of sizes s e panels_line refl)))
    (rows_same (bytes "triggers=") 1 1 _ _ (size_same (sections_of sizes s e triggers_line refl)))

module _ (m n : ℕ) where
  tables_same : (two : Bool) (s : List ℕ) {ts : List (List (List E))} {x : List ℕ} (land last : Option Mat) → sections (tables two m n) s ≡ got ts x →
      sections_text (tables two m n) (tables_at (tables two m n) (part ts)) ≡ tables_text (sheet_of two m n ts land last)
  unfolding rows_text each
  tables_same true s land last e = refl
  tables_same false s {ts} land last e =
      ap₂ (λ p q. section_text (kind "lag=" entry m n) (table (part ts lag_lines)) ++ (p ++ (q ++
      (section_text (kind "after=" entry n n) (table (part ts after_lines)) ++ []))))
      (rows_same (bytes "floor=") 1 m _ _ (λ i j h q. line_same (table (part ts floor_line)) i j h))
      (rows_same (bytes "due=") 1 n _ _ (marks_same (sections_of (tables false m n) s e due_line refl)))

  last_same : (s : List ℕ) (o : Option Mat) {x : List ℕ} → optional (last_kind m) s ≡ got o x →
      optional_text (last_kind m) o ≡ optional_text (last_kind m) (if_given number_line (moments o))
  last_same s none e = refl
  last_same s (some c) e =
      let (t, R, same) = optional_of (last_kind m) s e in
      rows_same (bytes "last=") 1 m c _ (λ i j h q. rw (← same) (marks_same R i j h q))

  -- what is read behind the sizes, kind by kind: the lines of each kind were written so in front of what they leave, and nothing is left
  rest_only : (two : Bool) → 1 ≤ m → 1 ≤ n → (s : List ℕ) {t : Sheet} {r : List ℕ} → sized two m n s ≡ got t r →
      (rule_text t.measure ≡ rule_line two) × (t.panels ≡ m) × (t.triggers ≡ n) × (s ≡ rest_text t)
  rest_only two some-m some-n s e =
      let (ts, x, a, f) = bind_got (sections (tables two m n) s) e in
      let (land, y, b, g) = bind_got (optional (land_kind m n) x) f in
      let (last, z, c, h) = bind_got (optional (last_kind m) y) g in
      let end = finished_got two m n ts land last z h in
      subst (λ t. (rule_text t.measure ≡ rule_line two) × (t.panels ≡ m) × (t.triggers ≡ n) × (s ≡ rest_text t)) end.is
      (rule_same two ts, refl, refl, parts ts land last x y z a b c end.none_left)
    where
      parts : (ts : List (List (List E))) (land last : Option Mat) (x y z : List ℕ) → sections (tables two m n) s ≡ got ts x →
          optional (land_kind m n) x ≡ got land y → optional (last_kind m) y ≡ got last z → z ≡ [] → s ≡ rest_text (sheet_of two m n ts land last)
      parts ts land last x y z a b c none_left =
          sections_only (tables two m n) s (some-n, (some-m, (some-n, (some-n, tt)))) a ∙ ap₂ ◌++◌ (tables_same two s land last a)
          (optional_only (land_kind m n) x some-m b ∙ ap (λ r. optional_text (land_kind m n) land ++ r)
          (optional_only (last_kind m) y some-m c ∙ ap₂ ◌++◌ (last_same y last c) none_left))

-- Any line of a rule and the two size lines likewise, and then the rest with the rule and the sizes that they give.
pub read_only : (s : List ℕ) (t : Sheet) (r : List ℕ) → read s ≡ got t r → sheet_text t ≡ s
unfolding read lines
read_only s t r e =
    let f = (passed (ltb 2048 (length s)) 1 (lines s) e).1 in
    let (two, v, b, h) = bind_got (ruled s) f in
    let (ps, x, a, g) = bind_got (sections sizes v) h in
    let (some-m, few-m) = size_good (sections_of sizes v a panels_line refl) in
    let (some-n, few-n) = size_good (sections_of sizes v a triggers_line refl) in
    let (rule, p, q, rest) = rest_only (count (part ps panels_line)) (count (part ps triggers_line)) two some-m some-n x g in
    text_parts t ∙ ap₂ ◌++◌ rule (whole v ps x a p q rest) ∙ sym (ruled_only s b)
  where
    whole : (v : List ℕ) (ps : List (List (List E))) (x : List ℕ) → sections sizes v ≡ got ps x → t.panels ≡ count (part ps panels_line) →
        t.triggers ≡ count (part ps triggers_line) → x ≡ rest_text t → sizes_text t ++ rest_text t ≡ v
    whole v ps x a p q rest =
        ap₂ (λ k l. sections_text sizes (size_line k ∷ size_line l ∷ []) ++ rest_text t) p q
        ∙ sym (sections_only sizes v (omega arith, (omega arith, tt)) a ∙ ap₂ ◌++◌ (sizes_same v a) rest)
