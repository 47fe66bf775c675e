-- The most bytes that a good sheet can have: those of all lines for six panels and six triggers, with -100000 for every entry. Each law is about
-- any kind of line; a further kind moves only the sum.
use mathlib.Core.Path.{◌≡◌, refl, ap}
use mathlib.Core.List.{List, [], ◌∷◌}
use mathlib.Core.Bool.{Bool, true, false, cond, ◌&&◌}
use mathlib.Core.Option.{none, some}
use Prim.Native.Nat.{ℕ, zero, suc, ◌+◌, ◌-◌, ◌*◌, ◌≤◌, ◌<◌}
use Prim.Native.String.{String}
use native.Mathlib.Nat.{le_refl, suc-mul, mul-le-mul}
use native.Mathlib.Omega.{arith}
use borrow.Author.Tests.{ltb-false, leb-true}
use lib.Dec.{leb, ltb, eqb}
use lib.IntN.{pos}
use lib.ListN.{length}
use Rattle.maxplus.specs.Whole.{up, dn}
use Rattle.maxplus.specs.Entry.{E, absent, num}
use Rattle.maxplus.proofs.WholeLaws.{up_neg}
use Rattle.cue.specs.Sizes.{size_limit}
use Rattle.sheet.specs.Text.{bytes}
use Rattle.sheet.specs.Good.{Passes}
use Rattle.sheet.specs.Sheet.{Got, got, refused, got?, ◌>>=◌, literal, digit, leading, value, behind, signed, item, ending, ended, items, line, rows}
use Rattle.sheet.specs.Sheet.{Content, size, entry, mark, limit, out_of_range, absent?, no_size, any, checked, table, Section, kind, sizes, tables}
use Rattle.sheet.specs.Sheet.{panels_line, triggers_line, section, sections, optional, land_kind, last_kind, part, count, Sheet}
use Rattle.sheet.specs.Sheet.{ruled, lines, read}
use Rattle.sheet.proofs.LineLaws.{none_or, not_got, bind_got, passed, checked_passes, size_there}
use Rattle.sheet.proofs.SectionLaws.{sections_of}
use Rattle.sheet.proofs.Good.{size_good, finished_got}

-- ---- how many bytes each part can have
-- the digits behind an item's minus: none in a size, which has no minus; six in an entry or a mark, as in -100000
abbrev pub places : Content → ℕ
places size = 0
places entry = 6
places mark = 6

-- an item (a minus and its digits, or one digit more and no minus) with the comma or LF behind it; a line; all lines of a kind, of several kinds
abbrev pub item_most : Content → ℕ
item_most r = places r + 2

abbrev pub line_most : Section → ℕ
line_most k = length k.key + k.items * item_most k.content

abbrev pub section_most : Section → ℕ
section_most k = k.lines * line_most k

abbrev pub sections_most : List Section → ℕ
sections_most [] = 0
sections_most (k ∷ ks) = section_most k + sections_most ks

-- a sheet with six panels, six triggers, land lines and a last line, with marks: under rule 2 more is left out than the line of the rule has
abbrev pub longest : ℕ
longest = sections_most sizes + sections_most (tables false size_limit size_limit) + section_most (land_kind size_limit size_limit) +
    section_most (last_kind size_limit)

pub longest_is : longest ≡ 1133
unfolding bytes
longest_is = refl

-- ---- numerals
-- c followed by k zeros
abbrev tens : ℕ → ℕ → ℕ
tens zero c = c
tens (suc k) c = tens k (c * 10)

value_grows : (v : ℕ) (s : List ℕ) → v ≤ value v s
unfolding value
value_grows v [] = omega arith
value_grows v (b ∷ s) = go (digit b) (value_grows (v * 10 + (b - 48)) s)
  where
    go : (d : Bool) → v * 10 + (b - 48) ≤ value (v * 10 + (b - 48)) s → v ≤ cond d (value (v * 10 + (b - 48)) s) v
    go true h = omega arith
    go false h = omega arith

-- Each further digit makes a value at least ten times as large. So a value that was c or more, and is still below c with k zeros behind it, had
-- fewer than k digits more.
few_digits : (k c v : ℕ) (s : List ℕ) → c ≤ v → value v s < tens k c → length s < length (behind s) + k
unfolding value behind
few_digits zero c v s h l = absurd (let g = value_grows v s in let x : ⊥ = omega arith in x)
few_digits (suc k) c v [] h l = omega arith
few_digits (suc k) c v (b ∷ s) h l = go (digit b) (few_digits k (c * 10) (v * 10 + (b - 48)) s (omega arith)) l
  where
    go : (d : Bool) → (value (v * 10 + (b - 48)) s < tens k (c * 10) → length s < length (behind s) + k) →
        cond d (value (v * 10 + (b - 48)) s) v < tens k (c * 10) → suc (length s) < length (cond d (behind s) (b ∷ s)) + suc k
    go true ih l = let r = ih l in omega arith
    go false ih l = omega arith

-- a numeral starts with 1 or more
numeral_few : (k b : ℕ) (s : List ℕ) → leading b ≡ true → value (b - 48) s < tens k 1 → length s < length (behind s) + k
numeral_few k b s e = few_digits k 1 (b - 48) s (let h = leb-true 49 b (first (leb 49 b) (leb b 57) e) in omega arith)
  where
    first : (t u : Bool) → t && u ≡ true → t ≡ true
    first true u e = refl
    first false u e = e

-- ---- what a part of a sheet takes: a law for each way in which reading goes on
-- reading took at most w of n bytes, if what it gave has P
record Taken {A : Type 0} (P : A → Type 0) (w n : ℕ) (g : Got A) : Type 0 where
  took : (a : A) (x : List ℕ) → g ≡ got a x → P a → n ≤ length x + w

abbrev Any : {A : Type 0} → A → Type 0
Any a = Unit {0}

module _ {A : Type 0} {P : A → Type 0} {w n : ℕ} where
  got_takes : (a : A) (x : List ℕ) → (P a → n ≤ length x + w) → Taken P w n (got a x)
  got_takes a x h = record { took = λ b y e p. let (c, d) : (a ≡ b) × (x ≡ y) = (cc, cc) in omega (arith, h (rw c p), ap length d) }

  refused_takes : {k : ℕ} → Taken P w n (refused k)
  refused_takes = record { took = λ a x e p. absurd (not_got e) }

  if_takes : (t : Bool) {g h : Got A} → (t ≡ true → Taken P w n g) → Taken P w n h → Taken P w n (cond t g h)
  if_takes true p q = p refl
  if_takes false p q = q

  then_takes : {B : Type 0} {Q : B → Type 0} {v m : ℕ} {g : Got B} {f : B → List ℕ → Got A} → Taken Q v m g →
      ((b : B) (x : List ℕ) → (Q b → m ≤ length x + v) → Taken P w n (f b x)) → Taken P w n (g >>= f)
  then_takes {g = g} h k = record { took = λ a y e p. let (b, x, i, j) = bind_got g e in (k b x (h.took b x i)).took a y j p }

literal_takes : (k s : List ℕ) → Taken Any (length k) (length s) (literal k s)
unfolding literal
literal_takes [] s = got_takes tt s (λ h. omega arith)
literal_takes (b ∷ k) [] = refused_takes
literal_takes (b ∷ k) (c ∷ s) = if_takes (eqb c b) (λ e. record { took = λ u x p h. omega (arith, (literal_takes k s).took u x p h) }) refused_takes

-- ---- items
-- absent, or a number of at most l digits behind a minus, l + 1 without one
abbrev Narrow : ℕ → E → Type 0
Narrow l absent = Unit {0}
Narrow l (num z) = (up z < tens (suc l) 1) × (dn z < tens l 1)

-- such an item has at most l + 1 bytes: a lone minus or 0 has one
signed_takes : (l : ℕ) (s : List ℕ) → Taken (Narrow l) (suc l) (suc (length s)) (signed s)
unfolding signed
signed_takes l [] = got_takes absent [] (λ h. omega arith)
signed_takes l (b ∷ s) =
    let v = value (b - 48) s in
    if_takes (leading b) (λ e. got_takes _ (behind s) (λ h. omega (arith, numeral_few l b s e (omega (arith, h.1, up_neg (pos v))))))
    (got_takes absent (b ∷ s) (λ h. omega arith))

item_takes : (l : ℕ) (s : List ℕ) → Taken (Narrow l) (suc l) (length s) (item s)
unfolding item
item_takes l [] = refused_takes
item_takes l (b ∷ s) =
    if_takes (eqb b 0x30) (λ e. got_takes _ s (λ h. omega arith))
    (if_takes (eqb b 0x2D) (λ e. signed_takes l s)
    (if_takes (leading b) (λ e. got_takes _ (behind s) (λ h. omega (arith, numeral_few (suc l) b s e h.0))) refused_takes))

pub one_ending : (k : ℕ) → length (ending k) ≡ 1
unfolding bytes
one_ending zero = refl
one_ending (suc k) = refl

ended_takes : (l k : ℕ) (s : List ℕ) → Taken (Narrow l) (l + 2) (length s) (ended k s)
unfolding ended
ended_takes l k s =
    then_takes (item_takes l s) (λ e y p.
    then_takes (literal_takes (ending k) y) (λ u x q.
    got_takes e x (λ h. omega (arith, p h, q tt, one_ending k))))

-- ---- entries that their line allows have no more digits than that
range_narrow : (e : E) → out_of_range e ≡ false → Narrow (places entry) e
range_narrow absent h = tt
range_narrow (num z) h =
    let (a, b) = none_or (ltb limit (up z)) (ltb limit (dn z)) h in
    (omega (arith, ltb-false limit (up z) a), omega (arith, ltb-false limit (dn z) b))

passes_narrow : (r : Content) (e : E) (es : List E) → Passes r (e ∷ es) → Narrow (places r) e × Passes r es
unfolding any
passes_narrow size e es (h, g) =
    let (a, b) = none_or (absent? e) (any absent? es) h in
    let (c, d) = none_or (no_size e) (any no_size es) g in
    let (m, q, l) = size_there e a c in
    (rw q (omega arith, omega arith), (b, d))
passes_narrow entry e es h = let (a, b) = none_or (out_of_range e) (any out_of_range es) h in (range_narrow e a, b)
passes_narrow mark e es (h, g) =
    let (a, b) = none_or (out_of_range e) (any out_of_range es) h in
    (range_narrow e a, (b, (none_or (absent? e) (any absent? es) g).1))

-- ---- lines
items_take : (r : Content) (k : ℕ) (s : List ℕ) → Taken (Passes r) (k * item_most r) (length s) (items k s)
unfolding items
items_take r zero s = got_takes [] s (λ h. omega arith)
items_take r (suc k) s =
    then_takes (ended_takes (places r) k s) (λ e y p.
    then_takes (items_take r k y) (λ es x q.
    got_takes (e ∷ es) x (λ h. let (a, b) = passes_narrow r e es h in omega (arith, p a, q b, suc-mul k (item_most r)))))

checked_takes : (r : Content) (es : List E) (x : List ℕ) {w n : ℕ} → (Passes r es → n ≤ length x + w) → Taken Any w n (checked r es x)
checked_takes r es x h =
    record { took = λ fs y e p. let (a, b) = checked_passes r es x e in let d : x ≡ y = cc in omega (arith, h a, ap length d) }

module _ (k : Section) where
  line_takes : (s : List ℕ) → Taken Any (line_most k) (length s) (line k.key k.content k.items s)
  unfolding line
  line_takes s =
      then_takes (literal_takes k.key s) (λ u y p.
      then_takes (items_take k.content k.items y) (λ es x q.
      checked_takes k.content es x (λ h. omega (arith, p tt, q h))))

  rows_take : (i : ℕ) (s : List ℕ) → Taken Any (i * line_most k) (length s) (rows k.key k.content i k.items s)
  unfolding rows
  rows_take zero s = got_takes [] s (λ h. omega arith)
  rows_take (suc i) s =
      then_takes (line_takes s) (λ es y p.
      then_takes (rows_take i y) (λ t x q.
      got_takes (es ∷ t) x (λ h. omega (arith, p tt, q tt, suc-mul i (line_most k)))))

  section_takes : (s : List ℕ) → Taken Any (section_most k) (length s) (section k s)
  section_takes s = rows_take k.lines s

  optional_takes : (s : List ℕ) → Taken Any (section_most k) (length s) (optional k s)
  unfolding optional
  optional_takes s =
      if_takes (got? (literal k.key s)) (λ e. then_takes (section_takes s) (λ t x p. got_takes (some (table t)) x p))
      (got_takes none s (λ h. omega arith))

sections_take : (ks : List Section) (s : List ℕ) → Taken Any (sections_most ks) (length s) (sections ks s)
unfolding sections
sections_take [] s = got_takes [] s (λ h. omega arith)
sections_take (k ∷ ks) s =
    then_takes (section_takes k s) (λ t y p.
    then_takes (sections_take ks y) (λ ts x q.
    got_takes (t ∷ ts) x (λ h. omega (arith, p tt, q tt))))

-- ---- the sheet
-- fewer and shorter lines take no more
kind_most : (key : String) (r : Content) {i j m n : ℕ} → i ≤ m → j ≤ n → section_most (kind key r i j) ≤ section_most (kind key r m n)
kind_most key r h g = mul-le-mul h (let q = mul-le-mul g (le_refl (item_most r)) in omega arith)

-- the bytes of the line of a rule
abbrev pub rule_most : Bool → ℕ
rule_most two = cond two (length (bytes "rule=2\n")) 0

ruled_takes : (s : List ℕ) {two : Bool} {x : List ℕ} → ruled s ≡ got two x → length s ≤ length x + rule_most two
unfolding ruled
ruled_takes s {two} {x} e = go (got? (literal (bytes "rule=") s)) e
  where
    go : (b : Bool) → cond b (literal (bytes "rule=2\n") s >>= λ _ s. got true s) (got false s) ≡ got two x → length s ≤ length x + rule_most two
    go true e =
        let (u, y, p, q) = bind_got (literal (bytes "rule=2\n") s) e in
        let (c, d) : (true ≡ two) × (y ≡ x) = (cc, cc) in
        rw (← c, ← d) ((literal_takes (bytes "rule=2\n") s).took u y p tt)
    go false e = let (c, d) : (false ≡ two) × (s ≡ x) = (cc, cc) in rw (← c, ← d) (omega arith)

pub tables_most : (two : Bool) (m n : ℕ) → m ≤ size_limit → n ≤ size_limit →
    rule_most two + sections_most (tables two m n) ≤ sections_most (tables false size_limit size_limit)
unfolding bytes
tables_most false m n h g =
    omega (arith, kind_most "lag=" entry h g, kind_most "floor=" entry (le_refl 1) h, kind_most "due=" mark (le_refl 1) g, kind_most "after=" entry g g)
tables_most true m n h g = omega (arith, kind_most "lag=" entry h g, kind_most "after=" entry g g)

-- no good sheet has more bytes
pub longest_good : (s : List ℕ) (t : Sheet) (r : List ℕ) → read s ≡ got t r → length s ≤ longest
unfolding read lines
longest_good s t r e =
    let f = (passed (ltb 2048 (length s)) 1 (lines s) e).1 in
    let (two, v, w, j) = bind_got (ruled s) f in
    let (ps, x, a, g) = bind_got (sections sizes v) j in
    let m = count (part ps panels_line) in
    let n = count (part ps triggers_line) in
    let few-m = (size_good (sections_of sizes v a panels_line refl)).1 in
    let few-n = (size_good (sections_of sizes v a triggers_line refl)).1 in
    let (ts, y, b, h) = bind_got (sections (tables two m n) x) g in
    let (l, z, c, i) = bind_got (optional (land_kind m n) y) h in
    let (o, u, d, k) = bind_got (optional (last_kind m) z) i in
    let first = (sections_take sizes v).took ps x a tt in
    let next = (sections_take (tables two m n) x).took ts y b tt in
    let lands = (optional_takes (land_kind m n) y).took l z c tt in
    let lasts = (optional_takes (last_kind m) z).took o u d tt in
    omega (
      arith,
      ruled_takes s w,
      first,
      next,
      tables_most two m n few-m few-n,
      lands,
      kind_most "land=" entry few-n few-m,
      lasts,
      kind_most "last=" mark (le_refl 1) few-m,
      ap length (finished_got two m n ts l o u k).none_left,
    )
