-- Every sheet that reading gives is good: by one law about sections, used once for each kind of line.
use mathlib.Core.Path.{◌≡◌, refl, ap, sym}
use mathlib.Core.List.{List, [], ◌∷◌}
use mathlib.Core.Bool.{Bool, true, false, cond, not, ◌&&◌}
use mathlib.Core.Option.{Option, none, some, some-injective, none-ne-some}
use Prim.Native.Nat.{ℕ, ◌≤◌, ◌<◌}
use native.Mathlib.Omega.{arith}
use lib.Dec.{T, ltb}
use lib.IntN.{ℤ, pos}
use lib.ListN.{length, get_or}
use borrow.Author.Tests.{ltb-false}
use Rattle.maxplus.specs.Whole.{up, dn, neg}
use Rattle.maxplus.specs.Entry.{E, absent, num, val, Present}
use Rattle.maxplus.specs.Tables.{Mat}
use Rattle.maxplus.proofs.EntryLaws.{num_inj, inv_num}
use Rattle.maxplus.proofs.PackingLaws.{rank_few}
use Rattle.cue.specs.Results.{Within}
use Rattle.sheet.specs.Sheet.{got, refused, Content, size, entry, mark, limit, out_of_range, absent?, any, all, table, Sheet, Measure, by_marks}
use Rattle.sheet.specs.Sheet.{by_spread, own_due, sections, sizes, tables, part, count, panels_line, triggers_line, lag_lines, floor_line, due_line}
use Rattle.sheet.specs.Sheet.{after_lines, optional, land_kind, last_kind, given_table, moments, measure_of, sheet_of, lagless, spare, some_lag_missing}
use Rattle.sheet.specs.Sheet.{ruled, finished, lines, read}
use Rattle.sheet.specs.Cue.{floor_by, due_by, used}
use Rattle.sheet.specs.Good.{RowsOf, Measured, Good}
use Rattle.sheet.proofs.LineLaws.{true_not_false, none_or, none_at, at_any, none_place, not_got, bind_got, passed, there}
use Rattle.sheet.proofs.SectionLaws.{row_long, row_passes, sections_of, optional_of, size_read}
use Rattle.sheet.proofs.WithinLaws.{within_absent, within_inv, within_sup}
use Rattle.sheet.proofs.Idle.{some_of}
use Rattle.sheet.proofs.Spares.{cue_readable}
use Rattle.sheet.proofs.Seam.{cue_limited}
use Rattle.cue.specs.Sizes.{size_limit}

-- ---- entries
pub in_range : (e : E) → out_of_range e ≡ false → Within limit limit e
in_range absent h = within_absent
in_range (num z) h =
    let p = none_or (ltb limit (up z)) (ltb limit (dn z)) h in
    let u = ltb-false limit (up z) p.0 in
    let d = ltb-false limit (dn z) p.1 in
    record { low = record { above = λ y e. rw (← num_inj e) (omega arith) }; high = record { below = λ y e. rw (← num_inj e) (omega arith) } }

module _ {r : Content} {m n : ℕ} {t : List (List E)} (R : RowsOf r m n t) (i : ℕ) (h : i < m) where
  entry_within : any out_of_range (get_or t i []) ≡ false → (j : ℕ) → j < n → Within limit limit (table t i j)
  entry_within g j q = in_range (table t i j) (none_at out_of_range absent (get_or t i []) j g (let l = row_long R i h in omega arith))

  some_there : any (all absent?) t ≡ false → (j : ℕ) × (j < n) × Present (table t i j)
  some_there g =
      let e = none_at (all absent?) [] t i g (let l = R.many in omega arith) in
      let (j, q, p) = at_any (λ e. not (absent? e)) absent (get_or t i []) (not-false _ e) in
      (j, (let l = row_long R i h in omega arith), (val (table t i j), there (table t i j) (not-true _ p)))
    where
      not-false : (b : Bool) → not b ≡ false → b ≡ true
      not-false true e = refl
      not-false false e = absurd (true_not_false e)

      not-true : (b : Bool) → not b ≡ true → b ≡ false
      not-true false e = refl
      not-true true e = absurd (true_not_false (sym e))

-- the entries of a table
table_within : {m n : ℕ} {t : List (List E)} → RowsOf entry m n t → (i j : ℕ) → i < m → j < n → Within limit limit (table t i j)
table_within R i j h q = entry_within R i h (row_passes R i h) j q

-- the due marks, which are all there
dues_within : {n : ℕ} {t : List (List E)} → RowsOf mark 1 n t → (j : ℕ) → j < n → Within limit limit (num (val (table t 0 j)))
dues_within {t = t} R j q =
    let p = row_passes R 0 (omega arith) in
    let w = entry_within R 0 (omega arith) p.0 j q in
    let l = row_long R 0 (omega arith) in
    rw (← there (table t 0 j) (none_at absent? absent (get_or t 0 []) j p.1 (omega arith))) w

-- ---- the land lines
land_within : (m n : ℕ) (s : List ℕ) (land : Option Mat) {x : List ℕ} → optional (land_kind m n) s ≡ got land x →
    (i j : ℕ) → i < n → j < m → Within limit limit (given_table land i j)
land_within m n s none e i j h q = in_range absent refl
land_within m n s (some c) e i j h q =
    let (t, R, same) = optional_of (land_kind m n) s e in
    rw (← same) (table_within R i j h q)

-- ---- the last line
last_within : (m : ℕ) (s : List ℕ) (last : Option Mat) {x : List ℕ} → optional (last_kind m) s ≡ got last x → (b : ℕ → ℤ) →
    moments last ≡ some b → (i : ℕ) → i < m → Within limit limit (num (b i))
last_within m s none e b f i h = absurd (none-ne-some b f)
last_within m s (some c) e b f i h =
    let (t, R, same) = optional_of (last_kind m) s e in
    rw (← ap (λ g. g i) (some-injective _ b f)) (rw (← same) (dues_within R i h))

-- ---- the marks: those of a sheet, and those of rule 2
module _ (two : Bool) (m n : ℕ) (s : List ℕ) {ts : List (List (List E))} {x : List ℕ} (e : sections (tables two m n) s ≡ got ts x) where
  dues_of : (j : ℕ) → j < n → Within limit limit (own_due (measure_of two ts) j)
  dues_of = go two e
    where
      go : (two : Bool) → sections (tables two m n) s ≡ got ts x → (j : ℕ) → j < n → Within limit limit (own_due (measure_of two ts) j)
      go true e j h = within_absent
      go false e j h = dues_within (sections_of (tables false m n) s e due_line refl) j h

  floors_within : (i : ℕ) → i < m → Within limit limit (floor_by (measure_of two ts) i)
  floors_within = go two e
    where
      go : (two : Bool) → sections (tables two m n) s ≡ got ts x → (i : ℕ) → i < m → Within limit limit (floor_by (measure_of two ts) i)
      go true e i h = in_range (num (pos 0)) refl
      go false e i h = table_within (sections_of (tables false m n) s e floor_line refl) 0 i (omega arith) h

  some_floor : 1 ≤ m → any (all absent?) (part ts floor_line) ≡ false → (i : ℕ) × (i < m) × Present (floor_by (measure_of two ts) i)
  some_floor some-m = go two e
    where
      go : (two : Bool) → sections (tables two m n) s ≡ got ts x → any (all absent?) (part ts floor_line) ≡ false →
          (i : ℕ) × (i < m) × Present (floor_by (measure_of two ts) i)
      go true e g = (0, omega arith, (pos 0, refl))
      go false e g = some_there (sections_of (tables false m n) s e floor_line refl) 0 (omega arith) g

-- a sheet's own due marks are as large as they are read, those of rule 2 as a lag
due_within : (t : Sheet) → ((i j : ℕ) → i < t.panels → j < t.triggers → Within limit limit (t.lag i j)) →
    ((j : ℕ) → j < t.triggers → Within limit limit (own_due t.measure j)) →
    (j : ℕ) → j < t.triggers → Within limit limit (num (due_by t.panels t.lag t.measure j))
unfolding val neg
due_within t lags dues j h = go t.measure dues
  where
    number : (a : E) → Within limit limit a → Within limit limit (num (neg (val a)))
    number absent w = in_range (num (pos 0)) refl
    number (num z) w = rw (inv_num z) at (within_inv w)

    go : (M : Measure) → ((j : ℕ) → j < t.triggers → Within limit limit (own_due M j)) → Within limit limit (num (due_by t.panels t.lag M j))
    go (by_marks p q) d = d j h
    go by_spread d = number _ (within_sup t.panels _ (λ i k. lags i j k h))

-- where 14 is not met
lags_there : (t : Sheet) → some_lag_missing t ≡ false → Measured t by_spread
lags_there t e j h s =
    let c = none_place t.triggers (λ j. not (spare t j) && lagless t j) e j h in
    reached (lagless t j) (not_both (not (spare t j)) (lagless t j) s c) refl
  where
    not_both : (a b : Bool) → T a → a && b ≡ false → b ≡ false
    not_both true b p e = e
    not_both false b p e = absurd p

    reached : (b : Bool) → b ≡ false → lagless t j ≡ b → (i : ℕ) × (i < t.panels) × Present (t.lag i j)
    reached true e f = absurd (true_not_false e)
    reached false e f = some_of t.panels (λ i. t.lag i j) f

-- ---- the sheet
module _ (two : Bool) (m n : ℕ) (some-m : 1 ≤ m) (few-m : m ≤ size_limit) (some-n : 1 ≤ n) (few-n : n ≤ size_limit) (s : List ℕ)
    {ts : List (List (List E))} {x : List ℕ} (e : sections (tables two m n) s ≡ got ts x) where
  parts_good : (land last : Option Mat) {y z : List ℕ} → optional (land_kind m n) x ≡ got land y → optional (last_kind m) y ≡ got last z →
      any (all absent?) (part ts lag_lines) ≡ false → any (all absent?) (part ts floor_line) ≡ false →
      two && some_lag_missing (sheet_of two m n ts land last) ≡ false → Good (sheet_of two m n ts land last)
  parts_good land last {y} f g no_lag no-floor none_missing =
      let t = sheet_of two m n ts land last in
      let lags = sections_of (tables two m n) s e lag_lines refl in
      let afters = sections_of (tables two m n) s e after_lines refl in
      record {
        panels_few = few-m;
        triggers_some = some-n;
        triggers_few = few-n;
        few = let h = rank_few (used t) n in omega arith;
        readable = cue_readable t (some_floor two m n s e some-m no-floor) (λ i h. some_there lags i h no_lag);
        lags = table_within lags;
        measured = measured two none_missing;
        dues = dues_of two m n s e;
        afters = table_within afters;
        lands = land_within m n x land f;
        lasts = last_within m y last g;
        limited = cue_limited t (table_within lags) (floors_within two m n s e) (due_within t (table_within lags) (dues_of two m n s e))
            (table_within afters) (land_within m n x land f);
      }
    where
      measured : (b : Bool) → b && some_lag_missing (sheet_of two m n ts land last) ≡ false → Measured (sheet_of two m n ts land last) (measure_of b ts)
      measured true h = lags_there (sheet_of two m n ts land last) h
      measured false h = tt

-- what is known once the end is reached: nothing is left, each panel has a lag, some panel a floor, and under rule 2 each trigger that is not
-- spare a lag
pub record Ended (two : Bool) (m n : ℕ) (ts : List (List (List E))) (l d : Option Mat) (y : List ℕ) (t : Sheet) : Type 0 where
  pub none_left : y ≡ []
  pub lagged : any (all absent?) (part ts lag_lines) ≡ false
  pub floored : any (all absent?) (part ts floor_line) ≡ false
  pub measured : two && some_lag_missing (sheet_of two m n ts l d) ≡ false
  pub is : sheet_of two m n ts l d ≡ t

pub finished_got : (two : Bool) (m n : ℕ) (ts : List (List (List E))) (l d : Option Mat) (y : List ℕ) {t : Sheet} {x : List ℕ} →
    finished two m n ts l d y ≡ got t x → Ended two m n ts l d y t
finished_got two m n ts l d (b ∷ y) e = absurd (not_got e)
finished_got two m n ts l d [] {t} e =
    let last = cond (two && some_lag_missing (sheet_of two m n ts l d)) (refused 14) (got (sheet_of two m n ts l d) []) in
    let (f, g) = passed (any (all absent?) (part ts lag_lines)) 6 (cond (any (all absent?) (part ts floor_line)) (refused 7) last) e in
    let (h, i) = passed (any (all absent?) (part ts floor_line)) 7 last g in
    let (j, k) = passed (two && some_lag_missing (sheet_of two m n ts l d)) 14 (got (sheet_of two m n ts l d) []) i in
    record { none_left = refl; lagged = f; floored = h; measured = j; is = cc }

pub size_good : {t : List (List E)} → RowsOf size 1 1 t → (1 ≤ count t) × (count t ≤ size_limit)
unfolding val
size_good R = let (k, q, l) = size_read R in rw q (omega arith, l)

-- every sheet that is read is good
pub read_good : (s : List ℕ) (t : Sheet) (x : List ℕ) → read s ≡ got t x → Good t
unfolding read lines
read_good s t x e =
    let f = (passed (ltb 2048 (length s)) 1 (lines s) e).1 in
    let (two, u, r, p) = bind_got (ruled s) f in
    let (ps, y, a, g) = bind_got (sections sizes u) p in
    let m = size_good (sections_of sizes u a panels_line refl) in
    let n = size_good (sections_of sizes u a triggers_line refl) in
    let (ts, z, b, h) = bind_got (sections (tables two (count (part ps panels_line)) (count (part ps triggers_line))) y) g in
    let (l, v, d, i) = bind_got (optional (land_kind (count (part ps panels_line)) (count (part ps triggers_line))) z) h in
    let (o, w, j, k) = bind_got (optional (last_kind (count (part ps panels_line))) v) i in
    let end = finished_got two (count (part ps panels_line)) (count (part ps triggers_line)) ts l o w k in
    rw (← end.is) (parts_good two (count (part ps panels_line)) (count (part ps triggers_line)) m.0 m.1 n.0 n.1 y b l o d j
    end.lagged end.floored end.measured)
