-- Laws of a sheet's sections: one kind of line more, its refusal, the end; and what is true of the rows of each kind that was read.
use mathlib.Core.Path.{◌≡◌, refl, ap, ◌∙◌}
use mathlib.Core.Logic.{inl, inr}
use mathlib.Core.List.{List, [], ◌∷◌}
use mathlib.Core.Bool.{Bool, true, false, cond, ◌&&◌}
use Prim.Native.Nat.{ℕ, zero, suc, ◌≤◌, ◌<◌}
use native.Mathlib.Omega.{arith}
use borrow.Author.Tests.{lt-ltb, le-ltb}
use lib.IntN.{pos}
use lib.ListN.{length, drop, get_or, drop_of_length-le}
use mathlib.Core.Option.{Option, some}
use mathlib.Core.Option as option
use Rattle.maxplus.specs.Entry.{E, absent, num}
use Rattle.maxplus.specs.Finite.{In}
use Rattle.maxplus.specs.Tables.{Mat}
use Rattle.maxplus.proofs.FiniteLaws.{in_at}
use Rattle.sheet.specs.Text.{bytes}
use Rattle.sheet.specs.Good.{Passes, RowsOf}
use Rattle.sheet.specs.Sheet.{got, refused, got?, ◌>>=◌, literal, ended, items, Content, size, absent?, no_size, any, all, line, rows, table}
use Rattle.sheet.specs.Sheet.{Section, section, sections, optional, land_kind, last_kind, part, sizes, tables, count, panels_line}
use Rattle.sheet.specs.Sheet.{triggers_line, lag_lines, floor_line, ruled, sheet_of, some_lag_missing, finished, sized, headed}
use Rattle.sheet.specs.Sheet.{lines, read}
use Rattle.sheet.proofs.LineLaws.{bind_got, onto, front, none_at, checked_passes, size_there}
use Rattle.cue.specs.Sizes.{size_limit}

-- ---- the fold: the next kind is k
module _ (ks rest : List Section) (k : Section) (x : List ℕ) (e : ks ≡ k ∷ rest) where
  pub sections_refused : (f : ℕ) → section k x ≡ refused f → sections ks x ≡ refused f
  unfolding sections
  sections_refused f p = rw (e, p)

  pub sections_more : (t : List (List E)) (y : List ℕ) → section k x ≡ got t y → sections ks x ≡ onto (t ∷ []) (sections rest y)
  unfolding sections
  sections_more t y p = rw (e, p) (front t (sections rest y))

pub sections_end : (ks : List Section) (i : ℕ) (x : List ℕ) → length ks ≤ i → sections (drop i ks) x ≡ got [] x
unfolding sections
sections_end ks i x h = rw (drop_of_length-le ks {i = i} h)

-- ---- the rows of one kind
items_long : (k : ℕ) (s : List ℕ) {es : List E} {x : List ℕ} → items k s ≡ got es x → length es ≡ k
unfolding items
items_long zero s {es} e = let h : [] ≡ es = cc in rw (← h)
items_long (suc k) s {es} e =
    let (a, x, p, f) = bind_got (ended k s) e in
    let (fs, y, q, g) = bind_got (items k x) f in
    let h : a ∷ fs ≡ es = cc in
    rw (← h) (ap suc (items_long k x q))

module _ (key : List ℕ) (r : Content) where
  line_of : (n : ℕ) (s : List ℕ) {es : List E} {x : List ℕ} → line key r n s ≡ got es x → (length es ≡ n) × Passes r es
  unfolding line
  line_of n s {es} e =
      let (t, y, p, f) = bind_got (literal key s) e in
      let (fs, z, q, g) = bind_got (items n y) f in
      let (passes, same) = checked_passes r fs z g in
      let h : fs ≡ es = cc in
      rw (← h) (items_long n y q, passes)

  none : (n : ℕ) → RowsOf r 0 n []
  none n = record { many = refl; long = λ es h. absurd h; good = λ es h. absurd h }

  more : (m n : ℕ) (es : List E) (t : List (List E)) → (length es ≡ n) × Passes r es → RowsOf r m n t → RowsOf r (suc m) n (es ∷ t)
  more m n es t (l, p) R = record { many = ap suc R.many; long = long; good = good }
    where
      long : (fs : List E) → In fs (es ∷ t) → length fs ≡ n
      long fs (inl e) = rw e l
      long fs (inr h) = R.long fs h

      good : (fs : List E) → In fs (es ∷ t) → Passes r fs
      good fs (inl e) = rw e p
      good fs (inr h) = R.good fs h

  rows_of : (m n : ℕ) (s : List ℕ) {t : List (List E)} {x : List ℕ} → rows key r m n s ≡ got t x → RowsOf r m n t
  unfolding rows
  rows_of zero n s {t} e = let h : [] ≡ t = cc in rw (← h) (none n)
  rows_of (suc m) n s {t} e =
      let (es, y, p, f) = bind_got (line key r n s) e in
      let (u, z, q, g) = bind_got (rows key r m n y) f in
      let h : es ∷ u ≡ t = cc in
      rw (← h) (more m n es u (line_of n s p) (rows_of m n y q))

-- the rows of each kind that was read
pub sections_of : (ks : List Section) (s : List ℕ) {ts : List (List (List E))} {x : List ℕ} → sections ks s ≡ got ts x →
    (i : ℕ) {k : Section} {rest : List Section} → drop i ks ≡ k ∷ rest → RowsOf k.content k.lines k.items (part ts i)
unfolding sections
sections_of [] s e zero q = absurd (let z : ◌≡◌ {A = ℕ} 0 1 = cc in let y : ⊥ = omega arith in y)
sections_of [] s e (suc i) q = absurd (let z : ◌≡◌ {A = ℕ} 0 1 = cc in let y : ⊥ = omega arith in y)
sections_of (j ∷ ks) s {ts} e i {k} q =
    let (t, y, p, f) = bind_got (section j s) e in
    let (us, z, r, g) = bind_got (sections ks y) f in
    let h : t ∷ us ≡ ts = cc in
    rw (← h) (go i t us (rows_of j.key j.content j.lines j.items s p) (λ i k rest. sections_of ks y r i {k = k} {rest = rest}) _ _ q)
  where
    go : (i : ℕ) (t : List (List E)) (us : List (List (List E))) → RowsOf j.content j.lines j.items t →
        ((i : ℕ) (k : Section) (rest : List Section) → drop i ks ≡ k ∷ rest → RowsOf k.content k.lines k.items (part us i)) →
        (k : Section) (rest : List Section) → drop i (j ∷ ks) ≡ k ∷ rest → RowsOf k.content k.lines k.items (part (t ∷ us) i)
    go zero t us R ih k rest q = let h : j ≡ k = cc in rw (← h) R
    go (suc i) t us R ih k rest q = ih i k rest q

pub sections_many : (ks : List Section) (s : List ℕ) {ts : List (List (List E))} {x : List ℕ} → sections ks s ≡ got ts x → length ts ≡ length ks
unfolding sections
sections_many [] s {ts} e = let h : [] ≡ ts = cc in rw (← h)
sections_many (k ∷ ks) s {ts} e =
    let (t, y, p, f) = bind_got (section k s) e in
    let (us, z, r, g) = bind_got (sections ks y) f in
    let h : t ∷ us ≡ ts = cc in
    rw (← h) (ap suc (sections_many ks y r))

module _ {r : Content} {lines items : ℕ} {t : List (List E)} (R : RowsOf r lines items t) (i : ℕ) (h : i < lines) where
  in_rows : In (get_or t i []) t
  in_rows = in_at [] t i (let m = R.many in omega arith)

  pub row_long : length (get_or t i []) ≡ items
  row_long = R.long (get_or t i []) in_rows

  pub row_passes : Passes r (get_or t i [])
  row_passes = R.good (get_or t i []) in_rows

-- ---- lines that may be missing, of the kind k
module _ (k : Section) (s : List ℕ) where
  pub optional_none : (f : ℕ) → literal k.key s ≡ refused f → optional k s ≡ got option.none s
  unfolding optional
  optional_none f e = rw e

  module _ (x : List ℕ) (e : literal k.key s ≡ got tt x) where
    pub optional_refused : (f : ℕ) → section k s ≡ refused f → optional k s ≡ refused f
    unfolding optional
    optional_refused f p = rw (e, p)

    pub optional_some : (t : List (List E)) (y : List ℕ) → section k s ≡ got t y → optional k s ≡ got (some (table t)) y
    unfolding optional
    optional_some t y p = rw (e, p)

  -- those that were read
  pub optional_of : {c : Mat} {x : List ℕ} → optional k s ≡ got (some c) x →
      (t : List (List E)) × RowsOf k.content k.lines k.items t × (table t ≡ c)
  unfolding optional
  optional_of {c} {x} e = go (got? (literal k.key s)) e
    where
      go : (b : Bool) → cond b (section k s >>= λ t s. got (some (table t)) s) (got option.none s) ≡ got (some c) x →
          (t : List (List E)) × RowsOf k.content k.lines k.items t × (table t ≡ c)
      go false q = absurd (let z : ◌≡◌ {A = ℕ} 0 1 = cc in omega arith)
      go true q =
          let (t, z, p, f) = bind_got (section k s) q in
          let h : table t ≡ c = cc in
          (t, rows_of k.key k.content k.lines k.items s p, h)

-- a size line that was read has one number, 1 to 6
pub size_read : {t : List (List E)} → RowsOf size 1 1 t → (m : ℕ) × (table t 0 0 ≡ num (pos (suc m))) × (suc m ≤ size_limit)
size_read {t} R =
    let l = row_long R 0 (omega arith) in
    let p = row_passes R 0 (omega arith) in
    size_there (table t 0 0) (none_at absent? absent (get_or t 0 []) 0 p.0 (omega arith)) (none_at no_size absent (get_or t 0 []) 0 p.1 (omega arith))

-- ---- the line of a rule
module _ (s : List ℕ) where
  pub ruled_none : (f : ℕ) → literal (bytes "rule=") s ≡ refused f → ruled s ≡ got false s
  unfolding ruled
  ruled_none f e = rw e

  module _ (x : List ℕ) (e : literal (bytes "rule=") s ≡ got tt x) where
    pub ruled_refused : (f : ℕ) → literal (bytes "rule=2\n") s ≡ refused f → ruled s ≡ refused f
    unfolding ruled
    ruled_refused f p = rw (e, p)

    pub ruled_two : (y : List ℕ) → literal (bytes "rule=2\n") s ≡ got tt y → ruled s ≡ got true y
    unfolding ruled
    ruled_two y p = rw (e, p)

-- ---- the whole
module _ (two : Bool) (m n : ℕ) (x : List ℕ) where
  pub sized_refused : (f : ℕ) → sections (tables two m n) x ≡ refused f → sized two m n x ≡ refused f
  sized_refused f e = rw e

  module _ (ts : List (List (List E))) (y : List ℕ) (e : sections (tables two m n) x ≡ got ts y) where
    pub sized_land : (f : ℕ) → optional (land_kind m n) y ≡ refused f → sized two m n x ≡ refused f
    sized_land f p = rw (e, p)

    module _ (land : Option Mat) (z : List ℕ) (p : optional (land_kind m n) y ≡ got land z) where
      pub sized_last : (f : ℕ) → optional (last_kind m) z ≡ refused f → sized two m n x ≡ refused f
      sized_last f q = rw (e, p, q)

      pub sized_read : (last : Option Mat) (u : List ℕ) → optional (last_kind m) z ≡ got last u → sized two m n x ≡ finished two m n ts land last u
      sized_read last u q = rw (e, p, q)

module _ (two : Bool) (m n : ℕ) (ts : List (List (List E))) (land last : Option Mat) where
  pub finished_left : (x : List ℕ) → ¬ (length x ≡ 0) → finished two m n ts land last x ≡ refused 2
  finished_left [] h = absurd (h refl)
  finished_left (b ∷ x) h = refl

  finished_all : (x : List ℕ) → length x ≡ 0 → finished two m n ts land last x ≡ finished two m n ts land last []
  finished_all [] h = refl
  finished_all (b ∷ x) h = absurd (let y : ⊥ = omega arith in y)

  module _ (x : List ℕ) (none : length x ≡ 0) where
    pub finished_no_lag : any (all absent?) (part ts lag_lines) ≡ true → finished two m n ts land last x ≡ refused 6
    finished_no_lag e = finished_all x none ∙ rw e

    module _ (e : any (all absent?) (part ts lag_lines) ≡ false) where
      pub finished_no_floor : any (all absent?) (part ts floor_line) ≡ true → finished two m n ts land last x ≡ refused 7
      finished_no_floor f = finished_all x none ∙ rw (e, f)

      module _ (f : any (all absent?) (part ts floor_line) ≡ false) where
        pub finished_missing : two && some_lag_missing (sheet_of two m n ts land last) ≡ true → finished two m n ts land last x ≡ refused 14
        finished_missing g = finished_all x none ∙ rw (e, f, g)

        pub finished_good : two && some_lag_missing (sheet_of two m n ts land last) ≡ false →
            finished two m n ts land last x ≡ got (sheet_of two m n ts land last) []
        finished_good g = finished_all x none ∙ rw (e, f, g)

module _ (two : Bool) (s : List ℕ) where
  pub headed_refused : (f : ℕ) → sections sizes s ≡ refused f → headed two s ≡ refused f
  headed_refused f e = rw e

  pub headed_sized : (ps : List (List (List E))) (y : List ℕ) → sections sizes s ≡ got ps y →
      headed two s ≡ sized two (count (part ps panels_line)) (count (part ps triggers_line)) y
  headed_sized ps y e = rw e

module _ (s : List ℕ) where
  pub read_long : 2048 < length s → read s ≡ refused 1
  unfolding read
  read_long h = rw (lt-ltb 2048 (length s) h)

  module _ (h : length s ≤ 2048) where
    pub read_ruled : (f : ℕ) → ruled s ≡ refused f → read s ≡ refused f
    unfolding read lines
    read_ruled f e = rw (le-ltb 2048 (length s) h, e)

    pub read_headed : (two : Bool) (x : List ℕ) → ruled s ≡ got two x → read s ≡ headed two x
    unfolding read lines
    read_headed two x e = rw (le-ltb 2048 (length s) h, e)
