-- Every refusal of reading is one of `refusals`, so that its number is that of one, from 1 on.
use mathlib.Core.Path.{◌≡◌, refl, subst}
use mathlib.Core.List.{List, [], ◌∷◌}
use mathlib.Core.Bool.{Bool, true, false, cond, ◌&&◌}
use mathlib.Core.Option.{Option, none}
use Prim.Native.Nat.{ℕ, zero, suc, ◌-◌, ◌≤◌}
use lib.Dec.{ltb, eqb}
use lib.IntN.{pos}
use lib.ListN.{length}
use Rattle.refusals.specs.declared.Refusal.TheVariants as refusal
use Rattle.refusals.proofs.NumberLaws.{Known, known_within}
use Rattle.maxplus.specs.Whole.{neg}
use Rattle.maxplus.specs.Entry.{E, absent, num}
use Rattle.maxplus.specs.Tables.{Mat}
use Rattle.sheet.specs.Text.{bytes}
use Rattle.sheet.specs.Cue.{Orderly, orderly?}
use Rattle.sheet.specs.Ordered.{ordered}
use Rattle.sheet.specs.Sheet.{Got, got, refused, Sheet, got?, ◌>>=◌, literal, leading, value, behind, signed, item}
use Rattle.sheet.specs.Sheet.{ending, ended, items, Content, size, entry, mark, out_of_range, no_size, absent?, any, all, checked}
use Rattle.sheet.specs.Sheet.{line, rows, Section, section, sections, sizes, tables, part, count, panels_line, triggers_line, lag_lines, floor_line}
use Rattle.sheet.specs.Sheet.{optional, land_kind, last_kind, sheet_of, some_lag_missing, finished, ruled, headed, lines, read}

abbrev Numbered : {A : Type 0} → Got A → Type 0
Numbered (got a s) = Unit {0}
Numbered (refused k) = Known k

module _ {A : Type 0} where
  if_numbered : (b : Bool) (g h : Got A) → Numbered g → Numbered h → Numbered (cond b g h)
  if_numbered true g h p q = p
  if_numbered false g h p q = q

  then_numbered : {B : Type 0} (g : Got A) (f : A → List ℕ → Got B) → Numbered g → ((a : A) (s : List ℕ) → Numbered (f a s)) →
      Numbered (g >>= f)
  then_numbered (got a s) f p q = q a s
  then_numbered (refused k) f p q = p

literal_numbered : (k s : List ℕ) → Numbered (literal k s)
unfolding literal
literal_numbered [] s = tt
literal_numbered (b ∷ k) [] = (refusal.WrongForm, refl)
literal_numbered (b ∷ k) (c ∷ s) = if_numbered (eqb c b) (literal k s) (refused 2) (literal_numbered k s) (refusal.WrongForm, refl)

signed_numbered : (s : List ℕ) → Numbered (signed s)
unfolding signed
signed_numbered [] = tt
signed_numbered (b ∷ s) = go (leading b)
  where
    go : (t : Bool) → Numbered (cond t (got (num (neg (pos (value (b - 48) s)))) (behind s)) (got absent (b ∷ s)))
    go true = tt
    go false = tt

item_numbered : (s : List ℕ) → Numbered (item s)
unfolding item
item_numbered [] = (refusal.WrongForm, refl)
item_numbered (b ∷ s) = if_numbered (eqb b 0x30) (got (num (pos 0)) s) _ tt (if_numbered (eqb b 0x2D) (signed s) _ (signed_numbered s)
    (if_numbered (leading b) (got (num (pos (value (b - 48) s))) (behind s)) (refused 2) tt (refusal.WrongForm, refl)))

ended_numbered : (k : ℕ) (s : List ℕ) → Numbered (ended k s)
unfolding ended
ended_numbered k s = then_numbered (item s) _ (item_numbered s) (λ e s. then_numbered (literal (ending k) s) _ (literal_numbered (ending k) s) (λ u s. tt))

items_numbered : (k : ℕ) (s : List ℕ) → Numbered (items k s)
unfolding items
items_numbered zero s = tt
items_numbered (suc k) s =
    then_numbered (ended k s) _ (ended_numbered k s) (λ e s. then_numbered (items k s) _ (items_numbered k s) (λ es s. tt))

checked_numbered : (r : Content) (es : List E) (s : List ℕ) → Numbered (checked r es s)
unfolding checked
checked_numbered size es s = if_numbered (any absent? es) (refused 2) _ (refusal.WrongForm, refl)
    (if_numbered (any no_size es) (refused 3) (got es s) (refusal.NoSize, refl) tt)
checked_numbered entry es s = if_numbered (any out_of_range es) (refused 4) (got es s) (refusal.OutOfRange, refl) tt
checked_numbered mark es s = if_numbered (any out_of_range es) (refused 4) _ (refusal.OutOfRange, refl)
    (if_numbered (any absent? es) (refused 5) (got es s) (refusal.MarkAbsent, refl) tt)

line_numbered : (key : List ℕ) (r : Content) (k : ℕ) (s : List ℕ) → Numbered (line key r k s)
unfolding line
line_numbered key r k s = then_numbered (literal key s) _ (literal_numbered key s) (λ u s. then_numbered (items k s) _ (items_numbered k s)
    (λ es s. checked_numbered r es s))

rows_numbered : (key : List ℕ) (r : Content) (i k : ℕ) (s : List ℕ) → Numbered (rows key r i k s)
unfolding rows
rows_numbered key r zero k s = tt
rows_numbered key r (suc i) k s = then_numbered (line key r k s) _ (line_numbered key r k s)
    (λ es s. then_numbered (rows key r i k s) _ (rows_numbered key r i k s) (λ t s. tt))

sections_numbered : (ks : List Section) (s : List ℕ) → Numbered (sections ks s)
unfolding sections
sections_numbered [] s = tt
sections_numbered (k ∷ ks) s = then_numbered (section k s) _ (rows_numbered k.key k.content k.lines k.items s)
    (λ t s. then_numbered (sections ks s) _ (sections_numbered ks s) (λ ts s. tt))

optional_numbered : (k : Section) (s : List ℕ) → Numbered (optional k s)
unfolding optional
optional_numbered k s = if_numbered (got? (literal k.key s)) _ (got none s)
    (then_numbered (section k s) _ (rows_numbered k.key k.content k.lines k.items s) (λ t s. tt)) tt

finished_numbered : (two : Bool) (m n : ℕ) (ts : List (List (List E))) (land last : Option Mat) (s : List ℕ) →
    Numbered (finished two m n ts land last s)
finished_numbered two m n ts land last (b ∷ s) = (refusal.WrongForm, refl)
finished_numbered two m n ts land last [] = if_numbered (any (all absent?) (part ts lag_lines)) (refused 6) _ (refusal.PanelWithoutLag, refl)
    (if_numbered (any (all absent?) (part ts floor_line)) (refused 7) _ (refusal.NoFloor, refl)
    (if_numbered (two && some_lag_missing (sheet_of two m n ts land last)) (refused 14) (got (sheet_of two m n ts land last) [])
    (refusal.TriggerWithoutLag, refl) tt))

ruled_numbered : (s : List ℕ) → Numbered (ruled s)
unfolding ruled
ruled_numbered s = if_numbered (got? (literal (bytes "rule=") s)) _ (got false s)
    (then_numbered (literal (bytes "rule=2\n") s) _ (literal_numbered (bytes "rule=2\n") s) (λ u s. tt)) tt

headed_numbered : (two : Bool) (s : List ℕ) → Numbered (headed two s)
headed_numbered two s = then_numbered (sections sizes s) _ (sections_numbered sizes s) (λ ps s.
    then_numbered (sections (tables two (count (part ps panels_line)) (count (part ps triggers_line))) s) _ (sections_numbered _ s) (λ ts s.
    then_numbered (optional (land_kind _ _) s) _ (optional_numbered _ s) (λ land s.
    then_numbered (optional (last_kind _) s) _ (optional_numbered _ s) (λ last s. finished_numbered two _ _ ts land last s))))

lines_numbered : (s : List ℕ) → Numbered (lines s)
unfolding lines
lines_numbered s = then_numbered (ruled s) _ (ruled_numbered s) headed_numbered

pub refusal_is : (s : List ℕ) (k : ℕ) → read s ≡ refused k → Known k
unfolding read
refusal_is s k e = subst Numbered e (if_numbered (ltb 2048 (length s)) (refused 1) (lines s) (refusal.SheetTooLong, refl) (lines_numbered s))

-- and so is 8, of a sheet whose order cannot be kept
pub ordered_is : (s : List ℕ) (k : ℕ) → ordered s ≡ refused k → Known k
unfolding ordered
ordered_is s k e = go (read s) refl e
  where
    by_order : (t : Sheet) (r : List ℕ) (d : Dec (Orderly t)) → Numbered (elim d [ yes h ↦ got t r | no h ↦ refused 8 ])
    by_order t r (yes h) = tt
    by_order t r (no h) = (refusal.NoTimes, refl)

    go : (g : Got Sheet) → read s ≡ g → (g >>= λ t r. elim (orderly? t) [ yes h ↦ got t r | no h ↦ refused 8 ]) ≡ refused k → Known k
    go (refused j) q e = subst Numbered e (refusal_is s j q)
    go (got t r) q e = subst Numbered e (by_order t r (orderly? t))

pub refusal_known : (s : List ℕ) (k : ℕ) → read s ≡ refused k → (1 ≤ k) × (k ≤ 14)
refusal_known s k e = known_within k (refusal_is s k e)

pub refusal_numbered : (s : List ℕ) (k : ℕ) → read s ≡ refused k → 1 ≤ k
refusal_numbered s k e = (refusal_known s k e).0
