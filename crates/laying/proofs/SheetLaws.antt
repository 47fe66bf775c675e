-- What is known of a sheet's list from the list of its cue; for any name m of the number of triggers in use.
use mathlib.Core.Path.{◌≡◌, sym, subst, ◌∙◌}
use mathlib.Core.List.{List}
use Prim.Native.Nat.{ℕ, ◌/◌}
use lib.IntN.{ℤ}
use lib.ListN.{length}
use Rattle.cue.specs.Method.{lines}
use Rattle.cue.specs.Written.{width, with_list}
use Rattle.sheet.specs.Sheet.{Sheet}
use Rattle.sheet.specs.Cue.{used, cue_size, cue_of, Orderly, sheet_lines, sheet_caps}
use Rattle.sheet.specs.Good.{Good}
use Rattle.sheet.proofs.ListLaws.{lines_many}
use Rattle.std.specs.Prelude.{Option}
use Rattle.moments.specs.Moments.{MomentsOf}
use Rattle.spares.specs.declared.Places.{Places}
use Rattle.spares.specs.Using.{PlacesOf}
use Rattle.lines.specs.Listing.{Answers}
use Rattle.lines.specs.declared.NoRoom.{NoRoom}
use Rattle.std.specs.Prelude.{Result, Ok, Err}
use Rattle.laying.specs.Laying.{Lists, Listing}
use Rattle.laying.proofs.WidthLaws.{width_room}

module _ (t : Sheet) {m : ℕ} (same : m ≡ cue_size t) (before : List ℤ) {room : ℕ} (wide : room ≡ length before / width (sheet_caps t)) where
  abbrev Found : List ℤ → Result ℕ NoRoom → Type 0
  Found after r = Answers (cue_size t) (lines (cue_size t) (cue_of t)) (length before / width (sheet_caps t)) before after r

  found : (after : List ℤ) (r : Result ℕ NoRoom) → Answers m (lines m (cue_of t)) room before after r → Found after r
  found after r a = rw wide at (subst (λ n. Answers n (lines n (cue_of t)) room before after r) same a)

  -- what the sheet's list is made from
  pub listing : {p : Places} {r : Option (List ℕ)} {k : ℕ} {between : List ℤ} → Good t → Orderly t → PlacesOf (used t) t.triggers p → MomentsOf t r →
      Answers m (lines m (cue_of t)) room before between (Ok k) → Listing t before k between p r
  listing {k = k} {between} G o u v a =
      let (c, fits, w) = found between (Ok k) a in
      record {
        good = G;
        order = o;
        placed = u;
        moments = v;
        many = c;
        room = width_room (sheet_caps t) k (length before) (rw c fits);
        words = rw c w;
      }

  pub listed_lines : {k : ℕ} {between after : List ℤ} → Answers m (lines m (cue_of t)) room before between (Ok k) →
      after ≡ with_list t.triggers (sheet_caps t) (sheet_lines t) before → Lists t before after (Ok k)
  listed_lines {k} {between} a w = let (c, fits, x) = found between (Ok k) a in (c ∙ sym (lines_many t), rw (lines_many t) fits, w)

  pub listed_full : {e : NoRoom} {after : List ℤ} → Answers m (lines m (cue_of t)) room before after (Err e) → Lists t before after (Err e)
  listed_full {e} {after} a = let (c, small, w) = found after (Err e) a in (c ∙ sym (lines_many t), rw (lines_many t) small, w)
