-- The lines behind the sizes, kind after kind: the first that is refused refuses the sheet, and what was read of each is its part of the whole.
use mathlib.Core.Path.{◌≡◌}
use mathlib.Core.List.{List, [], ◌∷◌}
use mathlib.Core.Bool.{Bool}
use Prim.Native.Nat.{ℕ}
use Rattle.maxplus.specs.Entry.{E}
use Rattle.sheet.specs.Sheet.{got, refused, entry, mark, kind, mark_lines, Section, section, sections, tables, sized}
use Rattle.sheet.proofs.SectionLaws.{sized_refused}
use Rattle.reading.proofs.SectionsRead.{first_refused, later_refused, later_read, none_read}

module _ (two : Bool) (m n : ℕ) (x : List ℕ) where
  abbrev lags : Section
  lags = kind "lag=" entry m n

  abbrev floors : Section
  floors = kind "floor=" entry (mark_lines two) m

  abbrev dues : Section
  dues = kind "due=" mark (mark_lines two) n

  abbrev afters : Section
  afters = kind "after=" entry n n

  pub lag_refused : (f : ℕ) → section lags x ≡ refused f → sized two m n x ≡ refused f
  lag_refused f p = sized_refused two m n x f (first_refused lags _ x f p)

  module _ (lag : List (List E)) (y : List ℕ) (l : section lags x ≡ got lag y) where
    pub floor_refused : (f : ℕ) → section floors y ≡ refused f → sized two m n x ≡ refused f
    floor_refused f p = sized_refused two m n x f (later_refused lags _ x lag y l f (first_refused floors _ y f p))

    module _ (floor : List (List E)) (z : List ℕ) (k : section floors y ≡ got floor z) where
      pub due_refused : (f : ℕ) → section dues z ≡ refused f → sized two m n x ≡ refused f
      due_refused f p =
          sized_refused two m n x f (later_refused lags _ x lag y l f (later_refused floors _ y floor z k f (first_refused dues _ z f p)))

      module _ (due : List (List E)) (u : List ℕ) (d : section dues z ≡ got due u) where
        pub after_refused : (f : ℕ) → section afters u ≡ refused f → sized two m n x ≡ refused f
        after_refused f p =
            sized_refused two m n x f (later_refused lags _ x lag y l f (later_refused floors _ y floor z k f
            (later_refused dues _ z due u d f (first_refused afters [] u f p))))

        pub tables_read : (after : List (List E)) (v : List ℕ) → section afters u ≡ got after v →
            sections (tables two m n) x ≡ got (lag ∷ floor ∷ due ∷ after ∷ []) v
        tables_read after v a =
            later_read lags _ x lag y l _ v (later_read floors _ y floor z k _ v (later_read dues _ z due u d _ v
            (later_read afters [] u after v a [] v (none_read v))))
