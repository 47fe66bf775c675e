-- The parts of a sheet, put one behind the other, are the text of the load's tables; the state behind them is that after all draws.
use Rattle.std.proofs.Common.{◌≡◌, ℕ, ◌+◌, ◌*◌, List, [], ◌++◌, refl, ap, ◌∙◌, ap₂, append_assoc, append-nil, one-mul}
use Rattle.maxplus.specs.Entry.{val}
use Rattle.maxplus.specs.Finite.{each}
use Rattle.sheet.specs.Text.{bytes}
use Rattle.writing.specs.Numerals.{natural}
use Rattle.writing.specs.Texts.{field, joined}
use Rattle.writing.specs.Writing.{Put}
use Rattle.writing.specs.declared.Writer.{Writer}
use Rattle.writing.proofs.WriterLaws.{then, put_as}
use Rattle.sheet_text.specs.SheetText.{rows_text, sheet_text}
use Rattle.hiring.specs.Hiring.{drawn, drawn_item, absence, drawn_items, sheet_from, draws, first_there, all_there, below_diagonal}
use Rattle.hiring.proofs.DrawLaws.{drawn_add}

-- six texts as a sheet's text has them
in_two : (a b c d e f : List ℕ) → a ++ b ++ c ++ (d ++ e) ++ f ≡ (a ++ (b ++ [])) ++ (c ++ (d ++ (e ++ (f ++ [])))) ++ [] ++ []
in_two a b c d e f = simp (append_assoc, append-nil)

-- the floor line, and the due line from the state that it left
module _ (m n : ℕ) where
  abbrev floor_text : ℕ → List ℕ
  floor_text x = rows_text (bytes "floor=") 1 m (drawn_items first_there m x)

  abbrev due_text : ℕ → List ℕ
  due_text x = rows_text (bytes "due=") 1 n (drawn_items all_there n x)

  pub marks_put : {a b c : Writer} {floors dues : ℕ} (s : ℕ) → Put a b (floor_text s) → floors ≡ drawn s (1 * m) →
      Put b c (due_text floors) → dues ≡ drawn floors (1 * n) →
      Put a c (floor_text s ++ due_text (drawn s (1 * m))) × (dues ≡ drawn (drawn s (1 * m)) (1 * n))
  marks_put s F ef D ed = (then F (put_as (ap due_text ef) D), ed ∙ ap (λ x. drawn x (1 * n)) ef)

module _ (m n s : ℕ) where
  -- the states behind the lag lines, the floor line and the due line
  abbrev past_lags : ℕ
  past_lags = drawn s (m * n)

  abbrev past_floors : ℕ
  past_floors = drawn s (m * n + m)

  abbrev past_dues : ℕ
  past_dues = drawn s (m * n + m + n)

  abbrev lag_text : ℕ → List ℕ
  lag_text x = rows_text (bytes "lag=") m n (drawn_items first_there n x)

  abbrev after_text : ℕ → List ℕ
  after_text x = rows_text (bytes "after=") n n (drawn_items below_diagonal n x)

  abbrev panels_text : List ℕ
  panels_text = field (bytes "panels=") (natural m)

  abbrev triggers_text : List ℕ
  triggers_text = field (bytes "triggers=") (natural n)

  parts : panels_text ++ triggers_text ++ lag_text s ++ (floor_text m n past_lags ++ due_text m n past_floors) ++ after_text past_dues ≡
      sheet_text (sheet_from m n s)
  unfolding sheet_text sheet_from rows_text each joined drawn_items drawn_item absence val
  parts = in_two panels_text triggers_text (lag_text s) (floor_text m n past_lags) (due_text m n past_floors) (after_text past_dues)

  -- each kind of line is drawn from the state that the one before left
  pub sheet_put : {a b c d e : Writer} {lags dues afters : ℕ} → Put a b (panels_text ++ triggers_text) →
      Put b c (lag_text s) → lags ≡ past_lags → Put c d (floor_text m n lags ++ due_text m n (drawn lags (1 * m))) →
      dues ≡ drawn (drawn lags (1 * m)) (1 * n) → Put d e (after_text dues) → afters ≡ drawn dues (n * n) →
      Put a e (sheet_text (sheet_from m n s)) × (afters ≡ drawn s (draws m n))
  sheet_put {lags = lags} {dues} {afters} P L el M ed A ea = (
    put_as parts (then (then (then P L) (put_as marks M)) (put_as (ap after_text dues_behind) A)),
    ea ∙ ap (λ x. drawn x (n * n)) dues_behind ∙ drawn_add s (m * n + m + n) (n * n),
  )
    where
      behind : (x y k j : ℕ) → x ≡ drawn s k → y ≡ drawn x (1 * j) → y ≡ drawn s (k + j)
      behind x y k j e f = f ∙ ap (λ x. drawn x (1 * j)) e ∙ drawn_add s k (1 * j) ∙ ap (λ i. drawn s (k + i)) (one-mul j)

      floors_behind : drawn lags (1 * m) ≡ past_floors
      floors_behind = behind lags (drawn lags (1 * m)) (m * n) m el refl

      dues_behind : dues ≡ past_dues
      dues_behind = behind (drawn lags (1 * m)) dues (m * n + m) n floors_behind ed

      marks : floor_text m n lags ++ due_text m n (drawn lags (1 * m)) ≡ floor_text m n past_lags ++ due_text m n past_floors
      marks = ap₂ (λ x y. floor_text m n x ++ due_text m n y) el floors_behind
