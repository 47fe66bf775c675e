-- What follows for a caller that has prepared a sheet's tables: its words are close, and the lines drawn are step 6's candidates.
use mathlib.Core.Path.{◌≡◌, ap, ap₂, sym, ◌∙◌}
use mathlib.Core.List.{List}
use Prim.Native.Nat.{ℕ, ◌≤◌, ◌<◌}
use native.Mathlib.Omega.{arith}
use lib.ListN.{get_or}
use Rattle.maxplus.specs.Entry.{E, num, ◌⊗◌, inv}
use Rattle.maxplus.proofs.FiniteLaws.{in_at}
use Rattle.maxplus.proofs.EntryLaws.{inv_num}
use Rattle.words.specs.Words.{word, entry, far, Close}
use Rattle.words.proofs.Laws.{entry_word, close_minus}
use Rattle.sheet.specs.Sheet.{limit}
use Rattle.sheet.specs.Sizes.{order_limit, star_size, through_size, mark_down, least_up, need_down, ask_size}
use Rattle.cue.specs.Cue.{Cue}
use Rattle.cue.specs.Method.{through, least, floor_panels}
use Rattle.cue.proofs.Walk.{floor_panels_in, floor_panels_few}
use Rattle.cue.specs.Results.{Within}
use Rattle.cue.proofs.Bounds.{star_within, through_within, pull_within, least_within}
use Rattle.tables.specs.Held.{meant, meant_v, Closely, CloselyV}
use Rattle.tables.proofs.SquareLaws.{close_within, closely_within, closely_within_v}
use Rattle.candidates.specs.declared.Marks.{Marks}
use Rattle.candidates.specs.Drawable.{Drawable, MarksNear}
use Rattle.cue.specs.Sizes.{size_limit}

-- an entry from −c to c has a word
word_of : {k l c : ℕ} (e : E) → k ≤ c → l ≤ c → c ≤ far → Within k l e → (v : ℕ) × (entry v ≡ e) × Close c v
word_of {k} {l} {c} e hk hl hc w = let is = entry_word e (λ z f. let b = w.low.above z f in omega arith) in
    (word e, is, close_within c (word e) is hk hl w)

module _ {n : ℕ} {P : Cue} {M : Marks} {stars lags needs : List (List ℕ)} (p : Drawable n P M stars lags needs) where
  open P use {panels, lag, floor, due, order}

  -- ---- close words
  pub levels_few : M.levels ≤ size_limit
  levels_few = let a = p.levels in let b = p.few_panels in omega (arith, floor_panels_few n P)

  pub stars_close : Closely n n star_size stars
  stars_close = closely_within (omega arith) (omega arith) p.starred (star_within n 5 limit order_limit P p.limited p.few)

  pub pulls_close : CloselyV n mark_down M.pulls
  pulls_close = closely_within_v (omega arith) (omega arith) p.pulled (pull_within n 5 limit order_limit P p.limited p.few)

  asks_close : CloselyV panels ask_size M.asks
  unfolding meant_v
  asks_close = record {
    at = λ i h.
        let (a, ea, ca) = word_of {c = limit} (floor i) (omega arith) (omega arith) (omega arith) (p.limited.floors i h) in
        let (b, eb, cb) = word_of {c = least_up} (num (least n P)) (omega arith) (omega arith) (omega arith)
        (least_within n 5 limit order_limit P p.limited p.few p.order) in
        close_minus a b _ (p.asked.at i h ∙ ap₂ ◌⊗◌ (sym ea) (sym (ap inv eb ∙ inv_num _))) ca cb;
  }

  pub ready : MarksNear n M stars lags
  ready = record {
    few = p.few;
    few_panels = rw p.panels p.few_panels;
    starred = stars_close;
    lagged = rw p.panels (closely_within (omega arith) (omega arith) p.lagged p.limited.lags);
    due = closely_within_v (omega arith) (omega arith) p.due p.limited.dues;
    asked = rw p.panels asks_close;
  }

  -- the l-th panel with a floor
  floored : ℕ → ℕ
  floored l = get_or (floor_panels n P) l 0

  floored_panel : (l : ℕ) → l < M.levels → floored l < panels
  unfolding floored
  floored_panel l h = (floor_panels_in n P _ (in_at 0 (floor_panels n P) l (let e = p.levels in omega arith))).0

  pub needs_close : Closely M.levels n need_down needs
  unfolding floored meant meant_v
  needs_close = record {
    at = λ l j hl hj.
        let hi = floored_panel l hl in
        let (b, eb, cb) = word_of {c = through_size} (through n P (floored l) j) (omega arith) (omega arith) (omega arith)
        (through_within n 5 limit order_limit P p.limited p.few (floored l) j hi hj) in
        close_minus (get_or M.asks (floored l) 0) b _
        (p.needed l j hl hj ∙ ap₂ ◌⊗◌ (sym (p.asked.at (floored l) hi)) (ap inv (sym eb))) (asks_close.at (floored l) hi) cb;
  }
