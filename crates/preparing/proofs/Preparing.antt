-- What a good sheet's words give on the way to the marks: the cue's words, what the functions ask of them, and what is made.
use mathlib.Core.Path.{◌≡◌, refl, ap, ap₂, sym, subst, ◌∙◌}
use mathlib.Core.Bool.{Bool, true, false}
use mathlib.Core.List.{List}
use Prim.Native.Nat.{ℕ, ◌≤◌, ◌<◌}
use native.Mathlib.Omega.{arith}
use lib.Dec.{T}
use Rattle.maxplus.specs.Entry.{◌⊕◌, Present}
use Rattle.maxplus.specs.Tables.{Mat, mm, star, NoGain}
use Rattle.maxplus.proofs.PackingLaws.{placed}
use Rattle.maxplus.proofs.SupLaws.{sup_ext}
use Rattle.cue.specs.Cue as theory
use Rattle.cue.specs.Cue.{timing}
use Rattle.cue.specs.Results.{Within}
use Rattle.words.specs.Words.{entry, far}
use mathlib.Core.Option as maybe
use Rattle.sheet.specs.Sheet.{Got, got, refused, read, limit, given, given_table}
use Rattle.sheet.specs.Sheet as spec
use Rattle.sheet.specs.Sizes.{order_limit}
use Rattle.sheet.specs.Cue.{used, cue_size, trigger_at, order_table, floor_by, cue_of}
use Rattle.sheet.specs.Good.{Good}
use Rattle.sheet.proofs.Good.{read_good}
use Rattle.sheet.proofs.Idle.{used_not_spare}
use Rattle.sheet.proofs.Spares.{used_order}
use Rattle.sheet.proofs.Seam.{order_of_after}
use Rattle.reading.specs.Reading.{answer}
use Rattle.reading.specs.declared.SheetWords.{SheetWords}
use Rattle.reading.proofs.Refusals.{refusal_is}
use Rattle.rows.specs.Grid.{strips_given}
use Rattle.refusals.specs.Numbers.{number}
use Rattle.refusals.specs.declared.Refusal.{Refusal}
use Rattle.refusals.proofs.NumberLaws.{number_of}
use Rattle.std.specs.Prelude.{Option, Some, None, Ok, Err}
use Rattle.std.proofs.lemmas.Option.{none-some, same_Some}
use Rattle.refusals.proofs.ResultLaws.{ok_not_err, same_ok, same_err}
use Rattle.tables.specs.Held.{meant, Holds, HoldsV, Closely}
use Rattle.tables.proofs.SquareLaws.{closely_within, closely_more, mm_held}
use Rattle.spares.specs.Using.{tied, PlacesOf, PickedTables}
use Rattle.spares.specs.declared.Places.{Places}
use Rattle.moments.specs.Moments.{MomentsOf}
use Rattle.order.specs.Closed.{Closed}
use Rattle.preparing.specs.declared.CueWords.{CueWords}
use Rattle.preparing.specs.declared.Marked.{Marked}
use Rattle.preparing.specs.declared.Tables.{Tables}
use Rattle.preparing.specs.Prepared.{Worded, HoldsCue, CueFrom, Tabled, MarkedAs, PreparedAs}
use Rattle.preparing.proofs.Results.{strips_held, lags_close, orders_close, star_held, star_close, through_held, order_says}
use Rattle.cue.specs.Sizes.{size_limit}

-- ---- what reading answers
module _ (s : List ℕ) {w : SheetWords} (e : Ok w ≡ answer (read s)) where
  pub reading_good : (t : spec.Sheet) × (r : List ℕ) × (read s ≡ got t r) × Worded t w
  reading_good = go (read s) refl e
    where
      go : (g : Got spec.Sheet) → read s ≡ g → Ok w ≡ answer g → (t : spec.Sheet) × (r : List ℕ) × (read s ≡ got t r) × Worded t w
      go (got t r) p q = (t, r, p, record { words = same_ok _ _ q; good = read_good s t r p })
      go (refused k) p q = ok_not_err _ _ q

module _ (s : List ℕ) {r : Refusal} (e : Err r ≡ answer (read s)) where
  pub reading_refused : read s ≡ refused (number r)
  reading_refused = go (read s) refl e
    where
      go : (g : Got spec.Sheet) → read s ≡ g → Err r ≡ answer g → read s ≡ refused (number r)
      go (got t x) p q = ok_not_err _ _ (sym q)
      go (refused k) p q = p ∙ ap refused (sym (ap number (same_err _ _ q) ∙ number_of k (refusal_is s k p)))

-- ---- the words of a good sheet, table by table
module _ {s : spec.Sheet} {t : SheetWords} (W : Worded s t) where
  pub triggers_of : t.triggers ≡ s.triggers
  triggers_of = rw W.words

  pub panels_of : t.panels ≡ s.panels
  panels_of = rw W.words

  pub triggers_few : t.triggers ≤ size_limit
  triggers_few = rw triggers_of W.good.triggers_few

  pub panels_few : t.panels ≤ size_limit
  panels_few = rw panels_of W.good.panels_few

  pub lags_of : Holds s.panels s.triggers s.lag t.lag
  lags_of = rw W.words (strips_held s.lag W.good.panels_few W.good.triggers_few W.good.lags)

  pub afters_of : Holds s.triggers s.triggers s.after t.after
  afters_of = rw W.words (strips_held s.after W.good.triggers_few W.good.triggers_few W.good.afters)

  -- ---- the order table: that of the after lines where there are no land lines
  pub orders_after : t.land ≡ None → Holds s.triggers s.triggers (order_table s) t.after
  orders_after e = record { at = λ i j hi hj. afters_of.at i j hi hj ∙ sym (order_of_after s (none s.land (sym (ap (λ t. t.land) W.words) ∙ e)) i j) }
    where
      none : (c : maybe.Option Mat) → strips_given c ≡ None → given c ≡ false
      none maybe.none e = refl
      none (maybe.some A) e = absurd (none-some _ (sym e))

  pub lands_of : {r : List (List ℕ)} → t.land ≡ Some r → Holds s.triggers s.panels (given_table s.land) r
  lands_of {r} e = go s.land W.good.lands (sym (ap (λ t. t.land) W.words) ∙ e)
    where
      go : (c : maybe.Option Mat) → ((i j : ℕ) → i < s.triggers → j < s.panels → Within limit limit (given_table c i j)) →
          strips_given c ≡ Some r → Holds s.triggers s.panels (given_table c) r
      go maybe.none w e = absurd (none-some _ e)
      go (maybe.some A) w e = rw (← same_Some _ _ e) (strips_held A W.good.triggers_few W.good.panels_few w)

  -- otherwise the larger of it and land times lag, whose words are near enough to be multiplied
  pub lands_near : {lands : List (List ℕ)} → Holds s.triggers s.panels (given_table s.land) lands →
      Closely t.triggers t.panels far lands
  lands_near h = rw (triggers_of, panels_of) (closely_within (omega arith) (omega arith) h W.good.lands)

  pub lags_near : {lags : List (List ℕ)} → Holds s.panels s.triggers s.lag lags → Closely t.panels t.triggers far lags
  lags_near h = rw (triggers_of, panels_of) (closely_within (omega arith) (omega arith) h W.good.lags)

  pub orders_joined : {afters lands lags waits r : List (List ℕ)} → Holds s.triggers s.triggers s.after afters →
      Holds s.triggers s.panels (given_table s.land) lands → Holds s.panels s.triggers s.lag lags →
      Holds t.triggers t.triggers (mm t.panels (meant lands) (meant lags)) waits →
      Holds t.triggers t.triggers (λ i j. meant afters i j ⊕ meant waits i j) r → Holds s.triggers s.triggers (order_table s) r
  unfolding order_table
  orders_joined ha hc hl hw hr = record {
    at = λ i j hi hj. (rw triggers_of at hr).at i j hi hj ∙
        ap₂ ◌⊕◌ (ha.at i j hi hj) ((mm_held hc hl (rw (triggers_of, panels_of) at hw)).at i j hi hj);
  }

  -- ---- the triggers in use
  tied_held : {orders lags : List (List ℕ)} → Holds s.triggers s.triggers (order_table s) orders → Holds s.panels s.triggers s.lag lags →
      (j : ℕ) → j < s.triggers →
      tied s.panels s.triggers (order_table s) s.lag j ≡ tied s.panels s.triggers (meant orders) (meant lags) j
  unfolding tied
  tied_held ho hl j h = rw (
    sup_ext s.panels (λ i q. hl.at i j q h),
    sup_ext s.triggers (λ k q. ho.at j k h q),
    sup_ext s.triggers (λ k q. ho.at k j q h),
  )

  pub places_used : {p : Places} {orders lags : List (List ℕ)} → Holds s.triggers s.triggers (order_table s) orders →
      Holds s.panels s.triggers s.lag lags →
      ((u : ℕ → Bool) → ((j : ℕ) → T (u j) → j < t.triggers) →
      ((j : ℕ) → j < t.triggers → u j ≡ tied t.panels t.triggers (meant orders) (meant lags) j) → PlacesOf u t.triggers p) →
      PlacesOf (used s) s.triggers p
  unfolding tied
  places_used ho hl f = (rw (triggers_of, panels_of) at f) (used s) (λ j u. ((used_not_spare s j).0 u).0)
      (λ j h. used_order s lagged j h ∙ tied_held ho hl j h)
    where
      lagged : (i : ℕ) → i < s.panels → (j : ℕ) × (j < s.triggers) × Present (s.lag i j)
      lagged i h = let (k, q, p) = W.good.readable.lagged i h in (trigger_at s k, (placed (used s) s.triggers k q).below, p)

  -- ---- the words of its cue: what is picked at the places in use is what the sheet has there
  module _ {p : Places} (U : PlacesOf (used s) s.triggers p) where
    pub below : (k : ℕ) → k < cue_size s → trigger_at s k < s.triggers
    below k q = (placed (used s) s.triggers k q).below

    -- the tables before and after
    module _ {orders lags order lag : List (List ℕ)} (T : PickedTables (used s) s.triggers t.panels orders order lags lag) where
      pub lags_picked : Holds s.panels s.triggers s.lag lags → Holds s.panels (cue_size s) (cue_of s).lag lag
      unfolding meant
      lags_picked hl = record { at = λ i k hi q. ap entry (T.lags i k (rw panels_of hi) q) ∙ hl.at i (trigger_at s k) hi (below k q) }

      orders_picked : Holds s.triggers s.triggers (order_table s) orders → Holds (cue_size s) (cue_size s) (cue_of s).order order
      unfolding meant
      orders_picked ho = record {
        at = λ k l hk hl. ap entry (T.orders k l hk hl) ∙ ho.at (trigger_at s k) (trigger_at s l) (below k hk) (below l hl);
      }

    pub cue_words : {orders lags order lag : List (List ℕ)} {floor due : List ℕ} → Holds s.triggers s.triggers (order_table s) orders →
        Holds s.panels s.triggers s.lag lags → PickedTables (used s) s.triggers t.panels orders order lags lag →
        HoldsV s.panels (floor_by s.measure) floor → HoldsV (cue_size s) (timing (cue_of s).due) due →
        HoldsCue (cue_of s) order lag (record { triggers = p.count; panels = t.panels; floor = floor; due = due; places = p })
    cue_words ho hl T hf hd = record {
      some = rw U.count_is W.good.readable.trigger;
      few = rw U.count_is W.good.few;
      few_panels = W.good.panels_few;
      panels_are = panels_of;
      readable = rw U.count_is W.good.readable;
      limited = rw U.count_is W.good.limited;
      lags_are = rw U.count_is (lags_picked T hl);
      floors_are = hf;
      dues_are = rw U.count_is hd;
      orders_are = rw U.count_is (orders_picked T ho);
    }

-- ---- the order check, M* and d
module _ {P : theory.Cue} {orders lags : List (List ℕ)} {c : CueWords} (H : HoldsCue P orders lags c) where
  pub closed_asks : (c.triggers ≤ size_limit) × Closely c.triggers c.triggers order_limit orders
  closed_asks = (H.few, orders_close H)

  pub untabled : {stars throughs : List (List ℕ)} → ¬ (NoGain c.triggers (meant orders)) → Tabled P c orders lags stars throughs false
  untabled h = let no = order_says H false h in record { order = no; fit = λ np. absurd (no np) }

  module _ {stars : List (List ℕ)} {b : Bool} (C : Closed c.triggers (meant orders) stars b) (np : NoGain c.triggers (meant orders)) where
    starred : Holds c.triggers c.triggers (star c.triggers P.order) stars
    starred = star_held H (C.starred np)

    pub product_asks : (c.panels ≤ size_limit) × (c.triggers ≤ size_limit) × (c.triggers ≤ size_limit) ×
        Closely c.panels c.triggers far lags × Closely c.triggers c.triggers far stars
    product_asks = (
      rw H.panels_are H.few_panels,
      H.few,
      H.few,
      rw H.panels_are (closely_more (omega arith) (lags_close H)),
      closely_more (omega arith) (star_close H starred),
    )

    pub tabled : {throughs : List (List ℕ)} → Holds c.panels c.triggers (mm c.triggers (meant lags) (meant stars)) throughs →
        Tabled P c orders lags stars throughs true
    tabled hd = record {
      order = order_says H true np;
      fit = λ _. record {
        held = H;
        order = order_says H true np;
        starred = starred;
        reached = through_held H starred (rw H.panels_are at hd);
      };
    }

-- ---- what is ready
pub readied : {g : Got spec.Sheet} {ts : Tables} {c : CueWords} {r : Marked} (s : spec.Sheet) (x : List ℕ) → g ≡ got s x →
    CueFrom s ts.order ts.lag c → NoGain c.triggers (cue_of s).order → MarkedAs c.triggers (cue_of s) ts.lag ts.star ts.gains ts.needs r →
    {q : Option (List ℕ)} → MomentsOf s q → Good s → PreparedAs g ts (Ok (record { cue = c; marked = r; moments = q }))
readied {ts = ts} {c} {r} s x e F np M Q G = (
  s,
  x,
  e,
  record {
    sized = F.sized;
    placed = F.placed;
    held = F.held;
    order = subst (λ n. NoGain n (cue_of s).order) F.sized np;
    marked = subst (λ n. MarkedAs n (cue_of s) ts.lag ts.star ts.gains ts.needs r) F.sized M;
    moments = Q;
    good = G;
  },
)
