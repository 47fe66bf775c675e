-- Each way on of `descending` and `trying` is a law of proofs/Walking.antt for what is given, and one of proofs/RememberLaws.antt for what the
-- state remembers.
use Rattle.std.proofs.Common.{◌%◌, ◌<◌, refl, ◌∙◌, arith}
use Rattle.walk.proofs.Stack.{Splits, split_low}
use Rattle.walk.proofs.Walking.{under, at_most, not_whole, left_fits, picks_fit, some, fix_less, fix_ready, fix_gives}
use Rattle.walk.proofs.Walking.{up_less, up_ready, up_gives, further, down_less, down_ready, down_gives, whole_gives, end_gives}
use Rattle.walk.proofs.RememberLaws.{fix_remembers, back_remembers, few_up, down_remembers, whole_remembers, inner_remembers}
use Rattle.walk.proofs.+descending_trying.Goals as goal

pub descending-returns-then-next-levels : goal.descending-returns-then-next-levels
descending-returns-then-next-levels t c =
    let s = c.requires in
    record {
      gives = whole_gives s c.if-next-levels.true _ refl;
      remembers = λ n P D panels F A R. whole_remembers F c.if-next-levels.true R;
    }

pub descending-overflow_mul-walk : goal.descending-overflow_mul-walk
descending-overflow_mul-walk t c = let h = left_fits c.requires.sound in omega arith

pub descending-overflow_add-walk : goal.descending-overflow_add-walk
descending-overflow_add-walk t c = let h = left_fits c.requires.sound in omega (arith, c.from.ensures, c.narrowed-mask.ensures.1)

pub descending-trying-requires : goal.descending-trying-requires
descending-trying-requires t c =
    let low : c.from.result < 64 = omega (arith, c.from.ensures, c.narrowed-mask.ensures.1) in
    let is = c.from.ensures ∙ c.narrowed-mask.ensures.0 in
    let s = c.requires in
    let d = c.if-next-levels.false in
    (under c.decreases (down_less s d low is), down_ready s d low is)

pub descending-returns : goal.descending-returns
descending-returns t c =
    let low : c.from.result < 64 = omega (arith, c.from.ensures, c.narrowed-mask.ensures.1) in
    let is = c.from.ensures ∙ c.narrowed-mask.ensures.0 in
    let y = c.requires in
    let d = c.if-next-levels.false in
    record {
      gives = down_gives y d low is _ c.trying.ensures.gives;
      remembers = λ i P D panels F A R. c.trying.ensures.remembers i P D panels F A (down_remembers F (further y d low is) low is R);
    }

pub trying-returns-then-d-eq0 : goal.trying-returns-then-d-eq0
trying-returns-then-d-eq0 t c =
    let s = c.requires in
    record {
      gives = end_gives s c.if-d-eq0.true c.if-m-eq0.true _ refl;
      again = λ e. refl;
      remembers = λ n P D panels F A R. inner_remembers F (not_whole s.sound.deep) R;
    }

pub trying-trying-requires : goal.trying-trying-requires
trying-trying-requires t c =
    let p = c.requires in
    let d = c.if-d-eq0.false in
    let z = c.if-m-eq0.true in
    let q = c.give_up.ensures.place in
    (under c.decreases (up_less p d z q), up_ready p d z q)

pub trying-returns-then-m-eq0 : goal.trying-returns-then-m-eq0
trying-returns-then-m-eq0 t c =
    let y = c.requires in
    let d = c.if-d-eq0.false in
    let z = c.if-m-eq0.true in
    let g = c.give_up.ensures in
    record {
      gives = up_gives y d z g.place _ c.trying.ensures.gives;
      again = λ e. absurd (d e.0);
      remembers = λ i P D panels F A R. c.trying.ensures.remembers i P D panels F A
          (back_remembers F (at_most y.sound.deep) y.sound.few d g R (few_up F _ _ d R.untried));
    }

pub trying-bounds-levels-j : goal.trying-bounds-levels-j
trying-bounds-levels-j t c =
    split_low (omega (arith, c.if-m-eq0.false)) (omega arith) (c.from-j.ensures ∙ c.low.ensures, c.others-rest.ensures.is)

pub trying-ask_of-requires : goal.trying-ask_of-requires
trying-ask_of-requires t c =
    split_low (omega (arith, c.if-m-eq0.false)) (omega arith) (c.from-j.ensures ∙ c.low.ensures, c.others-rest.ensures.is)

pub trying-overflow_mul-walk-2 : goal.trying-overflow_mul-walk-2
trying-overflow_mul-walk-2 t c = let h = picks_fit c.requires.sound in omega arith

pub trying-overflow_add-walk-2 : goal.trying-overflow_add-walk-2
trying-overflow_add-walk-2 t c =
    let h = picks_fit c.requires.sound in
    omega (arith, split_low (omega (arith, c.if-m-eq0.false)) (omega arith) (c.from-j.ensures ∙ c.low.ensures, c.others-rest.ensures.is))

pub trying-overflow_add-walk-3 : goal.trying-overflow_add-walk-3
trying-overflow_add-walk-3 t c =
    let e : Splits c.from-j.result c.from.result (c.args.walk.now.place.left % 64) =
    (c.from-j.ensures ∙ c.low.ensures, c.from.ensures ∙ c.others-rest.ensures.is) in
    omega (arith, (fix_ready c.requires c.if-m-eq0.false e).room)

pub trying-descending-requires : goal.trying-descending-requires
trying-descending-requires t c =
    let e : Splits c.from-j.result c.from.result (c.args.walk.now.place.left % 64) =
    (c.from-j.ensures ∙ c.low.ensures, c.from.ensures ∙ c.others-rest.ensures.is) in
    (under c.decreases (fix_less c.requires c.if-m-eq0.false e), fix_ready c.requires c.if-m-eq0.false e)

pub trying-returns : goal.trying-returns
trying-returns t c =
    let e : Splits c.from-j.result c.from.result (c.args.walk.now.place.left % 64) =
    (c.from-j.ensures ∙ c.low.ensures, c.from.ensures ∙ c.others-rest.ensures.is) in
    let h = c.if-m-eq0.false in
    let y = c.requires in
    record {
      gives = fix_gives y h e _ c.descending.ensures.gives;
      again = λ e. absurd (h e.1);
      remembers = λ i P D panels F A R. c.descending.ensures.remembers i P D panels F A
          (fix_remembers F A y.sound.deep y.sound.few (some y h) e c.ask_of.ensures.asked c.ask_of.ensures.pushed R);
    }
