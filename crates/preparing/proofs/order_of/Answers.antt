-- `preparing::order_of` meets its contract. Assumes nothing.
use native.Mathlib.Omega.{arith}
use Rattle.preparing.proofs.Preparing.{triggers_few, panels_few, afters_of, lags_of, lands_of, orders_after, lands_near, lags_near, orders_joined}
use Rattle.preparing.proofs.order_of.Goals as goal

pub product-waits-requires : goal.product-waits-requires
product-waits-requires c =
    let (s, W) = c.requires in
    let n = triggers_few W in
    let m = panels_few W in
    (omega arith, omega arith, omega arith, lands_near W (lands_of W c.in-Some.is), lags_near W (lags_of W))

pub returns-in-Some : goal.returns-in-Some
returns-in-Some c = λ s W. orders_joined W (afters_of W) (lands_of W c.in-Some.is) (lags_of W) c.product-waits.ensures c.joined.ensures.1

pub returns-in-None : goal.returns-in-None
returns-in-None c = λ s W. orders_after W c.in-None.is
