-- `preparing::closed_tables` meets its contract. Assumes nothing.
use Rattle.tables.proofs.Loops.{says_yes, says_no}
use Rattle.preparing.proofs.Preparing.{closed_asks, untabled, product_asks, tabled}
use Rattle.preparing.proofs.closed_tables.Goals as goal

pub closed-requires : goal.closed-requires
closed-requires c = let (P, H) = c.requires in closed_asks H

pub returns-then-not-closed : goal.returns-then-not-closed
returns-then-not-closed c = λ P H. untabled H (says_no c.closed.result c.if-not-closed.true-raw c.closed.ensures.order)

pub product-requires : goal.product-requires
product-requires c = let (P, H) = c.requires in product_asks H c.closed.ensures (says_yes c.closed.result c.if-not-closed.false-raw c.closed.ensures.order)

pub returns : goal.returns
returns c = λ P H. tabled H c.closed.ensures (says_yes c.closed.result c.if-not-closed.false-raw c.closed.ensures.order) c.product.ensures
