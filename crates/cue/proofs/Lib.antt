-- Why the method finds what is meant. The whole argument, in the order in which one file builds on another; ⊕ is the larger, componentwise,
-- and a vector may have absent components. Demands has what it gives.
--
-- The cone (Cone). K is the set of the vectors v that keep the order and land, on each panel with a floor, at p − Δ + α(v) or later, where
-- α(v) is the largest v(j) − q(j). It knows of no star, selection or line. It is closed under ⊕ and under shifts, since each of its
-- conditions says that one max-plus form is at most another.
--
-- Tightest timings are the cone's (Order, Deviation, Cone). If no circle gains, M* has 0 on its diagonal, M* M* = M*, and what keeps the order
-- is what M* leaves unchanged; a way of n steps visits a trigger twice, and the circle between the visits can be left out. So r, the latest
-- marks that keep the order and lie below the due marks, is itself a timing that keeps it. A v that keeps the order lies below r + α(v), so
-- it lands no later than r + α(v) does, and deviates by Δ at least; r deviates by Δ. Hence a timing is tightest exactly when it is in K.
--
-- Candidates make the cone (Walk, Candidates). Take v in K and go down the panels: on each, some trigger of v alone brings the landing that
-- Δ asks for, it is kept, and where the walk has left one trigger only, that one serves as well. So the walk has a selection all of whose
-- fixings serve v; its w, shifted by α(v), lies below v. The candidate of that w and of a trigger t of v, shifted to v(t) at t, lies below v
-- and meets it at t. So v is the ⊕ of such candidates, and each candidate is in K.
--
-- Extremes are the list (MinimalLaws, Extreme). A line c of K is extreme when for some trigger j the only vector of K below c that meets it
-- at j is c. A candidate that no others make is extreme: a vector of K below c that meets it at j is made of candidates, one of them meets
-- it at j too, and if that one were another than c at every j, c would be made of others. An extreme line is met by a candidate below it,
-- so it is that candidate. Below each candidate that is not extreme at j stand others that meet it there; the least of them in the order of
-- step 7 is extreme. So the list is the extremes of K, sorted, and makes K.
--
-- A test that needs no other line (LocalTest, Closure): see extreme-closure. Lines that need no walk, one panel added after the other (Rays): see
-- covers-generate and lines-generated.
--
-- Weights (Room, Weights). For a timing x of K and a line l the largest weight that fits, the least x(j) − l(j), is a whole number, as x has no
-- absent component and l not only such; with these weights, one for each line, the lines make x. Conversely whole-number weights for all
-- lines make a vector of K without absent component, since r is made of the lines.
--
-- The latest timing (Room, Latest). Whatever the weights, what the lines make lies below G exactly when each weight fits its line below G,
-- and larger weights make a later timing. So the largest weights that fit make the latest tightest timing below G.
--
-- Two sheets (Cone, TwoSheets). The timings of K determine K: for v in K and any timing g of K, v ⊕ (g − k) is a timing of K for every k; if
-- it is in the other cone for every k, so is v, since the conditions are inequalities and the part with −k falls below every number. Equal
-- cones have equal extremes, and two sorted lists with the same members are equal.
--
-- Sizes (Bounds, Few): a star entry adds up fewer than n rules; the rest adds up along the definitions.
pub mod MinimalLaws
pub mod Order
pub mod Deviation
pub mod Cone
pub mod Walk
pub mod NeedLaws
pub mod Candidates
pub mod Extreme
pub mod LocalTest
pub mod Closure
pub mod Rays
pub mod Room
pub mod Weights
pub mod Reaches
pub mod Latest
pub mod Bounds
pub mod Few
pub mod WrittenLaws
pub mod LentLaws
pub mod StandingLaws
pub mod TwoSheets
pub mod Demands
pub mod Examples
