-- `admitting::times_in_use` meets its contract. Assumes nothing.
use Rattle.spares.proofs.PlaceLaws.{pickable}
use Rattle.spares.proofs.PickedLaws.{picked_words}
use Rattle.admitting.proofs.times_in_use.Goals as goal

pub picked-times-requires : goal.picked-times-requires
picked-times-requires c = let (s, n, h) = c.requires in pickable h

pub returns : goal.returns
returns c =
    λ s n X h w.
    record { count = h.count_is; words = picked_words h w.words c.picked-times.ensures }
