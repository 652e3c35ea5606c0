-- Places in a text: each line counts from 1. They are those of the law on the trees that are read.
pub use Rattle.js_reading.specs.Placed.{IsPlaced, IsPlacedIf, ArePathsPlaced, IsConstructPlaced, ArePlaced}
