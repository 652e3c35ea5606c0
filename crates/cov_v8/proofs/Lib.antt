pub mod ReaderLemmas
pub mod PlaceLemmas
pub mod RangeLemmas
pub mod InsideLemmas
pub mod ShortestLemmas
