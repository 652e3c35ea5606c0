pub mod DigitsLemmas
pub mod EdgeWorked
pub mod ExamplesLemmas
pub mod HostWorked
pub mod IndexLemmas
pub mod KeyLemmas
pub mod LookupLemmas
pub mod NumbersLemmas
pub mod PointLemmas
pub mod PowerLemmas
pub mod RealmWorked
mod RangesLemmas
pub mod SeparatedLemmas
pub mod StoreWorked
pub mod Tenth
