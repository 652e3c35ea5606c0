mod Constructed
mod Ends
mod Grown
mod Growth
pub mod Handle
pub mod MetNames
mod Numbered
mod Once
pub mod PointLemmas
mod Read
mod SameCodes
mod SameScopes
mod Shaped
mod Standing
mod Thin
mod ThinForms
mod Uncounted
mod Worked
