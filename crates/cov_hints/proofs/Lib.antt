pub mod ExprPlaces
pub mod Gaps
pub mod NodePlaces
