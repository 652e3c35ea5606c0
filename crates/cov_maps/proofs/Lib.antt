pub mod AllNamed
pub mod HintTable
pub mod Sample
