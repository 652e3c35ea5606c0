-- What the contracts of private functions name: no reader has to believe it.
pub mod Search
