-- What the contracts of private functions name: no reader has to believe it.
pub mod Plain
pub mod Rules
pub mod Seen
