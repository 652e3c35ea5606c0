-- What the contracts of private functions name: no reader has to believe it.
pub mod Bindings
pub mod Environment
pub mod Keys
pub mod Mask
pub mod Object
pub mod Write
