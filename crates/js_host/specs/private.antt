-- What the contracts of private functions name: no reader has to believe it.
pub mod Coerced
pub mod Elements
pub mod Met
pub mod Row
