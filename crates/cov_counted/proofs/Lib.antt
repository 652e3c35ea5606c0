mod JsonUnits
mod Literal
pub mod Numbers
mod Counting
mod Hexadecimal
mod Inherited
mod Zeros
mod Tellable
mod Prepared
