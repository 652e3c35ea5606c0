pub mod Binding
pub mod Code
pub mod Literal
pub mod Node
pub mod Part
pub mod Program
pub mod Scopes
pub mod private
