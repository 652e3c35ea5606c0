pub mod Form
pub mod Read
pub mod Coverage
pub mod private
pub mod Rows
pub mod Path
pub mod Laws
