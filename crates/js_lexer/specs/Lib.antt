pub mod private
pub mod Escape
pub mod Gap
pub mod Laws
pub mod Number
pub mod Token
