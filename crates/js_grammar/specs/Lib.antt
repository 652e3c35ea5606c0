pub mod View
pub mod private
