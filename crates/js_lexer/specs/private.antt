pub mod Class
pub mod Close
