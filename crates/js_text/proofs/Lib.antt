pub mod Place
pub mod Position
pub mod Words
