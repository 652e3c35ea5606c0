pub mod Words
pub mod WorkedWords
pub mod Laws
pub mod private
