pub mod Again
pub mod Counting
pub mod Headline
pub mod Instrumented
pub mod Laws
pub mod Refused
