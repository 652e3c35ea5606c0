pub mod Apart
pub mod Asked
pub mod Asking
pub mod Finishing
pub mod ForGoals
pub mod Goals
pub mod Texts
pub mod Tokens
