pub mod Codes
pub mod Forms
pub mod Links
pub mod Programs
pub mod Scopes
pub mod Steps
