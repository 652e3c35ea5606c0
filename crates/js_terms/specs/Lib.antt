pub mod Blank
pub mod Mark
