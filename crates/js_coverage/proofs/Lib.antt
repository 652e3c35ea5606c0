mod CoverageWorked
pub mod Levels
