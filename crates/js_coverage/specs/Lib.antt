pub mod Coverage
pub mod CoverageRows
