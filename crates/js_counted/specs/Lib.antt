pub mod Files
pub mod Holds
pub mod Numbers
pub mod Parts
pub mod Preambles
pub mod Program
