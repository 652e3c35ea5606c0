pub mod Moved
mod Sets
mod Starts
mod Taken
