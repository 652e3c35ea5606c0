pub mod MarkedTree
