mod ElementLemmas
mod IterationLemmas
mod NativeLemmas
