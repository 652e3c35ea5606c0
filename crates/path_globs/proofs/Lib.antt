mod NormalFormLemmas
mod SpecifierLemmas
mod BesideLemmas
mod WildcardsLemmas
mod SourceLemmas
