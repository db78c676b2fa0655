pub mod ContactTurns
pub mod IterationReads
pub mod IterationTerms
