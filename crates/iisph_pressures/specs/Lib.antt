pub mod IterationRows
