pub mod GraphLemmas
pub mod RowLemmas
pub mod FactorLemmas
