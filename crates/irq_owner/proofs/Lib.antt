pub mod BitLemmas
pub mod HandlingLemmas
pub mod LineLemmas
pub mod NextLemmas
pub mod OwnedLemmas
pub mod SampleLemmas
