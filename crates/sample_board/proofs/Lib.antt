pub mod BoardLemmas
pub mod BoxLemmas
pub mod ConfigLemmas
