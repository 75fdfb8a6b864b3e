pub mod BankLemmas
pub mod ByteLemmas
pub mod OneBankLemmas
pub mod PackedLemmas
pub mod PieceLemmas
