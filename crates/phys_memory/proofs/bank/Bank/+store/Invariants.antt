use Rattle.phys_memory.proofs.bank.Bank.+store.Given as goal

abbrev pub decreases-store : goal.decreases-store
decreases-store l = l.n
