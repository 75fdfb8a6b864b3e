use Rattle.phys_memory.proofs.bank.Bank.+load.Given as goal

abbrev pub decreases-load : goal.decreases-load
decreases-load l = l.n
