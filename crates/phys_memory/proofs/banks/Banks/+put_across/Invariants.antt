use Rattle.phys_memory.proofs.banks.Banks.+put_across.Given as goal

abbrev pub decreases-put_across : goal.decreases-put_across
decreases-put_across l = l.n
