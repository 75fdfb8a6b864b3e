use Rattle.phys_memory.proofs.banks.Banks.+word_across.Given as goal

abbrev pub decreases-word_across : goal.decreases-word_across
decreases-word_across l = l.n
