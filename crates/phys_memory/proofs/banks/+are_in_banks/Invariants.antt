use Rattle.phys_memory.proofs.banks.+are_in_banks.Given as goal

-- proposed from what the function passes where it calls itself
abbrev pub decreases-are_in_banks : goal.decreases-are_in_banks
decreases-are_in_banks l = l.n
