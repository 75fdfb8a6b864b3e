use Rattle.machine_core.proofs.tables.+may_write_words.Given as goal

abbrev pub decreases-may_write_words : goal.decreases-may_write_words
decreases-may_write_words l = l.n
