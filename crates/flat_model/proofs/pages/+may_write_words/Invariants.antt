use Rattle.flat_model.proofs.pages.+may_write_words.Given as goal

abbrev pub decreases-may_write_words : goal.decreases-may_write_words
decreases-may_write_words l = l.n
