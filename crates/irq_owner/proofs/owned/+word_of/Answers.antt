use Rattle.irq_owner.proofs.OwnedLemmas.{has_bit-first}
use Rattle.irq_owner.proofs.owned.+word_of.Goals as goal

pub returns : goal.returns
returns t c = has_bit-first c.word_of.result c.args.irqs.now _ c.in-len1-up.len_at_least c.requires c.word_of.ensures
