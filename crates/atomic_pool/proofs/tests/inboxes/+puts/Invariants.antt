use Rattle.atomic_pool.proofs.tests.inboxes.+puts.Given as goal

abbrev pub decreases-fill_and_put : goal.decreases-fill_and_put
decreases-fill_and_put l = l.most
