use Rattle.atomic_pool.proofs.tests.inboxes.+fills.Given as goal

abbrev pub decreases-fill : goal.decreases-fill
decreases-fill l = l.most
