use Rattle.machine_core.proofs.machine.Machine.boot.Goals as goal

pub opened-requires : goal.opened-requires
opened-requires c = c.requires

pub assembled-requires : goal.assembled-requires
assembled-requires c = record { sound = c.requires; opening = c.in_ok-opening.ensures }
