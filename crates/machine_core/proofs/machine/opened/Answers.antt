use Rattle.machine_core.proofs.BootLemmas.{journal-opened}
use Rattle.machine_core.proofs.machine.opened.Goals as goal

pub most_items-room-requires : goal.most_items-room-requires
most_items-room-requires c = record { steps = c.requires.limits.steps; devices = c.requires.limits.devices }

pub opening-requires : goal.opening-requires
opening-requires c = c.requires

pub returns : goal.returns
returns c = record {
  state_is = c.in_ok-state.ensures;
  journal_is = journal-opened c.args.cfg.now c.args.drive c.args.extra c.most_items-room.result c.in_ok-journal.journal c.most_items-room.ensures c.in_ok-journal.ensures;
  rings_are = c.in_ok-rings.ensures;
  has_ends = c.in_ok-ends.ensures;
}
