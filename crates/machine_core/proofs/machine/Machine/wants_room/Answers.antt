use Rattle.std.proofs.Common.{ap, sym, ◌∙◌}
use Rattle.machine_core.specs.Turns.{is_room_in}
use Rattle.machine_core.proofs.ReadyLemmas.{claim-ready}
use Rattle.machine_core.proofs.machine.Machine.wants_room.Goals as goal

pub returns-clause-ready : goal.returns-clause-ready
returns-clause-ready c = λ yes.
    claim-ready c.args.self.now c.args.t c.requires c.args.b (ap (is_room_in c.args.b.0) (sym c.want.ensures.exact) ∙ sym c.is_room_in.ensures ∙ yes)
