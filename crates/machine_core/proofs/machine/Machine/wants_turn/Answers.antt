use Rattle.std.proofs.Common.{ap, sym, ◌∙◌}
use Rattle.machine_core.specs.Turns.{is_plain}
use Rattle.machine_core.proofs.ReadyLemmas.{turn-ready}
use Rattle.machine_core.proofs.machine.Machine.wants_turn.Goals as goal

pub returns-clause-ready : goal.returns-clause-ready
returns-clause-ready c = λ yes.
    turn-ready c.args.self.now c.args.t c.requires.there (ap is_plain (sym c.want.ensures.exact) ∙ sym c.is_plain.ensures ∙ yes) c.requires.live
