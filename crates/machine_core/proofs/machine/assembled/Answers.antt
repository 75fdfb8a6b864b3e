use Rattle.machine_core.proofs.BootLemmas.{counts-booted, kept-booted, same-booted, seen-booted}
use Rattle.machine_core.proofs.machine.assembled.Goals as goal

pub invariant_of-result : goal.invariant_of-result
invariant_of-result c =
    let opening = c.args.opening in
    let is = c.requires.opening in (
      same-booted c.args.config opening.state is.state_is,
      kept-booted c.args.config c.args.drive c.args.extra opening.journal is.journal_is opening.rings is.rings_are opening.state c.requires.sound is.state_is,
      is.has_ends,
      counts-booted c.args.config c.args.drive c.args.extra opening.journal is.journal_is opening.rings is.rings_are,
    )

pub returns : goal.returns
returns c = seen-booted c.args.config c.args.drive c.args.extra c.args.opening.journal c.requires.opening.journal_is
