use Rattle.flat_model.proofs.GoingOn.{actor_can_act}
use Rattle.flat_model.proofs.step.turn_at.Goals as goal

pub turn-reply-requires-clause-acts : goal.turn-reply-requires-clause-acts
turn-reply-requires-clause-acts c =
    let some = c.in-Some.ensures.some in
    let here = c.at-thread.ensures in
    actor_can_act c.args.kernel.now c.args.cfg.now c.args.threads.now c.args.t c.args.room c.in-Some.actor.who c.in-Some.actor.part.now
    c.in-Some.actor.program.now c.at-thread.result c.requires.config c.requires.sound c.requires.kept some.0 some.1 some.2 here (some.4 _ here)
