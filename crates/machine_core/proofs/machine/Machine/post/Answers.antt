use Rattle.std.proofs.Common.{◌≡◌, Some, None, sym, ◌∙◌, subst}
use Rattle.addr_base.specs.declared.identity.Ticket.{Ticket}
use Rattle.machine_core.specs.Entries.{Posts}
use Rattle.machine_core.proofs.PostLemmas.{posting, posts-answer, posts-turn, some-is}
use Rattle.machine_core.proofs.machine.Machine.post.Goals as goal

pub unreachable-requires : goal.unreachable-requires
unreachable-requires c =
    let v = c.args.self.now in
    let e : Some (posting v c.args.t c.args.b c.requires.takes c.requires.ready).call.ticket ≡ None =
    sym (c.ticket_of-answer.ensures ∙ posts-answer v c.args.t c.args.b c.requires.takes c.requires.ready c.act-reply.result c.act-reply.ensures.reply)
    ∙ c.in_default.is in
    cc

pub returns-clause-posts : goal.returns-clause-posts
returns-clause-posts c =
    let v = c.args.self.now in
    let e = some-is _ _ (sym (c.ticket_of-answer.ensures ∙ posts-answer v c.args.t c.args.b c.requires.takes c.requires.ready c.act-reply.result c.act-reply.ensures.reply)
    ∙ c.in-Some.is) in
    subst (Posts v c.args.t c.args.b) e (posts-turn v c.args.t c.args.b c.requires.takes c.requires.ready)
