use Rattle.std.proofs.Common.{◌+◌, ◌/◌, ◌<◌, map, ap, sym, ◌∙◌, subst, arith}
use Rattle.std.specs.Slots.{slots_items}
use Rattle.atomic_pool.specs.Tickets.{code}
use Rattle.atomic_pool.specs.Queue.{head_of}
use Rattle.atomic_pool.proofs.QueueEnd.{Rest, rest-first, rest-next, rest-end, word-is, codes-push}
use Rattle.atomic_pool.proofs.whole.queued.Goals as goal

pub word-rest-requires : goal.word-rest-requires
word-rest-requires c = let q = c.requires.queue.1 in (omega (arith, q.wide), c.requires.full)

pub loop-rest-init : goal.loop-rest-init
loop-rest-init c q queue =
    subst (λ xs. Rest (slots_items c.args.closed.now.words) q c.word-rest.result (map code xs)) (sym c.new-left.ensures)
    (rest-first _ _ _ queue (word-is (slots_items c.args.closed.now.words) 1 _ c.word-rest.ensures))

pub overflow_sub-slot : goal.overflow_sub-slot
overflow_sub-slot c = (rest-next _ _ _ _ (c.loop-rest.invariant c.requires.queue.0 c.requires.queue.1) c.loop-rest-test.true).digit

pub word-requires : goal.word-requires
word-requires c =
    let n = rest-next _ _ _ _ (c.loop-rest.invariant c.requires.queue.0 c.requires.queue.1) c.loop-rest-test.true in
    (omega (arith, n.within), c.requires.full)

pub ticket_of-requires : goal.ticket_of-requires
ticket_of-requires c =
    let n = rest-next _ _ _ _ (c.loop-rest.invariant c.requires.queue.0 c.requires.queue.1) c.loop-rest-test.true in
    subst (λ x. x / 4294967296 < 256) (word-is (slots_items c.args.closed.now.words) (2 + head_of c.loop-rest.rest) _ c.word.ensures) n.known

pub loop-rest-preserved : goal.loop-rest-preserved
loop-rest-preserved c q queue =
    let n = rest-next _ _ _ _ (c.loop-rest.invariant q queue) c.loop-rest-test.true in
    subst (Rest (slots_items c.args.closed.now.words) q (c.loop-rest.rest / 16))
    (sym (ap (map code) c.push.ensures.items ∙ codes-push _ _ _ (c.ticket_of.ensures ∙ sym (word-is (slots_items c.args.closed.now.words) (2 + head_of c.loop-rest.rest) _ c.word.ensures)))) n.rest

pub returns : goal.returns
returns c q queue =
    rest-end _ _ _ (subst (λ w. Rest (slots_items c.args.closed.now.words) q w (map code c.loop-rest.left.items)) c.loop-rest-test.false (c.loop-rest.invariant q queue))
