use Rattle.run_log.proofs.LoopLemmas.{item_shorter, items_more}
use Rattle.run_log.proofs.reading.read_items.Goals as goal

pub items-smaller : goal.items-smaller
items-smaller c =
    item_shorter c.args.config.now c.items.rest.now c.in-Some.item c.in-Some.after.now (rw (c.in-Some.item-is, c.in-Some.after-is) c.in-Some.ensures.found)

pub items-preserved : goal.items-preserved
items-preserved c =
    rw c.in_ok-push.ensures.ok (items_more c.args.config.now c.args.bytes.now c.items.items.items c.items.rest.now c.in-Some.item c.in-Some.after.now c.items.invariant
    (rw (c.in-Some.item-is, c.in-Some.after-is) c.in-Some.ensures.found))
