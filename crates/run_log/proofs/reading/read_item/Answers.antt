use Rattle.run_log.proofs.ReadingLemmas.{item_found, item_other, item_unnamed}
use Rattle.run_log.proofs.reading.read_item.Goals as goal

pub returns-then-not-is_named_item-clause-none : goal.returns-then-not-is_named_item-clause-none
returns-then-not-is_named_item-clause-none c = λ _.
    item_unnamed c.args.config.now c.args.line.now c.item_of-item.result c.requires c.item_of-item.ensures (cc)

pub returns-then-not-is_line_of_item-clause-none : goal.returns-then-not-is_line_of_item-clause-none
returns-then-not-is_line_of_item-clause-none c = λ _.
    item_other c.args.config.now c.args.line.now c.item_of-item.result c.requires c.item_of-item.ensures
    (λ is. let yes = c.is_line_of_item.ensures.1 is in absurd (cc))

pub returns-clause-found : goal.returns-clause-found
returns-clause-found c =
    item_found c.args.config.now c.args.line.now c.item_of-item.result c.item_of-item.ensures (cc) (c.is_line_of_item.ensures.0 (cc))
