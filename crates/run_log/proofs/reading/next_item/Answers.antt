use Rattle.std.proofs.Common.{refl}
use Rattle.run_log.proofs.ReadingLemmas.{no_item_at, no_item_line}
use Rattle.run_log.proofs.reading.next_item.Goals as goal

pub returns-in-None-read_item-clause-none : goal.returns-in-None-read_item-clause-none
returns-in-None-read_item-clause-none c = λ _.
    no_item_at c.args.config.now c.args.bytes.now c.in-Some.line.now c.in-Some.rest.now c.requires
    (rw (c.in-Some.line-is, c.in-Some.rest-is) c.in-Some.ensures) (c.in-None-read_item.ensures.none refl)

pub returns-in-None-clause-none : goal.returns-in-None-clause-none
returns-in-None-clause-none c = λ _. no_item_line c.args.config.now c.args.bytes.now c.in-None.ensures
