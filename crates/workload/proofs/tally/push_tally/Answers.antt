use Rattle.workload.proofs.Counting.{counts_pushed}
use Rattle.workload.proofs.tally.push_tally.Goals as goal

pub returns : goal.returns
returns c =
    counts_pushed c.args.n c.args.items.now c.args.page.now c.push_bytes.new.self c.push_decimal.new.self c.push_unit_counts.new.page c.push_event_counts.new.page c.push_byte.new.self
    c.push_bytes.ensures.text c.push_decimal.ensures.text c.push_unit_counts.ensures.text c.push_event_counts.ensures.text c.push_byte.ensures.text
