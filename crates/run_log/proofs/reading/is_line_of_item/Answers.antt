use Rattle.run_log.proofs.ReadingLemmas.{same_line}
use Rattle.run_log.proofs.reading.is_line_of_item.Goals as goal

pub returns : goal.returns
returns c = same_line c.clear.new.self _ c.args.line.now _ c.eq.result c.clear.ensures c.push_item_words.ensures.text (rw c.as_slice.ensures at c.eq.ensures)
