use Rattle.std.proofs.Common.{arith}
use Rattle.run_log.proofs.ReadingLemmas.{end_found, end_other}
use Rattle.run_log.proofs.reading.read_end.Goals as goal

pub returns-then-not-is_line_of_end-clause-none : goal.returns-then-not-is_line_of_end-clause-none
returns-then-not-is_line_of_end-clause-none c = λ _.
    end_other c.args.config.now c.args.t.0 c.args.line.now c.end_of-end.result c.requires (omega arith) c.end_of-end.ensures
    (λ is. let yes = c.is_line_of_end.ensures.1 is in absurd (cc))

pub returns-clause-found : goal.returns-clause-found
returns-clause-found c =
    end_found c.args.config.now c.args.t.0 c.args.line.now c.end_of-end.result c.end_of-end.ensures (c.is_line_of_end.ensures.0 (cc))
