use Rattle.std.proofs.Common.{refl, arith}
use Rattle.run_log.proofs.ReadingLemmas.{no_end_at, no_end_line}
use Rattle.run_log.proofs.reading.next_end.Goals as goal

pub returns-in-None-read_end-clause-none : goal.returns-in-None-read_end-clause-none
returns-in-None-read_end-clause-none c = λ _.
    no_end_at c.args.config.now c.args.t.0 c.args.bytes.now c.in-Some.line.now c.in-Some.rest.now c.requires (omega arith)
    (rw (c.in-Some.line-is, c.in-Some.rest-is) c.in-Some.ensures) (c.in-None-read_end.ensures.none refl)

pub returns-in-None-clause-none : goal.returns-in-None-clause-none
returns-in-None-clause-none c = λ _. no_end_line c.args.config.now c.args.t.0 c.args.bytes.now c.in-None.ensures
