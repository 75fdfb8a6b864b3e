use Rattle.std.proofs.Common.{Some, ap, ◌∙◌}
use Rattle.workload.proofs.NumberWords.{none_otherwise, none_read, some_read}
use Rattle.workload.proofs.numbers.input_number.Goals as goal

pub returns-then-begins_otherwise : goal.returns-then-begins_otherwise
returns-then-begins_otherwise c =
    rw (← c.as_bytes.ensures.value) (none_otherwise c.as_bytes.result.now (c.begins_otherwise.ensures.empty c.if-begins_otherwise.true))

pub returns-in-Ok : goal.returns-in-Ok
returns-in-Ok c =
    let other = rw c.as_bytes.ensures.value at (c.begins_otherwise.ensures.other c.if-begins_otherwise.false) in
    ap Some c.from.ensures ∙ some_read c.args.word.now c.in-Ok.n other.0 other.1 other.2 c.in-Ok.ensures.value.0

pub returns-in-Err : goal.returns-in-Err
returns-in-Err c =
    let other = rw c.as_bytes.ensures.value at (c.begins_otherwise.ensures.other c.if-begins_otherwise.false) in
    none_read c.args.word.now other.0 other.1 c.in-Err.ensures.value.0
