use Rattle.std.proofs.Common.{ap, inl, Ok, ◌∙◌, Err, arith}
use Rattle.std.proofs.lemmas.Result.{err_from_is_err_and}
use Rattle.run_log.proofs.LoopLemmas.{ends_cause, memory_only, read_is, read_is_one}
use Rattle.run_log.proofs.reading.read_log.Goals as goal

pub returns-in_err-read_ends-clause-again : goal.returns-in_err-read_ends-clause-again
returns-in_err-read_ends-clause-again c =
    let p = err_from_is_err_and c.from_residual-in_err-read_ends.result c.from_residual-in_err-read_ends.ensures.1 in
    λ log of.
    memory_only c.args.config.now c.args.bytes.now c.in_err-read_ends.field-0.0 c.from_residual-in_err-read_ends.result log (p.1 ∙ ap Err p.2)
    (ends_cause c.args.config.now c.args.bytes.now c.read_items.new.items.items c.in_ok-rest.rest.now c.len.result _ c.requires.sound
    (rw c.in_ok-rest.rest-is c.in_ok-rest.ensures.ok) (rw c.in_ok-rest.rest-is c.in_ok-rest.ensures.stop) (omega (arith, c.len.ensures, c.read_items.new.items.ok.0)) c.in_err-read_ends.ensures.err) of

pub returns-in_err-read_ends-clause-err : goal.returns-in_err-read_ends-clause-err
returns-in_err-read_ends-clause-err c =
    let p = err_from_is_err_and c.from_residual-in_err-read_ends.result c.from_residual-in_err-read_ends.ensures.1 in
    rw (p.1, p.2)
    (ends_cause c.args.config.now c.args.bytes.now c.read_items.new.items.items c.in_ok-rest.rest.now c.len.result _ c.requires.sound
    (rw c.in_ok-rest.rest-is c.in_ok-rest.ensures.ok) (rw c.in_ok-rest.rest-is c.in_ok-rest.ensures.stop) (omega (arith, c.len.ensures, c.read_items.new.items.ok.0)) c.in_err-read_ends.ensures.err)

pub returns-clause-again : goal.returns-clause-again
returns-clause-again c = λ log of.
    inl (ap Ok (read_is_one c.args.config.now c.args.bytes.now _ log c.requires.sound
    (rw (c.from_vec.ensures, c.from_vec-2.ensures)
    (read_is c.args.config.now c.args.bytes.now c.read_items.new.items.items c.in_ok-rest.rest.now c.read_ends.new.ends.items
    (rw c.in_ok-rest.rest-is c.in_ok-rest.ensures.ok) c.in_ok-read_ends.ensures.ok c.in_ok-read_ends.ensures.all)) of))
