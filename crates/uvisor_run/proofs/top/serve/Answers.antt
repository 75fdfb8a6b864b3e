use Rattle.std.proofs.Common.{ap, Err}
use Rattle.uvisor_run.proofs.Told.{bytes_run, too_long_run}
use Rattle.uvisor_run.proofs.top.serve.Goals as goal

pub returns-in-Ok : goal.returns-in-Ok
returns-in-Ok g c =
    bytes_run c.args.command c.as_slice.result.now c.in-Ok.bytes.items _ _ _ _ _ _ _ _ c.serve_bytes.result
    c.as_slice.ensures.value c.in-Ok.ensures.ok c.in-Ok.ensures.end (c.in-Ok.ensures.faults.kept (λ same. cc))
    c.serve_bytes.ensures.config c.serve_bytes.ensures.told c.serve_bytes.ensures.known

pub returns-in-Err-TooLong : goal.returns-in-Err-TooLong
returns-in-Err-TooLong g c =
    too_long_run c.args.command _ _ _ _ _ _ _ _ c.answer_refusal.result
    (c.in-Err-TooLong.ensures.too_long (ap (λ e. Err e) c.in-Err-TooLong.field-0-is))
    (c.in-Err-TooLong.ensures.faults.kept (λ same. cc)) c.answer_refusal.ensures
