use Rattle.std.proofs.Common.{Err, sym, ap, ◌∙◌, subst}
use Rattle.flat_model.specs.First.{IsCause}
use Rattle.uvisor_run.specs.Accept.{config_of}
use Rattle.uvisor_run.proofs.Told.{config_told, refusal_told}
use Rattle.uvisor_run.proofs.top.serve_bytes.Goals as goal

pub returns-in-Ok-clause-told : goal.returns-in-Ok-clause-told
returns-in-Ok-clause-told g c =
    config_told c.args.command c.args.bytes.now c.in-Ok.field-0.config _ _ _ _ _ c.in-Ok.ensures.ok c.serve_config-status.ensures

pub returns-in-Err-Refused-clause-told : goal.returns-in-Err-Refused-clause-told
returns-in-Err-Refused-clause-told g c =
    refusal_told c.args.command c.args.bytes.now _ _ _ _ _ _
    (subst (IsCause (config_of c.args.bytes.now)) c.in-Err-Refused.field-0-is c.in-Err-Refused.ensures.cause
    ∙ ap Err (sym c.in-Err-Refused.refusal-is))
    c.answer_refusal.ensures
