use Rattle.std.proofs.Common.{Err, sym, ap, ◌∙◌, subst}
use Rattle.flat_model.specs.First.{IsCause}
use Rattle.uvisor_run.specs.Accept.{config_of}
use Rattle.uvisor_run.proofs.MakingRuns.{made_config, made_refused, made_told, refused_other}
use Rattle.uvisor_run.proofs.made.serve_made.Goals as goal

pub returns-in-Ok-clause-told : goal.returns-in-Ok-clause-told
returns-in-Ok-clause-told g c =
    made_told c.args.n c.args.bytes.now c.in-Ok.field-0.config _ _ _ _ _ c.requires c.in-Ok.ensures.ok c.serve_counts-status.ensures

pub returns-in-Ok-clause-config : goal.returns-in-Ok-clause-config
returns-in-Ok-clause-config g c = λ _. made_config c.args.n c.args.bytes.now c.in-Ok.field-0.config c.requires c.in-Ok.ensures.ok c.in-Ok.ensures.sound

pub returns-in-Err-Refused-clause-told : goal.returns-in-Err-Refused-clause-told
returns-in-Err-Refused-clause-told g c =
    made_refused c.args.n c.args.bytes.now _ _ _ _ _ _ c.requires
    (subst (IsCause (config_of c.args.bytes.now)) c.in-Err-Refused.field-0-is c.in-Err-Refused.ensures.cause
    ∙ ap Err (sym c.in-Err-Refused.refusal-is))
    c.answer_refusal.ensures

pub returns-in-Err-Refused-clause-config : goal.returns-in-Err-Refused-clause-config
returns-in-Err-Refused-clause-config g c = refused_other c.args.n _ _ _ _ _ _ c.answer_refusal.ensures
