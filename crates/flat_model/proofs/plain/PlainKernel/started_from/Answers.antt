use Rattle.std.proofs.Common.{ap, ◌∙◌, get_or, arith}
use Rattle.std.specs.Prelude.{unwrap_or}
use Rattle.addr_base.specs.declared.identity.BoxId.{BoxId}
use Rattle.flat_model.specs.CallRows.{home_of}
use Rattle.flat_model.specs.Kernel.{KernelState}
use Rattle.flat_model.proofs.Homes.{home-at}
use Rattle.flat_model.proofs.plain.PlainKernel.started_from.Goals as goal

pub returns : goal.returns
returns c =
    let t = c.args.call.ticket.thread.0 in
    ap (λ (home : BoxId). record { function = c.args.call.function; args = c.args.call.args; caller = home })
    (c.unwrap_or.ensures
    ∙ ap (λ o. unwrap_or o (record { 0 = 0 })) c.copied.ensures
    ∙ c.get-caller.ensures.lookup.4 (omega arith) (record { 0 = 0 })
    ∙ ap (λ homes. get_or homes t (record { 0 = 0 })) (c.as_slice.ensures ∙ c.self.invariant.4)
    ∙ home-at c.self.inside.config.value.threads t (record { 0 = 0 })
    ∙ ap (λ (k : KernelState). home_of k.config t) c.self.view_is)
