use Rattle.std.proofs.Common.{ap, sym, ◌∙◌}
use Rattle.std.specs.List.{slice_get}
use Rattle.addr_base.specs.declared.identity.BoxId.{BoxId}
use Rattle.flat_model.specs.declared.parts.Config.{Config}
use Rattle.flat_model.specs.declared.states.Lines.{Lines}
use Rattle.flat_model.specs.CallRows.{home_of, served_ticket}
use Rattle.flat_model.specs.Kernel.{KernelState}
use Rattle.flat_model.specs.KernelCalls.{after_finishing}
use Rattle.machine_core.proofs.PartLemmas.{finish-is, kernel_with, server-home-is, serving-is}
use Rattle.machine_core.proofs.kernel.MachineKernelKernel.finish.Goals as goal
use Rattle.rpc_gateway.specs.Calls.{with_finish}
use Rattle.rpc_gateway.specs.Servers.{thread_serving}

pub returns-clause-answer : goal.returns-clause-answer
returns-clause-answer c =
    let m = c.self.inside in
    c.ok.ensures.value ∙ c.finish.ensures.answer
    ∙ ap (λ (cfg : Config). thread_serving cfg m.calls.serving c.args.part.now.server.0) c.self.invariant.calls_of
    ∙ serving-is m.config.value c.self.invariant.sound c.args._b c.args.part.now
    (ap (λ (k : KernelState). slice_get k.config.boxes c.args._b.0) c.self.view_is ∙ c.requires) m.calls.serving
    ∙ ap (λ (k : KernelState). served_ticket k.shared.serving c.args._b.0) c.self.view_is

pub returns-clause-exact : goal.returns-clause-exact
returns-clause-exact c =
    let m = c.self.inside in
    let lines : Lines = record { latched = m.irqs.latched; enabled = m.irqs.enabled; saved = m.saved } in
    let found = ap (λ (k : KernelState). slice_get k.config.boxes c.args._b.0) c.self.view_is ∙ c.requires in
    let home = ap (λ (cfg : Config). home_of cfg c.args.part.now.server.0) c.self.invariant.calls_of
    ∙ server-home-is m.config.value c.self.invariant.sound c.args._b c.args.part.now found in
    let answered = c.ok.ensures.value ∙ c.finish.ensures.answer in
    ap (kernel_with m.config.value m.banks.memory m.heap.owners lines) (
    c.finish.ensures.exact
    ∙ ap (λ (h : BoxId). with_finish m.calls h.0 c.args.value (thread_serving m.calls.config m.calls.serving c.args.part.now.server.0)) home
    ∙ ap (with_finish m.calls c.args._b.0 c.args.value) (sym answered)
    )
    ∙ finish-is m.config.value m.banks.memory m.heap.owners lines m.calls c.args._b.0 c.args.value c.ok.result
    ∙ ap (λ (k : KernelState). after_finishing k c.args._b.0 c.args.value c.ok.result) c.self.view_is
