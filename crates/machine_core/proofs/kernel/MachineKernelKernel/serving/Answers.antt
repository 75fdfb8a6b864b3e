use Rattle.std.proofs.Common.{ap, ◌∙◌}
use Rattle.std.specs.List.{slice_get}
use Rattle.flat_model.specs.declared.parts.Config.{Config}
use Rattle.flat_model.specs.CallRows.{served_ticket}
use Rattle.flat_model.specs.Kernel.{KernelState}
use Rattle.machine_core.proofs.PartLemmas.{serving-is}
use Rattle.machine_core.proofs.kernel.MachineKernelKernel.serving.Goals as goal
use Rattle.rpc_gateway.specs.Servers.{thread_serving}

pub returns : goal.returns
returns c =
    let m = c.self.inside in
    c.serving.ensures
    ∙ ap (λ (cfg : Config). thread_serving cfg m.calls.serving c.args.part.now.server.0) c.self.invariant.calls_of
    ∙ serving-is m.config.value c.self.invariant.sound c.args._b c.args.part.now
    (ap (λ (k : KernelState). slice_get k.config.boxes c.args._b.0) c.self.view_is ∙ c.requires) m.calls.serving
    ∙ ap (λ (k : KernelState). served_ticket k.shared.serving c.args._b.0) c.self.view_is
