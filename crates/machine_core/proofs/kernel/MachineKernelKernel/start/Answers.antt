use Rattle.std.proofs.Common.{cond, ap, ◌∙◌}
use Rattle.std.specs.List.{slice_get}
use Rattle.std.specs.Option.{option_map}
use Rattle.std.specs.Prelude.{is_ok}
use Rattle.std.specs.Result.{result_ok}
use Rattle.addr_base.specs.declared.identity.BoxId.{BoxId}
use Rattle.flat_model.specs.declared.parts.Config.{Config}
use Rattle.flat_model.specs.declared.states.Lines.{Lines}
use Rattle.flat_model.specs.CallRows.{home_of, served_ticket, started_from}
use Rattle.flat_model.specs.Calls.{next_call, oldest_posted_by}
use Rattle.flat_model.specs.Kernel.{KernelState}
use Rattle.flat_model.specs.KernelCalls.{after_start, started_in}
use Rattle.machine_core.proofs.PartLemmas.{kernel_with, server-home-is, server-is, serving-is, start-is, start-told}
use Rattle.machine_core.proofs.kernel.MachineKernelKernel.start.Goals as goal
use Rattle.rpc_gateway.specs.Calls.{start_answer, with_start}
use Rattle.rpc_gateway.specs.Servers.{is_server_thread, thread_serving}

pub start-requires-clause-server : goal.start-requires-clause-server
start-requires-clause-server c =
    let m = c.self.inside in
    let found = ap (λ (k : KernelState). slice_get k.config.boxes c.args._b.0) c.self.view_is ∙ c.requires.part in
    ap (λ (cfg : Config). is_server_thread cfg c.args.part.now.server.0) c.self.invariant.calls_of
    ∙ server-is m.config.value c.self.invariant.sound c.args._b c.args.part.now found

pub start-requires-clause-idle : goal.start-requires-clause-idle
start-requires-clause-idle c =
    let m = c.self.inside in
    let found = ap (λ (k : KernelState). slice_get k.config.boxes c.args._b.0) c.self.view_is ∙ c.requires.part in
    ap (λ (cfg : Config). thread_serving cfg m.calls.serving c.args.part.now.server.0) c.self.invariant.calls_of
    ∙ serving-is m.config.value c.self.invariant.sound c.args._b c.args.part.now found m.calls.serving
    ∙ ap (λ (k : KernelState). served_ticket k.shared.serving c.args._b.0) c.self.view_is
    ∙ c.requires.free

pub returns-clause-answer : goal.returns-clause-answer
returns-clause-answer c =
    let m = c.self.inside in
    let found = ap (λ (k : KernelState). slice_get k.config.boxes c.args._b.0) c.self.view_is ∙ c.requires.part in
    let home = ap (λ (cfg : Config). home_of cfg c.args.part.now.server.0) c.self.invariant.calls_of
    ∙ server-home-is m.config.value c.self.invariant.sound c.args._b c.args.part.now found in
    c.ok.ensures.value
    ∙ ap result_ok c.start.ensures.answer
    ∙ start-told m.calls.config _ (next_call c.args.ticket (home_of m.calls.config c.args.part.now.server.0).0 m.calls.calls)
    ∙ ap (λ (h : BoxId). option_map (started_from m.calls.config) (next_call c.args.ticket h.0 m.calls.calls)) home
    ∙ ap (λ (cfg : Config). option_map (started_from cfg) (next_call c.args.ticket c.args._b.0 m.calls.calls)) c.self.invariant.calls_of
    ∙ ap (λ (k : KernelState). started_in k c.args._b.0 c.args.ticket) c.self.view_is

pub returns-clause-exact : goal.returns-clause-exact
returns-clause-exact c =
    let m = c.self.inside in
    let lines : Lines = record { latched = m.irqs.latched; enabled = m.irqs.enabled; saved = m.saved } in
    let found = ap (λ (k : KernelState). slice_get k.config.boxes c.args._b.0) c.self.view_is ∙ c.requires.part in
    let home = ap (λ (cfg : Config). home_of cfg c.args.part.now.server.0) c.self.invariant.calls_of
    ∙ server-home-is m.config.value c.self.invariant.sound c.args._b c.args.part.now found in
    ap (kernel_with m.config.value m.banks.memory m.heap.owners lines) (
    c.start.ensures.exact
    ∙ ap (λ r. cond (is_ok r) (with_start m.calls (home_of m.calls.config c.args.part.now.server.0).0 c.args.ticket) m.calls) c.start.ensures.answer
    ∙ ap (λ (h : BoxId). cond (is_ok (start_answer m.calls.config (oldest_posted_by c.args.ticket.thread.0 h.0 m.calls.calls) (next_call c.args.ticket h.0 m.calls.calls)))
    (with_start m.calls h.0 c.args.ticket) m.calls) home
    )
    ∙ start-is m.config.value m.banks.memory m.heap.owners lines m.calls c.args._b.0 c.args.ticket m.calls.config
    (oldest_posted_by c.args.ticket.thread.0 c.args._b.0 m.calls.calls) (next_call c.args.ticket c.args._b.0 m.calls.calls)
    ∙ ap (λ (k : KernelState). after_start k c.args._b.0 c.args.ticket) c.self.view_is
