use Rattle.std.proofs.Common.{◌≡◌, None, ap, sym, ◌∙◌, subst, arith, length, map}
use Rattle.std.proofs.lemmas.List.{length-replicate}
use Rattle.std.specs.Option.{option_map_or}
use Rattle.flat_model.specs.declared.boards.HeapPart.{HeapPart}
use Rattle.flat_model.specs.declared.parts.Config.{Config}
use Rattle.flat_model.specs.declared.parts.ThreadPart.{ThreadPart}
use Rattle.flat_model.specs.Acting.{call_room}
use Rattle.flat_model.specs.CallTable.{CallTable}
use Rattle.flat_model.specs.Sound.{IsSound}
use Rattle.flat_model.proofs.plain.PlainKernel.opening.Goals as goal

pub invariant_of-result : goal.invariant_of-result
invariant_of-result c =
    let same : c.args.cfg.now ≡ c.of.result.value = sym c.of.ensures in
    let room : call_room c.of.result.value ≡ c.total_steps.result =
    sym (c.total_steps.ensures ∙ ap (λ threads. call_room (record c.args.cfg.now { threads = threads })) c.as_slice.ensures ∙ ap call_room same) in
    let held : c.in_ok-calls.calls.room ≡ c.total_steps.result = ap (λ (t : CallTable). t.room) c.in_ok-calls.ensures in (
      subst IsSound same c.requires,
      c.in_ok-board.ensures ∙ ap (λ (k : Config). k.board) same,
      c.in_ok-registers.ensures ∙ ap (λ (k : Config). k.registers) same,
      c.in_ok-gateways.ensures ∙ ap (λ (k : Config). k.gateways) same,
      c.in_ok-homes.ensures
          ∙ ap (map (λ (p : ThreadPart). p.home)) c.as_slice-2.ensures
          ∙ ap (λ (k : Config). map (λ (p : ThreadPart). p.home) k.threads) same,
      ap length c.in_ok-owners.ensures ∙ length-replicate c.page_count.result None ∙ c.page_count.ensures
          ∙ ap (λ (k : Config). option_map_or (λ (heap : HeapPart). heap.count) k.board.heap 0) same,
      omega (arith, room, held),
    )
