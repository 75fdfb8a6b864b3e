use Rattle.std.proofs.Common.{◌^◌, ◌<◌, Option, ap, sym, ◌∙◌, subst}
use Rattle.std.specs.List.{AllByRecursion}
use Rattle.flat_model.specs.declared.boards.HeapPart.{HeapPart}
use Rattle.flat_model.specs.Pages.{page_address}
use Rattle.flat_model.specs.Sound.{IsBoard}
use Rattle.page_heap.specs.Heap.{HeapView}
use Rattle.phys_memory.specs.Banks.{BanksView}
use Rattle.machine_core.proofs.kernel.MachineKernelKernel.alloc_pages.Goals as goal

pub write_table-requires-clause-board : goal.write_table-requires-clause-board
write_table-requires-clause-board c =
    subst IsBoard (sym (ap (λ (b : BanksView). b.board) c.in-Ok.ensures.bytes ∙ c.self.invariant.board)) c.self.invariant.sound.board

pub write_table-requires-clause-pages : goal.write_table-requires-clause-pages
write_table-requires-clause-pages c =
    subst (λ frames. AllByRecursion (λ frame. page_address c.alloc_frames.new.self.heap frame < 2 ^ 32) frames) (sym c.as_slice.ensures.value)
    (subst (λ (heap : Option HeapPart). AllByRecursion (λ frame. page_address heap frame < 2 ^ 32) c.alloc_frames.new.out.items)
    (sym (ap (λ (h : HeapView). h.heap) c.in-Ok.ensures.owners)) c.in-Ok.ensures.addresses)
