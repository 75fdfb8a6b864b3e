-- Inner: no public contract cites this. What a machine's kernel keeps of its parts.
use Rattle.std.specs.Prelude.{◌≡◌, ℕ, ◌+◌, is_some, Option, List, length, map}
use Rattle.flat_model.specs.declared.boards.HeapPart.{HeapPart}
use Rattle.flat_model.specs.declared.parts.Config.{Config}
use Rattle.flat_model.specs.declared.parts.RegGate.{RegGate}
use Rattle.flat_model.specs.declared.states.Context.{Context}
use Rattle.flat_model.specs.Acting.{call_room}
use Rattle.flat_model.specs.Memory.{put_cells}
use Rattle.flat_model.specs.Pages.{table_cells}
use Rattle.flat_model.specs.Sound.{IsSound}
use Rattle.irq_owner.specs.Irqs.{IrqsView}
use Rattle.page_heap.specs.Heap.{HeapView}
use Rattle.phys_memory.specs.Banks.{BanksView}
use Rattle.rpc_gateway.specs.Calls.{CallsView}

-- each part is of this configuration, a box is in its handler exactly where a context is saved for it, and there is
-- room for each call that may come
pub record AreParts (cfg : Config) (heap_part : Option HeapPart) (banks : BanksView) (heap : HeapView) (irqs : IrqsView)
    (saved : List (Option Context)) (registers : List RegGate) (calls : CallsView) : Type 0 where
  pub sound : IsSound cfg
  pub pages : heap_part ≡ cfg.board.heap
  pub board : banks.board ≡ cfg.board
  pub heap_of : heap.heap ≡ cfg.board.heap
  pub irqs_of : irqs.config ≡ cfg
  pub boxes : length saved ≡ length cfg.boxes
  pub handling : map is_some saved ≡ irqs.handling
  pub registers_of : registers ≡ cfg.registers
  pub calls_of : calls.config ≡ cfg
  pub room : length calls.calls + calls.spare ≡ call_room cfg

-- the banks once a table of these frames' pages is written at an address
abbrev pub with_table : BanksView → Option HeapPart → ℕ → List ℕ → BanksView
with_table banks heap table frames =
    record banks { memory = put_cells banks.board banks.memory (table_cells heap table frames) }
