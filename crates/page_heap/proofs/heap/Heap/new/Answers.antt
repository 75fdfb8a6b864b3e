use Rattle.std.proofs.Common.{None, Some, IfSome, Option, List, length, sym, ap, ◌∙◌, subst, arith}
use Rattle.std.proofs.lemmas.List.{length-replicate}
use Rattle.addr_base.specs.declared.identity.BoxId.{BoxId}
use Rattle.addr_base.specs.declared.ranges.Range.{Range}
use Rattle.flat_model.specs.declared.boards.HeapPart.{HeapPart}
use Rattle.flat_model.specs.Pages.{free_frames}
use Rattle.flat_model.specs.Sound.{IsBank, IsHeap}
use Rattle.page_heap.specs.Kept.{IsPaged}
use Rattle.page_heap.specs.Listed.{IsListed}
use Rattle.page_heap.proofs.FreeFrames.{length-all_free}
use Rattle.page_heap.proofs.heap.Heap.new.Goals as goal

-- a sound heap lies where addresses have 32 bits
paged_heap : (sram : Range) (heap : Option HeapPart) → IsBank sram → IfSome heap (IsHeap sram) → IfSome heap IsPaged
paged_heap sram None bank lies = lies
paged_heap sram (Some heap) bank lies = record {
  some_byte = omega (arith, lies.least_page);
  few = lies.greatest_count;
  ends = omega (arith, lies.high, bank.ends);
}

pub invariant_of-result : goal.invariant_of-result
invariant_of-result c =
    let owners = c.in_ok-owners.ensures in
    record {
      kept = record {
        paged = paged_heap c.args.board.now.sram c.args.board.now.heap c.requires.sram_bank c.requires.heap;
        one_each = ap length owners ∙ length-replicate c.page_count-count.result None ∙ c.page_count-count.ensures;
      };
      listed = subst (λ (os : List (Option BoxId)). IsListed os c.in_ok-frames.frames) (sym owners) c.in_ok-frames.ensures;
      counted =
          sym (ap (λ (os : List (Option BoxId)). length (free_frames 0 os)) owners
          ∙ length-all_free 0 c.page_count-count.result);
    }
