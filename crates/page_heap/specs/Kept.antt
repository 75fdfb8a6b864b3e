-- Inner: no public contract cites this. What a heap keeps of its pages and their owners.
use Rattle.std.specs.Prelude.{◌≡◌, ◌+◌, ◌*◌, ◌^◌, ◌≤◌, Option, IfSome, List, length}
use Rattle.addr_base.specs.declared.identity.BoxId.{BoxId}
use Rattle.flat_model.specs.declared.boards.HeapPart.{HeapPart}
use Rattle.page_heap.specs.Heap.{page_count}

-- a heap of at most 256 pages, none of them empty, that ends where addresses of 32 bits end
pub record IsPaged (heap : HeapPart) : Type 0 where
  pub some_byte : 1 ≤ heap.page
  pub few : heap.count ≤ 256
  pub ends : heap.base + heap.count * heap.page ≤ 2 ^ 32

-- there is a place for the owner of each page
pub record IsKept (heap : Option HeapPart) (owners : List (Option BoxId)) : Type 0 where
  pub paged : IfSome heap IsPaged
  pub one_each : length owners ≡ page_count heap
