-- What a box has of its own: its part of a configuration.
use Rattle.std.specs.Prelude.{ℕ, zero, suc, ◌+◌, ◌-◌, Bool, true, false, ◌&&◌, nat_le, max, List, [], ◌∷◌, ◌++◌, map, take, drop, if◌then◌else◌}
use Rattle.addr_base.specs.Range.{end_of}
use Rattle.flat_model.specs.declared.parts.BoxPart.{BoxPart}
use Rattle.flat_model.specs.declared.parts.Config.{Config}
use Rattle.flat_model.specs.declared.parts.Item.{Item}
use Rattle.flat_model.specs.declared.parts.Op.{Op}
use Rattle.flat_model.specs.declared.parts.Op.TheVariants as op
use Rattle.flat_model.specs.declared.parts.RegGate.{RegGate}
use Rattle.flat_model.specs.declared.parts.RpcGate.{RpcGate}
use Rattle.flat_model.specs.declared.parts.ThreadPart.{ThreadPart}
use Rattle.box_isolation.specs.Arrivals.{Part, Program}
use Rattle.flat_model.specs.Cells.{Cell}
use Rattle.flat_model.specs.Memory.{byte_at, opening_memory}
use Rattle.flat_model.specs.Registers.{has_box}

-- n addresses from one on
abbrev pub addresses_from : ℕ → ℕ → List ℕ
addresses_from a zero = []
addresses_from a (suc n) = a ∷ addresses_from (a + 1) n

-- items in the order of their bases, with one more
abbrev pub with_item : Item → List Item → List Item
with_item item [] = item ∷ []
with_item item (other ∷ items) =
    if nat_le item.range.base other.range.base then item ∷ other ∷ items else other ∷ with_item item items

-- the items in the order of their bases
abbrev pub by_base : List Item → List Item
by_base [] = []
by_base (item ∷ items) = with_item item (by_base items)

-- the addresses, from one on, of items in the order of their bases
abbrev pub addresses_past : ℕ → List Item → List ℕ
addresses_past low [] = []
addresses_past low (item ∷ items) =
    addresses_from (max low item.range.base) (end_of item.range - max low item.range.base)
    ++ addresses_past (max low (end_of item.range)) items

-- the addresses of the items, ascending
unfoldable pub addresses_of : List Item → List ℕ
addresses_of items = addresses_past 0 (by_base items)

-- the bytes at addresses
abbrev pub cells_at : (ℕ → ℕ) → List ℕ → List Cell
cells_at byte addresses = map (λ a. record { at = a; value = byte a }) addresses

-- the program and the budget of a thread
abbrev pub program_of : ThreadPart → Program
program_of thread = record { instructions = thread.program; steps = thread.steps }

-- what a list by threads has for the threads of the box
abbrev pub own_of : {A : Type 0} → BoxPart → List A → List A
own_of box xs = take box.threads (drop box.first xs)

-- the numbers of what passes the test; the first of the list has the number k
abbrev pub numbers_from : {A : Type 0} → (A → Bool) → ℕ → List A → List ℕ
numbers_from test k [] = []
numbers_from test k (x ∷ xs) = if test x then k ∷ numbers_from test (k + 1) xs else numbers_from test (k + 1) xs

-- whether a gateway of this kind reads its register
abbrev pub does_read : Op → Bool
does_read op.Read = true
does_read op.ReadAnd = true
does_read op.Write = false
does_read op.And = false
does_read op.Or = false
does_read op.Xor = false
does_read op.Replace = false

-- whether a gateway of this kind writes its register
abbrev pub does_write : Op → Bool
does_write op.Read = false
does_write op.ReadAnd = false
does_write op.Write = true
does_write op.And = true
does_write op.Or = true
does_write op.Xor = true
does_write op.Replace = true

-- whether the box may read by the register gateway
abbrev pub may_read_by : ℕ → RegGate → Bool
may_read_by b gate = has_box gate.boxes b && does_read gate.op

-- whether the box may write by the register gateway
abbrev pub may_write_by : ℕ → RegGate → Bool
may_write_by b gate = has_box gate.boxes b && does_write gate.op

-- whether the box may call by the gateway
abbrev pub may_call_by : ℕ → RpcGate → Bool
may_call_by b gate = has_box gate.callers b

-- the part of the box with this number
abbrev pub part_of : Config → ℕ → BoxPart → Part
part_of cfg b box = record {
  index = b;
  items = box.items;
  bytes = cells_at (byte_at cfg.board (opening_memory cfg.board)) (addresses_of box.items);
  heap = cfg.board.heap;
  programs = map program_of (own_of box cfg.threads);
  server = box.server.0 - box.first;
  irqs = box.irqs;
  reads = numbers_from (may_read_by b) 0 cfg.registers;
  writes = numbers_from (may_write_by b) 0 cfg.registers;
  calls = numbers_from (may_call_by b) 0 cfg.gateways;
}
