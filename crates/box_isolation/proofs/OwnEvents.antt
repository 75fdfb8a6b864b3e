-- An event of the box's own: the flat machine and the box by itself answer the same, and agree afterwards.
use Rattle.std.proofs.Common.{◌≡◌, ℕ, ◌+◌, ◌-◌, ◌<◌, ◌≤◌, Bool, true, false, List, [], length, Option, Some, None, refl, sym, ◌∙◌, ap, arith, inl, inr}
use Rattle.std.specs.Prelude.{◌&&◌, nat_eq, nat_le, nat_lt, is_some, if◌then◌else◌, slice_get}
use Rattle.std.specs.Option.{option_map, option_map_or}
use Rattle.std.proofs.lemmas.Bool.{cases_Bool, and_parts, false≢true, leb-true, eq-eqb, eqb-true, eqb-false, ne_eqb, or_cases}
use Rattle.flat_model.specs.declared.actors.Who.{Who}
use Rattle.flat_model.specs.declared.classes.InstrClass.{InstrClass}
use Rattle.flat_model.specs.declared.classes.InstrClass.TheVariants as class
use Rattle.flat_model.specs.declared.classes.KernelCall.{KernelCall}
use Rattle.flat_model.specs.declared.classes.KernelCall.TheVariants as call
use Rattle.flat_model.specs.declared.instructions.Instr.{Instr}
use Rattle.flat_model.specs.declared.next.Next.{Next}
use Rattle.flat_model.specs.declared.next.Next.TheVariants as next
use Rattle.flat_model.specs.declared.parts.BoxPart.{BoxPart}
use Rattle.flat_model.specs.declared.parts.Config.{Config}
use Rattle.flat_model.specs.declared.parts.IrqPart.{IrqPart}
use Rattle.flat_model.specs.declared.parts.Op.{Op}
use Rattle.flat_model.specs.declared.parts.Op.TheVariants as op
use Rattle.flat_model.specs.declared.parts.RegGate.{RegGate}
use Rattle.flat_model.specs.declared.parts.RpcGate.{RpcGate}
use Rattle.flat_model.specs.declared.parts.ThreadPart.{ThreadPart}
use Rattle.flat_model.specs.declared.states.Memory.{Memory}
use Rattle.flat_model.specs.declared.states.Shared.{Shared}
use Rattle.flat_model.specs.declared.states.ThreadState.{ThreadState}
use Rattle.box_isolation.specs.Alone.{alone_class, alone_kernel, alone_next, alone_place, alone_ready, alone_row}
use Rattle.box_isolation.specs.AloneMemory.{alone_read, alone_write}
use Rattle.box_isolation.specs.AloneState.{Kept, Left, byte_in, kept_noting, noted}
use Rattle.flat_model.specs.CallRows.{gateway_for}
use Rattle.flat_model.specs.Cells.{Cell}
use Rattle.flat_model.specs.Classes.{class_of}
use Rattle.flat_model.specs.Interrupts.{due_interrupt, handled_context, has_line}
use Rattle.flat_model.specs.Memory.{byte_at}
use Rattle.flat_model.specs.Next.{holds_next, next_at, next_by_class, next_of, next_when_ready}
use Rattle.flat_model.specs.Outcome.{Outcome}
use Rattle.box_isolation.specs.Part.{addresses_of, does_read, does_write, may_call_by, may_read_by, may_write_by, part_of, program_of}
use Rattle.box_isolation.specs.Reach.{changed_cells, is_thread_of, writes_register}
use Rattle.flat_model.specs.RegisterRows.{gw_read_row, gw_write_row}
use Rattle.flat_model.specs.Registers.{has_box, read_by, register_for, register_write, written_by}
use Rattle.box_isolation.specs.Supplies.{supply_of_call, supply_of_turn, value_in, word_or_nothing}
use Rattle.flat_model.specs.Thread.{is_waiting, register}
use Rattle.flat_model.specs.Turn.{kernel_row, row_of}
use Rattle.box_isolation.proofs.AlikeBoxes.{IsAlike, Meets}
use Rattle.box_isolation.proofs.ListedBytes.{changed_or_same, each-changed_cells, has-addresses_of, in_items}
use Rattle.box_isolation.proofs.MeetsCalls.{post-meets, result-meets, return-meets, take-meets, wait-meets}
use Rattle.box_isolation.proofs.MeetsLines.{context-same, delivery-meets, due-same, enable-meets, irq_return-meets, numbers-has}
use Rattle.box_isolation.proofs.MeetsMemory.{access-meets, alloc-meets, free-meets}
use Rattle.box_isolation.proofs.NotedBytes.{noted-is}
use Rattle.box_isolation.proofs.SeenBytes.{sees}
use Rattle.box_isolation.proofs.Settled.{IsSettled}
use Rattle.std.proofs.lemmas.Option.{slice_get_within}
use Rattle.std.proofs.lemmas.Bool.{false_from_ne_true}
use Rattle.addr_base.specs.declared.identity.BoxId.{BoxId}
use Rattle.flat_model.specs.declared.boards.Board.{Board}
use Rattle.flat_model.specs.declared.boards.Word.{Word}
use Rattle.flat_model.specs.Access.{in_heap, owned_by}
use Rattle.box_isolation.specs.AloneLines.{alone_due}
use Rattle.box_isolation.specs.AloneMemory.{is_own_page}
use Rattle.flat_model.specs.Memory.{word_at}
use Rattle.flat_model.specs.Registers.{gateway_written}
use Rattle.flat_model.specs.ThreadEvents.{posted, posted_and_waiting}
use Rattle.box_isolation.proofs.AlikeBoxes.{Spares, heap_count}
use Rattle.flat_model.proofs.Elements.{each-get}
use Rattle.box_isolation.proofs.MeetsMemory.{heap-range}
use Rattle.flat_model.proofs.Placed.{in_heap_range}
use Rattle.box_isolation.proofs.SeenBytes.{in_heap-flags}
use Rattle.box_isolation.proofs.Settled.{IsBesideHeap}
use Rattle.box_isolation.proofs.SparesRows.{write-spares}

-- ---- what a turn comes to

class-same : (th : ThreadState) (c : InstrClass) → alone_class th c ≡ next_by_class th c
class-same th (class.Local i) = refl
class-same th (class.Memory i) = refl
class-same th (class.Kernel c) = refl

place-same : (th : ThreadState) (i : Option Instr) → alone_place th i ≡ next_at th i
place-same th None = refl
place-same th (Some i) = class-same th (class_of i)

ready-same : (program : ThreadPart) (th : ThreadState) (due : Option IrqPart) → alone_ready (program_of program) th due ≡ next_when_ready program th due
ready-same program th (Some irq) = refl
ready-same program th None = place-same th (slice_get program.program th.pc)

pub next-same : (program : ThreadPart) (th : ThreadState) (due : Option IrqPart) → alone_next (program_of program) th due ≡ next_of program th due
next-same program th due = ap (λ n. if is_waiting th.mode then next.Look else n) (ready-same program th due)

-- ---- registers

read-meets : (cfg : Config) (b : ℕ) (box : BoxPart) (m : Shared) (k : Kept) (th : ThreadState) (r : ℕ) (gate : Option RegGate) → IsAlike cfg b box m k →
    Meets cfg b box (gw_read_row m th r (read_by cfg.board m.memory (register_for b gate)))
    (alone_read k th r (option_map_or (may_read_by b) gate false) (word_or_nothing (value_in (gw_read_row m th r (read_by cfg.board m.memory (register_for b gate))).reply)))
read-meets cfg b box m k th r None alike = record { thread = refl; reply = refl; kept = alike }
read-meets cfg b box m k th r (Some gate) alike = elim (cases_Bool (has_box gate.boxes b)) [
  | inl may ↦ rw may (by_op gate.op)
  | inr may_not ↦ rw may_not (record { thread = refl; reply = refl; kept = alike })
]
  where
    by_op : (o : Op) → Meets cfg b box (gw_read_row m th r (read_by cfg.board m.memory (Some (record gate { op = o }))))
        (alone_read k th r (true && does_read o) (word_or_nothing (value_in (gw_read_row m th r (read_by cfg.board m.memory (Some (record gate { op = o })))).reply)))
    by_op op.Read = record { thread = refl; reply = refl; kept = alike }
    by_op op.ReadAnd = record { thread = refl; reply = refl; kept = alike }
    by_op op.Write = record { thread = refl; reply = refl; kept = alike }
    by_op op.And = record { thread = refl; reply = refl; kept = alike }
    by_op op.Or = record { thread = refl; reply = refl; kept = alike }
    by_op op.Xor = record { thread = refl; reply = refl; kept = alike }
    by_op op.Replace = record { thread = refl; reply = refl; kept = alike }

-- what the box by itself keeps once the bytes that a row changed are listed
abbrev pub row_changes : Config → BoxPart → Memory → Memory → Next → List Cell
row_changes cfg box old new n = if writes_register n then changed_cells (byte_at cfg.board old) (byte_at cfg.board new) (addresses_of box.items) else []

-- a row and what it leaves the box by itself agree, once the bytes that it changed are listed
pub record Follows (cfg : Config) (b : ℕ) (box : BoxPart) (m : Shared) (n : Next) (out : Outcome) (left : Left) : Type 0 where
  pub thread : left.thread ≡ out.thread
  pub reply : left.reply ≡ out.reply
  pub kept : IsAlike cfg b box out.shared (kept_noting (row_changes cfg box m.memory out.shared.memory n) left.kept)

follows : (cfg : Config) (b : ℕ) (box : BoxPart) (m : Shared) (n : Next) (out : Outcome) (left : Left) → writes_register n ≡ false → Meets cfg b box out left → Follows cfg b box m n out left
follows cfg b box m n out left off meets = record { thread = meets.thread; reply = meets.reply; kept = rw off meets.kept }

-- ---- what another's event or a gateway's write leaves, once its bytes are listed

pub listed-alike : (cfg : Config) (b : ℕ) (box : BoxPart) (old new : Shared) (k : Kept) → Spares cfg b box old new → IsAlike cfg b box old k →
    IsAlike cfg b box new (kept_noting (changed_cells (byte_at cfg.board old.memory) (byte_at cfg.board new.memory) (addresses_of box.items)) k)
listed-alike cfg b box old new k spares alike = record {
  memory = record { size = spares.pages.size alike.memory.size; bytes = bytes };
  pages = record { count = spares.pages.count ∙ alike.pages.count; own = alike.pages.own ∙ sym spares.pages.own };
  calls = record { count = spares.calls.count ∙ alike.calls.count; open_calls = alike.calls.open_calls ∙ sym spares.calls.open_calls; serves = alike.calls.serves ∙ sym spares.calls.serves };
  lines = record {
    count = spares.lines.count ∙ alike.lines.count;
    latched_count = alike.lines.latched_count ∙ sym spares.lines.latched_count;
    enabled_count = alike.lines.enabled_count ∙ sym spares.lines.enabled_count;
    latched = λ line own. alike.lines.latched line own ∙ sym (spares.lines.latched line own);
    enabled = λ line own. alike.lines.enabled line own ∙ sym (spares.lines.enabled line own);
    saved = alike.lines.saved ∙ sym spares.lines.saved;
  };
}
  where
    was : ℕ → ℕ
    was = byte_at cfg.board old.memory

    now : ℕ → ℕ
    now = byte_at cfg.board new.memory

    bytes : (a : ℕ) → sees (part_of cfg b box) k.pages a ≡ true → byte_in (noted (changed_cells was now (addresses_of box.items)) k.cells) a ≡ now a
    bytes a seen = noted-is now (changed_cells was now (addresses_of box.items)) k.cells a (each-changed_cells was now (addresses_of box.items))
        (elim (or_cases (in_items box.items a) (in_heap is_own_page cfg.board.heap a 1 k.pages) seen) [
          | inl item ↦ elim (changed_or_same was now (addresses_of box.items) a (has-addresses_of a box.items item)) [
            | inl same ↦ inl (alike.memory.bytes a seen ∙ same)
            | inr listed ↦ inr listed
          ]
          | inr page ↦ inl (alike.memory.bytes a seen ∙ sym (spares.pages.bytes a
              (in_heap-flags b cfg.board.heap a 1 old.owners ∙ ap (in_heap is_own_page cfg.board.heap a 1) (sym alike.pages.own) ∙ page)))
        ])

-- ---- a gateway's word lies beside the heap

pub off-pages : (cfg : Config) (b a : ℕ) (owners : List (Option BoxId)) → length owners ≡ heap_count cfg.board.heap → in_heap_range cfg.board.heap a ≡ false → in_heap (owned_by b) cfg.board.heap a 1 owners ≡ false
off-pages cfg b a owners count off = false_from_ne_true (in_heap (owned_by b) cfg.board.heap a 1 owners)
    (λ is. false≢true (sym off ∙ heap-range (owned_by b) cfg.board.heap a owners count is))

written-word : (board : Board) (memory : Memory) (v c : ℕ) (o : Option RegGate) (w : Word) → written_by board memory v (register_for c o) ≡ Some w → (gate : RegGate) × ((o ≡ Some gate) × (w.at ≡ gate.at))
written-word board memory v c None w is = absurd (let e : None ≡ Some w = is in cc)
written-word board memory v c (Some gate) w is = by_box (has_box gate.boxes c) is
  where
    by_value : (o : Option ℕ) → option_map (λ word. record { at = gate.at; value = word }) o ≡ Some w → w.at ≡ gate.at
    by_value None is = absurd (let e : None ≡ Some w = is in cc)
    by_value (Some value) is = let same : record { at = gate.at; value = value } ≡ w = cc in sym (ap (λ (x : Word). x.at) same)

    by_box : (t : Bool) → written_by board memory v (if t then Some gate else None) ≡ Some w → (g : RegGate) × ((Some gate ≡ Some g) × (w.at ≡ g.at))
    by_box false is = absurd (let e : None ≡ Some w = is in cc)
    by_box true is = (gate, (refl, by_value (gateway_written gate.op (word_at board memory gate.at 4) gate.mask v) is))

-- a gateway's write of any box spares the pages of this one
pub gateway-spares : (cfg : Config) (b : ℕ) (box : BoxPart) → IsSettled cfg b box → (m : Shared) (th : ThreadState) (c n v : ℕ) → length m.owners ≡ heap_count cfg.board.heap →
    Spares cfg b box m (gw_write_row cfg.board m th (register_write cfg.registers cfg.board m.memory c n v)).shared
gateway-spares cfg b box settled m th c n v count =
    write-spares cfg b box m th (register_write cfg.registers cfg.board m.memory c n v) (λ w is a low high.
    let it = written-word cfg.board m.memory v c (slice_get cfg.registers n) w is in
    let beside = each-get (IsBesideHeap cfg) cfg.registers n it.0 settled.gates_beside it.1.0 in
    off-pages cfg b a m.owners count (beside a (omega (arith, low, it.1.1)) (omega (arith, high, it.1.1))))

-- ---- kernel calls

calls-same : (b : ℕ) (gate : Option RpcGate) → option_map_or (may_call_by b) gate false ≡ is_some (gateway_for b gate)
calls-same b None = refl
calls-same b (Some gate) = elim (cases_Bool (has_box gate.callers b)) [
  | inl may ↦ rw may refl
  | inr may_not ↦ rw may_not refl
]

-- whether the write by a gateway is one that the box may do
writes-same : (board : Board) (memory : Memory) (b v : ℕ) (gate : Option RegGate) → option_map_or (may_write_by b) gate false ≡ is_some (written_by board memory v (register_for b gate))
writes-same board memory b v None = refl
writes-same board memory b v (Some gate) = elim (cases_Bool (has_box gate.boxes b)) [
  | inl may ↦ rw may (by_op gate.op)
  | inr may_not ↦ rw may_not refl
]
  where
    by_op : (o : Op) → (true && does_write o) ≡ is_some (written_by board memory v (Some (record gate { op = o })))
    by_op op.Read = refl
    by_op op.ReadAnd = refl
    by_op op.Write = refl
    by_op op.And = refl
    by_op op.Or = refl
    by_op op.Xor = refl
    by_op op.Replace = refl

record SameAnswer (out : Outcome) (left : Left) (k : Kept) : Type 0 where
  thread : left.thread ≡ out.thread
  reply : left.reply ≡ out.reply
  kept : left.kept ≡ k

write-same : (board : Board) (m : Shared) (k : Kept) (th : ThreadState) (word : Option Word) → SameAnswer (gw_write_row board m th word) (alone_write k th (is_some word)) k
write-same board m k th None = record { thread = refl; reply = refl; kept = refl }
write-same board m k th (Some w) = record { thread = refl; reply = refl; kept = refl }

module _ (cfg : Config) (who : Who) (box : BoxPart) (settled : IsSettled cfg who.home.0 box) (own : is_thread_of box who.thread.0 ≡ true) where
  i : ℕ
  i = who.thread.0 - box.first

  there : who.home.0 < length cfg.boxes
  there = slice_get_within cfg.boxes who.home.0 box settled.here

  low : box.first ≤ who.thread.0
  low = leb-true box.first who.thread.0 (and_parts (nat_le box.first who.thread.0) (nat_lt who.thread.0 (box.first + box.threads)) own).0

  is-first : nat_eq (who.thread.0 - box.first) 0 ≡ nat_eq who.thread.0 box.first
  is-first = elim (cases_Bool (nat_eq who.thread.0 box.first)) [
    | inl same ↦ eq-eqb (who.thread.0 - box.first) 0 (omega (arith, eqb-true who.thread.0 box.first same)) ∙ sym same
    | inr differs ↦ ne_eqb (who.thread.0 - box.first) 0 (λ e. eqb-false who.thread.0 box.first differs (omega (arith, e, low))) ∙ sym differs
  ]

  is-server : nat_eq (who.thread.0 - box.first) (box.server.0 - box.first) ≡ nat_eq who.thread.0 box.server.0
  is-server = elim (cases_Bool (nat_eq who.thread.0 box.server.0)) [
    | inl same ↦ eq-eqb (who.thread.0 - box.first) (box.server.0 - box.first) (ap (λ n. n - box.first) (eqb-true who.thread.0 box.server.0 same)) ∙ sym same
    | inr differs ↦ ne_eqb (who.thread.0 - box.first) (box.server.0 - box.first) (λ e. eqb-false who.thread.0 box.server.0 differs (omega (arith, e, low, settled.server_low))) ∙ sym differs
  ]

  abbrev left_by : Shared → Kept → ThreadState → KernelCall → Left
  left_by m k th c = alone_kernel (part_of cfg who.home.0 box) (who.thread.0 - box.first) who.room (supply_of_call c (kernel_row cfg who box m th c).reply) k th c

  meets-follows : (m : Shared) (k : Kept) (th : ThreadState) (c : KernelCall) → writes_register (next.Kernel c) ≡ false → Meets cfg who.home.0 box (kernel_row cfg who box m th c) (left_by m k th c) →
      Follows cfg who.home.0 box m (next.Kernel c) (kernel_row cfg who box m th c) (left_by m k th c)
  meets-follows m k th c off meets = follows cfg who.home.0 box m (next.Kernel c) (kernel_row cfg who box m th c) (left_by m k th c) off meets

  pub kernel-follows : (m : Shared) (k : Kept) (th : ThreadState) (c : KernelCall) → IsAlike cfg who.home.0 box m k →
      Follows cfg who.home.0 box m (next.Kernel c) (kernel_row cfg who box m th c) (left_by m k th c)
  kernel-follows m k th (call.PagesAlloc n t) alike = meets-follows m k th (call.PagesAlloc n t) refl (alloc-meets cfg who.home.0 box settled m k th (register th n) (register th t) alike)
  kernel-follows m k th (call.PageFree a) alike = meets-follows m k th (call.PageFree a) refl (free-meets cfg who.home.0 box settled m k th (register th a) alike)
  kernel-follows m k th (call.IrqOn n) alike = meets-follows m k th (call.IrqOn n) refl (enable-meets cfg who.home.0 box there m k th n true (has_line n box.irqs) alike)
  kernel-follows m k th (call.IrqOff n) alike = meets-follows m k th (call.IrqOff n) refl (enable-meets cfg who.home.0 box there m k th n false (has_line n box.irqs) alike)
  kernel-follows m k th call.IrqReturn alike = meets-follows m k th call.IrqReturn refl
      (rw (context-same cfg who.home.0 box there m k who.thread.0 is-first alike) (irq_return-meets cfg who.home.0 box there m k th (handled_context m.lines box who.home.0 who.thread.0) alike))
  kernel-follows m k th (call.GwRead d n) alike = meets-follows m k th (call.GwRead d n) refl
      (rw (numbers-has (may_read_by who.home.0) n cfg.registers) (read-meets cfg who.home.0 box m k th d (slice_get cfg.registers n) alike))
  kernel-follows m k th (call.GwWrite s n) alike =
      let may = numbers-has (may_write_by who.home.0) n cfg.registers ∙ writes-same cfg.board m.memory who.home.0 (register th s) (slice_get cfg.registers n) in
      let it = write-same cfg.board m k th (register_write cfg.registers cfg.board m.memory who.home.0 n (register th s)) in
      let row = gw_write_row cfg.board m th (register_write cfg.registers cfg.board m.memory who.home.0 n (register th s)) in
      let listed = listed-alike cfg who.home.0 box m row.shared k (gateway-spares cfg who.home.0 box settled m th who.home.0 n (register th s) alike.pages.count) alike in
      rw may (record { thread = it.thread; reply = it.reply; kept = rw it.kept listed })
  kernel-follows m k th (call.RpcCall d n) alike = meets-follows m k th (call.RpcCall d n) refl
      (rw (numbers-has (may_call_by who.home.0) n cfg.gateways ∙ calls-same who.home.0 (slice_get cfg.gateways n))
      (post-meets cfg who.home.0 box there who m k th (posted th d) (gateway_for who.home.0 (slice_get cfg.gateways n)) own alike))
  kernel-follows m k th (call.RpcSync n looks) alike = meets-follows m k th (call.RpcSync n looks) refl
      (rw (numbers-has (may_call_by who.home.0) n cfg.gateways ∙ calls-same who.home.0 (slice_get cfg.gateways n))
      (post-meets cfg who.home.0 box there who m k th (posted_and_waiting th looks) (gateway_for who.home.0 (slice_get cfg.gateways n)) own alike))
  kernel-follows m k th call.RpcTake alike = meets-follows m k th call.RpcTake refl
      (rw is-server (take-meets cfg who.home.0 box there m k th (nat_eq who.thread.0 box.server.0) alike))
  kernel-follows m k th (call.RpcReturn s) alike = meets-follows m k th (call.RpcReturn s) refl
      (rw is-server (return-meets cfg who.home.0 box there m k th (register th s) (nat_eq who.thread.0 box.server.0) alike))
  kernel-follows m k th (call.RpcResult d s) alike = meets-follows m k th (call.RpcResult d s) refl
      (result-meets cfg who.home.0 box there who m k th d (register th s) own alike)

  -- every turn
  pub row-follows : (m : Shared) (k : Kept) (th : ThreadState) (n : Next) → IsAlike cfg who.home.0 box m k →
      Follows cfg who.home.0 box m n (row_of cfg who box m th (holds_next cfg.board who.home.0 box m.owners n) n)
      (alone_row (part_of cfg who.home.0 box) (who.thread.0 - box.first) who.room (supply_of_turn (Some n) (row_of cfg who box m th (holds_next cfg.board who.home.0 box m.owners n) n).reply) k th n)
  row-follows m k th next.Look alike = follows cfg who.home.0 box m next.Look _ _ refl (wait-meets cfg who.home.0 box there who m k th th.awaited own alike)
  row-follows m k th (next.Deliver irq) alike = follows cfg who.home.0 box m (next.Deliver irq) _ _ refl (delivery-meets cfg who.home.0 box there m k th irq alike)
  row-follows m k th (next.Local instr) alike = follows cfg who.home.0 box m (next.Local instr) _ _ refl (record { thread = refl; reply = refl; kept = alike })
  row-follows m k th (next.Access access) alike = follows cfg who.home.0 box m (next.Access access) _ _ refl (access-meets cfg who.home.0 box settled m k th access alike)
  row-follows m k th (next.Unaligned at) alike = follows cfg who.home.0 box m (next.Unaligned at) _ _ refl (record { thread = refl; reply = refl; kept = alike })
  row-follows m k th (next.Kernel c) alike = kernel-follows m k th c alike
  row-follows m k th next.Nowhere alike = follows cfg who.home.0 box m next.Nowhere _ _ refl (record { thread = refl; reply = refl; kept = alike })

  pub due-next : (m : Shared) (k : Kept) (program : ThreadPart) (th : ThreadState) → IsAlike cfg who.home.0 box m k →
      alone_next (program_of program) th (alone_due k.lines box.irqs (who.thread.0 - box.first)) ≡ next_of program th (due_interrupt m.lines box who.home.0 who.thread.0)
  due-next m k program th alike =
      ap (alone_next (program_of program) th) (due-same cfg who.home.0 box there m k who.thread.0 is-first alike)
      ∙ next-same program th (due_interrupt m.lines box who.home.0 who.thread.0)
