-- A machine may go to another thread.
use denote.Builtin.{u32}
use denote.RattleType.{RattleType}
use denote.Param.Send.{IsSend, recorded_send, sendable, struct_send}
use denote.Struct.Declared.{shape}
use Rattle.std.specs.contracts.snapshot.Snapshot as snapshot
use Rattle.std.proofs.alloc.Global.TheSendSync as global
use Rattle.std.proofs.option.Option.TheSendSync as option
use Rattle.std.proofs.vec.Vec.TheSendSync as vec
use Rattle.std.proofs.Crossing.{frees}
use Rattle.addr_base.proofs.identity.BoxId.TheSendSync as box_id
use Rattle.addr_base.proofs.identity.ThreadId.TheSendSync as thread_id
use Rattle.addr_base.proofs.identity.Ticket.TheSendSync as ticket
use Rattle.flat_model.proofs.parts.RpcGate.TheSendSync as gate
use Rattle.flat_model.proofs.parts.Config.TheSendSync as config
use Rattle.flat_model.proofs.boards.HeapPart.TheSendSync as part
use Rattle.flat_model.proofs.events.Drive.TheSendSync as drive
use Rattle.flat_model.proofs.events.Logged.TheSendSync as logged
use Rattle.flat_model.proofs.lists.Items.TheSendSync as items
use Rattle.flat_model.proofs.logs.End.TheSendSync as end
use Rattle.flat_model.proofs.states.ThreadState.TheSendSync as thread
use Rattle.flat_model.proofs.states.Context.TheSendSync as context
use Rattle.irq_owner.specs.contracts.irqs.Irqs as irqs
use Rattle.page_heap.proofs.heap.Heap.TheSendSync as heap
use Rattle.phys_memory.proofs.banks.Banks.TheSendSync as banks
use Rattle.region_rotation.proofs.rotator.Rotator.TheSendSync as rotator
use Rattle.register_gateway.proofs.registers.Registers.TheSendSync as registers
use Rattle.rpc_gateway.specs.contracts.calls.Calls as calls
use Rattle.rpc_gateway.specs.contracts.directory.Directory as directory
use Rattle.rpc_gateway.proofs.table.Table.TheSendSync as table
use Rattle.machine_core.specs.contracts.journal.Journal as journal
use Rattle.machine_core.specs.contracts.kernel.MachineKernel as kernel
use Rattle.machine_core.specs.contracts.machine.Machine as machine
use Rattle.machine_core.specs.contracts.machine.Machine.TheInside as inside
use Rattle.machine_core.specs.contracts.state.State as state
use Rattle.machine_core.specs.contracts.unit.ProtectionUnit as unit

pub snapshot_sent : (T : RattleType) → IsSend (snapshot.the_row T)
snapshot_sent T = search sendable depth 20

pub irqs_sent : IsSend irqs.the_row
irqs_sent = search (sendable, snapshot_sent) depth 20

word_sent : IsSend u32
word_sent = search sendable depth 20

directory_sent : IsSend directory.the_row
directory_sent = search (sendable, snapshot_sent, vec.the_send, global.the_send, frees, box_id.the_send, thread_id.the_send, gate.the_send) depth 30

pub calls_sent : IsSend calls.the_row
calls_sent = search (sendable, directory_sent, table.the_send, items.the_send, option.the_send, ticket.the_send, word_sent) depth 30

pub journal_sent : IsSend journal.the_row
journal_sent = search (sendable, logged.the_send, vec.the_send, global.the_send, frees) depth 20

pub unit_sent : IsSend unit.the_row
unit_sent = search (sendable, snapshot_sent, rotator.the_send) depth 20

pub kernel_sent : IsSend kernel.the_row
kernel_sent = search (sendable, snapshot_sent, irqs_sent, calls_sent, heap.the_send, banks.the_send, registers.the_send, items.the_send, option.the_send, part.the_send, context.the_send) depth 20

pub state_sent : IsSend state.the_row
state_sent = search (sendable, kernel_sent, unit_sent, items.the_send, thread.the_send) depth 20

fields_sent : IsSend inside.the_row
fields_sent =
    recorded_send inside.the_field.row _ _ inside.the_type.to_one (struct_send (shape inside.the_type) (
      search (sendable, config.the_field_send) depth 20,
      (
        search (sendable, drive.the_field_send) depth 20,
        (
          search sendable depth 20,
          (
            search (sendable, state_sent) depth 20,
            (
              search (sendable, journal_sent) depth 20,
              (
                search (sendable, items.the_send, word_sent) depth 20,
                (
                  search (sendable, vec.the_send, global.the_send, frees, end.the_send) depth 20,
                  tt,
                ),
              ),
            ),
          ),
        ),
      ),
    )
    )

pub machine_sent : IsSend machine.the_row
machine_sent = search (sendable, fields_sent) depth 30
