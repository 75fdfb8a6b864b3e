-- What an aligned access to memory does: the rows of `load8` to `store32`, and of `exec`.
use Rattle.std.specs.Prelude.{Bool, true, false}
use Rattle.addr_base.specs.declared.rights.Kind.{Kind}
use Rattle.addr_base.specs.declared.rights.Kind.TheVariants.{Read, Write, Fetch}
use Rattle.flat_model.specs.declared.accesses.Access.{Access}
use Rattle.flat_model.specs.declared.boards.Board.{Board}
use Rattle.flat_model.specs.declared.events.Flaw.{Flaw}
use Rattle.flat_model.specs.declared.events.Flaw.TheVariants as flaw
use Rattle.flat_model.specs.declared.events.Reply.TheVariants as reply
use Rattle.flat_model.specs.declared.states.Shared.{Shared}
use Rattle.flat_model.specs.declared.states.ThreadState.{ThreadState}
use Rattle.flat_model.specs.Memory.{put_word, word_at}
use Rattle.flat_model.specs.Outcome.{Outcome, fault_row}
use Rattle.flat_model.specs.Thread.{moved, register, with_register}

-- the bytes at the address, without a sign, go into the register
abbrev pub load_row : Board → Shared → ThreadState → Access → Outcome
load_row board m th access =
    let value = word_at board m.memory access.at access.size in
    record { shared = m; thread = moved (with_register th access.register value); reply = reply.Value value }

-- the low bytes of the register go to the address
abbrev pub store_row : Board → Shared → ThreadState → Access → Outcome
store_row board m th access = record {
  shared = record m { memory = put_word board m.memory access.at access.size (register th access.register) };
  thread = moved th;
  reply = reply.Done;
}

-- a fetch does nothing else
abbrev pub fetch_row : Shared → ThreadState → Outcome
fetch_row m th = record { shared = m; thread = moved th; reply = reply.Done }

-- the access is done
abbrev pub performed_row : Board → Shared → ThreadState → Access → Kind → Outcome
performed_row board m th access Read = load_row board m th access
performed_row board m th access Write = store_row board m th access
performed_row board m th access Fetch = fetch_row m th

-- how a denial of this kind is called
abbrev pub violation_of : Kind → Flaw
violation_of Read = flaw.Daccviol
violation_of Write = flaw.Daccviol
violation_of Fetch = flaw.Iaccviol

-- an aligned access, which is granted or denied
abbrev pub access_row : Board → Shared → ThreadState → Access → Bool → Outcome
access_row board m th access true = performed_row board m th access access.kind
access_row board m th access false = fault_row m th (violation_of access.kind) access.at
