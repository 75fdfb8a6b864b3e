-- What the kernel supplied at an event, told by what the event was and by its reply, case by case.
use Rattle.std.specs.Prelude.{ℕ, nat_eq, Option, Some, None, if◌then◌else◌}
use Rattle.flat_model.specs.declared.classes.KernelCall.{KernelCall}
use Rattle.flat_model.specs.declared.classes.KernelCall.TheVariants as call
use Rattle.flat_model.specs.declared.events.Reply.{Reply}
use Rattle.flat_model.specs.declared.events.Reply.TheVariants as reply
use Rattle.flat_model.specs.declared.next.Next.{Next}
use Rattle.flat_model.specs.declared.next.Next.TheVariants as next
use Rattle.box_isolation.specs.Arrivals.{Supply, begun, given, none_left, not_next, nothing, result, word}

-- the value that a reply gives
abbrev pub value_in : Reply → Option ℕ
value_in reply.Ended = None
value_in reply.Done = None
value_in (reply.Value value) = Some value
value_in (reply.Status status) = None
value_in (reply.Posted seq) = None
value_in reply.Waiting = None
value_in (reply.Irq line) = None
value_in (reply.Given frames) = None
value_in (reply.Fault why at) = None
value_in reply.Halted = None
value_in (reply.Begun started) = None

-- the result of the call that a look or a question collected, if it collected one
abbrev pub result_or_nothing : Option ℕ → Supply
result_or_nothing None = nothing
result_or_nothing (Some value) = result value

-- the word of the register that was read, if one was
abbrev pub word_or_nothing : Option ℕ → Supply
word_or_nothing None = nothing
word_or_nothing (Some value) = word value

-- the frames that were given, or that none were left
abbrev pub supply_of_pages : Reply → Supply
supply_of_pages reply.Ended = nothing
supply_of_pages reply.Done = nothing
supply_of_pages (reply.Value value) = nothing
supply_of_pages (reply.Status status) = if nat_eq status 5 then none_left else nothing
supply_of_pages (reply.Posted seq) = nothing
supply_of_pages reply.Waiting = nothing
supply_of_pages (reply.Irq line) = nothing
supply_of_pages (reply.Given frames) = given frames
supply_of_pages (reply.Fault why at) = nothing
supply_of_pages reply.Halted = nothing
supply_of_pages (reply.Begun started) = nothing

-- what a kernel call was supplied
abbrev pub supply_of_call : KernelCall → Reply → Supply
supply_of_call (call.PagesAlloc n t) r = supply_of_pages r
supply_of_call (call.PageFree a) r = nothing
supply_of_call (call.IrqOn n) r = nothing
supply_of_call (call.IrqOff n) r = nothing
supply_of_call call.IrqReturn r = nothing
supply_of_call (call.GwRead d n) r = word_or_nothing (value_in r)
supply_of_call (call.GwWrite s n) r = nothing
supply_of_call (call.RpcCall d n) r = nothing
supply_of_call (call.RpcSync n looks) r = nothing
supply_of_call call.RpcTake r = nothing
supply_of_call (call.RpcReturn s) r = nothing
supply_of_call (call.RpcResult d s) r = result_or_nothing (value_in r)

-- what a turn was supplied that came to this, if it came to something
abbrev pub supply_of_turn : Option Next → Reply → Supply
supply_of_turn None r = nothing
supply_of_turn (Some next.Look) r = result_or_nothing (value_in r)
supply_of_turn (Some (next.Deliver irq)) r = nothing
supply_of_turn (Some (next.Local i)) r = nothing
supply_of_turn (Some (next.Access access)) r = nothing
supply_of_turn (Some (next.Unaligned at)) r = nothing
supply_of_turn (Some (next.Kernel c)) r = supply_of_call c r
supply_of_turn (Some next.Nowhere) r = nothing

-- what the start of a call was supplied: the call, or that it was not next
abbrev pub supply_of_start : Reply → Supply
supply_of_start reply.Ended = nothing
supply_of_start reply.Done = nothing
supply_of_start (reply.Value value) = nothing
supply_of_start (reply.Status status) = if nat_eq status 12 then not_next else nothing
supply_of_start (reply.Posted seq) = nothing
supply_of_start reply.Waiting = nothing
supply_of_start (reply.Irq line) = nothing
supply_of_start (reply.Given frames) = nothing
supply_of_start (reply.Fault why at) = nothing
supply_of_start reply.Halted = nothing
supply_of_start (reply.Begun started) = begun started

-- what an idle look was supplied
abbrev pub supply_of_idle : Supply
supply_of_idle = nothing
