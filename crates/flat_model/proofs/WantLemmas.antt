-- Who wants the next call.
use Rattle.std.proofs.Common.{◌≡◌, true, false, refl}
use Rattle.std.proofs.lemmas.Bool.{false≢true}
use Rattle.flat_model.specs.declared.actors.Who.{Who}
use Rattle.flat_model.specs.declared.classes.KernelCall.{KernelCall}
use Rattle.flat_model.specs.declared.classes.KernelCall.TheVariants as call
use Rattle.flat_model.specs.declared.next.Next.{Next}
use Rattle.flat_model.specs.declared.next.Next.TheVariants as next
use Rattle.flat_model.specs.declared.parts.BoxPart.{BoxPart}
use Rattle.flat_model.specs.declared.parts.Config.{Config}
use Rattle.flat_model.specs.declared.parts.RpcGate.{RpcGate}
use Rattle.flat_model.specs.declared.states.Shared.{Shared}
use Rattle.std.specs.Prelude.{Bool, Option, Some, None, slice_get}
use Rattle.flat_model.specs.Acting.{is_free_server}
use Rattle.flat_model.specs.CallRows.{gateway_for}
use Rattle.flat_model.specs.Want.{want_by, want_by_call, want_next, want_room, wants_next}

room-not_next : (gate : Option RpcGate) {X : Type 0} → wants_next (want_room gate) ≡ true → X
room-not_next None wants = absurd (false≢true wants)
room-not_next (Some gate) wants = absurd (false≢true wants)

free-next : (b : Bool) → wants_next (want_next b) ≡ true → b ≡ true
free-next true wants = refl
free-next false wants = wants

call-free : (cfg : Config) (who : Who) (part : BoxPart) (m : Shared) (c : KernelCall) →
    wants_next (want_by_call cfg who part m c) ≡ true → is_free_server who part m ≡ true
call-free cfg who part m (call.PagesAlloc n t) wants = absurd (false≢true wants)
call-free cfg who part m (call.PageFree a) wants = absurd (false≢true wants)
call-free cfg who part m (call.IrqOn n) wants = absurd (false≢true wants)
call-free cfg who part m (call.IrqOff n) wants = absurd (false≢true wants)
call-free cfg who part m call.IrqReturn wants = absurd (false≢true wants)
call-free cfg who part m (call.GwRead d n) wants = absurd (false≢true wants)
call-free cfg who part m (call.GwWrite s n) wants = absurd (false≢true wants)
call-free cfg who part m (call.RpcCall d n) wants = room-not_next (gateway_for who.home.0 (slice_get cfg.gateways n)) wants
call-free cfg who part m (call.RpcSync n looks) wants = room-not_next (gateway_for who.home.0 (slice_get cfg.gateways n)) wants
call-free cfg who part m call.RpcTake wants = free-next (is_free_server who part m) wants
call-free cfg who part m (call.RpcReturn s) wants = absurd (false≢true wants)
call-free cfg who part m (call.RpcResult d s) wants = absurd (false≢true wants)

-- a thread that wants the next call is a server that serves none
pub want-free : (cfg : Config) (who : Who) (part : BoxPart) (m : Shared) (n : Next) →
    wants_next (want_by cfg who part m n) ≡ true → is_free_server who part m ≡ true
want-free cfg who part m next.Look wants = absurd (false≢true wants)
want-free cfg who part m (next.Deliver irq) wants = absurd (false≢true wants)
want-free cfg who part m (next.Local i) wants = absurd (false≢true wants)
want-free cfg who part m (next.Access access) wants = absurd (false≢true wants)
want-free cfg who part m (next.Unaligned at) wants = absurd (false≢true wants)
want-free cfg who part m (next.Kernel c) wants = call-free cfg who part m c wants
want-free cfg who part m next.Nowhere wants = absurd (false≢true wants)
