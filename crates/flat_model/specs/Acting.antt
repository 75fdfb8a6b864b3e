-- What a turn and a server's event need of the state that they find.
use Rattle.std.specs.Prelude.{◌≡◌, ⊤, ℕ, ◌+◌, ◌^◌, ◌<◌, Bool, ◌&&◌, is_none, Some, length, sum_by, slice_get}
use Rattle.flat_model.specs.declared.actors.Who.{Who}
use Rattle.flat_model.specs.declared.next.Next.{Next}
use Rattle.flat_model.specs.declared.next.Next.TheVariants as next
use Rattle.flat_model.specs.declared.parts.BoxPart.{BoxPart}
use Rattle.flat_model.specs.declared.parts.Config.{Config}
use Rattle.flat_model.specs.declared.states.Lines.{Lines}
use Rattle.flat_model.specs.declared.states.Shared.{Shared}
use Rattle.flat_model.specs.declared.states.ThreadState.{ThreadState}
use Rattle.flat_model.specs.CallRows.{is_server, served_ticket}
use Rattle.flat_model.specs.Calls.{calls_of}
use Rattle.flat_model.specs.Interrupts.{deliverable_to}
use Rattle.flat_model.specs.Kernel.{KernelState}

-- the part is that of the box with this number
abbrev pub IsPartOf : Config → ℕ → BoxPart → Type 0
IsPartOf cfg b part = slice_get cfg.boxes b ≡ Some part

-- how many calls may be made at all: each takes a step of its thread
abbrev pub call_room : Config → ℕ
call_room cfg = sum_by (λ thread. thread.steps) cfg.threads

-- the thread with this number has made so many calls, one more can be counted, and there is room for it
pub record CanPost (k : KernelState) (t count : ℕ) : Type 0 where
  pub number : count + 1 < 2 ^ 32
  pub counted : calls_of t k.shared.calls ≡ count
  pub room : length k.shared.calls < call_room k.config

-- the thread is of this box, and one more step of it can be counted and one more call
pub record CanAct (k : KernelState) (who : Who) (part : BoxPart) (th : ThreadState) : Type 0 where
  pub home : IsPartOf k.config who.home.0 part
  pub steps : th.steps + 1 < 2 ^ 32
  pub posts : CanPost k who.thread.0 th.count

-- where the turn is a delivery, it is that of the interrupt that is due
abbrev pub IsDue : Lines → BoxPart → ℕ → Next → Type 0
IsDue lines part b next.Look = ⊤
IsDue lines part b (next.Deliver irq) = deliverable_to lines part.irqs b ≡ Some irq
IsDue lines part b (next.Local i) = ⊤
IsDue lines part b (next.Access access) = ⊤
IsDue lines part b (next.Unaligned at) = ⊤
IsDue lines part b (next.Kernel c) = ⊤
IsDue lines part b next.Nowhere = ⊤

-- whether the acting thread is its box's server and serves no call
abbrev pub is_free_server : Who → BoxPart → Shared → Bool
is_free_server who part m = is_server who part && is_none (served_ticket m.serving who.home.0)
