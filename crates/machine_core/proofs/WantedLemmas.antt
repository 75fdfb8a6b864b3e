-- What is wanted is there: the box of wanted room, and the server that wants the next call.
use Rattle.std.proofs.Common.{◌≡◌, ℕ, ◌<◌, Bool, true, false, cond, Option, Some, None, List, refl, sym, ap, ◌∙◌, subst, length, is_none, nat_eq}
use Rattle.std.specs.List.{AllByRecursion, slice_get}
use Rattle.std.specs.Option.{option_map_or}
use Rattle.std.proofs.lemmas.Bool.{and_parts}
use Rattle.addr_base.specs.declared.identity.BoxId.{BoxId}
use Rattle.addr_base.specs.declared.identity.ThreadId.{ThreadId}
use Rattle.flat_model.specs.declared.actors.Who.{Who}
use Rattle.flat_model.specs.declared.classes.KernelCall.{KernelCall}
use Rattle.flat_model.specs.declared.classes.KernelCall.TheVariants as call
use Rattle.flat_model.specs.declared.events.Want.{Want}
use Rattle.flat_model.specs.declared.events.Want.TheVariants as want
use Rattle.flat_model.specs.declared.next.Next.{Next}
use Rattle.flat_model.specs.declared.next.Next.TheVariants as next
use Rattle.flat_model.specs.declared.parts.BoxPart.{BoxPart}
use Rattle.flat_model.specs.declared.parts.Config.{Config}
use Rattle.flat_model.specs.declared.parts.RpcGate.{RpcGate}
use Rattle.flat_model.specs.declared.parts.ThreadPart.{ThreadPart}
use Rattle.flat_model.specs.declared.states.Flat.{Flat}
use Rattle.flat_model.specs.declared.states.Shared.{Shared}
use Rattle.flat_model.specs.Acting.{is_free_server}
use Rattle.flat_model.specs.Actors.{Actor, IsActor, actor_of, who_acts}
use Rattle.flat_model.specs.CallRows.{gateway_for, home_of, is_server, served_ticket}
use Rattle.flat_model.specs.Next.{next_of_actor}
use Rattle.flat_model.specs.Registers.{has_box}
use Rattle.flat_model.specs.Sound.{IsSound}
use Rattle.flat_model.specs.Want.{want_by, want_by_call, want_next, want_of, want_of_actor, want_room, wants_next}
use Rattle.flat_model.proofs.ActorLemmas.{actor-is}
use Rattle.flat_model.proofs.Elements.{each-get}
use Rattle.flat_model.proofs.WantLemmas.{want-free}
use Rattle.machine_core.specs.Turns.{serves_box}

not-plain : (b : BoxId) {X : Type 0} → want.Plain ≡ want.Room b → X
not-plain b wants = absurd (cc)

not-next : (b : BoxId) (s : Bool) {X : Type 0} → want_next s ≡ want.Room b → X
not-next b true wants = absurd (let e : want.Next ≡ want.Room b = wants in cc)
not-next b false wants = not-plain b wants

same-box : (b c : BoxId) → want.Room c ≡ want.Room b → c ≡ b
same-box b c wants = cc

module _ (cfg : Config) (sound : IsSound cfg) (b : BoxId) where
  gate-there : (home n : ℕ) (o : Option RpcGate) → slice_get cfg.gateways n ≡ o → want_room (gateway_for home o) ≡ want.Room b → b.0 < length cfg.boxes
  gate-there home n None found wants = not-plain b wants
  gate-there home n (Some gate) found wants = by_caller (has_box gate.callers home) wants
    where
      by_caller : (may : Bool) → want_room (cond may (Some gate) None) ≡ want.Room b → b.0 < length cfg.boxes
      by_caller true room =
          subst (λ (c : BoxId). c.0 < length cfg.boxes) (same-box b gate.target room)
          (each-get (λ (g : RpcGate). g.target.0 < length cfg.boxes) cfg.gateways n gate sound.gateways found)
      by_caller false room = not-plain b room

  call-there : (who : Who) (part : BoxPart) (m : Shared) (c : KernelCall) → want_by_call cfg who part m c ≡ want.Room b → b.0 < length cfg.boxes
  call-there who part m (call.PagesAlloc n t) wants = not-plain b wants
  call-there who part m (call.PageFree a) wants = not-plain b wants
  call-there who part m (call.IrqOn n) wants = not-plain b wants
  call-there who part m (call.IrqOff n) wants = not-plain b wants
  call-there who part m call.IrqReturn wants = not-plain b wants
  call-there who part m (call.GwRead d n) wants = not-plain b wants
  call-there who part m (call.GwWrite s n) wants = not-plain b wants
  call-there who part m (call.RpcCall d n) wants = gate-there who.home.0 n (slice_get cfg.gateways n) refl wants
  call-there who part m (call.RpcSync n looks) wants = gate-there who.home.0 n (slice_get cfg.gateways n) refl wants
  call-there who part m call.RpcTake wants = not-next b (is_free_server who part m) wants
  call-there who part m (call.RpcReturn s) wants = not-plain b wants
  call-there who part m (call.RpcResult d s) wants = not-plain b wants

  next-there : (who : Who) (part : BoxPart) (m : Shared) (n : Next) → want_by cfg who part m n ≡ want.Room b → b.0 < length cfg.boxes
  next-there who part m next.Look wants = not-plain b wants
  next-there who part m (next.Deliver irq) wants = not-plain b wants
  next-there who part m (next.Local i) wants = not-plain b wants
  next-there who part m (next.Access access) wants = not-plain b wants
  next-there who part m (next.Unaligned at) wants = not-plain b wants
  next-there who part m (next.Kernel c) wants = call-there who part m c wants
  next-there who part m next.Nowhere wants = not-plain b wants

  -- the box of wanted room is there
  pub room-there : (f : Flat) (t : ℕ) → want_of cfg f t ≡ want.Room b → b.0 < length cfg.boxes
  room-there f t wants = by_actor (actor_of cfg f t) wants
    where
      by_actor : (o : Option Actor) → want_of_actor cfg f.shared (record { 0 = t }) o ≡ want.Room b → b.0 < length cfg.boxes
      by_actor None room = not-plain b room
      by_actor (Some a) room = next-there (who_acts a (record { 0 = t }) true) a.part f.shared (next_of_actor f.shared.lines a t) room

-- a thread that wants the next call is the server of its box
pub server-there : (cfg : Config) (f : Flat) (t : ℕ) → want_of cfg f t ≡ want.Next → serves_box cfg t ≡ true
server-there cfg f t wants = by_actor (actor_of cfg f t) refl
  where
    by_actor : (o : Option Actor) → actor_of cfg f t ≡ o → serves_box cfg t ≡ true
    by_actor None none = absurd (let e : want.Plain ≡ want.Next = sym (ap (want_of_actor cfg f.shared (record { 0 = t })) none) ∙ wants in cc)
    by_actor (Some a) acting =
        let is = actor-is cfg f t a acting in
        let free : is_free_server (who_acts a (record { 0 = t }) true) a.part f.shared ≡ true =
        want-free cfg (who_acts a (record { 0 = t }) true) a.part f.shared (next_of_actor f.shared.lines a t)
        (ap wants_next (sym (ap (want_of_actor cfg f.shared (record { 0 = t })) acting) ∙ wants)) in
        let server = (and_parts (is_server (who_acts a (record { 0 = t }) true) a.part) (is_none (served_ticket f.shared.serving a.program.home.0)) free).0 in
        ap (λ (o : Option ThreadPart). option_map_or (λ (part : BoxPart). nat_eq t part.server.0) (slice_get cfg.boxes (option_map_or (λ (p : ThreadPart). p.home) o (record { 0 = 0 })).0) false) is.program
        ∙ ap (λ (o : Option BoxPart). option_map_or (λ (part : BoxPart). nat_eq t part.server.0) o false) is.part
        ∙ server
