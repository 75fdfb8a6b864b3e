-- What a choice does to the frames of the heap: nothing, or the acting box gets some, or it gives one back.
use Rattle.std.proofs.Common.{◌≡◌, ℕ, ◌≤◌, Bool, true, false, List, [], ◌∷◌, ◌++◌, length, take, replicate, Option, Some, None, zero, suc, refl, sym, ◌∙◌, ap, subst, arith, inl, inr, ◌⊎◌}
use Rattle.std.specs.Option.{option_map_or}
use Rattle.std.specs.Prelude.{◌-◌, not, nat_eq, nat_le, nat_lt, if◌then◌else◌, slice_get, slice_set}
use Rattle.std.proofs.lemmas.Bool.{and_parts, and_from, cases_Bool, false≢true, leb-true, ltb-false, or_parts}
use Rattle.std.proofs.lemmas.List.{length-take-le}
use Rattle.addr_base.specs.declared.identity.BoxId.{BoxId}
use Rattle.addr_base.specs.declared.identity.ThreadId.{ThreadId}
use Rattle.addr_base.specs.declared.identity.Ticket.{Ticket}
use Rattle.addr_base.specs.declared.rights.Kind.{Kind}
use Rattle.addr_base.specs.declared.rights.Kind.TheVariants.{Read, Write, Fetch}
use Rattle.flat_model.specs.declared.accesses.Access.{Access}
use Rattle.flat_model.specs.declared.actors.Who.{Who}
use Rattle.flat_model.specs.declared.boards.Board.{Board}
use Rattle.flat_model.specs.declared.boards.HeapPart.{HeapPart}
use Rattle.flat_model.specs.declared.boards.Word.{Word}
use Rattle.flat_model.specs.declared.classes.KernelCall.{KernelCall}
use Rattle.flat_model.specs.declared.classes.KernelCall.TheVariants as call
use Rattle.flat_model.specs.declared.classes.LocalInstr.{LocalInstr}
use Rattle.flat_model.specs.declared.classes.LocalInstr.TheVariants as local
use Rattle.flat_model.specs.declared.events.Choice.{Choice}
use Rattle.flat_model.specs.declared.events.Choice.TheVariants as choice
use Rattle.flat_model.specs.declared.events.Collected.{Collected}
use Rattle.flat_model.specs.declared.events.Collected.TheVariants as got
use Rattle.flat_model.specs.declared.events.Reply.{Reply}
use Rattle.flat_model.specs.declared.events.Reply.TheVariants as reply
use Rattle.flat_model.specs.declared.next.Next.{Next}
use Rattle.flat_model.specs.declared.next.Next.TheVariants as next
use Rattle.flat_model.specs.declared.parts.BoxPart.{BoxPart}
use Rattle.flat_model.specs.declared.parts.Config.{Config}
use Rattle.flat_model.specs.declared.parts.RpcGate.{RpcGate}
use Rattle.flat_model.specs.declared.parts.ThreadPart.{ThreadPart}
use Rattle.flat_model.specs.declared.states.Awaited.{Awaited}
use Rattle.flat_model.specs.declared.states.Call.{Call}
use Rattle.flat_model.specs.declared.states.Context.{Context}
use Rattle.flat_model.specs.declared.states.Flat.{Flat}
use Rattle.flat_model.specs.declared.states.Shared.{Shared}
use Rattle.flat_model.specs.declared.states.ThreadState.{ThreadState}
use Rattle.flat_model.specs.Access.{owned_by, owns}
use Rattle.flat_model.specs.AccessRows.{access_row, performed_row}
use Rattle.flat_model.specs.Actors.{Actor, actor_of, who_acts}
use Rattle.flat_model.specs.CallRows.{gateway_for, home_of, is_server, look_row, no_result_row, own_ticket, rpc_post_row, rpc_result_row, rpc_return_row, rpc_take_row, served_ticket, server_row, serving_of, start_row}
use Rattle.flat_model.specs.Calls.{collected_by, next_call}
use Rattle.flat_model.specs.Interrupts.{handled_context, has_line}
use Rattle.flat_model.specs.LineRows.{irq_enable_row, irq_return_row}
use Rattle.flat_model.specs.Local.{local_row}
use Rattle.flat_model.specs.Log.{is_full_reply}
use Rattle.flat_model.specs.Next.{holds_next, is_page_call, is_page_turn, next_of_actor}
use Rattle.flat_model.specs.Outcome.{Outcome, by_itself}
use Rattle.flat_model.specs.PageRows.{page_free_row, pages_alloc_row, with_frames}
use Rattle.flat_model.specs.Pages.{allocation, frame_at, frames_of, frames_or_none, free_frames, is_bad_count, least_free, may_write_words, own_frame}
use Rattle.flat_model.specs.RegisterRows.{gw_read_row, gw_write_row}
use Rattle.flat_model.specs.Registers.{register_read, register_write}
use Rattle.flat_model.specs.Step.{empties_slots, is_page_turn_by, is_status, reply_to, serve_by, state_after, turn_by}
use Rattle.flat_model.specs.Thread.{counted, register}
use Rattle.flat_model.specs.ThreadEvents.{looking, posted, posted_and_waiting, timed_out}
use Rattle.flat_model.specs.Turn.{kernel_row, row_of, turn_row, waiting_row}
use Rattle.flat_model.specs.Want.{fits, is_thread}
use Rattle.flat_model.proofs.ActorLemmas.{actor-is}
use Rattle.flat_model.proofs.NamedChoices.{HasNamedLines, entry-named}
use Rattle.flat_model.proofs.Owners.{server-owners}
use Rattle.flat_model.proofs.StepCases.{step-fits, step-unfit}
use Rattle.uvisor_run.specs.FrameLaws.{acting_box, given_by}

-- the owners are as they were, and the reply gives no frame
pub record IsQuiet (old new : Shared) (r : Reply) : Type 0 where
  pub owners : new.owners ≡ old.owners
  pub none : given_by r ≡ []

-- the box with this number got the first of the free frames, with a table that it might write before
pub record IsGiving (cfg : Config) (b : ℕ) (part : BoxPart) (old new : Shared) (r : Reply) : Type 0 where
  pub frames : List ℕ
  pub count : ℕ
  pub table : ℕ
  pub first : frames ≡ take count (free_frames 0 old.owners)
  pub may_write : may_write_words (owned_by b) part.items cfg.board.heap old.owners table (length frames) ≡ true
  pub shared : new ≡ with_frames cfg.board b table frames old
  pub answer : r ≡ reply.Given (frames_of frames)
  pub told : given_by r ≡ frames

-- the box with this number gave a frame of its own back
pub record IsTaking (b : ℕ) (old new : Shared) (r : Reply) : Type 0 where
  pub frame : ℕ
  pub own : owns old.owners b frame ≡ true
  pub owners : new.owners ≡ slice_set old.owners frame None
  pub done : r ≡ reply.Done

-- frames move to the box or from it
abbrev pub MovesFrames : Config → ℕ → BoxPart → Shared → Shared → Reply → Type 0
MovesFrames cfg b part old new r = IsGiving cfg b part old new r ⊎ IsTaking b old new r

abbrev Quiet : Shared → Outcome → Type 0
Quiet m out = IsQuiet m out.shared out.reply

-- a row moves no frames, or it is that of a page call
abbrev Moves : Config → ℕ → BoxPart → Shared → Outcome → Bool → Type 0
Moves cfg b part m out page = Quiet m out ⊎ ((page ≡ true) × MovesFrames cfg b part m out.shared out.reply)

-- ---- rows that move no frames

performed-quiet : (board : Board) (m : Shared) (th : ThreadState) (access : Access) (kind : Kind) → Quiet m (performed_row board m th access kind)
performed-quiet board m th access Read = record { owners = refl; none = refl }
performed-quiet board m th access Write = record { owners = refl; none = refl }
performed-quiet board m th access Fetch = record { owners = refl; none = refl }

access-quiet : (board : Board) (m : Shared) (th : ThreadState) (access : Access) (granted : Bool) → Quiet m (access_row board m th access granted)
access-quiet board m th access true = performed-quiet board m th access access.kind
access-quiet board m th access false = record { owners = refl; none = refl }

enable-quiet : (m : Shared) (th : ThreadState) (line : ℕ) (on own : Bool) → Quiet m (irq_enable_row m th line on own)
enable-quiet m th line on true = record { owners = refl; none = refl }
enable-quiet m th line on false = record { owners = refl; none = refl }

handled-quiet : (b : ℕ) (m : Shared) (th : ThreadState) (context : Option Context) → Quiet m (irq_return_row b m th context)
handled-quiet b m th None = record { owners = refl; none = refl }
handled-quiet b m th (Some context) = record { owners = refl; none = refl }

read-quiet : (m : Shared) (th : ThreadState) (r : ℕ) (value : Option ℕ) → Quiet m (gw_read_row m th r value)
read-quiet m th r None = record { owners = refl; none = refl }
read-quiet m th r (Some value) = record { owners = refl; none = refl }

write-quiet : (board : Board) (m : Shared) (th : ThreadState) (word : Option Word) → Quiet m (gw_write_row board m th word)
write-quiet board m th None = record { owners = refl; none = refl }
write-quiet board m th (Some word) = record { owners = refl; none = refl }

post-quiet : (who : Who) (m : Shared) (th after : ThreadState) (gate : Option RpcGate) → Quiet m (rpc_post_row who m th after gate)
post-quiet who m th after None = record { owners = refl; none = refl }
post-quiet who m th after (Some gate) = by_room who.room
  where
    by_room : (b : Bool) → Quiet m (rpc_post_row (record who { room = b }) m th after (Some gate))
    by_room true = record { owners = refl; none = refl }
    by_room false = record { owners = refl; none = refl }

take-quiet : (m : Shared) (th : ThreadState) (server : Bool) (serving : Option Ticket) → Quiet m (rpc_take_row m th server serving)
take-quiet m th false serving = record { owners = refl; none = refl }
take-quiet m th true None = record { owners = refl; none = refl }
take-quiet m th true (Some ticket) = record { owners = refl; none = refl }

return-quiet : (b : ℕ) (m : Shared) (th : ThreadState) (v : ℕ) (serving : Option Ticket) → Quiet m (rpc_return_row b m th v serving)
return-quiet b m th v None = record { owners = refl; none = refl }
return-quiet b m th v (Some ticket) = record { owners = refl; none = refl }

result-quiet : (m : Shared) (th : ThreadState) (r : ℕ) (ticket : Ticket) (answer : Collected) → Quiet m (rpc_result_row m th r ticket answer)
result-quiet m th r ticket got.Waiting = record { owners = refl; none = refl }
result-quiet m th r ticket (got.Done value) = record { owners = refl; none = refl }
result-quiet m th r ticket got.NoSuch = record { owners = refl; none = refl }

late-quiet : (m : Shared) (th : ThreadState) (awaited : Awaited) → Quiet m (by_itself m (no_result_row th awaited))
late-quiet m th awaited = by_looks (nat_eq (awaited.looks - 1) 0)
  where
    by_looks : (b : Bool) → Quiet m (by_itself m (if b then (timed_out th awaited.seq, reply.Status 1) else (looking th awaited.seq (awaited.looks - 1), reply.Waiting)))
    by_looks true = record { owners = refl; none = refl }
    by_looks false = record { owners = refl; none = refl }

look-quiet : (who : Who) (m : Shared) (th : ThreadState) (awaited : Awaited) (answer : Collected) → Quiet m (look_row who m th awaited answer)
look-quiet who m th awaited got.Waiting = late-quiet m th awaited
look-quiet who m th awaited (got.Done value) = record { owners = refl; none = refl }
look-quiet who m th awaited got.NoSuch = late-quiet m th awaited

waiting-quiet : (who : Who) (m : Shared) (th : ThreadState) (awaited : Option Awaited) → Quiet m (waiting_row who m th awaited)
waiting-quiet who m th None = record { owners = refl; none = refl }
waiting-quiet who m th (Some awaited) = look-quiet who m th awaited (collected_by (own_ticket who awaited.seq) m.calls)

local-none : (th : ThreadState) (home : ℕ) (i : LocalInstr) → given_by (local_row th home i).1 ≡ []
local-none th home (local.Set d w) = refl
local-none th home (local.Mov d s) = refl
local-none th home (local.Add d a b) = refl
local-none th home (local.Sub d a b) = refl
local-none th home (local.And d a b) = refl
local-none th home (local.Orr d a b) = refl
local-none th home (local.Eor d a b) = refl
local-none th home (local.Jump n) = refl
local-none th home (local.Jz a n) = refl
local-none th home (local.Jnz a n) = refl
local-none th home (local.BoxId d) = refl
local-none th home local.Halt = refl

start-none : (cfg : Config) (b : ℕ) (m : Shared) (th : ThreadState) (ticket : Ticket) (next : Option Call) → given_by (start_row cfg b m th ticket next).reply ≡ []
start-none cfg b m th ticket None = refl
start-none cfg b m th ticket (Some call) = refl

server-none : (cfg : Config) (b : ℕ) (m : Shared) (th : ThreadState) (ticket : Option Ticket) → given_by (server_row cfg b m th ticket).reply ≡ []
server-none cfg b m th None = refl
server-none cfg b m th (Some ticket) = start-none cfg b m th ticket (next_call ticket b m.calls)

-- ---- page calls

told-frames : (n : ℕ) (xs zs : List ℕ) → length xs ≤ n → take (length xs) (take n (xs ++ zs)) ≡ xs
told-frames n [] zs few = refl
told-frames zero (x ∷ xs) zs few = absurd (omega (arith, few))
told-frames (suc n) (x ∷ xs) zs few = ap (λ ys. x ∷ ys) (told-frames n xs zs (omega (arith, few)))

module _ (cfg : Config) (b : ℕ) (part : BoxPart) (m : Shared) (th : ThreadState) where
  found-moves : (table n : ℕ) (heap : Option HeapPart) → n ≤ 16 → may_write_words (owned_by b) part.items cfg.board.heap m.owners table n ≡ true →
      Moves cfg b part m (pages_alloc_row cfg.board b m th table (frames_or_none heap (least_free n m.owners))) true
  found-moves table n None few may = inl (record { owners = refl; none = refl })
  found-moves table n (Some heap) few may = elim (cases_Bool (nat_le n (length (free_frames 0 m.owners)))) [
    | inl enough ↦
        let frames : List ℕ = take n (free_frames 0 m.owners) in
        let long : length frames ≡ n = length-take-le n (free_frames 0 m.owners) (leb-true n (length (free_frames 0 m.owners)) enough) in
        rw enough (inr (
          refl,
          inl (record {
            frames = frames;
            count = n;
            table = table;
            first = refl;
            may_write = subst (λ l. may_write_words (owned_by b) part.items cfg.board.heap m.owners table l ≡ true) (sym long) may;
            shared = refl;
            answer = refl;
            told = told-frames 16 frames (replicate 16 0) (omega (arith, long, few));
          }),
        ))
    | inr few_left ↦ rw few_left (inl (record { owners = refl; none = refl }))
  ]

  alloc-moves : (table n : ℕ) →
      Moves cfg b part m (pages_alloc_row cfg.board b m th table (allocation cfg.board.heap (may_write_words (owned_by b) part.items cfg.board.heap m.owners table n) n m.owners)) true
  alloc-moves table n = elim (cases_Bool (is_bad_count n)) [
    | inl bad ↦ rw bad (inl (record { owners = refl; none = refl }))
    | inr good ↦
        let few : n ≤ 16 = ltb-false 16 n (or_parts (nat_eq n 0) (nat_lt 16 n) good).1 in
        elim (cases_Bool (may_write_words (owned_by b) part.items cfg.board.heap m.owners table n)) [
          | inl may ↦ rw (good, may) (found-moves table n cfg.board.heap few may)
          | inr may_not ↦ rw (good, may_not) (inl (record { owners = refl; none = refl }))
        ]
  ]

  free-moves : (frame : Option ℕ) → Moves cfg b part m (page_free_row m th (own_frame m.owners b frame)) true
  free-moves None = inl (record { owners = refl; none = refl })
  free-moves (Some frame) = elim (cases_Bool (owns m.owners b frame)) [
    | inl own ↦ rw own (inr (refl, inr (record { frame = frame; own = own; owners = refl; done = refl })))
    | inr other ↦ rw other (inl (record { owners = refl; none = refl }))
  ]

-- ---- turns

kernel-moves : (cfg : Config) (who : Who) (part : BoxPart) (m : Shared) (th : ThreadState) (c : KernelCall) →
    Moves cfg who.home.0 part m (kernel_row cfg who part m th c) (is_page_call c)
kernel-moves cfg who part m th (call.PagesAlloc n t) = alloc-moves cfg who.home.0 part m th (register th t) (register th n)
kernel-moves cfg who part m th (call.PageFree a) = free-moves cfg who.home.0 part m th (frame_at cfg.board.heap (register th a))
kernel-moves cfg who part m th (call.IrqOn n) = inl (enable-quiet m th n true (has_line n part.irqs))
kernel-moves cfg who part m th (call.IrqOff n) = inl (enable-quiet m th n false (has_line n part.irqs))
kernel-moves cfg who part m th call.IrqReturn = inl (handled-quiet who.home.0 m th (handled_context m.lines part who.home.0 who.thread.0))
kernel-moves cfg who part m th (call.GwRead d n) = inl (read-quiet m th d (register_read cfg.registers cfg.board m.memory who.home.0 n))
kernel-moves cfg who part m th (call.GwWrite s n) =
    inl (write-quiet cfg.board m th (register_write cfg.registers cfg.board m.memory who.home.0 n (register th s)))
kernel-moves cfg who part m th (call.RpcCall d n) = inl (post-quiet who m th (posted th d) (gateway_for who.home.0 (slice_get cfg.gateways n)))
kernel-moves cfg who part m th (call.RpcSync n looks) =
    inl (post-quiet who m th (posted_and_waiting th looks) (gateway_for who.home.0 (slice_get cfg.gateways n)))
kernel-moves cfg who part m th call.RpcTake = inl (take-quiet m th (is_server who part) (served_ticket m.serving who.home.0))
kernel-moves cfg who part m th (call.RpcReturn s) = inl (return-quiet who.home.0 m th (register th s) (serving_of who part m.serving))
kernel-moves cfg who part m th (call.RpcResult d s) =
    inl (result-quiet m th d (own_ticket who (register th s)) (collected_by (own_ticket who (register th s)) m.calls))

row-moves : (cfg : Config) (who : Who) (part : BoxPart) (m : Shared) (th : ThreadState) (granted : Bool) (n : Next) →
    Moves cfg who.home.0 part m (row_of cfg who part m th granted n) (is_page_turn n)
row-moves cfg who part m th granted next.Look = inl (waiting-quiet who m th th.awaited)
row-moves cfg who part m th granted (next.Deliver irq) = inl (record { owners = refl; none = refl })
row-moves cfg who part m th granted (next.Local i) = inl (record { owners = refl; none = local-none th who.home.0 i })
row-moves cfg who part m th granted (next.Access access) = inl (access-quiet cfg.board m th access granted)
row-moves cfg who part m th granted (next.Unaligned at) = inl (record { owners = refl; none = refl })
row-moves cfg who part m th granted (next.Kernel c) = kernel-moves cfg who part m th c
row-moves cfg who part m th granted next.Nowhere = inl (record { owners = refl; none = refl })

-- a turn moves no frames, or it is a page call
turn-moves : (cfg : Config) (who : Who) (part : BoxPart) (budget : ℕ) (m : Shared) (th : ThreadState) (granted : Bool) (n : Next) →
    Moves cfg who.home.0 part m (turn_row cfg who part budget m th granted n) (is_page_turn n)
turn-moves cfg who part budget m th granted n = row-moves cfg who part m (counted th) granted n

-- ---- choices

-- a choice moves frames: it is a page call of a box, and was done
pub record IsPageEvent (cfg : Config) (f : Flat) (c : Choice) : Type 0 where
  pub actor : Actor
  pub part : slice_get cfg.boxes actor.program.home.0 ≡ Some actor.part
  pub acts : acting_box cfg c ≡ Some actor.program.home
  pub empties : empties_slots cfg f c ≡ true
  pub moves : MovesFrames cfg actor.program.home.0 actor.part f.shared (state_after cfg f c).shared (reply_to cfg f c)

-- the step to a state, with this reply, moves no frames
abbrev QuietStep : Flat → Flat × Reply → Type 0
QuietStep f p = IsQuiet f.shared p.0.shared p.1

-- a choice moves no frames, or it is a page call that was done
abbrev pub EventMoves : Config → Flat → Choice → Type 0
EventMoves cfg f c = IsQuiet f.shared (state_after cfg f c).shared (reply_to cfg f c) ⊎ IsPageEvent cfg f c

not-status : (cfg : Config) (b : ℕ) (part : BoxPart) (old new : Shared) (r : Reply) → MovesFrames cfg b part old new r → is_status r ≡ false
not-status cfg b part old new r (inl giving) = ap is_status giving.answer
not-status cfg b part old new r (inr taking) = ap is_status taking.done

not-full : (cfg : Config) (b : ℕ) (part : BoxPart) (old new : Shared) (r : Reply) → MovesFrames cfg b part old new r → is_full_reply r ≡ false
not-full cfg b part old new r (inl giving) = ap is_full_reply giving.answer
not-full cfg b part old new r (inr taking) = ap is_full_reply taking.done

home-is : (cfg : Config) (f : Flat) (t : ThreadId) (a : Actor) → actor_of cfg f t.0 ≡ Some a → home_of cfg t.0 ≡ a.program.home
home-is cfg f t a is =
    let none : BoxId = record { 0 = 0 } in
    ap (λ (p : Option ThreadPart). option_map_or (λ (thread : ThreadPart). thread.home) p none) (actor-is cfg f t.0 a is).program

-- the turn of a thread is a page call that moves frames
record IsPageTurn (cfg : Config) (f : Flat) (t : ThreadId) (p : Flat × Reply) : Type 0 where
  actor : Actor
  acts : actor_of cfg f t.0 ≡ Some actor
  page : is_page_turn (next_of_actor f.shared.lines actor t.0) ≡ true
  moves : MovesFrames cfg actor.program.home.0 actor.part f.shared p.0.shared p.1

turn-steps : (cfg : Config) (f : Flat) (t : ThreadId) (room : Bool) (a : Option Actor) → actor_of cfg f t.0 ≡ a →
    QuietStep f (turn_by cfg f t room a) ⊎ IsPageTurn cfg f t (turn_by cfg f t room a)
turn-steps cfg f t room None is = inl (record { owners = refl; none = refl })
turn-steps cfg f t room (Some a) is =
    let n = next_of_actor f.shared.lines a t.0 in
    elim (turn-moves cfg (who_acts a t room) a.part a.program.steps f.shared a.thread
    (holds_next cfg.board a.program.home.0 a.part f.shared.owners n) n) [
      | inl quiet ↦ inl quiet
      | inr page ↦ inr (record { actor = a; acts = is; page = page.0; moves = page.1 })
    ]

serve-quiet : (cfg : Config) (f : Flat) (t : ThreadId) (ticket : Option Ticket) (a : Option Actor) → QuietStep f (serve_by cfg f t ticket a)
serve-quiet cfg f t ticket None = record { owners = refl; none = refl }
serve-quiet cfg f t ticket (Some a) = record {
  owners = server-owners cfg a.program.home.0 f.shared (counted a.thread) ticket;
  none = server-none cfg a.program.home.0 f.shared (counted a.thread) ticket;
}

empties-page : (cfg : Config) (f : Flat) (t : ThreadId) (a : Actor) → actor_of cfg f t.0 ≡ Some a →
    is_page_turn (next_of_actor f.shared.lines a t.0) ≡ true → is_status (reply_to cfg f (choice.Turn t true)) ≡ false →
    empties_slots cfg f (choice.Turn t true) ≡ true
unfolding empties_slots
empties-page cfg f t a acts page live =
    and_from (is_page_turn_by f t.0 (actor_of cfg f t.0)) (not (is_status (reply_to cfg f (choice.Turn t true))))
    (ap (is_page_turn_by f t.0) acts ∙ page) (ap not live)

fitting-moves : (cfg : Config) (f : Flat) (c : Choice) → HasNamedLines cfg → fits cfg f c ≡ true → EventMoves cfg f c
fitting-moves cfg f (choice.Turn t true) lines fit =
    let is = step-fits cfg f (choice.Turn t true) fit in
    elim (turn-steps cfg f t true (actor_of cfg f t.0) refl) [
      | inl quiet ↦ inl (subst (QuietStep f) (sym is) quiet)
      | inr turn ↦
          let moves = subst (λ (p : Flat × Reply). MovesFrames cfg turn.actor.program.home.0 turn.actor.part f.shared p.0.shared p.1) (sym is) turn.moves in
          inr (record {
            actor = turn.actor;
            part = (actor-is cfg f t.0 turn.actor turn.acts).part;
            acts = ap Some (home-is cfg f t turn.actor turn.acts);
            empties = empties-page cfg f t turn.actor turn.acts turn.page
                (not-status cfg turn.actor.program.home.0 turn.actor.part f.shared (state_after cfg f (choice.Turn t true)).shared (reply_to cfg f (choice.Turn t true)) moves);
            moves = moves;
          })
    ]
fitting-moves cfg f (choice.Turn t false) lines fit =
    let is = step-fits cfg f (choice.Turn t false) fit in
    elim (turn-steps cfg f t false (actor_of cfg f t.0) refl) [
      | inl quiet ↦ inl (subst (QuietStep f) (sym is) quiet)
      | inr turn ↦
          let moves = subst (λ (p : Flat × Reply). MovesFrames cfg turn.actor.program.home.0 turn.actor.part f.shared p.0.shared p.1) (sym is) turn.moves in
          let full = (and_parts (is_thread cfg t) (is_full_reply (reply_to cfg f (choice.Turn t false))) (entry-named cfg f (choice.Turn t false) lines fit)).1 in
          absurd (false≢true (sym (not-full cfg turn.actor.program.home.0 turn.actor.part f.shared (state_after cfg f (choice.Turn t false)).shared (reply_to cfg f (choice.Turn t false)) moves) ∙ full))
    ]
fitting-moves cfg f (choice.Start t ticket) lines fit =
    inl (subst (QuietStep f) (sym (step-fits cfg f (choice.Start t ticket) fit)) (serve-quiet cfg f t (Some ticket) (actor_of cfg f t.0)))
fitting-moves cfg f (choice.Idle t) lines fit =
    inl (subst (QuietStep f) (sym (step-fits cfg f (choice.Idle t) fit)) (serve-quiet cfg f t None (actor_of cfg f t.0)))
fitting-moves cfg f (choice.Ring line by) lines fit =
    inl (subst (QuietStep f) (sym (step-fits cfg f (choice.Ring line by) fit)) (record { owners = refl; none = refl }))

-- what a choice does to the frames
pub event-moves : (cfg : Config) (f : Flat) (c : Choice) → HasNamedLines cfg → EventMoves cfg f c
event-moves cfg f c lines = elim (cases_Bool (fits cfg f c)) [
  | inl fit ↦ fitting-moves cfg f c lines fit
  | inr unfit ↦ inl (subst (QuietStep f) (sym (step-unfit cfg f c unfit)) (record { owners = refl; none = refl }))
]
