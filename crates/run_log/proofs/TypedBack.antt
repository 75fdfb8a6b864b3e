-- What is read of a line has numbers of its types.
use Rattle.std.proofs.Common.{ℕ, zero, suc, Bool, true, false, List, refl, arith}
use Rattle.std.specs.Prelude.{if◌then◌else◌}
use Rattle.std.specs.List.{AllByRecursion}
use Rattle.flat_model.specs.declared.events.Logged.TheVariants as item
use Rattle.flat_model.specs.declared.events.Reply.TheVariants as reply
use Rattle.flat_model.specs.declared.events.UnitLine.TheVariants as line
use Rattle.flat_model.specs.declared.parts.Config.{Config}
use Rattle.addr_base.specs.declared.identity.Ticket.{Ticket}
use Rattle.run_log.specs.Candidates.{access_of, done_of, end_of, fault_of, frames_of, hexes_of, idle_of, item_of, reply_of, ring_of, rotate_of, smalls_of, start_of, start_reply_of, started_of, state_of, turn_of, unit_of}
use Rattle.run_log.specs.LineWords.{first_of, number_of, rest_of, small_of}
use Rattle.run_log.specs.Meanings.{box_of, ticket_of}
use Rattle.run_log.specs.Typed.{Fits8, Fits32, IsTypedEnd, IsTypedFrames, IsTypedItem, IsTypedLine, IsTypedReply, IsTypedStarted}

-- a fact of a value, kept with the value
record Holds {A : Type 0} (P : A → Type 0) (x : A) : Type 0 where
  pub is : P x

that : {A : Type 0} {P : A → Type 0} (x : A) → P x → Holds P x
that x p = record { is = p }

if_both : {A : Type 0} {P : A → Type 0} (b : Bool) {x y : A} → Holds P x → Holds P y → Holds P (if b then x else y)
if_both true p q = p
if_both false p q = q

number_fits : (radix : ℕ) (w : List ℕ) → Fits32 (number_of radix w)
unfolding number_of
number_fits radix w = omega arith

small_fits : (w : List ℕ) → Fits8 (small_of w)
unfolding small_of
small_fits w = omega arith

smalls_fit : (count : ℕ) (ws : List (List ℕ)) → AllByRecursion Fits8 (smalls_of count ws)
smalls_fit zero ws = tt
smalls_fit (suc count) ws = (small_fits (first_of ws), smalls_fit count (rest_of ws))

hexes_fit : (count : ℕ) (ws : List (List ℕ)) → AllByRecursion Fits32 (hexes_of count ws)
hexes_fit zero ws = tt
hexes_fit (suc count) ws = (number_fits 16 (first_of ws), hexes_fit count (rest_of ws))

typed_frames : (ws : List (List ℕ)) → IsTypedFrames (frames_of ws)
unfolding frames_of
typed_frames ws = record { count = refl; each = smalls_fit 16 ws }

typed_done : (ws : List (List ℕ)) → Holds IsTypedReply (done_of ws)
unfolding done_of
typed_done ws = if_both _ (that reply.Done tt) (that (reply.Value (number_of 16 (first_of ws))) (number_fits 16 (first_of ws)))

typed_fault : (ws : List (List ℕ)) → Holds IsTypedReply (fault_of ws)
unfolding fault_of
typed_fault ws = that _ (number_fits 16 (first_of (rest_of ws)))

typed_reply : (ws : List (List ℕ)) → Holds IsTypedReply (reply_of ws)
unfolding reply_of
typed_reply ws =
    let next = first_of (rest_of ws) in
    if_both _ (typed_done (rest_of ws))
    (if_both _ (that (reply.Status (small_of next)) (small_fits next))
    (if_both _ (that (reply.Posted (number_of 10 next)) (number_fits 10 next))
    (if_both _ (that reply.Waiting tt)
    (if_both _ (that (reply.Irq (record { 0 = small_of next })) tt)
    (if_both _ (that (reply.Given (frames_of (rest_of ws))) (typed_frames (rest_of ws)))
    (if_both _ (typed_fault (rest_of ws))
    (if_both _ (that reply.Halted tt) (that reply.Ended tt))))))))

typed_started : (cfg : Config) (ticket : Ticket) (ws : List (List ℕ)) → IsTypedStarted (started_of cfg ticket ws)
unfolding started_of
typed_started cfg ticket ws = record {
  function = number_fits 16 (first_of ws);
  args = record { count = refl; each = hexes_fit 4 (rest_of ws) };
}

typed_start_reply : (cfg : Config) (ticket : Ticket) (ws : List (List ℕ)) → Holds IsTypedReply (start_reply_of cfg ticket ws)
unfolding start_reply_of
typed_start_reply cfg ticket ws =
    if_both _ (that (reply.Begun (started_of cfg ticket (rest_of ws))) (typed_started cfg ticket (rest_of ws)))
    (that (reply.Status 12) (omega arith))

typed_turn : (cfg : Config) (ws : List (List ℕ)) → IsTypedItem (turn_of cfg ws)
unfolding turn_of
typed_turn cfg ws = (tt, (typed_reply (rest_of ws)).is)

typed_start : (cfg : Config) (ws : List (List ℕ)) → IsTypedItem (start_of cfg ws)
unfolding start_of ticket_of
typed_start cfg ws =
    (number_fits 10 _, (typed_start_reply cfg (ticket_of cfg (first_of (rest_of ws))) (rest_of (rest_of ws))).is)

typed_idle : (cfg : Config) (ws : List (List ℕ)) → IsTypedItem (idle_of cfg ws)
unfolding idle_of
typed_idle cfg ws = (tt, omega arith)

typed_ring : (ws : List (List ℕ)) → IsTypedItem (ring_of ws)
unfolding ring_of
typed_ring ws = (small_fits (first_of (rest_of (rest_of ws))), tt)

typed_rotate : (ws : List (List ℕ)) → Holds IsTypedLine (rotate_of ws)
unfolding rotate_of
typed_rotate ws = that _ (number_fits 16 (first_of (rest_of ws)), number_fits 16 (first_of (rest_of (rest_of ws))))

typed_access : (ws : List (List ℕ)) → Holds IsTypedLine (access_of ws)
unfolding access_of
typed_access ws = that _ (number_fits 16 (first_of (rest_of (rest_of ws))))

typed_unit : (cfg : Config) (ws : List (List ℕ)) → Holds IsTypedLine (unit_of cfg ws)
unfolding unit_of
typed_unit cfg ws =
    if_both _ (that (line.Switch (box_of cfg (first_of (rest_of ws)))) tt)
    (if_both _ (typed_rotate (rest_of ws)) (if_both _ (typed_access (rest_of ws)) (that line.Flush tt)))

read_item : (cfg : Config) (ws : List (List ℕ)) → Holds IsTypedItem (item_of cfg ws)
unfolding item_of
read_item cfg ws =
    if_both _ (that (item.Unit (unit_of cfg (rest_of ws))) (typed_unit cfg (rest_of ws)).is)
    (if_both _ (that (turn_of cfg (rest_of ws)) (typed_turn cfg (rest_of ws)))
    (if_both _ (that (start_of cfg (rest_of ws)) (typed_start cfg (rest_of ws)))
    (if_both _ (that (idle_of cfg (rest_of ws)) (typed_idle cfg (rest_of ws)))
    (that (ring_of (rest_of ws)) (typed_ring (rest_of ws))))))

-- an item that is read
pub typed_item : (cfg : Config) (ws : List (List ℕ)) → IsTypedItem (item_of cfg ws)
typed_item cfg ws = (read_item cfg ws).is

-- an end that is read
pub typed_end : (ws : List (List ℕ)) → IsTypedEnd (end_of ws)
unfolding end_of state_of
typed_end ws = record {
  steps = number_fits 10 (first_of (rest_of (rest_of (rest_of ws))));
  regs = record { count = refl; each = hexes_fit 8 (rest_of (rest_of (rest_of (rest_of ws)))) };
}
