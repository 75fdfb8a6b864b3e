-- What the laws say of frames: who owns them in the states that a log reaches, and what is in their pages when they come.
use Rattle.std.specs.Prelude.{◌≡◌, ◌≢◌, ⊤, ◌+◌, ◌*◌, ◌≤◌, ◌<◌, ℕ, Bool, true, false, nat_eq, Option, Some, None, List, [], ◌∷◌, length, take, slice_get}
use Rattle.std.specs.List.{AllByRecursion, list_any}
use Rattle.std.specs.Option.{option_map_or}
use Rattle.addr_base.specs.declared.identity.BoxId.{BoxId}
use Rattle.addr_base.specs.declared.rights.Kind.{Kind}
use Rattle.addr_base.specs.Range.{in_range}
use Rattle.flat_model.specs.declared.boards.Board.{Board}
use Rattle.flat_model.specs.declared.boards.HeapPart.{HeapPart}
use Rattle.flat_model.specs.declared.events.Choice.{Choice}
use Rattle.flat_model.specs.declared.events.Choice.TheVariants as choice
use Rattle.flat_model.specs.declared.events.Entry.{Entry}
use Rattle.flat_model.specs.declared.events.Reply.{Reply}
use Rattle.flat_model.specs.declared.events.Reply.TheVariants as reply
use Rattle.flat_model.specs.declared.parts.Config.{Config}
use Rattle.flat_model.specs.declared.states.Flat.{Flat}
use Rattle.flat_model.specs.declared.states.Memory.{Memory}
use Rattle.flat_model.specs.Access.{holds, owner_of, owns}
use Rattle.flat_model.specs.CallRows.{home_of}
use Rattle.flat_model.specs.Log.{ascends}
use Rattle.flat_model.specs.Memory.{byte_at}
use Rattle.flat_model.specs.Pages.{page_address, page_size}
use Rattle.flat_model.specs.Step.{empties_slots, state_after}

-- how many frames the heap has: none where there is no heap
abbrev pub frame_count : Option HeapPart → ℕ
frame_count heap = option_map_or (λ h. h.count) heap 0

-- whether the address lies in the heap
abbrev pub is_in_heap : Option HeapPart → ℕ → Bool
is_in_heap None a = false
is_in_heap (Some heap) a = in_range (record { base = heap.base; len = heap.count * heap.page }) a

-- the box of the thread that acts at a choice: none at a ring
abbrev pub acting_box : Config → Choice → Option BoxId
acting_box cfg (choice.Turn t room) = Some (home_of cfg t.0)
acting_box cfg (choice.Start t ticket) = Some (home_of cfg t.0)
acting_box cfg (choice.Idle t) = Some (home_of cfg t.0)
acting_box cfg (choice.Ring line by) = None

-- the frames that a reply gives, in its order
abbrev pub given_by : Reply → List ℕ
given_by reply.Ended = []
given_by reply.Done = []
given_by (reply.Value value) = []
given_by (reply.Status status) = []
given_by (reply.Posted seq) = []
given_by reply.Waiting = []
given_by (reply.Irq line) = []
given_by (reply.Given frames) = take frames.n frames.list
given_by (reply.Fault why at) = []
given_by reply.Halted = []
given_by (reply.Begun started) = []

-- whether the frame is among these
abbrev pub is_among : ℕ → List ℕ → Bool
is_among frame frames = list_any (λ x. nat_eq x frame) frames

-- Each frame of the heap has one place for its owner, where two boxes own a frame they are the same box, and no two boxes hold a byte of the heap.
pub record HasOneOwner (cfg : Config) (owners : List (Option BoxId)) : Type 0 where
  pub places : length owners ≡ frame_count cfg.board.heap
  pub one : (frame b c : ℕ) → owns owners b frame ≡ true → owns owners c frame ≡ true → b ≡ c
  pub held : (a b c : ℕ) (kind other : Kind) → is_in_heap cfg.board.heap a ≡ true
      → holds cfg owners b a 1 kind ≡ true → holds cfg owners c a 1 other ≡ true → b ≡ c

-- Owners change at a page call that was done, and there alone. A box gains a frame only where it acts and the reply gives the frame, and loses one only where it acts and the reply is `Done`.
pub record MovesOwners (cfg : Config) (old new : List (Option BoxId)) (page_call : Bool) (entry : Entry) : Type 0 where
  pub kept : page_call ≡ false → new ≡ old
  pub gained : (frame : ℕ) (b : BoxId) → owner_of new frame ≡ Some b → owner_of old frame ≢ Some b
      → (acting_box cfg entry.choice ≡ Some b) × (is_among frame (given_by entry.reply) ≡ true)
  pub lost : (frame : ℕ) (b : BoxId) → owner_of old frame ≡ Some b → owner_of new frame ≢ Some b
      → (acting_box cfg entry.choice ≡ Some b) × (entry.reply ≡ reply.Done)

-- this state and each one that the entries reach from it has one owner a frame, and each entry moves owners as it may
abbrev pub KeepOneOwner : Config → Flat → List Entry → Type 0
KeepOneOwner cfg f [] = HasOneOwner cfg f.shared.owners
KeepOneOwner cfg f (entry ∷ entries) =
    HasOneOwner cfg f.shared.owners
    × MovesOwners cfg f.shared.owners (state_after cfg f entry.choice).shared.owners (empties_slots cfg f entry.choice) entry
    × KeepOneOwner cfg (state_after cfg f entry.choice) entries

-- each byte of the frame's page is 0
abbrev pub IsBlankPage : Board → Memory → ℕ → Type 0
IsBlankPage board memory frame =
    (a : ℕ) → page_address board.heap frame ≤ a → a < page_address board.heap frame + page_size board.heap
    → byte_at board memory a ≡ 0

-- The frames had no owner in the old state, and none with a lower number was passed over. In the new one the acting box owns them, and each byte of their pages is 0.
pub record ArriveZeroed (cfg : Config) (old new : Flat) (acting : Option BoxId) (frames : List ℕ) : Type 0 where
  pub ascend : ascends frames ≡ true
  pub free : AllByRecursion (λ frame. slice_get old.shared.owners frame ≡ Some None) frames
  pub least : (frame : ℕ) → slice_get old.shared.owners frame ≡ Some None → is_among frame frames ≡ false
      → AllByRecursion (λ given. given < frame) frames
  pub own : AllByRecursion (λ frame. slice_get new.shared.owners frame ≡ Some acting) frames
  pub zeroed : AllByRecursion (IsBlankPage cfg.board new.shared.memory) frames

-- the frames that each entry gives arrive zeroed, from a state on
abbrev pub AllArriveZeroed : Config → Flat → List Entry → Type 0
AllArriveZeroed cfg f [] = ⊤
AllArriveZeroed cfg f (entry ∷ entries) =
    ArriveZeroed cfg f (state_after cfg f entry.choice) (acting_box cfg entry.choice) (given_by entry.reply)
    × AllArriveZeroed cfg (state_after cfg f entry.choice) entries
