-- The refusals of a configuration that its parts are resolved to, each the first of its kind.
use Rattle.std.specs.Prelude.{ℕ, ◌+◌, ◌-◌, ◌*◌, ◌/◌, ◌%◌, Bool, ◌&&◌, ◌||◌, not, nat_eq, nat_le, nat_lt, is_none, max, unwrap_or, Option, Some, None, List, [], ◌∷◌, ◌++◌, if◌then◌else◌}
use Rattle.std.specs.List.{list_any}
use Rattle.std.specs.Option.{option_and_then, option_or}
use Rattle.addr_base.specs.declared.ranges.Range.{Range}
use Rattle.addr_base.specs.Powers.{round_down, round_up}
use Rattle.addr_base.specs.Range.{end_of, overlap}
use Rattle.flat_model.specs.declared.boards.Board.{Board}
use Rattle.flat_model.specs.declared.parts.IrqPart.{IrqPart}
use Rattle.flat_model.specs.declared.refusals.Refused.{Refused}
use Rattle.flat_model.specs.declared.refusals.Refused.TheVariants as refused
use Rattle.flat_model.specs.declared.texts.BoxText.{BoxText}
use Rattle.flat_model.specs.declared.texts.GrantText.{GrantText}
use Rattle.flat_model.specs.declared.texts.Round.{Round}
use Rattle.flat_model.specs.declared.texts.Round.TheVariants as round
use Rattle.flat_model.specs.First.{first_after, first_index, first_of, number, refuse_if}
use Rattle.flat_model.specs.Interrupts.{has_line}
use Rattle.flat_model.specs.Placing.{limit_of}

-- the length of own memory for a size: the least power of two at or above it and 256
abbrev pub own_len : ℕ → ℕ
own_len size = max 256 (unwrap_or (round_up size) 0)

-- the least multiple of a length that is not below an address
abbrev pub multiple_from : ℕ → ℕ → ℕ
multiple_from len start = (start + (len - 1)) / len * len

-- own memory for a size, placed at or after an address
abbrev pub own_after : ℕ → ℕ → Range
own_after start size = record { base = multiple_from (own_len size) start; len = own_len size }

-- the boxes' own memory, placed one after another from an address on
abbrev pub own_ranges : ℕ → List BoxText → List Range
own_ranges start [] = []
own_ranges start (b ∷ boxes) = own_after start b.size ∷ own_ranges (end_of (own_after start b.size)) boxes

-- the end of the last own memory, or the start where there is no box
abbrev pub own_end : ℕ → List BoxText → ℕ
own_end start [] = start
own_end start (b ∷ boxes) = own_end (end_of (own_after start b.size)) boxes

-- the first box whose own memory would pass the limit; the first of these has the number i
abbrev pub no_room : ℕ → ℕ → ℕ → List BoxText → Option Refused
no_room limit start i [] = None
no_room limit start i (b ∷ boxes) =
    if nat_lt limit (end_of (own_after start b.size)) then Some (refused.NoRoom (number i))
    else no_room limit (end_of (own_after start b.size)) (i + 1) boxes

-- a base and a length where the length divides the base
abbrev pub range_at_multiple : ℕ → ℕ → Option Range
range_at_multiple base len = if nat_eq (base % len) 0 then Some (record { base = base; len = len }) else None

-- a base and a length that are multiples of 32, the length not 0
abbrev pub range_as_written : ℕ → ℕ → Option Range
range_as_written base len =
    if nat_eq (base % 32) 0 && nat_eq (len % 32) 0 && not (nat_eq len 0) then Some (record { base = base; len = len })
    else None

-- the range of a grant once it is rounded, where its rule lets it be
abbrev pub rounded_by : Round → ℕ → ℕ → Option Range
rounded_by round.Plain base len = range_as_written base len
rounded_by round.Up base len = option_and_then (range_at_multiple base) (round_up len)
rounded_by round.Down base len = option_and_then (range_at_multiple base) (round_down len)

-- the range of a grant once it is rounded
abbrev pub rounded : GrantText → Option Range
rounded grant = rounded_by grant.round grant.base grant.len

-- the range of a grant once it is rounded, or as it is written where its rule does not let it be
abbrev pub rounded_range : GrantText → Range
rounded_range grant = unwrap_or (rounded grant) (record { base = grant.base; len = grant.len })

-- the first answer that f gives along the list, whose own first number is i
abbrev pub first_numbered : {A : Type 0} → (ℕ → A → Option Refused) → ℕ → List A → Option Refused
first_numbered f i [] = None
first_numbered f i (x ∷ xs) = option_or (f (number i) x) (first_numbered f (i + 1) xs)

-- the first answer that f gives along the list, behind those items before it
abbrev pub first_behind : {A : Type 0} → (List A → ℕ → A → Option Refused) → List A → ℕ → List A → Option Refused
first_behind f earlier i [] = None
first_behind f earlier i (x ∷ xs) = option_or (f earlier (number i) x) (first_behind f (earlier ++ x ∷ []) (i + 1) xs)

-- the grant, where its rounding rule fails
abbrev pub bad_grant_at : ℕ → ℕ → GrantText → Option Refused
bad_grant_at i j grant = refuse_if (is_none (rounded grant)) (refused.BadGrant i j)

-- a grant of a box whose rounding rule fails
abbrev pub bad_grant_of : ℕ → BoxText → Option Refused
bad_grant_of i b = first_numbered (bad_grant_at i) 0 b.grants

-- a grant whose rounding rule fails
abbrev pub bad_grant : List BoxText → Option Refused
bad_grant boxes = first_numbered bad_grant_of 0 boxes

-- whether every address of the first range is in the second
abbrev pub is_inside : Range → Range → Bool
is_inside inner outer = nat_le outer.base inner.base && nat_le (end_of inner) (end_of outer)

-- the common part of SRAM, behind the boxes' own memory
abbrev pub common_behind : Board → List BoxText → Range
common_behind board boxes = record {
  base = own_end board.sram.base boxes;
  len = limit_of board - own_end board.sram.base boxes;
}

-- whether the range lies in the peripherals or in the common part
abbrev pub is_grantable : Board → Range → Range → Bool
is_grantable board common range = is_inside range board.peripherals || is_inside range common

-- the grant, where it is rounded to neither the peripherals nor the common part
abbrev pub outside_at : Board → Range → ℕ → ℕ → GrantText → Option Refused
outside_at board common i j grant =
    refuse_if (not (is_grantable board common (rounded_range grant))) (refused.GrantOutside i j)

-- a rounded grant of a box that is neither in the peripherals nor in the common part
abbrev pub outside_of : Board → Range → ℕ → BoxText → Option Refused
outside_of board common i b = first_numbered (outside_at board common i) 0 b.grants

-- a rounded grant that is neither in the peripherals nor in the common part
abbrev pub grant_outside : Board → List BoxText → Option Refused
grant_outside board boxes = first_numbered (outside_of board (common_behind board boxes)) 0 boxes

-- whether the two grants, once they are rounded, have an address in common
abbrev pub do_overlap : GrantText → GrantText → Bool
do_overlap first second = overlap (rounded_range first) (rounded_range second)

-- whether the grant overlaps one of these
abbrev pub overlaps_one : List GrantText → GrantText → Bool
overlaps_one earlier grant = list_any (do_overlap grant) earlier

-- the refusal of the grant with this number, if there is one
abbrev pub self_overlap_at : ℕ → Option ℕ → Option Refused
self_overlap_at i None = None
self_overlap_at i (Some j) = Some (refused.SelfOverlap i j)

-- a grant of a box that overlaps an earlier one
abbrev pub self_overlap_of : ℕ → BoxText → Option Refused
self_overlap_of i b = self_overlap_at i (first_after overlaps_one 0 [] b.grants)

-- a grant that overlaps an earlier one of its box
abbrev pub self_overlap : List BoxText → Option Refused
self_overlap boxes = first_numbered self_overlap_of 0 boxes

-- whether two grants of two boxes overlap and are not both shared
abbrev pub do_clash : GrantText → GrantText → Bool
do_clash first second = do_overlap first second && not (first.shared && second.shared)

-- whether the grant clashes with one of the box
abbrev pub clashes_in : GrantText → BoxText → Bool
clashes_in grant b = list_any (do_clash grant) b.grants

-- the clash with the box of this number, or none
abbrev pub clash_with : ℕ → Option ℕ → Option Refused
clash_with second None = None
clash_with second (Some first) = Some (refused.Clash first second)

-- the clash of the grant, of a box with this number, with one of these boxes
abbrev pub clash_at : List BoxText → ℕ → GrantText → Option Refused
clash_at earlier i grant = clash_with i (first_index (clashes_in grant) 0 earlier)

-- the first grant of a box that clashes with one of these boxes, and the least of them
abbrev pub clash_of : List BoxText → ℕ → BoxText → Option Refused
clash_of earlier i b = first_of (clash_at earlier i) b.grants

-- the first grant that clashes with an earlier box's, and the least such box
abbrev pub clash : List BoxText → Option Refused
clash boxes = first_behind clash_of [] 0 boxes

-- whether a box names the line
abbrev pub is_line_of : ℕ → BoxText → Bool
is_line_of line b = has_line line b.irqs

-- whether one of the boxes names the line
abbrev pub is_line_of_some : List BoxText → ℕ → Bool
is_line_of_some boxes line = list_any (is_line_of line) boxes

-- whether the line was named in one of these boxes, or in its own box among these
abbrev pub is_taken : List BoxText → List IrqPart → IrqPart → Bool
is_taken earlier before irq = is_line_of_some earlier irq.line.0 || has_line irq.line.0 before

-- the refusal of the line with this number, if there is one
abbrev pub line_taken_at : ℕ → Option ℕ → Option Refused
line_taken_at i None = None
line_taken_at i (Some j) = Some (refused.LineTaken i j)

-- a line of a box that was named earlier, in this or another box
abbrev pub line_taken_of : List BoxText → ℕ → BoxText → Option Refused
line_taken_of earlier i b = line_taken_at i (first_after (is_taken earlier) 0 [] b.irqs)

-- a line that was named earlier, in this or another box
abbrev pub line_taken : List BoxText → Option Refused
line_taken boxes = first_behind line_taken_of [] 0 boxes
