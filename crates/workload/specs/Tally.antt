-- The counts of a log, and their line. Each count is of the log's items alone: what threads are at the end is not counted.
use Rattle.std.specs.Prelude.{ℕ, List, [], ◌∷◌, ◌++◌, codes, count_by, length}
use Rattle.std.specs.Fmt.{decimal}
use Rattle.flat_model.specs.declared.events.Logged.{Logged}
use Rattle.flat_model.specs.declared.logs.Log.{Log}
use Rattle.flat_model.specs.Text.{line_of}
use Rattle.workload.specs.Kinds.{is_denied_access, is_faulting_turn, is_flush, is_granted_access, is_idle, is_posting_turn, is_ring, is_rotation, is_start, is_switch, is_turn}

-- how many items there are
abbrev pub items : List Logged → ℕ
items log = length log

-- how many switches
abbrev pub switches : List Logged → ℕ
switches log = count_by is_switch log

-- how many rotations
abbrev pub rotations : List Logged → ℕ
rotations log = count_by is_rotation log

-- how many flushes
abbrev pub flushes : List Logged → ℕ
flushes log = count_by is_flush log

-- how many accesses were granted
abbrev pub granted : List Logged → ℕ
granted log = count_by is_granted_access log

-- how many accesses were denied
abbrev pub denied : List Logged → ℕ
denied log = count_by is_denied_access log

-- how many turns
abbrev pub turns : List Logged → ℕ
turns log = count_by is_turn log

-- how many starts of calls
abbrev pub starts : List Logged → ℕ
starts log = count_by is_start log

-- how many idle looks
abbrev pub idles : List Logged → ℕ
idles log = count_by is_idle log

-- how many rings
abbrev pub rings : List Logged → ℕ
rings log = count_by is_ring log

-- how many turns posted a call
abbrev pub posted : List Logged → ℕ
posted log = count_by is_posting_turn log

-- how many turns faulted
abbrev pub faults : List Logged → ℕ
faults log = count_by is_faulting_turn log

-- the words of the counts of the unit's lines, and of all items
unfoldable pub unit_counts : List Logged → List (List ℕ)
unit_counts log =
    codes "items" ∷ decimal (items log)
    ∷ codes "switches" ∷ decimal (switches log)
    ∷ codes "rotations" ∷ decimal (rotations log)
    ∷ codes "flushes" ∷ decimal (flushes log)
    ∷ codes "granted" ∷ decimal (granted log)
    ∷ codes "denied" ∷ decimal (denied log)
    ∷ []

-- the words of the counts of events
unfoldable pub event_counts : List Logged → List (List ℕ)
event_counts log =
    codes "turns" ∷ decimal (turns log)
    ∷ codes "starts" ∷ decimal (starts log)
    ∷ codes "idles" ∷ decimal (idles log)
    ∷ codes "rings" ∷ decimal (rings log)
    ∷ codes "posted" ∷ decimal (posted log)
    ∷ codes "faults" ∷ decimal (faults log)
    ∷ []

-- the line of the counts of a log's items, with the number of the input that was run
unfoldable pub counts_line : ℕ → List Logged → List ℕ
counts_line n log = line_of (codes "tally" ∷ decimal n ∷ unit_counts log ++ event_counts log)

-- the line of the counts of a log
abbrev pub tally_line : ℕ → Log → List ℕ
tally_line n log = counts_line n log.items
