-- What one more choice does to the log of choices, and what the log of choices says.
use Rattle.std.proofs.Common.{◌≡◌, true, List, [], ◌∷◌, ◌++◌, map, refl, sym, ap, ◌∙◌, append_assoc, append-nil}
use Rattle.std.proofs.lemmas.Bool.{and_from, and_parts}
use Rattle.std.proofs.lemmas.List.{map-append}
use Rattle.std.proofs.lemmas.List.Elements.{filter_map-append}
use Rattle.flat_model.specs.declared.events.Choice.{Choice}
use Rattle.flat_model.specs.declared.events.Entry.{Entry}
use Rattle.flat_model.specs.declared.events.Logged.{Logged}
use Rattle.flat_model.specs.declared.events.Logged.TheVariants as item
use Rattle.flat_model.specs.declared.events.UnitLine.{UnitLine}
use Rattle.flat_model.specs.declared.parts.Config.{Config}
use Rattle.flat_model.specs.declared.states.Flat.{Flat}
use Rattle.flat_model.specs.Legal.{all_fit}
use Rattle.flat_model.specs.Log.{Event, choices_of, ends_with_entry, entries_of, entry_of, events_after, events_of, replies_of}
use Rattle.flat_model.specs.OneLog.{entries_of_run, woven_items}
use Rattle.flat_model.specs.Run.{replies_to_all, state_after_all}
use Rattle.flat_model.specs.Step.{reply_to, state_after}
use Rattle.flat_model.specs.Trace.{World, event_items, trace_of, world_after, world_after_all}
use Rattle.flat_model.specs.UnitRun.{lines_of_run, unit_after, unit_lines}
use Rattle.flat_model.specs.Want.{fits}

pub choices_of-append : (xs ys : List Logged) → choices_of (xs ++ ys) ≡ choices_of xs ++ choices_of ys
choices_of-append xs ys =
    ap (map (λ (e : Entry). e.choice)) (filter_map-append entry_of xs ys)
    ∙ map-append (λ (e : Entry). e.choice) (entries_of xs) (entries_of ys)

entries_of-lines : (lines : List UnitLine) (items : List Logged) →
    entries_of (map item.Unit lines ++ items) ≡ entries_of items
entries_of-lines [] items = refl
entries_of-lines (l ∷ lines) items = entries_of-lines lines items

-- the one entry of an event
pub entries_of-event : (cfg : Config) (w : World) (c : Choice) (items : List Logged) →
    entries_of (event_items cfg w c ++ items) ≡ record { choice = c; reply = reply_to cfg w.flat c } ∷ entries_of items
unfolding event_items
entries_of-event cfg w c items =
    ap entries_of (append_assoc (map item.Unit (unit_lines cfg w.flat w.unit c)) (item.Core (record { choice = c; reply = reply_to cfg w.flat c }) ∷ []) items)
    ∙ entries_of-lines (unit_lines cfg w.flat w.unit c) (item.Core (record { choice = c; reply = reply_to cfg w.flat c }) ∷ items)

-- the one choice of an event
pub choices_of-event : (cfg : Config) (w : World) (c : Choice) (items : List Logged) →
    choices_of (event_items cfg w c ++ items) ≡ c ∷ choices_of items
choices_of-event cfg w c items = ap (map (λ (e : Entry). e.choice)) (entries_of-event cfg w c items)

-- the choices of the trace of choices
pub choices_of-trace : (cfg : Config) (w : World) (cs : List Choice) → choices_of (trace_of cfg w cs) ≡ cs
choices_of-trace cfg w [] = refl
choices_of-trace cfg w (c ∷ cs) =
    choices_of-event cfg w c (trace_of cfg (world_after cfg w c) cs)
    ∙ ap (λ ds. c ∷ ds) (choices_of-trace cfg (world_after cfg w c) cs)

pub world_after_all-append : (cfg : Config) (w : World) (cs ds : List Choice) →
    world_after_all cfg w (cs ++ ds) ≡ world_after_all cfg (world_after_all cfg w cs) ds
world_after_all-append cfg w [] ds = refl
world_after_all-append cfg w (c ∷ cs) ds = world_after_all-append cfg (world_after cfg w c) cs ds

pub trace_of-append : (cfg : Config) (w : World) (cs ds : List Choice) →
    trace_of cfg w (cs ++ ds) ≡ trace_of cfg w cs ++ trace_of cfg (world_after_all cfg w cs) ds
trace_of-append cfg w [] ds = refl
trace_of-append cfg w (c ∷ cs) ds =
    ap (λ items. event_items cfg w c ++ items) (trace_of-append cfg (world_after cfg w c) cs ds)
    ∙ sym (append_assoc (event_items cfg w c) (trace_of cfg (world_after cfg w c) cs) (trace_of cfg (world_after_all cfg (world_after cfg w c) cs) ds))

pub all_fit-append : (cfg : Config) (f : Flat) (cs ds : List Choice) →
    all_fit cfg f cs ≡ true → all_fit cfg (state_after_all cfg f cs) ds ≡ true → all_fit cfg f (cs ++ ds) ≡ true
all_fit-append cfg f [] ds first second = second
all_fit-append cfg f (c ∷ cs) ds first second =
    let parts = and_parts (fits cfg f c) (all_fit cfg (state_after cfg f c) cs) first in
    and_from (fits cfg f c) (all_fit cfg (state_after cfg f c) (cs ++ ds)) parts.0
    (all_fit-append cfg (state_after cfg f c) cs ds parts.1 second)

flat_after : (cfg : Config) (w : World) (c : Choice) → (world_after cfg w c).flat ≡ state_after cfg w.flat c
unfolding world_after
flat_after cfg w c = refl

unit_after_world : (cfg : Config) (w : World) (c : Choice) → (world_after cfg w c).unit ≡ unit_after cfg w.flat w.unit c
unfolding world_after
unit_after_world cfg w c = refl

-- the flat machine runs by itself
pub flat_after_all : (cfg : Config) (w : World) (cs : List Choice) →
    (world_after_all cfg w cs).flat ≡ state_after_all cfg w.flat cs
flat_after_all cfg w [] = refl
flat_after_all cfg w (c ∷ cs) =
    flat_after_all cfg (world_after cfg w c) cs ∙ ap (λ f. state_after_all cfg f cs) (flat_after cfg w c)

-- the entries of the trace of choices
pub entries_of-trace : (cfg : Config) (w : World) (cs : List Choice) →
    entries_of (trace_of cfg w cs) ≡ entries_of_run cfg w.flat cs
entries_of-trace cfg w [] = refl
entries_of-trace cfg w (c ∷ cs) =
    entries_of-event cfg w c (trace_of cfg (world_after cfg w c) cs)
    ∙ ap (λ es. record { choice = c; reply = reply_to cfg w.flat c } ∷ es)
    (entries_of-trace cfg (world_after cfg w c) cs ∙ ap (λ f. entries_of_run cfg f cs) (flat_after cfg w c))

replies_of-run : (cfg : Config) (f : Flat) (cs : List Choice) →
    map (λ (e : Entry). e.reply) (entries_of_run cfg f cs) ≡ replies_to_all cfg f cs
replies_of-run cfg f [] = refl
replies_of-run cfg f (c ∷ cs) = ap (λ rs. reply_to cfg f c ∷ rs) (replies_of-run cfg (state_after cfg f c) cs)

-- the replies of the trace of choices
pub replies_of-trace : (cfg : Config) (w : World) (cs : List Choice) →
    replies_of (trace_of cfg w cs) ≡ replies_to_all cfg w.flat cs
replies_of-trace cfg w cs = ap (map (λ (e : Entry). e.reply)) (entries_of-trace cfg w cs) ∙ replies_of-run cfg w.flat cs

events_after-lines : (before lines : List UnitLine) (e : Entry) (items : List Logged) →
    events_after before (map item.Unit lines ++ item.Core e ∷ items)
    ≡ record { lines = before ++ lines; entry = e } ∷ events_of items
events_after-lines before [] e items =
    ap (λ ls. record { lines = ls; entry = e } ∷ events_of items) (sym (append-nil before))
events_after-lines before (l ∷ lines) e items =
    events_after-lines (before ++ l ∷ []) lines e items
    ∙ ap (λ ls. record { lines = ls; entry = e } ∷ events_of items) (append_assoc before (l ∷ []) lines)

-- the one event of a choice
pub events_of-event : (cfg : Config) (w : World) (c : Choice) (items : List Logged) →
    events_of (event_items cfg w c ++ items)
    ≡ record { lines = unit_lines cfg w.flat w.unit c; entry = record { choice = c; reply = reply_to cfg w.flat c } } ∷ events_of items
unfolding event_items
events_of-event cfg w c items =
    ap events_of (append_assoc (map item.Unit (unit_lines cfg w.flat w.unit c)) (item.Core (record { choice = c; reply = reply_to cfg w.flat c }) ∷ []) items)
    ∙ events_after-lines [] (unit_lines cfg w.flat w.unit c) (record { choice = c; reply = reply_to cfg w.flat c }) items

-- the unit's lines of the trace of choices
pub lines_of-trace : (cfg : Config) (w : World) (cs : List Choice) →
    map (λ (event : Event). event.lines) (events_of (trace_of cfg w cs)) ≡ lines_of_run cfg w.flat w.unit cs
lines_of-trace cfg w [] = refl
lines_of-trace cfg w (c ∷ cs) =
    ap (map (λ (event : Event). event.lines)) (events_of-event cfg w c (trace_of cfg (world_after cfg w c) cs))
    ∙ ap (λ ls. unit_lines cfg w.flat w.unit c ∷ ls)
    (lines_of-trace cfg (world_after cfg w c) cs
    ∙ ap (λ f. lines_of_run cfg f (world_after cfg w c).unit cs) (flat_after cfg w c)
    ∙ ap (λ u. lines_of_run cfg (state_after cfg w.flat c) u cs) (unit_after_world cfg w c))

ends_with_entry-lines : (lines : List UnitLine) (e : Entry) (items : List Logged) →
    ends_with_entry items ≡ true → ends_with_entry (map item.Unit lines ++ item.Core e ∷ items) ≡ true
ends_with_entry-lines [] e [] closed = refl
ends_with_entry-lines [] e (x ∷ items) closed = closed
ends_with_entry-lines (l ∷ []) e items closed = ends_with_entry-lines [] e items closed
ends_with_entry-lines (l ∷ k ∷ lines) e items closed = ends_with_entry-lines (k ∷ lines) e items closed

ends_with_entry-event : (cfg : Config) (w : World) (c : Choice) (items : List Logged) →
    ends_with_entry items ≡ true → ends_with_entry (event_items cfg w c ++ items) ≡ true
unfolding event_items
ends_with_entry-event cfg w c items closed =
    ap ends_with_entry (append_assoc (map item.Unit (unit_lines cfg w.flat w.unit c)) (item.Core (record { choice = c; reply = reply_to cfg w.flat c }) ∷ []) items)
    ∙ ends_with_entry-lines (unit_lines cfg w.flat w.unit c) (record { choice = c; reply = reply_to cfg w.flat c }) items closed

-- the last item of the trace of choices is an entry
pub ends_with_entry-trace : (cfg : Config) (w : World) (cs : List Choice) → ends_with_entry (trace_of cfg w cs) ≡ true
ends_with_entry-trace cfg w [] = refl
ends_with_entry-trace cfg w (c ∷ cs) =
    ends_with_entry-event cfg w c (trace_of cfg (world_after cfg w c) cs) (ends_with_entry-trace cfg (world_after cfg w c) cs)

event_items-woven : (cfg : Config) (w : World) (c : Choice) (items : List Logged) →
    event_items cfg w c ++ items
    ≡ map item.Unit (unit_lines cfg w.flat w.unit c) ++ item.Core (record { choice = c; reply = reply_to cfg w.flat c }) ∷ items
unfolding event_items
event_items-woven cfg w c items =
    append_assoc (map item.Unit (unit_lines cfg w.flat w.unit c)) (item.Core (record { choice = c; reply = reply_to cfg w.flat c }) ∷ []) items

-- the trace of choices is what both runs write, woven
pub trace_of-woven : (cfg : Config) (w : World) (cs : List Choice) →
    trace_of cfg w cs ≡ woven_items (lines_of_run cfg w.flat w.unit cs) (entries_of_run cfg w.flat cs)
trace_of-woven cfg w [] = refl
trace_of-woven cfg w (c ∷ cs) =
    event_items-woven cfg w c (trace_of cfg (world_after cfg w c) cs)
    ∙ ap (λ items. map item.Unit (unit_lines cfg w.flat w.unit c) ++ item.Core (record { choice = c; reply = reply_to cfg w.flat c }) ∷ items)
    (trace_of-woven cfg (world_after cfg w c) cs
    ∙ ap (λ f. woven_items (lines_of_run cfg f (world_after cfg w c).unit cs) (entries_of_run cfg f cs)) (flat_after cfg w c)
    ∙ ap (λ u. woven_items (lines_of_run cfg (state_after cfg w.flat c) u cs) (entries_of_run cfg (state_after cfg w.flat c) cs)) (unit_after_world cfg w c))
