-- A legal log is the one log of its choices.
use Rattle.std.proofs.Common.{◌≡◌, true, List, [], ◌∷◌, ◌++◌, map, refl, sym, ◌∙◌, ap, append_assoc}
use Rattle.std.proofs.lemmas.Bool.{false≢true}
use Rattle.std.proofs.lemmas.List.{map-append}
use Rattle.flat_model.specs.declared.events.Entry.{Entry}
use Rattle.flat_model.specs.declared.events.Logged.{Logged}
use Rattle.flat_model.specs.declared.events.Logged.TheVariants as item
use Rattle.flat_model.specs.declared.events.Reply.{Reply}
use Rattle.flat_model.specs.declared.events.UnitLine.{UnitLine}
use Rattle.flat_model.specs.declared.logs.Log.{Log}
use Rattle.flat_model.specs.declared.parts.Config.{Config}
use Rattle.flat_model.specs.declared.states.Flat.{Flat}
use Rattle.flat_model.specs.Legal.{IsLegal}
use Rattle.flat_model.specs.Log.{Event, choices_of, ends_with_entry, entries_of, events_after, events_of}
use Rattle.flat_model.specs.OneLog.{entries_of_run, log_of_choices, woven_items}
use Rattle.flat_model.specs.Run.{opening_state, replies_to_all}
use Rattle.flat_model.specs.Step.{reply_to, state_after}
use Rattle.flat_model.specs.UnitRun.{lines_of_run, opening_unit}

-- the unit's lines of each event
abbrev lines_of_events : List Event → List (List UnitLine)
lines_of_events events = map (λ event. event.lines) events

-- items that end with an entry are their events, woven again
woven-events : (lines : List UnitLine) (x : Logged) (items : List Logged) → ends_with_entry (x ∷ items) ≡ true → woven_items (lines_of_events (events_after lines (x ∷ items))) (entries_of (x ∷ items)) ≡ map item.Unit lines ++ x ∷ items
woven-events lines (item.Unit l) [] closed = absurd (false≢true closed)
woven-events lines (item.Unit l) (y ∷ items) closed =
    woven-events (lines ++ l ∷ []) y items closed
    ∙ ap (λ front. front ++ y ∷ items) (map-append item.Unit lines (l ∷ []))
    ∙ append_assoc (map item.Unit lines) (item.Unit l ∷ []) (y ∷ items)
woven-events lines (item.Core e) [] closed = refl
woven-events lines (item.Core e) (y ∷ items) closed =
    ap (λ rest. map item.Unit lines ++ item.Core e ∷ rest) (woven-events [] y items closed)

-- all items that end with an entry
pub woven-items : (items : List Logged) → ends_with_entry items ≡ true → woven_items (lines_of_events (events_of items)) (entries_of items) ≡ items
woven-items [] closed = refl
woven-items (x ∷ items) closed = woven-events [] x items closed

first-same : (r s : Reply) (rs ss : List Reply) → r ∷ rs ≡ s ∷ ss → r ≡ s
first-same r s rs ss same = cc

rest-same : (r s : Reply) (rs ss : List Reply) → r ∷ rs ≡ s ∷ ss → rs ≡ ss
rest-same r s rs ss same = cc

-- entries whose replies are those of a run are the run's
pub entries-run : (cfg : Config) (f : Flat) (es : List Entry) → map (λ (e : Entry). e.reply) es ≡ replies_to_all cfg f (map (λ (e : Entry). e.choice) es) → es ≡ entries_of_run cfg f (map (λ (e : Entry). e.choice) es)
entries-run cfg f [] same = refl
entries-run cfg f (e ∷ es) same =
    let answered : e.reply ≡ reply_to cfg f e.choice = first-same e.reply (reply_to cfg f e.choice) _ _ same in
    ap (λ r. record { choice = e.choice; reply = r } ∷ es) answered
    ∙ ap (λ more. record { choice = e.choice; reply = reply_to cfg f e.choice } ∷ more)
    (entries-run cfg (state_after cfg f e.choice) es (rest-same e.reply (reply_to cfg f e.choice) _ _ same))

-- a legal log is the one log of its choices
pub legal-one_log : (cfg : Config) (log : Log) → IsLegal cfg log → log ≡ log_of_choices cfg (choices_of log.items)
unfolding log_of_choices
legal-one_log cfg log legal =
    let ran : entries_of log.items ≡ entries_of_run cfg (opening_state cfg) (choices_of log.items) = entries-run cfg (opening_state cfg) (entries_of log.items) legal.flat.replies in
    ap (λ items. record { items = items; ends = log.ends })
    (sym (woven-items log.items legal.unit.closed)
    ∙ ap (λ lines. woven_items lines (entries_of log.items)) legal.unit.lines
    ∙ ap (λ entries. woven_items (lines_of_run cfg (opening_state cfg) (opening_unit cfg) (choices_of log.items)) entries) ran)
    ∙ ap (λ ends. record { items = (log_of_choices cfg (choices_of log.items)).items; ends = ends }) legal.flat.ends
