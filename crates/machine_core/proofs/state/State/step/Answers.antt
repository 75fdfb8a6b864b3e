use Rattle.std.proofs.Common.{◌≤◌, [], ◌∷◌, length, ap, sym, ◌∙◌, subst}
use Rattle.flat_model.specs.declared.events.Choice.{Choice}
use Rattle.flat_model.specs.declared.events.Logged.TheVariants as item
use Rattle.flat_model.specs.Step.{reply_to}
use Rattle.flat_model.specs.Trace.{event_items}
use Rattle.machine_core.specs.Journal.{JournalState, noted}
use Rattle.machine_core.specs.State.{event_room}
use Rattle.machine_core.proofs.KeptLemmas.{event-fits, event-noted, room-for_entry}
use Rattle.machine_core.proofs.state.State.step.Goals as goal

pub note-requires : goal.note-requires
note-requires c =
    let s = c.args.self.now in
    room-for_entry s.config s.world c.event-entry.result.choice c.args.journal.now c.event-entry.new.journal c.event-entry.ensures.journal
    (subst (λ (choice : Choice). length (event_items s.config s.world choice) ≤ event_room s.world c.args.t.0) (sym c.event-entry.ensures.choice)
    (event-fits s.config s.world c.args.t c.args.order)) c.requires.room

pub returns-clause-journal : goal.returns-clause-journal
returns-clause-journal c =
    let s = c.args.self.now in
    c.note.ensures
    ∙ ap (λ (j : JournalState). noted j (item.Core c.event-entry.result ∷ [])) c.event-entry.ensures.journal
    ∙ event-noted s.config s.world c.event-entry.result.choice c.args.journal.now c.event-entry.result.reply c.event-entry.ensures.reply
    ∙ ap (λ (choice : Choice). noted c.args.journal.now (event_items s.config s.world choice)) c.event-entry.ensures.choice

pub returns-clause-reply : goal.returns-clause-reply
returns-clause-reply c =
    let s = c.args.self.now in
    c.event-entry.ensures.reply ∙ ap (reply_to s.config s.world.flat) c.event-entry.ensures.choice
