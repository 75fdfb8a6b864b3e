use Rattle.machine_core.proofs.EntryLemmas.{event-grown, event-others, event-own}
use Rattle.machine_core.proofs.stepping.an_event_adds_one_entry.Goals as goal

pub returns-clause-own : goal.returns-clause-own
returns-clause-own c = event-own

pub returns-clause-others : goal.returns-clause-others
returns-clause-others c = event-others

pub returns-clause-grown : goal.returns-clause-grown
returns-clause-grown c = event-grown
