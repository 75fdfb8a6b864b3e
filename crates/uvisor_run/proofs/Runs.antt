-- What a run of a script gives.
use Rattle.std.proofs.Common.{◌≡◌, ℕ, true, not, List, [], ◌∷◌, refl, sym, ◌∙◌, ap, subst}
use Rattle.std.specs.declared.option.Option.{Option}
use Rattle.std.specs.List.{AllByRecursion, list_all}
use Rattle.std.proofs.lemmas.Bool.{and_from, and_parts, false≢true}
use Rattle.addr_base.specs.declared.identity.ThreadId.{ThreadId}
use Rattle.flat_model.specs.declared.events.Choice.{Choice}
use Rattle.flat_model.specs.declared.logs.Log.{Log}
use Rattle.flat_model.specs.declared.parts.Config.{Config}
use Rattle.flat_model.specs.declared.parts.ScriptWord.{ScriptWord}
use Rattle.flat_model.specs.declared.parts.ScriptWord.TheVariants as word
use Rattle.flat_model.specs.declared.states.Flat.{Flat}
use Rattle.flat_model.specs.Legal.{IsLegal, all_fit}
use Rattle.flat_model.specs.Log.{IsNamed, choices_of}
use Rattle.flat_model.specs.OneLog.{log_of_choices, script_log}
use Rattle.flat_model.specs.Run.{ends_of, opening_state, replies_to_all, state_after_all}
use Rattle.flat_model.specs.Script.{choice_of_word, choices_from, script_choices}
use Rattle.flat_model.specs.Sound.{IsScriptWord, IsSound}
use Rattle.flat_model.specs.Step.{state_after}
use Rattle.flat_model.specs.Trace.{opening_world, trace_of}
use Rattle.flat_model.specs.UnitRun.{lines_of_run, opening_unit}
use Rattle.flat_model.specs.Want.{fits}
use Rattle.flat_model.proofs.Agreement.{trace-agrees}
use Rattle.flat_model.proofs.LegalLogs.{legal-one_log}
use Rattle.flat_model.proofs.NamedLogs.{legal-named}
use Rattle.flat_model.proofs.ReadyWorlds.{IsWorldReady-opening}
use Rattle.flat_model.proofs.TraceLemmas.{choices_of-trace, ends_with_entry-trace, lines_of-trace, replies_of-trace, trace_of-woven}
use Rattle.machine_core.specs.Kept.{HasCallers}
use Rattle.machine_core.proofs.CallerLemmas.{step-callers}
use Rattle.machine_core.proofs.ScriptLemmas.{script-fits}
use Rattle.uvisor_run.specs.Headline.{IsTold}
use Rattle.uvisor_run.specs.Output.{log_output}
use Rattle.uvisor_run.proofs.Scripts.{ring_word, thread_word}

-- ---- the log of a script

-- at the start there is no call
no_callers : (cfg : Config) → HasCallers cfg (opening_state cfg).shared.calls
unfolding opening_state
no_callers cfg = tt

-- a word's event fits where the calls are of threads of the configuration
word_fits : (cfg : Config) (f : Flat) (w : ScriptWord) → HasCallers cfg f.shared.calls → IsScriptWord cfg w → fits cfg f (choice_of_word cfg f w) ≡ true
word_fits cfg f (word.Thread t) known below =
    ap (fits cfg f) (thread_word cfg f (word.Thread t) t refl) ∙ script-fits cfg f t below known
word_fits cfg f (word.Ring line) known owned = ap (fits cfg f) (ring_word cfg f (word.Ring line) line refl) ∙ owned

words_fit : (cfg : Config) (f : Flat) (ws : List ScriptWord) → HasCallers cfg f.shared.calls → AllByRecursion (IsScriptWord cfg) ws → all_fit cfg f (choices_from cfg f ws) ≡ true
words_fit cfg f [] known below = refl
words_fit cfg f (w ∷ ws) known below =
    let c : Choice = choice_of_word cfg f w in
    and_from (fits cfg f c) (all_fit cfg (state_after cfg f c) (choices_from cfg (state_after cfg f c) ws))
    (word_fits cfg f w known below.0)
    (words_fit cfg (state_after cfg f c) ws (step-callers cfg f c known) below.1)

-- the log of choices as their trace
abbrev trace_log : Config → List Choice → Log
trace_log cfg cs = record { items = trace_of cfg (opening_world cfg) cs; ends = ends_of (state_after_all cfg (opening_state cfg) cs) }

trace_is : (cfg : Config) (cs : List Choice) → trace_log cfg cs ≡ log_of_choices cfg cs
unfolding log_of_choices
trace_is cfg cs =
    ap (λ items. record { items = items; ends = ends_of (state_after_all cfg (opening_state cfg) cs) }) (trace_of-woven cfg (opening_world cfg) cs)

trace_legal : (cfg : Config) (cs : List Choice) → IsSound cfg → all_fit cfg (opening_state cfg) cs ≡ true → IsLegal cfg (trace_log cfg cs)
trace_legal cfg cs sound fit =
    let chosen : choices_of (trace_of cfg (opening_world cfg) cs) ≡ cs = choices_of-trace cfg (opening_world cfg) cs in
    record {
      flat = record {
        fitting = ap (all_fit cfg (opening_state cfg)) chosen ∙ fit;
        replies = replies_of-trace cfg (opening_world cfg) cs ∙ ap (replies_to_all cfg (opening_state cfg)) (sym chosen);
        ends = ap (λ ds. ends_of (state_after_all cfg (opening_state cfg) ds)) (sym chosen);
      };
      unit = record {
        lines = lines_of-trace cfg (opening_world cfg) cs ∙ ap (lines_of_run cfg (opening_state cfg) (opening_unit cfg)) (sym chosen);
        closed = ends_with_entry-trace cfg (opening_world cfg) cs;
      };
      agree = trace-agrees cfg (opening_world cfg) cs sound (IsWorldReady-opening cfg);
    }

-- the script's log is legal
pub script_legal : (cfg : Config) → IsSound cfg → IsLegal cfg (script_log cfg)
script_legal cfg sound =
    subst (IsLegal cfg) (trace_is cfg (script_choices cfg))
    (trace_legal cfg (script_choices cfg) sound (words_fit cfg (opening_state cfg) cfg.script (no_callers cfg) sound.script))

-- the script's log has the script's choices
pub script_chosen : (cfg : Config) → choices_of (script_log cfg).items ≡ script_choices cfg
script_chosen cfg =
    ap (λ (l : Log). choices_of l.items) (sym (trace_is cfg (script_choices cfg)))
    ∙ choices_of-trace cfg (opening_world cfg) (script_choices cfg)

-- ---- the log of a run

-- the legal log of the script's choices is the script's log
pub one_script_log : (cfg : Config) (log : Log) → IsLegal cfg log → choices_of log.items ≡ script_choices cfg → log ≡ script_log cfg
one_script_log cfg log legal chosen = legal-one_log cfg log legal ∙ ap (log_of_choices cfg) chosen

-- the log that a run hands back with its configuration is named
pub run_named : (cfg it : Config) (log : Log) → it ≡ cfg → IsSound cfg → IsLegal cfg log → IsNamed it log
run_named cfg it log same sound legal = subst (λ c. IsNamed c log) (sym same) (legal-named cfg log sound legal)

-- what was told of the log that a run hands back was told of the script's log
pub run_told : (cfg it : Config) (log : Log) (written now : Option (List ℕ)) (before after status : ℕ) → it ≡ cfg → IsLegal cfg log → choices_of log.items ≡ script_choices cfg → IsTold (log_output it log) written now before after status → IsTold (log_output cfg (script_log cfg)) written now before after status
run_told cfg it log written now before after status same legal chosen told =
    subst (λ l. IsTold (log_output cfg l) written now before after status) (one_script_log cfg log legal chosen)
    (subst (λ c. IsTold (log_output c log) written now before after status) same told)
