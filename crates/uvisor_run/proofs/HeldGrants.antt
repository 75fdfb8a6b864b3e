-- The unit grants an access exactly where the acting box holds it, whatever happened before.
use Rattle.std.proofs.Common.{◌≡◌, Bool, true, false, not, cond, Option, Some, None, List, [], ◌∷◌, ◌++◌, refl, sym, ap, ◌∙◌}
use Rattle.std.specs.List.{list_all}
use Rattle.std.proofs.lemmas.Bool.{and_from}
use Rattle.std.proofs.lemmas.List.Folds.{list_all-append}
use Rattle.addr_base.specs.declared.identity.BoxId.{BoxId}
use Rattle.addr_base.specs.declared.pairs.Pair.{Pair}
use Rattle.flat_model.specs.declared.accesses.Access.{Access}
use Rattle.flat_model.specs.declared.events.Choice.{Choice}
use Rattle.flat_model.specs.declared.events.UnitLine.{UnitLine}
use Rattle.flat_model.specs.declared.events.UnitLine.TheVariants as line
use Rattle.flat_model.specs.declared.logs.Log.{Log}
use Rattle.flat_model.specs.declared.parts.Config.{Config}
use Rattle.flat_model.specs.declared.states.Flat.{Flat}
use Rattle.flat_model.specs.Access.{holds}
use Rattle.flat_model.specs.Actors.{Actor}
use Rattle.flat_model.specs.Legal.{IsLegal}
use Rattle.flat_model.specs.Log.{choices_of, events_of}
use Rattle.flat_model.specs.OneLog.{log_of_choices}
use Rattle.flat_model.specs.Plan.{plan_of}
use Rattle.flat_model.specs.Run.{opening_state}
use Rattle.flat_model.specs.Sound.{IsSound}
use Rattle.flat_model.specs.Step.{empties_slots, state_after, touch_of}
use Rattle.flat_model.specs.Trace.{World, opening_world, trace_of, world_after}
use Rattle.flat_model.specs.UnitRun.{UnitState, access_line, access_lines, actor_at, entered, flush_lines, is_last, lines_of_actor, rotate_lines, rotated, rotating_pair, switch_lines, unit_lines}
use Rattle.flat_model.proofs.Agreement.{granted-at}
use Rattle.flat_model.proofs.LegalLogs.{legal-one_log}
use Rattle.flat_model.proofs.ReadyWorlds.{IsWorldReady, IsWorldReady-opening, ready-world}
use Rattle.flat_model.proofs.TraceLemmas.{events_of-event, trace_of-woven}
use Rattle.uvisor_run.specs.Laws.{are_granted_as_held, is_granted_as_held}

-- ---- the lines of an event

module _ (cfg : Config) (f : Flat) (a : Actor) where
  abbrev held : UnitLine → Bool
  held = is_granted_as_held cfg f (Some a)

  switch-held : (u : UnitState) (b : BoxId) → list_all held (switch_lines u b) ≡ true
  switch-held u b = by_last (is_last u.last b.0)
    where
      by_last : (l : Bool) → list_all held (cond {A = List UnitLine} l [] (line.Switch b ∷ [])) ≡ true
      by_last true = refl
      by_last false = refl

  rotate-held : (u : UnitState) (pair : Option Pair) → list_all held (rotate_lines u pair) ≡ true
  rotate-held u None = refl
  rotate-held u (Some pair) = refl

  flush-held : (empties : Bool) → list_all held (flush_lines empties) ≡ true
  flush-held true = refl
  flush-held false = refl

  access-held : (u : UnitState) (c : Choice) (o : Option Access) → IsSound cfg → IsWorldReady cfg f u →
      actor_at cfg f c ≡ Some a → touch_of cfg f c ≡ o →
      list_all held (access_lines (plan_of cfg f.shared.owners a.program.home.0 a.part) (entered cfg a.part u a.program.home) o) ≡ true
  access-held u c None sound ready acting touch = refl
  access-held u c (Some access) sound ready acting touch =
      let plan : List Pair = plan_of cfg f.shared.owners a.program.home.0 a.part in
      let v : UnitState = entered cfg a.part u a.program.home in
      let granted = granted-at cfg f u c a access sound ready acting touch in
      list_all-append held (rotate_lines v (rotating_pair plan v access)) (access_line (rotated v (rotating_pair plan v access)) access ∷ [])
      ∙ and_from (list_all held (rotate_lines v (rotating_pair plan v access)))
      (list_all held (access_line (rotated v (rotating_pair plan v access)) access ∷ []))
      (rotate-held v (rotating_pair plan v access))
      (and_from (held (access_line (rotated v (rotating_pair plan v access)) access)) true
      (rw granted (bool_same (holds cfg f.shared.owners a.program.home.0 access.at access.size access.kind))) refl)
    where
      bool_same : (x : Bool) → cond x x (not x) ≡ true
      bool_same true = refl
      bool_same false = refl

-- the lines of an event are granted as held
lines-held : (cfg : Config) (f : Flat) (u : UnitState) (c : Choice) → IsSound cfg → IsWorldReady cfg f u →
    list_all (is_granted_as_held cfg f (actor_at cfg f c)) (unit_lines cfg f u c) ≡ true
unfolding unit_lines
lines-held cfg f u c sound ready = by_actor (actor_at cfg f c) refl
  where
    by_actor : (a : Option Actor) → actor_at cfg f c ≡ a → list_all (is_granted_as_held cfg f a) (lines_of_actor cfg f u c a) ≡ true
    by_actor None none = refl
    by_actor (Some a) acting =
        let held : UnitLine → Bool = is_granted_as_held cfg f (Some a) in
        let first : List UnitLine = switch_lines u a.program.home in
        let second : List UnitLine =
        access_lines (plan_of cfg f.shared.owners a.program.home.0 a.part) (entered cfg a.part u a.program.home) (touch_of cfg f c) in
        let third : List UnitLine = flush_lines (empties_slots cfg f c) in
        list_all-append held (first ++ second) third
        ∙ and_from (list_all held (first ++ second)) (list_all held third)
        (list_all-append held first second
        ∙ and_from (list_all held first) (list_all held second) (switch-held cfg f a u a.program.home)
        (access-held cfg f a u c (touch_of cfg f c) sound ready acting refl))
        (flush-held cfg f a (empties_slots cfg f c))

-- ---- whole logs

flat-next : (cfg : Config) (w : World) (c : Choice) → (world_after cfg w c).flat ≡ state_after cfg w.flat c
unfolding world_after
flat-next cfg w c = refl

trace-held : (cfg : Config) (w : World) (cs : List Choice) → IsSound cfg → IsWorldReady cfg w.flat w.unit →
    are_granted_as_held cfg w.flat (events_of (trace_of cfg w cs)) ≡ true
trace-held cfg w [] sound ready = refl
trace-held cfg w (c ∷ cs) sound ready =
    ap (are_granted_as_held cfg w.flat) (events_of-event cfg w c (trace_of cfg (world_after cfg w c) cs))
    ∙ and_from (list_all (is_granted_as_held cfg w.flat (actor_at cfg w.flat c)) (unit_lines cfg w.flat w.unit c))
    (are_granted_as_held cfg (state_after cfg w.flat c) (events_of (trace_of cfg (world_after cfg w c) cs)))
    (lines-held cfg w.flat w.unit c sound ready)
    (ap (λ f. are_granted_as_held cfg f (events_of (trace_of cfg (world_after cfg w c) cs))) (sym (flat-next cfg w c))
    ∙ trace-held cfg (world_after cfg w c) cs sound (ready-world cfg w c ready))

-- the accesses of a legal log are granted exactly where the acting box holds them
pub legal-held : (cfg : Config) (log : Log) → IsSound cfg → IsLegal cfg log →
    are_granted_as_held cfg (opening_state cfg) (events_of log.items) ≡ true
unfolding log_of_choices
legal-held cfg log sound legal =
    let cs : List Choice = choices_of log.items in
    let woven : log.items ≡ trace_of cfg (opening_world cfg) cs =
    ap (λ (l : Log). l.items) (legal-one_log cfg log legal) ∙ sym (trace_of-woven cfg (opening_world cfg) cs) in
    ap (λ items. are_granted_as_held cfg (opening_state cfg) (events_of items)) woven
    ∙ trace-held cfg (opening_world cfg) cs sound (IsWorldReady-opening cfg)
