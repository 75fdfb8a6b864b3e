use Rattle.std.proofs.Common.{◌≡◌, map, Option, None, sym, subst, ◌∙◌, refl}
use Rattle.std.proofs.lemmas.Result.{IfOk-at_ok, err_from_is_err_and}
use Rattle.flat_model.specs.Sound.{IsSound}
use Rattle.flat_model.specs.declared.refusals.Refused.{Refused}
use Rattle.acl_resolver.specs.Resolve.{IsDue, configuration_of, parts_of, refusal_of}
use Rattle.acl_resolver.proofs.Due.{AreSame, later_cause, made_whole, naming_cause, placing_cause, resolved}
use Rattle.acl_resolver.proofs.Soundness.{configuration_sound}
use Rattle.acl_resolver.proofs.resolve_texts.Goals as goal

pub returns-in_err-unless_refused-clause-err : goal.returns-in_err-unless_refused-clause-err
returns-in_err-unless_refused-clause-err c =
    let p = err_from_is_err_and c.from_residual.result c.from_residual.ensures.1 in
    let due = subst (λ (o : Option Refused). IsDue o c.in_err-unless_refused.field-0.0) c.placing_refusal.ensures c.in_err-unless_refused.ensures.err in
    rw (p.1, p.2) (placing_cause c.args.board c.args.boxes.items c.as_slice-texts.result.now c.args.gates c.args.devices.items
    (map (λ text. text.now) c.args.script.now) _ c.as_slice-texts.ensures.value due)

pub returns-in_err-unless_refused-2-clause-err : goal.returns-in_err-unless_refused-2-clause-err
returns-in_err-unless_refused-2-clause-err c =
    let p = err_from_is_err_and c.from_residual-in_err-unless_refused-2.result c.from_residual-in_err-unless_refused-2.ensures.1 in
    let due = subst (λ (o : Option Refused). IsDue o c.in_err-unless_refused-2.field-0.0) c.naming_refusal.ensures c.in_err-unless_refused-2.ensures.err in
    rw (p.1, p.2) (naming_cause c.args.board c.args.boxes.items c.as_slice-texts.result.now c.args.gates c.args.devices.items
    (map (λ text. text.now) c.args.script.now) _ c.as_slice-texts.ensures.value (sym c.placing_refusal.ensures ∙ c.in_ok-unless_refused.ensures.none) due)

pub returns-in_err-made-clause-err : goal.returns-in_err-made-clause-err
returns-in_err-made-clause-err c =
    let p = err_from_is_err_and c.from_residual-in_err-made.result c.from_residual-in_err-made.ensures.1 in
    let same : AreSame c.args.boxes.items c.as_slice-texts.result.now c.args.devices.items c.as_slice.result.now
    (map (λ text. text.now) c.args.script.now) (map (λ text. text.now) c.args.script.now) = record {
      same_boxes = c.as_slice-texts.ensures.value;
      same_devices = c.as_slice.ensures.value;
      same_script = refl;
    } in
    rw (p.1, p.2) (later_cause c.args.board c.args.boxes.items c.as_slice-texts.result.now c.args.gates c.args.devices.items c.as_slice.result.now
    (map (λ text. text.now) c.args.script.now) (map (λ text. text.now) c.args.script.now) _ same
    (sym c.placing_refusal.ensures ∙ c.in_ok-unless_refused.ensures.none)
    (sym c.naming_refusal.ensures ∙ c.in_ok-unless_refused-2.ensures.none) c.in_err-made.ensures.err)

-- nothing is refused, and what was made is the configuration
whole : (c : goal.After-drop-boxes-2)
    → (refusal_of (parts_of c.args.board c.args.boxes.items c.args.gates c.args.devices.items (map (λ text. text.now) c.args.script.now)) ≡ None)
    × (configuration_of (parts_of c.args.board c.args.boxes.items c.args.gates c.args.devices.items (map (λ text. text.now) c.args.script.now))
    ≡ record {
      version = 1;
      board = c.args.board;
      boxes = c.from_vec.result;
      threads = c.from_vec-2.result;
      registers = c.from_vec-3.result;
      gateways = c.from_vec-4.result;
      devices = c.from_vec-5.result;
      script = c.from_vec-6.result;
    })
whole c =
    let texts = c.as_slice-texts.result.now in
    let same : AreSame c.args.boxes.items texts c.args.devices.items c.as_slice.result.now
    (map (λ text. text.now) c.args.script.now) (map (λ text. text.now) c.args.script.now) = record {
      same_boxes = c.as_slice-texts.ensures.value;
      same_devices = c.as_slice.ensures.value;
      same_script = refl;
    } in
    made_whole c.args.board c.args.boxes.items texts c.args.gates c.args.devices.items c.as_slice.result.now
    (map (λ text. text.now) c.args.script.now) (map (λ text. text.now) c.args.script.now) c.as_slice-2.result.now c.as_slice-3.result.now _ same
    c.as_slice-2.ensures c.as_slice-3.ensures
    (sym c.placing_refusal.ensures ∙ c.in_ok-unless_refused.ensures.none)
    (sym c.naming_refusal.ensures ∙ c.in_ok-unless_refused-2.ensures.none)
    c.in_ok-made.ensures.none
    refl refl
    (c.from_vec.ensures ∙ IfOk-at_ok _ c.in_ok-parts.ensures.ok c.box_parts.ensures)
    (c.from_vec-2.ensures ∙ c.in_ok-made.ensures.threads)
    (c.from_vec-3.ensures ∙ IfOk-at_ok _ c.in_ok-registers.ensures.ok c.register_gates.ensures)
    (c.from_vec-4.ensures ∙ IfOk-at_ok _ c.in_ok-gateways.ensures.ok c.call_gates.ensures)
    c.from_vec-5.ensures
    (c.from_vec-6.ensures ∙ c.in_ok-made.ensures.script)

pub returns-clause-ok : goal.returns-clause-ok
returns-clause-ok c = resolved _ _ (whole c)

pub returns-clause-sound : goal.returns-clause-sound
returns-clause-sound c =
    let made = whole c in
    subst IsSound made.1 (configuration_sound _ c.requires made.0)
