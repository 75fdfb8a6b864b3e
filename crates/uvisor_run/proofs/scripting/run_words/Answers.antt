use Rattle.std.proofs.Common.{◌≡◌, ◌+◌, ◌<◌, ◌≤◌, length, Some, None, ap, sym, ◌∙◌, subst, arith}
use Rattle.std.specs.List.{slice_get}
use Rattle.flat_model.specs.declared.events.Drive.TheVariants.{Script}
use Rattle.flat_model.specs.declared.parts.Config.{Config}
use Rattle.flat_model.specs.Sound.{IsSound}
use Rattle.flat_model.proofs.Elements.{slice_get_some}
use Rattle.machine_core.specs.View.{MachineView}
use Rattle.uvisor_run.proofs.Scripts.{IsOnScript, script_goes_on, script_word}
use Rattle.uvisor_run.proofs.scripting.run_words.Goals as goal
use Rattle.uvisor_run.proofs.scripting.run_words.Goals.{in-Some, in-None}

-- src/scripting.rt:51:13
pub run_word-requires-clause-word : goal.run_word-requires-clause-word
run_word-requires-clause-word c =
    let at : slice_get c.loop-i.machine.config.script c.loop-i.i ≡ Some c.in-Some.word =
    ap (λ (cfg : Config). slice_get cfg.script c.loop-i.i) (sym c.config.ensures) ∙ sym c.word_at.ensures ∙ c.in-Some.is in
    script_word c.loop-i.machine.config c.loop-i.i c.in-Some.word
    (subst IsSound (sym c.loop-i.invariant.0) c.requires.sound)
    at

-- src/scripting.rt:49:5
pub loop-i-preserved : goal.loop-i-preserved
loop-i-preserved c = elim c.match-word_at.branch [
  | in-Some w ↦
      let at : slice_get c.loop-i.machine.config.script c.loop-i.i ≡ Some w.in-Some.word =
      ap (λ (cfg : Config). slice_get cfg.script c.loop-i.i) (sym c.config.ensures) ∙ sym c.word_at.ensures ∙ w.in-Some.is in
      let new = w.run_word.new.machine in
      let before : c.args.words ≤ c.loop-i.machine.extra + c.loop-i.i = c.loop-i.invariant.2 in
      let used : c.loop-i.machine.extra ≤ new.extra + 1 = w.run_word.ensures.extra in
      subst (λ (v : MachineView). (v.config ≡ c.args.machine.now.config) × (v.drive ≡ Script) × (c.args.words ≤ v.extra + (c.loop-i.i + 1)) × IsOnScript v (c.loop-i.i + 1)) (sym w.machine-is) (
        w.run_word.ensures.config ∙ c.loop-i.invariant.0,
        w.run_word.ensures.drive ∙ c.loop-i.invariant.1,
        omega (arith, before, used),
        script_goes_on c.loop-i.machine new c.loop-i.i w.in-Some.word at w.run_word.ensures.config w.run_word.ensures.items c.loop-i.invariant.3,
      )
  | in-None w ↦
      let none : slice_get c.loop-i.machine.config.script c.loop-i.i ≡ None =
      ap (λ (cfg : Config). slice_get cfg.script c.loop-i.i) (sym c.config.ensures) ∙ sym c.word_at.ensures ∙ w.in-None.is in
      let there = slice_get_some c.loop-i.machine.config.script c.loop-i.i
      (subst (λ (cfg : Config). c.loop-i.i < length cfg.script) (sym c.loop-i.invariant.0)
      (subst (λ n. c.loop-i.i < n) c.requires.fresh.words_is c.loop-i-test.true)) in
      absurd (none_some (sym none ∙ there.1))
]
  where
    none_some : {X : Type 0} {x : X} → None ≡ Some x → ⊥
    none_some same = cc
