use Rattle.std.proofs.Common.{◌≡◌, ◌+◌, min, length, refl, ◌∙◌, arith, rules, tests}
use Rattle.std.proofs.lemmas.Iterator.Consumers.{YieldsList-turn, YieldsList-end, YieldsList-at}
use Rattle.std.proofs.lemmas.Iterator.Splits.{YieldsList-from_slice_split}
use Rattle.std.proofs.lemmas.List.{length_push, drop_all}
use Rattle.std.proofs.lemmas.Result.{err_from_is_err_and}
use Rattle.std.specs.Global.{Global}
use Rattle.box_program.specs.Program.{program}
use Rattle.box_program.specs.Words.{is_line_feed, lines}
use Rattle.box_program.proofs.ProgramLemmas.{program_few}
use Rattle.box_program.proofs.StepLemmas.{line_read, not_added, all_read, none_read}
use Rattle.box_program.proofs.program.assemble.Goals as goal

pub loop-line-init : goal.loop-line-init
unfolding program
loop-line-init c = record { counted = refl; rest = rw c.new-program.ensures.items (none_read (program c.args.text.now)) }

pub loop-line-preserved : goal.loop-line-preserved
unfolding lines
loop-line-preserved c =
    let turn = YieldsList-turn
    (YieldsList-at c.into_iter-line-iterator.ensures.into_iter_gives
    (YieldsList-from_slice_split _ is_line_feed c.args.text.now (c.split-line-items.ensures.rest ∙ c.as_bytes.ensures.value) c.split-line-items.ensures.done
    c.split-line-items.ensures.closure (λ x b q k. search (rules, tests))))
    c.loop-line.yielded _ c.loop-line.yielded_by _ _ c.in-Some.line c.in-Some.is c.next.ensures.steps in
    let counted : c.saturating_add-number.result ≡ min (length c.loop-line.yielded + 1) 4294967295 = omega (arith, c.saturating_add-number.ensures, c.loop-line.invariant.counted) in
    let read = rw counted at c.in_ok-push_line.ensures in
    let long = length_push c.loop-line.yielded c.in-Some.line in
    record {
      counted = rw long counted;
      rest = rw long (line_read c.loop-line.program.items _ (lines c.args.text.now) (length c.loop-line.yielded) c.in-Some.line.now _ turn.0 turn.1 c.loop-line.invariant.rest read);
    }

pub returns-in_err-push_line : goal.returns-in_err-push_line
unfolding lines
returns-in_err-push_line c =
    let turn = YieldsList-turn
    (YieldsList-at c.into_iter-line-iterator.ensures.into_iter_gives
    (YieldsList-from_slice_split _ is_line_feed c.args.text.now (c.split-line-items.ensures.rest ∙ c.as_bytes.ensures.value) c.split-line-items.ensures.done
    c.split-line-items.ensures.closure (λ x b q k. search (rules, tests))))
    c.loop-line.yielded _ c.loop-line.yielded_by _ _ c.in-Some.line c.in-Some.is c.next.ensures.steps in
    let counted : c.saturating_add-number.result ≡ min (length c.loop-line.yielded + 1) 4294967295 = omega (arith, c.saturating_add-number.ensures, c.loop-line.invariant.counted) in
    let p = err_from_is_err_and c.from_residual.result c.from_residual.ensures.1 in
    rw (p.1, p.2) (record { exact = not_added Global c.loop-line.program.items c.push_line.new.program.items (lines c.args.text.now) (length c.loop-line.yielded) _ c.in-Some.line.now _ _ turn.0 turn.1 c.loop-line.invariant.rest counted c.in_err-push_line.ensures; valid = tt; few = tt })

pub returns : goal.returns
unfolding lines
returns c =
    let end = YieldsList-end
    (YieldsList-at c.into_iter-line-iterator.ensures.into_iter_gives
    (YieldsList-from_slice_split _ is_line_feed c.args.text.now (c.split-line-items.ensures.rest ∙ c.as_bytes.ensures.value) c.split-line-items.ensures.done
    c.split-line-items.ensures.closure (λ x b q k. search (rules, tests))))
    c.loop-line.yielded _ c.loop-line.yielded_by _ _ c.in-None.is c.next.ensures.steps in
    let none = drop_all (length c.loop-line.yielded) (lines c.args.text.now) (omega (arith, end.1)) in
    let exact = all_read c.loop-line.program.items _ _ _ c.loop-line.invariant.rest none in
    let few = program_few c.args.text.now c.loop-line.program.items exact in
    record { exact = exact; valid = few.valid; few = omega (arith, few.few, c.loop-line.program.ok.0) }
