use Rattle.std.proofs.Common.{◌∙◌, ◌+◌, drop, map, subst, sym, Option}
use Rattle.std.proofs.lemmas.Result.{err_from_is_err_and}
use Rattle.std.proofs.lemmas.List.{at_drop_more}
use Rattle.flat_model.specs.declared.refusals.Refused.{Refused}
use Rattle.acl_resolver.specs.Naming.{bad_word_at}
use Rattle.acl_resolver.specs.Refusals.{first_numbered}
use Rattle.acl_resolver.specs.Resolve.{IsDue}
use Rattle.acl_resolver.proofs.Due.{due_first}
use Rattle.acl_resolver.proofs.script.script_of.Goals as goal

pub returns-in_err-word-clause-err : goal.returns-in_err-word-clause-err
returns-in_err-word-clause-err c =
    let p = err_from_is_err_and c.from_residual-in_err-word.result c.from_residual-in_err-word.ensures.1 in
    let there = at_drop_more (λ rest. first_numbered (bad_word_at c.args.table.now) c.loop-at.at (map (λ text. text.now) rest)) c.args.script.now c.loop-at.at _ c.loop-at-test.true in
    rw (p.1, p.2) (subst (λ (due : Option Refused). IsDue due c.in_err-word.field-0.0) (sym there ∙ c.loop-at.invariant.due)
    (due_first _ (first_numbered (bad_word_at c.args.table.now) (c.loop-at.at + 1) (map (λ text. text.now) (drop (c.loop-at.at + 1) c.args.script.now))) _ c.in_err-word.ensures.err))
