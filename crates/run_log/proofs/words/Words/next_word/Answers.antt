use Rattle.std.proofs.Common.{◌+◌, ap, sym, ◌∙◌, arith}
use Rattle.std.specs.List.{position_or_len}
use Rattle.std.proofs.lemmas.List.{take_rest}
use Rattle.run_log.specs.LineWords.{first_of, is_space, rest_of, words_of}
use Rattle.run_log.proofs.TakenWords.{first_of-last, first_of-more, first_of-none, none_left, rest_of-last, rest_of-more, rest_of-none, some_left}
use Rattle.run_log.proofs.words.Words.next_word.Goals as goal

pub returns-then-not-self-clause-value : goal.returns-then-not-self-clause-value
returns-then-not-self-clause-value c =
    first_of-none ∙ ap first_of (sym (none_left c.self.inside.more c.self.inside.line.now c.args.self.now c.self.view_is c.if-not-self.true))

pub returns-then-not-self-clause-rest : goal.returns-then-not-self-clause-rest
returns-then-not-self-clause-rest c =
    let none = none_left c.self.inside.more c.self.inside.line.now c.args.self.now c.self.view_is c.if-not-self.true in
    none ∙ rest_of-none ∙ ap rest_of (sym none)

pub returns-then-end-line-clause-value : goal.returns-then-end-line-clause-value
returns-then-end-line-clause-value c =
    let line = c.self.inside.line.now in
    sym (first_of-last line (omega (arith, c.word_length-end.ensures, c.if-end-line.true)))
    ∙ ap first_of (sym (some_left c.self.inside.more line c.args.self.now c.self.view_is c.if-not-self.false))

pub returns-then-end-line-clause-rest : goal.returns-then-end-line-clause-rest
returns-then-end-line-clause-rest c =
    let line = c.self.inside.line.now in
    sym (rest_of-last line (omega (arith, c.word_length-end.ensures, c.if-end-line.true)))
    ∙ ap rest_of (sym (some_left c.self.inside.more line c.args.self.now c.self.view_is c.if-not-self.false))

pub returns-clause-value : goal.returns-clause-value
returns-clause-value c =
    let line = c.self.inside.line.now in
    let some = some_left c.self.inside.more line c.args.self.now c.self.view_is c.if-not-self.false in
    rw (c.word_length-end.ensures, some)
    (sym (first_of-more line (omega (arith, c.word_length-end.ensures, c.if-end-line.false))))

pub returns-clause-rest : goal.returns-clause-rest
returns-clause-rest c =
    let line = c.self.inside.line.now in
    let some = some_left c.self.inside.more line c.args.self.now c.self.view_is c.if-not-self.false in
    let rest = rest_of-more line (omega (arith, c.word_length-end.ensures, c.if-end-line.false)) in
    rw (c.if-not-self.false, c.word_length-end.ensures, some)
    (ap words_of (take_rest line (position_or_len is_space line + 1)) ∙ sym rest)
