use Rattle.std.proofs.Common.{◌≡◌, ◌+◌, ◌∙◌}
use Rattle.workload.specs.Generator.{state_after}
use Rattle.workload.specs.MadeInput.{words_text}
use Rattle.workload.proofs.MadeTexts.{appended_on, nothing_yet, state_more, state_none, words_text-more, words_text-none}
use Rattle.workload.proofs.making.append_words.Goals as goal

pub words-init : goal.words-init
words-init c = record {
  state = state_none c.args.start;
  text = nothing_yet c.args.text.now.items (words_text c.args.start 0) (words_text-none c.args.start);
}

pub words-preserved : goal.words-preserved
words-preserved c =
    let drawn : c.next_state-x.result ≡ state_after c.args.start (c.words.word + 1) =
    c.next_state-x.ensures ∙ state_more c.args.start c.words.x c.words.word c.words.invariant.state in
    record {
      state = drawn;
      text = appended_on c.args.text.now.items c.words.text.items c.append_filled.new.text.items (words_text c.args.start c.words.word) _ _
          c.words.invariant.text
          (rw (c.letters_of-letters.ensures.letters, c.word_line.ensures) at c.in_ok-append_filled.ensures)
          (words_text-more c.args.start c.words.word c.next_state-x.result drawn);
    }
