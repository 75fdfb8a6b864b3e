use Rattle.std.specs.Prelude.{codes, map}
use Rattle.flat_model.specs.Text.{end_line, hex_word, mode_text}
use Rattle.run_log.proofs.SpacedLemmas.{four_pushed}
use Rattle.run_log.proofs.items.push_end_words.Goals as goal

pub returns-clause-text : goal.returns-clause-text
unfolding end_line
returns-clause-text c =
    four_pushed _ _ _ _ _ _ _ _ (codes "thread") _ (mode_text c.args.end.now.mode) _ (map hex_word c.args.end.now.regs) c.push_word.ensures.text c.push_thread.ensures.text c.push_byte.ensures.text
    (rw (c.as_bytes.ensures.value, c.mode_text.ensures.text) at c.push_bytes.ensures.text) c.push_byte-2.ensures.text c.push_decimal.ensures.text c.push_hex_words.ensures.text
