use Rattle.std.proofs.Common.{append_assoc}
use Rattle.uvisor_run.proofs.refusal_text.push_bad_program.Goals as goal

pub returns-clause-text : goal.returns-clause-text
returns-clause-text c =
    rw (c.push_numbered.ensures.text, c.push_place.ensures.text, c.push_word.ensures.text) (simp append_assoc)
