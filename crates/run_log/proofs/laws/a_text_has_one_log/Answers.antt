use Rattle.run_log.proofs.StopLemmas.{text_unique}
use Rattle.run_log.proofs.laws.a_text_has_one_log.Goals as goal

pub returns : goal.returns
returns c = text_unique
