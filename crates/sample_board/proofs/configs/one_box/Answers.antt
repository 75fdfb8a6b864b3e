use Rattle.std.proofs.Common.{sym, subst}
use Rattle.std.proofs.lemmas.Result.{IfOk-weaker}
use Rattle.flat_model.specs.Sound.{IsSound}
use Rattle.sample_board.proofs.ConfigLemmas.{IsSound-one_box}
use Rattle.sample_board.proofs.configs.one_box.Goals as goal

pub returns-clause-sound : goal.returns-clause-sound
returns-clause-sound c = IfOk-weaker c.box_and_thread.result _ IsSound
    (λ config is. subst IsSound (sym is) IsSound-one_box) c.box_and_thread.ensures
