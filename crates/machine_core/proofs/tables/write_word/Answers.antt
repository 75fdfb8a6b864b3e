use Rattle.std.proofs.Common.{◌^◌, ◌≤◌, arith}
use Rattle.std.proofs.lemmas.Bool.Decides.{nat_tests}
use Rattle.machine_core.proofs.PartLemmas.{past-word}
use Rattle.machine_core.proofs.tables.write_word.Goals as goal

pub returns-else-at : goal.returns-else-at
returns-else-at c =
    let over = c.if-at.false in
    let past : 2 ^ 32 ≤ c.args.at = grind (arith, nat_tests) in
    past-word c.args.banks.now c.args.at c.args.value c.requires past
