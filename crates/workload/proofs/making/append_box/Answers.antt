use Rattle.std.proofs.lemmas.Result.{on_ok_weaker}
use Rattle.workload.proofs.MadeTexts.{box_appended}
use Rattle.workload.proofs.making.append_box.Goals as goal

pub returns-clause-text : goal.returns-clause-text
returns-clause-text c =
    on_ok_weaker c.append_grants.result
    (box_appended c.args.start c.args.here c.args.text.now.items c.append_filled.new.text.items c.append_filled-2.new.text.items c.append_grants.new.text.items
    (rw (c.box_letters-letters.ensures.letters, c.box_lines.ensures) at c.in_ok-append_filled.ensures)
    (rw (c.box_letters-letters.ensures.letters, c.program_lines.ensures) at c.in_ok-append_filled-2.ensures))
    c.append_grants.ensures.text
