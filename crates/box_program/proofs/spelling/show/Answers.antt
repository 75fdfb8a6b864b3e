use Rattle.std.proofs.Common.{◌≡◌, rules}
use Rattle.box_program.specs.Shown.{text_of_parts, text_of_instruction}
use Rattle.box_program.proofs.ReadBack.{program_of_shown}
use Rattle.box_program.proofs.spelling.show.Goals as goal

pub returns-clause-read : goal.returns-clause-read
unfolding text_of_parts text_of_instruction
returns-clause-read c =
    let text : c.show_operand-3.new.out.bytes ≡ text_of_instruction c.args.instr.now = search rules in
    rw text (program_of_shown c.args.instr.now c.requires.valid)
