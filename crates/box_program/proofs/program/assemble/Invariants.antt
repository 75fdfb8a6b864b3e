use Rattle.std.proofs.Common.{◌≡◌, ◌+◌, min, length, drop}
use Rattle.box_program.specs.Program.{program, instructions, statements}
use Rattle.box_program.specs.Steps.{followed_by}
use Rattle.box_program.specs.Words.{lines}
use Rattle.box_program.proofs.program.assemble.Given as goal

abbrev pub invariant-loop-line : goal.invariant-loop-line
invariant-loop-line l =
    record {
      counted : l.number ≡ min (length l.yielded) 4294967295;
      rest : followed_by l.program.items (instructions (length l.program.items) (statements (length l.yielded + 1) (drop (length l.yielded) (lines l.text)))) ≡ program l.text;
    }
