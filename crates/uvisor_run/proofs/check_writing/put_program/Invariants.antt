use Rattle.std.proofs.Common.{◌≡◌, ◌++◌, drop}
use Rattle.std.specs.List.{AllByRecursion}
use Rattle.flat_model.specs.Operands.{IsValidInstr}
use Rattle.io_edge.specs.Written.{Wrote}
use Rattle.uvisor_run.specs.CheckText.{program_text}
use Rattle.uvisor_run.proofs.check_writing.put_program.Given as goal

abbrev pub invariant-items : goal.invariant-items
invariant-items g l = record {
  so_far : Wrote (g.K.Sink.written l.fn.sink) (g.K.Sink.written l.sink) (l.fn.page ++ program_text 0 l.fn.program)
      (l.page ++ program_text l.place (drop l.place l.program));
  valid : AllByRecursion IsValidInstr (drop l.place l.program);
  counted : g.K.Sink.faults l.sink ≡ g.K.Sink.faults l.fn.sink;
}
