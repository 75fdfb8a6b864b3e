use Rattle.std.proofs.Common.{◌+◌, ◌-◌, sym, ap, ◌∙◌}
use Rattle.flat_model.specs.Cells.{zero_cells}
use Rattle.flat_model.specs.Memory.{put_byte, put_cells}
use Rattle.phys_memory.specs.Banks.{BanksView}
use Rattle.phys_memory.proofs.BankLemmas.{zeros-first}
use Rattle.phys_memory.proofs.banks.Banks.zero_across.Goals as goal

pub loop-a-preserved : goal.loop-a-preserved
loop-a-preserved c = record {
  same = ap (λ (b : BanksView). b.board) c.put_byte.ensures ∙ c.loop-a.invariant.same;
  left = c.loop-a.invariant.left
      ∙ zeros-first c.args.self.now.board c.loop-a.self.memory c.loop-a.a c.args.to c.loop-a-test.true
      ∙ ap (λ board. put_cells c.args.self.now.board (put_byte board c.loop-a.self.memory (record { at = c.loop-a.a; value = 0 })) (zero_cells (c.loop-a.a + 1) (c.args.to - (c.loop-a.a + 1)))) (sym c.loop-a.invariant.same)
      ∙ ap (λ (b : BanksView). put_cells c.args.self.now.board b.memory (zero_cells (c.loop-a.a + 1) (c.args.to - (c.loop-a.a + 1)))) (sym c.put_byte.ensures);
}
