use Rattle.std.proofs.Common.{rules}
use Rattle.flat_model.specs.Sound.{IsThread}
use Rattle.run_log.proofs.Printing.{count_kept, count_rose, printed_failed}
use Rattle.uvisor_run.specs.CheckText.{threads_text}
use Rattle.uvisor_run.proofs.Checking.{all_from_next, at_next, put_on, put_on_part}
use Rattle.uvisor_run.proofs.check_writing.put_threads.Goals as goal

pub items-preserved : goal.items-preserved
items-preserved g c = record {
  so_far = put_on c.items.page c.put_thread.new.page _ _ _
      (at_next (threads_text c.args.name.now c.items.k) c.args.threads.now c.items.k c.index-threads-k.result c.items-test.true c.index-threads-k.is)
      c.items.invariant.so_far c.in_ok-put_thread.ensures.ok;
  threads = all_from_next IsThread c.items.k c.args.threads.now c.items.invariant.threads;
  counted = count_kept c.items.invariant.counted c.in_ok-put_thread.ensures.faults;
}

pub returns-in_err-put_thread : goal.returns-in_err-put_thread
returns-in_err-put_thread g c =
    printed_failed c.from_residual.result (search rules) (put_on_part c.items.page _ _ _
    (at_next (threads_text c.args.name.now c.items.k) c.args.threads.now c.items.k c.index-threads-k.result c.items-test.true c.index-threads-k.is)
    c.items.invariant.so_far c.in_err-put_thread.ensures.err)
    (count_rose c.items.invariant.counted c.in_err-put_thread.ensures.faults)
