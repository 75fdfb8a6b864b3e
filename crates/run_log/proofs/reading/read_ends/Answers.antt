use Rattle.std.proofs.Common.{◌∷◌, [], ap, length, length-append, arith}
use Rattle.run_log.proofs.LoopLemmas.{ends_more}
use Rattle.run_log.proofs.reading.read_ends.Goals as goal

pub ends-preserved : goal.ends-preserved
ends-preserved c = record {
  read = rw c.in_ok-push-in-Some.ensures.ok (ends_more c.args.config.now c.args.bytes.now c.ends.ends.items c.ends.rest.now c.ends.t c.in-Some.end c.in-Some.after.now c.ends.invariant.read
      c.ends.invariant.count (rw (c.in-Some.end-is, c.in-Some.after-is) c.in-Some.ensures.found));
  count = omega (arith, ap length c.in_ok-push-in-Some.ensures.ok, length-append c.ends.ends.items (c.in-Some.end ∷ []), c.ends.invariant.count);
}
