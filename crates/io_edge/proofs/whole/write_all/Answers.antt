use Rattle.std.proofs.Common.{◌∙◌}
use Rattle.std.proofs.lemmas.List.{take_rest}
use Rattle.io_edge.proofs.Written.{wrote-front}
use Rattle.io_edge.proofs.whole.write_all.Goals as goal

pub writes-preserved : goal.writes-preserved
writes-preserved g c = record {
  so_far = rw (take_rest c.writes.rest.now c.in-Bytes.count) (wrote-front c.in-Bytes.count c.writes.rest.now c.writes.invariant.so_far c.in-Bytes.ensures.bytes);
  counted = c.in-Bytes.ensures.counted ∙ c.writes.invariant.counted;
}
