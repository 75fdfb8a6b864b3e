use Rattle.std.proofs.Common.{ℕ, take, arith, length-take}
use Rattle.io_edge.proofs.Joins.{takes-more, takes_at_most-more}
use Rattle.io_edge.proofs.whole.read_all.Goals as goal

pub returns-then-len-count-clause-too_long : goal.returns-then-len-count-clause-too_long
returns-then-len-count-clause-too_long g c = λ _.
    takes-more c.reads.all.items (take c.in-Bytes.count c.read.new.buf) _ c.reads.invariant.so_far c.in-Bytes.ensures.bytes (omega (arith, length-take {A = ℕ}, c.reads.all.ok.0, c.in-Bytes.ensures.pull.0, c.in-Bytes.ensures.pull.1))

pub returns-in_err-map_err-in-Bytes-clause-others : goal.returns-in_err-map_err-in-Bytes-clause-others
returns-in_err-map_err-in-Bytes-clause-others g c = λ _.
    takes_at_most-more c.reads.all.items (take c.in-Bytes.count c.read.new.buf) _ c.reads.invariant.so_far c.in-Bytes.ensures.bytes (omega (arith, length-take {A = ℕ}))
