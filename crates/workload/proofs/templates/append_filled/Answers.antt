use Rattle.std.proofs.Common.{arith}
use Rattle.workload.proofs.Filling.{filled_more, filled_whole}
use Rattle.workload.proofs.templates.append_filled.Goals as goal

pub bytes-preserved : goal.bytes-preserved
bytes-preserved c =
    filled_more c.args.letters.now c.args.template.now c.bytes.text.items c.append_byte.new.text.items _ c.bytes.byte-index
    c.bytes-test.true c.in_ok-append_byte.ensures c.bytes.invariant

pub returns : goal.returns
returns c =
    filled_whole c.args.letters.now c.args.template.now c.bytes.text.items _ c.bytes.byte-index (omega arith) c.bytes.invariant
