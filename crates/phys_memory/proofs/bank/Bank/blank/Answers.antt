use Rattle.std.proofs.Common.{◌+◌, ◌-◌, ◌*◌, ◌/◌, ap, ◌∙◌}
use Rattle.phys_memory.specs.Packed.{bytes_of}
use Rattle.phys_memory.proofs.PackedLemmas.{bytes_of-zeros}
use Rattle.phys_memory.proofs.bank.Bank.blank.Goals as goal

pub returns : goal.returns
returns c = ap (bytes_of c.args.len) c.in_ok-words.ensures ∙ bytes_of-zeros c.args.len (8 * ((c.args.len + 32 - 1) / 32))
