use Rattle.std.proofs.Common.{◌≡◌}
use Rattle.phys_memory.proofs.tests.zero_bytes_begin_and_end_inside_pieces.Given as goal

-- a store leaves the board
abbrev pub invariant-loop-k : goal.invariant-loop-k
invariant-loop-k g l = l.banks.board ≡ l.initial.banks.board
