use Rattle.std.proofs.Common.{◌≡◌, ◌≤◌, length, map, take, vec_capacity}
use Rattle.flat_model.specs.Run.{end_of_thread}
use Rattle.machine_core.proofs.machine.write_ends.Given as goal

abbrev pub invariant-loop-thread : goal.invariant-loop-thread
invariant-loop-thread l = record {
  written : l.ends.items ≡ map end_of_thread (take l.thread-index l.threads);
  room : length l.threads ≤ vec_capacity l.ends;
}
