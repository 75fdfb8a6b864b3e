use Rattle.std.proofs.Common.{◌≡◌, take}
use Rattle.rpc_gateway.specs.Kept.{homes_of}
use Rattle.rpc_gateway.proofs.directory.homes_of_threads.Given as goal

abbrev pub invariant-loop-thread : goal.invariant-loop-thread
invariant-loop-thread l = l.homes.items ≡ homes_of (take l.thread-index l.threads)
