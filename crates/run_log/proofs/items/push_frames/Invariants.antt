use Rattle.std.proofs.Common.{◌≡◌, ◌+◌, ◌*◌, ◌≤◌, ◌++◌, length, drop}
use Rattle.std.specs.Prelude.{map}
use Rattle.std.specs.Fmt.{decimal}
use Rattle.run_log.specs.Spaced.{spaced}
use Rattle.run_log.proofs.items.push_frames.Given as goal

abbrev pub invariant-loop-n : goal.invariant-loop-n
invariant-loop-n l = record {
  text : l.page ++ spaced (map decimal (drop l.n-index l.numbers)) ≡ l.fn.page ++ spaced (map decimal l.numbers);
  long : length l.page ≤ length l.fn.page + 11 * l.n-index;
}
