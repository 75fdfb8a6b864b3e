use Rattle.std.proofs.Common.{◌≡◌, ◌≤◌, take, length}
use Rattle.flat_model.specs.Pages as spec
use Rattle.flat_model.proofs.pages.least_free.Given as goal

abbrev pub invariant-loop-frame : goal.invariant-loop-frame
invariant-loop-frame l = record {
  so_far : l.frames ≡ spec.frames_of (spec.free_frames 0 (take l.frame l.owners));
  few : length (spec.free_frames 0 (take l.frame l.owners)) ≤ l.n;
}
