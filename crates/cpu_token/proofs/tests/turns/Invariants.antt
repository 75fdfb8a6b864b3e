use Rattle.std.proofs.Common.{◌≡◌, ◌+◌, ◌≤◌, length}
use Rattle.cpu_token.proofs.tests.turns.Given as goal

abbrev pub invariant-loop : goal.invariant-loop
invariant-loop l = record {
  of : l.pass.token ≡ l.initial.pass.token;
  number : l.pass.number ≡ l.initial.pass.number;
  more : length l.pass.entries ≡ length l.initial.pass.entries + l.made;
  few : l.made ≤ 5000;
}
