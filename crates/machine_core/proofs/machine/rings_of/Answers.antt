use Rattle.std.proofs.Common.{◌≡◌, ℕ, ◌*◌, ◌≤◌, arith}
use Rattle.std.proofs.Math.Nat.{mul-le-mul}
use Rattle.machine_core.proofs.machine.rings_of.Goals as goal

-- so many rings of so few devices
few : (extra devices : ℕ) → extra ≤ 4294967295 → devices ≤ 4 → extra * devices ≤ 17179869180
few extra devices some most = let both : extra * devices ≤ 4294967295 * 4 = mul-le-mul some most in omega arith

pub overflow_mul-result : goal.overflow_mul-result
overflow_mul-result c = let all = few c.args.extra c.args.devices (omega arith) c.requires in omega arith

pub returns-clause-few : goal.returns-clause-few
returns-clause-few c = let all = few c.args.extra c.args.devices (omega arith) c.requires in omega arith
