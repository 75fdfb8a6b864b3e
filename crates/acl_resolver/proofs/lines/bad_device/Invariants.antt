use Rattle.std.proofs.Common.{◌≡◌, drop}
use Rattle.acl_resolver.specs.Refusals.{first_numbered}
use Rattle.acl_resolver.specs.Naming.{bad_device_at}
use Rattle.acl_resolver.proofs.lines.bad_device.Given as goal

abbrev pub invariant-loop-d : goal.invariant-loop-d
invariant-loop-d l = first_numbered (bad_device_at l.boxes) l.d (drop l.d l.devices) ≡ first_numbered (bad_device_at l.boxes) 0 l.devices
