use Rattle.std.proofs.Common.{◌≡◌, take}
use Rattle.rpc_gateway.specs.Kept.{servers_of}
use Rattle.rpc_gateway.proofs.directory.servers_of_boxes.Given as goal

abbrev pub invariant-loop-part : goal.invariant-loop-part
invariant-loop-part l = l.servers.items ≡ servers_of (take l.part-index l.boxes)
