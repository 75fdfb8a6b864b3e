-- How long the words of refusals are.
use Rattle.std.proofs.Common.{◌≤◌, length, lit≤}
use Rattle.board_map.specs.Keys.{key_name}
use Rattle.flat_model.specs.declared.refusals.Key.{Key}
use Rattle.flat_model.specs.declared.refusals.Key.TheVariants as key

-- a key has at most 16 bytes
pub key_name_short : (k : Key) → length (key_name k) ≤ 16
unfolding key_name
key_name_short key.Format = lit≤ tt
key_name_short key.Board = lit≤ tt
key_name_short key.AtBox = lit≤ tt
key_name_short key.Register = lit≤ tt
key_name_short key.Gateway = lit≤ tt
key_name_short key.Device = lit≤ tt
key_name_short key.Script = lit≤ tt
key_name_short key.Flash = lit≤ tt
key_name_short key.Sram = lit≤ tt
key_name_short key.Peripherals = lit≤ tt
key_name_short key.Secret = lit≤ tt
key_name_short key.Words = lit≤ tt
key_name_short key.Heap = lit≤ tt
key_name_short key.Base = lit≤ tt
key_name_short key.Page = lit≤ tt
key_name_short key.Count = lit≤ tt
key_name_short key.Name = lit≤ tt
key_name_short key.Size = lit≤ tt
key_name_short key.Server = lit≤ tt
key_name_short key.Thread = lit≤ tt
key_name_short key.Grant = lit≤ tt
key_name_short key.Irq = lit≤ tt
key_name_short key.Program = lit≤ tt
key_name_short key.Steps = lit≤ tt
key_name_short key.Len = lit≤ tt
key_name_short key.Rights = lit≤ tt
key_name_short key.Round = lit≤ tt
key_name_short key.Shared = lit≤ tt
key_name_short key.Line = lit≤ tt
key_name_short key.Handler = lit≤ tt
key_name_short key.At = lit≤ tt
key_name_short key.Op = lit≤ tt
key_name_short key.Mask = lit≤ tt
key_name_short key.Boxes = lit≤ tt
key_name_short key.Function = lit≤ tt
key_name_short key.Callers = lit≤ tt
key_name_short key.Rings = lit≤ tt
