-- Register gateways: what they read, and what they would write.
use Rattle.std.specs.Prelude.{ℕ, ◌-◌, ◌/◌, ◌%◌, ◌^◌, Bool, nat_eq, Option, Some, None, List, if◌then◌else◌, slice_get, bit_and, bit_or, bit_xor}
use Rattle.std.specs.Option.{option_map}
use Rattle.flat_model.specs.declared.boards.Board.{Board}
use Rattle.flat_model.specs.declared.boards.Word.{Word}
use Rattle.flat_model.specs.declared.parts.Op.{Op}
use Rattle.flat_model.specs.declared.parts.Op.TheVariants as op
use Rattle.flat_model.specs.declared.parts.RegGate.{RegGate}
use Rattle.flat_model.specs.declared.states.Memory.{Memory}
use Rattle.flat_model.specs.Memory.{word_at}

-- whether bit b is set in a set of boxes
abbrev pub has_box : ℕ → ℕ → Bool
has_box boxes b = nat_eq (boxes / 2 ^ b % 2) 1

-- all 32 bits turned
abbrev pub inverted32 : ℕ → ℕ
inverted32 mask = 2 ^ 32 - 1 - mask

-- what a register gateway reads of its word, where it is one that reads
abbrev pub gateway_read : Op → ℕ → ℕ → Option ℕ
gateway_read op.Read word mask = Some word
gateway_read op.ReadAnd word mask = Some (bit_and word mask)
gateway_read op.Write word mask = None
gateway_read op.And word mask = None
gateway_read op.Or word mask = None
gateway_read op.Xor word mask = None
gateway_read op.Replace word mask = None

-- what a register gateway makes of its word and a value, where it is one that writes
abbrev pub gateway_written : Op → ℕ → ℕ → ℕ → Option ℕ
gateway_written op.Read word mask v = None
gateway_written op.ReadAnd word mask v = None
gateway_written op.Write word mask v = Some v
gateway_written op.And word mask v = Some (bit_and word (bit_or v (inverted32 mask)))
gateway_written op.Or word mask v = Some (bit_or word (bit_and v mask))
gateway_written op.Xor word mask v = Some (bit_xor word (bit_and v mask))
gateway_written op.Replace word mask v = Some (bit_or (bit_and word (inverted32 mask)) (bit_and v mask))

-- the register gateway, where the box with this number may use it
abbrev pub register_for : ℕ → Option RegGate → Option RegGate
register_for b None = None
register_for b (Some gate) = if has_box gate.boxes b then Some gate else None

-- what a gateway reads, if it is one that reads
abbrev pub read_by : Board → Memory → Option RegGate → Option ℕ
read_by board memory None = None
read_by board memory (Some gate) = gateway_read gate.op (word_at board memory gate.at 4) gate.mask

-- the word that a gateway writes with a value, if it is one that writes
abbrev pub written_by : Board → Memory → ℕ → Option RegGate → Option Word
written_by board memory v None = None
written_by board memory v (Some gate) =
    option_map (λ word. record { at = gate.at; value = word }) (gateway_written gate.op (word_at board memory gate.at 4) gate.mask v)

-- what the box with this number reads by register gateway n, if it may
abbrev pub register_read : List RegGate → Board → Memory → ℕ → ℕ → Option ℕ
register_read gates board memory b n = read_by board memory (register_for b (slice_get gates n))

-- the word that the box with this number writes with a value by register gateway n, if it may
abbrev pub register_write : List RegGate → Board → Memory → ℕ → ℕ → ℕ → Option Word
register_write gates board memory b n v = written_by board memory v (register_for b (slice_get gates n))
