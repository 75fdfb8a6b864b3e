-- What a set of rights allows.
use Rattle.std.specs.Prelude.{Bool, ◌==◌}
use Rattle.std.specs.Int.RustNames.{bit_and}
use Rattle.addr_base.specs.declared.rights.Kind.{Kind}
use Rattle.addr_base.specs.declared.rights.Kind.TheVariants.{Read, Write, Fetch}
use Rattle.addr_base.specs.declared.rights.Rights.{Rights}

-- the set of no other right than to read
abbrev pub read_only : Rights
read_only = record { bits = 1 }

-- the set of the rights to read and to write
abbrev pub read_write : Rights
read_write = record { bits = 3 }

-- the set of the rights to read and to execute
abbrev pub read_execute : Rights
read_execute = record { bits = 5 }

-- the set of all three rights
abbrev pub all_rights : Rights
all_rights = record { bits = 7 }

-- whether the set has the right to read
abbrev pub may_read : Rights → Bool
may_read rights = bit_and rights.bits 1 == 1

-- whether the set has the right to write
abbrev pub may_write : Rights → Bool
may_write rights = bit_and rights.bits 2 == 2

-- whether the set has the right to execute
abbrev pub may_execute : Rights → Bool
may_execute rights = bit_and rights.bits 4 == 4

-- whether the set gives this kind of access
abbrev pub gives : Rights → Kind → Bool
gives rights Read = may_read rights
gives rights Write = may_write rights
gives rights Fetch = may_execute rights
