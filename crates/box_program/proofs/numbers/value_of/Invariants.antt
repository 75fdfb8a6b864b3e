use Rattle.std.proofs.Common.{◌≡◌, ◌≤◌, min, drop}
use Rattle.std.specs.Char.{is_digit}
use Rattle.std.specs.List.{list_all}
use Rattle.std.specs.Str.Parse.{digits_value_after, digits_value}
use Rattle.box_program.proofs.numbers.value_of.Given as goal

abbrev pub invariant-loop-c : goal.invariant-loop-c
invariant-loop-c l =
    record {
      digits : list_all (λ c. is_digit c l.radix) (drop l.c-index l.digits) ≡ list_all (λ c. is_digit c l.radix) l.digits;
      capped : l.value ≤ 4294967296;
      value : min (digits_value_after l.radix l.value (drop l.c-index l.digits)) 4294967296 ≡ min (digits_value l.radix l.digits) 4294967296;
    }
