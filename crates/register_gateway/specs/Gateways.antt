-- What a contract sees of the banks once a gateway has written.
use Rattle.std.specs.Prelude.{Option, Some, None}
use Rattle.flat_model.specs.declared.boards.Word.{Word}
use Rattle.flat_model.specs.RegisterRows.{with_gateway_word}
use Rattle.phys_memory.specs.Banks.{BanksView}

-- the banks with the word that a gateway writes, if it writes one
abbrev pub with_written : Option Word → BanksView → BanksView
with_written None banks = banks
with_written (Some word) banks = record banks { memory = with_gateway_word banks.board banks.memory word }
