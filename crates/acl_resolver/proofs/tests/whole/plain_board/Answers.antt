use Rattle.std.proofs.Common.{◌≡◌, List, [], None, refl, sym, subst, ◌∙◌, arith}
use Rattle.flat_model.specs.declared.boards.Word.{Word}
use Rattle.flat_model.specs.Sound.{IsBoard}
use Rattle.acl_resolver.proofs.GrantLemmas.{ranges_apart}
use Rattle.acl_resolver.proofs.tests.whole.plain_board.Goals as goal

without_words : IsBoard (record {
  flash = record { base = 0; len = 1048576 };
  sram = record { base = 536870912; len = 131072 };
  peripherals = record { base = 1073741824; len = 1048576 };
  secret = None;
  words = [];
  heap = None;
})
without_words = record {
  flash = record { power = (20, refl); enough = omega arith; aligned = refl };
  flash_bank = record { within = omega arith; ends = omega arith };
  sram = record { enough = omega arith; base = refl; len = refl };
  sram_bank = record { within = omega arith; ends = omega arith };
  sram_apart = ranges_apart (record { base = 536870912; len = 131072 }) (record { base = 0; len = 1048576 }) refl;
  peripherals = record { enough = omega arith; base = refl; len = refl };
  peripherals_bank = record { within = omega arith; ends = omega arith };
  peripherals_apart = ranges_apart (record { base = 1073741824; len = 1048576 }) (record { base = 0; len = 1048576 }) refl;
  peripherals_beside = ranges_apart (record { base = 1073741824; len = 1048576 }) (record { base = 536870912; len = 131072 }) refl;
  secret = tt;
  words = tt;
  words_once = tt;
  heap = tt;
}

pub returns-clause-good : goal.returns-clause-good
returns-clause-good c =
    let none : c.from_vec.result ≡ [] = c.from_vec.ensures ∙ c.new.ensures.items in
    let P : List Word → Type 0 = λ words. IsBoard (record {
      flash = record { base = 0; len = 1048576 };
      sram = record { base = 536870912; len = 131072 };
      peripherals = record { base = 1073741824; len = 1048576 };
      secret = None;
      words = words;
      heap = None;
    }) in
    subst P (sym none) without_words
