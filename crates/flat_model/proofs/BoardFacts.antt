-- A board without a fault keeps each rule, and the other way round.
use Rattle.std.proofs.Common.{◌≡◌, Bool, true, false, Option, None, refl}
use Rattle.std.specs.Option.{option_or}
use Rattle.flat_model.specs.declared.boards.Board.{Board}
use Rattle.flat_model.specs.declared.refusals.Key.{Key}
use Rattle.flat_model.specs.declared.refusals.Key.TheVariants as key
use Rattle.flat_model.specs.BoardRules.{KeepsBoardRules, are_peripherals, are_words, board_fault, is_flash, is_heap, is_secret, is_sram, unless_kept}

-- where nothing is the first fault, this rule is kept and there is none behind it
pub kept_here : (kept : Bool) (k : Key) (others : Option Key) → option_or (unless_kept kept k) others ≡ None → (kept ≡ true) × (others ≡ None)
kept_here true k others none = (refl, none)
kept_here false k others none = absurd (cc)

kept_last : (kept : Bool) (k : Key) → unless_kept kept k ≡ None → kept ≡ true
kept_last true k none = refl
kept_last false k none = absurd (cc)

-- a board without a fault keeps each rule
pub rules_from_fault : (board : Board) → board_fault board ≡ None → KeepsBoardRules board
unfolding board_fault
rules_from_fault board none =
    let flash = kept_here (is_flash board.flash) key.Flash _ none in
    let sram = kept_here (is_sram board.flash board.sram) key.Sram _ flash.1 in
    let peripherals = kept_here (are_peripherals board.flash board.sram board.peripherals) key.Peripherals _ sram.1 in
    let secret = kept_here (is_secret board.flash board.secret) key.Secret _ peripherals.1 in
    let words = kept_here (are_words board.flash board.peripherals board.words) key.Words _ secret.1 in
    record {
      flash = flash.0;
      sram = sram.0;
      peripherals = peripherals.0;
      secret = secret.0;
      words = words.0;
      heap = kept_last (is_heap board.sram board.heap) key.Heap words.1;
    }

-- a board that keeps each rule has no fault
pub fault_from_rules : (board : Board) → KeepsBoardRules board → board_fault board ≡ None
unfolding board_fault
fault_from_rules board rules = rw (rules.flash, rules.sram, rules.peripherals, rules.secret, rules.words, rules.heap) refl
