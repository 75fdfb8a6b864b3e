-- Own memory is placed as a configuration's is, and ends at or below the limit.
use Rattle.std.proofs.Common.{◌≡◌, ℕ, zero, suc, ◌+◌, ◌-◌, ◌*◌, ◌/◌, ◌%◌, ◌^◌, ◌<◌, ◌≤◌, max, Bool, true, false, cond, List, [], ◌∷◌, Option, Some, None, refl, sym, inl, inr, arith, find}
use Rattle.std.specs.Prelude.{nat_lt, unwrap_or}
use Rattle.std.proofs.lemmas.Bool.{cases_lt, ltb-false}
use Rattle.std.proofs.Math.Nat.{div-add-mod, mul-mod_left}
use Rattle.addr_base.specs.declared.ranges.Range.{Range}
use Rattle.addr_base.specs.Powers.{IsPowerOfTwo, powers_down, powers_from, round_down, round_up}
use Rattle.addr_base.specs.Range.{ADDRESS_END, end_of}
use Rattle.flat_model.specs.declared.boards.Board.{Board}
use Rattle.flat_model.specs.declared.boards.HeapPart.{HeapPart}
use Rattle.flat_model.specs.declared.boards.Word.{Word}
use Rattle.flat_model.specs.declared.texts.BoxText.{BoxText}
use Rattle.flat_model.specs.First.{number}
use Rattle.flat_model.specs.Placing.{ArePlaced, IsOwnAfter, limit_of, placed_end}
use Rattle.flat_model.specs.Sound.{IsBoard, IsHeap}
use Rattle.acl_resolver.specs.Refusals.{multiple_from, no_room, own_after, own_end, own_len}
use Rattle.acl_resolver.specs.Resolve.{box_parts}
use Rattle.acl_resolver.proofs.Unrefused.{one_of}

-- a power of two of at least 32
pub record IsLargePower (power : ℕ) : Type 0 where
  pub exponent : ℕ
  pub large : 5 ≤ exponent
  pub same : power ≡ 2 ^ exponent

found_up : (test : ℕ → Bool) (k count p : ℕ) → 5 ≤ k → find test (powers_from k count) ≡ Some p → IsLargePower p
unfolding powers_from
found_up test k zero p low h = cc
found_up test k (suc count) p low h = elim (one_of (test (2 ^ k)) (2 ^ k) p (find test (powers_from (suc k) count)) h) [
  | inl here ↦ record { exponent = k; large = low; same = sym here.1 }
  | inr rest ↦ found_up test (suc k) count p (omega arith) rest.1
]

found_down : (test : ℕ → Bool) (k count p : ℕ) → 5 ≤ k → find test (powers_down k count) ≡ Some p → IsLargePower p
unfolding powers_down
found_down test k zero p low h = cc
found_down test k (suc count) p low h = elim (one_of (test (2 ^ (k + count))) (2 ^ (k + count)) p (find test (powers_down k count)) h) [
  | inl here ↦ record { exponent = k + count; large = omega arith; same = sym here.1 }
  | inr rest ↦ found_down test k count p low rest.1
]

-- a length that is rounded up
pub large_up : (len p : ℕ) → round_up len ≡ Some p → IsLargePower p
unfolding round_up
large_up len p h = found_up _ 5 27 p (omega arith) h

-- a length that is rounded down
pub large_down : (len p : ℕ) → round_down len ≡ Some p → IsLargePower p
unfolding round_down
large_down len p h = found_down _ 5 27 p (omega arith) h

greater_power : (n k : ℕ) → n ≡ 2 ^ k → IsPowerOfTwo (max 256 n)
greater_power n k same = elim (cases_lt 256 n) [
  | inl more ↦ (k, omega (arith, same))
  | inr less ↦ (8, omega arith)
]

rounded_power : (size : ℕ) (o : Option ℕ) → round_up size ≡ o → IsPowerOfTwo (max 256 (unwrap_or o 0))
rounded_power size None h = (8, refl)
rounded_power size (Some p) h = let large = large_up size p h in greater_power p large.exponent large.same

-- the length of own memory is a power of two
pub own_len_power : (size : ℕ) → IsPowerOfTwo (own_len size)
own_len_power size = rounded_power size (round_up size) refl

multiple_near : (len start : ℕ) → 1 ≤ len → (start ≤ multiple_from len start) × (multiple_from len start < start + len)
multiple_near len start some =
    let parts : len * ((start + (len - 1)) / len) + (start + (len - 1)) % len ≡ start + (len - 1) = div-add-mod (start + (len - 1)) len in
    let rest : (start + (len - 1)) % len < len = omega arith in
    (omega arith, omega arith)

multiple_whole : (len start : ℕ) → multiple_from len start % len ≡ 0
multiple_whole len start = mul-mod_left ((start + (len - 1)) / len) len

-- own memory begins at the least multiple of its length that is not below the address
pub placed_after : (start size : ℕ) → IsOwnAfter start (own_after start size)
placed_after start size =
    let enough : 256 ≤ own_len size = omega arith in
    let near = multiple_near (own_len size) start (omega arith) in
    record {
      power = own_len_power size;
      enough = enough;
      aligned = multiple_whole (own_len size) start;
      not_below = near.0;
      least = near.1;
    }

-- the boxes' own memories lie one after another
pub boxes_placed : (board : Board) (start t : ℕ) (boxes : List BoxText) → ArePlaced start (box_parts board start t boxes)
boxes_placed board start t [] = tt
boxes_placed board start t (b ∷ boxes) = (placed_after start b.size, boxes_placed board (end_of (own_after start b.size)) _ boxes)

-- the end of the last own memory
pub boxes_end : (board : Board) (start t : ℕ) (boxes : List BoxText) → placed_end start (box_parts board start t boxes) ≡ own_end start boxes
boxes_end board start t [] = refl
boxes_end board start t (b ∷ boxes) = boxes_end board (end_of (own_after start b.size)) _ boxes

-- there is room for a box and for those behind it
pub record HasRoom (limit end i : ℕ) (boxes : List BoxText) : Type 0 where
  pub within : end ≤ limit
  pub rest : no_room limit end (i + 1) boxes ≡ None

room_by : (limit end i : ℕ) (boxes : List BoxText) (b : Bool) → nat_lt limit end ≡ b
    → cond b (Some (Rattle.flat_model.specs.declared.refusals.Refused.TheVariants.NoRoom (number i))) (no_room limit end (i + 1) boxes) ≡ None → HasRoom limit end i boxes
room_by limit end i boxes true t h = cc
room_by limit end i boxes false t h = record { within = ltb-false limit end t; rest = h }

-- there is room for the first box
pub first_room : (limit start i : ℕ) (b : BoxText) (boxes : List BoxText) → no_room limit start i (b ∷ boxes) ≡ None
    → HasRoom limit (end_of (own_after start b.size)) i boxes
first_room limit start i b boxes h = room_by limit (end_of (own_after start b.size)) i boxes (nat_lt limit (end_of (own_after start b.size))) refl h

-- the last own memory ends at or below the limit
pub within_limit : (limit start i : ℕ) (boxes : List BoxText) → start ≤ limit → no_room limit start i boxes ≡ None → own_end start boxes ≤ limit
within_limit limit start i [] low h = low
within_limit limit start i (b ∷ boxes) low h =
    let room = first_room limit start i b boxes h in
    within_limit limit (end_of (own_after start b.size)) (i + 1) boxes room.within room.rest

-- the limit lies in SRAM, and no address lies behind it
pub record IsLimit (board : Board) : Type 0 where
  pub low : board.sram.base ≤ limit_of board
  pub high : limit_of board ≤ ADDRESS_END

limit_by : (flash sram peripherals : Range) (secret : Option Range) (words : List Word) (heap : Option HeapPart)
    → IsBoard (record { flash = flash; sram = sram; peripherals = peripherals; secret = secret; words = words; heap = heap })
    → IsLimit (record { flash = flash; sram = sram; peripherals = peripherals; secret = secret; words = words; heap = heap })
limit_by flash sram peripherals secret words None is = record { low = omega arith; high = is.sram_bank.ends }
limit_by flash sram peripherals secret words (Some heap) is =
    let inside : IsHeap sram heap = is.heap in
    record { low = inside.low; high = omega (arith, inside.high, is.sram_bank.ends) }

-- the limit of a board that meets its rules
pub board_limit : (board : Board) → IsBoard board → IsLimit board
board_limit board is = limit_by board.flash board.sram board.peripherals board.secret board.words board.heap is
