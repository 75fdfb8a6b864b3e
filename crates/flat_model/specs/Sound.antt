-- A sound configuration: what every accepted input gives, and every run stands on.
use Rattle.std.specs.Prelude.{◌≡◌, ℕ, ◌+◌, ◌*◌, ◌%◌, ◌<◌, ◌≤◌, Bool, true, false, ◌||◌, ◌⊎◌, nat_eq, IfSome, List, [], ◌∷◌, ◌++◌, map, length, replicate, sum_by, count_by}
use Rattle.std.specs.Int.{IsPowerOfTwo}
use Rattle.std.specs.List.{AllByRecursion, flat_map, list_any}
use Rattle.addr_base.specs.declared.identity.BoxId.{BoxId}
use Rattle.addr_base.specs.declared.ranges.Range.{Range}
use Rattle.addr_base.specs.declared.rights.Rights.{Rights}
use Rattle.addr_base.specs.Range.{ADDRESS_END, end_of, in_range, holds_bytes}
use Rattle.addr_base.specs.Rights.{all_rights, read_execute, read_only, read_write}
use Rattle.flat_model.specs.declared.boards.Board.{Board}
use Rattle.flat_model.specs.declared.boards.HeapPart.{HeapPart}
use Rattle.flat_model.specs.declared.boards.Word.{Word}
use Rattle.flat_model.specs.declared.parts.BoxPart.{BoxPart}
use Rattle.flat_model.specs.declared.parts.Config.{Config}
use Rattle.flat_model.specs.declared.parts.Item.{Item}
use Rattle.flat_model.specs.declared.parts.RegGate.{RegGate}
use Rattle.flat_model.specs.declared.parts.ScriptWord.{ScriptWord}
use Rattle.flat_model.specs.declared.parts.ScriptWord.TheVariants as word
use Rattle.flat_model.specs.declared.parts.ThreadPart.{ThreadPart}
use Rattle.flat_model.specs.Items.{items_of}
use Rattle.flat_model.specs.Names.{AreDistinctNames, is_name}
use Rattle.flat_model.specs.Operands.{IsValidInstr}
use Rattle.flat_model.specs.Placing.{ArePlaced, common_range, limit_of, placed_end}
use Rattle.flat_model.specs.Want.{is_owned_line}

-- no number stands in the list twice
abbrev pub AreDistinct : List ℕ → Type 0
AreDistinct [] = Unit {0}
AreDistinct (x ∷ xs) = (list_any (λ y. nat_eq x y) xs ≡ false) × AreDistinct xs

-- no address is in both ranges
abbrev pub AreApart : Range → Range → Type 0
AreApart first second = (a : ℕ) → in_range first a ≡ true → in_range second a ≡ false

-- every address of the first range is in the second
abbrev pub IsInside : Range → Range → Type 0
IsInside inner outer = (outer.base ≤ inner.base) × (end_of inner ≤ end_of outer)

-- a range whose length is a power of two of at least 32, and divides its base
pub record IsPowerRange (range : Range) : Type 0 where
  pub power : IsPowerOfTwo range.len
  pub enough : 32 ≤ range.len
  pub aligned : range.base % range.len ≡ 0

-- a range that has at least 32 bytes, and whose base and length are multiples of 32
pub record IsTiledRange (range : Range) : Type 0 where
  pub enough : 32 ≤ range.len
  pub base : range.base % 32 ≡ 0
  pub len : range.len % 32 ≡ 0

-- a bank of at most 1 MiB that ends where addresses end
pub record IsBank (range : Range) : Type 0 where
  pub within : range.len ≤ 1048576
  pub ends : end_of range ≤ ADDRESS_END

-- a word that lies in flash or in the peripherals, at a multiple of 4
pub record IsBoardWord (board : Board) (w : Word) : Type 0 where
  pub aligned : w.at % 4 ≡ 0
  pub placed : (holds_bytes board.flash w.at 4 || holds_bytes board.peripherals w.at 4) ≡ true

-- a heap that lies in SRAM: 8 to 256 pages, a multiple of 8, each a power of two from 32 to 65,536 bytes
pub record IsHeap (sram : Range) (heap : HeapPart) : Type 0 where
  pub power : IsPowerOfTwo heap.page
  pub least_page : 32 ≤ heap.page
  pub greatest_page : heap.page ≤ 65536
  pub eights : heap.count % 8 ≡ 0
  pub least_count : 8 ≤ heap.count
  pub greatest_count : heap.count ≤ 256
  pub aligned : heap.base % (8 * heap.page) ≡ 0
  pub low : sram.base ≤ heap.base
  pub high : heap.base + heap.count * heap.page ≤ end_of sram

-- the board meets its rules (docs/INPUT.md)
pub record IsBoard (board : Board) : Type 0 where
  pub flash : IsPowerRange board.flash
  pub flash_bank : IsBank board.flash
  pub sram : IsTiledRange board.sram
  pub sram_bank : IsBank board.sram
  pub sram_apart : AreApart board.sram board.flash
  pub peripherals : IsTiledRange board.peripherals
  pub peripherals_bank : IsBank board.peripherals
  pub peripherals_apart : AreApart board.peripherals board.flash
  pub peripherals_beside : AreApart board.peripherals board.sram
  pub secret : IfSome board.secret (λ secret. IsPowerRange secret × IsInside secret board.flash)
  pub words : AllByRecursion (IsBoardWord board) board.words
  pub words_once : AreDistinct (map (λ w. w.at) board.words)
  pub heap : IfSome board.heap (IsHeap board.sram)

-- the threads of the boxes are numbered from a number on, and each box has one of them as its server
abbrev pub AreNumbered : ℕ → List BoxPart → Type 0
AreNumbered first [] = Unit {0}
AreNumbered first (part ∷ parts) =
    (part.first ≡ first) × (1 ≤ part.threads) × (part.first ≤ part.server.0)
    × (part.server.0 < part.first + part.threads) × AreNumbered (first + part.threads) parts

-- the home of each thread, in order; the first box has the number b
abbrev pub homes_from : ℕ → List BoxPart → List BoxId
homes_from b [] = []
homes_from b (part ∷ parts) = replicate part.threads (record { 0 = b }) ++ homes_from (b + 1) parts

-- one of the four sets of rights that a grant can have
abbrev pub IsGrantRights : Rights → Type 0
IsGrantRights rights = (rights ≡ read_only) ⊎ ((rights ≡ read_write) ⊎ ((rights ≡ read_execute) ⊎ (rights ≡ all_rights)))

-- a rounded grant that lies in the peripherals or in the common part
pub record IsGrant (board : Board) (common : Range) (grant : Item) : Type 0 where
  pub tiled : IsTiledRange grant.range
  pub rights : IsGrantRights grant.rights
  pub placed : IsInside grant.range board.peripherals ⊎ IsInside grant.range common

-- no two of the grants overlap
abbrev pub AreGrantsApart : List Item → Type 0
AreGrantsApart [] = Unit {0}
AreGrantsApart (grant ∷ grants) =
    AllByRecursion (λ other. AreApart grant.range other.range) grants × AreGrantsApart grants

-- a box with its items, its grants and its lines
pub record IsBox (board : Board) (common : Range) (part : BoxPart) : Type 0 where
  pub name : is_name part.name ≡ true
  pub items : part.items ≡ items_of board part
  pub grants : AllByRecursion (IsGrant board common) part.grants
  pub grants_apart : AreGrantsApart part.grants
  pub few_grants : length part.grants ≤ 64
  pub lines : AllByRecursion (λ irq. irq.line.0 < 64) part.irqs

-- a thread with its budget and a program of valid instructions
pub record IsThread (thread : ThreadPart) : Type 0 where
  pub some_step : 1 ≤ thread.steps
  pub few_steps : thread.steps ≤ 100000
  pub short : length thread.program ≤ 256
  pub valid : AllByRecursion IsValidInstr thread.program

-- a register gateway at a word of the peripherals
pub record IsRegisterGate (board : Board) (gate : RegGate) : Type 0 where
  pub aligned : gate.at % 4 ≡ 0
  pub placed : holds_bytes board.peripherals gate.at 4 ≡ true

-- the lines that boxes name, in order
abbrev pub named_lines : Config → List ℕ
named_lines cfg = flat_map (λ part. map (λ irq. irq.line.0) part.irqs) cfg.boxes

-- a script word that names a thread, or a line that a box owns
abbrev pub IsScriptWord : Config → ScriptWord → Type 0
IsScriptWord cfg (word.Thread t) = t.0 < length cfg.threads
IsScriptWord cfg (word.Ring line) = is_owned_line cfg line.0 ≡ true

-- whether the script word is a ring
abbrev pub is_ring_word : ScriptWord → Bool
is_ring_word (word.Thread t) = false
is_ring_word (word.Ring line) = true

-- at most so many of everything (docs/MANUAL.md, "Limits")
pub record IsWithinLimits (cfg : Config) : Type 0 where
  pub some_box : 1 ≤ length cfg.boxes
  pub boxes : length cfg.boxes ≤ 8
  pub threads : length cfg.threads ≤ 16
  pub devices : length cfg.devices ≤ 4
  pub words : length cfg.board.words ≤ 64
  pub registers : length cfg.registers ≤ 32
  pub gateways : length cfg.gateways ≤ 32
  pub steps : sum_by (λ thread. thread.steps) cfg.threads ≤ 250000
  pub script : length cfg.script ≤ 250000
  pub ring_words : count_by is_ring_word cfg.script ≤ 10000
  pub rings : sum_by (λ device. length device.rings) cfg.devices ≤ 10000

-- what every accepted input gives
pub record IsSound (cfg : Config) : Type 0 where
  pub limits : IsWithinLimits cfg
  pub board : IsBoard cfg.board
  pub names_once : AreDistinctNames (map (λ part. part.name) cfg.boxes)
  pub boxes : AllByRecursion (IsBox cfg.board (common_range cfg.board cfg.boxes)) cfg.boxes
  pub numbered : AreNumbered 0 cfg.boxes
  pub homes : map (λ thread. thread.home) cfg.threads ≡ homes_from 0 cfg.boxes
  pub threads : AllByRecursion IsThread cfg.threads
  pub placed : ArePlaced cfg.board.sram.base cfg.boxes
  pub room : placed_end cfg.board.sram.base cfg.boxes ≤ limit_of cfg.board
  pub one_owner : count_by (λ part. part.secret) cfg.boxes ≤ 1
  pub lines_once : AreDistinct (named_lines cfg)
  pub registers : AllByRecursion (IsRegisterGate cfg.board) cfg.registers
  pub gateways : AllByRecursion (λ gate. gate.target.0 < length cfg.boxes) cfg.gateways
  pub devices : AllByRecursion (λ device. AllByRecursion (λ line. is_owned_line cfg line.0 ≡ true) device.rings) cfg.devices
  pub script : AllByRecursion (IsScriptWord cfg) cfg.script
