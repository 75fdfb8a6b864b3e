-- What the parts of a firmware meet once the tables of its document and their limits let them through.
use Rattle.std.specs.Prelude.{◌≡◌, ℕ, ◌<◌, ◌≤◌, Bool, true, nat_eq, codes, List, map, length, sum_by, count_by}
use Rattle.std.specs.List.{AllByRecursion, starts_with}
use Rattle.flat_model.specs.declared.parts.DevicePart.{DevicePart}
use Rattle.flat_model.specs.declared.parts.IrqPart.{IrqPart}
use Rattle.flat_model.specs.declared.texts.BoxText.{BoxText}
use Rattle.flat_model.specs.declared.texts.GrantText.{GrantText}
use Rattle.flat_model.specs.declared.texts.ThreadText.{ThreadText}
use Rattle.flat_model.specs.Names.{AreDistinctNames, is_name}
use Rattle.flat_model.specs.Sound.{IsBoard, IsGrantRights}
use Rattle.acl_resolver.specs.Resolve.{Parts}

-- a thread that may take 1 to 100,000 steps
pub record IsThreadText (thread : ThreadText) : Type 0 where
  pub some_step : 1 ≤ thread.steps
  pub few_steps : thread.steps ≤ 100000

-- a grant with one of the four sets of rights
pub record IsGrantText (grant : GrantText) : Type 0 where
  pub rights : IsGrantRights grant.rights

-- an interrupt line below 64, with a handler below 65,536
pub record IsIrq (irq : IrqPart) : Type 0 where
  pub line : irq.line.0 < 64
  pub handler : irq.handler < 65536

-- a box that has a name, a size, a thread that is its server, and at most 64 grants and lines
pub record IsBoxText (b : BoxText) : Type 0 where
  pub name : is_name b.name ≡ true
  pub some_size : 1 ≤ b.size
  pub size : b.size ≤ 1048576
  pub server : b.server < length b.threads
  pub few_grants : length b.grants ≤ 64
  pub few_lines : length b.irqs ≤ 64
  pub threads : AllByRecursion IsThreadText b.threads
  pub grants : AllByRecursion IsGrantText b.grants
  pub lines : AllByRecursion IsIrq b.irqs

-- how many threads the boxes have
abbrev pub threads_of : List BoxText → ℕ
threads_of boxes = sum_by (λ b. length b.threads) boxes

-- how many steps the threads of the boxes may take
abbrev pub steps_of : List BoxText → ℕ
steps_of boxes = sum_by (λ b. sum_by (λ thread. thread.steps) b.threads) boxes

-- how many lines the devices ring
abbrev pub rings_of : List DevicePart → ℕ
rings_of devices = sum_by (λ device. length device.rings) devices

-- whether the script word is to ring a line
abbrev pub is_ring_text : List ℕ → Bool
is_ring_text text = starts_with nat_eq text (codes "ring ")

-- what the document's tables and its limits give
pub record IsResolvable (parts : Parts) : Type 0 where
  pub board : IsBoard parts.board
  pub words : length parts.board.words ≤ 64
  pub some_box : 1 ≤ length parts.boxes
  pub few_boxes : length parts.boxes ≤ 8
  pub boxes : AllByRecursion IsBoxText parts.boxes
  pub names_once : AreDistinctNames (map (λ b. b.name) parts.boxes)
  pub one_owner : count_by (λ b. b.secret) parts.boxes ≤ 1
  pub threads : threads_of parts.boxes ≤ 16
  pub steps : steps_of parts.boxes ≤ 250000
  pub registers : length parts.gates.registers ≤ 32
  pub gateways : length parts.gates.gateways ≤ 32
  pub devices : length parts.devices ≤ 4
  pub rings : rings_of parts.devices ≤ 10000
  pub script : length parts.script ≤ 250000
  pub ring_words : count_by is_ring_text parts.script ≤ 10000
