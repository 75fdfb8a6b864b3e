-- A configuration whose parts are not refused is sound.
use Rattle.std.proofs.Common.{◌≡◌, ℕ, ◌-◌, ◌%◌, ◌<◌, ◌≤◌, true, ◌&&◌, List, [], ◌∷◌, map, length, Option, None, refl, sym, subst, ◌∙◌, ap, arith}
use Rattle.std.specs.Prelude.{nat_eq, not, unwrap_or}
use Rattle.std.specs.List.{AllByRecursion, filter_map, list_all}
use Rattle.std.proofs.lemmas.Bool.{and_parts, eqb-true, not-false}
use Rattle.std.proofs.lemmas.List.{length-map}
use Rattle.addr_base.specs.declared.identity.Line.{Line}
use Rattle.addr_base.specs.declared.ranges.Range.{Range}
use Rattle.addr_base.specs.Range.{holds_bytes}
use Rattle.flat_model.specs.declared.boards.Board.{Board}
use Rattle.flat_model.specs.declared.parts.DevicePart.{DevicePart}
use Rattle.flat_model.specs.declared.parts.RpcGate.{RpcGate}
use Rattle.flat_model.specs.declared.parts.ScriptWord.{ScriptWord}
use Rattle.flat_model.specs.declared.parts.ScriptWord.TheVariants as word
use Rattle.flat_model.specs.declared.refusals.Refused.{Refused}
use Rattle.flat_model.specs.declared.texts.BoxText.{BoxText}
use Rattle.flat_model.specs.declared.texts.RegText.{RegText}
use Rattle.flat_model.specs.declared.texts.RpcText.{RpcText}
use Rattle.flat_model.specs.Names.{AreDistinctNames}
use Rattle.flat_model.specs.Placing.{common_range, limit_of}
use Rattle.flat_model.specs.Sound.{AreDistinct, IsBox, IsRegisterGate, IsScriptWord, IsSound, IsWithinLimits}
use Rattle.flat_model.specs.Want.{is_owned_line}
use Rattle.acl_resolver.specs.Naming.{all_named, bad_device, bad_device_at, bad_gateway, bad_register, bad_register_at, box_named, is_owned, is_register_address, script_words, word_of_text}
use Rattle.acl_resolver.specs.Refusals.{bad_grant, bad_grant_of, common_behind, first_numbered, grant_outside, is_line_of_some, line_taken, no_room, outside_of, self_overlap, self_overlap_of}
use Rattle.acl_resolver.specs.Resolvable.{IsResolvable, threads_of}
use Rattle.acl_resolver.specs.Resolve.{Parts, bad_program, bad_program_of, box_parts, call_gate, configuration_of, naming_refusal, placing_refusal, refusal_of, register_gate}
use Rattle.acl_resolver.proofs.BoxLemmas.{HasGrants, HasPrograms, boxes_lines, boxes_many, boxes_named, boxes_numbered, boxes_own, boxes_owning, boxes_sound, threads_homes, threads_many, threads_sound, threads_steps}
use Rattle.acl_resolver.proofs.LineLemmas.{lines_distinct}
use Rattle.acl_resolver.proofs.PlaceLemmas.{board_limit, boxes_end, boxes_placed, within_limit}
use Rattle.acl_resolver.proofs.Unrefused.{all_both, all_made, all_passed, all_weaker, each_numbered, few_given, neither, not_refused}
use Rattle.acl_resolver.proofs.WordLemmas.{IsThere, few_rings, target_below, words_there}

-- none of the refusals comes that soundness stands on
pub record AreUnrefused (parts : Parts) : Type 0 where
  pub room : no_room (limit_of parts.board) parts.board.sram.base 0 parts.boxes ≡ None
  pub grants : bad_grant parts.boxes ≡ None
  pub within : grant_outside parts.board parts.boxes ≡ None
  pub apart : self_overlap parts.boxes ≡ None
  pub lines : line_taken parts.boxes ≡ None
  pub registers : bad_register parts.board parts.boxes parts.gates.registers ≡ None
  pub programs : bad_program parts.boxes ≡ None
  pub devices : bad_device parts.boxes parts.devices ≡ None

-- where there is no refusal, none of them comes
pub unrefused : (parts : Parts) → refusal_of parts ≡ None → AreUnrefused parts
unfolding refusal_of
unrefused parts h =
    let placing = neither (placing_refusal parts.board parts.boxes) _ h in
    let naming = neither (naming_refusal parts.board parts.boxes parts.gates) _ placing.1 in
    let programs = neither (bad_program parts.boxes) _ naming.1 in
    let devices = neither (bad_device parts.boxes parts.devices) _ programs.1 in
    let room = neither (no_room (limit_of parts.board) parts.board.sram.base 0 parts.boxes) _ placing.0 in
    let grants = neither (bad_grant parts.boxes) _ room.1 in
    let within = neither (grant_outside parts.board parts.boxes) _ grants.1 in
    let apart = neither (self_overlap parts.boxes) _ within.1 in
    let lines = neither (line_taken parts.boxes) _ naming.0 in
    let gates = neither (bad_gateway parts.board parts.boxes parts.gates) _ lines.1 in
    let registers = neither (bad_register parts.board parts.boxes parts.gates.registers) _ gates.0 in
    record {
      room = room.0;
      grants = grants.0;
      within = within.0;
      apart = apart.0;
      lines = lines.0;
      registers = registers.0;
      programs = programs.0;
      devices = devices.0;
    }

limits : (parts : Parts) → IsResolvable parts → IsWithinLimits (configuration_of parts)
unfolding configuration_of
limits parts is =
    let many = boxes_many parts.board parts.board.sram.base 0 parts.boxes in
    let few_words = few_given (word_of_text (script_words parts.boxes)) parts.script in
    let rings = few_rings parts.boxes parts.script in
    record {
      some_box = subst (λ n. 1 ≤ n) (sym many) is.some_box;
      boxes = subst (λ n. n ≤ 8) (sym many) is.few_boxes;
      threads = subst (λ n. n ≤ 16) (sym (threads_many 0 parts.boxes)) is.threads;
      devices = is.devices;
      words = is.words;
      registers = subst (λ n. n ≤ 32) (sym (length-map parts.gates.registers (register_gate parts.boxes))) is.registers;
      gateways = subst (λ n. n ≤ 32) (sym (length-map parts.gates.gateways (call_gate parts.boxes))) is.gateways;
      steps = subst (λ n. n ≤ 250000) (sym (threads_steps 0 parts.boxes)) is.steps;
      script = omega (arith, few_words, is.script);
      ring_words = omega (arith, rings, is.ring_words);
      rings = is.rings;
    }

-- some number at which nothing is refused of a box
abbrev pub Passes : (ℕ → BoxText → Option Refused) → BoxText → Type 0
Passes f b = (n : ℕ) × (f n b ≡ None)

passed : (f : ℕ → BoxText → Option Refused) (boxes : List BoxText) → first_numbered f 0 boxes ≡ None → AllByRecursion (Passes f) boxes
passed f boxes h = each_numbered f (Passes f) (λ n b here. (n, here)) 0 boxes h

granted : (parts : Parts) → AreUnrefused parts → AllByRecursion (HasGrants parts.board (common_behind parts.board parts.boxes)) parts.boxes
granted parts none =
    let outside = outside_of parts.board (common_behind parts.board parts.boxes) in
    all_weaker (λ b. Passes bad_grant_of b × (Passes outside b × Passes self_overlap_of b)) (HasGrants parts.board (common_behind parts.board parts.boxes))
    (λ b facts. record {
      first = facts.0.0;
      good = facts.0.1;
      second = facts.1.0.0;
      within = facts.1.0.1;
      third = facts.1.1.0;
      apart = facts.1.1.1;
    })
    parts.boxes
    (all_both (Passes bad_grant_of) (λ b. Passes outside b × Passes self_overlap_of b) parts.boxes (passed bad_grant_of parts.boxes none.grants)
    (all_both (Passes outside) (Passes self_overlap_of) parts.boxes (passed outside parts.boxes none.within) (passed self_overlap_of parts.boxes none.apart)))

programmed : (parts : Parts) → AreUnrefused parts → AllByRecursion HasPrograms parts.boxes
programmed parts none =
    all_weaker (Passes bad_program_of) HasPrograms (λ b facts. record { number = facts.0; good = facts.1 }) parts.boxes (passed bad_program_of parts.boxes none.programs)

common_same : (board : Board) (boxes : List BoxText) → common_range board (box_parts board board.sram.base 0 boxes) ≡ common_behind board boxes
common_same board boxes = ap (λ (end : ℕ). record { base = end; len = limit_of board - end }) (boxes_end board board.sram.base 0 boxes)

all_boxes : (parts : Parts) → IsResolvable parts → AreUnrefused parts
    → AllByRecursion (IsBox parts.board (common_range parts.board (box_parts parts.board parts.board.sram.base 0 parts.boxes))) (box_parts parts.board parts.board.sram.base 0 parts.boxes)
all_boxes parts is none =
    subst (λ (common : Range). AllByRecursion (IsBox parts.board common) (box_parts parts.board parts.board.sram.base 0 parts.boxes)) (sym (common_same parts.board parts.boxes))
    (boxes_sound parts.board (common_behind parts.board parts.boxes) parts.board.sram.base 0 parts.boxes is.boxes (granted parts none))

register_sound : (board : Board) (boxes : List BoxText) (k : ℕ) (gate : RegText) → bad_register_at board boxes k gate ≡ None → IsRegisterGate board (register_gate boxes gate)
register_sound board boxes k gate h =
    let good = not-false (is_register_address board gate.at && all_named boxes gate.boxes) (not_refused (not (is_register_address board gate.at && all_named boxes gate.boxes)) _ h) in
    let address = and_parts (is_register_address board gate.at) (all_named boxes gate.boxes) good in
    let both = and_parts (nat_eq (gate.at % 4) 0) (holds_bytes board.peripherals gate.at 4) address.0 in
    record { aligned = eqb-true (gate.at % 4) 0 both.0; placed = both.1 }

all_registers : (parts : Parts) → AreUnrefused parts → AllByRecursion (IsRegisterGate parts.board) (map (register_gate parts.boxes) parts.gates.registers)
all_registers parts none =
    all_made (register_gate parts.boxes) (IsRegisterGate parts.board) parts.gates.registers
    (each_numbered (bad_register_at parts.board parts.boxes) (λ gate. IsRegisterGate parts.board (register_gate parts.boxes gate))
    (register_sound parts.board parts.boxes) 0 parts.gates.registers none.registers)

all_gateways : (n : ℕ) (boxes : List BoxText) (gateways : List RpcText) → n ≡ length boxes → 1 ≤ length boxes
    → AllByRecursion (λ (gate : RpcGate). gate.target.0 < n) (map (call_gate boxes) gateways)
all_gateways n boxes [] same some = tt
all_gateways n boxes (gate ∷ gateways) same some = (subst (λ m. unwrap_or (box_named boxes gate.target) 0 < m) (sym same) (target_below boxes gate.target some), all_gateways n boxes gateways same some)

owned_same : (parts : Parts) (line : ℕ) → is_owned_line (configuration_of parts) line ≡ is_line_of_some parts.boxes line
unfolding configuration_of
owned_same parts line = boxes_own parts.board parts.board.sram.base 0 parts.boxes line

device_sound : (parts : Parts) (d : ℕ) (device : DevicePart) → bad_device_at parts.boxes d device ≡ None
    → AllByRecursion (λ (line : Line). is_owned_line (configuration_of parts) line.0 ≡ true) device.rings
device_sound parts d device h =
    let good = not-false (list_all (is_owned parts.boxes) device.rings) (not_refused (not (list_all (is_owned parts.boxes) device.rings)) _ h) in
    all_weaker (λ (line : Line). is_owned parts.boxes line ≡ true) (λ (line : Line). is_owned_line (configuration_of parts) line.0 ≡ true)
    (λ line here. owned_same parts line.0 ∙ here) device.rings (all_passed (is_owned parts.boxes) device.rings good)

all_devices : (parts : Parts) → AreUnrefused parts
    → AllByRecursion (λ (device : DevicePart). AllByRecursion (λ (line : Line). is_owned_line (configuration_of parts) line.0 ≡ true) device.rings) parts.devices
all_devices parts none = each_numbered (bad_device_at parts.boxes) _ (device_sound parts) 0 parts.devices none.devices

word_sound : (parts : Parts) (w : ScriptWord) → IsThere (threads_of parts.boxes) parts.boxes w → IsScriptWord (configuration_of parts) w
unfolding configuration_of
word_sound parts (word.Thread t) there = subst (λ n. t.0 < n) (sym (threads_many 0 parts.boxes)) there
word_sound parts (word.Ring line) there = boxes_own parts.board parts.board.sram.base 0 parts.boxes line.0 ∙ there

all_script : (parts : Parts) → AllByRecursion (IsScriptWord (configuration_of parts)) (filter_map (word_of_text (script_words parts.boxes)) parts.script)
all_script parts =
    all_weaker (IsThere (threads_of parts.boxes) parts.boxes) (IsScriptWord (configuration_of parts)) (word_sound parts)
    (filter_map (word_of_text (script_words parts.boxes)) parts.script) (words_there parts.boxes parts.script)

-- the configuration of parts that are not refused is sound
pub configuration_sound : (parts : Parts) → IsResolvable parts → refusal_of parts ≡ None → IsSound (configuration_of parts)
unfolding configuration_of
configuration_sound parts is h =
    let none = unrefused parts h in
    let limit = board_limit parts.board is.board in
    let base = parts.board.sram.base in
    record {
      limits = limits parts is;
      board = is.board;
      names_once = subst AreDistinctNames (sym (boxes_named parts.board base 0 parts.boxes)) is.names_once;
      boxes = all_boxes parts is none;
      numbered = boxes_numbered parts.board base 0 parts.boxes is.boxes;
      homes = threads_homes parts.board base 0 0 parts.boxes;
      threads = threads_sound 0 parts.boxes is.boxes (programmed parts none);
      placed = boxes_placed parts.board base 0 parts.boxes;
      room = subst (λ n. n ≤ limit_of parts.board) (sym (boxes_end parts.board base 0 parts.boxes)) (within_limit (limit_of parts.board) base 0 parts.boxes limit.low none.room);
      one_owner = subst (λ n. n ≤ 1) (sym (boxes_owning parts.board base 0 parts.boxes)) is.one_owner;
      lines_once = subst AreDistinct (sym (boxes_lines parts.board base 0 parts.boxes)) (lines_distinct parts.boxes none.lines);
      registers = all_registers parts none;
      gateways = all_gateways _ parts.boxes parts.gates.gateways (boxes_many parts.board base 0 parts.boxes) is.some_box;
      devices = all_devices parts none;
      script = all_script parts;
    }
