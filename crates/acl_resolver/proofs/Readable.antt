-- What is read from a document whose shape, board and names are not refused can be resolved.
use Rattle.std.proofs.Common.{◌≡◌, ℕ, ◌≤◌, true, List, [], ◌∷◌, ◌++◌, map, length, sum_by, count_by, Option, Some, None, Ok, refl, ◌∙◌, subst, arith}
use Rattle.std.specs.List.{AllByRecursion}
use Rattle.flat_model.specs.Names.{AreDistinctNames, is_name}
use Rattle.flat_model.specs.Sound.{IsBoard}
use Rattle.flat_model.specs.BoardRules.{board_fault}
use Rattle.flat_model.proofs.BoardFacts.{rules_from_fault}
use Rattle.flat_model.specs.declared.boards.Board.{Board}
use Rattle.flat_model.specs.declared.refusals.Key.{Key}
use Rattle.flat_model.specs.declared.refusals.Key.TheVariants as key
use Rattle.flat_model.specs.declared.refusals.Spot.TheVariants as spot
use Rattle.flat_model.specs.declared.texts.BoxText.{BoxText}
use Rattle.toml.specs.Data.{Members}
use Rattle.board_map.specs.declared.rows.Form.{Form}
use Rattle.board_map.specs.declared.rows.Form.TheVariants as form
use Rattle.board_map.specs.declared.rows.Limit.TheVariants as limit
use Rattle.board_map.specs.declared.totals.Totals.{Totals}
use Rattle.board_map.specs.BoardText.{board_of, board_reading, fault_refusal, members_or_none}
use Rattle.board_map.specs.Rows.{rows_of}
use Rattle.board_map.specs.Shape.{Place, board_places, box_places, boxes_in, opening, place_at, places, places_in, sections, shape_refusal}
use Rattle.board_map.specs.Tree.{count, items_at, table_at}
use Rattle.board_map.specs.Values.{after}
use Rattle.box_config.specs.Names.{boxes_reading, name_refusal}
use Rattle.box_config.specs.Texts.{box_text, boxes_of, device_part, devices_of, gates_of, reg_text, rpc_text, script_of}
use Rattle.acl_resolver.specs.Resolvable.{IsBoxText, IsResolvable, is_ring_text}
use Rattle.acl_resolver.proofs.ReadableBoard.{sound_board}
use Rattle.acl_resolver.proofs.ReadableBoxes.{few_device_rings, few_steps, few_threads, more_owners, more_steps, more_threads, once_taken, owners_in, rings_in, sound_box, steps_in, taken, threads_in}
use Rattle.acl_resolver.proofs.ReadableNames.{read_well, sound_names}
use Rattle.acl_resolver.proofs.ReadableParts.{bound_part, each_part, kept_in, kept_part, kept_sections, sum_part}
use Rattle.acl_resolver.proofs.ReadablePlaces.{AreGood, IsGoodTable, boxes_in_parts, good_document, good_split, moved, parts_in}
use Rattle.acl_resolver.proofs.ReadableTexts.{count_words, few_items, few_rings, few_strings, few_tables, few_words, some_table}

-- what the tables say up to the first box, and up to the last
abbrev before_boxes : Members → Totals
before_boxes doc = moved (opening doc) (board_places (table_at key.Board doc))

abbrev behind_boxes : Members → Totals
behind_boxes doc = moved (before_boxes doc) (parts_in box_places 0 (items_at key.AtBox doc))

-- the kinds of tables behind the boxes
abbrev last_forms : List Form
last_forms = form.Register ∷ form.Gateway ∷ form.Device ∷ []

-- the tables of a document, part by part
record HasGoodParts (doc : Members) : Type 0 where
  top : IsGoodTable (opening doc) form.Top doc
  board : AreGood (opening doc) (board_places (table_at key.Board doc))
  boxes : AreGood (before_boxes doc) (parts_in box_places 0 (items_at key.AtBox doc))
  others : AreGood (behind_boxes doc) (sections 0 doc last_forms)

good_parts : (doc : Members) → shape_refusal doc ≡ None → HasGoodParts doc
unfolding places after
good_parts doc none =
    let good = good_document doc none in
    let board = good_split (opening doc) (board_places (table_at key.Board doc)) (boxes_in 0 (items_at key.AtBox doc) ++ sections 0 doc last_forms) good.1 in
    let boxes = good_split (before_boxes doc) (boxes_in 0 (items_at key.AtBox doc)) (sections 0 doc last_forms) board.1 in
    let same = boxes_in_parts 0 (items_at key.AtBox doc) in
    record {
      top = good.0;
      board = board.0;
      boxes = subst (λ (ps : List Place). AreGood (before_boxes doc) ps) same boxes.0;
      others = subst (λ (ps : List Place). AreGood (moved (before_boxes doc) ps) (sections 0 doc last_forms)) same boxes.1;
    }

no_heap : (g : Totals → ℕ) (t : Totals) (o : Option Members) → ((ms : Members) (x : Totals) → g (after form.Heap ms x) ≡ g x) → g (moved t (place_at spot.Heap form.Heap o)) ≡ g t
no_heap g t None heap = refl
no_heap g t (Some ms) heap = heap ms t

-- the board adds to no sum
no_sum_yet : (g : Totals → ℕ) (t : Totals) (o : Option Members) → ((ms : Members) (x : Totals) → g (after form.Board ms x) ≡ g x) → ((ms : Members) (x : Totals) → g (after form.Heap ms x) ≡ g x)
    → g (moved t (board_places o)) ≡ g t
unfolding board_places
no_sum_yet g t None board heap = refl
no_sum_yet g t (Some ms) board heap = no_heap g (after form.Board ms t) (table_at key.Heap ms) heap ∙ board ms t

-- the board's words are few
few_board_words : (t : Totals) (o : Option Members) → AreGood t (board_places o) → length (board_of (members_or_none o)).words ≤ 64
unfolding board_places board_of rows_of
few_board_words t None good = omega arith
few_board_words t (Some ms) good =
    let few : count (items_at key.Words ms) ≤ 64 = few_items 64 key.Words t ms good.0.1.1.1.1.0.within in
    omega (arith, count_words (items_at key.Words ms))

no_fault : (o : Option Key) → fault_refusal o ≡ None → o ≡ None
no_fault None none = refl
no_fault (Some k) none = absurd (cc)

-- a board that is read is the document's, and sound
read_board : (doc : Members) (board : Board) → board_reading doc ≡ Ok board → IsBoard board × (board_of (members_or_none (table_at key.Board doc)) ≡ board)
unfolding board_reading
read_board doc board read =
    let text = board_of (members_or_none (table_at key.Board doc)) in
    let parts = read_well (fault_refusal (board_fault text)) text board read in
    let sound = sound_board text (rules_from_fault text (no_fault (board_fault text) parts.0)) in
    (subst (λ (b : Board). IsBoard b) parts.1 sound, parts.1)

-- boxes that are read are the document's, with names of their own
read_boxes : (doc : Members) (boxes : List BoxText) → boxes_reading doc ≡ Ok boxes → (name_refusal (boxes_of doc) ≡ None) × (boxes_of doc ≡ boxes)
unfolding boxes_reading
read_boxes doc boxes read = read_well (name_refusal (boxes_of doc)) (boxes_of doc) boxes read

both : (P Q : BoxText → Type 0) (boxes : List BoxText) → AllByRecursion P boxes → AllByRecursion (λ b. P b → Q b) boxes → AllByRecursion Q boxes
both P Q [] first second = tt
both P Q (b ∷ boxes) first second = (second.0 first.0, both P Q boxes first.1 second.1)

-- what is known of the boxes of a document
record HasSoundBoxes (texts : List BoxText) : Type 0 where
  some_box : 1 ≤ length texts
  few_boxes : length texts ≤ 8
  boxes : AllByRecursion IsBoxText texts
  names_once : AreDistinctNames (map (λ b. b.name) texts)
  one_owner : sum_by owners_in texts ≤ 1
  threads : sum_by threads_in texts ≤ 16
  steps : sum_by steps_in texts ≤ 250000

sound_boxes : (doc : Members) → HasGoodParts doc → name_refusal (boxes_of doc) ≡ None → HasSoundBoxes (boxes_of doc)
unfolding boxes_of rows_of after
sound_boxes doc good none =
    let names = sound_names (boxes_of doc) none in
    let tables = items_at key.AtBox doc in
    let t = before_boxes doc in
    let few : count tables ≤ 8 = few_items 8 key.AtBox (opening doc) doc good.top.1.1.0.within in
    let no_threads : t.threads ≡ 0 = no_sum_yet (λ (x : Totals). x.threads) (opening doc) (table_at key.Board doc) (λ ms x. refl) (λ ms x. refl) in
    let no_steps : t.steps ≡ 0 = no_sum_yet (λ (x : Totals). x.steps) (opening doc) (table_at key.Board doc) (λ ms x. refl) (λ ms x. refl) in
    let threads = sum_part box_places (λ (x : Totals). x.threads) box_text threads_in more_threads 0 tables t good.boxes in
    let steps = sum_part box_places (λ (x : Totals). x.steps) box_text steps_in more_steps 0 tables t good.boxes in
    let owners = sum_part box_places (λ (x : Totals). taken x.secret_free) box_text owners_in more_owners 0 tables t good.boxes in
    let threads_end = bound_part box_places (λ (x : Totals). x.threads) 16 few_threads 0 tables t good.boxes (omega arith) in
    let steps_end = bound_part box_places (λ (x : Totals). x.steps) 250000 few_steps 0 tables t good.boxes (omega arith) in
    let owners_end = once_taken (behind_boxes doc).secret_free in
    record {
      some_box = some_table box_text key.AtBox (limit.Items 8) (opening doc) doc good.top.1.1.0;
      few_boxes = omega (arith, few_tables box_text tables);
      boxes = both (λ b. is_name b.name ≡ true) IsBoxText (boxes_of doc) names.0 (each_part box_places box_text (λ (b : BoxText). is_name b.name ≡ true → IsBoxText b) sound_box 0 tables t good.boxes);
      names_once = names.1;
      one_owner = omega (arith, owners, owners_end);
      threads = omega (arith, threads, threads_end);
      steps = omega (arith, steps, steps_end);
    }

box_rings : (n : ℕ) (o : Option Members) (t : Totals) → (moved t (box_places n o)).rings ≡ t.rings
unfolding box_places after
box_rings n None t = refl
box_rings n (Some ms) t =
    kept_sections (λ (x : Totals). x.rings) n ms (form.Thread ∷ form.Grant ∷ form.Irq ∷ []) ((λ xs x. refl), ((λ xs x. refl), ((λ xs x. refl), tt))) (after form.AtBox ms t)

-- the devices ring few lines
few_rings_of : (doc : Members) → HasGoodParts doc → sum_by rings_in (devices_of doc) ≤ 10000
unfolding sections devices_of after
few_rings_of doc good =
    let start = behind_boxes doc in
    let registers = places_in form.Register 0 0 (items_at key.Register doc) in
    let gateways = places_in form.Gateway 0 0 (items_at key.Gateway doc) in
    let devices = places_in form.Device 0 0 (items_at key.Device doc) in
    let first = good_split start registers (sections 0 doc (form.Gateway ∷ form.Device ∷ [])) good.others in
    let second = good_split (moved start registers) gateways (sections 0 doc (form.Device ∷ [])) first.1 in
    let third = good_split (moved (moved start registers) gateways) devices [] second.1 in
    let none : (before_boxes doc).rings ≡ 0 = no_sum_yet (λ (x : Totals). x.rings) (opening doc) (table_at key.Board doc) (λ ms x. refl) (λ ms x. refl) in
    let same =
    kept_in (λ (x : Totals). x.rings) form.Gateway (λ ms x. refl) 0 0 (items_at key.Gateway doc) (moved start registers)
    ∙ kept_in (λ (x : Totals). x.rings) form.Register (λ ms x. refl) 0 0 (items_at key.Register doc) start
    ∙ kept_part box_places (λ (x : Totals). x.rings) box_rings 0 (items_at key.AtBox doc) (before_boxes doc)
    ∙ none in
    few_device_rings (moved (moved start registers) gateways) 0 doc third.0 same

-- what is known of the gateways, the devices and the script of a document
record HasFewOthers (doc : Members) : Type 0 where
  registers : length (gates_of doc).registers ≤ 32
  gateways : length (gates_of doc).gateways ≤ 32
  devices : length (devices_of doc) ≤ 4
  script : length (script_of doc) ≤ 250000
  ring_words : count_by is_ring_text (script_of doc) ≤ 10000

few_others : (doc : Members) → HasGoodParts doc → HasFewOthers doc
unfolding rows_of gates_of devices_of script_of
few_others doc good =
    let rows = good.top.1.1.1 in
    let registers : count (items_at key.Register doc) ≤ 32 = few_items 32 key.Register (opening doc) doc rows.0.within in
    let gateways : count (items_at key.Gateway doc) ≤ 32 = few_items 32 key.Gateway (opening doc) doc rows.1.0.within in
    let devices : count (items_at key.Device doc) ≤ 4 = few_items 4 key.Device (opening doc) doc rows.1.1.0.within in
    let script = few_words key.Script (opening doc) doc rows.1.1.1.0.within in
    record {
      registers = omega (arith, few_tables reg_text (items_at key.Register doc));
      gateways = omega (arith, few_tables rpc_text (items_at key.Gateway doc));
      devices = omega (arith, few_tables device_part (items_at key.Device doc));
      script = omega (arith, script.0, few_strings (items_at key.Script doc));
      ring_words = omega (arith, script.1, few_rings (items_at key.Script doc));
    }

-- what is read from a document whose shape, board and names are not refused can be resolved
pub resolvable : (doc : Members) (board : Board) (boxes : List BoxText) → shape_refusal doc ≡ None → board_reading doc ≡ Ok board → boxes_reading doc ≡ Ok boxes
    → IsResolvable (record { board = board; boxes = boxes; gates = gates_of doc; devices = devices_of doc; script = script_of doc })
resolvable doc board boxes shape board_read boxes_read =
    let good = good_parts doc shape in
    let read = read_board doc board board_read in
    let texts = read_boxes doc boxes boxes_read in
    let sound = subst (λ (bs : List BoxText). HasSoundBoxes bs) texts.1 (sound_boxes doc good texts.0) in
    let others = few_others doc good in
    record {
      board = read.0;
      words = subst (λ (b : Board). length b.words ≤ 64) read.1 (few_board_words (opening doc) (table_at key.Board doc) good.board);
      some_box = sound.some_box;
      few_boxes = sound.few_boxes;
      boxes = sound.boxes;
      names_once = sound.names_once;
      one_owner = sound.one_owner;
      threads = sound.threads;
      steps = sound.steps;
      registers = others.registers;
      gateways = others.gateways;
      devices = others.devices;
      rings = few_rings_of doc good;
      script = others.script;
      ring_words = others.ring_words;
    }
