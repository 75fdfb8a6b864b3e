-- The parts of a kernel, as the flat machine tells them.
use Rattle.std.proofs.Common.{◌≡◌, ℕ, zero, suc, ◌+◌, ◌-◌, ◌/◌, ◌%◌, ◌^◌, ◌<◌, ◌≤◌, Bool, true, false, cond, Option, Some, None, List, [], ◌∷◌, ◌++◌, length, map, replicate, take, drop, refl, sym, ap, ◌∙◌, subst, arith, nat_eq}
use Rattle.std.specs.Prelude.{is_none, is_some, is_ok, unwrap_or, slice_get, slice_set, Result, Ok, Err, OnOk}
use Rattle.std.specs.Result.{result_ok}
use Rattle.std.proofs.lemmas.Bool.{false≢true}
use Rattle.std.specs.Option.{option_map, option_map_or}
use Rattle.std.proofs.lemmas.Bool.Decides.{nat_tests}
use Rattle.std.proofs.lemmas.List.{drop-replicate, length-replicate, take-replicate}
use Rattle.std.proofs.lemmas.Option.{slice_get-map}
use Rattle.addr_base.specs.declared.identity.BoxId.{BoxId}
use Rattle.addr_base.specs.declared.identity.Line.{Line}
use Rattle.addr_base.specs.declared.identity.Ticket.{Ticket}
use Rattle.addr_base.specs.declared.ranges.Range.{Range}
use Rattle.addr_base.specs.Range.{ADDRESS_END, end_of, in_range}
use Rattle.flat_model.specs.declared.boards.Board.{Board}
use Rattle.flat_model.specs.declared.boards.HeapPart.{HeapPart}
use Rattle.flat_model.specs.declared.parts.BoxPart.{BoxPart}
use Rattle.flat_model.specs.declared.parts.Config.{Config}
use Rattle.flat_model.specs.declared.parts.IrqPart.{IrqPart}
use Rattle.flat_model.specs.declared.parts.RegGate.{RegGate}
use Rattle.flat_model.specs.declared.parts.ThreadPart.{ThreadPart}
use Rattle.flat_model.specs.declared.states.Call.{Call}
use Rattle.flat_model.specs.declared.states.Context.{Context}
use Rattle.flat_model.specs.declared.states.Lines.{Lines}
use Rattle.flat_model.specs.declared.states.Memory.{Memory}
use Rattle.flat_model.specs.Acting.{call_room}
use Rattle.flat_model.specs.CallRows.{home_of, served_ticket, started_from}
use Rattle.flat_model.specs.Cells.{cells_of}
use Rattle.flat_model.specs.Interrupts.{deliverable_to, is_deliverable, is_set, lower_of, lowest_deliverable, saved_context}
use Rattle.flat_model.specs.Kernel.{KernelState, with_shared}
use Rattle.flat_model.specs.KernelCalls.{after_finishing, begun_in}
use Rattle.flat_model.specs.Memory.{put_byte, put_cells}
use Rattle.flat_model.specs.Pages.{page_address, table_cells}
use Rattle.flat_model.specs.Sound.{AreNumbered, IsBoard, IsSound, homes_from}
use Rattle.flat_model.proofs.CellSteps.{put_cells_after}
use Rattle.irq_owner.specs.Irqs.{IrqsView, flags_of, irqs_of, next_irq, opening_irqs}
use Rattle.machine_core.specs.Parts.{AreParts, with_table}
use Rattle.page_heap.specs.Heap.{HeapView, opening_heap}
use Rattle.phys_memory.specs.Banks.{BanksView, opening_banks, with_word}
use Rattle.rpc_gateway.specs.Calls.{CallsView, opening_calls, start_answer, with_finish, with_start}
use Rattle.rpc_gateway.specs.Servers.{is_server_thread, serves_box, serves_home, thread_serving}

-- ---- interrupt lines

-- the lowest line that can be delivered says nothing of what is saved
lowest-same : (lines other : Lines) (irqs : List IrqPart) → lines.latched ≡ other.latched → lines.enabled ≡ other.enabled →
    lowest_deliverable lines irqs ≡ lowest_deliverable other irqs
lowest-same lines other [] latched enabled = refl
lowest-same lines other (irq ∷ irqs) latched enabled =
    let rest = lowest-same lines other irqs latched enabled in
    ap (λ r. cond (is_deliverable lines irq.line.0) (Some (lower_of irq r)) r) rest
    ∙ ap (λ flags. cond (is_deliverable (record { latched = flags; enabled = lines.enabled; saved = lines.saved }) irq.line.0)
    (Some (lower_of irq (lowest_deliverable other irqs))) (lowest_deliverable other irqs)) latched
    ∙ ap (λ flags. cond (is_deliverable (record { latched = other.latched; enabled = flags; saved = lines.saved }) irq.line.0)
    (Some (lower_of irq (lowest_deliverable other irqs))) (lowest_deliverable other irqs)) enabled

-- a box without lines has none to deliver
pub no-lines : (lines : Lines) (b : ℕ) → deliverable_to lines [] b ≡ None
no-lines lines b = by_saved (is_none (saved_context lines b))
  where
    by_saved : (s : Bool) → cond {A = Option IrqPart} s None None ≡ None
    by_saved true = refl
    by_saved false = refl

-- whether a context is saved for a box
pub handling-is : (saved : List (Option Context)) (b : ℕ) → is_set (map is_some saved) b ≡ is_some (unwrap_or (slice_get saved b) None)
handling-is [] b = refl
handling-is (None ∷ saved) zero = refl
handling-is (Some context ∷ saved) zero = refl
handling-is (c ∷ saved) (suc b) = handling-is saved b

-- nothing is saved at the start
none-saved : (n : ℕ) (c : Option Context) → c ≡ None → map is_some (replicate n c) ≡ replicate n false
none-saved zero c none = refl
none-saved (suc n) c none = ap (λ o. is_some o ∷ map is_some (replicate n c)) none ∙ ap (λ xs. false ∷ xs) (none-saved n c none)

pub map-set : (saved : List (Option Context)) (b : ℕ) (c : Option Context) → map is_some (slice_set saved b c) ≡ slice_set (map is_some saved) b (is_some c)
map-set [] b c = refl
map-set (s ∷ saved) zero c = refl
map-set (s ∷ saved) (suc b) c = ap (λ xs. is_some s ∷ xs) (map-set saved b c)

-- the lines of the box with this part
pub irqs-are : (cfg : Config) (b : ℕ) (part : BoxPart) → slice_get cfg.boxes b ≡ Some part → irqs_of cfg b ≡ part.irqs
irqs-are cfg b part found = ap (λ o. option_map_or (λ (p : BoxPart). p.irqs) o []) found

-- the line that can be delivered to a box is the part's next
pub next-is : (irqs : IrqsView) (saved : List (Option Context)) (b : ℕ) (part : BoxPart) →
    map is_some saved ≡ irqs.handling → slice_get irqs.config.boxes b ≡ Some part →
    deliverable_to (record { latched = irqs.latched; enabled = irqs.enabled; saved = saved }) part.irqs b ≡ next_irq irqs b
next-is irqs saved b part handling found =
    let lines : Lines = record { latched = irqs.latched; enabled = irqs.enabled; saved = saved } in
    by_saved (saved_context lines b) (lowest_deliverable lines part.irqs)
    ∙ ap (λ h. cond h None (lowest_deliverable lines part.irqs)) (sym (handling-is saved b) ∙ ap (λ hs. is_set hs b) handling)
    ∙ ap (λ o. cond (is_set irqs.handling b) None o) (lowest-same lines (flags_of irqs) part.irqs refl refl)
    ∙ ap (λ is. cond (is_set irqs.handling b) None (lowest_deliverable (flags_of irqs) is)) (sym (irqs-are irqs.config b part found))
  where
    by_saved : (s : Option Context) (o : Option IrqPart) → cond (is_none s) o None ≡ cond (is_some s) None o
    by_saved None o = refl
    by_saved (Some c) o = refl

-- the line that is delivered is that of the interrupt that can be
pub line-is : (irqs : IrqsView) (saved : List (Option Context)) (b : ℕ) (part : BoxPart) (irq : IrqPart) (line : Line) →
    map is_some saved ≡ irqs.handling → slice_get irqs.config.boxes b ≡ Some part →
    deliverable_to (record { latched = irqs.latched; enabled = irqs.enabled; saved = saved }) part.irqs b ≡ Some irq →
    option_map (λ (i : IrqPart). i.line) (next_irq irqs b) ≡ Some line → line ≡ irq.line
line-is irqs saved b part irq line handling found due is =
    let next : option_map (λ (i : IrqPart). i.line) (next_irq irqs b) ≡ Some irq.line =
    ap (option_map (λ (i : IrqPart). i.line)) (sym (next-is irqs saved b part handling found) ∙ due) in
    same_line line irq.line (sym is ∙ next)
  where
    same_line : (x y : Line) → Some x ≡ Some y → x ≡ y
    same_line x y same = cc

-- what holds where a result is good
pub when-ok : {X E P : Type 0} (r : Result X E) → is_ok r ≡ true → OnOk r P → P
when-ok (Ok x) good holds = holds
when-ok (Err e) good holds = absurd (false≢true good)

-- ---- a kernel's parts

-- the kernel that parts make
abbrev pub kernel_with : Config → Memory → List (Option BoxId) → Lines → CallsView → KernelState
kernel_with cfg memory owners lines calls = record {
  config = cfg;
  shared = record { memory = memory; owners = owners; calls = calls.calls; serving = calls.serving; lines = lines };
}

-- the parts at the start
pub opening-parts : (cfg : Config) (banks : BanksView) (heap : HeapView) (irqs : IrqsView) (saved : List (Option Context)) (registers : List RegGate) (calls : CallsView) →
    IsSound cfg → banks ≡ opening_banks cfg.board → heap ≡ opening_heap cfg.board → irqs ≡ opening_irqs cfg → saved ≡ replicate (length cfg.boxes) None →
    registers ≡ cfg.registers → calls ≡ opening_calls cfg → AreParts cfg cfg.board.heap banks heap irqs saved registers calls
opening-parts cfg banks heap irqs saved registers calls sound one two three four five six = record {
  sound = sound;
  pages = refl;
  board = ap (λ (b : BanksView). b.board) one;
  heap_of = ap (λ (h : HeapView). h.heap) two;
  irqs_of = ap (λ (i : IrqsView). i.config) three;
  boxes = ap (λ (xs : List (Option Context)). length xs) four ∙ length-replicate (length cfg.boxes) None;
  handling = ap (map is_some) four ∙ none-saved (length cfg.boxes) None refl ∙ sym (ap (λ (i : IrqsView). i.handling) three);
  registers_of = five;
  calls_of = ap (λ (v : CallsView). v.config) six;
  room = ap (λ (v : CallsView). length v.calls + v.spare) six ∙ (let none : 0 + call_room cfg ≡ call_room cfg = omega arith in none);
}

-- ---- calls

-- a call that was finished
pub finish-is : (cfg : Config) (memory : Memory) (owners : List (Option BoxId)) (lines : Lines) (calls : CallsView) (b value : ℕ) (served : Option Ticket) →
    kernel_with cfg memory owners lines (with_finish calls b value served) ≡ after_finishing (kernel_with cfg memory owners lines calls) b value served
finish-is cfg memory owners lines calls b value None = refl
finish-is cfg memory owners lines calls b value (Some ticket) = refl

-- what a start answers
pub start-told : (cfg : Config) (oldest found : Option Call) → result_ok (start_answer cfg oldest found) ≡ option_map (started_from cfg) found
start-told cfg oldest None = refl
start-told cfg oldest (Some call) = refl

-- a call that was started, or not
pub start-is : (cfg : Config) (memory : Memory) (owners : List (Option BoxId)) (lines : Lines) (calls : CallsView) (b : ℕ) (ticket : Ticket)
    (at : Config) (oldest found : Option Call) →
    kernel_with cfg memory owners lines (cond (is_ok (start_answer at oldest found)) (with_start calls b ticket) calls)
    ≡ with_shared (kernel_with cfg memory owners lines calls) (begun_in b ticket (kernel_with cfg memory owners lines calls).shared found)
start-is cfg memory owners lines calls b ticket at oldest None = refl
start-is cfg memory owners lines calls b ticket at oldest (Some call) = refl

-- ---- page tables

past-range : (range : Range) (a : ℕ) → end_of range ≤ ADDRESS_END → 2 ^ 32 ≤ a → in_range range a ≡ false
past-range range a ends past = grind (arith, nat_tests)

past-byte : (board : Board) (memory : Memory) (a v : ℕ) → IsBoard board → 2 ^ 32 ≤ a → put_byte board memory (record { at = a; value = v }) ≡ memory
unfolding put_byte
past-byte board memory a v is past =
    rw (past-range board.flash a is.flash_bank.ends past, past-range board.sram a is.sram_bank.ends past, past-range board.peripherals a is.peripherals_bank.ends past) refl

past-cells : (board : Board) (n : ℕ) (memory : Memory) (a v : ℕ) → IsBoard board → 2 ^ 32 ≤ a → put_cells board memory (cells_of a n v) ≡ memory
past-cells board zero memory a v is past = refl
past-cells board (suc n) memory a v is past =
    ap (λ (m : Memory). put_cells board m (cells_of (a + 1) n (v / 256))) (past-byte board memory a (v % 256) is past)
    ∙ past-cells board n memory (a + 1) (v / 256) is (omega (arith, past))

-- no bank has a word past the addresses of 32 bits
pub past-word : (banks : BanksView) (a v : ℕ) → IsBoard banks.board → 2 ^ 32 ≤ a → banks ≡ with_word banks a 4 v
past-word banks a v is past = sym (ap (λ (m : Memory). record banks { memory = m }) (past-cells banks.board 4 banks.memory a v is past))

-- the first word of a table is written before the others
pub table-first : (banks : BanksView) (heap : Option HeapPart) (a b frame : ℕ) (frames : List ℕ) → b ≡ a + 4 →
    with_table banks heap a (frame ∷ frames) ≡ with_table (with_word banks a 4 (page_address heap frame)) heap b frames
table-first banks heap a b frame frames next =
    ap (λ memory. record banks { memory = memory })
    (put_cells_after banks.board banks.memory (cells_of a 4 (page_address heap frame)) (table_cells heap (a + 4) frames))
    ∙ ap (λ at. with_table (with_word banks a 4 (page_address heap frame)) heap at frames) (sym next)

take-past : (n : ℕ) (xs ys : List ℕ) → length xs ≤ n → take n (xs ++ ys) ≡ xs ++ take (n - length xs) ys
take-past n [] ys few = let all : n ≡ n - length {A = ℕ} [] = omega arith in ap (λ k. take k ys) all
take-past zero (x ∷ xs) ys few = absurd (omega arith)
take-past (suc n) (x ∷ xs) ys few =
    let same : n - length xs ≡ suc n - length (x ∷ xs) = omega arith in
    ap (λ zs. x ∷ zs) (take-past n xs ys (omega (arith, few))) ∙ ap (λ k. x ∷ (xs ++ take k ys)) same

-- at most sixteen frames over sixteen zeros
pub frames-filled : (frames : List ℕ) → length frames ≤ 16 → frames ++ drop (length frames) (replicate 16 0) ≡ take 16 (frames ++ replicate 16 0)
frames-filled frames few =
    ap (λ zs. frames ++ zs) (drop-replicate (length frames) 16 0 ∙ sym (take-replicate (16 - length frames) 16 0 (omega arith)))
    ∙ sym (take-past 16 frames (replicate 16 0) few)

-- ---- servers

get-replicated : {A : Type 0} (n : ℕ) (x : A) (rest : List A) (i : ℕ) → i < n → slice_get (replicate n x ++ rest) i ≡ Some x
get-replicated zero x rest i below = absurd (omega arith)
get-replicated (suc n) x rest zero below = refl
get-replicated (suc n) x rest (suc i) below = get-replicated n x rest i (omega (arith, below))

get-past : {A : Type 0} (n : ℕ) (x : A) (rest : List A) (i : ℕ) → slice_get (replicate n x ++ rest) (n + i) ≡ slice_get rest i
get-past zero x rest i = let same : zero + i ≡ i = omega arith in ap (slice_get rest) same
get-past (suc n) x rest i = let same : suc n + i ≡ suc (n + i) = omega arith in ap (slice_get (replicate (suc n) x ++ rest)) same ∙ get-past n x rest i

-- the home of a thread that is numbered as one of a box
home-numbered : (first k : ℕ) (parts : List BoxPart) (b : ℕ) (part : BoxPart) (t : ℕ) → AreNumbered first parts → slice_get parts b ≡ Some part →
    part.first ≤ t → t < part.first + part.threads →
    (first ≤ t) × (slice_get (homes_from k parts) (t - first) ≡ Some (record { 0 = k + b }))
home-numbered first k [] b part t numbered found low high = absurd (let e : None ≡ Some part = found in cc)
home-numbered first k (p ∷ parts) zero part t numbered found low high =
    let same : p ≡ part = cc in
    let at = numbered.0 in
    let begins : part.first ≡ first = ap (λ (q : BoxPart). q.first) (sym same) ∙ at in
    let many : p.threads ≡ part.threads = ap (λ (q : BoxPart). q.threads) same in
    let here : k ≡ k + zero = omega arith in (
      omega (arith, begins, low),
      get-replicated p.threads (record { 0 = k }) (homes_from (k + 1) parts) (t - first) (omega (arith, begins, many, low, high))
          ∙ ap (λ n. Some (record { 0 = n })) here,
    )
home-numbered first k (p ∷ parts) (suc b) part t numbered found low high =
    let rest = home-numbered (first + p.threads) (k + 1) parts b part t numbered.4 found low high in
    let later : t - first ≡ p.threads + (t - (first + p.threads)) = omega (arith, rest.0) in
    let number : (k + 1) + b ≡ k + suc b = omega arith in (
      omega (arith, rest.0),
      ap (slice_get (homes_from k (p ∷ parts))) later
          ∙ get-past p.threads (record { 0 = k }) (homes_from (k + 1) parts) (t - (first + p.threads))
          ∙ rest.1
          ∙ ap (λ n. Some (record { 0 = n })) number,
    )

numbered-part : (first : ℕ) (parts : List BoxPart) (b : ℕ) (part : BoxPart) → AreNumbered first parts → slice_get parts b ≡ Some part →
    (part.first ≤ part.server.0) × (part.server.0 < part.first + part.threads)
numbered-part first [] b part numbered found = absurd (let e : None ≡ Some part = found in cc)
numbered-part first (p ∷ parts) zero part numbered found =
    let same : p ≡ part = cc in
    subst (λ (q : BoxPart). (q.first ≤ q.server.0) × (q.server.0 < q.first + q.threads)) same (numbered.2, numbered.3)
numbered-part first (p ∷ parts) (suc b) part numbered found = numbered-part (first + p.threads) parts b part numbered.4 found

module _ (cfg : Config) (sound : IsSound cfg) (b : BoxId) (part : BoxPart) (found : slice_get cfg.boxes b.0 ≡ Some part) where
  server-home : slice_get (map (λ (p : ThreadPart). p.home) cfg.threads) part.server.0 ≡ Some b
  server-home =
      let bounds = numbered-part 0 cfg.boxes b.0 part sound.numbered found in
      let at = home-numbered 0 0 cfg.boxes b.0 part part.server.0 sound.numbered found bounds.0 bounds.1 in
      let same : part.server.0 ≡ part.server.0 - 0 = omega arith in
      let number : 0 + b.0 ≡ b.0 = omega arith in
      ap (λ hs. slice_get hs part.server.0) sound.homes ∙ ap (slice_get (homes_from 0 cfg.boxes)) same ∙ at.1
      ∙ ap (λ n. Some (record { 0 = n })) number

  mapped : option_map (λ (p : ThreadPart). p.home) (slice_get cfg.threads part.server.0) ≡ Some b
  mapped = sym (slice_get-map (λ (p : ThreadPart). p.home) cfg.threads part.server.0) ∙ server-home

  homed : (o : Option ThreadPart) → option_map (λ (p : ThreadPart). p.home) o ≡ Some b → serves_box cfg part.server.0 o ≡ true
  homed None is = absurd (let e : None ≡ Some b = is in cc)
  homed (Some thread) is =
      let home : thread.home ≡ b = cc in
      ap (λ (h : BoxId). serves_home part.server.0 h (slice_get cfg.boxes h.0)) home
      ∙ ap (serves_home part.server.0 b) found
      ∙ (let same : nat_eq part.server.0 part.server.0 ≡ true = grind (arith, nat_tests) in same)

  -- its server is the server of a box
  pub server-is : is_server_thread cfg part.server.0 ≡ true
  server-is = homed (slice_get cfg.threads part.server.0) mapped

  home-by : (o : Option ThreadPart) → option_map (λ (p : ThreadPart). p.home) o ≡ Some b →
      option_map_or (λ (p : ThreadPart). p.home) o (record { 0 = 0 }) ≡ b
  home-by None is = absurd (let e : None ≡ Some b = is in cc)
  home-by (Some thread) is = let home : thread.home ≡ b = cc in home

  -- which is this one
  pub server-home-is : home_of cfg part.server.0 ≡ b
  server-home-is = home-by (slice_get cfg.threads part.server.0) mapped

  -- so it serves what the server of the box serves
  pub serving-is : (serving : List (Option Ticket)) → thread_serving cfg serving part.server.0 ≡ served_ticket serving b.0
  serving-is serving =
      ap (λ t. cond t (served_ticket serving (home_of cfg part.server.0).0) None) server-is
      ∙ ap (λ (h : BoxId). served_ticket serving h.0) server-home-is
