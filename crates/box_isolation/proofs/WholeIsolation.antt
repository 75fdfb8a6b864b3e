-- The whole of isolation: over every legal log, from the start on.
use Rattle.std.proofs.Common.{◌≡◌, ℕ, zero, suc, ◌+◌, ◌-◌, Bool, true, false, List, [], ◌∷◌, ◌++◌, map, take, drop, length, replicate, Option, Some, None, refl, sym, ◌∙◌, ap, subst, inl, inr}
use Rattle.std.specs.Prelude.{is_some, unwrap_or, filter_map, if◌then◌else◌, slice_get}
use Rattle.std.specs.Option.{option_map}
use Rattle.std.proofs.lemmas.Bool.{cases_Bool, or_cases, false≢true, eqb-true}
use Rattle.std.proofs.lemmas.List.{length-replicate, length-map, length-set}
use Rattle.std.proofs.lemmas.Option.{slice_get_within}
use Rattle.addr_base.specs.declared.identity.ThreadId.{ThreadId}
use Rattle.addr_base.specs.declared.identity.Ticket.{Ticket}
use Rattle.flat_model.specs.declared.boards.Board.{Board}
use Rattle.flat_model.specs.declared.boards.HeapPart.{HeapPart}
use Rattle.flat_model.specs.declared.boards.Word.{Word}
use Rattle.flat_model.specs.declared.events.Choice.{Choice}
use Rattle.flat_model.specs.declared.events.Choice.TheVariants as choice
use Rattle.flat_model.specs.declared.events.Entry.{Entry}
use Rattle.flat_model.specs.declared.events.Reply.{Reply}
use Rattle.flat_model.specs.declared.logs.Log.{Log}
use Rattle.flat_model.specs.declared.parts.BoxPart.{BoxPart}
use Rattle.flat_model.specs.declared.parts.Config.{Config}
use Rattle.flat_model.specs.declared.parts.ThreadPart.{ThreadPart}
use Rattle.flat_model.specs.declared.states.Flat.{Flat}
use Rattle.flat_model.specs.declared.states.Memory.{Memory}
use Rattle.flat_model.specs.declared.states.ThreadState.{ThreadState}
use Rattle.flat_model.specs.Access.{in_heap, in_pages, owned_by}
use Rattle.flat_model.specs.Actors.{Actor, actor_in, actor_of, actor_with, live_actor}
use Rattle.box_isolation.specs.Alone.{alone_opening, alone_thread, lone_replies, replies_from}
use Rattle.box_isolation.specs.AloneLines.{with_latch}
use Rattle.flat_model.specs.Cells.{cells_of}
use Rattle.box_isolation.specs.AloneMemory.{is_own_page}
use Rattle.box_isolation.specs.AloneState.{Lone, byte_in, noted}
use Rattle.box_isolation.specs.Arrivals.{Arrival, event, idle, nothing, start, turn}
use Rattle.flat_model.specs.Interrupts.{has_line}
use Rattle.box_isolation.specs.Isolation.{AreAlike, Isolated, is_event_of, replies_to_box, reply_for}
use Rattle.flat_model.specs.Legal.{IsLegal, all_fit}
use Rattle.flat_model.specs.Log.{choices_of, entries_of}
use Rattle.flat_model.specs.Memory.{blank_memory, byte_at, opening_memory, put_word, with_words}
use Rattle.flat_model.specs.OneLog.{entries_of_run}
use Rattle.box_isolation.specs.Part.{addresses_of, cells_at, own_of, part_of, program_of}
use Rattle.box_isolation.specs.Reach.{arrivals_by, arrivals_from, is_thread_of, reach_of, turn_arrivals}
use Rattle.flat_model.specs.Run.{opening_state}
use Rattle.flat_model.specs.Sound.{IsSound}
use Rattle.flat_model.specs.Step.{fitting_step, reply_to, rung as line_rung, serve_by, state_after, step, turn_by}
use Rattle.box_isolation.specs.Supplies.{supply_of_idle, supply_of_start}
use Rattle.flat_model.specs.Thread.{has_ended}
use Rattle.flat_model.specs.Want.{fits}
use Rattle.box_isolation.proofs.AlikeBoxes.{IsBeside, heap_count}
use Rattle.box_isolation.proofs.Isolating.{OtherStep, OwnStep, other-serve, other-turn}
use Rattle.flat_model.proofs.LegalLogs.{entries-run}
use Rattle.box_isolation.proofs.ListedBytes.{each-cells_at, has-addresses_of, in_items, writes-cells_at}
use Rattle.box_isolation.proofs.MeetsLines.{latched-alike, set-apart}
use Rattle.flat_model.proofs.NamedChoices.{both_true}
use Rattle.box_isolation.proofs.NotedBytes.{IsSized, IsSized-put_cells, noted-is}
use Rattle.box_isolation.proofs.OwnSteps.{ended-step, live-idle, live-start, live-turn, lone-live}
use Rattle.box_isolation.proofs.SeenBytes.{sees}
use Rattle.box_isolation.proofs.Settled.{IsSettled, IsSettled-from_sound}
use Rattle.flat_model.proofs.StepCases.{step-fits}

-- ---- the box's own events, where there is an actor or none

module _ (cfg : Config) (b : ℕ) (box : BoxPart) (f : Flat) (s : Lone) (is_settled : IsSettled cfg b box) (beside : IsBeside cfg b box f s) where
  -- what holds of a live thread of the box, told with its own home
  at-home : (program : ThreadPart) → program.home.0 ≡ b → (X : ℕ → Type 0) → (IsSettled cfg program.home.0 box → IsBeside cfg program.home.0 box f s → X program.home.0) → X b
  at-home program same X it =
      subst X same (it (subst (λ c. IsSettled cfg c box) (sym same) is_settled) (subst (λ c. IsBeside cfg c box f s) (sym same) beside))

  home-is : (t : ℕ) (program : ThreadPart) → is_thread_of box t ≡ true → slice_get cfg.threads t ≡ Some program → program.home.0 ≡ b
  home-is t program own at = eqb-true program.home.0 b (sym (is_settled.homes t program at) ∙ own)

  actor-here : (t : ℕ) (program : ThreadPart) (th : ThreadState) → is_thread_of box t ≡ true → slice_get cfg.threads t ≡ Some program → actor_in cfg program th ≡ Some (record { part = box; program = program; thread = th })
  actor-here t program th own at =
      ap (option_map (actor_with program th)) (ap (slice_get cfg.boxes) (home-is t program own at) ∙ is_settled.here)

  abbrev turn-goal : (t : ThreadId) (room : Bool) → Option Actor → Type 0
  turn-goal t room o = OwnStep cfg b box s (turn_by cfg f t room o) (turn_arrivals cfg box f (turn_by cfg f t room o).0 t.0 room (turn_by cfg f t room o).1 o)

  turn-by : (t : ThreadId) (room : Bool) → is_thread_of box t.0 ≡ true → (p : Option ThreadPart) (th : Option ThreadState) → slice_get cfg.threads t.0 ≡ p → slice_get f.threads t.0 ≡ th → turn-goal t room (live_actor cfg p th)
  turn-by t room own None th program thread =
      ended-step cfg b box f s (t.0 - box.first) (turn room) nothing beside (lone-live cfg b box f s is_settled beside t.0 (turn room) nothing own None th program thread)
  turn-by t room own (Some program) None has_program has_thread =
      ended-step cfg b box f s (t.0 - box.first) (turn room) nothing beside (lone-live cfg b box f s is_settled beside t.0 (turn room) nothing own (Some program) None has_program has_thread)
  turn-by t room own (Some program) (Some th) has_program has_thread = by_end (has_ended th) refl
    where
      by_end : (e : Bool) → has_ended th ≡ e → turn-goal t room (if e then None else actor_in cfg program th)
      by_end true ended =
          ended-step cfg b box f s (t.0 - box.first) (turn room) nothing beside
          (lone-live cfg b box f s is_settled beside t.0 (turn room) nothing own (Some program) (Some th) has_program has_thread ∙ rw ended refl)
      by_end false live =
          subst (turn-goal t room) (sym (actor-here t.0 program th own has_program))
          (at-home program (home-is t.0 program own has_program) (λ c. OwnStep cfg c box s (turn_by cfg f t room (Some (record { part = box; program = program; thread = th }))) (turn_arrivals cfg box f (turn_by cfg f t room (Some (record { part = box; program = program; thread = th }))).0 t.0 room (turn_by cfg f t room (Some (record { part = box; program = program; thread = th }))).1 (Some (record { part = box; program = program; thread = th }))))
          (λ settled_here beside_here. live-turn cfg box f s t program th settled_here beside_here own has_program has_thread live room))

  abbrev start-goal : (t : ThreadId) (ticket : Ticket) → Option Actor → Type 0
  start-goal t ticket o = OwnStep cfg b box s (serve_by cfg f t (Some ticket) o) (event (t.0 - box.first) start (supply_of_start (serve_by cfg f t (Some ticket) o).1) ∷ [])

  start-by : (t : ThreadId) (ticket : Ticket) → is_thread_of box t.0 ≡ true → (p : Option ThreadPart) (th : Option ThreadState) → slice_get cfg.threads t.0 ≡ p → slice_get f.threads t.0 ≡ th → start-goal t ticket (live_actor cfg p th)
  start-by t ticket own None th program thread =
      ended-step cfg b box f s (t.0 - box.first) start nothing beside (lone-live cfg b box f s is_settled beside t.0 start nothing own None th program thread)
  start-by t ticket own (Some program) None has_program has_thread =
      ended-step cfg b box f s (t.0 - box.first) start nothing beside (lone-live cfg b box f s is_settled beside t.0 start nothing own (Some program) None has_program has_thread)
  start-by t ticket own (Some program) (Some th) has_program has_thread = by_end (has_ended th) refl
    where
      by_end : (e : Bool) → has_ended th ≡ e → start-goal t ticket (if e then None else actor_in cfg program th)
      by_end true ended =
          ended-step cfg b box f s (t.0 - box.first) start nothing beside
          (lone-live cfg b box f s is_settled beside t.0 start nothing own (Some program) (Some th) has_program has_thread ∙ rw ended refl)
      by_end false live =
          subst (start-goal t ticket) (sym (actor-here t.0 program th own has_program))
          (at-home program (home-is t.0 program own has_program) (λ c. OwnStep cfg c box s (serve_by cfg f t (Some ticket) (Some (record { part = box; program = program; thread = th }))) (event (t.0 - box.first) start (supply_of_start (serve_by cfg f t (Some ticket) (Some (record { part = box; program = program; thread = th }))).1) ∷ []))
          (λ settled_here beside_here. live-start cfg box f s t program th settled_here beside_here own has_program has_thread live ticket))

  abbrev idle-goal : (t : ThreadId) → Option Actor → Type 0
  idle-goal t o = OwnStep cfg b box s (serve_by cfg f t None o) (event (t.0 - box.first) idle supply_of_idle ∷ [])

  idle-by : (t : ThreadId) → is_thread_of box t.0 ≡ true → (p : Option ThreadPart) (th : Option ThreadState) → slice_get cfg.threads t.0 ≡ p → slice_get f.threads t.0 ≡ th → idle-goal t (live_actor cfg p th)
  idle-by t own None th program thread =
      ended-step cfg b box f s (t.0 - box.first) idle nothing beside (lone-live cfg b box f s is_settled beside t.0 idle nothing own None th program thread)
  idle-by t own (Some program) None has_program has_thread =
      ended-step cfg b box f s (t.0 - box.first) idle nothing beside (lone-live cfg b box f s is_settled beside t.0 idle nothing own (Some program) None has_program has_thread)
  idle-by t own (Some program) (Some th) has_program has_thread = by_end (has_ended th) refl
    where
      by_end : (e : Bool) → has_ended th ≡ e → idle-goal t (if e then None else actor_in cfg program th)
      by_end true ended =
          ended-step cfg b box f s (t.0 - box.first) idle nothing beside
          (lone-live cfg b box f s is_settled beside t.0 idle nothing own (Some program) (Some th) has_program has_thread ∙ rw ended refl)
      by_end false live =
          subst (idle-goal t) (sym (actor-here t.0 program th own has_program))
          (at-home program (home-is t.0 program own has_program) (λ c. OwnStep cfg c box s (serve_by cfg f t None (Some (record { part = box; program = program; thread = th }))) (event (t.0 - box.first) idle supply_of_idle ∷ []))
          (λ settled_here beside_here. live-idle cfg box f s t program th settled_here beside_here own has_program has_thread live))

-- ---- every choice

-- what a choice of the box's own gives, and what another gives
abbrev StepGoal : Config → ℕ → BoxPart → Lone → Choice → Flat × Reply → List Arrival → Type 0
StepGoal cfg b box s c after arrivals =
    (rest : List Arrival) (more : List Reply) → ((lone : Lone) → IsBeside cfg b box after.0 lone → more ≡ replies_from (part_of cfg b box) lone rest) →
    filter_map (reply_for box) (record { choice = c; reply = after.1 } ∷ []) ++ more ≡ replies_from (part_of cfg b box) s (arrivals ++ rest)

own-goal : (cfg : Config) (b : ℕ) (box : BoxPart) (s : Lone) (c : Choice) (after : Flat × Reply) (arrivals : List Arrival) → is_event_of box c ≡ true → OwnStep cfg b box s after arrivals → StepGoal cfg b box s c after arrivals
own-goal cfg b box s c after arrivals own it rest more again =
    (rw own (ap (λ rs. after.1 ∷ rs) (again it.lone it.beside))) ∙ sym (it.answers rest)

other-goal : (cfg : Config) (b : ℕ) (box : BoxPart) (s : Lone) (c : Choice) (after : Flat × Reply) (arrivals : List Arrival) → is_event_of box c ≡ false → OtherStep cfg b box s after arrivals → StepGoal cfg b box s c after arrivals
other-goal cfg b box s c after arrivals far it rest more again =
    (rw far (again it.lone it.beside)) ∙ sym (it.answers rest)

module _ (cfg : Config) (b : ℕ) (box : BoxPart) (f : Flat) (s : Lone) (is_settled : IsSettled cfg b box) (beside : IsBeside cfg b box f s) where
  abbrev brings : Choice → List Arrival
  brings c = arrivals_by cfg box f (fitting_step cfg f c).0 (fitting_step cfg f c).1 c

  step-goal : (c : Choice) → StepGoal cfg b box s c (fitting_step cfg f c) (brings c)
  step-goal (choice.Turn t room) = elim (cases_Bool (is_thread_of box t.0)) [
    | inl own ↦ own-goal cfg b box s (choice.Turn t room) (fitting_step cfg f (choice.Turn t room)) (brings (choice.Turn t room)) own
        (rw own (turn-by cfg b box f s is_settled beside t room own (slice_get cfg.threads t.0) (slice_get f.threads t.0) refl refl))
    | inr far ↦ other-goal cfg b box s (choice.Turn t room) (fitting_step cfg f (choice.Turn t room)) (brings (choice.Turn t room)) far
        (rw far (other-turn cfg b box f s is_settled beside t room (actor_of cfg f t.0) refl far))
  ]
  step-goal (choice.Start t ticket) = elim (cases_Bool (is_thread_of box t.0)) [
    | inl own ↦ own-goal cfg b box s (choice.Start t ticket) (fitting_step cfg f (choice.Start t ticket)) (brings (choice.Start t ticket)) own
        (rw own (start-by cfg b box f s is_settled beside t ticket own (slice_get cfg.threads t.0) (slice_get f.threads t.0) refl refl))
    | inr far ↦ other-goal cfg b box s (choice.Start t ticket) (fitting_step cfg f (choice.Start t ticket)) (brings (choice.Start t ticket)) far
        (rw far (other-serve cfg b box f s is_settled beside t (Some ticket) (actor_of cfg f t.0) refl far))
  ]
  step-goal (choice.Idle t) = elim (cases_Bool (is_thread_of box t.0)) [
    | inl own ↦ own-goal cfg b box s (choice.Idle t) (fitting_step cfg f (choice.Idle t)) (brings (choice.Idle t)) own
        (rw own (idle-by cfg b box f s is_settled beside t own (slice_get cfg.threads t.0) (slice_get f.threads t.0) refl refl))
    | inr far ↦ other-goal cfg b box s (choice.Idle t) (fitting_step cfg f (choice.Idle t)) (brings (choice.Idle t)) far
        (rw far (other-serve cfg b box f s is_settled beside t None (actor_of cfg f t.0) refl far))
  ]
  step-goal (choice.Ring line by) = elim (cases_Bool (has_line line.0 box.irqs)) [
    | inl own ↦ other-goal cfg b box s (choice.Ring line by) (fitting_step cfg f (choice.Ring line by)) (brings (choice.Ring line by)) refl
        (rw own (record {
          lone = record s { kept = with_latch line.0 s.kept };
          answers = λ rest. refl;
          beside = record { kept = latched-alike cfg b box (slice_get_within cfg.boxes b box is_settled.here) f.shared s.kept line.0 beside.kept; threads = beside.threads };
        }))
    | inr far ↦ other-goal cfg b box s (choice.Ring line by) (fitting_step cfg f (choice.Ring line by)) (brings (choice.Ring line by)) refl
        (rw far (record { lone = s; answers = λ rest. refl; beside = rung-beside line.0 far }))
  ]
    where
      rung-beside : (line : ℕ) → has_line line box.irqs ≡ false → IsBeside cfg b box (line_rung f line) s
      rung-beside line far = record {
        kept = record {
          memory = beside.kept.memory;
          pages = beside.kept.pages;
          calls = beside.kept.calls;
          lines = record {
            count = beside.kept.lines.count;
            latched_count = beside.kept.lines.latched_count ∙ sym (length-set f.shared.lines.latched line true);
            enabled_count = beside.kept.lines.enabled_count;
            latched = λ n own. beside.kept.lines.latched n own ∙ sym (set-apart f.shared.lines.latched line n true (λ same. false≢true (sym far ∙ subst (λ l. has_line l box.irqs ≡ true) (sym same) own)));
            enabled = beside.kept.lines.enabled;
            saved = beside.kept.lines.saved;
          };
        };
        threads = beside.threads;
      }

-- ---- the induction

pub replies-isolated : (cfg : Config) (b : ℕ) (box : BoxPart) (f : Flat) (s : Lone) (cs : List Choice) → IsSettled cfg b box → IsBeside cfg b box f s → all_fit cfg f cs ≡ true →
    filter_map (reply_for box) (entries_of_run cfg f cs) ≡ replies_from (part_of cfg b box) s (arrivals_from cfg box f cs)
replies-isolated cfg b box f s [] is_settled beside fit = refl
replies-isolated cfg b box f s (c ∷ cs) is_settled beside fit =
    let it = both_true (fits cfg f c) (all_fit cfg (state_after cfg f c) cs) fit in
    let is : step cfg f c ≡ fitting_step cfg f c = step-fits cfg f c it.0 in
    first-reply box (record { choice = c; reply = reply_to cfg f c }) (entries_of_run cfg (state_after cfg f c) cs)
    ∙ subst (λ (after : Flat × Reply). StepGoal cfg b box s c after (arrivals_by cfg box f after.0 after.1 c)) (sym is) (step-goal cfg b box f s is_settled beside c)
    (arrivals_from cfg box (state_after cfg f c) cs) (filter_map (reply_for box) (entries_of_run cfg (state_after cfg f c) cs))
    (λ lone both. replies-isolated cfg b box (state_after cfg f c) lone cs is_settled both it.1)
  where
    first-reply : (box : BoxPart) (e : Entry) (es : List Entry) → filter_map (reply_for box) (e ∷ es) ≡ filter_map (reply_for box) (e ∷ []) ++ filter_map (reply_for box) es
    first-reply box e es = elim (cases_Bool (is_event_of box e.choice)) [
      | inl own ↦ rw own refl
      | inr far ↦ rw far refl
    ]

-- ---- the start

sized-words : (board : Board) (m : Memory) (words : List Word) → IsSized board m → IsSized board (with_words board m words)
sized-words board m [] size = size
sized-words board m (word ∷ words) size = sized-words board (put_word board m word.at 4 word.value) words (IsSized-put_cells board m (cells_of word.at 4 word.value) size)

sized-opening : (board : Board) → IsSized board (opening_memory board)
sized-opening board = sized-words board (blank_memory board) board.words (record {
  flash = length-replicate board.flash.len 0;
  sram = length-replicate board.sram.len 0;
  peripherals = length-replicate board.peripherals.len 0;
})

no-pages : (base page a n : ℕ) → in_pages is_own_page base page a 1 (replicate n false) ≡ false
no-pages base page a zero = refl
no-pages base page a (suc n) = no-pages (base + page) page a n

no-heap : (heap : Option HeapPart) (a n : ℕ) → in_heap is_own_page heap a 1 (replicate n false) ≡ false
no-heap None a n = refl
no-heap (Some h) a n = no-pages h.base h.page a n

map-replicate : {A B : Type 0} (g : A → B) (n : ℕ) (x : A) → replicate n (g x) ≡ map g (replicate n x)
map-replicate g zero x = refl
map-replicate g (suc n) x = ap (λ rest. g x ∷ rest) (map-replicate g n x)

none-at : {A : Type 0} (n i : ℕ) (o : Option A) → o ≡ None → unwrap_or (slice_get (replicate n o) i) None ≡ None
none-at zero i o is = refl
none-at (suc n) zero o is = is
none-at (suc n) (suc i) o is = none-at n i o is

drop-copies : {A B : Type 0} (m : ℕ) (ys : List B) (x : A) → drop m (replicate (length ys) x) ≡ replicate (length (drop m ys)) x
drop-copies zero ys x = refl
drop-copies (suc m) [] x = refl
drop-copies (suc m) (y ∷ ys) x = drop-copies m ys x

take-copies : {A B : Type 0} (n : ℕ) (ys : List B) (x : A) → take n (replicate (length ys) x) ≡ replicate (length (take n ys)) x
take-copies zero ys x = refl
take-copies (suc n) [] x = refl
take-copies (suc n) (y ∷ ys) x = ap (λ rest. x ∷ rest) (take-copies n ys x)

pub opening-beside : (cfg : Config) (b : ℕ) (box : BoxPart) → IsSettled cfg b box → IsBeside cfg b box (opening_state cfg) (alone_opening (part_of cfg b box))
unfolding opening_state
opening-beside cfg b box is_settled = record {
  kept = record {
    memory = record { size = sized-opening cfg.board; bytes = bytes };
    pages = record {
      count = length-replicate (heap_count cfg.board.heap) None;
      own = map-replicate (owned_by b) (heap_count cfg.board.heap) None;
    };
    calls = record {
      count = length-replicate (length cfg.boxes) None;
      open_calls = refl;
      serves = sym (ap is_some (none-at (length cfg.boxes) b None refl));
    };
    lines = record {
      count = length-replicate (length cfg.boxes) None;
      latched_count = refl;
      enabled_count = refl;
      latched = λ line own. refl;
      enabled = λ line own. refl;
      saved = sym (none-at (length cfg.boxes) b None refl);
    };
  };
  threads = ap (λ n. replicate n alone_thread) (length-map (own_of box cfg.threads) program_of)
      ∙ sym (ap (take box.threads) (drop-copies box.first cfg.threads alone_thread) ∙ take-copies box.threads (drop box.first cfg.threads) alone_thread);
}
  where
    at : ℕ → ℕ
    at = byte_at cfg.board (opening_memory cfg.board)

    bytes : (a : ℕ) → sees (part_of cfg b box) (replicate (heap_count cfg.board.heap) false) a ≡ true → byte_in (noted (cells_at at (addresses_of box.items)) []) a ≡ at a
    bytes a seen = elim (or_cases (in_items box.items a) (in_heap is_own_page cfg.board.heap a 1 (replicate (heap_count cfg.board.heap) false)) seen) [
      | inl item ↦ noted-is at (cells_at at (addresses_of box.items)) [] a (each-cells_at at (addresses_of box.items)) (inr (writes-cells_at at (addresses_of box.items) a (has-addresses_of a box.items item)))
      | inr page ↦ absurd (false≢true (sym (no-heap cfg.board.heap a (heap_count cfg.board.heap)) ∙ page))
    ]

-- ---- the law

-- every answer that a box gets in a legal log is one that the box by itself gives to what reached it
pub isolated : (cfg : Config) (log : Log) → IsSound cfg → IsLegal cfg log → Isolated cfg log
isolated cfg log is_sound legal b box here =
    let settled_here = IsSettled-from_sound cfg is_sound b box here in
    ap (filter_map (reply_for box)) (entries-run cfg (opening_state cfg) (entries_of log.items) legal.flat.replies)
    ∙ replies-isolated cfg b box (opening_state cfg) (alone_opening (part_of cfg b box)) (choices_of log.items) settled_here (opening-beside cfg b box settled_here) legal.flat.fitting

-- where a box has the same part in two worlds, and the same reached it, it got the same replies
pub two_worlds : (first : Config) (first_log : Log) (second : Config) (second_log : Log) (b : ℕ) (box twin : BoxPart) → IsSound first → IsSound second → IsLegal first first_log → IsLegal second second_log →
    AreAlike first first_log second second_log b box twin → replies_to_box box first_log ≡ replies_to_box twin second_log
two_worlds first first_log second second_log b box twin first_sound second_sound first_legal second_legal alike =
    isolated first first_log first_sound first_legal b box alike.here
    ∙ ap (λ part. lone_replies part (reach_of first box first_log)) alike.part
    ∙ ap (lone_replies (part_of second b twin)) alike.reach
    ∙ sym (isolated second second_log second_sound second_legal b twin alike.there)
