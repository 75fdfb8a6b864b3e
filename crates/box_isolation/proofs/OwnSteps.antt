-- An event of the box's own, in its whole: the box by itself gives the same reply, and both go on side by side.
use Rattle.std.proofs.Common.{◌≡◌, ℕ, ◌-◌, Bool, true, false, [], ◌∷◌, ◌++◌, Option, Some, None, refl, sym, ◌∙◌, ap}
use Rattle.std.specs.Prelude.{slice_get, slice_set}
use Rattle.std.specs.Option.{option_map}
use Rattle.std.proofs.lemmas.Option.{slice_get_within}
use Rattle.addr_base.specs.declared.identity.ThreadId.{ThreadId}
use Rattle.addr_base.specs.declared.identity.Ticket.{Ticket}
use Rattle.flat_model.specs.declared.events.Reply.{Reply}
use Rattle.flat_model.specs.declared.events.Reply.TheVariants as reply
use Rattle.flat_model.specs.declared.next.Next.{Next}
use Rattle.flat_model.specs.declared.parts.BoxPart.{BoxPart}
use Rattle.flat_model.specs.declared.parts.Config.{Config}
use Rattle.flat_model.specs.declared.parts.ThreadPart.{ThreadPart}
use Rattle.flat_model.specs.declared.states.Flat.{Flat}
use Rattle.flat_model.specs.declared.states.ThreadState.{ThreadState}
use Rattle.flat_model.specs.Actors.{Actor, who_acts}
use Rattle.box_isolation.specs.Alone.{alone_event, alone_next, alone_row, replies_from}
use Rattle.box_isolation.specs.AloneCalls.{alone_start}
use Rattle.box_isolation.specs.AloneLines.{alone_due}
use Rattle.box_isolation.specs.AloneState.{Left, Lone, alone_refused, kept_noting}
use Rattle.box_isolation.specs.Arrivals.{Deed, Part, Supply, event, idle, nothing, start, supplied_call, turn}
use Rattle.flat_model.specs.CallRows.{server_row}
use Rattle.flat_model.specs.Calls.{next_call}
use Rattle.flat_model.specs.Interrupts.{due_interrupt}
use Rattle.flat_model.specs.Next.{holds_next, next_of}
use Rattle.flat_model.specs.Outcome.{Outcome}
use Rattle.box_isolation.specs.Part.{part_of, program_of}
use Rattle.box_isolation.specs.Reach.{is_thread_of, listed, own_changes, turn_arrivals}
use Rattle.flat_model.specs.Step.{serve_by, settled, turn_by}
use Rattle.box_isolation.specs.Supplies.{supply_of_idle, supply_of_start, supply_of_turn}
use Rattle.flat_model.specs.Thread.{bounded, counted, has_ended}
use Rattle.flat_model.specs.Turn.{row_of, turn_row, within_budget}
use Rattle.box_isolation.proofs.AlikeBoxes.{IsAlike, IsBeside}
use Rattle.box_isolation.proofs.Isolating.{OwnStep, listed-replies, own-program, own-set, own-thread}
use Rattle.box_isolation.proofs.MeetsCalls.{start-meets}
use Rattle.box_isolation.proofs.OwnEvents.{due-next, row-follows}
use Rattle.box_isolation.proofs.Settled.{IsSettled}

-- the event of a thread that has ended, or is not there
pub ended-step : (cfg : Config) (b : ℕ) (box : BoxPart) (f : Flat) (s : Lone) (i : ℕ) (deed : Deed) (supply : Supply) → IsBeside cfg b box f s →
    alone_event (part_of cfg b box) s i deed supply (slice_get (part_of cfg b box).programs i) (slice_get s.threads i) ≡ (s, reply.Ended) →
    OwnStep cfg b box s (f, reply.Ended) (event i deed supply ∷ [])
ended-step cfg b box f s i deed supply beside is = record {
  lone = s;
  answers = λ rest. ap (λ (p : Lone × Reply). p.1 ∷ replies_from (part_of cfg b box) p.0 rest) is;
  beside = beside;
}

-- what the lone machine does for a live thread
pub lone-live : (cfg : Config) (b : ℕ) (box : BoxPart) (f : Flat) (s : Lone) → IsSettled cfg b box → IsBeside cfg b box f s → (t : ℕ) (deed : Deed) (supply : Supply) → is_thread_of box t ≡ true →
    (p : Option ThreadPart) (th : Option ThreadState) → slice_get cfg.threads t ≡ p → slice_get f.threads t ≡ th →
    alone_event (part_of cfg b box) s (t - box.first) deed supply (slice_get (part_of cfg b box).programs (t - box.first)) (slice_get s.threads (t - box.first))
    ≡ alone_event (part_of cfg b box) s (t - box.first) deed supply (option_map program_of p) th
lone-live cfg b box f s is_settled beside t deed supply own p th program thread =
    ap (λ o. alone_event (part_of cfg b box) s (t - box.first) deed supply o (slice_get s.threads (t - box.first)))
    (own-program cfg b box f s is_settled beside t own ∙ ap (option_map program_of) program)
    ∙ ap (alone_event (part_of cfg b box) s (t - box.first) deed supply (option_map program_of p)) (own-thread cfg b box f s is_settled beside t own ∙ thread)

module _ (cfg : Config) (box : BoxPart) (f : Flat) (s : Lone) (t : ThreadId) (program : ThreadPart) (th : ThreadState)
    (is_settled : IsSettled cfg program.home.0 box) (beside : IsBeside cfg program.home.0 box f s) (own : is_thread_of box t.0 ≡ true)
    (has_program : slice_get cfg.threads t.0 ≡ Some program) (has_thread : slice_get f.threads t.0 ≡ Some th) (live : has_ended th ≡ false) where
  actor : Actor
  actor = record { part = box; program = program; thread = th }

  i : ℕ
  i = t.0 - box.first

  -- both put back a row that they agree on
  put-back : (out : Outcome) (left : Left) → left.thread ≡ out.thread → IsAlike cfg program.home.0 box out.shared left.kept →
      IsBeside cfg program.home.0 box (settled f t.0 (within_budget program.steps out)).0 (record { kept = left.kept; threads = slice_set s.threads (t.0 - box.first) (bounded program.steps left.thread) })
  put-back out left thread kept = record {
    kept = kept;
    threads = ap (λ x. slice_set s.threads (t.0 - box.first) (bounded program.steps x)) thread
        ∙ ap (λ xs. slice_set xs (t.0 - box.first) (bounded program.steps out.thread)) beside.threads
        ∙ sym (own-set box t.0 (bounded program.steps out.thread) f.threads own);
  }

  pub live-turn : (room : Bool) → OwnStep cfg program.home.0 box s (turn_by cfg f t room (Some (record { part = box; program = program; thread = th })))
      (turn_arrivals cfg box f (turn_by cfg f t room (Some (record { part = box; program = program; thread = th }))).0 t.0 room (turn_by cfg f t room (Some (record { part = box; program = program; thread = th }))).1
      (Some (record { part = box; program = program; thread = th })))
  live-turn room = by_next (next_of program th (due_interrupt f.shared.lines box program.home.0 t.0)) refl
    where
      part : Part
      part = part_of cfg program.home.0 box

      by_next : (n : Next) → next_of program th (due_interrupt f.shared.lines box program.home.0 t.0) ≡ n →
          OwnStep cfg program.home.0 box s (settled f t.0 (turn_row cfg (record { home = program.home; thread = t; room = room }) box program.steps f.shared th (holds_next cfg.board program.home.0 box f.shared.owners n) n))
          (event (t.0 - box.first) (turn room) (supply_of_turn (Some n) (row_of cfg (record { home = program.home; thread = t; room = room }) box f.shared (counted th) (holds_next cfg.board program.home.0 box f.shared.owners n) n).reply)
          ∷ listed (own_changes cfg box f (settled f t.0 (turn_row cfg (record { home = program.home; thread = t; room = room }) box program.steps f.shared th (holds_next cfg.board program.home.0 box f.shared.owners n) n)).0 n))
      by_next n is =
          let who = who_acts (record { part = box; program = program; thread = th }) t room in
          let out = row_of cfg who box f.shared (counted th) (holds_next cfg.board program.home.0 box f.shared.owners n) n in
          let supply = supply_of_turn (Some n) out.reply in
          let left = alone_row (part_of cfg program.home.0 box) (t.0 - box.first) room supply s.kept (counted th) n in
          let it = row-follows cfg who box is_settled own f.shared s.kept (counted th) n beside.kept in
          let next : alone_next (program_of program) th (alone_due s.kept.lines box.irqs (t.0 - box.first)) ≡ n = due-next cfg who box is_settled own f.shared s.kept program th beside.kept ∙ is in
          let changes = own_changes cfg box f (settled f t.0 (within_budget program.steps out)).0 n in
          let event_is : alone_event (part_of cfg program.home.0 box) s (t.0 - box.first) (turn room) supply (slice_get (part_of cfg program.home.0 box).programs (t.0 - box.first)) (slice_get s.threads (t.0 - box.first))
          ≡ (record { kept = left.kept; threads = slice_set s.threads (t.0 - box.first) (bounded program.steps left.thread) }, left.reply) =
          lone-live cfg program.home.0 box f s is_settled beside t.0 (turn room) supply own (Some program) (Some th) has_program has_thread ∙ (rw (live, next) refl) in
          record {
            lone = record { kept = kept_noting changes left.kept; threads = slice_set s.threads (t.0 - box.first) (bounded program.steps left.thread) };
            answers = λ rest.
                ap (λ (p : Lone × Reply). p.1 ∷ replies_from (part_of cfg program.home.0 box) p.0 (listed changes ++ rest)) event_is
                ∙ ap (λ r. r ∷ replies_from (part_of cfg program.home.0 box) (record { kept = left.kept; threads = slice_set s.threads (t.0 - box.first) (bounded program.steps left.thread) }) (listed changes ++ rest)) it.reply
                ∙ ap (λ rs. out.reply ∷ rs) (listed-replies (part_of cfg program.home.0 box) (record { kept = left.kept; threads = slice_set s.threads (t.0 - box.first) (bounded program.steps left.thread) }) changes rest);
            beside = put-back out (record left { kept = kept_noting changes left.kept }) it.thread it.kept;
          }

  pub live-start : (ticket : Ticket) → OwnStep cfg program.home.0 box s (serve_by cfg f t (Some ticket) (Some (record { part = box; program = program; thread = th })))
      (event (t.0 - box.first) start (supply_of_start (serve_by cfg f t (Some ticket) (Some (record { part = box; program = program; thread = th }))).1) ∷ [])
  live-start ticket =
      let out = server_row cfg program.home.0 f.shared (counted th) (Some ticket) in
      let supply = supply_of_start out.reply in
      let left = alone_start s.kept (counted th) (supplied_call supply) in
      let it = start-meets cfg program.home.0 box (slice_get_within cfg.boxes program.home.0 box is_settled.here) f.shared s.kept (counted th) ticket (next_call ticket program.home.0 f.shared.calls) beside.kept in
      let event_is : alone_event (part_of cfg program.home.0 box) s (t.0 - box.first) start supply (slice_get (part_of cfg program.home.0 box).programs (t.0 - box.first)) (slice_get s.threads (t.0 - box.first))
      ≡ (record { kept = left.kept; threads = slice_set s.threads (t.0 - box.first) (bounded program.steps left.thread) }, left.reply) =
      lone-live cfg program.home.0 box f s is_settled beside t.0 start supply own (Some program) (Some th) has_program has_thread ∙ (rw live refl) in
      record {
        lone = record { kept = left.kept; threads = slice_set s.threads (t.0 - box.first) (bounded program.steps left.thread) };
        answers = λ rest.
            ap (λ (p : Lone × Reply). p.1 ∷ replies_from (part_of cfg program.home.0 box) p.0 rest) event_is
            ∙ ap (λ r. r ∷ replies_from (part_of cfg program.home.0 box) (record { kept = left.kept; threads = slice_set s.threads (t.0 - box.first) (bounded program.steps left.thread) }) rest) it.reply;
        beside = put-back out left it.thread it.kept;
      }

  pub live-idle : OwnStep cfg program.home.0 box s (serve_by cfg f t None (Some (record { part = box; program = program; thread = th }))) (event (t.0 - box.first) idle supply_of_idle ∷ [])
  live-idle =
      let left = alone_refused s.kept (counted th) 2 in
      let event_is : alone_event (part_of cfg program.home.0 box) s (t.0 - box.first) idle nothing (slice_get (part_of cfg program.home.0 box).programs (t.0 - box.first)) (slice_get s.threads (t.0 - box.first))
      ≡ (record { kept = left.kept; threads = slice_set s.threads (t.0 - box.first) (bounded program.steps left.thread) }, left.reply) =
      lone-live cfg program.home.0 box f s is_settled beside t.0 idle nothing own (Some program) (Some th) has_program has_thread ∙ (rw live refl) in
      record {
        lone = record { kept = left.kept; threads = slice_set s.threads (t.0 - box.first) (bounded program.steps left.thread) };
        answers = λ rest. ap (λ (p : Lone × Reply). p.1 ∷ replies_from (part_of cfg program.home.0 box) p.0 rest) event_is;
        beside = put-back (server_row cfg program.home.0 f.shared (counted th) None) left refl beside.kept;
      }
