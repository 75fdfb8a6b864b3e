-- What an event of another box leaves of a box's own, row by row.
use Rattle.std.proofs.Common.{◌≡◌, ◌≢◌, ℕ, zero, suc, ◌+◌, ◌/◌, ◌<◌, ◌≤◌, Bool, true, false, List, [], ◌∷◌, ◌++◌, length, Option, Some, None, append-nil, refl, sym, ◌∙◌, ap, subst, arith, inl, inr}
use Rattle.std.specs.Prelude.{nat_eq, is_some, slice_set}
use Rattle.std.proofs.lemmas.Bool.{cases_Bool, or_cases, false≢true, false_from_ne_true, eqb-true}
use Rattle.std.proofs.lemmas.List.{length-set}
use Rattle.addr_base.specs.declared.identity.Ticket.{Ticket}
use Rattle.addr_base.specs.declared.rights.Kind.{Kind}
use Rattle.addr_base.specs.declared.rights.Kind.TheVariants.{Read, Write, Fetch}
use Rattle.flat_model.specs.declared.accesses.Access.{Access}
use Rattle.flat_model.specs.declared.actors.Who.{Who}
use Rattle.flat_model.specs.declared.boards.Word.{Word}
use Rattle.flat_model.specs.declared.events.Collected.{Collected}
use Rattle.flat_model.specs.declared.events.Collected.TheVariants as got
use Rattle.flat_model.specs.declared.parts.BoxPart.{BoxPart}
use Rattle.flat_model.specs.declared.parts.Config.{Config}
use Rattle.flat_model.specs.declared.parts.IrqPart.{IrqPart}
use Rattle.flat_model.specs.declared.parts.RpcGate.{RpcGate}
use Rattle.flat_model.specs.declared.states.Awaited.{Awaited}
use Rattle.flat_model.specs.declared.states.Call.{Call}
use Rattle.flat_model.specs.declared.states.CallState.{CallState}
use Rattle.flat_model.specs.declared.states.CallState.TheVariants as state
use Rattle.flat_model.specs.declared.states.Context.{Context}
use Rattle.flat_model.specs.declared.states.Shared.{Shared}
use Rattle.flat_model.specs.declared.states.ThreadState.{ThreadState}
use Rattle.flat_model.specs.Access.{in_heap, owned_by}
use Rattle.flat_model.specs.AccessRows.{access_row, performed_row}
use Rattle.flat_model.specs.CallRows.{after_collecting, call_by, look_row, own_ticket, rpc_post_row, rpc_result_row, rpc_return_row, rpc_take_row, served_ticket, start_row}
use Rattle.flat_model.specs.Calls.{is_collected, with_state}
use Rattle.flat_model.specs.Cells.{Cell, cells_of}
use Rattle.flat_model.specs.Interrupts.{has_line}
use Rattle.flat_model.specs.LineRows.{delivery_row, irq_enable_row, irq_return_row}
use Rattle.flat_model.specs.Memory.{put_cells}
use Rattle.box_isolation.specs.Reach.{is_thread_of}
use Rattle.flat_model.specs.RegisterRows.{gw_read_row, gw_write_row}
use Rattle.flat_model.specs.Thread.{register}
use Rattle.flat_model.specs.Turn.{waiting_row}
use Rattle.flat_model.specs.Calls.{collected_by}
use Rattle.flat_model.specs.ThreadEvents.{context_of}
use Rattle.box_isolation.proofs.AlikeBoxes.{Spares, Spares-calls, Spares-lines, Spares-memory, Spares-refl, uncollected}
use Rattle.box_isolation.proofs.MeetsCalls.{served-other, uncollected-append, uncollected-kept, uncollected-other}
use Rattle.box_isolation.proofs.MeetsLines.{saved-apart, set-apart}
use Rattle.box_isolation.proofs.NotedBytes.{IsSized-put_cells, byte-put_cells_other, writes}

-- a byte that a word's cells write is one of the word's
pub written-cells_of : (at n value a : ℕ) → writes (cells_of at n value) a ≡ true → (at ≤ a) × (a < at + n)
written-cells_of at zero value a is = absurd (false≢true is)
written-cells_of at (suc n) value a is = elim (or_cases (nat_eq at a) (writes (cells_of (at + 1) n (value / 256)) a) is) [
  | inl here ↦ let same = eqb-true at a here in (omega (arith, same), omega (arith, same))
  | inr later ↦ let it = written-cells_of (at + 1) n (value / 256) a later in (omega (arith, it.0), omega (arith, it.1))
]

module _ (cfg : Config) (b : ℕ) (box : BoxPart) where
  -- ---- calls

  calls-spare : (m : Shared) (calls : List Call) (serving : List (Option Ticket)) → uncollected box calls ≡ uncollected box m.calls → length serving ≡ length m.serving →
      served_ticket serving b ≡ served_ticket m.serving b → Spares cfg b box m (record m { calls = calls; serving = serving })
  calls-spare m calls serving open_calls count served =
      Spares-calls cfg b box m calls serving (record { count = count; open_calls = open_calls; serves = ap is_some served })

  pub post-spares : (who : Who) (m : Shared) (th after : ThreadState) (gate : Option RpcGate) → is_thread_of box who.thread.0 ≡ false → Spares cfg b box m (rpc_post_row who m th after gate).shared
  post-spares who m th after None far = Spares-refl cfg b box m
  post-spares who m th after (Some gate) far = elim (cases_Bool who.room) [
    | inl room ↦ rw room (calls-spare m (m.calls ++ call_by who th gate ∷ []) m.serving
        (uncollected-append box m.calls (call_by who th gate ∷ []) ∙ rw far (append-nil (uncollected box m.calls))) refl refl)
    | inr full ↦ rw full (Spares-refl cfg b box m)
  ]

  pub take-spares : (m : Shared) (th : ThreadState) (server : Bool) (serving : Option Ticket) → Spares cfg b box m (rpc_take_row m th server serving).shared
  take-spares m th false serving = Spares-refl cfg b box m
  take-spares m th true None = Spares-refl cfg b box m
  take-spares m th true (Some ticket) = Spares-refl cfg b box m

  served-spare : (m : Shared) (c : ℕ) (ticket : Ticket) (new : CallState) (now : Option Ticket) → c ≢ b → is_collected new ≡ false →
      Spares cfg b box m (record m { calls = with_state ticket new m.calls; serving = slice_set m.serving c now })
  served-spare m c ticket new now differs live =
      calls-spare m (with_state ticket new m.calls) (slice_set m.serving c now) (uncollected-kept box ticket new m.calls live) (length-set m.serving c now) (served-other m.serving b c now differs)

  pub return-spares : (c : ℕ) (m : Shared) (th : ThreadState) (v : ℕ) (serving : Option Ticket) → c ≢ b → Spares cfg b box m (rpc_return_row c m th v serving).shared
  return-spares c m th v None differs = Spares-refl cfg b box m
  return-spares c m th v (Some ticket) differs = served-spare m c ticket (state.Done v) None differs refl

  pub start-spares : (c : ℕ) (m : Shared) (th : ThreadState) (ticket : Ticket) (next : Option Call) → c ≢ b → Spares cfg b box m (start_row cfg c m th ticket next).shared
  start-spares c m th ticket None differs = Spares-refl cfg b box m
  start-spares c m th ticket (Some call) differs = served-spare m c ticket state.Started (Some ticket) differs refl

  collected-spare : (m : Shared) (ticket : Ticket) → is_thread_of box ticket.thread.0 ≡ false → Spares cfg b box m (after_collecting ticket m)
  collected-spare m ticket far = calls-spare m (with_state ticket state.Collected m.calls) m.serving (uncollected-other box ticket state.Collected m.calls far) refl refl

  pub result-spares : (m : Shared) (th : ThreadState) (r : ℕ) (ticket : Ticket) (answer : Collected) → is_thread_of box ticket.thread.0 ≡ false → Spares cfg b box m (rpc_result_row m th r ticket answer).shared
  result-spares m th r ticket got.NoSuch far = Spares-refl cfg b box m
  result-spares m th r ticket got.Waiting far = Spares-refl cfg b box m
  result-spares m th r ticket (got.Done value) far = collected-spare m ticket far

  look-spares : (who : Who) (m : Shared) (th : ThreadState) (awaited : Awaited) (answer : Collected) → is_thread_of box who.thread.0 ≡ false → Spares cfg b box m (look_row who m th awaited answer).shared
  look-spares who m th awaited got.NoSuch far = Spares-refl cfg b box m
  look-spares who m th awaited got.Waiting far = Spares-refl cfg b box m
  look-spares who m th awaited (got.Done value) far = collected-spare m (own_ticket who awaited.seq) far

  pub wait-spares : (who : Who) (m : Shared) (th : ThreadState) (awaited : Option Awaited) → is_thread_of box who.thread.0 ≡ false → Spares cfg b box m (waiting_row who m th awaited).shared
  wait-spares who m th None far = Spares-refl cfg b box m
  wait-spares who m th (Some awaited) far = look-spares who m th awaited (collected_by (own_ticket who awaited.seq) m.calls) far

  -- ---- lines

  pub enable-spares : (m : Shared) (th : ThreadState) (line : ℕ) (on own : Bool) → (own ≡ true → has_line line box.irqs ≡ false) → Spares cfg b box m (irq_enable_row m th line on own).shared
  enable-spares m th line on false apart = Spares-refl cfg b box m
  enable-spares m th line on true apart = Spares-lines cfg b box m (record m.lines { enabled = slice_set m.lines.enabled line on }) (record {
    count = refl;
    latched_count = refl;
    enabled_count = length-set m.lines.enabled line on;
    latched = λ n has. refl;
    enabled = λ n has. set-apart m.lines.enabled line n on (λ same. false≢true (sym (apart refl) ∙ subst (λ l. has_line l box.irqs ≡ true) (sym same) has));
    saved = refl;
  })

  pub delivery-spares : (c : ℕ) (m : Shared) (th : ThreadState) (irq : IrqPart) → c ≢ b → has_line irq.line.0 box.irqs ≡ false → Spares cfg b box m (delivery_row c m th irq).shared
  delivery-spares c m th irq differs apart =
      Spares-lines cfg b box m (record m.lines { latched = slice_set m.lines.latched irq.line.0 false; saved = slice_set m.lines.saved c (Some (context_of th)) }) (record {
        count = length-set m.lines.saved c (Some (context_of th));
        latched_count = length-set m.lines.latched irq.line.0 false;
        enabled_count = refl;
        latched = λ n has. set-apart m.lines.latched irq.line.0 n false (λ same. false≢true (sym apart ∙ subst (λ l. has_line l box.irqs ≡ true) (sym same) has));
        enabled = λ n has. refl;
        saved = saved-apart m.lines.saved b c (Some (context_of th)) differs;
      })

  pub irq_return-spares : (c : ℕ) (m : Shared) (th : ThreadState) (context : Option Context) → c ≢ b → Spares cfg b box m (irq_return_row c m th context).shared
  irq_return-spares c m th None differs = Spares-refl cfg b box m
  irq_return-spares c m th (Some context) differs =
      Spares-lines cfg b box m (record m.lines { saved = slice_set m.lines.saved c None }) (record {
        count = length-set m.lines.saved c None;
        latched_count = refl;
        enabled_count = refl;
        latched = λ n has. refl;
        enabled = λ n has. refl;
        saved = saved-apart m.lines.saved b c None differs;
      })

  -- ---- memory

  pub cells-spare : (m : Shared) (cells : List Cell) → ((a : ℕ) → in_heap (owned_by b) cfg.board.heap a 1 m.owners ≡ true → writes cells a ≡ false) → Spares cfg b box m (record m { memory = put_cells cfg.board m.memory cells })
  cells-spare m cells off = Spares-memory cfg b box m (put_cells cfg.board m.memory cells) (IsSized-put_cells cfg.board m.memory cells)
      (λ a page. byte-put_cells_other cfg.board m.memory cells a (off a page))

  performed-spares : (m : Shared) (th : ThreadState) (access : Access) (kind : Kind) →
      ((a : ℕ) → access.at ≤ a → a < access.at + access.size → in_heap (owned_by b) cfg.board.heap a 1 m.owners ≡ false) → Spares cfg b box m (performed_row cfg.board m th access kind).shared
  performed-spares m th access Read off = Spares-refl cfg b box m
  performed-spares m th access Fetch off = Spares-refl cfg b box m
  performed-spares m th access Write off = cells-spare m (cells_of access.at access.size (register th access.register)) (λ a page.
      false_from_ne_true (writes (cells_of access.at access.size (register th access.register)) a) (λ is.
      let it = written-cells_of access.at access.size (register th access.register) a is in
      false≢true (sym (off a it.0 it.1) ∙ page)))

  pub access-spares : (m : Shared) (th : ThreadState) (access : Access) (granted : Bool) →
      (granted ≡ true → (a : ℕ) → access.at ≤ a → a < access.at + access.size → in_heap (owned_by b) cfg.board.heap a 1 m.owners ≡ false) →
      Spares cfg b box m (access_row cfg.board m th access granted).shared
  access-spares m th access true off = performed-spares m th access access.kind (off refl)
  access-spares m th access false off = Spares-refl cfg b box m

  pub read-spares : (m : Shared) (th : ThreadState) (r : ℕ) (value : Option ℕ) → Spares cfg b box m (gw_read_row m th r value).shared
  read-spares m th r None = Spares-refl cfg b box m
  read-spares m th r (Some value) = Spares-refl cfg b box m

  pub write-spares : (m : Shared) (th : ThreadState) (word : Option Word) →
      ((w : Word) → word ≡ Some w → (a : ℕ) → w.at ≤ a → a < w.at + 4 → in_heap (owned_by b) cfg.board.heap a 1 m.owners ≡ false) → Spares cfg b box m (gw_write_row cfg.board m th word).shared
  write-spares m th None off = Spares-refl cfg b box m
  write-spares m th (Some w) off = cells-spare m (cells_of w.at 4 w.value) (λ a page.
      false_from_ne_true (writes (cells_of w.at 4 w.value) a) (λ is.
      let it = written-cells_of w.at 4 w.value a is in
      false≢true (sym (off w refl a it.0 it.1) ∙ page)))
