-- The view and the served calls after a start, a finish and a collection.
use Rattle.std.proofs.Common.{◌≡◌, ℕ, ◌<◌, Bool, true, false, ◌&&◌, not, cond, List, Option, Some, None, length, get_or, set, refl, sym, ap, ◌∙◌, subst}
use Rattle.std.specs.List.{slice_get}
use Rattle.std.specs.Option.{unwrap_or}
use Rattle.std.specs.Prelude.{nat_eq}
use Rattle.std.proofs.lemmas.Bool.{and_parts, eqb-true}
use Rattle.std.proofs.lemmas.Option.{get_or_from_slice_get, slice_get_within}
use Rattle.addr_base.specs.declared.identity.Ticket.{Ticket}
use Rattle.flat_model.specs.declared.parts.Config.{Config}
use Rattle.flat_model.specs.declared.states.Call.{Call}
use Rattle.flat_model.specs.declared.states.CallState.{CallState}
use Rattle.flat_model.specs.declared.states.CallState.TheVariants as state
use Rattle.flat_model.specs.CallRows.{home_of, served_ticket}
use Rattle.flat_model.specs.Calls.{is_collected, is_open_call, is_posted, is_posted_to, oldest_posted_by, open_call, same_ticket, with_state}
use Rattle.rpc_gateway.specs.Calls.{CallsView}
use Rattle.rpc_gateway.specs.Places.{passes_at}
use Rattle.rpc_gateway.specs.Servers.{is_server_thread, thread_serving}
use Rattle.rpc_gateway.specs.Table.{AreServed, TableView, call_in, is_served_by, is_started}
use Rattle.rpc_gateway.proofs.FirstPlaces.{find_passes}
use Rattle.rpc_gateway.proofs.ServedLemmas.{AreServed-finish, AreServed-same, AreServed-start, passes_there, same_ticket-true, served_parts}
use Rattle.rpc_gateway.proofs.TableLemmas.{posted_rests}

-- the view after a call changed its state
pub state_view : (cfg : Config) (table table' : TableView) (serving serving' : List (Option Ticket)) (was ticket : Ticket) (s : CallState) → table' ≡ (record table { calls = with_state was s table.calls }) → was ≡ ticket → serving ≡ serving' → ◌≡◌ {A = CallsView} (record { config = cfg; calls = table'.calls; serving = serving; spare = table'.spare }) (record { config = cfg; calls = with_state ticket s table.calls; serving = serving'; spare = table.spare })
state_view cfg table table' serving serving' was ticket s changed same same_serving =
    ap (λ (x : TableView). let v : CallsView = record { config = cfg; calls = x.calls; serving = serving; spare = x.spare } in v) changed
    ∙ (ap (λ (t : Ticket). let v : CallsView = record { config = cfg; calls = with_state t s table.calls; serving = serving; spare = table.spare } in v) same
    ∙ ap (λ (x : List (Option Ticket)). let v : CallsView = record { config = cfg; calls = with_state ticket s table.calls; serving = x; spare = table.spare } in v) same_serving)

served_here : (b : Bool) (served : Option Ticket) (ticket : Ticket) → cond b served None ≡ Some ticket → served ≡ Some ticket
served_here true served ticket is = is
served_here false served ticket is = absurd (cc)

held : (o : Option (Option Ticket)) (ticket : Ticket) → unwrap_or o None ≡ Some ticket → o ≡ Some (Some ticket)
held None ticket is = absurd (cc)
held (Some inner) ticket is = ap (λ (x : Option Ticket). Some x) is

-- the call that a thread serves stands in the list of served calls, at its home
pub serving_at : (cfg : Config) (serving : List (Option Ticket)) (t b : ℕ) (ticket : Ticket) → b ≡ (home_of cfg t).0 → thread_serving cfg serving t ≡ Some ticket → slice_get serving b ≡ Some (Some ticket)
serving_at cfg serving t b ticket home is =
    ap (λ (n : ℕ). slice_get serving n) home
    ∙ held (slice_get serving (home_of cfg t).0) ticket
    (served_here (is_server_thread cfg t) (served_ticket serving (home_of cfg t).0) ticket is)

-- the oldest call of a thread that is posted to a box is posted, to the box
pub oldest_by_parts : (t b : ℕ) (calls : List Call) (call : Call) → Some call ≡ oldest_posted_by t b calls → (is_posted call.state ≡ true) × (call.target.0 ≡ b)
oldest_by_parts t b calls call is =
    let passes = find_passes (λ c. is_posted_to b c && nat_eq c.ticket.thread.0 t) calls call (sym is) in
    let parts = and_parts (is_posted_to b call) (nat_eq call.ticket.thread.0 t) passes in
    let inner = and_parts (is_posted call.state) (nat_eq call.target.0 b) parts.0 in
    (inner.0, eqb-true call.target.0 b inner.1)

module _ (calls : List Call) (serving : List (Option Ticket)) (served : List ℕ) (old : AreServed calls serving served) where
  -- a started call is served at its target
  pub AreServed-started : (calls' : List Call) (serving' : List (Option Ticket)) (served' : List ℕ) (i b : ℕ) (ticket : Ticket) (was : Call) → slice_get calls i ≡ Some was → is_posted was.state ≡ true → was.target.0 ≡ b → was.ticket ≡ ticket → calls' ≡ set calls i (call_in state.Started was) → serving' ≡ set serving b (Some ticket) → served' ≡ set served b i → AreServed calls' serving' served'
  AreServed-started calls' serving' served' i b ticket was is posts at same same_calls same_serving same_served =
      AreServed-same _ _ _ _ _ _ same_calls
      (same_serving ∙ (ap (λ (n : ℕ). set serving n (Some ticket)) (sym at) ∙ ap (λ (t : Ticket). set serving was.target.0 (Some t)) (sym same)))
      (same_served ∙ ap (λ (n : ℕ). set served n i) (sym at))
      (AreServed-start calls serving served old i was is (posted_rests was.state posts))

  -- a finished call is served no more
  pub AreServed-finished : (calls' : List Call) (serving' : List (Option Ticket)) (i b : ℕ) (was new : Call) → slice_get calls i ≡ Some was → was.target.0 ≡ b → calls' ≡ set calls i new → serving' ≡ set serving b None → AreServed calls' serving' served
  AreServed-finished calls' serving' i b was new is at same_calls same_serving =
      AreServed-same _ _ _ _ _ _ same_calls
      (same_serving ∙ ap (λ (n : ℕ). set serving n None) (sym at)) refl
      (AreServed-finish calls serving served old i was new is)

  served_passes : (b place : ℕ) (ticket : Ticket) → slice_get serving b ≡ Some (Some ticket) → slice_get served b ≡ Some place → passes_at (is_served_by b ticket) calls place ≡ true
  served_passes b place ticket is kept =
      let at : get_or served b 0 ≡ place = get_or_from_slice_get served b place 0 kept in
      subst (λ n. passes_at (is_served_by b ticket) calls n ≡ true) at (old.at_place b ticket is)

  -- a call stands there
  pub served_place : (b place : ℕ) (ticket : Ticket) → slice_get serving b ≡ Some (Some ticket) → slice_get served b ≡ Some place → place < length calls
  served_place b place ticket is kept =
      let (found, at, serves) = passes_there (is_served_by b ticket) calls place (served_passes b place ticket is kept) in
      slice_get_within calls place found at

  -- it is the started call of the ticket, to this box
  pub served_call : (b place : ℕ) (ticket : Ticket) (call : Call) → slice_get serving b ≡ Some (Some ticket) → slice_get served b ≡ Some place → slice_get calls place ≡ Some call → (is_started call.state ≡ true) × (ticket ≡ call.ticket) × (call.target.0 ≡ b)
  served_call b place ticket call is kept there =
      let (found, at, serves) = passes_there (is_served_by b ticket) calls place (served_passes b place ticket is kept) in
      let same : found ≡ call = cc in
      served_parts b ticket call (subst (λ c. is_served_by b ticket c ≡ true) same serves)

module _ (ticket : Ticket) (calls : List Call) where
  -- an uncollected call has the ticket by which it was found
  pub found_ticket : (call : Call) → Some call ≡ open_call ticket calls → call.ticket ≡ ticket
  found_ticket call is =
      let passes = find_passes (is_open_call ticket) calls call (sym is) in
      let parts = and_parts (same_ticket ticket call.ticket) (not (is_collected call.state)) passes in
      sym (same_ticket-true ticket call.ticket parts.0)
