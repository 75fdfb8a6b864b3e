-- How many calls a thread has made, as calls are posted and change their states.
use Rattle.std.proofs.Common.{◌≡◌, ℕ, ◌+◌, true, false, List, [], ◌∷◌, ◌++◌, refl, sym, ap, ◌∙◌, if◌then◌else◌}
use Rattle.std.proofs.lemmas.List.Sums.{sum_by-cons, sum_by_push}
use Rattle.addr_base.specs.declared.identity.Ticket.{Ticket}
use Rattle.flat_model.specs.declared.events.Collected.{Collected}
use Rattle.flat_model.specs.declared.events.Collected.TheVariants as got
use Rattle.flat_model.specs.declared.states.Call.{Call}
use Rattle.flat_model.specs.declared.states.CallState.{CallState}
use Rattle.flat_model.specs.declared.states.CallState.TheVariants as state
use Rattle.flat_model.specs.Calls.{after_asking, in_state, is_open_call, with_state}
use Rattle.rpc_gateway.specs.Calls.{call_count, is_made_by}

-- what a call adds to the count of a thread
abbrev weight : ℕ → Call → ℕ
weight t call = if is_made_by t call then 1 else 0

-- a call in another state was made by the same thread
is_made_by-in_state : (t : ℕ) (ticket : Ticket) (new : CallState) (call : Call) → is_made_by t (in_state ticket new call) ≡ is_made_by t call
is_made_by-in_state t ticket new call =
    elim (is_open_call ticket call) as (λ is_its. is_made_by t (if is_its then record call { state = new } else call) ≡ is_made_by t call) [ true ↦ refl | false ↦ refl ]

pub call_count-with_state : (t : ℕ) (ticket : Ticket) (new : CallState) (calls : List Call) → call_count t (with_state ticket new calls) ≡ call_count t calls
call_count-with_state t ticket new [] = refl
call_count-with_state t ticket new (call ∷ calls) =
    sum_by-cons (weight t) (in_state ticket new call) (with_state ticket new calls)
    ∙ (ap (λ made. (if made then 1 else 0) + call_count t (with_state ticket new calls)) (is_made_by-in_state t ticket new call)
    ∙ (ap (λ n. weight t call + n) (call_count-with_state t ticket new calls) ∙ sym (sum_by-cons (weight t) call calls)))

pub call_count-after_asking : (t : ℕ) (ticket : Ticket) (answer : Collected) (calls : List Call) → call_count t (after_asking ticket answer calls) ≡ call_count t calls
call_count-after_asking t ticket got.Waiting calls = refl
call_count-after_asking t ticket (got.Done value) calls = call_count-with_state t ticket state.Collected calls
call_count-after_asking t ticket got.NoSuch calls = refl

pub call_count-append : (t : ℕ) (calls : List Call) (call : Call) → call_count t (calls ++ call ∷ []) ≡ call_count t calls + (if is_made_by t call then 1 else 0)
call_count-append t calls call = sum_by_push (weight t) calls call
