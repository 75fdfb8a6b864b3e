-- The numbers of calls, and a call's place, as a call is posted and as one changes its state.
use Rattle.std.proofs.Common.{◌≡◌, ℕ, ◌+◌, ◌<◌, ◌≤◌, true, false, not, inl, inr, cond, Some, List, [], ◌∷◌, ◌++◌, length, get_or, set, refl, sym, ap, ◌∙◌, subst, arith, eq-eqb, length-set, get_or-set_same, get_or-set_other}
use Rattle.std.specs.List.{slice_get}
use Rattle.std.specs.Prelude.{nat_eq}
use Rattle.std.proofs.lemmas.Bool.{and_from, and_parts, cases_eq, eqb-true, false_from_ne_true}
use Rattle.std.proofs.lemmas.List.{get_or-map, length-map, same_lists}
use Rattle.std.proofs.lemmas.Option.{get_or_from_slice_get, slice_get-get_or, slice_get_within}
use Rattle.addr_base.specs.declared.identity.Ticket.{Ticket}
use Rattle.flat_model.specs.declared.states.Call.{Call}
use Rattle.flat_model.specs.declared.states.CallState.{CallState}
use Rattle.flat_model.specs.Calls.{in_state, is_collected, is_open_call, same_ticket, with_state}
use Rattle.rpc_gateway.specs.Calls.{call_count, is_made_by, next_ticket}
use Rattle.rpc_gateway.specs.Table.{AreNumbered, call_in, caller_list, pair_list}
use Rattle.rpc_gateway.proofs.ListLemmas.{count_by-push, count_by-set, slice_get-set_other, slice_get-set_same, slice_get_pushed}

pub pair_list-bound : (t b : ℕ) → pair_list t b < 128
pair_list-bound t b = omega arith

pub caller_list-bound : (t : ℕ) → caller_list t < 16
caller_list-bound t = omega arith

pub same_ticket-itself : (ticket : Ticket) → same_ticket ticket ticket ≡ true
same_ticket-itself ticket = and_from (nat_eq ticket.thread.0 ticket.thread.0) (nat_eq ticket.seq ticket.seq) (eq-eqb ticket.thread.0 ticket.thread.0 refl) (eq-eqb ticket.seq ticket.seq refl)

same_ticket-swap : (first second : Ticket) → same_ticket first second ≡ true → same_ticket second first ≡ true
same_ticket-swap first second same =
    let parts = and_parts (nat_eq first.thread.0 second.thread.0) (nat_eq first.seq second.seq) same in
    and_from (nat_eq second.thread.0 first.thread.0) (nat_eq second.seq first.seq)
    (eq-eqb second.thread.0 first.thread.0 (sym (eqb-true first.thread.0 second.thread.0 parts.0)))
    (eq-eqb second.seq first.seq (sym (eqb-true first.seq second.seq parts.1)))

-- the calls after one of them changed its state are those of before, but for its place
changed_back : (calls : List Call) (i : ℕ) (old new : Call) (k : ℕ) (call : Call) → slice_get calls i ≡ Some old → new.ticket ≡ old.ticket → slice_get (set calls i new) k ≡ Some call → (was : Call) × (slice_get calls k ≡ Some was) × (call.ticket ≡ was.ticket)
changed_back calls i old new k call is same at =
    elim (cases_eq k i) [
      | inl here ↦
          let there : slice_get (set calls i new) i ≡ Some new = slice_get-set_same calls i new (slice_get_within calls i old is) in
          let moved : slice_get (set calls i new) i ≡ Some call = subst (λ n. slice_get (set calls i new) n ≡ Some call) here at in
          let equal : call ≡ new = cc in
          (old, subst (λ n. slice_get calls n ≡ Some old) (sym here) is, ap (λ c. c.ticket) equal ∙ same)
      | inr other ↦ (call, sym (slice_get-set_other calls i k new other) ∙ at, refl)
    ]

call_count-changed : (calls : List Call) (i : ℕ) (old new : Call) (t : ℕ) → slice_get calls i ≡ Some old → new.ticket ≡ old.ticket → call_count t (set calls i new) ≡ call_count t calls
call_count-changed calls i old new t is same =
    let change = count_by-set (is_made_by t) calls i old new is in
    let alike : is_made_by t new ≡ is_made_by t old = ap (λ ticket. nat_eq ticket.thread.0 t) same in
    let weights : ◌≡◌ {A = ℕ} (cond (is_made_by t new) 1 0) (cond (is_made_by t old) 1 0) = ap (λ b. cond b 1 0) alike in
    omega (arith, change, weights)

pub AreNumbered-changed : (calls : List Call) (i : ℕ) (old new : Call) → slice_get calls i ≡ Some old → new.ticket ≡ old.ticket → AreNumbered calls → AreNumbered (set calls i new)
AreNumbered-changed calls i old new is same numbered = record { once = once_after; counted = counted_after }
  where
    once_after : (k m : ℕ) (first second : Call) → slice_get (set calls i new) k ≡ Some first → slice_get (set calls i new) m ≡ Some second → same_ticket first.ticket second.ticket ≡ true → k ≡ m
    once_after k m first second at_k at_m alike =
        let (first_was, first_there, first_same) = changed_back calls i old new k first is same at_k in
        let (second_was, second_there, second_same) = changed_back calls i old new m second is same at_m in
        numbered.once k m first_was second_was first_there second_there
        (ap (λ ticket. same_ticket ticket second_was.ticket) (sym first_same) ∙ (ap (same_ticket first.ticket) (sym second_same) ∙ alike))

    counted_after : (k : ℕ) (call : Call) → slice_get (set calls i new) k ≡ Some call → call.ticket.seq ≤ call_count call.ticket.thread.0 (set calls i new)
    counted_after k call at =
        let (was, there, alike) = changed_back calls i old new k call is same at in
        let below = numbered.counted k was there in
        let counts : call_count was.ticket.thread.0 (set calls i new) ≡ call_count was.ticket.thread.0 calls = call_count-changed calls i old new was.ticket.thread.0 is same in
        let kept : was.ticket.seq ≤ call_count was.ticket.thread.0 (set calls i new) = omega (arith, below, counts) in
        subst (λ (ticket : Ticket). ticket.seq ≤ call_count ticket.thread.0 (set calls i new)) (sym alike) kept

pub AreNumbered-push : (calls : List Call) (call : Call) → call.ticket ≡ next_ticket call.ticket.thread calls → AreNumbered calls → AreNumbered (calls ++ call ∷ [])
AreNumbered-push calls call next numbered = record { once = once_after; counted = counted_after }
  where
    seq_is : call.ticket.seq ≡ call_count call.ticket.thread.0 calls + 1
    seq_is = ap (λ ticket. ticket.seq) next

    -- no call of before has the ticket of the new one
    fresh : (k : ℕ) (old : Call) → slice_get calls k ≡ Some old → same_ticket old.ticket call.ticket ≡ true → ⊥
    fresh k old at alike =
        let parts = and_parts (nat_eq old.ticket.thread.0 call.ticket.thread.0) (nat_eq old.ticket.seq call.ticket.seq) alike in
        let of_thread : old.ticket.thread.0 ≡ call.ticket.thread.0 = eqb-true old.ticket.thread.0 call.ticket.thread.0 parts.0 in
        let seqs : old.ticket.seq ≡ call.ticket.seq = eqb-true old.ticket.seq call.ticket.seq parts.1 in
        let below = numbered.counted k old at in
        let counts : call_count old.ticket.thread.0 calls ≡ call_count call.ticket.thread.0 calls = ap (λ t. call_count t calls) of_thread in
        let number = seq_is in
        omega (arith, seqs, below, counts, number)

    once_after : (k m : ℕ) (first second : Call) → slice_get (calls ++ call ∷ []) k ≡ Some first → slice_get (calls ++ call ∷ []) m ≡ Some second → same_ticket first.ticket second.ticket ≡ true → k ≡ m
    once_after k m first second at_k at_m alike =
        elim (slice_get_pushed calls call k first at_k) [
          | inl old_k ↦
              elim (slice_get_pushed calls call m second at_m) [
                | inl old_m ↦ numbered.once k m first second old_k old_m alike
                | inr new_m ↦ absurd (fresh k first old_k (ap (λ c. same_ticket first.ticket c.ticket) new_m.1 ∙ alike))
              ]
          | inr new_k ↦
              elim (slice_get_pushed calls call m second at_m) [
                | inl old_m ↦ absurd (fresh m second old_m (ap (λ c. same_ticket second.ticket c.ticket) new_k.1 ∙ same_ticket-swap first.ticket second.ticket alike))
                | inr new_m ↦ new_k.0 ∙ sym new_m.0
              ]
        ]

    counted_after : (k : ℕ) (old : Call) → slice_get (calls ++ call ∷ []) k ≡ Some old → old.ticket.seq ≤ call_count old.ticket.thread.0 (calls ++ call ∷ [])
    counted_after k old at =
        elim (slice_get_pushed calls call k old at) [
          | inl there ↦
              let below = numbered.counted k old there in
              let more = count_by-push (is_made_by old.ticket.thread.0) calls call in
              omega (arith, below, more)
          | inr new ↦
              let more = count_by-push (is_made_by call.ticket.thread.0) calls call in
              let one : ◌≡◌ {A = ℕ} (cond (is_made_by call.ticket.thread.0 call) 1 0) 1 = ap (λ b. cond b 1 0) (eq-eqb call.ticket.thread.0 call.ticket.thread.0 refl) in
              let number = seq_is in
              let enough : call.ticket.seq ≤ call_count call.ticket.thread.0 (calls ++ call ∷ []) = omega (arith, more, one, number) in
              subst (λ (c : Call). c.ticket.seq ≤ call_count c.ticket.thread.0 (calls ++ call ∷ [])) new.1 enough
        ]

-- the only call of its ticket that is not collected is at its place
pub with_state-at : (calls : List Call) (i : ℕ) (old : Call) (new : CallState) → slice_get calls i ≡ Some old → is_collected old.state ≡ false → AreNumbered calls → with_state old.ticket new calls ≡ set calls i (call_in new old)
with_state-at calls i old new is alive numbered =
    same_lists (with_state old.ticket new calls) (set calls i (call_in new old)) lengths at
  where
    lengths : length (with_state old.ticket new calls) ≡ length (set calls i (call_in new old))
    lengths = length-map calls (in_state old.ticket new) ∙ sym (length-set calls i (call_in new old))

    at : (k : ℕ) (d : Call) → k < length (with_state old.ticket new calls) → get_or (with_state old.ticket new calls) k d ≡ get_or (set calls i (call_in new old)) k d
    at k d below =
        let within : k < length calls = subst (λ n. k < n) (length-map calls (in_state old.ticket new)) below in
        let mapped : get_or (with_state old.ticket new calls) k d ≡ in_state old.ticket new (get_or calls k d) = get_or-map (in_state old.ticket new) calls k d d within in
        elim (cases_eq k i) [
          | inl here ↦
              let there : get_or calls k d ≡ old = ap (λ n. get_or calls n d) here ∙ get_or_from_slice_get calls i old d is in
              let opens : is_open_call old.ticket old ≡ true = and_from (same_ticket old.ticket old.ticket) (not (is_collected old.state)) (same_ticket-itself old.ticket) (ap not alive) in
              let changed : in_state old.ticket new old ≡ call_in new old = ap (λ b. cond b (call_in new old) old) opens in
              let written : get_or (set calls i (call_in new old)) i d ≡ call_in new old = get_or-set_same calls i (call_in new old) d (slice_get_within calls i old is) in
              mapped ∙ (ap (in_state old.ticket new) there ∙ (changed ∙ (sym written ∙ ap (λ n. get_or (set calls i (call_in new old)) n d) (sym here))))
          | inr other ↦
              let call : Call = get_or calls k d in
              let there : slice_get calls k ≡ Some (get_or calls k d) = slice_get-get_or calls k d within in
              let apart : is_open_call old.ticket call ≡ false =
              false_from_ne_true (is_open_call old.ticket call) (λ opens.
              let parts = and_parts (same_ticket old.ticket call.ticket) (not (is_collected call.state)) opens in
              other (sym (numbered.once i k old call is there parts.0))) in
              let kept : in_state old.ticket new call ≡ call = ap (λ b. cond b (call_in new call) call) apart in
              mapped ∙ (kept ∙ sym (get_or-set_other calls i k (call_in new old) d other))
        ]
