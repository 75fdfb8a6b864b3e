-- The places of the calls that are served, as calls are posted, start, are finished and are collected.
use Rattle.std.proofs.Common.{◌≡◌, ℕ, zero, suc, ◌<◌, Bool, true, false, ◌&&◌, inl, inr, List, [], ◌∷◌, ◌++◌, length, get_or, set, replicate, refl, sym, ap, ◌∙◌, subst, eq-eqb, length-set, Option, Some, None, get_or-set_same, get_or-set_other}
use Rattle.std.specs.List.{slice_get}
use Rattle.std.specs.Option.{option_map_or}
use Rattle.std.specs.Prelude.{nat_eq}
use Rattle.std.proofs.lemmas.Bool.{and_from, and_parts, cases_eq, eqb-true}
use Rattle.std.proofs.lemmas.List.{length-replicate}
use Rattle.std.proofs.lemmas.Option.{slice_get_within}
use Rattle.addr_base.specs.declared.identity.Ticket.{Ticket}
use Rattle.flat_model.specs.declared.states.Call.{Call}
use Rattle.flat_model.specs.declared.states.CallState.TheVariants as state
use Rattle.flat_model.specs.Calls.{same_ticket}
use Rattle.rpc_gateway.specs.Places.{passes_at}
use Rattle.rpc_gateway.specs.Table.{AreServed, call_in, is_served_by, is_started}
use Rattle.rpc_gateway.proofs.ListLemmas.{slice_get-push, slice_get-set_other, slice_get-set_same}
use Rattle.rpc_gateway.proofs.NumberLemmas.{same_ticket-itself}

-- an element that passes at a place stands there
stands_at : {X : Type 0} (p : X → Bool) (xs : List X) (k : ℕ) (o : Option X) → slice_get xs k ≡ o → option_map_or p o false ≡ true → (x : X) × (slice_get xs k ≡ Some x) × (p x ≡ true)
stands_at p xs k None is passes = absurd (cc)
stands_at p xs k (Some x) is passes = (x, is, passes)

pub passes_there : {X : Type 0} (p : X → Bool) (xs : List X) (k : ℕ) → passes_at p xs k ≡ true → (x : X) × (slice_get xs k ≡ Some x) × (p x ≡ true)
passes_there p xs k passes = stands_at p xs k (slice_get xs k) refl passes

pub passes_from : {X : Type 0} (p : X → Bool) (xs : List X) (k : ℕ) (x : X) → slice_get xs k ≡ Some x → p x ≡ true → passes_at p xs k ≡ true
passes_from p xs k x is passes = ap (λ o. option_map_or p o false) is ∙ passes

pub same_ticket-true : (first second : Ticket) → same_ticket first second ≡ true → first ≡ second
same_ticket-true first second same =
    let parts = and_parts (nat_eq first.thread.0 second.thread.0) (nat_eq first.seq second.seq) same in
    let threads : first.thread.0 ≡ second.thread.0 = eqb-true first.thread.0 second.thread.0 parts.0 in
    let seqs : first.seq ≡ second.seq = eqb-true first.seq second.seq parts.1 in
    ap (λ (t : ℕ). let ticket : Ticket = record { thread = record { 0 = t }; seq = first.seq } in ticket) threads
    ∙ ap (λ (n : ℕ). let ticket : Ticket = record { thread = second.thread; seq = n } in ticket) seqs

-- what a served call is
pub served_parts : (b : ℕ) (ticket : Ticket) (call : Call) → is_served_by b ticket call ≡ true → (is_started call.state ≡ true) × (ticket ≡ call.ticket) × (call.target.0 ≡ b)
served_parts b ticket call serves =
    let parts = and_parts (is_started call.state) (same_ticket ticket call.ticket && nat_eq call.target.0 b) serves in
    let inner = and_parts (same_ticket ticket call.ticket) (nat_eq call.target.0 b) parts.1 in
    (parts.0, same_ticket-true ticket call.ticket inner.0, eqb-true call.target.0 b inner.1)

no_ticket : (n k : ℕ) (ticket : Ticket) → slice_get (replicate n (let none : Option Ticket = None in none)) k ≡ Some (Some ticket) → ⊥
no_ticket zero k ticket at = absurd (cc)
no_ticket (suc n) zero ticket at = absurd (cc)
no_ticket (suc n) (suc k) ticket at = no_ticket n k ticket at

pub AreServed-opening : (n : ℕ) → AreServed [] (replicate n None) (replicate n 0)
AreServed-opening n = record {
  as_many = length-replicate {A = ℕ} n 0 ∙ sym (length-replicate {A = Option Ticket} n None);
  at_place = λ b ticket at. absurd (no_ticket n b ticket at);
}

module _ (calls : List Call) (serving : List (Option Ticket)) (served : List ℕ) (old : AreServed calls serving served) where
  pub AreServed-push : (call : Call) → AreServed (calls ++ call ∷ []) serving served
  AreServed-push call = record { as_many = old.as_many; at_place = at }
    where
      at : (b : ℕ) (ticket : Ticket) → slice_get serving b ≡ Some (Some ticket) → passes_at (is_served_by b ticket) (calls ++ call ∷ []) (get_or served b 0) ≡ true
      at b ticket is =
          let (found, there, serves) = passes_there (is_served_by b ticket) calls (get_or served b 0) (old.at_place b ticket is) in
          passes_from (is_served_by b ticket) (calls ++ call ∷ []) (get_or served b 0) found (slice_get-push calls call (get_or served b 0) found there) serves

  -- a served call stays where another changes
  served_beside : (i : ℕ) (was new : Call) → slice_get calls i ≡ Some was → (b : ℕ) (ticket : Ticket) → (is_served_by b ticket was ≡ true → ⊥) → slice_get serving b ≡ Some (Some ticket) → passes_at (is_served_by b ticket) (set calls i new) (get_or served b 0) ≡ true
  served_beside i was new is b ticket apart at =
      let (found, there, serves) = passes_there (is_served_by b ticket) calls (get_or served b 0) (old.at_place b ticket at) in
      elim (cases_eq (get_or served b 0) i) [
        | inl here ↦
            let same : was ≡ found = let moved : slice_get calls i ≡ Some found = subst (λ n. slice_get calls n ≡ Some found) here there in cc in
            absurd (apart (subst (λ c. is_served_by b ticket c ≡ true) (sym same) serves))
        | inr other ↦ passes_from (is_served_by b ticket) (set calls i new) (get_or served b 0) found (slice_get-set_other calls i (get_or served b 0) new other ∙ there) serves
      ]

  pub AreServed-changed : (i : ℕ) (was new : Call) → slice_get calls i ≡ Some was → is_started was.state ≡ false → AreServed (set calls i new) serving served
  AreServed-changed i was new is rests = record {
    as_many = old.as_many;
    at_place = λ b ticket at. served_beside i was new is b ticket
        (λ serves. let parts = served_parts b ticket was serves in let starts = parts.0 in absurd (cc)) at;
  }

  pub AreServed-start : (i : ℕ) (was : Call) → slice_get calls i ≡ Some was → is_started was.state ≡ false → AreServed (set calls i (call_in state.Started was)) (set serving was.target.0 (Some was.ticket)) (set served was.target.0 i)
  AreServed-start i was is rests = record {
    as_many = length-set served was.target.0 i ∙ (old.as_many ∙ sym (length-set serving was.target.0 (Some was.ticket)));
    at_place = at;
  }
    where
      at : (b : ℕ) (ticket : Ticket) → slice_get (set serving was.target.0 (Some was.ticket)) b ≡ Some (Some ticket) → passes_at (is_served_by b ticket) (set calls i (call_in state.Started was)) (get_or (set served was.target.0 i) b 0) ≡ true
      at b ticket is_serving =
          elim (cases_eq b was.target.0) [
            | inl here ↦
                let within : b < length serving = subst (λ n. b < n) (length-set serving was.target.0 (Some was.ticket)) (slice_get_within (set serving was.target.0 (Some was.ticket)) b (Some ticket) is_serving) in
                let at_target : was.target.0 < length serving = subst (λ n. n < length serving) here within in
                let at_served : was.target.0 < length served = subst (λ n. was.target.0 < n) (sym old.as_many) at_target in
                let written : slice_get (set serving was.target.0 (Some was.ticket)) was.target.0 ≡ Some (Some was.ticket) = slice_get-set_same serving was.target.0 (Some was.ticket) at_target in
                let moved : slice_get (set serving was.target.0 (Some was.ticket)) was.target.0 ≡ Some (Some ticket) = subst (λ n. slice_get (set serving was.target.0 (Some was.ticket)) n ≡ Some (Some ticket)) here is_serving in
                let same : was.ticket ≡ ticket = cc in
                let place : get_or (set served was.target.0 i) b 0 ≡ i = ap (λ n. get_or (set served was.target.0 i) n 0) here ∙ get_or-set_same served was.target.0 i 0 at_served in
                let there : slice_get (set calls i (call_in state.Started was)) i ≡ Some (call_in state.Started was) = slice_get-set_same calls i (call_in state.Started was) (slice_get_within calls i was is) in
                let serves : is_served_by b ticket (call_in state.Started was) ≡ true =
                and_from (same_ticket ticket was.ticket) (nat_eq was.target.0 b)
                (ap (λ t. same_ticket t was.ticket) (sym same) ∙ same_ticket-itself was.ticket)
                (eq-eqb was.target.0 b (sym here)) in
                ap (passes_at (is_served_by b ticket) (set calls i (call_in state.Started was))) place
                ∙ passes_from (is_served_by b ticket) (set calls i (call_in state.Started was)) i (call_in state.Started was) there serves
            | inr other ↦
                let before : slice_get serving b ≡ Some (Some ticket) = sym (slice_get-set_other serving was.target.0 b (Some was.ticket) other) ∙ is_serving in
                let place : get_or (set served was.target.0 i) b 0 ≡ get_or served b 0 = get_or-set_other served was.target.0 b i 0 other in
                ap (passes_at (is_served_by b ticket) (set calls i (call_in state.Started was))) place
                ∙ served_beside i was (call_in state.Started was) is b ticket
                (λ serves. let parts = served_parts b ticket was serves in let starts = parts.0 in absurd (cc)) before
          ]

  pub AreServed-finish : (i : ℕ) (was new : Call) → slice_get calls i ≡ Some was → AreServed (set calls i new) (set serving was.target.0 None) served
  AreServed-finish i was new is = record {
    as_many = old.as_many ∙ sym (length-set serving was.target.0 None);
    at_place = at;
  }
    where
      at : (b : ℕ) (ticket : Ticket) → slice_get (set serving was.target.0 None) b ≡ Some (Some ticket) → passes_at (is_served_by b ticket) (set calls i new) (get_or served b 0) ≡ true
      at b ticket is_serving =
          elim (cases_eq b was.target.0) [
            | inl here ↦
                let within : b < length serving = subst (λ n. b < n) (length-set serving was.target.0 None) (slice_get_within (set serving was.target.0 None) b (Some ticket) is_serving) in
                let at_target : was.target.0 < length serving = subst (λ n. n < length serving) here within in
                let written : slice_get (set serving was.target.0 None) was.target.0 ≡ Some None = slice_get-set_same serving was.target.0 None at_target in
                let moved : slice_get (set serving was.target.0 None) was.target.0 ≡ Some (Some ticket) = subst (λ n. slice_get (set serving was.target.0 None) n ≡ Some (Some ticket)) here is_serving in
                absurd (cc)
            | inr other ↦
                let before : slice_get serving b ≡ Some (Some ticket) = sym (slice_get-set_other serving was.target.0 b None other) ∙ is_serving in
                served_beside i was new is b ticket (λ serves. let parts = served_parts b ticket was serves in other (sym parts.2)) before
          ]

-- the same served calls by other names
pub AreServed-same : (calls calls' : List Call) (serving serving' : List (Option Ticket)) (served served' : List ℕ) → calls' ≡ calls → serving' ≡ serving → served' ≡ served → AreServed calls serving served → AreServed calls' serving' served'
AreServed-same calls calls' serving serving' served served' same_calls same_serving same_served old =
    subst (λ x. AreServed x serving' served') (sym same_calls)
    (subst (λ x. AreServed calls x served') (sym same_serving)
    (subst (λ x. AreServed calls serving x) (sym same_served) old))
