-- The first of a list of posted or uncollected calls that is looked for is the first of all calls.
use Rattle.std.proofs.Common.{◌≡◌, ◌≢◌, ℕ, ◌+◌, ◌*◌, ◌%◌, Bool, true, false, ◌&&◌, ◌||◌, not, inl, inr, List, refl, sym, ap, ◌∙◌, arith, eq-eqb, None}
use Rattle.std.specs.Prelude.{nat_eq, nat_lt}
use Rattle.std.proofs.lemmas.Bool.{and_from, and_parts, and_right, cases_eq, cases_order, eqb-true, le-ltb, lt-ltb, ne_eqb, or_left, or_right}
use Rattle.addr_base.specs.declared.identity.Ticket.{Ticket}
use Rattle.flat_model.specs.declared.states.Call.{Call}
use Rattle.flat_model.specs.Calls.{is_collected, is_open_call, is_posted, is_posted_to, same_ticket}
use Rattle.rpc_gateway.specs.Listed.{stands_in}
use Rattle.rpc_gateway.specs.Places.{first_place, lesser}
use Rattle.rpc_gateway.specs.Table.{caller_list, is_open, is_posted_by_list, is_waiting, list_of_open, list_of_posted, pair_list}
use Rattle.rpc_gateway.proofs.FirstPlaces.{first_place-agree, first_place-none, first_place-or}
use Rattle.rpc_gateway.proofs.NumberLemmas.{caller_list-bound}

-- a test beside one that follows from it
and_absorbed : (first second : Bool) → (second ≡ true → first ≡ true) → (first && second) ≡ second
and_absorbed first true follows = ap (λ b. b && true) (follows refl)
and_absorbed first false follows = and_right first false refl

same_test : (a b c d : ℕ) → (a ≡ b → c ≡ d) → (c ≡ d → a ≡ b) → nat_eq a b ≡ nat_eq c d
same_test a b c d there back =
    elim (cases_eq a b) [
      | inl same ↦ eq-eqb a b same ∙ sym (eq-eqb c d (there same))
      | inr other ↦ ne_eqb a b other ∙ sym (ne_eqb c d (λ same. other (back same)))
    ]

paired : (posted listed to own : Bool) → (to ≡ true → listed ≡ own) → ((posted && listed) && (posted && to)) ≡ ((posted && to) && own)
paired true listed true own same = and_true listed ∙ same refl
  where
    and_true : (b : Bool) → (b && true) ≡ b
    and_true true = refl
    and_true false = refl
paired true listed false own same = and_right listed false refl
paired false listed to own same = refl

by_list : (list b pair : ℕ) (call : Call) → pair ≡ list * 8 + b % 8 → (stands_in is_waiting list_of_posted pair call && is_posted_to b call) ≡ is_posted_by_list list b call
by_list list b pair call is =
    paired (is_posted call.state) (nat_eq (list_of_posted call) pair) (nat_eq call.target.0 b) (nat_eq (caller_list call.ticket.thread.0) list)
    (λ to.
    let target : call.target.0 ≡ b = eqb-true call.target.0 b to in
    let rests : call.target.0 % 8 ≡ b % 8 = ap (λ n. n % 8) target in
    same_test (list_of_posted call) pair (caller_list call.ticket.thread.0) list
    (λ same. omega (arith, same, is, rests)) (λ same. omega (arith, same, is, rests)))

by_pair : (t b : ℕ) (call : Call) → (stands_in is_waiting list_of_posted (pair_list t b) call && (is_posted_to b call && nat_eq call.ticket.thread.0 t)) ≡ (is_posted_to b call && nat_eq call.ticket.thread.0 t)
by_pair t b call =
    and_absorbed (stands_in is_waiting list_of_posted (pair_list t b) call) (is_posted_to b call && nat_eq call.ticket.thread.0 t)
    (λ fits.
    let parts = and_parts (is_posted_to b call) (nat_eq call.ticket.thread.0 t) fits in
    let inner = and_parts (is_posted call.state) (nat_eq call.target.0 b) parts.0 in
    let target : call.target.0 ≡ b = eqb-true call.target.0 b inner.1 in
    let thread : call.ticket.thread.0 ≡ t = eqb-true call.ticket.thread.0 t parts.1 in
    let same : list_of_posted call ≡ pair_list t b = ap (λ n. pair_list n call.target.0) thread ∙ ap (pair_list t) target in
    and_from (is_posted call.state) (nat_eq (list_of_posted call) (pair_list t b)) inner.0 (eq-eqb (list_of_posted call) (pair_list t b) same))

by_caller : (ticket : Ticket) (call : Call) → (stands_in is_open list_of_open (caller_list ticket.thread.0) call && is_open_call ticket call) ≡ is_open_call ticket call
by_caller ticket call =
    and_absorbed (stands_in is_open list_of_open (caller_list ticket.thread.0) call) (is_open_call ticket call)
    (λ fits.
    let parts = and_parts (same_ticket ticket call.ticket) (not (is_collected call.state)) fits in
    let inner = and_parts (nat_eq ticket.thread.0 call.ticket.thread.0) (nat_eq ticket.seq call.ticket.seq) parts.0 in
    let thread : ticket.thread.0 ≡ call.ticket.thread.0 = eqb-true ticket.thread.0 call.ticket.thread.0 inner.0 in
    let same : list_of_open call ≡ caller_list ticket.thread.0 = ap caller_list (sym thread) in
    and_from (not (is_collected call.state)) (nat_eq (list_of_open call) (caller_list ticket.thread.0)) parts.1 (eq-eqb (list_of_open call) (caller_list ticket.thread.0) same))

-- whether the call is posted to the box by a thread of one of the lists below this one
abbrev pub is_posted_below : ℕ → ℕ → Call → Bool
is_posted_below list b call = is_posted_to b call && nat_lt (caller_list call.ticket.thread.0) list

none_below : (b : ℕ) (call : Call) → is_posted_below 0 b call ≡ false
none_below b call = and_right (is_posted_to b call) (nat_lt (caller_list call.ticket.thread.0) 0) (le-ltb (caller_list call.ticket.thread.0) 0 (omega arith))

below_or_at : (own list : ℕ) → (nat_lt own list || nat_eq own list) ≡ nat_lt own (list + 1)
below_or_at own list =
    elim (cases_order own list) [
      | inl same ↦ or_right (nat_lt own list) (nat_eq own list) (eq-eqb own list same) ∙ sym (lt-ltb own (list + 1) (omega arith))
      | inr apart ↦
          elim apart [
            | inl below ↦ or_left (nat_lt own list) (nat_eq own list) (lt-ltb own list below) ∙ sym (lt-ltb own (list + 1) (omega arith))
            | inr above ↦
                let other : own ≢ list = λ same. omega (arith, same, above) in
                ap (λ c. c || nat_eq own list) (le-ltb own list (omega arith)) ∙ (ne_eqb own list other ∙ sym (le-ltb own (list + 1) (omega arith)))
          ]
    ]

one_more_list : (posted below at next : Bool) → (below || at) ≡ next → ((posted && below) || (posted && at)) ≡ (posted && next)
one_more_list true below at next is = is
one_more_list false below at next is = refl

module _ (calls : List Call) where
  pub no_list-first : (b : ℕ) → None ≡ first_place (is_posted_below 0 b) calls
  no_list-first b = sym (first_place-none (is_posted_below 0 b) (none_below b) calls)

  pub next_list-first : (list b : ℕ) → lesser (first_place (is_posted_below list b) calls) (first_place (is_posted_by_list list b) calls) ≡ first_place (is_posted_below (list + 1) b) calls
  next_list-first list b =
      sym (first_place-or (is_posted_below list b) (is_posted_by_list list b) calls)
      ∙ first_place-agree (λ call. is_posted_below list b call || is_posted_by_list list b call) (is_posted_below (list + 1) b)
      (λ call. one_more_list (is_posted_to b call) (nat_lt (caller_list call.ticket.thread.0) list) (nat_eq (caller_list call.ticket.thread.0) list) (nat_lt (caller_list call.ticket.thread.0) (list + 1)) (below_or_at (caller_list call.ticket.thread.0) list)) calls

  pub all_lists-first : (b : ℕ) → first_place (is_posted_below 16 b) calls ≡ first_place (is_posted_to b) calls
  all_lists-first b =
      first_place-agree (is_posted_below 16 b) (is_posted_to b)
      (λ call. below_all (is_posted_to b call) (nat_lt (caller_list call.ticket.thread.0) 16) (lt-ltb (caller_list call.ticket.thread.0) 16 (caller_list-bound call.ticket.thread.0))) calls
    where
      below_all : (posted below : Bool) → below ≡ true → (posted && below) ≡ posted
      below_all true below is = is
      below_all false below is = refl

  pub first-by_list : (list b pair : ℕ) → pair ≡ list * 8 + b % 8 → first_place (λ call. stands_in is_waiting list_of_posted pair call && is_posted_to b call) calls ≡ first_place (is_posted_by_list list b) calls
  first-by_list list b pair is =
      first_place-agree (λ call. stands_in is_waiting list_of_posted pair call && is_posted_to b call) (is_posted_by_list list b) (λ call. by_list list b pair call is) calls

  pub first-by_pair : (t b pair : ℕ) → pair ≡ pair_list t b → first_place (λ call. stands_in is_waiting list_of_posted pair call && (is_posted_to b call && nat_eq call.ticket.thread.0 t)) calls ≡ first_place (λ call. is_posted_to b call && nat_eq call.ticket.thread.0 t) calls
  first-by_pair t b pair is =
      first_place-agree (λ call. stands_in is_waiting list_of_posted pair call && (is_posted_to b call && nat_eq call.ticket.thread.0 t)) (λ call. is_posted_to b call && nat_eq call.ticket.thread.0 t)
      (λ call. ap (λ list. stands_in is_waiting list_of_posted list call && (is_posted_to b call && nat_eq call.ticket.thread.0 t)) is ∙ by_pair t b call) calls

  pub first-by_caller : (ticket : Ticket) (list : ℕ) → list ≡ caller_list ticket.thread.0 → first_place (λ call. stands_in is_open list_of_open list call && is_open_call ticket call) calls ≡ first_place (is_open_call ticket) calls
  first-by_caller ticket list is =
      first_place-agree (λ call. stands_in is_open list_of_open list call && is_open_call ticket call) (is_open_call ticket)
      (λ call. ap (λ n. stands_in is_open list_of_open n call && is_open_call ticket call) is ∙ by_caller ticket call) calls
