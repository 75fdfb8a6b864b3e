-- What the table keeps, as a call is posted, starts, is finished and is collected.
use Rattle.std.proofs.Common.{◌≡◌, ◌≢◌, ℕ, ◌+◌, ◌-◌, ◌<◌, ◌≤◌, ◌^◌, Bool, true, false, ◌&&◌, not, cond, List, [], ◌∷◌, ◌++◌, length, get_or, set, refl, sym, ap, ◌∙◌, subst, arith, eq-eqb, replicate, length-set, Some, None}
use Rattle.std.specs.List.{slice_get}
use Rattle.std.specs.Option.{IsSome}
use Rattle.std.specs.Prelude.{nat_eq}
use Rattle.std.proofs.lemmas.Bool.{and_right, and_from, ne_eqb}
use Rattle.std.proofs.lemmas.List.Sums.{count_by-le-length}
use Rattle.std.proofs.lemmas.List.{length-map, length_push, length-replicate, get_or-replicate}
use Rattle.flat_model.specs.declared.states.Call.{Call}
use Rattle.flat_model.specs.declared.states.CallState.{CallState}
use Rattle.flat_model.specs.declared.states.CallState.TheVariants as state
use Rattle.flat_model.specs.Calls.{is_collected, is_posted, is_posted_to, posted_count}
use Rattle.index_list.specs.Arena.{ArenaView, list_at, list_with, opening_arena, with_last, without, without_node}
use Rattle.rpc_gateway.specs.Calls.{call_count, is_made_by, next_ticket}
use Rattle.rpc_gateway.specs.Kept.{HasRoom}
use Rattle.rpc_gateway.specs.Listed.{AreCounted, AreListed}
use Rattle.rpc_gateway.specs.Table.{IsTable, call_in, caller_list, is_done, is_open, is_started, is_waiting, list_of_open, list_of_posted, pair_list, TableView}
use Rattle.rpc_gateway.proofs.ListedLemmas.{AreCounted-dropped, AreCounted-kept, AreCounted-push, AreListed-dropped, AreListed-kept, AreListed-push, live_stands, next_is_free}
use Rattle.rpc_gateway.proofs.ListLemmas.{count_by-set}
use Rattle.rpc_gateway.proofs.NumberLemmas.{AreNumbered-changed, AreNumbered-push, caller_list-bound, pair_list-bound}

pub posted_open : (s : CallState) → is_posted s ≡ true → is_collected s ≡ false
posted_open state.Posted is = refl
posted_open state.Started is = refl
posted_open (state.Done value) is = refl
posted_open state.Collected is = sym is

pub posted_rests : (s : CallState) → is_posted s ≡ true → is_started s ≡ false
posted_rests state.Posted is = refl
posted_rests state.Started is = absurd (cc)
posted_rests (state.Done value) is = refl
posted_rests state.Collected is = refl

pub started_open : (s : CallState) → is_started s ≡ true → (is_posted s ≡ false) × (is_collected s ≡ false)
started_open state.Posted is = absurd (cc)
started_open state.Started is = (refl, refl)
started_open (state.Done value) is = (refl, refl)
started_open state.Collected is = absurd (cc)

pub done_open : (s : CallState) → is_done s ≡ true → (is_posted s ≡ false) × (is_collected s ≡ false) × (is_started s ≡ false)
done_open state.Posted is = absurd (cc)
done_open state.Started is = absurd (cc)
done_open (state.Done value) is = (refl, refl, refl)
done_open state.Collected is = absurd (cc)

posted_to_target : (call : Call) → is_posted call.state ≡ true → is_posted_to call.target.0 call ≡ true
posted_to_target call is = and_from (is_posted call.state) (nat_eq call.target.0 call.target.0) is (eq-eqb call.target.0 call.target.0 refl)

posted_to_no_other : (call : Call) (k : ℕ) → k ≢ call.target.0 → is_posted_to k call ≡ false
posted_to_no_other call k other = and_right (is_posted call.state) (nat_eq call.target.0 k) (ne_eqb call.target.0 k (λ same. other (sym same)))

none_posted : (call : Call) (k : ℕ) → is_posted call.state ≡ false → is_posted_to k call ≡ false
none_posted call k is = ap (λ b. b && nat_eq call.target.0 k) is

nothing_listed : {X : Type 0} (live : X → Bool) (key : X → ℕ) (n : ℕ) → AreListed live key (replicate n []) []
nothing_listed live key n = record {
  listed = λ list below.
      let within : list < n = subst (λ m. list < m) (length-replicate n []) below in
      get_or-replicate n list [] [] within;
}

nothing_counted : {X : Type 0} (test : ℕ → X → Bool) (n : ℕ) → AreCounted test (replicate n 0) []
nothing_counted test n = record {
  counted = λ k below.
      let within : k < n = subst (λ m. k < m) (length-replicate n 0) below in
      get_or-replicate n k 0 0 within;
}

pub IsTable-opening : (room : ℕ) → room < 2 ^ 32 → IsTable [] room (opening_arena room 128) (opening_arena room 16) (replicate 256 0) (replicate 256 0)
IsTable-opening room few = record {
  room_known = record { within = omega arith; few = few };
  posted_lists = length-replicate {A = List ℕ} 128 [];
  open_lists = length-replicate {A = List ℕ} 16 [];
  posted_nodes = refl;
  open_nodes = refl;
  waiting_boxes = length-replicate {A = ℕ} 256 0;
  made_threads = length-replicate {A = ℕ} 256 0;
  posted_known = nothing_listed is_waiting list_of_posted 128;
  open_known = nothing_listed is_open list_of_open 16;
  waiting_known = nothing_counted is_posted_to 256;
  made_known = nothing_counted is_made_by 256;
  numbered = record { once = λ i k first second at_i at_k same. absurd (cc); counted = λ i call at. absurd (cc) };
}

-- the same table by other names
pub IsTable-same : (calls calls' : List Call) (room room' : ℕ) (posted posted' uncollected uncollected' : ArenaView) (waiting waiting' made made' : List ℕ) → calls' ≡ calls → room' ≡ room → posted' ≡ posted → uncollected' ≡ uncollected → waiting' ≡ waiting → made' ≡ made → IsTable calls room posted uncollected waiting made → IsTable calls' room' posted' uncollected' waiting' made'
IsTable-same calls calls' room room' posted posted' uncollected uncollected' waiting waiting' made made' same_calls same_room' same_posted same_uncollected same_waiting same_made table =
    subst (λ x. IsTable x room' posted' uncollected' waiting' made') (sym same_calls)
    (subst (λ x. IsTable calls x posted' uncollected' waiting' made') (sym same_room')
    (subst (λ x. IsTable calls room x uncollected' waiting' made') (sym same_posted)
    (subst (λ x. IsTable calls room posted x waiting' made') (sym same_uncollected)
    (subst (λ x. IsTable calls room posted uncollected x made') (sym same_waiting)
    (subst (λ x. IsTable calls room posted uncollected waiting x) (sym same_made) table)))))

-- the same view by other names
pub table_view : (calls calls' : List Call) (spare spare' : ℕ) → calls ≡ calls' → spare ≡ spare' → ◌≡◌ {A = TableView} (record { calls = calls; spare = spare }) (record { calls = calls'; spare = spare' })
table_view calls calls' spare spare' same_calls same_spare =
    ap (λ (x : List Call). let v : TableView = record { calls = x; spare = spare } in v) same_calls
    ∙ ap (λ (n : ℕ). let v : TableView = record { calls = calls'; spare = n } in v) same_spare

module _ (calls : List Call) (room : ℕ) (posted uncollected : ArenaView) (waiting made : List ℕ) (old : IsTable calls room posted uncollected waiting made) where
  pub IsTable-push : (call : Call) (list own n : ℕ) → 1 ≤ room - length calls → call.ticket ≡ next_ticket call.ticket.thread calls → call.state ≡ state.Posted → list ≡ list_of_posted call → own ≡ list_of_open call → n ≡ length calls → IsTable (calls ++ call ∷ []) room (with_last posted list n) (with_last uncollected own n) (set waiting call.target.0 (get_or waiting call.target.0 0 + 1)) (set made call.ticket.thread.0 (get_or made call.ticket.thread.0 0 + 1))
  IsTable-push call list own n spare next is is_list is_own is_n =
      let posts : is_posted call.state ≡ true = ap is_posted is in
      let opens : not (is_collected call.state) ≡ true = ap (λ s. not (is_collected s)) is in
      let list_within : list < length posted.lists = subst (λ m. list < m) (sym old.posted_lists) (subst (λ m. m < 128) (sym is_list) (pair_list-bound call.ticket.thread.0 call.target.0)) in
      let own_within : own < length uncollected.lists = subst (λ m. own < m) (sym old.open_lists) (subst (λ m. m < 16) (sym is_own) (caller_list-bound call.ticket.thread.0)) in
      let longer : length (calls ++ call ∷ []) ≡ length calls + 1 = length_push calls call in
      let few = old.room_known.few in
      record {
        room_known = record { within = omega (arith, longer, spare); few = few };
        posted_lists = length-set posted.lists list (list_at posted.lists list ++ n ∷ []) ∙ old.posted_lists;
        open_lists = length-set uncollected.lists own (list_at uncollected.lists own ++ n ∷ []) ∙ old.open_lists;
        posted_nodes = old.posted_nodes;
        open_nodes = old.open_nodes;
        waiting_boxes = length-set waiting call.target.0 (get_or waiting call.target.0 0 + 1) ∙ old.waiting_boxes;
        made_threads = length-set made call.ticket.thread.0 (get_or made call.ticket.thread.0 0 + 1) ∙ old.made_threads;
        posted_known = subst (λ m. AreListed is_waiting list_of_posted (set posted.lists list (list_at posted.lists list ++ m ∷ [])) (calls ++ call ∷ [])) (sym is_n)
            (AreListed-push is_waiting list_of_posted posted.lists calls call list (sym is_list) list_within posts old.posted_known);
        open_known = subst (λ m. AreListed is_open list_of_open (set uncollected.lists own (list_at uncollected.lists own ++ m ∷ [])) (calls ++ call ∷ [])) (sym is_n)
            (AreListed-push is_open list_of_open uncollected.lists calls call own (sym is_own) own_within opens old.open_known);
        waiting_known = AreCounted-push is_posted_to waiting calls call call.target.0 (posted_to_target call posts) (posted_to_no_other call) old.waiting_known;
        made_known = AreCounted-push is_made_by made calls call call.ticket.thread.0 (eq-eqb call.ticket.thread.0 call.ticket.thread.0 refl) (λ k other. ne_eqb call.ticket.thread.0 k (λ same. other (sym same))) old.made_known;
        numbered = AreNumbered-push calls call next old.numbered;
      }

  same_room : (i : ℕ) (call : Call) → HasRoom (length (set calls i call)) room
  same_room i call =
      let kept : length (set calls i call) ≡ length calls = length-set calls i call in
      let within = old.room_known.within in
      record { within = omega (arith, kept, within); few = old.room_known.few }

  pub IsTable-start : (i : ℕ) (call : Call) → slice_get calls i ≡ Some call → is_posted call.state ≡ true → IsTable (set calls i (call_in state.Started call)) room (without_node posted i) uncollected (set waiting call.target.0 (get_or waiting call.target.0 0 - 1)) made
  IsTable-start i call is posts =
      let opens : true ≡ not (is_collected call.state) = sym (ap not (posted_open call.state posts)) in
      record {
        room_known = same_room i (call_in state.Started call);
        posted_lists = length-map posted.lists (without i) ∙ old.posted_lists;
        open_lists = old.open_lists;
        posted_nodes = old.posted_nodes;
        open_nodes = old.open_nodes;
        waiting_boxes = length-set waiting call.target.0 (get_or waiting call.target.0 0 - 1) ∙ old.waiting_boxes;
        made_threads = old.made_threads;
        posted_known = AreListed-dropped is_waiting list_of_posted posted.lists calls i (call_in state.Started call) refl old.posted_known;
        open_known = AreListed-kept is_open list_of_open uncollected.lists calls i call (call_in state.Started call) is opens refl old.open_known;
        waiting_known = AreCounted-dropped is_posted_to waiting calls i call.target.0 call (call_in state.Started call) is (posted_to_target call posts) (posted_to_no_other call) (λ k. refl) old.waiting_known;
        made_known = AreCounted-kept is_made_by made calls i call (call_in state.Started call) is (λ k. refl) old.made_known;
        numbered = AreNumbered-changed calls i call (call_in state.Started call) is refl old.numbered;
      }

  pub IsTable-finish : (i : ℕ) (call : Call) (v : ℕ) → slice_get calls i ≡ Some call → is_started call.state ≡ true → IsTable (set calls i (call_in (state.Done v) call)) room posted uncollected waiting made
  IsTable-finish i call v is starts =
      let open_parts = started_open call.state starts in
      record {
        room_known = same_room i (call_in (state.Done v) call);
        posted_lists = old.posted_lists;
        open_lists = old.open_lists;
        posted_nodes = old.posted_nodes;
        open_nodes = old.open_nodes;
        waiting_boxes = old.waiting_boxes;
        made_threads = old.made_threads;
        posted_known = AreListed-kept is_waiting list_of_posted posted.lists calls i call (call_in (state.Done v) call) is (sym open_parts.0) refl old.posted_known;
        open_known = AreListed-kept is_open list_of_open uncollected.lists calls i call (call_in (state.Done v) call) is (sym (ap not open_parts.1)) refl old.open_known;
        waiting_known = AreCounted-kept is_posted_to waiting calls i call (call_in (state.Done v) call) is (λ k. sym (none_posted call k open_parts.0)) old.waiting_known;
        made_known = AreCounted-kept is_made_by made calls i call (call_in (state.Done v) call) is (λ k. refl) old.made_known;
        numbered = AreNumbered-changed calls i call (call_in (state.Done v) call) is refl old.numbered;
      }

  pub IsTable-collect : (i : ℕ) (call : Call) → slice_get calls i ≡ Some call → is_done call.state ≡ true → IsTable (set calls i (call_in state.Collected call)) room posted (without_node uncollected i) waiting made
  IsTable-collect i call is done =
      let done_parts = done_open call.state done in
      record {
        room_known = same_room i (call_in state.Collected call);
        posted_lists = old.posted_lists;
        open_lists = length-map uncollected.lists (without i) ∙ old.open_lists;
        posted_nodes = old.posted_nodes;
        open_nodes = old.open_nodes;
        waiting_boxes = old.waiting_boxes;
        made_threads = old.made_threads;
        posted_known = AreListed-kept is_waiting list_of_posted posted.lists calls i call (call_in state.Collected call) is (sym done_parts.0) refl old.posted_known;
        open_known = AreListed-dropped is_open list_of_open uncollected.lists calls i (call_in state.Collected call) refl old.open_known;
        waiting_known = AreCounted-kept is_posted_to waiting calls i call (call_in state.Collected call) is (λ k. sym (none_posted call k done_parts.0)) old.waiting_known;
        made_known = AreCounted-kept is_made_by made calls i call (call_in state.Collected call) is (λ k. refl) old.made_known;
        numbered = AreNumbered-changed calls i call (call_in state.Collected call) is refl old.numbered;
      }

  pub own_list : (t b pair : ℕ) → pair ≡ pair_list t b → pair < length posted.lists
  own_list t b pair is = subst (λ m. pair < m) (sym old.posted_lists) (subst (λ m. m < 128) (sym is) (pair_list-bound t b))

  pub own_caller : (t own : ℕ) → own ≡ caller_list t → own < length uncollected.lists
  own_caller t own is = subst (λ m. own < m) (sym old.open_lists) (subst (λ m. m < 16) (sym is) (caller_list-bound t))

  pub posted_free : (n : ℕ) → n ≡ length calls → list_with posted.lists n ≡ None
  posted_free n is = ap (list_with posted.lists) is ∙ next_is_free is_waiting list_of_posted posted.lists calls old.posted_known

  pub uncollected_free : (n : ℕ) → n ≡ length calls → list_with uncollected.lists n ≡ None
  uncollected_free n is = ap (list_with uncollected.lists) is ∙ next_is_free is_open list_of_open uncollected.lists calls old.open_known

  pub posted_stands : (i : ℕ) (call : Call) → slice_get calls i ≡ Some call → is_posted call.state ≡ true → IsSome (list_with posted.lists i)
  posted_stands i call is posts = live_stands is_waiting list_of_posted posted.lists calls i call is posts (own_list call.ticket.thread.0 call.target.0 (list_of_posted call) refl) old.posted_known

  pub uncollected_stands : (i : ℕ) (call : Call) → slice_get calls i ≡ Some call → is_collected call.state ≡ false → IsSome (list_with uncollected.lists i)
  uncollected_stands i call is opens = live_stands is_open list_of_open uncollected.lists calls i call is (ap not opens) (own_caller call.ticket.thread.0 (list_of_open call) refl) old.open_known

  pub waiting_is : (b : ℕ) → b < 256 → get_or waiting b 0 ≡ posted_count b calls
  waiting_is b box = old.waiting_known.counted b (subst (λ m. b < m) (sym old.waiting_boxes) box)

  pub made_is : (t : ℕ) → t < 256 → get_or made t 0 ≡ call_count t calls
  made_is t thread = old.made_known.counted t (subst (λ m. t < m) (sym old.made_threads) thread)

  pub waiting_fits : (b : ℕ) → b < 256 → 1 ≤ room - length calls → get_or waiting b 0 + 1 < 2 ^ 32
  waiting_fits b box spare =
      let is = waiting_is b box in
      let few = count_by-le-length (is_posted_to b) calls in
      let room_few = old.room_known.few in
      omega (arith, is, few, room_few, spare)

  pub made_fits : (t : ℕ) → t < 256 → 1 ≤ room - length calls → get_or made t 0 + 1 < 2 ^ 32
  made_fits t thread spare =
      let is = made_is t thread in
      let few = count_by-le-length (is_made_by t) calls in
      let room_few = old.room_known.few in
      omega (arith, is, few, room_few, spare)

  pub some_waiting : (i : ℕ) (call : Call) → slice_get calls i ≡ Some call → is_posted call.state ≡ true → call.target.0 < 256 → 1 ≤ get_or waiting call.target.0 0
  some_waiting i call is posts box =
      let counted = waiting_is call.target.0 box in
      let change = count_by-set (is_posted_to call.target.0) calls i call (call_in state.Started call) is in
      let one : ◌≡◌ {A = ℕ} (cond (is_posted_to call.target.0 call) 1 0) 1 = ap (λ b. cond b 1 0) (posted_to_target call posts) in
      omega (arith, counted, change, one)
