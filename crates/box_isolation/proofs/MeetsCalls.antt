-- Calls: the flat machine's rows and those of the box by itself leave the same.
use Rattle.std.proofs.Common.{◌≡◌, ◌≢◌, ℕ, zero, suc, ◌+◌, ◌-◌, ◌<◌, ◌≤◌, Bool, true, false, List, [], ◌∷◌, ◌++◌, length, Option, Some, None, refl, sym, ◌∙◌, ap, subst, arith, inl, inr}
use Rattle.std.specs.Prelude.{◌&&◌, not, nat_eq, nat_le, nat_lt, is_some, filter, if◌then◌else◌, slice_set}
use Rattle.std.specs.List.{list_any}
use Rattle.std.specs.Option.{option_map_or}
use Rattle.std.proofs.lemmas.Bool.{cases_Bool, and_parts, false≢true, leb-true, eq-eqb, eqb-true, eqb-false, ne_eqb}
use Rattle.std.proofs.lemmas.List.{length-set}
use Rattle.addr_base.specs.declared.identity.Ticket.{Ticket}
use Rattle.box_isolation.specs.Arrivals.{supplied_call, supplied_result}
use Rattle.flat_model.specs.declared.actors.Who.{Who}
use Rattle.flat_model.specs.declared.events.Collected.{Collected}
use Rattle.flat_model.specs.declared.events.Collected.TheVariants as got
use Rattle.flat_model.specs.declared.events.Reply.{Reply}
use Rattle.flat_model.specs.declared.parts.BoxPart.{BoxPart}
use Rattle.flat_model.specs.declared.parts.Config.{Config}
use Rattle.flat_model.specs.declared.parts.RpcGate.{RpcGate}
use Rattle.flat_model.specs.declared.states.Awaited.{Awaited}
use Rattle.flat_model.specs.declared.states.Call.{Call}
use Rattle.flat_model.specs.declared.states.CallState.{CallState}
use Rattle.flat_model.specs.declared.states.CallState.TheVariants as state
use Rattle.flat_model.specs.declared.states.Shared.{Shared}
use Rattle.flat_model.specs.declared.states.ThreadState.{ThreadState}
use Rattle.box_isolation.specs.AloneCalls.{alone_late, alone_look, alone_post, alone_result, alone_return, alone_start, alone_take, alone_wait, has_open, is_call_of, with_serves, without_open}
use Rattle.box_isolation.specs.AloneState.{Kept, LoneCalls, OpenCall}
use Rattle.flat_model.specs.CallRows.{after_collecting, call_by, look_row, no_result_row, own_ticket, rpc_post_row, rpc_result_row, rpc_return_row, rpc_take_row, served_ticket, start_row}
use Rattle.flat_model.specs.Calls.{collected_by, collected_in, in_state, is_collected, is_open_call, open_call, same_ticket, with_state}
use Rattle.box_isolation.specs.Reach.{is_thread_of}
use Rattle.box_isolation.specs.Supplies.{result_or_nothing, supply_of_start, value_in}
use Rattle.flat_model.specs.Turn.{waiting_row}
use Rattle.flat_model.proofs.NamedChoices.{find-passes}
use Rattle.box_isolation.proofs.AlikeBoxes.{AreAlikeCalls, IsAlike, Meets, uncollected}

-- ---- the uncollected calls of a box

pub uncollected-append : (box : BoxPart) (first second : List Call) → uncollected box (first ++ second) ≡ uncollected box first ++ uncollected box second
uncollected-append box [] second = refl
uncollected-append box (call ∷ first) second = elim (cases_Bool (is_thread_of box call.ticket.thread.0)) [
  | inl own ↦ elim (cases_Bool (is_collected call.state)) [
    | inl gone ↦ rw (own, gone) (uncollected-append box first second)
    | inr live ↦ rw (own, live) (ap (λ rest. record { thread = call.ticket.thread.0 - box.first; seq = call.ticket.seq } ∷ rest) (uncollected-append box first second))
  ]
  | inr other ↦ rw other (uncollected-append box first second)
]

-- one call before the others
uncollected-first : (box : BoxPart) (call other : Call) (calls more : List Call) → other.ticket ≡ call.ticket → is_collected other.state ≡ is_collected call.state →
    uncollected box more ≡ uncollected box calls → uncollected box (other ∷ more) ≡ uncollected box (call ∷ calls)
uncollected-first box call other calls more ticket state rest = rw (ticket, state, rest) refl

in_state-kept : (ticket : Ticket) (new : CallState) (call : Call) → is_collected new ≡ false →
    ((in_state ticket new call).ticket ≡ call.ticket) × (is_collected (in_state ticket new call).state ≡ is_collected call.state)
in_state-kept ticket new call live = elim (cases_Bool (is_open_call ticket call)) [
  | inl here ↦
      let was = and_parts (same_ticket ticket call.ticket) (not (is_collected call.state)) here in
      rw here (refl, live ∙ sym (unnot (is_collected call.state) was.1))
  | inr there ↦ rw there (refl, refl)
]
  where
    unnot : (x : Bool) → not x ≡ true → x ≡ false
    unnot true e = sym e
    unnot false e = refl

-- a call of the ticket that goes on to a state in which it is not collected
pub uncollected-kept : (box : BoxPart) (ticket : Ticket) (new : CallState) (calls : List Call) → is_collected new ≡ false → uncollected box (with_state ticket new calls) ≡ uncollected box calls
uncollected-kept box ticket new [] live = refl
uncollected-kept box ticket new (call ∷ calls) live =
    let it = in_state-kept ticket new call live in
    uncollected-first box call (in_state ticket new call) calls (with_state ticket new calls) it.0 it.1 (uncollected-kept box ticket new calls live)

same-parts : (ticket other : Ticket) → same_ticket ticket other ≡ true → (ticket.thread.0 ≡ other.thread.0) × (ticket.seq ≡ other.seq)
same-parts ticket other same =
    let it = and_parts (nat_eq ticket.thread.0 other.thread.0) (nat_eq ticket.seq other.seq) same in
    (eqb-true ticket.thread.0 other.thread.0 it.0, eqb-true ticket.seq other.seq it.1)

-- the result of another box's call was collected
pub uncollected-other : (box : BoxPart) (ticket : Ticket) (new : CallState) (calls : List Call) → is_thread_of box ticket.thread.0 ≡ false → uncollected box (with_state ticket new calls) ≡ uncollected box calls
uncollected-other box ticket new [] other = refl
uncollected-other box ticket new (call ∷ calls) other = elim (cases_Bool (is_open_call ticket call)) [
  | inl here ↦
      let same = same-parts ticket call.ticket (and_parts (same_ticket ticket call.ticket) (not (is_collected call.state)) here).0 in
      let far : is_thread_of box call.ticket.thread.0 ≡ false = subst (λ t. is_thread_of box t ≡ false) same.0 other in
      rw (here, far) (uncollected-other box ticket new calls other)
  | inr there ↦ rw there (uncollected-first box call call calls (with_state ticket new calls) refl refl (uncollected-other box ticket new calls other))
]

-- a thread's index in its box tells the thread
same-index : (box : BoxPart) (t u : ℕ) → is_thread_of box t ≡ true → is_thread_of box u ≡ true → nat_eq (u - box.first) (t - box.first) ≡ nat_eq t u
same-index box t u own too =
    let low : box.first ≤ t = leb-true box.first t (and_parts (nat_le box.first t) (nat_lt t (box.first + box.threads)) own).0 in
    let under : box.first ≤ u = leb-true box.first u (and_parts (nat_le box.first u) (nat_lt u (box.first + box.threads)) too).0 in
    elim (cases_Bool (nat_eq t u)) [
      | inl same ↦ eq-eqb (u - box.first) (t - box.first) (ap (λ n. n - box.first) (sym (eqb-true t u same))) ∙ sym same
      | inr differs ↦ ne_eqb (u - box.first) (t - box.first) (λ e. eqb-false t u differs (omega (arith, e, low, under))) ∙ sym differs
    ]

same-seq : (m n : ℕ) → nat_eq m n ≡ nat_eq n m
same-seq m n = elim (cases_Bool (nat_eq n m)) [
  | inl same ↦ eq-eqb m n (sym (eqb-true n m same)) ∙ sym same
  | inr differs ↦ ne_eqb m n (λ e. eqb-false n m differs (sym e)) ∙ sym differs
]

-- an own ticket, told by the index of its thread
same-call : (box : BoxPart) (ticket : Ticket) (call : Call) → is_thread_of box ticket.thread.0 ≡ true → is_thread_of box call.ticket.thread.0 ≡ true →
    is_call_of (ticket.thread.0 - box.first) ticket.seq (record { thread = call.ticket.thread.0 - box.first; seq = call.ticket.seq }) ≡ same_ticket ticket call.ticket
same-call box ticket call own too =
    let index = same-index box ticket.thread.0 call.ticket.thread.0 own too in
    let number = same-seq call.ticket.seq ticket.seq in
    rw (index, number) refl

other-ticket : (box : BoxPart) (ticket : Ticket) (call : Call) → is_thread_of box ticket.thread.0 ≡ true → is_thread_of box call.ticket.thread.0 ≡ false → same_ticket ticket call.ticket ≡ false
other-ticket box ticket call own far = elim (cases_Bool (same_ticket ticket call.ticket)) [
  | inl same ↦ absurd (false≢true (sym far ∙ subst (λ t. is_thread_of box t ≡ true) (same-parts ticket call.ticket same).0 own))
  | inr differs ↦ differs
]

-- the box by itself knows whether a call of its own is not collected
pub open-has : (box : BoxPart) (ticket : Ticket) (calls : List Call) → is_thread_of box ticket.thread.0 ≡ true →
    list_any (is_call_of (ticket.thread.0 - box.first) ticket.seq) (uncollected box calls) ≡ is_some (open_call ticket calls)
open-has box ticket [] own = refl
open-has box ticket (call ∷ calls) own = elim (cases_Bool (is_thread_of box call.ticket.thread.0)) [
  | inl mine ↦ elim (cases_Bool (is_collected call.state)) [
    | inl gone ↦ elim (cases_Bool (same_ticket ticket call.ticket)) [
      | inl same ↦ rw (mine, gone, same) (open-has box ticket calls own)
      | inr differs ↦ rw (mine, gone, differs) (open-has box ticket calls own)
    ]
    | inr live ↦
        let is = same-call box ticket call own mine in
        elim (cases_Bool (same_ticket ticket call.ticket)) [
          | inl same ↦ rw (mine, live, is, same) refl
          | inr differs ↦ rw (mine, live, is, differs) (open-has box ticket calls own)
        ]
  ]
  | inr far ↦ rw (far, other-ticket box ticket call own far) (open-has box ticket calls own)
]

-- the result of a call of its own was collected
pub uncollected-collected : (box : BoxPart) (ticket : Ticket) (calls : List Call) → is_thread_of box ticket.thread.0 ≡ true →
    filter (λ (call : OpenCall). not (is_call_of (ticket.thread.0 - box.first) ticket.seq call)) (uncollected box calls) ≡ uncollected box (with_state ticket state.Collected calls)
uncollected-collected box ticket [] own = refl
uncollected-collected box ticket (call ∷ calls) own = elim (cases_Bool (is_thread_of box call.ticket.thread.0)) [
  | inl mine ↦ elim (cases_Bool (is_collected call.state)) [
    | inl gone ↦ elim (cases_Bool (same_ticket ticket call.ticket)) [
      | inl same ↦ rw (same, gone, mine, gone) (uncollected-collected box ticket calls own)
      | inr differs ↦ rw (differs, gone, mine) (uncollected-collected box ticket calls own)
    ]
    | inr live ↦
        let is = same-call box ticket call own mine in
        elim (cases_Bool (same_ticket ticket call.ticket)) [
          | inl same ↦ rw (same, live, mine, is, same) (uncollected-collected box ticket calls own)
          | inr differs ↦ rw (differs, live, mine, is, differs) ((ap (λ rest. record { thread = call.ticket.thread.0 - box.first; seq = call.ticket.seq } ∷ rest) (uncollected-collected box ticket calls own)))
        ]
  ]
  | inr far ↦ rw (other-ticket box ticket call own far, far) (uncollected-collected box ticket calls own)
]

-- an open call is not collected
open-not_collected : (ticket : Ticket) (calls : List Call) (call : Call) → open_call ticket calls ≡ Some call → is_collected call.state ≡ false
open-not_collected ticket calls call is =
    unnot (is_collected call.state) (and_parts (same_ticket ticket call.ticket) (not (is_collected call.state)) (find-passes (is_open_call ticket) calls call is)).1
  where
    unnot : (x : Bool) → not x ≡ true → x ≡ false
    unnot true e = sym e
    unnot false e = refl

-- ---- what a server serves

pub served-set : (serving : List (Option Ticket)) (b : ℕ) (ticket : Option Ticket) → b < length serving → served_ticket (slice_set serving b ticket) b ≡ ticket
served-set [] b ticket below = absurd (omega arith)
served-set (x ∷ serving) zero ticket below = refl
served-set (x ∷ serving) (suc b) ticket below = served-set serving b ticket (omega (arith, below))

pub served-other : (serving : List (Option Ticket)) (b c : ℕ) (ticket : Option Ticket) → c ≢ b → served_ticket (slice_set serving c ticket) b ≡ served_ticket serving b
served-other [] b c ticket differs = refl
served-other (x ∷ serving) zero zero ticket differs = absurd (differs refl)
served-other (x ∷ serving) zero (suc c) ticket differs = refl
served-other (x ∷ serving) (suc b) zero ticket differs = refl
served-other (x ∷ serving) (suc b) (suc c) ticket differs = served-other serving b c ticket (λ same. differs (ap suc same))

-- ---- rows

module _ (cfg : Config) (b : ℕ) (box : BoxPart) (there : b < length cfg.boxes) where
  calls-alike : (m : Shared) (k : Kept) (calls : List Call) (serving : List (Option Ticket)) (now : LoneCalls) → IsAlike cfg b box m k →
      AreAlikeCalls cfg b box calls serving now → IsAlike cfg b box (record m { calls = calls; serving = serving }) (record k { calls = now })
  calls-alike m k calls serving now alike agree = record { memory = alike.memory; pages = alike.pages; calls = agree; lines = alike.lines }

  same : (m : Shared) (k : Kept) (th : ThreadState) (r : Reply) → IsAlike cfg b box m k → Meets cfg b box (record { shared = m; thread = th; reply = r }) (record { kept = k; thread = th; reply = r })
  same m k th r alike = record { thread = refl; reply = refl; kept = alike }

  pub post-meets : (who : Who) (m : Shared) (k : Kept) (th after : ThreadState) (gate : Option RpcGate) → is_thread_of box who.thread.0 ≡ true → IsAlike cfg b box m k →
      Meets cfg b box (rpc_post_row who m th after gate) (alone_post (who.thread.0 - box.first) who.room k th after (is_some gate))
  post-meets who m k th after None own alike = same m k _ _ alike
  post-meets who m k th after (Some gate) own alike = elim (cases_Bool who.room) [
    | inl room ↦ rw room (record {
      thread = refl;
      reply = refl;
      kept = calls-alike m k (m.calls ++ call_by who th gate ∷ []) m.serving (record k.calls { open_calls = k.calls.open_calls ++ record { thread = who.thread.0 - box.first; seq = th.count + 1 } ∷ [] }) alike (record {
        count = alike.calls.count;
        open_calls = ap (λ xs. xs ++ record { thread = who.thread.0 - box.first; seq = th.count + 1 } ∷ []) alike.calls.open_calls
            ∙ sym (uncollected-append box m.calls (call_by who th gate ∷ []) ∙ rw own refl);
        serves = alike.calls.serves;
      });
    })
    | inr full ↦ rw full (same m k _ _ alike)
  ]

  collected-alike : (m : Shared) (k : Kept) (ticket : Ticket) → is_thread_of box ticket.thread.0 ≡ true → IsAlike cfg b box m k →
      IsAlike cfg b box (after_collecting ticket m) (without_open (ticket.thread.0 - box.first) ticket.seq k)
  collected-alike m k ticket own alike =
      calls-alike m k (with_state ticket state.Collected m.calls) m.serving (record k.calls { open_calls = filter (λ (call : OpenCall). not (is_call_of (ticket.thread.0 - box.first) ticket.seq call)) k.calls.open_calls }) alike (record {
        count = alike.calls.count;
        open_calls = ap (filter (λ (call : OpenCall). not (is_call_of (ticket.thread.0 - box.first) ticket.seq call))) alike.calls.open_calls ∙ uncollected-collected box ticket m.calls own;
        serves = alike.calls.serves;
      })

  late-same : (th : ThreadState) (awaited : Awaited) → alone_late th awaited ≡ no_result_row th awaited
  late-same th awaited = refl

  no-value : (th : ThreadState) (awaited : Awaited) → value_in (no_result_row th awaited).1 ≡ None
  no-value th awaited = elim (cases_Bool (nat_eq (awaited.looks - 1) 0)) [
    | inl last ↦ rw last refl
    | inr more ↦ rw more refl
  ]

  look-meets : (who : Who) (m : Shared) (k : Kept) (th : ThreadState) (awaited : Awaited) (answer : Collected) → is_thread_of box who.thread.0 ≡ true → IsAlike cfg b box m k →
      Meets cfg b box (look_row who m th awaited answer)
      (alone_look (who.thread.0 - box.first) k th awaited (supplied_result (result_or_nothing (value_in (look_row who m th awaited answer).reply))))
  look-meets who m k th awaited got.NoSuch own alike = rw (no-value th awaited) (same m k _ _ alike)
  look-meets who m k th awaited got.Waiting own alike = rw (no-value th awaited) (same m k _ _ alike)
  look-meets who m k th awaited (got.Done value) own alike = record { thread = refl; reply = refl; kept = collected-alike m k (own_ticket who awaited.seq) own alike }

  pub wait-meets : (who : Who) (m : Shared) (k : Kept) (th : ThreadState) (awaited : Option Awaited) → is_thread_of box who.thread.0 ≡ true → IsAlike cfg b box m k →
      Meets cfg b box (waiting_row who m th awaited)
      (alone_wait (who.thread.0 - box.first) k th (result_or_nothing (value_in (waiting_row who m th awaited).reply)) awaited)
  wait-meets who m k th None own alike = same m k _ _ alike
  wait-meets who m k th (Some awaited) own alike = look-meets who m k th awaited (collected_by (own_ticket who awaited.seq) m.calls) own alike

  pub result-meets : (who : Who) (m : Shared) (k : Kept) (th : ThreadState) (r seq : ℕ) → is_thread_of box who.thread.0 ≡ true → IsAlike cfg b box m k →
      Meets cfg b box (rpc_result_row m th r (own_ticket who seq) (collected_by (own_ticket who seq) m.calls))
      (alone_result (who.thread.0 - box.first) k th r seq (result_or_nothing (value_in (rpc_result_row m th r (own_ticket who seq) (collected_by (own_ticket who seq) m.calls)).reply))
      (has_open (who.thread.0 - box.first) seq k))
  result-meets who m k th r seq own alike =
      rw (ap (list_any (is_call_of (who.thread.0 - box.first) seq)) alike.calls.open_calls ∙ open-has box (own_ticket who seq) m.calls own)
      (by_call (open_call (own_ticket who seq) m.calls) refl)
    where
      by_call : (o : Option Call) → open_call (own_ticket who seq) m.calls ≡ o →
          Meets cfg b box (rpc_result_row m th r (own_ticket who seq) (option_map_or (λ call. collected_in call.state) o got.NoSuch))
          (alone_result (who.thread.0 - box.first) k th r seq (result_or_nothing (value_in (rpc_result_row m th r (own_ticket who seq) (option_map_or (λ call. collected_in call.state) o got.NoSuch)).reply)) (is_some o))
      by_call None is = same m k _ _ alike
      by_call (Some call) is = by_state call.state (open-not_collected (own_ticket who seq) m.calls call is)
        where
          by_state : (s : CallState) → is_collected s ≡ false →
              Meets cfg b box (rpc_result_row m th r (own_ticket who seq) (collected_in s))
              (alone_result (who.thread.0 - box.first) k th r seq (result_or_nothing (value_in (rpc_result_row m th r (own_ticket who seq) (collected_in s)).reply)) true)
          by_state state.Posted live = same m k _ _ alike
          by_state state.Started live = same m k _ _ alike
          by_state (state.Done value) live = record { thread = refl; reply = refl; kept = collected-alike m k (own_ticket who seq) own alike }
          by_state state.Collected live = absurd (false≢true (sym live))

  pub take-meets : (m : Shared) (k : Kept) (th : ThreadState) (server : Bool) → IsAlike cfg b box m k →
      Meets cfg b box (rpc_take_row m th server (served_ticket m.serving b)) (alone_take k th server k.calls.serves)
  take-meets m k th server alike = by_serving server (served_ticket m.serving b) k.calls.serves alike.calls.serves
    where
      by_serving : (t : Bool) (o : Option Ticket) (s : Bool) → s ≡ is_some o → Meets cfg b box (rpc_take_row m th t o) (alone_take k th t s)
      by_serving false o s is = same m k _ _ alike
      by_serving true None s is = rw is (same m k _ _ alike)
      by_serving true (Some ticket) s is = rw is (same m k _ _ alike)

  serving-alike : (m : Shared) (k : Kept) (ticket : Ticket) (new : CallState) (now : Option Ticket) → is_collected new ≡ false → IsAlike cfg b box m k →
      IsAlike cfg b box (record m { calls = with_state ticket new m.calls; serving = slice_set m.serving b now }) (with_serves (is_some now) k)
  serving-alike m k ticket new now live alike =
      calls-alike m k (with_state ticket new m.calls) (slice_set m.serving b now) (record k.calls { serves = is_some now }) alike (record {
        count = length-set m.serving b now ∙ alike.calls.count;
        open_calls = alike.calls.open_calls ∙ sym (uncollected-kept box ticket new m.calls live);
        serves = sym (ap is_some (served-set m.serving b now (omega (arith, there, alike.calls.count))));
      })

  pub return-meets : (m : Shared) (k : Kept) (th : ThreadState) (v : ℕ) (server : Bool) → IsAlike cfg b box m k →
      Meets cfg b box (rpc_return_row b m th v (if server then served_ticket m.serving b else None)) (alone_return k th (server && k.calls.serves))
  return-meets m k th v server alike = by_serving server (served_ticket m.serving b) k.calls.serves alike.calls.serves
    where
      by_serving : (t : Bool) (o : Option Ticket) (s : Bool) → s ≡ is_some o → Meets cfg b box (rpc_return_row b m th v (if t then o else None)) (alone_return k th (t && s))
      by_serving false o s is = same m k _ _ alike
      by_serving true None s is = rw is (same m k _ _ alike)
      by_serving true (Some ticket) s is = rw is (record { thread = refl; reply = refl; kept = serving-alike m k ticket (state.Done v) None refl alike })

  pub start-meets : (m : Shared) (k : Kept) (th : ThreadState) (ticket : Ticket) (next : Option Call) → IsAlike cfg b box m k →
      Meets cfg b box (start_row cfg b m th ticket next) (alone_start k th (supplied_call (supply_of_start (start_row cfg b m th ticket next).reply)))
  start-meets m k th ticket None alike = same m k _ _ alike
  start-meets m k th ticket (Some call) alike = record { thread = refl; reply = refl; kept = serving-alike m k ticket state.Started (Some ticket) refl alike }
