-- The steps of a take keep the rule.
use Rattle.std.proofs.Common.{◌≡◌, ◌≢◌, ℕ, ◌+◌, ◌/◌, ◌%◌, ◌<◌, List, [], ◌∷◌, ◌++◌, All, get_or, set, Option, Some, None, option_to_list, eqb, refl, ap, sym, ◌∙◌, subst, arith, length-set, append_assoc}
use mathlib.Core.Option.{some, none}
use mathlib.Core.Logic.{dite}
use native.Mathlib.Decide.{ℕ_discrete, dec_le}
use lib.ListN.{get_elem?}
use prog.Atomic.{either}
use Rattle.std.specs.Int.{bit_at}
use Rattle.std.proofs.lemmas.List.{get_or-set_same, get_or-set_other}
use Rattle.atomic_table.specs.Table.{step, keeps, Allows}
use Rattle.atomic_table.proofs.Lists.{exchanged}
use Rattle.atomic_pool.specs.Times.{times}
use Rattle.atomic_pool.specs.Tickets.{thread_of, of_thread}
use Rattle.atomic_pool.specs.Queue.{AreSlots, encode, head_of, tickets}
use Rattle.atomic_pool.specs.InboxRule.{Agrees, InboxRule}
use Rattle.atomic_pool.specs.InboxParts.{queue_looked, headed_part, peeked_part, dequeued_part, let_go_part}
use Rattle.atomic_pool.specs.InboxPlays.{looks_head, peeks, dequeues}
use Rattle.atomic_pool.specs.declared.inbox.InboxPart.{InboxPart}
use Rattle.atomic_pool.proofs.Counts.{times-same, times-other, times-grows}
use Rattle.atomic_pool.proofs.Queues.{encode-head, encode-tail, some_head, times-here, times-past, known-at}
use Rattle.atomic_pool.proofs.Agreeing.{some_is, none_is_not, seen_only, far, far_tickets}
use Rattle.atomic_pool.proofs.InboxTurned.{St, Turns, Goes, after, queue_slots, agrees, step_kept, load_kept, stays}

module _ (n m slots id : ℕ) (p : InboxPart) where
  module _ (s : St) (rule : InboxRule n m s) (at : get_elem? s.views id ≡ some (p ∷ [])) where
    mine : Agrees n m s.words rule.queue rule.took p
    mine = agrees n m s id p rule at

    -- the first slot of a queue that is not empty
    record Headed (w : ℕ) : Type 0 where
      rest : List ℕ
      is : rule.queue ≡ head_of w ∷ rest
      some_digit : 0 < w % 16
      within : head_of w < p.slots

    headed : get_or s.words 1 0 ≢ 0 → Headed (get_or s.words 1 0)
    headed not_empty =
        let h = some_head rule.queue (λ e. not_empty (rule.queued ∙ e)) in
        let slot : h.0 < 15 = (subst AreSlots h.2 (queue_slots n m s id p rule at)).0 in
        let digit : get_or s.words 1 0 % 16 ≡ h.0 + 1 = ap (λ w. w % 16) (rule.queued ∙ ap encode h.2) ∙ encode-head h.0 h.1 slot in
        let first : h.0 ≡ head_of (get_or s.words 1 0) = omega (arith, digit) in
        let inside : h.0 < m = dite (dec_le m h.0)
        (λ above. absurd (omega (arith, rule.outside h.0 above, ap (times h.0) h.2, times-here h.0 h.1)))
        (λ below. omega arith) in
        record {
          rest = h.1;
          is = h.2 ∙ ap (λ i. i ∷ h.1) first;
          some_digit = omega (arith, digit);
          within = omega (arith, inside, first, mine.slots);
        }

    head_turns : p.number ≡ n → p.peeked ≡ None → get_or s.words 1 0 ≢ 0
        → Turns n m p (headed_part (get_or s.words 1 0) p) s.words s.words rule.queue rule.queue rule.took rule.took
    head_turns consumer unread not_empty = stays n m s id p rule at (headed_part (get_or s.words 1 0) p) refl refl record {
      producers = mine.producers;
      slots = mine.slots;
      put = mine.put;
      taken = mine.taken;
      last = mine.last;
      head = λ i e. let h = headed not_empty in (consumer, (h.rest, h.is ∙ ap (λ j. j ∷ h.rest) (some_is (head_of (get_or s.words 1 0)) i e)));
      peeked = λ c e. none_is_not c (sym unread ∙ e);
    }

    -- the tickets of a queue whose first slot was read
    tickets_first : (i c : ℕ) (rest : List ℕ) → rule.queue ≡ i ∷ rest → get_or s.words (2 + i) 0 ≡ c → rule.took ++ tickets s.words rule.queue ≡ rule.took ++ c ∷ tickets s.words rest
    tickets_first i c rest is read = ap (λ q. rule.took ++ tickets s.words q) is ∙ ap (λ d. rule.took ++ d ∷ tickets s.words rest) read

    peek_turns : (i : ℕ) → p.head ≡ Some i → Turns n m p (peeked_part (get_or s.words (2 + i) 0) p) s.words s.words rule.queue rule.queue rule.took rule.took
    peek_turns i head = stays n m s id p rule at (peeked_part (get_or s.words (2 + i) 0) p) refl refl record {
      producers = mine.producers;
      slots = mine.slots;
      put = mine.put;
      taken = mine.taken;
      last = mine.last;
      head = mine.head;
      peeked = λ c e. (i, head, some_is (get_or s.words (2 + i) 0) c e);
    }

    peeked_thread : (i : ℕ) → p.head ≡ Some i → (thread_of (get_or s.words (2 + i) 0) < 256) × (thread_of (get_or s.words (2 + i) 0) < p.producers)
    peeked_thread i head =
        let h = mine.head i head in
        let below : thread_of (get_or s.words (2 + i) 0) < n = known-at n rule.took (get_or s.words (2 + i) 0) (tickets s.words h.1.0)
        (subst (All (λ d. thread_of d < n)) (tickets_first i (get_or s.words (2 + i) 0) h.1.0 h.1.1 refl) rule.known) in
        (omega (arith, rule.few), omega (arith, below, mine.producers))

    -- the first slot leaves the queue, and its ticket is taken
    dequeue_turns : (i c new w : ℕ) (rest : List ℕ) → p.head ≡ Some i → rule.queue ≡ i ∷ rest → p.peeked ≡ Some c → get_or s.words (2 + i) 0 ≡ c → p.number ≡ n → new ≡ encode rest
        → Turns n m p (record p { list = p.list ++ c ∷ []; held = p.held ++ i ∷ []; head = None; peeked = None; queue = (let_go_part w p).queue }) s.words (set s.words 1 new) rule.queue rest rule.took (rule.took ++ c ∷ [])
    dequeue_turns i c new w rest head is peeked read consumer new_is = record {
      number = refl;
      wide = length-set s.words 1 new;
      queued = get_or-set_same s.words 1 new 0 (omega (arith, rule.wide)) ∙ new_is;
      balanced = λ k. ap (λ y. bit_at y k + times k rest + times k (p.held ++ i ∷ [])) (get_or-set_other s.words 1 0 new 0 (λ e. omega (arith, e)))
          ∙ dite (ℕ_discrete k i)
          (λ here. subst (λ j. bit_at (get_or s.words 0 0) j + times j rest + times j (p.held ++ i ∷ []) ≡ bit_at (get_or s.words 0 0) j + times j rule.queue + times j p.held) (sym here)
          (omega (arith, times-same i p.held, ap (times i) is, times-here i rest)))
          (λ other. omega (arith, times-other k i p.held other, ap (times k) is, times-past k i rest (λ e. other (sym e))));
      known = subst (All (λ d. thread_of d < n)) same rule.known;
      mine = record {
        producers = mine.producers;
        slots = mine.slots;
        put = λ b. absurd (omega (arith, b, consumer));
        taken = λ e. ap (λ l. l ++ c ∷ []) (mine.taken e);
        last = λ j d e. let l = mine.last j d e in (omega (arith, l.0, times-grows j i p.held), far s.words 1 new j (omega arith) ∙ l.1, l.2);
        head = λ j e. none_is_not j e;
        peeked = λ d e. none_is_not d e;
      };
      theirs = λ r other two agreed. record {
        producers = agreed.producers;
        slots = agreed.slots;
        put = λ b. agreed.put b ∙ ap (of_thread r.number) same;
        taken = λ e. absurd (other (e ∙ sym consumer));
        last = λ j d e. let l = agreed.last j d e in (l.0, far s.words 1 new j (omega arith) ∙ l.1, l.2);
        head = λ j e. absurd (other ((agreed.head j e).0 ∙ sym consumer));
        peeked = λ d e. let k = agreed.peeked d e in absurd (other ((agreed.head k.0 k.1).0 ∙ sym consumer));
      };
    }
      where
        same : rule.took ++ tickets s.words rule.queue ≡ (rule.took ++ c ∷ []) ++ tickets (set s.words 1 new) rest
        same = tickets_first i c rest is read
            ∙ (sym (append_assoc rule.took (c ∷ []) (tickets s.words rest)) ∙ ap (λ ts. (rule.took ++ c ∷ []) ++ ts) (sym (far_tickets s.words 1 new rest (omega arith))))

    let_go_turns : (w : ℕ) → Turns n m p (let_go_part w p) s.words s.words rule.queue rule.queue rule.took rule.took
    let_go_turns w = stays n m s id p rule at (let_go_part w p) refl refl record {
      producers = mine.producers;
      slots = mine.slots;
      put = mine.put;
      taken = mine.taken;
      last = mine.last;
      head = λ j e. none_is_not j e;
      peeked = λ d e. none_is_not d e;
    }

  pub look_head_kept : p.number ≡ p.producers → p.peeked ≡ None → Allows (InboxRule n m) slots id (p ∷ [], []) 1 (λ w. w) (looks_head (step slots 1 0 0 none) (p ∷ [], []))
  look_head_kept consumer unread s rule deep at small = dite (ℕ_discrete (get_or s.words 1 0) 0)
      (λ empty. let q : InboxPart = queue_looked (get_or s.words 1 0) p in (
        q ∷ [],
        keeps,
        tt,
        load_kept n m s id p rule at 1 q (stays n m s id p rule at q refl refl (seen_only n m _ _ _ p (agrees n m s id p rule at) q.free q.queue)),
        ((λ _. refl), (λ full. absurd (full empty))),
      ))
      (λ full. let q : InboxPart = headed_part (get_or s.words 1 0) p in
      let h = headed s rule at full in (
        q ∷ [],
        keeps,
        tt,
        load_kept n m s id p rule at 1 q (head_turns s rule at (consumer ∙ (agrees n m s id p rule at).producers) unread full),
        ((λ empty. absurd (full empty)), (λ _. (refl, h.some_digit, h.within))),
      ))

  pub peek_kept : (i j : ℕ) → p.head ≡ Some i → j ≡ 2 + i → Allows (InboxRule n m) slots id (p ∷ [], []) j (λ w. w) (peeks (step slots j 0 0 none) (p ∷ [], []))
  peek_kept i j head is = subst (λ k. Allows (InboxRule n m) slots id (p ∷ [], []) k (λ w. w) (peeks (step slots k 0 0 none) (p ∷ [], []))) (sym is)
      (λ s rule deep at small. (
        peeked_part (get_or s.words (2 + i) 0) p ∷ [],
        keeps,
        tt,
        load_kept n m s id p rule at (2 + i) (peeked_part (get_or s.words (2 + i) 0) p) (peek_turns s rule at i head),
        (let known = peeked_thread s rule at i head in (refl, known.0, known.1)),
      ))

  pub dequeue_kept : (i c old new : ℕ) → p.head ≡ Some i → p.peeked ≡ Some c → new ≡ old / 16
      → Allows (InboxRule n m) slots id (p ∷ [], []) 1 (λ w. either (eqb w old) new w) (dequeues (step slots 1 old new none) (p ∷ [], []))
  dequeue_kept i c old new head peeked is s rule deep at small = exchanged (get_or s.words 1 0) old new (Goes n m s id 1 (λ m'. dequeues (step slots 1 old new none) (p ∷ [], []) (get_or s.words 1 0) m'))
      (λ hit. let w : ℕ = get_or s.words 1 0 in
      let a = agrees n m s id p rule at in
      let h = a.head i head in
      let k = a.peeked c peeked in
      let same : k.0 ≡ i = some_is k.0 i (sym k.1 ∙ head) in
      let slot : i < 15 = (subst AreSlots h.1.1 (queue_slots n m s id p rule at)).0 in
      let new_is : new ≡ encode h.1.0 = is ∙ (ap (λ x. x / 16) (sym hit ∙ (rule.queued ∙ ap encode h.1.1)) ∙ encode-tail i h.1.0 slot) in (
        dequeued_part w p ∷ [],
        keeps,
        tt,
        subst (λ x. InboxRule n m (after s id (set s.words 1 new) (record p { list = p.list ++ option_to_list x.1; held = p.held ++ option_to_list x.0; head = None; peeked = None; queue = (let_go_part w p).queue })))
            (both_are head peeked)
            (step_kept n m s id p rule at _ _ h.1.0 (rule.took ++ c ∷ []) (dequeue_turns s rule at i c new w h.1.0 head h.1.1 peeked (ap (λ x. get_or s.words (2 + x) 0) (sym same) ∙ k.2) h.0 new_is)),
        ((λ _. refl), (λ apart. absurd (apart hit))),
      ))
      (λ apart. let q : InboxPart = let_go_part (get_or s.words 1 0) p in (
        q ∷ [],
        keeps,
        tt,
        load_kept n m s id p rule at 1 q (let_go_turns s rule at (get_or s.words 1 0)),
        ((λ hit. absurd (apart hit)), (λ _. refl)),
      ))
    where
      both_are : p.head ≡ Some i → p.peeked ≡ Some c → ◌≡◌ {A = Option ℕ × Option ℕ} (Some i, Some c) (p.head, p.peeked)
      both_are h k j = (sym h j, sym k j)
