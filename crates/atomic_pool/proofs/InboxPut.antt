-- The steps of a put keep the rule.
use Rattle.std.proofs.Common.{◌≡◌, ◌≢◌, ℕ, ◌+◌, ◌-◌, ◌*◌, ◌^◌, ◌<◌, ◌≤◌, List, [], ◌∷◌, ◌++◌, All, length, get_or, set, Some, eqb, refl, ap, sym, ◌∙◌, subst, arith, length-set, append_assoc}
use mathlib.Core.Option.{some, none}
use mathlib.Core.Logic.{dite}
use native.Mathlib.Decide.{ℕ_discrete}
use lib.ListN.{get_elem?}
use prog.Atomic.{either}
use Rattle.std.specs.Int.{bit_at}
use Rattle.std.proofs.lemmas.List.{get_or-set_same, get_or-set_other}
use Rattle.atomic_table.specs.Table.{step, keeps, Allows}
use Rattle.atomic_table.proofs.Lists.{exchanged}
use Rattle.atomic_pool.specs.Times.{times}
use Rattle.atomic_pool.specs.Tickets.{thread_of, of_thread}
use Rattle.atomic_pool.specs.Queue.{AreSlots, encode, tickets, without}
use Rattle.atomic_pool.specs.InboxRule.{holds_of, Agrees, InboxRule}
use Rattle.atomic_pool.specs.InboxParts.{swapped_part, queue_looked, queue_missed, queued_by, queued_part}
use Rattle.atomic_pool.specs.InboxPlays.{swaps, looks_queue, queues}
use Rattle.atomic_pool.specs.declared.inbox.InboxPart.{InboxPart}
use Rattle.atomic_pool.proofs.Counts.{times-same, times-other}
use Rattle.atomic_pool.proofs.Queues.{encode-push, times-here, times-past, times-without, times-without-other, fewer, known-push, tickets-push, tickets-kept, of_thread-push, of_thread-other}
use Rattle.atomic_pool.proofs.Agreeing.{pair_is, none_is_not, seen_only, words_moved, far, far_tickets}
use Rattle.atomic_pool.proofs.InboxTurned.{St, Turns, Goes, after, at_once, held_alone, queue_slots, agrees, step_kept, load_kept, stays}

module _ (n m slots id : ℕ) (p : InboxPart) where
  module _ (s : St) (rule : InboxRule n m s) (at : get_elem? s.views id ≡ some (p ∷ [])) where
    -- a swap of the ticket of a slot that this seat holds
    swap_turns : (i c : ℕ) → 0 < holds_of i p → thread_of c ≡ p.number → Turns n m p (swapped_part i c p) s.words (set s.words (2 + i) c) rule.queue rule.queue rule.took rule.took
    swap_turns i c held from = record {
      number = refl;
      wide = length-set s.words (2 + i) c;
      queued = get_or-set_other s.words (2 + i) 1 c 0 (λ e. omega (arith, e)) ∙ rule.queued;
      balanced = λ k. ap (λ y. bit_at y k + times k rule.queue + times k p.held) (get_or-set_other s.words (2 + i) 0 c 0 (λ e. omega (arith, e)));
      known = subst (λ ts. All (λ d. thread_of d < n) (rule.took ++ ts)) (sym same) rule.known;
      mine = record {
        producers = mine.producers;
        slots = mine.slots;
        put = λ b. mine.put b ∙ ap (λ ts. of_thread p.number (rule.took ++ ts)) (sym same);
        taken = mine.taken;
        last = λ j d e. let is = pair_is (i, c) (j, d) e in (
          subst (λ k. 0 < times k p.held) is.0 held,
          ap (λ k. get_or (set s.words (2 + i) c) (2 + k) 0) (sym is.0) ∙ (get_or-set_same s.words (2 + i) c 0 (omega (arith, alone.0, rule.wide)) ∙ is.1),
          ap thread_of (sym is.1) ∙ from,
        );
        head = mine.head;
        peeked = λ d e. let k = (agrees n m s id p rule at).peeked d e in
            let h = (agrees n m s id p rule at).head k.0 k.1 in
            let in_queue : 0 < times k.0 rule.queue = subst (λ q. 0 < times k.0 q) (sym h.1.1) (omega (arith, times-here k.0 h.1.0)) in
            (k.0, k.1, elsewhere k.0 (λ e. omega (arith, in_queue, alone.2, ap (λ x. times x rule.queue) e)) ∙ k.2);
      };
      theirs = λ r other two agreed. words_moved n m s.words rule.queue rule.took r agreed (set s.words (2 + i) c) same
          (λ j r_held. elsewhere j (λ e. omega (arith, two i, alone.3, r_held, ap (λ x. times x r.held) e)))
          (λ j in_queue. elsewhere j (λ e. omega (arith, in_queue, alone.2, ap (λ x. times x rule.queue) e)));
    }
      where
        alone : (i < m) × (bit_at (get_or s.words 0 0) i ≡ 0) × (times i rule.queue ≡ 0) × (holds_of i p ≡ 1)
        alone = held_alone n m s id p rule at i held

        same : tickets (set s.words (2 + i) c) rule.queue ≡ tickets s.words rule.queue
        same = tickets-kept s.words i c rule.queue alone.2

        elsewhere : (j : ℕ) → j ≢ i → get_or (set s.words (2 + i) c) (2 + j) 0 ≡ get_or s.words (2 + j) 0
        elsewhere j apart = get_or-set_other s.words (2 + i) (2 + j) c 0 (λ e. apart (omega (arith, e)))

        mine : Agrees n m s.words rule.queue rule.took p
        mine = agrees n m s id p rule at

    -- while this seat holds a slot the queue has room
    room : (i : ℕ) → 0 < holds_of i p → length rule.queue < 15
    room i held =
        let alone = held_alone n m s id p rule at i held in
        let most : length (i ∷ rule.queue) ≤ m = fewer m (i ∷ rule.queue)
        (λ k. dite (ℕ_discrete i k)
        (λ here. subst (λ j. times j (i ∷ rule.queue) ≤ 1) here (omega (arith, times-here i rule.queue, alone.2)))
        (λ other. omega (arith, times-past k i rule.queue other, at_once n m s id p rule at k)))
        (λ k above. omega (arith, times-past k i rule.queue (λ e. omega (arith, e, alone.0)), rule.outside k above)) in
        omega (arith, rule.small)

    -- the slot of the last swap goes behind the queue
    queue_turns : (i c new w : ℕ) → p.last ≡ Some (i, c) → p.number < n → new ≡ encode rule.queue + (i + 1) * 16 ^ length rule.queue
        → Turns n m p (queued_by (Some (i, c)) w p) s.words (set s.words 1 new) rule.queue (rule.queue ++ i ∷ []) rule.took rule.took
    queue_turns i c new w last below is = record {
      number = refl;
      wide = length-set s.words 1 new;
      queued = get_or-set_same s.words 1 new 0 (omega (arith, rule.wide)) ∙ (is ∙ sym (encode-push rule.queue i));
      balanced = λ k. ap (λ y. bit_at y k + times k (rule.queue ++ i ∷ []) + times k (without i p.held)) (get_or-set_other s.words 1 0 new 0 (λ e. omega (arith, e)))
          ∙ dite (ℕ_discrete k i)
          (λ here. subst (λ j. bit_at (get_or s.words 0 0) j + times j (rule.queue ++ i ∷ []) + times j (without i p.held) ≡ bit_at (get_or s.words 0 0) j + times j rule.queue + times j p.held) (sym here)
          (omega (arith, times-same i rule.queue, times-without i p.held, alone.3)))
          (λ other. omega (arith, times-other k i rule.queue other, times-without-other i k p.held other));
      known = subst (All (λ d. thread_of d < n)) (sym longer) (known-push n (rule.took ++ tickets s.words rule.queue) c rule.known (subst (λ k. k < n) (sym told.2) below));
      mine = record {
        producers = mine.producers;
        slots = mine.slots;
        put = λ b. ap (λ l. l ++ c ∷ []) (mine.put b) ∙ (sym (of_thread-push p.number c (rule.took ++ tickets s.words rule.queue) told.2) ∙ ap (of_thread p.number) (sym longer));
        taken = λ e. absurd (omega (arith, e, below));
        last = λ j d e. none_is_not (j, d) e;
        head = λ j e. absurd (omega (arith, (mine.head j e).0, below));
        peeked = λ d e. let k = mine.peeked d e in absurd (omega (arith, (mine.head k.0 k.1).0, below));
      };
      theirs = λ r other two agreed. record {
        producers = agreed.producers;
        slots = agreed.slots;
        put = λ b. agreed.put b ∙ (sym (of_thread-other r.number c (rule.took ++ tickets s.words rule.queue) (λ e. other (sym e ∙ told.2))) ∙ ap (of_thread r.number) (sym longer));
        taken = agreed.taken;
        last = λ j d e. let l = agreed.last j d e in (l.0, far s.words 1 new j (omega arith) ∙ l.1, l.2);
        head = λ j e. let h = agreed.head j e in (h.0, (h.1.0 ++ i ∷ [], ap (λ q. q ++ i ∷ []) h.1.1));
        peeked = λ d e. let k = agreed.peeked d e in (k.0, k.1, far s.words 1 new k.0 (omega arith) ∙ k.2);
      };
    }
      where
        mine : Agrees n m s.words rule.queue rule.took p
        mine = agrees n m s id p rule at

        told : (0 < times i p.held) × (get_or s.words (2 + i) 0 ≡ c) × (thread_of c ≡ p.number)
        told = mine.last i c last

        alone : (i < m) × (bit_at (get_or s.words 0 0) i ≡ 0) × (times i rule.queue ≡ 0) × (holds_of i p ≡ 1)
        alone = held_alone n m s id p rule at i told.0

        longer : rule.took ++ tickets (set s.words 1 new) (rule.queue ++ i ∷ []) ≡ (rule.took ++ tickets s.words rule.queue) ++ c ∷ []
        longer = ap (λ ts. rule.took ++ ts) (far_tickets s.words 1 new (rule.queue ++ i ∷ []) (omega arith) ∙ (tickets-push s.words rule.queue i ∙ ap (λ d. tickets s.words rule.queue ++ d ∷ []) told.1))
            ∙ sym (append_assoc rule.took (tickets s.words rule.queue) (c ∷ []))

  pub swap_kept : (i c j : ℕ) → 0 < holds_of i p → thread_of c ≡ p.number → j ≡ 2 + i → Allows (InboxRule n m) slots id (p ∷ [], []) j (λ _. c) (swaps (step slots j c 0 none) (p ∷ [], []))
  swap_kept i c j held from is = subst (λ k. Allows (InboxRule n m) slots id (p ∷ [], []) k (λ _. c) (swaps (step slots k c 0 none) (p ∷ [], []))) (sym is)
      (λ s rule deep at small. (
        swapped_part i c p ∷ [],
        keeps,
        tt,
        step_kept n m s id p rule at (swapped_part i c p) _ rule.queue rule.took (swap_turns s rule at i c held from),
        (ap (λ k. (swapped_part k c p ∷ [], [])) back, ap (λ k. times k p.held) (sym back) ∙ (held_alone n m s id p rule at i held).3),
      ))
    where
      back : i ≡ 2 + i - 2
      back = omega arith

  pub look_queue_kept : Allows (InboxRule n m) slots id (p ∷ [], []) 1 (λ w. w) (looks_queue (step slots 1 0 0 none) (p ∷ [], []))
  look_queue_kept s rule deep at small =
      let q : InboxPart = queue_looked (get_or s.words 1 0) p in (
        q ∷ [],
        keeps,
        tt,
        load_kept n m s id p rule at 1 q (stays n m s id p rule at q refl refl (seen_only n m _ _ _ p (agrees n m s id p rule at) q.free q.queue)),
        (refl, λ i held. record { queue = rule.queue; slots = queue_slots n m s id p rule at; is = rule.queued; room = room s rule at i held }),
      )

  pub queue_kept : (i c old new : ℕ) → p.last ≡ Some (i, c) → p.number < p.producers → ((q : List ℕ) → AreSlots q → old ≡ encode q → new ≡ encode q + (i + 1) * 16 ^ length q)
      → Allows (InboxRule n m) slots id (p ∷ [], []) 1 (λ w. either (eqb w old) new w) (queues (step slots 1 old new none) (p ∷ [], []))
  queue_kept i c old new last below more s rule deep at small = exchanged (get_or s.words 1 0) old new (Goes n m s id 1 (λ m'. queues (step slots 1 old new none) (p ∷ [], []) (get_or s.words 1 0) m'))
      (λ hit. (
        queued_part (get_or s.words 1 0) p ∷ [],
        keeps,
        tt,
        subst (λ l. InboxRule n m (after s id (set s.words 1 new) (queued_by l (get_or s.words 1 0) p))) (sym last)
            (step_kept n m s id p rule at (queued_by (Some (i, c)) (get_or s.words 1 0) p) _ (rule.queue ++ i ∷ []) rule.took
            (queue_turns s rule at i c new (get_or s.words 1 0) last (omega (arith, below, (agrees n m s id p rule at).producers)) (more rule.queue (queue_slots n m s id p rule at) (sym hit ∙ rule.queued)))),
        ((λ _. refl), (λ apart. absurd (apart hit))),
      ))
      (λ apart. let q : InboxPart = queue_missed (get_or s.words 1 0) p in (
        q ∷ [],
        keeps,
        tt,
        load_kept n m s id p rule at 1 q (stays n m s id p rule at q refl refl (seen_only n m _ _ _ p (agrees n m s id p rule at) q.free q.queue)),
        ((λ hit. absurd (apart hit)), (λ _. refl)),
      ))
