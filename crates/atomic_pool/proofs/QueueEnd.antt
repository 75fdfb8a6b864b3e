-- The queue of an inbox that is closed, read slot by slot.
use Rattle.std.proofs.Common.{◌≡◌, ◌≢◌, ℕ, zero, suc, ◌+◌, ◌-◌, ◌/◌, ◌%◌, ◌<◌, List, [], ◌∷◌, ◌++◌, map, length, get_or, refl, ap, sym, ◌∙◌, subst, append_assoc, append-nil, length-append, arith}
use mathlib.Core.Option.{some, some-injective, some-ne-none}
use lib.ListN.{get_elem?}
use Rattle.std.proofs.lemmas.List.{map-append}
use Rattle.addr_base.specs.declared.identity.Ticket.{Ticket}
use Rattle.atomic_pool.specs.Tickets.{code}
use Rattle.atomic_pool.specs.Queue.{AreSlots, AreBelow, IsQueue, encode, head_of, tickets}
use Rattle.atomic_pool.proofs.Queues.{encode-head, encode-tail, some_head}

-- what is left to read of the queue, and what was read
pub record Rest (words queue : List ℕ) (word : ℕ) (read : List ℕ) : Type 0 where
  pub todo : List ℕ
  pub slots : AreSlots todo
  pub is : word ≡ encode todo
  pub within : AreBelow (length words - 2) todo
  pub known : AreBelow 256 (map (λ c. c / 4294967296) (tickets words todo))
  pub all : read ++ tickets words todo ≡ tickets words queue
  pub count : length read + length todo ≡ length queue

pub rest-first : (words queue : List ℕ) (word : ℕ) → IsQueue words queue → get_or words 1 0 ≡ word → Rest words queue word []
rest-first words queue word q is = record { todo = queue; slots = q.slots; is = sym is ∙ q.is; within = q.within; known = q.known; all = refl; count = omega arith }

-- the next slot to read
pub record Next (words queue : List ℕ) (word : ℕ) (read : List ℕ) : Type 0 where
  pub digit : 0 < word % 16
  pub within : 2 + head_of word < length words
  pub known : get_or words (2 + head_of word) 0 / 4294967296 < 256
  pub room : length read < length queue
  pub rest : Rest words queue (word / 16) (read ++ get_or words (2 + head_of word) 0 ∷ [])

pub rest-next : (words queue : List ℕ) (word : ℕ) (read : List ℕ) → Rest words queue word read → word ≢ 0 → Next words queue word read
rest-next words queue word read r full =
    let h = some_head r.todo (λ e. full (r.is ∙ e)) in
    let slots = subst AreSlots h.2 r.slots in
    let within = subst (AreBelow (length words - 2)) h.2 r.within in
    let known = subst (λ q. AreBelow 256 (map (λ c. c / 4294967296) (tickets words q))) h.2 r.known in
    let digit : word % 16 ≡ h.0 + 1 = ap (λ w. w % 16) (r.is ∙ ap encode h.2) ∙ encode-head h.0 h.1 slots.0 in
    let head : head_of word ≡ h.0 = omega (arith, digit) in
    let count : length r.todo ≡ suc (length h.1) = ap length h.2 in
    record {
      digit = omega (arith, digit);
      within = omega (arith, within.0, head);
      known = subst (λ i. get_or words (2 + i) 0 / 4294967296 < 256) (sym head) known.0;
      room = omega (arith, r.count, count);
      rest = record {
        todo = h.1;
        slots = slots.1;
        is = ap (λ w. w / 16) (r.is ∙ ap encode h.2) ∙ encode-tail h.0 h.1 slots.0;
        within = within.1;
        known = known.1;
        all = append_assoc read (get_or words (2 + head_of word) 0 ∷ []) (tickets words h.1)
            ∙ (ap (λ i. read ++ get_or words (2 + i) 0 ∷ tickets words h.1) head ∙ (ap (λ q. read ++ tickets words q) (sym h.2) ∙ r.all));
        count = omega (arith, length-append read (get_or words (2 + head_of word) 0 ∷ []), r.count, count);
      };
    }

pub rest-end : (words queue : List ℕ) (read : List ℕ) → Rest words queue 0 read → read ≡ tickets words queue
rest-end words queue read r = ended r.todo r.is r.all
  where
    ended : (todo : List ℕ) → 0 ≡ encode todo → read ++ tickets words todo ≡ tickets words queue → read ≡ tickets words queue
    ended [] is all = sym (append-nil read) ∙ all
    ended (i ∷ q) is all = absurd (omega (arith, is))

pub word-is : (words : List ℕ) (i x : ℕ) → get_elem? words i ≡ some x → get_or words i 0 ≡ x
word-is [] i x e = absurd (some-ne-none x (sym e))
word-is (y ∷ ys) zero x e = some-injective y x e
word-is (y ∷ ys) (suc i) x e = word-is ys i x e

-- one more ticket is read
pub codes-push : (ts : List Ticket) (t : Ticket) (c : ℕ) → code t ≡ c → map code (ts ++ t ∷ []) ≡ map code ts ++ c ∷ []
codes-push ts t c is = map-append code ts (t ∷ []) ∙ ap (λ x. map code ts ++ x ∷ []) is
