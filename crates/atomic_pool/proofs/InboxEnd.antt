-- What is left of an inbox when its seats are given back.
use Rattle.std.proofs.Common.{◌≡◌, ℕ, zero, suc, ◌-◌, ◌/◌, ◌<◌, ◌≤◌, List, [], ◌∷◌, ◌++◌, All, map, length, get_or, refl, ap, sym, ◌∙◌, subst, append_assoc, append-nil, length-append, arith}
use mathlib.Core.Option.{some}
use mathlib.Core.Logic.{dite}
use native.Mathlib.Decide.{dec_le}
use lib.ListN.{get_elem?, get_or-append}
use Rattle.std.proofs.lemmas.List.{map-append}
use Rattle.atomic_table.specs.Seated.{TableId}
use Rattle.atomic_table.specs.Table.{Final, Seen}
use Rattle.atomic_table.proofs.Lists.{at_last}
use Rattle.addr_base.specs.declared.identity.Ticket.{Ticket}
use Rattle.atomic_pool.specs.Times.{times}
use Rattle.atomic_pool.specs.Tickets.{code, thread_of, of_thread}
use Rattle.atomic_pool.specs.Queue.{AreBelow, IsQueue, tickets}
use Rattle.atomic_pool.specs.InboxRule.{Agrees, InboxRule}
use Rattle.atomic_pool.specs.InboxSeats.{InboxValue, SeatValue, AreProducers}
use Rattle.atomic_pool.specs.InboxTold.{parts_of, IsLeft}
use Rattle.atomic_pool.specs.declared.inbox.InboxPart.{InboxPart}
use Rattle.atomic_pool.proofs.Queues.{times-here, times-past, fewer, slots_of}

-- the view of the consumer's seat when the producers that are left have not been joined to it yet
pub record Joined (left all : List SeatValue) (consumer : SeatValue) (view : List InboxPart) : Type 0 where
  pub parts : List InboxPart
  pub is : view ≡ parts ++ consumer.part ∷ []
  pub producers : AreProducers parts
  pub rest : parts_of left ++ parts ≡ parts_of all

pub none-joined : (all : List SeatValue) (consumer : SeatValue) (view : List InboxPart) → view ≡ consumer.part ∷ [] → Joined all all consumer view
none-joined all consumer view is = record { parts = []; is = is; producers = tt; rest = append-nil (parts_of all) }

pub one-joined : (left xs all : List SeatValue) (consumer s : SeatValue) (view w view' : List InboxPart) → Joined left all consumer view → left ≡ xs ++ s ∷ [] → w ≡ s.part ∷ []
    → view' ≡ w ++ view → s.part.number < s.part.producers → Joined xs all consumer view'
one-joined left xs all consumer s view w view' j last is now produces = record {
  parts = s.part ∷ j.parts;
  is = now ∙ (ap (λ x. x ++ view) is ∙ ap (λ x. s.part ∷ x) j.is);
  producers = (produces, j.producers);
  rest = sym (append_assoc (parts_of xs) (s.part ∷ []) j.parts)
      ∙ (ap (λ x. x ++ j.parts) (sym (map-append (λ (t : SeatValue). t.part) xs (s ∷ [])) ∙ ap parts_of (sym last)) ∙ j.rest);
}

pub all-joined : (left all : List SeatValue) (consumer : SeatValue) (view : List InboxPart) → Joined left all consumer view → length left ≡ 0
    → (view ≡ parts_of all ++ consumer.part ∷ []) × AreProducers (parts_of all)
all-joined [] all consumer view j none = (j.is ∙ ap (λ x. x ++ consumer.part ∷ []) j.rest, subst AreProducers j.rest j.producers)
all-joined (x ∷ left) all consumer view j none = absurd (omega arith)

-- the seats before the last, and the last, are of the same inbox
pub of_front : (z : TableId) (xs ys zs : List SeatValue) → zs ≡ xs ++ ys → All (λ s. s.inbox ≡ z) zs → All (λ s. s.inbox ≡ z) xs
of_front z xs ys zs e all k d below =
    subst (λ s. s.inbox ≡ z) (ap (λ (l : List SeatValue). get_or l k d) e ∙ get_or-append xs ys d k below) (all k d (omega (arith, ap length e, length-append xs ys)))

pub of_last : (z : TableId) (xs : List SeatValue) (y : SeatValue) (zs : List SeatValue) → zs ≡ xs ++ y ∷ [] → All (λ s. s.inbox ≡ z) zs → y.inbox ≡ z
of_last z xs y zs e all =
    subst (λ s. s.inbox ≡ z) (ap (λ (l : List SeatValue). get_or l (length xs) y) e ∙ get_or-push xs) (all (length xs) y (omega (arith, ap length e, length-append xs (y ∷ []))))
  where
    get_or-push : (xs : List SeatValue) → get_or (xs ++ y ∷ []) (length xs) y ≡ y
    get_or-push [] = refl
    get_or-push (x ∷ xs) = get_or-push xs

-- numbers of a list that are not there from the bound on
below_of : (m bound : ℕ) (xs : List ℕ) → m ≡ bound → ((i : ℕ) → m ≤ i → times i xs ≡ 0) → AreBelow bound xs
below_of m bound [] e above = tt
below_of m bound (x ∷ xs) e above = (
  dite (dec_le m x) (λ high. absurd (omega (arith, above x high, times-here x xs))) (λ low. omega arith),
  below_of m bound xs e (λ i high. below_rest i high),
)
  where
    below_rest : (i : ℕ) → m ≤ i → times i xs ≡ 0
    below_rest i high = dite (dec_le m x)
        (λ in_above. absurd (omega (arith, above x in_above, times-here x xs)))
        (λ low. omega (arith, above i high, times-past i x xs (λ e. omega (arith, e))))

threads_of : (n : ℕ) (cs ds : List ℕ) → n ≤ 256 → All (λ c. thread_of c < n) (cs ++ ds) → AreBelow 256 (map (λ c. c / 4294967296) ds)
threads_of n [] [] few known = tt
threads_of n [] (d ∷ ds) few known = (let here : d / 4294967296 < n = known 0 0 (omega arith) in omega arith, threads_of n [] ds few (λ k x below. known (suc k) x (omega arith)))
threads_of n (c ∷ cs) ds few known = threads_of n cs ds few (λ k x below. known (suc k) x (omega arith))

-- the part of a seat among those of all
place : (seats : List SeatValue) (c : InboxPart) (k : ℕ) (d : SeatValue) → k < length seats → get_elem? (parts_of seats ++ c ∷ []) k ≡ some (get_or seats k d).part
place [] c k d below = absurd (omega arith)
place (x ∷ seats) c zero d below = refl
place (x ∷ seats) c (suc k) d below = place seats c k d (omega arith)

produced : (seats : List SeatValue) (k : ℕ) (d : SeatValue) → k < length seats → AreProducers (parts_of seats) → (get_or seats k d).part.number < (get_or seats k d).part.producers
produced [] k d below all = absurd (omega arith)
produced (x ∷ seats) zero d below all = all.0
produced (x ∷ seats) (suc k) d below all = produced seats k d (omega arith) all.1

module _ (n m id : ℕ) (v : List InboxPart) (ws : List ℕ) (xs : List Unit) (final : Final (Seen (InboxRule n m) id v) ws xs) where
  pub queue_left : m ≤ 8 → IsQueue ws final.1.0.queue
  queue_left small = subst (λ words. IsQueue words final.1.0.queue) final.2 record {
    wide = omega (arith, rule.wide);
    slots = slots_of m rule.queue rule.small above;
    is = rule.queued;
    few = let most : length rule.queue ≤ m = fewer m rule.queue once above in omega arith;
    within = below_of m (length final.0.words - 2) rule.queue (omega (arith, rule.wide)) above;
    known = threads_of n rule.took (tickets final.0.words rule.queue) rule.few rule.known;
  }
    where
      rule : InboxRule n m final.0
      rule = final.1.0

      above : (i : ℕ) → m ≤ i → times i final.1.0.queue ≡ 0
      above i high = omega (arith, final.1.0.outside i high)

      once : (i : ℕ) → times i final.1.0.queue ≤ 1
      once i = dite (dec_le m i) (λ high. omega (arith, final.1.0.outside i high)) (λ low. omega (arith, final.1.0.partition i (omega arith)))

  pub leaves : (inbox : InboxValue) (producers : List SeatValue) (consumer : SeatValue) (left : List Ticket) → n ≡ inbox.producers
      → map code left ≡ tickets ws final.1.0.queue → v ≡ parts_of producers ++ consumer.part ∷ [] → AreProducers (parts_of producers) → consumer.part.number ≡ consumer.part.producers
      → IsLeft inbox left producers consumer
  leaves inbox producers consumer left counts codes is produce consumes = record {
    each = λ k d below.
        let a = agreed (get_or producers k d).part k (place producers consumer.part k d below) in
        let put = a.put (omega (arith, produced producers k d below produce, a.producers)) in
        put ∙ ap (of_thread (get_or producers k d).part.number) (sym same);
    no_other = subst (λ t. All (λ c. thread_of c < t) (consumer.part.list ++ map code left)) counts (subst (All (λ c. thread_of c < n)) (sym same) final.1.0.known);
  }
    where
      agreed : (p : InboxPart) (j : ℕ) → get_elem? (parts_of producers ++ consumer.part ∷ []) j ≡ some p → Agrees n m final.0.words final.1.0.queue final.1.0.took p
      agreed p j at = final.1.0.parts id v j p final.1.1 (subst (λ x. get_elem? x j ≡ some p) (sym is) at)

      taken : consumer.part.list ≡ final.1.0.took
      taken = let a = agreed consumer.part (length (parts_of producers)) (at_last (parts_of producers) consumer.part (length (parts_of producers)) refl) in a.taken (consumes ∙ a.producers)

      same : consumer.part.list ++ map code left ≡ final.1.0.took ++ tickets final.0.words final.1.0.queue
      same = ap (λ l. l ++ map code left) taken ∙ ap (λ l. final.1.0.took ++ l) (codes ∙ ap (λ w. tickets w final.1.0.queue) (sym final.2))
