use Rattle.std.proofs.Common.{rules, ◌≡◌, arith, refl, ap, sym, ◌∙◌}
use Rattle.atomic_pool.specs.Times.{times}
use Rattle.atomic_pool.specs.Queue.{head_of}
use Rattle.atomic_pool.specs.InboxParts.{only_part, headed_part, peeked_part, dequeued_part}
use Rattle.atomic_pool.proofs.Counts.{times-same}
use Rattle.atomic_pool.proofs.InboxSteps.{looks_head_ok, peeks_ok, dequeues_ok, frees_ok}
use Rattle.atomic_pool.proofs.TakeSteps.{reached, part_is, alone}
use Rattle.atomic_pool.proofs.inbox.Inbox.take.Goals as goal

pub load-seen-requires : goal.load-seen-requires
load-seen-requires c = (search rules, search rules, looks_head_ok _ _ _ _ _ c.seat.invariant.is c.seat.invariant.consumes c.seat.invariant.no_peek)

pub load-code-requires : goal.load-code-requires
load-code-requires c =
    let h = c.load-seen.ensures.2.1 c.if-seen-eq0.false in
    let first = reached (headed_part c.load-seen.result) _ _ _ c.seat.invariant.is h.0 in
    let same : c.seat.inside.seat.table_id ≡ c.self.inside.table.shared.table_id = ap (λ v. v.inbox) c.seat.view_is ∙ (c.requires.of ∙ sym (ap (λ v. v.id) c.self.view_is)) in (
      search rules,
      omega (arith, h.2, c.seat.invariant.wide, ap (λ z. z.words) same),
      peeks_ok _ _ _ _ _ (alone _ _ first) (head_of c.load-seen.result) _ (ap (λ p. p.head) (part_is _ _ first)) refl,
    )

pub compare_exchange-found-requires : goal.compare_exchange-found-requires
compare_exchange-found-requires c =
    let h = c.load-seen.ensures.2.1 c.if-seen-eq0.false in
    let first = reached (headed_part c.load-seen.result) _ _ _ c.seat.invariant.is h.0 in
    let second = reached (peeked_part c.load-code.result) _ _ _ first c.load-code.ensures.2.0 in (
      search rules,
      search rules,
      dequeues_ok _ _ _ _ _ (alone _ _ second) (head_of c.load-seen.result) c.load-code.result _ _ (ap (λ p. p.head) (part_is _ _ second)) (ap (λ p. p.peeked) (part_is _ _ second)) refl,
    )

pub fetch_or-requires : goal.fetch_or-requires
fetch_or-requires c =
    let h = c.load-seen.ensures.2.1 c.if-seen-eq0.false in
    let first = reached (headed_part c.load-seen.result) _ _ _ c.seat.invariant.is h.0 in
    let second = reached (peeked_part c.load-code.result) _ _ _ first c.load-code.ensures.2.0 in
    let third = reached (dequeued_part c.compare_exchange-found.result) _ _ _ second (c.compare_exchange-found.ensures.2.0 c.if-found-seen.true) in (
      search rules,
      search rules,
      frees_ok _ _ _ _ _ (alone _ _ third) (head_of c.load-seen.result) _ (omega arith) c.mask.ensures
          (omega (arith, ap (λ p. times (head_of c.load-seen.result) p.held) (part_is _ _ third), times-same (head_of c.load-seen.result) (only_part c.seat.inside.seat.me.0).held)),
    )
