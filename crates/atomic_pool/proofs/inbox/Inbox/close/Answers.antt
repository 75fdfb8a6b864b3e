use Rattle.std.proofs.Common.{rules, ◌≡◌, ◌<◌, [], ◌∷◌, refl, ap, sym, ◌∙◌, subst, arith}
use Rattle.atomic_pool.proofs.InboxWhole.{joins_ok}
use Rattle.atomic_pool.proofs.InboxEnd.{of_front, of_last, one-joined, all-joined, queue_left, leaves}
use Rattle.atomic_pool.proofs.inbox.Inbox.close.Goals as goal

pub join_seat-requires : goal.join_seat-requires
join_seat-requires c = (
  c.loop-next.invariant.id ∙ sym (ap (λ v. v.id) c.self.view_is),
  ap (λ v. v.inbox) c.next.view_is ∙ (of_last c.args.self.id _ _ _ c.in-Some.ensures.items c.loop-next.invariant.of ∙ sym (ap (λ v. v.id) c.self.view_is)),
  ap (λ m. m.1) c.next.invariant.is,
  search rules,
  joins_ok _ _ _ _ _ _,
)

pub loop-next-preserved : goal.loop-next-preserved
loop-next-preserved c = record {
  table = refl;
  id = c.join_seat.ensures.0 ∙ c.loop-next.invariant.id;
  none_held = ap (λ m. m.1) c.join_seat.ensures.2 ∙ c.loop-next.invariant.none_held;
  of = of_front c.args.self.id _ _ _ c.in-Some.ensures.items c.loop-next.invariant.of;
  joined = one-joined _ _ _ _ _ _ _ _ c.loop-next.invariant.joined c.in-Some.ensures.items
      (ap (λ m. m.0) c.next.invariant.is ∙ ap (λ v. v.part ∷ []) c.next.view_is)
      (ap (λ m. m.0) c.join_seat.ensures.2)
      (subst (λ v. v.part.number < v.part.producers) c.next.view_is (omega (arith, c.next.invariant.named, c.next.invariant.produces)));
}

pub queued-left-requires-clause-queue : goal.queued-left-requires-clause-queue
queued-left-requires-clause-queue c = (_, queue_left _ _ _ _ _ _ c.close_with-closed.ensures.values.2 c.self.invariant.small)

pub returns : goal.returns
returns c =
    let joined = all-joined _ _ _ _ c.loop-next.invariant.joined (omega (arith, c.in_default.ensures.cases.0)) in
    leaves _ _ _ _ _ _ c.close_with-closed.ensures.values.2 c.args.self _ _ _ (ap (λ v. v.producers) c.self.view_is)
    (c.queued-left.ensures _ (queue_left _ _ _ _ _ _ c.close_with-closed.ensures.values.2 c.self.invariant.small))
    joined.0 joined.1 (subst (λ v. v.part.number ≡ v.part.producers) c.consumer.view_is c.consumer.invariant.consumes)
