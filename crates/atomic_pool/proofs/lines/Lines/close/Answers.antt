use Rattle.std.proofs.Common.{rules, [], ◌∷◌, refl, ap, sym, ◌∙◌, arith}
use Rattle.atomic_pool.proofs.LinesWhole.{joins_ok, of_front, of_last, none_joined, one_joined, leaves}
use Rattle.atomic_pool.proofs.lines.Lines.close.Goals as goal

pub join_seat-requires : goal.join_seat-requires
join_seat-requires c = (
  c.loop-next.invariant.id ∙ sym (ap (λ v. v.id) c.self.view_is),
  ap (λ v. v.lines) c.next.view_is ∙ (of_last c.args.self.id _ _ _ c.in-Some-pop.ensures.items c.loop-next.invariant.of ∙ sym (ap (λ v. v.id) c.self.view_is)),
  ap (λ m. m.1) c.next.invariant.is,
  search rules,
  joins_ok _ _ _ _ _,
)

pub loop-next-preserved : goal.loop-next-preserved
loop-next-preserved c = record {
  table = refl;
  id = c.join_seat.ensures.0 ∙ c.loop-next.invariant.id;
  none_held = ap (λ m. m.1) c.join_seat.ensures.2 ∙ c.loop-next.invariant.none_held;
  of = of_front c.args.self.id _ _ _ c.in-Some-pop.ensures.items c.loop-next.invariant.of;
  parts = one_joined _ _ _ _ _ _ _ c.in-Some-pop.ensures.items c.loop-next.invariant.parts
      (ap (λ m. m.0) c.next.invariant.is ∙ ap (λ v. v.part ∷ []) c.next.view_is)
      (ap (λ m. m.0) c.join_seat.ensures.2);
}

pub returns : goal.returns
returns c = leaves _ c.args.self _ _ _ _ _ _ (ap (λ v. v.count) c.self.view_is) c.close_with-closed.ensures.values.2 c.word-word.ensures c.requires.all
    (none_joined _ _ _ (omega (arith, c.in_default-pop.ensures.cases.0)) c.loop-next.invariant.parts)
