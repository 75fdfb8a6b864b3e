use Rattle.std.proofs.Common.{rules, ◌∙◌}
use Rattle.cpu_token.proofs.Steps.{exchanged_is, gives_at, changed_by, given_is, giving_keeps, given_shows}
use Rattle.cpu_token.proofs.token.Token.give.Goals as goal

pub swap-requires : goal.swap-requires
swap-requires g c = (
  search rules,
  search rules,
  gives_at _ _ _ _ _ _ _ c.hold.invariant.part _ _ _ (exchanged_is _ _ _ _ _ c.hold.invariant.is c.exchange-slot.ensures.3)
      (changed_by _ _ _ _ c.hold.inside.seat.table_id _ _ _ _ _ c.args.hold c.hold.invariant c.hold.view_is c.requires.fixed c.requires.others),
)

pub invariant_of-result : goal.invariant_of-result
invariant_of-result g c = giving_keeps g.V.Stepped.entries _ _ _ _ _ _ c.hold.invariant (given_is g.V.Stepped.entries _ _ _ _ _ _ _ c.hold.invariant c.exchange-slot.ensures.3 c.swap.ensures.2)

pub returns : goal.returns
returns g c =
    given_shows g.V.Stepped.entries _ _ _ _ _ _ _ _ c.args.hold c.hold.invariant (c.swap.ensures.0 ∙ c.exchange-slot.ensures.0) c.hold.view_is
    (given_is g.V.Stepped.entries _ _ _ _ _ _ _ c.hold.invariant c.exchange-slot.ensures.3 c.swap.ensures.2)
