use Rattle.std.proofs.Common.{rules, Some, sym, ap, ◌∙◌, arith, ◌+◌, refl}
use Rattle.cpu_token.specs.Parts.{holding_part}
use Rattle.cpu_token.proofs.Kept.{some_is}
use Rattle.cpu_token.proofs.Steps.{looked_keeps, missed_keeps, has_slot, holding_is, exchanged_is, read_is, looks_at, claims_at}
use Rattle.cpu_token.proofs.token.Token.try_take.Goals as goal

pub load-seen-requires : goal.load-seen-requires
load-seen-requires g c = (search rules, search rules, looks_at _ _ _ _ _ _ _ _ c.pass.invariant)

pub invariant_of-pass : goal.invariant_of-pass
invariant_of-pass g c = looked_keeps _ _ _ _ c.pass.invariant c.load-seen.ensures.2

pub compare_exchange-found-requires : goal.compare_exchange-found-requires
compare_exchange-found-requires g c = (
  search rules,
  search rules,
  claims_at _ _ _ _ _ _ _ _ _ (looked_keeps _ _ _ _ c.pass.invariant c.load-seen.ensures.2) (omega arith),
)

pub invariant_of-pass-then-found-seen : goal.invariant_of-pass-then-found-seen
invariant_of-pass-then-found-seen g c = missed_keeps _ _ _ _ (looked_keeps _ _ _ _ c.pass.invariant c.load-seen.ensures.2) (c.compare_exchange-found.ensures.2.1 c.if-found-seen.true)

pub exchange-slot-requires : goal.exchange-slot-requires
exchange-slot-requires g c =
    let k = looked_keeps _ _ _ _ c.pass.invariant c.load-seen.ensures.2 in
    let hit = c.compare_exchange-found.ensures.2.0 c.if-found-seen.false in
    (search rules, has_slot _ _ _ (holding_is _ _ _ _ _ _ k hit.1))

pub invariant_of-result : goal.invariant_of-result
invariant_of-result g c =
    let k = looked_keeps _ _ _ _ c.pass.invariant c.load-seen.ensures.2 in
    let hit = c.compare_exchange-found.ensures.2.0 c.if-found-seen.false in
    let is = holding_is _ _ _ _ _ _ k hit.1 in
    let value_is = some_is _ _ (sym (read_is _ _ _ _ is c.exchange-slot.ensures.2) ∙ c.in-Some.is) in
    record {
      part = holding_part c.compare_exchange-found.result (c.load-seen.result + 1) hit.0 k.part;
      is = exchanged_is _ _ _ _ _ is c.exchange-slot.ensures.3;
      held = refl;
      out = ap (λ v. Some v) (value_is ∙ sym c.of-out.ensures);
      same = k.same;
    }
