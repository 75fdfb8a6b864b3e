use Rattle.std.proofs.Common.{◌≡◌, ◌≤◌, All, Some, None, ap, sym, ◌∙◌, subst}
use mathlib.Core.Option.{some-injective}
use Rattle.cpu_token.proofs.Kept.{some_is}
use Rattle.cpu_token.proofs.Ends.{closes}
use Rattle.cpu_token.proofs.token.Token.close.Goals as goal

not_none : {A : Type 0} {a : A} → Some a ≡ None → ⊥
not_none e = cc

pub unreachable-requires-in_default-slot : goal.unreachable-requires-in_default-slot
unreachable-requires-in_default-slot g c =
    let e = closes g.V.Stepped.entries g.V.Stepped.fixed _ _ c.args.self c.self.inside.table.shared.table_id _ _ _ c.gather.new.seat.me _ _ _ _ _ _ c.last.invariant c.self.view_is c.requires.all
    c.in-Some.ensures.items c.last.view_is c.gather.ensures.parts c.gather.ensures.idle c.close_with-closed.ensures.values.2 in
    not_none (some-injective _ _ (sym e.there ∙ c.take-slot.ensures.value) ∙ c.in_default-slot.is)

pub returns : goal.returns
returns g c =
    let e = closes g.V.Stepped.entries g.V.Stepped.fixed _ _ c.args.self c.self.inside.table.shared.table_id _ _ _ c.gather.new.seat.me _ _ _ _ _ _ c.last.invariant c.self.view_is c.requires.all
    c.in-Some.ensures.items c.last.view_is c.gather.ensures.parts c.gather.ensures.idle c.close_with-closed.ensures.values.2 in
    let is = some_is _ _ (some-injective _ _ (sym e.there ∙ c.take-slot.ensures.value) ∙ c.in-Some-slot.is) in
    record {
      fixed = subst (λ v. All (λ p. g.V.Stepped.fixed v ≡ p.fixed) c.args.passes.items) is e.same;
      entries = subst (λ v. All (λ p. g.V.Stepped.entries v p.number ≡ p.entries) c.args.passes.items) is e.own;
      none = λ k out. ap (λ v. g.V.Stepped.entries v k) (sym is) ∙ e.others k (subst (λ t. t.passes ≤ k) (sym c.self.view_is) out);
    }
