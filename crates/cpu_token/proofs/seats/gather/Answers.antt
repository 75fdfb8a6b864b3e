use Rattle.std.proofs.Common.{rules, ◌≡◌, ◌++◌, ◌∷◌, [], map, Some, ◌∙◌, ap, sym, append_assoc}
use Rattle.std.proofs.lemmas.List.Elements.{All-pop}
use Rattle.cpu_token.specs.Parts.{shown_part}
use Rattle.cpu_token.proofs.Dealing.{joins, joined_shows, joined_idle}
use Rattle.cpu_token.proofs.seats.gather.Goals as goal

pub join_seat-requires : goal.join_seat-requires
join_seat-requires g c = (
  search rules,
  ap (λ p. p.token) c.pass.view_is ∙ (All-pop (λ p. p.token ≡ c.args.table.now.shared.table_id) _ _ (Some c.in-Some.pass) c.in-Some.ensures.items c.loop-pass.invariant.tokens).1,
  ap (λ m. m.1) c.pass.invariant.is,
  search rules,
  joins _ _ _ _ _ _ _ _,
)

pub loop-pass-preserved : goal.loop-pass-preserved
loop-pass-preserved g c = let id = c.args.table.now.shared.table_id in
    let popped = All-pop (λ p. p.token ≡ id) _ _ (Some c.in-Some.pass) c.in-Some.ensures.items c.loop-pass.invariant.tokens in
    let after = c.pop.new.self.items in record {
      of = c.join_seat.ensures.0 ∙ c.loop-pass.invariant.of;
      slots = ap (λ m. m.1) c.join_seat.ensures.2 ∙ c.loop-pass.invariant.slots;
      tokens = popped.0;
      parts = c.loop-pass.invariant.parts ∙ ap (λ ps. ps ++ map (shown_part id) c.loop-pass.seat.me.0) c.in-Some.ensures.items
          ∙ append_assoc after (c.in-Some.pass ∷ []) (map (shown_part id) c.loop-pass.seat.me.0)
          ∙ ap (λ ps. after ++ ps) (sym (joined_shows id c.pass.inside.seat.table_id _ _ _ _ _ c.pass.invariant c.join_seat.ensures.2 c.pass.view_is (ap (λ p. p.token) c.pass.view_is ∙ popped.1)));
      idle = λ all. joined_idle _ _ _ _ c.pass.invariant c.join_seat.ensures.2 (c.loop-pass.invariant.idle all);
    }
