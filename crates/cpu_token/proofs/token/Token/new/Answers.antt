use Rattle.std.proofs.Common.{◌∷◌, [], ◌++◌, Some, ap, sym, ◌∙◌, subst}
use Rattle.atomic_table.specs.Table.{opening}
use Rattle.cpu_token.specs.Parts.{fresh_parts}
use Rattle.cpu_token.specs.TokenRule.{TokenRule}
use Rattle.cpu_token.proofs.Ends.{opens}
use Rattle.cpu_token.proofs.token.Token.new.Goals as goal

pub new-requires : goal.new-requires
new-requires g c = let one = c.push_reserved.ensures.items ∙ ap (λ xs. xs ++ Some c.args.value ∷ []) c.in-Ok-with_capacity.ensures.items in
    subst
    (λ xs. TokenRule g.V.Stepped.entries g.V.Stepped.fixed c.args.passes c.of.result.value (opening (0 ∷ []) xs (fresh_parts g.row.V.Denot _ c.args.passes (g.V.Stepped.fixed c.of.result.value))))
    (sym one) (opens _ _ _ _ c.args.value c.of.ensures c.requires.fresh)
