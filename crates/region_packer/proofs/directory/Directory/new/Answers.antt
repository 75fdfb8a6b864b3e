use Rattle.std.proofs.Common.{◌≡◌, rules, ◌∙◌, ap, subst}
use Rattle.std.specs.List.Sorted.{IsPermutation}
use Rattle.std.proofs.lemmas.List.{take_all}
use Rattle.std.proofs.lemmas.List.Sorted.{IsNonDecreasingBy-from_sort_by_key}
use Rattle.region_packer.specs.Directory.{grant_blocks}
use Rattle.region_packer.proofs.Ascending.{IsOrdered-sorted}
use Rattle.region_packer.proofs.directory.Directory.new.Goals as goal

pub invariant_of-result : goal.invariant_of-result
invariant_of-result c =
    let all : c.loop-grant.blocks.items ≡ grant_blocks c.args.grants.now.items =
    c.loop-grant.invariant
    ∙ ap grant_blocks (take_all c.loop-grant.grant-index c.as_slice-grant-items.result.now c.loop-grant-test.false ∙ c.as_slice-grant-items.ensures.value) in
    IsOrdered-sorted c.args.grants.now.items c.sort_by_key.new.self.items c.requires.covered c.requires.apart
    (subst (λ bs. IsPermutation bs c.sort_by_key.new.self.items) all c.sort_by_key.ensures.permutation)
    (IsNonDecreasingBy-from_sort_by_key (λ b. b.part.base) _ c.in_ok-sort_by_key.ensures.sorted (λ a r q k. search rules))

pub returns-clause-ascending : goal.returns-clause-ascending
returns-clause-ascending c =
    let all : c.loop-grant.blocks.items ≡ grant_blocks c.args.grants.now.items =
    c.loop-grant.invariant
    ∙ ap grant_blocks (take_all c.loop-grant.grant-index c.as_slice-grant-items.result.now c.loop-grant-test.false ∙ c.as_slice-grant-items.ensures.value) in
    (IsOrdered-sorted c.args.grants.now.items c.sort_by_key.new.self.items c.requires.covered c.requires.apart
    (subst (λ bs. IsPermutation bs c.sort_by_key.new.self.items) all c.sort_by_key.ensures.permutation)
    (IsNonDecreasingBy-from_sort_by_key (λ b. b.part.base) _ c.in_ok-sort_by_key.ensures.sorted (λ a r q k. search rules))).ascending
