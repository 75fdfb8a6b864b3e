use Rattle.std.proofs.Common.{◌≡◌, ℕ, ◌+◌, ◌*◌, ◌%◌, ◌∙◌, ap, arith}
use Rattle.std.proofs.Math.Nat.{add-mul-mod_self_right}
use Rattle.flat_model.specs.declared.boards.HeapPart.{HeapPart}
use Rattle.flat_model.proofs.Powers.{at_least_32}
use Rattle.region_rotation.specs.Ready.{IsHeapBelow}
use Rattle.region_rotation.proofs.pages.group_serving.Goals as goal

-- the base of a group is a multiple of a group
base_whole : (heap : HeapPart) (g : ℕ) → IsHeapBelow heap → (heap.base + 8 * g * heap.page) % (8 * heap.page) ≡ 0
base_whole heap g it =
    let steps : heap.base + 8 * g * heap.page ≡ heap.base + g * (8 * heap.page) = omega arith in
    ap (λ x. x % (8 * heap.page)) steps ∙ add-mul-mod_self_right heap.base g (8 * heap.page) ∙ it.grouped.whole

pub group-requires-clause-least : goal.group-requires-clause-least
group-requires-clause-least c =
    omega (arith, c.requires.heap.grouped.page_is.is_power, at_least_32 c.requires.heap.grouped.page_is.exponent c.requires.heap.grouped.page_is.low)

pub group-requires-clause-base : goal.group-requires-clause-base
group-requires-clause-base c = base_whole c.args.heap c.args.g c.requires.heap
