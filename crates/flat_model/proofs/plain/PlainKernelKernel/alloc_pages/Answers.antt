use Rattle.std.proofs.Common.{◌≡◌, ap, sym, ◌∙◌, Option, List}
use Rattle.std.specs.Prelude.{Ok}
use Rattle.addr_base.specs.declared.identity.BoxId.{BoxId}
use Rattle.flat_model.specs.declared.boards.Board.{Board}
use Rattle.flat_model.specs.Access.{owned_by}
use Rattle.flat_model.specs.Kernel.{KernelState, after_allocation, allocation_in, told}
use Rattle.flat_model.specs.Pages.{allocation, may_write_words}
use Rattle.flat_model.proofs.FreeFrames.{told_back}
use Rattle.flat_model.proofs.plain.PlainKernelKernel.alloc_pages.Goals as goal

pub returns-in-Ok-clause-exact : goal.returns-in-Ok-clause-exact
returns-in-Ok-clause-exact c =
    let k = c.args.self.now in
    let items = c.args.part.now.items in
    let b = c.args.b.0 in
    let n = c.args.n in
    let table = c.args.table in
    let is : told (allocation_in k c.args.part.now b n table) ≡ Ok c.in-Ok.frames =
    ap (λ (s : KernelState). told (allocation_in s c.args.part.now b n table)) (sym c.self.view_is)
    ∙ sym (ap (λ (board : Board). told (allocation board.heap
    (may_write_words (owned_by b) items board.heap c.self.inside.owners table n) n c.self.inside.owners)) c.self.invariant.1)
    ∙ sym (ap (λ (owners : List (Option BoxId)). told (allocation c.self.inside.board.heap
    (may_write_words (owned_by b) items c.self.inside.board.heap owners table n) n owners)) c.as_slice-owners.ensures)
    ∙ sym c.allocation.ensures.exact ∙ c.in-Ok.is in
    c.give.ensures
    ∙ ap (after_allocation k b table) (sym (told_back k.config.board.heap
    (may_write_words (owned_by b) items k.config.board.heap k.shared.owners table n) n k.shared.owners c.in-Ok.frames is))
