use Rattle.std.proofs.Common.{◌≡◌, ◌+◌, ◌-◌, ◌*◌, ◌/◌, length, sym, ap, ◌∙◌, arith}
use Rattle.phys_memory.specs.OneBank.{with_bytes}
use Rattle.phys_memory.proofs.PackedLemmas.{length-bytes_of, length-with_bytes, zeros-three}
use Rattle.phys_memory.proofs.bank.Bank.zero.Goals as goal

pub overflow_add-end : goal.overflow_add-end
overflow_add-end c =
    let it = c.self.inside in
    let long : length c.args.self.now ≡ it.len = sym (ap length c.self.view_is) ∙ length-bytes_of it.len it.words in
    omega (arith, long, c.requires.inside, c.self.invariant.1)

pub overflow_add-first : goal.overflow_add-first
overflow_add-first c =
    let it = c.self.inside in
    let long : length c.args.self.now ≡ it.len = sym (ap length c.self.view_is) ∙ length-bytes_of it.len it.words in
    omega (arith, long, c.requires.inside, c.self.invariant.1)

pub overflow_mul-first : goal.overflow_mul-first
overflow_mul-first c =
    let it = c.self.inside in
    let long : length c.args.self.now ≡ it.len = sym (ap length c.self.view_is) ∙ length-bytes_of it.len it.words in
    omega (arith, long, c.requires.inside, c.self.invariant.1)

pub overflow_mul-last : goal.overflow_mul-last
overflow_mul-last c =
    let it = c.self.inside in
    let long : length c.args.self.now ≡ it.len = sym (ap length c.self.view_is) ∙ length-bytes_of it.len it.words in
    omega (arith, long, c.requires.inside, c.self.invariant.1)

pub zero_pieces-requires-clause-inside : goal.zero_pieces-requires-clause-inside
zero_pieces-requires-clause-inside c =
    let first = 32 * ((c.args.at + 32 - 1) / 32) in
    let kept : length c.zero_bytes.new.self ≡ length c.args.self.now = ap length c.zero_bytes.ensures ∙ length-with_bytes c.args.self.now c.args.at (first - c.args.at) 0 in
    omega (arith, kept, c.requires.inside)

pub zero_bytes-requires-then-first-last-clause-inside : goal.zero_bytes-requires-then-first-last-clause-inside
zero_bytes-requires-then-first-last-clause-inside c =
    let first = 32 * ((c.args.at + 32 - 1) / 32) in
    let last = 32 * ((c.args.at + c.args.n) / 32) in
    let kept : length c.zero_pieces.new.self ≡ length c.args.self.now =
    ap length c.zero_pieces.ensures ∙ length-with_bytes c.zero_bytes.new.self first (last - first) 0
    ∙ ap length c.zero_bytes.ensures ∙ length-with_bytes c.args.self.now c.args.at (first - c.args.at) 0 in
    omega (arith, kept, c.requires.inside)

pub returns-then-first-last : goal.returns-then-first-last
returns-then-first-last c =
    let first = 32 * ((c.args.at + 32 - 1) / 32) in
    let last = 32 * ((c.args.at + c.args.n) / 32) in
    c.zero_bytes-then-first-last.ensures
    ∙ ap (λ xs. with_bytes xs last (c.args.at + c.args.n - last) 0)
    (c.zero_pieces.ensures ∙ ap (λ xs. with_bytes xs first (last - first) 0) c.zero_bytes.ensures)
    ∙ zeros-three c.args.self.now c.args.at first last (c.args.at + c.args.n) c.args.n
    (omega arith) (omega arith) (omega arith) (omega arith)
