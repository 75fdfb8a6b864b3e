use Rattle.std.proofs.Common.{◌≡◌, ◌+◌, ◌%◌, ◌/◌, ◌≤◌, length, get_or, set, sym, ap, ◌∙◌, arith}
use Rattle.phys_memory.specs.OneBank.{with_bytes}
use Rattle.phys_memory.specs.Packed.{bytes_of, mixed}
use Rattle.phys_memory.proofs.PackedLemmas.{HasBytes-mixed, HasBytes-whole, length-bytes_of, put-is}
use Rattle.phys_memory.proofs.bank.Bank.put_part.Goals as goal

pub put-requires : goal.put-requires
put-requires c =
    let it = c.self.inside in
    let long : length c.args.self.now ≡ it.len = sym (ap length c.self.view_is) ∙ length-bytes_of it.len it.words in
    omega (arith, long, c.requires.inside, c.requires.some, c.self.invariant.0)

pub get-requires : goal.get-requires
get-requires c =
    let it = c.self.inside in
    let long : length c.args.self.now ≡ it.len = sym (ap length c.self.view_is) ∙ length-bytes_of it.len it.words in
    omega (arith, long, c.requires.inside, c.requires.some, c.self.invariant.0)

pub put-requires-else-n-eq4 : goal.put-requires-else-n-eq4
put-requires-else-n-eq4 c =
    let it = c.self.inside in
    let long : length c.args.self.now ≡ it.len = sym (ap length c.self.view_is) ∙ length-bytes_of it.len it.words in
    omega (arith, long, c.requires.inside, c.requires.some, c.self.invariant.0)

pub returns-then-n-eq4 : goal.returns-then-n-eq4
returns-then-n-eq4 c =
    let it = c.self.inside in
    let long : length c.args.self.now ≡ it.len = sym (ap length c.self.view_is) ∙ length-bytes_of it.len it.words in
    let inside : c.args.at + c.args.n ≤ it.len = omega (arith, long, c.requires.inside) in
    ap (bytes_of it.len) c.put.ensures
    ∙ put-is it.len it.words c.args.at c.args.n c.args.value c.args.value c.requires.some c.requires.one inside c.self.invariant.0
    (HasBytes-whole (get_or it.words (c.args.at / 4) 0) (c.args.at % 4) c.args.n c.args.value c.if-n-eq4.true c.requires.one)
    ∙ ap (λ xs. with_bytes xs c.args.at c.args.n c.args.value) c.self.view_is

pub returns-else-n-eq4 : goal.returns-else-n-eq4
returns-else-n-eq4 c =
    let it = c.self.inside in
    let long : length c.args.self.now ≡ it.len = sym (ap length c.self.view_is) ∙ length-bytes_of it.len it.words in
    let inside : c.args.at + c.args.n ≤ it.len = omega (arith, long, c.requires.inside) in
    let word : c.mixed-word.result ≡ mixed (get_or it.words (c.args.at / 4) 0) (c.args.at % 4) c.args.n c.args.value =
    c.mixed-word.ensures ∙ ap (λ w. mixed w (c.args.at % 4) c.args.n c.args.value) c.get.ensures in
    ap (bytes_of it.len) (c.put-else-n-eq4.ensures ∙ ap (set it.words (c.args.at / 4)) word)
    ∙ put-is it.len it.words c.args.at c.args.n c.args.value (mixed (get_or it.words (c.args.at / 4) 0) (c.args.at % 4) c.args.n c.args.value)
    c.requires.some c.requires.one inside c.self.invariant.0
    (HasBytes-mixed (get_or it.words (c.args.at / 4) 0) (c.args.at % 4) c.args.n c.args.value)
    ∙ ap (λ xs. with_bytes xs c.args.at c.args.n c.args.value) c.self.view_is
