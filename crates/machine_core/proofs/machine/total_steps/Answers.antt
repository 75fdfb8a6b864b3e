use Rattle.std.proofs.Common.{◌≡◌, ℕ, ◌+◌, ◌<◌, ◌≤◌, List, ap, ◌∙◌, arith, drop, get_or, length, sum_by, sym}
use Rattle.std.proofs.lemmas.List.{at_drop_all, at_drop_more}
use Rattle.std.proofs.lemmas.List.Sums.{sum_by-cons}
use Rattle.flat_model.specs.declared.parts.ThreadPart.{ThreadPart}
use Rattle.machine_core.proofs.machine.total_steps.Goals as goal

-- the steps from a thread on are its own and those behind it
split : (threads : List ThreadPart) (i : ℕ) (one : ThreadPart) → i < length threads → one ≡ get_or threads i one →
    sum_by (λ (thread : ThreadPart). thread.steps) (drop i threads) ≡ one.steps + sum_by (λ (thread : ThreadPart). thread.steps) (drop (i + 1) threads)
split threads i one below is =
    at_drop_more (sum_by (λ (thread : ThreadPart). thread.steps)) threads i one below
    ∙ sum_by-cons (λ (thread : ThreadPart). thread.steps) (get_or threads i one) (drop (i + 1) threads)
    ∙ ap (λ (t : ThreadPart). t.steps + sum_by (λ (thread : ThreadPart). thread.steps) (drop (i + 1) threads)) (sym is)

-- counted so far, and still to be counted, with one thread more
more : (threads : List ThreadPart) (total i : ℕ) (one : ThreadPart) → i < length threads → one ≡ get_or threads i one →
    total + sum_by (λ (thread : ThreadPart). thread.steps) (drop i threads) ≡ sum_by (λ (thread : ThreadPart). thread.steps) threads →
    (total + one.steps) + sum_by (λ (thread : ThreadPart). thread.steps) (drop (i + 1) threads) ≡ sum_by (λ (thread : ThreadPart). thread.steps) threads
more threads total i one below is all = omega (arith, split threads i one below is)

-- all are counted
end : (threads : List ThreadPart) (total i : ℕ) → length threads ≤ i →
    total + sum_by (λ (thread : ThreadPart). thread.steps) (drop i threads) ≡ sum_by (λ (thread : ThreadPart). thread.steps) threads →
    total ≡ sum_by (λ (thread : ThreadPart). thread.steps) threads
end threads total i past all =
    let none : sum_by (λ (thread : ThreadPart). thread.steps) (drop i threads) ≡ 0 =
    at_drop_all (sum_by (λ (thread : ThreadPart). thread.steps)) threads i past in
    omega arith

pub overflow_add-total : goal.overflow_add-total
overflow_add-total c =
    let all = more c.args.threads.now c.loop-thread.total c.loop-thread.thread-index c.thread-item.result c.loop-thread-test.true c.thread-item.is c.loop-thread.invariant in
    omega (arith, all, c.requires)

pub loop-thread-init : goal.loop-thread-init
loop-thread-init c = omega arith

pub loop-thread-preserved : goal.loop-thread-preserved
loop-thread-preserved c =
    more c.args.threads.now c.loop-thread.total c.loop-thread.thread-index c.thread-item.result c.loop-thread-test.true c.thread-item.is c.loop-thread.invariant

pub returns : goal.returns
returns c = end c.args.threads.now c.loop-thread.total c.loop-thread.thread-index c.loop-thread-test.false c.loop-thread.invariant
