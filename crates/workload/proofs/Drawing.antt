-- The states of the draws behind others.
use Rattle.std.proofs.Common.{◌≡◌, ℕ, zero, suc, ◌+◌, ap, arith}
use Rattle.workload.specs.Generator.{next_state, state_after}

-- the state after some draws and others
pub state_after-more : (x a b : ℕ) → state_after (state_after x a) b ≡ state_after x (a + b)
unfolding state_after
state_after-more x a zero = ap (state_after x) (omega arith)
state_after-more x a (suc b) =
    let e : a + suc b ≡ suc (a + b) = omega arith in
    rw e (ap next_state (state_after-more x a b))
