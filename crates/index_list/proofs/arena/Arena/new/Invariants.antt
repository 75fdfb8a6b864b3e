use Rattle.std.proofs.Common.{◌≡◌, ℕ, ◌+◌, ◌<◌, Some, None, get_or, length}
use Rattle.index_list.proofs.arena.Arena.new.Given as goal

abbrev pub invariant-loop-place : goal.invariant-loop-place
invariant-loop-place l = record {
  nexts : length l.next.items ≡ l.place;
  prevs : length l.prev.items ≡ l.place;
  next_itself : (k : ℕ) → k < l.place → get_or l.next.items k 0 ≡ k;
  prev_itself : (k : ℕ) → k < l.place → get_or l.prev.items k 0 ≡ k;
}

abbrev pub invariant-loop : goal.invariant-loop
invariant-loop l = record {
  owners : length l.owner.items ≡ l.counter;
  free : (k : ℕ) → k < l.counter → get_or l.owner.items k None ≡ None;
}

abbrev pub invariant-loop-list : goal.invariant-loop-list
invariant-loop-list l = record {
  owners : length l.owner.items ≡ l.nodes + l.list;
  free : (k : ℕ) → k < l.nodes → get_or l.owner.items k None ≡ None;
  seated : (k : ℕ) → k < l.list → get_or l.owner.items (l.nodes + k) None ≡ Some k;
}
