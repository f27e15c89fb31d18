use Rattle.std.proofs.Common.{◌≡◌, ◌≤◌, ◌+◌, ◌++◌, ℕ, List, [], drop, vec_len, vec_capacity}
use Rattle.mj_due.specs.Leases.{due_pairs}
use Rattle.mj_due.specs.Numbers.{put_all}
use Rattle.mj_due.proofs.leases.put_due.Given as goal

-- what is behind the numbers that were there, and the pairs that are left put in too, are all
abbrev pub invariant-loop-at : goal.invariant-loop-at
invariant-loop-at g l = record {
  put : (back : List ℕ) × (l.out.items ≡ l.fn.out.items ++ back) × (put_all back (drop l.at (due_pairs l.now l.order.pairs)) ≡ put_all [] (due_pairs l.now l.order.pairs));
  longer : vec_len l.fn.out ≤ vec_len l.out;
  long : vec_len l.out ≤ vec_len l.fn.out + l.at;
  room : vec_len l.fn.out + l.count ≤ vec_capacity l.out;
  cost : l.steps ≡ l.fn.steps + l.at;
}
