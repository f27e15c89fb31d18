-- Leases as two orders: by connection, and by deadline.
use Rattle.std.specs.Prelude.{◌≡◌, ℕ, ◌==◌, nat_le, Bool, false, List, Option, None, Some}
use Rattle.std.specs.List.{filter}
use Rattle.std.specs.Ordering.{nat_cmp}
use Rattle.std.specs.FinMap.Entries.{find}
use Rattle.mj_counted.specs.Pairs.{has_pair}

abbrev pub is_deadline : ℕ → Option ℕ → Bool
is_deadline d None = false
is_deadline d (Some e) = e == d

-- the deadline of this connection, in pairs of a connection and its deadline
abbrev pub deadline_of : ℕ → List (ℕ × ℕ) → Option ℕ
deadline_of conn pairs = find nat_cmp conn pairs

-- each connection has one deadline, and both orders have the same leases
pub record AreLeases (by_conn by_deadline : List (ℕ × ℕ)) : Type 0 where
  pub conns : (conn deadline : ℕ) → has_pair (conn, deadline) by_conn ≡ is_deadline deadline (deadline_of conn by_conn)
  pub deadlines : (conn deadline : ℕ) → has_pair (deadline, conn) by_deadline ≡ is_deadline deadline (deadline_of conn by_conn)

-- the pairs whose first number is at most `moment`
abbrev pub due_pairs : ℕ → List (ℕ × ℕ) → List (ℕ × ℕ)
due_pairs moment pairs = filter (λ p. nat_le p.0 moment) pairs
