-- Leases as a finite map (the ZeroMQ guide, chapter 4: a worker that is silent for too long is taken for gone).
use Rattle.std.specs.Prelude.{ℕ, nat_le, List, map, refl}
use Rattle.std.specs.List.{filter}
use Rattle.std.specs.Ordering.{nat_cmp}
use Rattle.std.specs.Coded.{Coded, code_by, coded×, coded_ℕ}
use Rattle.std.specs.FinMap as leases_by
use Rattle.std.specs.FinMap.{FinMap}

-- the deadline of each connection by its number, and how many further leases there is room for
pub record LeaseMap : Type 0 where
  pub leases : FinMap nat_cmp ℕ
  pub spare : ℕ

-- it is stored as the pair of its parts
abbrev pub lease_map_code : Coded LeaseMap
lease_map_code =
    code_by (FinMap nat_cmp ℕ × ℕ) (coded× (leases_by.code coded_ℕ coded_ℕ) coded_ℕ) (λ l. (l.leases, l.spare)) (λ p. record { leases = p.0; spare = p.1 }) (λ _. refl)

-- the connections whose deadline is at most `moment`, by rising number
abbrev pub due_of : ℕ → FinMap nat_cmp ℕ → List ℕ
due_of moment leases = map (λ l. l.0) (filter (λ l. nat_le l.1 moment) (leases_by.entries leases))
