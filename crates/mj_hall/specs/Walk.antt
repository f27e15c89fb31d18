-- The values of a chain of all, from its first row on.
use Rattle.std.specs.Prelude.{ℕ, zero, suc, List, [], ◌∷◌, Option, None, Some}
use Rattle.mj_counted.specs.declared.rows.Rows.{Rows}
use Rattle.mj_counted.specs.Rows.{entry}
use Rattle.mj_chain.specs.declared.node.Node.{Node}

module _ {T : Type 0} where
  abbrev pub walk_on : (Option ℕ → List T) → Option (Node T) → List T
  walk_on rest None = []
  walk_on rest (Some node) = node.value ∷ rest node.all.next

  -- at most this many rows
  abbrev pub walk : ℕ → Rows (Node T) → Option ℕ → List T
  walk zero rows at = []
  walk (suc n) rows None = []
  walk (suc n) rows (Some k) = walk_on (λ at. walk n rows at) (entry rows k)
