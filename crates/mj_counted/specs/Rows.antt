-- What a contract sees of rows.
use Rattle.std.specs.Prelude.{ℕ, ◌-◌, Option}
use Rattle.std.specs.Borrow.{LendsIf, Fml, RattleType, MutBor}
use Rattle.slab.specs.Slab.{get, slab_len, with_value}
use Rattle.mj_counted.specs.declared.rows.Rows.{Rows}
use Rattle.mj_counted.specs.contracts.rows.Rows.{the_row}

module _ {T : Type 0} where
  -- the entry at a key
  abbrev pub entry : Rows T → ℕ → Option T
  entry rows key = get rows.slab key

  -- how many entries there are
  abbrev pub entries : Rows T → ℕ
  entries rows = slab_len rows.slab

  -- how many more there is room for
  abbrev pub spare : Rows T → ℕ
  spare rows = rows.slab.capacity - slab_len rows.slab

-- where r is a reference, the entry at the key is what was last written through it; at None all stays
abbrev pub lends_get : (T : RattleType) (s : MutBor (Rows T.Denot)) (key : ℕ) → Option (MutBor T.Denot) → Fml
lends_get T s key r = LendsIf (the_row T) T s r (λ w. record { slab = with_value s.now.slab key w }) s.now
