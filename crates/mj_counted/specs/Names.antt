-- Names and their keys, as contracts see them.
use Rattle.std.specs.Prelude.{ℕ, List, Option}
use Rattle.std.specs.Ordering.{nat_cmp}
use Rattle.std.specs.Cmp.Lexicographic.{slice_cmp}
use Rattle.std.specs.BTreeMap.{get_by}
use Rattle.mj_counted.specs.declared.index.Index.{Index}

-- the key of a name
abbrev pub key_of : Index → List ℕ → Option ℕ
key_of index name = get_by (λ k. slice_cmp nat_cmp name k.items) index.map
