-- What a row keeps of its neighbours, and how this follows from a list.
use Rattle.std.specs.Prelude.{ℕ, if◌then◌else◌, List, Option, None, Some}
use Rattle.mj_chain.specs.declared.node.Link.{Link}
use Rattle.mj_chain.specs.declared.node.Ends.{Ends}
use Rattle.mj_chain.specs.Seats.{head_of, is_key, is_no_key, last_from, next_in, prev_from}

module _ {X : Type 0} (key : X → ℕ) where
  abbrev pub link_in : ℕ → List X → Link
  link_in k xs = record { prev = prev_from key None k xs; next = next_in key k xs }

  abbrev pub ends_of : List X → Ends
  ends_of xs = record { first = head_of key xs; last = last_from key None xs }

-- the link of row j, once the row with the link `gone` has left
abbrev pub relinked : Link → ℕ → Link → Link
relinked gone j link = record { prev = if is_key j gone.next then gone.prev else link.prev; next = if is_key j gone.prev then gone.next else link.next }

-- the ends, once the row with the link `gone` has left
abbrev pub unended : Link → Ends → Ends
unended gone ends = record { first = if is_no_key gone.prev then gone.next else ends.first; last = if is_no_key gone.next then gone.prev else ends.last }

-- the link of row j, once row k has come behind `last`
abbrev pub followed : Option ℕ → ℕ → ℕ → Link → Link
followed last k j link = record { prev = link.prev; next = if is_key j last then Some k else link.next }

-- the ends, once row k has come
abbrev pub prolonged : ℕ → Ends → Ends
prolonged k ends = record { first = if is_no_key ends.last then Some k else ends.first; last = Some k }
