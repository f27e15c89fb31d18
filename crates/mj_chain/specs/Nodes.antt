-- Rows that are a function of a list: each row has its value, and its neighbours in three chains.
use Rattle.std.specs.Prelude.{◌≡◌, ℕ, Bool, true, if◌then◌else◌, List, Option, None}
use Rattle.std.specs.Option.{option_map}
use Rattle.std.specs.List.{filter}
use Rattle.mj_counted.specs.declared.rows.Rows.{Rows}
use Rattle.mj_counted.specs.Rows.{entry}
use Rattle.mj_chain.specs.declared.node.Chain.{Chain}
use Rattle.mj_chain.specs.declared.node.Chain.TheVariants.{All, Service, Origin}
use Rattle.mj_chain.specs.declared.node.Link.{Link}
use Rattle.mj_chain.specs.declared.node.Node.{Node}
use Rattle.mj_chain.specs.Links.{followed, link_in, relinked}
use Rattle.mj_chain.specs.Seats.{Seat, found, is_key, last_from, seat_key}

-- which two values stand in one chain: of all, of a service, of an origin
pub record Classes (T : Type 0) : Type 0 where
  pub all : T → T → Bool
  pub service : T → T → Bool
  pub origin : T → T → Bool

-- the values fall into classes
pub record IsClass {T : Type 0} (same : T → T → Bool) : Type 0 where
  pub own : (v : T) → same v v ≡ true
  pub turned : (v w : T) → same v w ≡ same w v
  pub joined : (v w : T) → same v w ≡ true → (u : T) → same v u ≡ same w u

pub record AreClasses {T : Type 0} (classes : Classes T) : Type 0 where
  pub all : IsClass classes.all
  pub service : IsClass classes.service
  pub origin : IsClass classes.origin

module _ {T : Type 0} where
  -- the seats of one chain, by a value that stands in it
  abbrev pub alike : (T → T → Bool) → T → List (Seat T) → List (Seat T)
  alike same v xs = filter (λ s. same v s.value) xs

  -- the row of the value v at the key k
  abbrev pub node_at : Classes T → List (Seat T) → ℕ → T → Node T
  node_at classes xs k v = record {
    value = v;
    all = link_in seat_key k (alike classes.all v xs);
    service = link_in seat_key k (alike classes.service v xs);
    origin = link_in seat_key k (alike classes.origin v xs);
  }

  -- the rows hold this list
  abbrev pub RowsAre : Classes T → Rows (Node T) → List (Seat T) → Type 0
  RowsAre classes rows xs = (k : ℕ) → entry rows k ≡ option_map (node_at classes xs k) (found k xs)

  -- the row of a value that comes behind the last of each of its chains
  abbrev pub fresh : Classes T → List (Seat T) → T → Node T
  fresh classes xs v = record {
    value = v;
    all = record { prev = last_from seat_key None (alike classes.all v xs); next = None };
    service = record { prev = last_from seat_key None (alike classes.service v xs); next = None };
    origin = record { prev = last_from seat_key None (alike classes.origin v xs); next = None };
  }

  abbrev pub link_of : Chain → Node T → Link
  link_of All node = node.all
  link_of Service node = node.service
  link_of Origin node = node.origin

  abbrev pub with_link : Chain → Link → Node T → Node T
  with_link All link node = record node { all = link }
  with_link Service link node = record node { service = link }
  with_link Origin link node = record node { origin = link }

  abbrev pub with_next : Chain → Option ℕ → Node T → Node T
  with_next chain next node = with_link chain (record (link_of chain node) { next = next }) node

  abbrev pub with_prev : Chain → Option ℕ → Node T → Node T
  with_prev chain prev node = with_link chain (record (link_of chain node) { prev = prev }) node

  -- row j, where this row gets another behind it
  abbrev pub with_next_at : Chain → Option ℕ → Option ℕ → ℕ → Node T → Node T
  with_next_at chain key next j node = if is_key j key then with_next chain next node else node

  -- row j, where this row gets another in front of it
  abbrev pub with_prev_at : Chain → Option ℕ → Option ℕ → ℕ → Node T → Node T
  with_prev_at chain key prev j node = if is_key j key then with_prev chain prev node else node

  -- row j, once a row with the link `gone` has left this chain
  abbrev pub relinked_in : Chain → Link → ℕ → Node T → Node T
  relinked_in chain gone j node = with_link chain (relinked gone j (link_of chain node)) node

  -- row j, once the row `gone` has left its three chains
  abbrev pub left_by : Node T → ℕ → Node T → Node T
  left_by gone j node = record {
    value = node.value;
    all = relinked gone.all j node.all;
    service = relinked gone.service j node.service;
    origin = relinked gone.origin j node.origin;
  }

  -- row j, once row k has come behind the last of each of its chains
  abbrev pub joined_by : Node T → ℕ → ℕ → Node T → Node T
  joined_by come k j node = record {
    value = node.value;
    all = followed come.all.prev k j node.all;
    service = followed come.service.prev k j node.service;
    origin = followed come.origin.prev k j node.origin;
  }
