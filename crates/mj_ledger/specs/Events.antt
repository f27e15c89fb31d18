-- What the lines of a transcript say: who opened, asked, served, was given work, answered or left.
use Rattle.std.specs.Prelude.{ℕ, Bool, true, List}
use Rattle.mj_base.specs.ServiceName.{is_reserved}

pub data Event : Type 0 where
  Opened : (who : List ℕ) → Event
  -- it asked for a service
  Asked : (who service : List ℕ) (body : List (List ℕ)) → Event
  -- it says that it serves
  Ready : (who service : List ℕ) → Event
  -- it answers a request that came with this address
  Replied : (who : List ℕ) (last : Bool) (to : List ℕ) (body : List (List ℕ)) → Event
  -- it was sent a request that has this address
  Given : (who to : List ℕ) (body : List (List ℕ)) → Event
  -- it was sent a reply
  Answered : (who service : List ℕ) (last : Bool) (body : List (List ℕ)) → Event
  Lapsed : (who : List ℕ) → Event
  Left : (who : List ℕ) → Event
  -- something was sent that no broker sends
  Wrong : Event

-- names that a broker may answer itself are passed over
abbrev pub is_passed : List ℕ → Bool
is_passed service = is_reserved true service
