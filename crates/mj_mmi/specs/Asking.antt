-- What is asked of the broker itself: whether a service is there (ZeroMQ RFC 8), and tickets (ZeroMQ RFC 9).
use Rattle.std.specs.Prelude.{ℕ, ◌-◌, Bool, true, not, ◌&&◌, List, [], ◌∷◌, length, slice_get, Option, Some, None, option_and_then, if◌then◌else◌, codes}
use Rattle.std.specs.Str.{bytes_eq}
use Rattle.mj_base.specs.ServiceName.{is_service_name, is_reserved, name_of}
use Rattle.mj_ids.specs.Ids.{read_of}

-- the last frame, where there is one
abbrev pub last_frame : List (List ℕ) → Option (List ℕ)
last_frame body = slice_get body (length body - 1)

-- the name that is asked for
abbrev pub asked : List (List ℕ) → Option (List ℕ)
asked body = option_and_then name_of (last_frame body)

-- `mmi.service` is there, and no other service of this kind
abbrev pub mmi_code : List ℕ → Bool → List ℕ
mmi_code name known = if bytes_eq name (codes "mmi.service") then (if known then codes "200" else codes "404") else codes "501"

-- a service that isn't the broker's own, and a request for it
abbrev pub read_submit : List (List ℕ) → Option (List ℕ × List (List ℕ))
read_submit [] = None
read_submit (service ∷ body) = if is_service_name service && not (is_reserved true service) then Some (service, body) else None

-- an id, as the only frame
abbrev pub read_ticket : List (List ℕ) → Option (List ℕ)
read_ticket [] = None
read_ticket (frame ∷ []) = read_of frame
read_ticket (frame ∷ other ∷ frames) = None
