-- What a REQUEST, a reply or an answer is owed by, as the tables have it.
use Rattle.std.specs.Prelude.{ℕ, Bool, true, false, not, ◌&&◌, ◌||◌, List, slice_get, Option, Some, None, is_some, if◌then◌else◌}
use Rattle.std.specs.Str.{bytes_eq}
use Rattle.mj_ledger.specs.Events.{is_passed}
use Rattle.mj_ledger.specs.TranscriptLaws.{is_body, same_body, same_bool}
use Rattle.mj_ledger.specs.Workers.{is_some_of}
use Rattle.mj_ledger.specs.declared.hand.Hand.{Hand}

abbrev pub waits_of : Option Hand → Bool
waits_of None = false
waits_of (Some h) = h.waiting

abbrev pub waits_for_of : Option Hand → List ℕ → Bool
waits_for_of None service = false
waits_for_of (Some h) service = h.waiting && is_some_of service h.service

abbrev pub service_in : Option Hand → Option (List ℕ)
service_in None = None
service_in (Some h) = h.service

-- a service whose requests are looked at
abbrev pub judged_name : Option (List ℕ) → Option (List ℕ)
judged_name None = None
judged_name (Some service) = if is_passed service then None else Some service

-- the service for which a reply with this address counts
abbrev pub owing_of : Option Hand → List ℕ → Option (List ℕ)
owing_of None to = None
owing_of (Some h) to = if is_some_of to h.held then h.service else None

-- a connection's next request for the service has this body; of nobody's there is none to look at
abbrev pub is_owned_of : Option Hand → Option (List ℕ) → (List ℕ → List (List (List ℕ))) → List (List ℕ) → Bool
is_owned_of hand None queue body = true
is_owned_of hand (Some service) queue body = not (is_some hand) || is_body body (slice_get (queue service) 0)

-- replies of one kind
abbrev pub is_kind : List ℕ → List ℕ → Bool → List (List ℕ) → List ℕ → List ℕ → Bool → List (List ℕ) → Bool
is_kind w n f o who service last body = bytes_eq w who && (bytes_eq n service && (same_bool f last && same_body o body))

-- one more of this kind, where there is a service
abbrev pub is_credit : List ℕ → Option (List ℕ) → Bool → List (List ℕ) → List ℕ → List ℕ → Bool → List (List ℕ) → Bool
is_credit w None f o who service last body = false
is_credit w (Some n) f o who service last body = is_kind w n f o who service last body
