-- Which request or reply a list of frames is, as functions (ZeroMQ RFC 7, client request and client reply; the 0.2
-- profile after ZeroMQ RFC 18).
use Rattle.std.specs.Prelude.{ℕ, Bool, true, false, List, [], ◌∷◌, Option, Some, None, option_map, if◌then◌else◌, codes}
use Rattle.std.specs.Str.{bytes_eq}
use Rattle.mj_base.specs.ServiceName.{is_service_name}
use Rattle.mj_base.specs.declared.version.Version.{Version}
use Rattle.mj_base.specs.declared.version.Version.TheVariants.{One, Two}
use Rattle.mj_opening.specs.Opening.{Begun, opening_of}
use Rattle.mj_opening.specs.declared.party.Party.TheVariants.{Clients}
use Rattle.mj_client_cmd.specs.declared.command.ClientCmd.{ClientCmd}
use Rattle.mj_client_cmd.specs.declared.command.ClientReply.{ClientReply}

-- a service name, and the frames behind it
abbrev pub named : List (List ℕ) → Option (List ℕ × List (List ℕ))
named [] = None
named (service ∷ body) = if is_service_name service then Some (service, body) else None

-- ---- requests

-- the frames behind a request's code, which 0.1 has not
abbrev pub request_rest : Version → List (List ℕ) → Option (List (List ℕ))
request_rest One rest = Some rest
request_rest Two [] = None
request_rest Two (code ∷ rest) = if bytes_eq code (1 ∷ []) then Some rest else None

abbrev pub request : Version → Bool → List ℕ × List (List ℕ) → ClientCmd
request version lead found = record { version = version; lead = lead; service = found.0; body = found.1 }

abbrev pub request_in : Version → Bool → Option (List (List ℕ)) → Option ClientCmd
request_in version lead None = None
request_in version lead (Some rest) = option_map (request version lead) (named rest)

abbrev pub request_begun : Option Begun → Option ClientCmd
request_begun None = None
request_begun (Some b) = request_in b.version b.lead (request_rest b.version b.rest)

-- the request that a message is
abbrev pub client_of : List (List ℕ) → Option ClientCmd
client_of message = request_begun (opening_of Clients message)

-- ---- replies

-- whether the reply with this code is the last
abbrev pub last_of : List ℕ → Option Bool
last_of code = if bytes_eq code (2 ∷ []) then Some false else (if bytes_eq code (3 ∷ []) then Some true else None)

-- whether the reply is the last, and the frames behind its code, which 0.1 has not
abbrev pub reply_rest : Version → List (List ℕ) → Option (Bool × List (List ℕ))
reply_rest One rest = Some (true, rest)
reply_rest Two [] = None
reply_rest Two (code ∷ rest) = option_map (λ last. (last, rest)) (last_of code)

abbrev pub reply : Version → Bool → Bool → List ℕ × List (List ℕ) → ClientReply
reply version lead last found = record { version = version; lead = lead; last = last; service = found.0; body = found.1 }

abbrev pub reply_in : Version → Bool → Option (Bool × List (List ℕ)) → Option ClientReply
reply_in version lead None = None
reply_in version lead (Some kind) = option_map (reply version lead kind.0) (named kind.1)

abbrev pub reply_begun : Option Begun → Option ClientReply
reply_begun None = None
reply_begun (Some b) = reply_in b.version b.lead (reply_rest b.version b.rest)

-- the reply that a message is
abbrev pub reply_of : List (List ℕ) → Option ClientReply
reply_of message = reply_begun (opening_of Clients message)
