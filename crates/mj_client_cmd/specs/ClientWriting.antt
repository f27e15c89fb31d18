-- The frames of a request and of a reply, as functions (ZeroMQ RFC 7, client request and client reply; the 0.2
-- profile after ZeroMQ RFC 18).
use Rattle.std.specs.Prelude.{ℕ, Bool, List, [], ◌∷◌, ◌++◌, if◌then◌else◌, codes}
use Rattle.mj_base.specs.declared.version.Version.{Version}
use Rattle.mj_base.specs.declared.version.Version.TheVariants.{One, Two}
use Rattle.mj_opening.specs.Opening.{opening_frames}
use Rattle.mj_opening.specs.declared.party.Party.TheVariants.{Clients}
use Rattle.mj_client_cmd.specs.declared.command.ClientCmd.{ClientCmd}
use Rattle.mj_client_cmd.specs.declared.command.ClientReply.{ClientReply}

-- a code stands in 0.2 alone
abbrev pub code_frames : Version → List ℕ → List (List ℕ)
code_frames One code = []
code_frames Two code = code ∷ []

abbrev pub message_frames : Version → Bool → List ℕ → List ℕ → List (List ℕ) → List (List ℕ)
message_frames version lead code service body = opening_frames Clients version lead ++ (code_frames version code ++ service ∷ body)

abbrev pub request_frames : ClientCmd → List (List ℕ)
request_frames cmd = message_frames cmd.version cmd.lead (1 ∷ []) cmd.service cmd.body

-- partial, final
abbrev pub reply_code : Bool → List ℕ
reply_code last = if last then 3 ∷ [] else 2 ∷ []

abbrev pub reply_frames : ClientReply → List (List ℕ)
reply_frames reply = message_frames reply.version reply.lead (reply_code reply.last) reply.service reply.body
