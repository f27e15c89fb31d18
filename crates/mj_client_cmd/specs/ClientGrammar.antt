-- What clients and the broker say to each other, and as which frames: 0.1 as in ZeroMQ RFC 7 (client request,
-- client reply), 0.2 by this project's profile after ZeroMQ RFC 18. There the first empty frame may be left out.
use Rattle.std.specs.Prelude.{ℕ, ◌≡◌, Bool, true, false, IsTrue, ⊤, List, [], ◌∷◌, codes}
use Rattle.mj_base.specs.ServiceName.{is_service_name}
use Rattle.mj_base.specs.declared.version.Version.{Version}
use Rattle.mj_base.specs.declared.version.Version.TheVariants.{One, Two}
use Rattle.mj_client_cmd.specs.declared.command.ClientCmd.{ClientCmd}
use Rattle.mj_client_cmd.specs.declared.command.ClientReply.{ClientReply}

-- the frames of a request: version, whether the empty frame stands first, service, body
abbrev pub IsRequestRow : Version → Bool → List ℕ → List (List ℕ) → List (List ℕ) → Type 0
IsRequestRow One true service body message = message ≡ [] ∷ codes "MDPC01" ∷ service ∷ body
IsRequestRow One false service body message = ⊥
IsRequestRow Two true service body message = message ≡ [] ∷ codes "MDPC02" ∷ (1 ∷ []) ∷ service ∷ body
IsRequestRow Two false service body message = message ≡ codes "MDPC02" ∷ (1 ∷ []) ∷ service ∷ body

-- the message is this request
pub record IsClientRequest (cmd : ClientCmd) (message : List (List ℕ)) : Type 0 where
  pub named : IsTrue (is_service_name cmd.service)
  pub row : IsRequestRow cmd.version cmd.lead cmd.service cmd.body message

-- the frames of a reply: version, whether the empty frame stands first, whether the reply is the last, service, body
abbrev pub IsReplyRow : Version → Bool → Bool → List ℕ → List (List ℕ) → List (List ℕ) → Type 0
IsReplyRow One true true service body message = message ≡ [] ∷ codes "MDPC01" ∷ service ∷ body
IsReplyRow One true false service body message = ⊥
IsReplyRow One false last service body message = ⊥
IsReplyRow Two true false service body message = message ≡ [] ∷ codes "MDPC02" ∷ (2 ∷ []) ∷ service ∷ body
IsReplyRow Two true true service body message = message ≡ [] ∷ codes "MDPC02" ∷ (3 ∷ []) ∷ service ∷ body
IsReplyRow Two false false service body message = message ≡ codes "MDPC02" ∷ (2 ∷ []) ∷ service ∷ body
IsReplyRow Two false true service body message = message ≡ codes "MDPC02" ∷ (3 ∷ []) ∷ service ∷ body

-- the message is this reply
pub record IsClientReply (reply : ClientReply) (message : List (List ℕ)) : Type 0 where
  pub named : IsTrue (is_service_name reply.service)
  pub row : IsReplyRow reply.version reply.lead reply.last reply.service reply.body message

-- in 0.1 the empty frame stands first
abbrev pub IsLed : Version → Bool → Type 0
IsLed One lead = IsTrue lead
IsLed Two lead = ⊤

-- and each reply is the last
abbrev pub IsReplyKind : Version → Bool → Bool → Type 0
IsReplyKind One lead last = IsTrue lead × IsTrue last
IsReplyKind Two lead last = ⊤
