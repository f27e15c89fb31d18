-- What holds of the bodies of READY, whatever reads them.
use Rattle.std.specs.Prelude.{ℕ, ◌≡◌, true, false, List, [], ◌∷◌, ◌++◌, length, drop, Ok}
use Rattle.mj_frame.specs.declared.head.Head.{Head}
use Rattle.mj_frame.specs.declared.head.HeadAnswer.TheVariants as answers
use Rattle.mj_frame.specs.FrameSpelling.{IsFrame}
use Rattle.mj_frame.specs.HeadReading.{head_at}
use Rattle.mj_handshake.specs.declared.socket_type.SocketType.{SocketType}
use Rattle.mj_handshake.specs.ReadyProperty.{Property}
use Rattle.mj_handshake.specs.ReadyGrammar.{IsReady, ready_of, type_property, ready_body, ready_frame}

abbrev pub head : SocketType → Head
head kind = record { more = false; command = true; size = length (ready_body kind) }

-- What is written is a command frame whose body is a READY. Whatever follows, it is read again as that frame, and
-- its body as the same type.
pub record IsReadAgain (kind : SocketType) : Type 0 where
  pub framed : IsFrame (record { more = false; command = true; body = ready_body kind }) (ready_frame kind)
  pub spelled : IsReady (type_property kind ∷ []) (ready_body kind)
  pub headed : (rest : List ℕ) → head_at (ready_frame kind ++ rest) ≡ answers.Head (head kind) 2
  pub behind : (rest : List ℕ) → drop 2 (ready_frame kind ++ rest) ≡ ready_body kind ++ rest
  pub again : ready_of (ready_body kind) ≡ Ok kind

abbrev pub WrittenIsRead : Type 0
WrittenIsRead = (kind : SocketType) → IsReadAgain kind

-- bytes are a READY with at most one list of properties
abbrev pub OneList : Type 0
OneList = (properties others : List Property) (octets : List ℕ) → IsReady properties octets → IsReady others octets → properties ≡ others
