-- What the code's answers say of the bytes that it looked at.
use Rattle.std.specs.Prelude.{ℕ, ◌+◌, ◌≤◌, List, take, drop, Option, None, Some}
use Rattle.mj_copy.specs.Messages.{Message, Base, Have, Send, End, Reading, Whole, Short, Wrong}
use Rattle.mj_copy.specs.declared.message.Said.{Said}
use Rattle.mj_copy.specs.declared.message.Said.TheVariants as says
use Rattle.mj_copy.specs.declared.message.Found.{Found}
use Rattle.mj_copy.specs.declared.message.Found.TheVariants as found

-- the payload stands behind the letter and the offset
abbrev pub said_of : Said → List ℕ → Message
said_of (says.Base base) body = Base base
said_of (says.Have count) body = Have count
said_of (says.Send at) body = Send at (drop 9 body)
said_of says.End body = End

abbrev pub said_in : Option Said → List ℕ → Option Message
said_in None body = None
said_in (Some message) body = Some (said_of message body)

abbrev pub found_of : Found → List ℕ → Reading
found_of (found.Whole message head size) octets = Whole (said_of message (take size (drop head octets))) (drop size (drop head octets))
found_of found.Short octets = Short
found_of found.Wrong octets = Wrong

-- the message's bytes are there
abbrev pub IsWithin : Found → ℕ → Type 0
IsWithin (found.Whole message head size) n = head + size ≤ n
IsWithin found.Short n = Unit {0}
IsWithin found.Wrong n = Unit {0}
