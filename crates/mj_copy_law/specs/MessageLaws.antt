-- What holds of messages and their reading, whatever is sent.
use Rattle.std.specs.Prelude.{ℕ, ◌≡◌, ◌⊎◌, List, ◌++◌}
use Rattle.mj_frame.specs.FrameSpelling.{IsBytes}
use Rattle.mj_copy.specs.Messages.{Fits, Message, Short, Whole, octets_of, reading}

-- of the bytes of a message and what follows, a front reads as this message or as the start of one
abbrev pub FrontsAreRead : Type 0
FrontsAreRead =
    (m : Message) (xs ys more : List ℕ) → Fits m → xs ++ ys ≡ octets_of m ++ more
    → (reading xs ≡ Short) ⊎ ((rest : List ℕ) × (reading xs ≡ Whole m rest) × (rest ++ ys ≡ more))

-- each message that can be written is read, whatever follows
abbrev pub WrittenIsRead : Type 0
WrittenIsRead = (m : Message) (rest : List ℕ) → Fits m → reading (octets_of m ++ rest) ≡ Whole m rest

-- what is read as a message is one that can be written, and was written so, in front of what is left
pub record IsWritten (m : Message) (rest octets : List ℕ) : Type 0 where
  pub fits : Fits m
  pub octets_are : octets ≡ octets_of m ++ rest

abbrev pub ReadIsWritten : Type 0
ReadIsWritten = (octets : List ℕ) (m : Message) (rest : List ℕ) → IsBytes octets → reading octets ≡ Whole m rest → IsWritten m rest octets
