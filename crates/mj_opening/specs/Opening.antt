-- How a message begins (ZeroMQ RFC 7, Majordomo/Client and Majordomo/Worker; the 0.2 profile after ZeroMQ RFC 18).
use Rattle.std.specs.Prelude.{ℕ, ◌≡◌, Bool, true, false, List, [], ◌∷◌, ◌++◌, Option, Some, None, option_map, if◌then◌else◌, codes}
use Rattle.std.specs.Str.{bytes_eq}
use Rattle.mj_base.specs.declared.version.Version.{Version}
use Rattle.mj_base.specs.declared.version.Version.TheVariants.{One, Two}
use Rattle.mj_opening.specs.declared.party.Party.{Party}
use Rattle.mj_opening.specs.declared.party.Party.TheVariants.{Clients, Workers}

abbrev pub word_of : Party → Version → List ℕ
word_of Clients One = codes "MDPC01"
word_of Clients Two = codes "MDPC02"
word_of Workers One = codes "MDPW01"
word_of Workers Two = codes "MDPW02"

-- what a message begins with, and the frames behind that
pub record Begun : Type 0 where
  pub version : Version
  pub lead : Bool
  pub rest : List (List ℕ)

abbrev pub version_of : Party → List ℕ → Option Version
version_of party word = if bytes_eq word (word_of party One) then Some One else (if bytes_eq word (word_of party Two) then Some Two else None)

abbrev pub begun : Bool → List (List ℕ) → Version → Begun
begun lead rest version = record { version = version; lead = lead; rest = rest }

abbrev pub behind_empty : Party → List (List ℕ) → Option Begun
behind_empty party [] = None
behind_empty party (word ∷ rest) = option_map (begun true rest) (version_of party word)

-- the word of 0.2, or an empty frame and the word of either version
abbrev pub opening_of : Party → List (List ℕ) → Option Begun
opening_of party [] = None
opening_of party (first ∷ rest) =
    if bytes_eq first (word_of party Two) then Some (begun false rest Two) else (if bytes_eq first [] then behind_empty party rest else None)

abbrev pub opening_frames : Party → Version → Bool → List (List ℕ)
opening_frames party version lead = (if lead then [] ∷ [] else []) ++ word_of party version ∷ []

-- the message begins so
abbrev pub IsBegun : Party → Version → Bool → List (List ℕ) → List (List ℕ) → Type 0
IsBegun party One true rest m = m ≡ [] ∷ word_of party One ∷ rest
IsBegun party One false rest m = ⊥
IsBegun party Two true rest m = m ≡ [] ∷ word_of party Two ∷ rest
IsBegun party Two false rest m = m ≡ word_of party Two ∷ rest

abbrev pub OpeningsStand : Type 0
OpeningsStand = (party : Party) (m : List (List ℕ)) (b : Begun) → opening_of party m ≡ Some b → IsBegun party b.version b.lead b.rest m

abbrev pub OpeningsAreRead : Type 0
OpeningsAreRead = (party : Party) (version : Version) (lead : Bool) (rest m : List (List ℕ)) → IsBegun party version lead rest m → opening_of party m ≡ Some (begun lead rest version)
