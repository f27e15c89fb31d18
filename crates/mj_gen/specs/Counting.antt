-- What is counted of a run, and how it is printed.
use Rattle.std.specs.Prelude.{ℕ, ◌≡◌, ◌+◌, ⊤, List, [], ◌∷◌, ◌++◌, length, Option, Some, None, codes}
use Rattle.std.specs.Fmt.{decimal}
use Rattle.mj_base.specs.declared.event.Event.{Event}
use Rattle.mj_base.specs.declared.event.Out.{Out}
use Rattle.mj_base.specs.declared.event.Out.TheVariants as outs
use Rattle.mj_serve.specs.Counts.{pieces_in}
use Rattle.mj_gen.specs.declared.counts.Counts.{Counts}

-- the bytes of all pieces
abbrev pub octets_in : List Out → ℕ
octets_in [] = 0
octets_in (outs.Piece lane octets ∷ rest) = octets_in rest + length octets
octets_in (outs.End lane reason at ∷ rest) = octets_in rest
octets_in (outs.Note note ∷ rest) = octets_in rest

-- how many connections are ended
abbrev pub ends_in : List Out → ℕ
ends_in [] = 0
ends_in (outs.Piece lane octets ∷ rest) = ends_in rest
ends_in (outs.End lane reason at ∷ rest) = ends_in rest + 1
ends_in (outs.Note note ∷ rest) = ends_in rest

-- these are the numbers of these events and outs
pub record AreCounted (counts : Counts) (taken : List Event) (given : List Out) : Type 0 where
  pub events : counts.events ≡ length taken
  pub pieces : counts.pieces ≡ pieces_in given
  pub octets : counts.octets ≡ octets_in given
  pub ends : counts.ends ≡ ends_in given

-- where no number has grown too large
abbrev pub AreCountedIf : Option Counts → List Event → List Out → Type 0
AreCountedIf None events given = ⊤
AreCountedIf (Some counts) events given = AreCounted counts events given

abbrev pub plus_piece : ℕ → Counts → Counts
plus_piece size counts = record { events = counts.events; pieces = counts.pieces + 1; octets = counts.octets + size; ends = counts.ends }

abbrev pub plus_end : Counts → Counts
plus_end counts = record { events = counts.events; pieces = counts.pieces; octets = counts.octets; ends = counts.ends + 1 }

-- the five lines
abbrev pub text_of : ℕ → ℕ → ℕ → ℕ → List ℕ
text_of events pieces octets ends =
    codes "events "
    ++ (decimal events ++ (codes "\npieces " ++ (decimal pieces ++ (codes "\noctets " ++ (decimal octets ++ (codes "\nends " ++ (decimal ends ++ (codes "\ndone " ++ (decimal events ++ codes "\n")))))))))

abbrev pub counts_text : List Event → List Out → List ℕ
counts_text events given = text_of (length events) (pieces_in given) (octets_in given) (ends_in given)
