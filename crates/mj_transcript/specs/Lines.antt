-- Lines of a transcript: whom a line is about, and which lines are lawful behind which.
use Rattle.std.specs.Prelude.{ℕ, ◌==◌, Bool, true, false, not, ◌&&◌, nat_lt, List, [], ◌∷◌, ◌++◌, length, Option, Some, None, if◌then◌else◌}
use Rattle.std.specs.List.{after_last, filter, filter_map, flat_map, last_or, list_any}
use Rattle.std.specs.Option.{unwrap_or}
use Rattle.std.specs.Str.{bytes_eq}
use Rattle.mj_base.specs.StandardLimits.{standard_limits}
use Rattle.mj_wire.specs.StreamItems.{gained}
use Rattle.mj_wire.specs.declared.item.WireItem.{WireItem}
use Rattle.mj_wire.specs.declared.item.WireItem.TheVariants as items
use Rattle.mj_transcript.specs.declared.line.Line.{Line}
use Rattle.mj_transcript.specs.declared.line.Line.TheVariants.{Open, In, Out, Close, Lapse, Silent, Unlawful}

-- ---- lanes

abbrev pub opens : ℕ → Line → Bool
opens lane (Open n address) = n == lane
opens lane _ = false

abbrev pub closes : ℕ → Line → Bool
closes lane (Close n) = n == lane
closes lane _ = false

-- the lines behind the last `open` of a lane are about that lane's connection
abbrev pub since_open : ℕ → List Line → List Line
since_open lane lines = after_last (opens lane) lines

abbrev pub is_open : ℕ → List Line → Bool
is_open lane lines = list_any (opens lane) lines && not (list_any (closes lane) (since_open lane lines))

-- the address in an `open` of this lane
abbrev pub address_in : ℕ → Line → Option (List ℕ)
address_in lane (Open n address) = if n == lane then Some address else None
address_in lane _ = None

-- a connection is known by its address: that of the lane's last `open`
abbrev pub connection_on : ℕ → List Line → List ℕ
connection_on lane lines = unwrap_or (last_or None (filter_map (address_in lane) lines)) []

abbrev pub takes : List ℕ → Line → Bool
takes address (Open n other) = bytes_eq other address
takes address _ = false

-- ---- streams

abbrev pub octets_in : ℕ → Line → List ℕ
octets_in lane (In n octets) = if n == lane then octets else []
octets_in lane _ = []

abbrev pub octets_out : ℕ → Line → List ℕ
octets_out lane (Out n octets) = if n == lane then octets else []
octets_out lane _ = []

-- what the lane's connection has received and what was sent to it
abbrev pub received : ℕ → List Line → List ℕ
received lane lines = flat_map (octets_in lane) (since_open lane lines)

abbrev pub sent : ℕ → List Line → List ℕ
sent lane lines = flat_map (octets_out lane) (since_open lane lines)

abbrev pub is_message : WireItem → Bool
is_message items.Accepted = false
is_message (items.Ready kind) = false
is_message (items.Message message) = true
is_message (items.Ended reason at) = false

-- ---- lawful lines

abbrev pub is_lawful : List Line → Line → Bool
is_lawful before (Open lane address) = not (is_open lane before) && not (list_any (takes address) before)
is_lawful before (In lane octets) =
    is_open lane before && nat_lt (length (filter is_message (gained standard_limits (received lane before) octets))) 2
is_lawful before (Out lane octets) = is_open lane before
is_lawful before (Close lane) = is_open lane before
is_lawful before (Lapse lane) = is_open lane before
is_lawful before Silent = true
is_lawful before Unlawful = false
