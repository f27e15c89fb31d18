-- The loads of one and of eight requests, worked by hand.
use Rattle.std.specs.Prelude.{ℕ, ◌≡◌, ◌+◌, ◌-◌, ◌*◌, nat_lt, true, false, List, [], ◌∷◌, ◌++◌, length, codes, if◌then◌else◌}
use Rattle.mj_base.specs.declared.event.Event.{Event}
use Rattle.mj_base.specs.declared.event.Event.TheVariants as events
use Rattle.mj_gen.specs.Generated.{generated}

-- the bytes that these digits spell, two a byte, of 0 to 9 and a to f
abbrev pub digit : ℕ → ℕ
digit c = if nat_lt c 58 then c - 48 else c - 87

abbrev pub unhex : List ℕ → List ℕ
unhex [] = []
unhex (c ∷ []) = []
unhex (c ∷ d ∷ cs) = (16 * digit c + digit d) ∷ unhex cs

abbrev pub hello_row : List ℕ
hello_row = unhex (codes "ff00000000000000007f03004e554c4c000000000000000000000000000000000000000000000000000000000000000000000000000000000000000000000000041c0552454144590b536f636b65742d54797065000000064445414c4552")

abbrev pub one_row : List Event
one_row =
    events.Open 0 ∷
    events.Bytes 0 hello_row ∷
    events.Sent 0 ∷
    events.Sent 0 ∷
    events.Open 1 ∷
    events.Bytes 1 hello_row ∷
    events.Sent 1 ∷
    events.Sent 1 ∷
    events.Open 2 ∷
    events.Bytes 2 hello_row ∷
    events.Sent 2 ∷
    events.Sent 2 ∷
    events.Open 3 ∷
    events.Bytes 3 hello_row ∷
    events.Sent 3 ∷
    events.Sent 3 ∷
    events.Open 4 ∷
    events.Bytes 4 hello_row ∷
    events.Sent 4 ∷
    events.Sent 4 ∷
    events.Open 5 ∷
    events.Bytes 5 hello_row ∷
    events.Sent 5 ∷
    events.Sent 5 ∷
    events.Open 6 ∷
    events.Bytes 6 hello_row ∷
    events.Sent 6 ∷
    events.Sent 6 ∷
    events.Open 7 ∷
    events.Bytes 7 hello_row ∷
    events.Sent 7 ∷
    events.Sent 7 ∷
    events.Bytes 4 (unhex (codes "010001064d445043303101027330000130")) ∷
    events.Bytes 0 (unhex (codes "010001064d445057303101010100027330")) ∷
    events.Bytes 1 (unhex (codes "01064d445057303201010100027331")) ∷
    events.Bytes 2 (unhex (codes "010001064d445057303101010100027332")) ∷
    events.Bytes 3 (unhex (codes "01064d445057303201010100027333")) ∷
    events.Sent 0 ∷
    events.Bytes 0 (unhex (codes "010001064d445057303101010301094300000000000000050100000130")) ∷
    events.Sent 4 ∷
    []

abbrev pub ticket_row : List Event
ticket_row = events.Bytes 4 (unhex (codes "010001064d4450433031010f746974616e69632e7265717565737401056c61746572000131")) ∷ events.Sent 4 ∷ []

-- one request, and one with a ticket behind it
abbrev pub LoadOfOne : Type 0
LoadOfOne = generated 1 false ≡ one_row

abbrev pub LoadOfOneStored : Type 0
LoadOfOneStored = generated 1 true ≡ one_row ++ ticket_row

abbrev pub LoadOfEight : Type 0
LoadOfEight = (length (generated 8 false) ≡ 68) × (length (generated 8 true) ≡ 84)
