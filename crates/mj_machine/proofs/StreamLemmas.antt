-- Streams by their number after one of them was fed, and the connection of a lane.
use Rattle.std.proofs.Common.{◌≡◌, ◌≢◌, ◌==◌, ℕ, Bool, true, false, cond, List, [], ◌∷◌, ◌++◌, Option, None, Some, refl, sym, ap, ◌∙◌, append-nil, append_assoc}
use Rattle.std.specs.Option.{option_map}
use Rattle.std.specs.List.{find}
use Rattle.mj_machine.specs.declared.connection.Connection.{Connection}
use Rattle.mj_machine.specs.MachineState.{Stream}
use Rattle.mj_machine.specs.Connections.{connection_of, connection_on, number_on}
use Rattle.mj_machine.specs.EventStep.{fed, longer}
use Rattle.mj_machine.proofs.ConnectionLemmas.{agrees, differs, equal}

abbrev pub found_stream : ℕ → List Stream → Option Stream
found_stream n streams = find (λ t. t.number == n) streams

-- ---- one stream fed

pub fed-same : (n : ℕ) (piece : List ℕ) (ts : List Stream) → found_stream n (fed n piece ts) ≡ option_map (longer piece) (found_stream n ts)
fed-same n piece [] = refl
fed-same n piece (t ∷ ts) = by (t.number == n) refl (fed-same n piece ts)
  where
    by : (b : Bool) → (t.number == n) ≡ b → found_stream n (fed n piece ts) ≡ option_map (longer piece) (found_stream n ts)
        → found_stream n (cond {A = List Stream} b (longer piece t ∷ ts) (t ∷ fed n piece ts)) ≡ option_map (longer piece) (cond {A = Option Stream} b (Some t) (found_stream n ts))
    by true e rest = rw e refl
    by false e rest = rw e rest

pub fed-other : (n q : ℕ) (piece : List ℕ) → q ≢ n → (ts : List Stream) → found_stream q (fed n piece ts) ≡ found_stream q ts
fed-other n q piece apart [] = refl
fed-other n q piece apart (t ∷ ts) = by (t.number == n) refl (fed-other n q piece apart ts)
  where
    by : (b : Bool) → (t.number == n) ≡ b → found_stream q (fed n piece ts) ≡ found_stream q ts
        → found_stream q (cond {A = List Stream} b (longer piece t ∷ ts) (t ∷ fed n piece ts)) ≡ found_stream q (t ∷ ts)
    by true e rest =
        let no : (t.number == q) ≡ false = differs t.number q (λ same. apart (sym same ∙ agrees t.number n e)) in
        rw no refl
    by false e rest = ap (λ (o : Option Stream). cond (t.number == q) (Some t) o) rest

-- nothing is fed
pub fed-nothing : (n : ℕ) (ts : List Stream) → fed n [] ts ≡ ts
fed-nothing n [] = refl
fed-nothing n (t ∷ ts) = by (t.number == n) (fed-nothing n ts)
  where
    by : (b : Bool) → fed n [] ts ≡ ts → cond {A = List Stream} b (longer [] t ∷ ts) (t ∷ fed n [] ts) ≡ t ∷ ts
    by true rest = ap (λ (octets : List ℕ). record { number = t.number; octets = octets } ∷ ts) (append-nil t.octets)
    by false rest = ap (λ (xs : List Stream). t ∷ xs) rest

-- two pieces behind each other
pub fed-twice : (n : ℕ) (first second : List ℕ) (ts : List Stream) → fed n second (fed n first ts) ≡ fed n (first ++ second) ts
fed-twice n first second [] = refl
fed-twice n first second (t ∷ ts) = by (t.number == n) refl (fed-twice n first second ts)
  where
    by : (b : Bool) → (t.number == n) ≡ b → fed n second (fed n first ts) ≡ fed n (first ++ second) ts
        → fed n second (cond {A = List Stream} b (longer first t ∷ ts) (t ∷ fed n first ts)) ≡ cond {A = List Stream} b (longer (first ++ second) t ∷ ts) (t ∷ fed n (first ++ second) ts)
    by true e rest = rw e (ap (λ (octets : List ℕ). record { number = t.number; octets = octets } ∷ ts) (append_assoc t.octets first second))
    by false e rest = rw e (ap (λ (xs : List Stream). t ∷ xs) rest)

-- ---- the connection of a lane

-- it is there
pub there-on : (lane n : ℕ) (cs : List Connection) → number_on lane cs ≡ Some n → connection_of n cs ≢ None
there-on lane n [] e = λ none. cc
there-on lane n (c ∷ cs) e = by (c.lane == lane) refl e (there-on lane n cs)
  where
    first : (b : Bool) → (c.number == n) ≡ b → c.number ≡ n → cond {A = Option Connection} b (Some c) (connection_of n cs) ≢ None
    first true t same = λ none. cc
    first false t same = let yes : (c.number == n) ≡ true = rw same (equal n) in cc

    behind : (b : Bool) → connection_of n cs ≢ None → cond {A = Option Connection} b (Some c) (connection_of n cs) ≢ None
    behind true some = λ none. cc
    behind false some = some

    by : (b : Bool) → (c.lane == lane) ≡ b → option_map (λ d. d.number) (cond {A = Option Connection} b (Some c) (connection_on lane cs)) ≡ Some n
        → (number_on lane cs ≡ Some n → connection_of n cs ≢ None) → connection_of n (c ∷ cs) ≢ None
    by true is found rest = let same : c.number ≡ n = cc in first (c.number == n) refl same
    by false is found rest = behind (c.number == n) (rest found)
