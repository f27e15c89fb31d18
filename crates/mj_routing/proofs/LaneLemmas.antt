-- The table of lanes after one connection was changed, added or taken out.
use Rattle.std.proofs.Common.{◌≡◌, ◌≢◌, ◌+◌, ◌<◌, ◌==◌, nat_eq, ℕ, Bool, true, false, not, cond, List, [], ◌∷◌, ◌++◌, get_or, slice_set, remove, sum, ◌^◌, IfSome, Option, None, Some, refl, sym, ap, subst, ◌∙◌, arith}
use Rattle.std.specs.Option.{option_map}
use Rattle.std.specs.HashMap.{HashMap, IsEmpty, Updates}
use Rattle.mj_machine.specs.declared.connection.Connection.{Connection}
use Rattle.mj_machine.specs.Connections.{changed, connection_of, connection_on, number_on}
use Rattle.mj_machine.specs.Leaving.{connections_without}
use Rattle.mj_machine.proofs.ConnectionLemmas.{Keeps, agrees, differs, equal}
use Rattle.mj_routing.specs.Lanes.{AllAbove, AllElsewhere, AreAlone, AreBelow, AreIndexed, AreRising, Rise}
use Rattle.mj_routing.specs.Places.{IsPlaceOf, IsRoomFor}
use Rattle.mj_routing.proofs.PlaceLemmas.{at-place, nowhere-above}

-- a change that leaves the lane
abbrev pub KeepsLane : (Connection → Connection) → Type 0
KeepsLane f = (c : Connection) → (f c).lane ≡ c.lane

-- ---- numbers that rise

above-changed : (m n : ℕ) (f : Connection → Connection) → Keeps f → (cs : List Connection) → AllAbove m cs → AllAbove m (changed n f cs)
above-changed m n f keeps [] above = tt
above-changed m n f keeps (c ∷ cs) above = by (c.number == n) (above-changed m n f keeps cs above.1)
  where
    by : (b : Bool) → AllAbove m (changed n f cs) → AllAbove m (cond {A = List Connection} b (f c ∷ cs) (c ∷ changed n f cs))
    by true rest = (subst (λ (k : ℕ). m < k) (sym (keeps c)) above.0, above.1)
    by false rest = (above.0, rest)

rise-changed : (n : ℕ) (f : Connection → Connection) → Keeps f → (cs : List Connection) → Rise cs → Rise (changed n f cs)
rise-changed n f keeps [] rise = tt
rise-changed n f keeps (c ∷ cs) rise = by (c.number == n) (rise-changed n f keeps cs rise.1)
  where
    by : (b : Bool) → Rise (changed n f cs) → Rise (cond {A = List Connection} b (f c ∷ cs) (c ∷ changed n f cs))
    by true rest = rw (keeps c) rise
    by false rest = (above-changed c.number n f keeps cs rise.0, rest)

above-without : (m n : ℕ) (cs : List Connection) → AllAbove m cs → AllAbove m (connections_without n cs)
above-without m n [] above = tt
above-without m n (c ∷ cs) above = by (c.number == n) (above-without m n cs above.1)
  where
    by : (b : Bool) → AllAbove m (connections_without n cs) → AllAbove m (cond {A = List Connection} (not b) (c ∷ connections_without n cs) (connections_without n cs))
    by true rest = rest
    by false rest = (above.0, rest)

rise-without : (n : ℕ) (cs : List Connection) → Rise cs → Rise (connections_without n cs)
rise-without n [] rise = tt
rise-without n (c ∷ cs) rise = by (c.number == n) (rise-without n cs rise.1)
  where
    by : (b : Bool) → Rise (connections_without n cs) → Rise (cond {A = List Connection} (not b) (c ∷ connections_without n cs) (connections_without n cs))
    by true rest = rest
    by false rest = (above-without c.number n cs rise.0, rest)

above-added : (m : ℕ) (c : Connection) (cs : List Connection) → m < c.number → AllAbove m cs → AllAbove m (cs ++ c ∷ [])
above-added m c [] less above = (less, tt)
above-added m c (d ∷ cs) less above = (above.0, above-added m c cs less above.1)

rise-added : (c : Connection) (cs : List Connection) → AreBelow c.number cs → Rise cs → Rise (cs ++ c ∷ [])
rise-added c [] below rise = (tt, tt)
rise-added c (d ∷ cs) below rise = (above-added d.number c cs below.0 rise.0, rise-added c cs below.1 rise.1)

-- ---- all below

below-changed : (next n : ℕ) (f : Connection → Connection) → Keeps f → (cs : List Connection) → AreBelow next cs → AreBelow next (changed n f cs)
below-changed next n f keeps [] below = tt
below-changed next n f keeps (c ∷ cs) below = by (c.number == n) (below-changed next n f keeps cs below.1)
  where
    by : (b : Bool) → AreBelow next (changed n f cs) → AreBelow next (cond {A = List Connection} b (f c ∷ cs) (c ∷ changed n f cs))
    by true rest = (subst (λ (k : ℕ). k < next) (sym (keeps c)) below.0, below.1)
    by false rest = (below.0, rest)

below-without : (next n : ℕ) (cs : List Connection) → AreBelow next cs → AreBelow next (connections_without n cs)
below-without next n [] below = tt
below-without next n (c ∷ cs) below = by (c.number == n) (below-without next n cs below.1)
  where
    by : (b : Bool) → AreBelow next (connections_without n cs) → AreBelow next (cond {A = List Connection} (not b) (c ∷ connections_without n cs) (connections_without n cs))
    by true rest = rest
    by false rest = (below.0, rest)

below-added : (next : ℕ) (c : Connection) (cs : List Connection) → c.number ≡ next → AreBelow next cs → AreBelow (next + 1) (cs ++ c ∷ [])
below-added next c [] is below = (omega (arith, is), tt)
below-added next c (d ∷ cs) is below = let less : d.number < next = below.0 in (omega (arith, less), below-added next c cs is below.1)

-- ---- both

pub rising-changed : (next n : ℕ) (f : Connection → Connection) → Keeps f → (cs : List Connection) → AreRising next cs → AreRising next (changed n f cs)
rising-changed next n f keeps cs rising = (rise-changed n f keeps cs rising.0, below-changed next n f keeps cs rising.1)

pub rising-without : (next n : ℕ) (cs : List Connection) → AreRising next cs → AreRising next (connections_without n cs)
rising-without next n cs rising = (rise-without n cs rising.0, below-without next n cs rising.1)

pub rising-added : (next : ℕ) (c : Connection) (cs : List Connection) → c.number ≡ next → AreRising next cs → AreRising (next + 1) (cs ++ c ∷ [])
rising-added next c cs is rising = (rise-added c cs (subst (λ (k : ℕ). AreBelow k cs) (sym is) rising.1) rising.0, below-added next c cs is rising.1)

-- ---- lanes

elsewhere-changed : (lane n : ℕ) (f : Connection → Connection) → KeepsLane f → (cs : List Connection) → AllElsewhere lane cs → AllElsewhere lane (changed n f cs)
elsewhere-changed lane n f keeps [] none = tt
elsewhere-changed lane n f keeps (c ∷ cs) none = by (c.number == n) (elsewhere-changed lane n f keeps cs none.1)
  where
    by : (b : Bool) → AllElsewhere lane (changed n f cs) → AllElsewhere lane (cond {A = List Connection} b (f c ∷ cs) (c ∷ changed n f cs))
    by true rest = (subst (λ (k : ℕ). k ≢ lane) (sym (keeps c)) none.0, none.1)
    by false rest = (none.0, rest)

alone-changed : (n : ℕ) (f : Connection → Connection) → KeepsLane f → (cs : List Connection) → AreAlone cs → AreAlone (changed n f cs)
alone-changed n f keeps [] alone = tt
alone-changed n f keeps (c ∷ cs) alone = by (c.number == n) (alone-changed n f keeps cs alone.1)
  where
    by : (b : Bool) → AreAlone (changed n f cs) → AreAlone (cond {A = List Connection} b (f c ∷ cs) (c ∷ changed n f cs))
    by true rest = rw (keeps c) alone
    by false rest = (elsewhere-changed c.lane n f keeps cs alone.0, rest)

pub on-changed : (lane n : ℕ) (f : Connection → Connection) → Keeps f → KeepsLane f → (cs : List Connection) → number_on lane (changed n f cs) ≡ number_on lane cs
on-changed lane n f keeps keeps_lane [] = refl
on-changed lane n f keeps keeps_lane (c ∷ cs) = by (c.number == n) (on-changed lane n f keeps keeps_lane cs)
  where
    here : (b : Bool) → option_map (λ d. d.number) (cond {A = Option Connection} b (Some (f c)) (connection_on lane cs)) ≡ option_map (λ d. d.number) (cond {A = Option Connection} b (Some c) (connection_on lane cs))
    here true = ap Some (keeps c)
    here false = refl

    there : (b : Bool) → number_on lane (changed n f cs) ≡ number_on lane cs
        → option_map (λ d. d.number) (cond {A = Option Connection} b (Some c) (connection_on lane (changed n f cs))) ≡ option_map (λ d. d.number) (cond {A = Option Connection} b (Some c) (connection_on lane cs))
    there true rest = refl
    there false rest = rest

    by : (b : Bool) → number_on lane (changed n f cs) ≡ number_on lane cs → number_on lane (cond {A = List Connection} b (f c ∷ cs) (c ∷ changed n f cs)) ≡ number_on lane (c ∷ cs)
    by true rest =
        subst (λ (k : ℕ). option_map (λ d. d.number) (cond {A = Option Connection} (k == lane) (Some (f c)) (connection_on lane cs)) ≡ number_on lane (c ∷ cs)) (sym (keeps_lane c))
        (here (c.lane == lane))
    by false rest = there (c.lane == lane) rest

elsewhere-without : (lane n : ℕ) (cs : List Connection) → AllElsewhere lane cs → AllElsewhere lane (connections_without n cs)
elsewhere-without lane n [] none = tt
elsewhere-without lane n (c ∷ cs) none = by (c.number == n) (elsewhere-without lane n cs none.1)
  where
    by : (b : Bool) → AllElsewhere lane (connections_without n cs) → AllElsewhere lane (cond {A = List Connection} (not b) (c ∷ connections_without n cs) (connections_without n cs))
    by true rest = rest
    by false rest = (none.0, rest)

alone-without : (n : ℕ) (cs : List Connection) → AreAlone cs → AreAlone (connections_without n cs)
alone-without n [] alone = tt
alone-without n (c ∷ cs) alone = by (c.number == n) (alone-without n cs alone.1)
  where
    by : (b : Bool) → AreAlone (connections_without n cs) → AreAlone (cond {A = List Connection} (not b) (c ∷ connections_without n cs) (connections_without n cs))
    by true rest = rest
    by false rest = (elsewhere-without c.lane n cs alone.0, rest)

-- nobody on a lane
on-none : (lane : ℕ) (cs : List Connection) → AllElsewhere lane cs → number_on lane cs ≡ None
on-none lane [] none = refl
on-none lane (c ∷ cs) none = let apart = differs c.lane lane none.0 in rw apart (on-none lane cs none.1)

pub none-on : (lane : ℕ) (cs : List Connection) → number_on lane cs ≡ None → AllElsewhere lane cs
none-on lane [] none = tt
none-on lane (c ∷ cs) none = by (c.lane == lane) refl none (none-on lane cs)
  where
    by : (b : Bool) → (c.lane == lane) ≡ b → option_map (λ d. d.number) (cond {A = Option Connection} b (Some c) (connection_on lane cs)) ≡ None → (number_on lane cs ≡ None → AllElsewhere lane cs) → AllElsewhere lane (c ∷ cs)
    by true e none rest = cc
    by false e none rest = (λ same. cc (e, equal lane, same), rest none)

elsewhere-added : (lane : ℕ) (c : Connection) (cs : List Connection) → c.lane ≢ lane → AllElsewhere lane cs → AllElsewhere lane (cs ++ c ∷ [])
elsewhere-added lane c [] apart none = (apart, tt)
elsewhere-added lane c (d ∷ cs) apart none = (none.0, elsewhere-added lane c cs apart none.1)

alone-added : (c : Connection) (cs : List Connection) → AllElsewhere c.lane cs → AreAlone cs → AreAlone (cs ++ c ∷ [])
alone-added c [] none alone = (tt, tt)
alone-added c (d ∷ cs) none alone = (elsewhere-added d.lane c cs (λ e. none.0 (sym e)) alone.0, alone-added c cs none.1 alone.1)

-- the last one has its lane, and on all others all is as before
on-added : (lane : ℕ) (c : Connection) (cs : List Connection) → AllElsewhere c.lane cs → number_on lane (cs ++ c ∷ []) ≡ cond (c.lane == lane) (Some c.number) (number_on lane cs)
on-added lane c [] none = by (c.lane == lane)
  where
    by : (b : Bool) → option_map (λ d. d.number) (cond {A = Option Connection} b (Some c) None) ≡ cond {A = Option ℕ} b (Some c.number) None
    by true = refl
    by false = refl
on-added lane c (d ∷ cs) none = by (d.lane == lane) refl (on-added lane c cs none.1)
  where
    by : (b : Bool) → (d.lane == lane) ≡ b → number_on lane (cs ++ c ∷ []) ≡ cond (c.lane == lane) (Some c.number) (number_on lane cs)
        → option_map (λ e. e.number) (cond {A = Option Connection} b (Some d) (connection_on lane (cs ++ c ∷ []))) ≡ cond (c.lane == lane) (Some c.number) (option_map (λ e. e.number) (cond {A = Option Connection} b (Some d) (connection_on lane cs)))
    by true e rest = let other = differs c.lane lane (λ same. none.0 (agrees d.lane lane e ∙ sym same)) in rw other refl
    by false e rest = rest

-- a connection that is found isn't on a lane where none is
found-elsewhere : (lane n : ℕ) (c : Connection) (cs : List Connection) → connection_of n cs ≡ Some c → AllElsewhere lane cs → c.lane ≢ lane
found-elsewhere lane n c [] found none = cc
found-elsewhere lane n c (d ∷ cs) found none = by (d.number == n) found (λ e. found-elsewhere lane n c cs e none.1)
  where
    by : (b : Bool) → cond {A = Option Connection} b (Some d) (connection_of n cs) ≡ Some c → (connection_of n cs ≡ Some c → c.lane ≢ lane) → c.lane ≢ lane
    by true found rest = let same : d ≡ c = cc in subst (λ (x : Connection). x.lane ≢ lane) same none.0
    by false found rest = rest found

-- behind its leaving nobody is on its lane, and on all others all is as before
on-without : (lane n : ℕ) (c : Connection) (cs : List Connection) → Rise cs → AreAlone cs → connection_of n cs ≡ Some c → number_on lane (connections_without n cs) ≡ cond (c.lane == lane) None (number_on lane cs)
on-without lane n c [] rise alone found = cc
on-without lane n c (d ∷ cs) rise alone found = by (d.number == n) refl found (λ e. on-without lane n c cs rise.1 alone.1 e)
  where
    here : (b : Bool) → (d.lane == lane) ≡ b → number_on lane cs ≡ cond {A = Option ℕ} b None (option_map (λ e. e.number) (cond {A = Option Connection} b (Some d) (connection_on lane cs)))
    here true e = on-none lane cs (subst (λ (k : ℕ). AllElsewhere k cs) (agrees d.lane lane e) alone.0)
    here false e = refl

    there : (a b : Bool) → (d.lane == lane) ≡ a → (c.lane == lane) ≡ b → c.lane ≢ d.lane → number_on lane (connections_without n cs) ≡ cond {A = Option ℕ} b None (number_on lane cs)
        → option_map (λ e. e.number) (cond {A = Option Connection} a (Some d) (connection_on lane (connections_without n cs))) ≡ cond {A = Option ℕ} b None (option_map (λ e. e.number) (cond {A = Option Connection} a (Some d) (connection_on lane cs)))
    there true true e f apart rest = absurd (apart (agrees c.lane lane f ∙ sym (agrees d.lane lane e)))
    there true false e f apart rest = refl
    there false b e f apart rest = rest

    by : (b : Bool) → (d.number == n) ≡ b → cond {A = Option Connection} b (Some d) (connection_of n cs) ≡ Some c
        → (connection_of n cs ≡ Some c → number_on lane (connections_without n cs) ≡ cond (c.lane == lane) None (number_on lane cs))
        → number_on lane (cond {A = List Connection} (not b) (d ∷ connections_without n cs) (connections_without n cs)) ≡ cond (c.lane == lane) None (number_on lane (d ∷ cs))
    by true e found rest =
        let same : d ≡ c = cc in
        let whole = (nowhere-above n cs (subst (λ (k : ℕ). AllAbove k cs) (agrees d.number n e) rise.0)).whole in
        subst (λ (x : Connection). number_on lane (connections_without n cs) ≡ cond (x.lane == lane) None (number_on lane (d ∷ cs))) same
        (ap (number_on lane) whole ∙ here (d.lane == lane) refl)
    by false e found rest = there (d.lane == lane) (c.lane == lane) refl refl (found-elsewhere d.lane n c cs found alone.0) (rest found)

-- nobody is left on a lane whose connection is taken out
pub left-none : (lane n : ℕ) (cs : List Connection) → Rise cs → AreAlone cs → number_on lane cs ≡ Some n → number_on lane (connections_without n cs) ≡ None
left-none lane n [] rise alone on = refl
left-none lane n (d ∷ cs) rise alone on = by (d.lane == lane) refl on (λ e. left-none lane n cs rise.1 alone.1 e)
  where
    other : (b : Bool) → (d.lane == lane) ≡ false → number_on lane (connections_without n cs) ≡ None → number_on lane (cond {A = List Connection} (not b) (d ∷ connections_without n cs) (connections_without n cs)) ≡ None
    other true e rest = rest
    other false e rest = rw e rest

    by : (b : Bool) → (d.lane == lane) ≡ b → option_map (λ c. c.number) (cond {A = Option Connection} b (Some d) (connection_on lane cs)) ≡ Some n
        → (number_on lane cs ≡ Some n → number_on lane (connections_without n cs) ≡ None) → number_on lane (connections_without n (d ∷ cs)) ≡ None
    by true e on rest =
        let number : d.number ≡ n = cc in
        let same : (d.number == n) ≡ true = subst (λ (k : ℕ). (d.number == k) ≡ true) number (equal d.number) in
        let whole = (nowhere-above n cs (subst (λ (k : ℕ). AllAbove k cs) number rise.0)).whole in
        rw same (ap (number_on lane) whole ∙ on-none lane cs (subst (λ (k : ℕ). AllElsewhere k cs) (agrees d.lane lane e) alone.0))
    by false e on rest = other (d.number == n) e (rest on)

-- ---- the whole

module _ {S : Type 0} (cs : List Connection) (lanes : HashMap ℕ ℕ S) (k : AreIndexed cs lanes) where
  pub indexed-changed : (n : ℕ) (f : Connection → Connection) (now : List Connection) → Keeps f → KeepsLane f → now ≡ changed n f cs → AreIndexed now lanes
  indexed-changed n f now keeps keeps_lane is = rw is (record {
    rise = rise-changed n f keeps cs k.rise;
    alone = alone-changed n f keeps_lane cs k.alone;
    table = λ lane. k.table lane ∙ sym (on-changed lane n f keeps keeps_lane cs);
  })

  pub indexed-added : (c : Connection) (now : List Connection) (after : HashMap ℕ ℕ S) → now ≡ cs ++ c ∷ [] → AreBelow c.number cs → number_on c.lane cs ≡ None → Updates nat_eq lanes after c.lane (Some c.number)
      → AreIndexed now after
  indexed-added c now after is below free updates =
      let none = none-on c.lane cs free in
      rw is (record {
        rise = rise-added c cs below k.rise;
        alone = alone-added c cs none k.alone;
        table = λ lane. updates.0 lane ∙ ap (cond (c.lane == lane) (Some c.number)) (k.table lane) ∙ sym (on-added lane c cs none);
      })

  indexed-without : (n : ℕ) (c : Connection) (now : List Connection) (after : HashMap ℕ ℕ S) → now ≡ connections_without n cs → connection_of n cs ≡ Some c → Updates nat_eq lanes after c.lane None → AreIndexed now after
  indexed-without n c now after is found updates = rw is (record {
    rise = rise-without n cs k.rise;
    alone = alone-without n cs k.alone;
    table = λ lane. updates.0 lane ∙ ap (cond {A = Option ℕ} (c.lane == lane) None) (k.table lane) ∙ sym (on-without lane n c cs k.rise k.alone found);
  })

  pub indexed-removed : (seen : List Connection) (n at : ℕ) (d : Connection) (now : List Connection) (after : HashMap ℕ ℕ S) → cs ≡ seen → ((c : Connection) × IsPlaceOf n seen at c) → d ≡ get_or cs at d → now ≡ remove cs at
      → Updates nat_eq lanes after d.lane None → AreIndexed now after
  indexed-removed seen n at d now after seen_is place item is updates =
      let same : d ≡ place.0 = item ∙ ap (λ (ds : List Connection). get_or ds at d) seen_is ∙ at-place seen at place.0 d place.1.here in
      indexed-without n d now after (is ∙ ap (λ (ds : List Connection). remove ds at) seen_is ∙ sym place.1.without_is ∙ ap (connections_without n) (sym seen_is))
      (ap (connection_of n) seen_is ∙ place.1.found ∙ ap Some (sym same)) updates

  -- one at a place was changed
  pub indexed-set : (seen : List Connection) (n at : ℕ) (f : Connection → Connection) (d : Connection) (now : List Connection) → cs ≡ seen → ((c : Connection) × IsPlaceOf n seen at c) → d ≡ get_or cs at d
      → Keeps f → KeepsLane f → now ≡ slice_set cs at (f d) → AreIndexed now lanes
  indexed-set seen n at f d now seen_is place item keeps keeps_lane is =
      let same : d ≡ place.0 = item ∙ ap (λ (ds : List Connection). get_or ds at d) seen_is ∙ at-place seen at place.0 d place.1.here in
      indexed-changed n f now keeps keeps_lane
      (is ∙ ap (λ (ds : List Connection). slice_set ds at (f d)) seen_is ∙ ap (λ (c : Connection). slice_set seen at (f c)) same ∙ sym (place.1.changed_is f) ∙ ap (changed n f) (sym seen_is))

-- the same of the lists that are seen
pub left-seen : {S : Type 0} (cs seen : List Connection) (lanes : HashMap ℕ ℕ S) → AreIndexed cs lanes → cs ≡ seen → (lane : ℕ) (found : Option ℕ) → found ≡ number_on lane seen → IfSome found (λ n. number_on lane (connections_without n seen) ≡ None)
left-seen cs seen lanes k is lane None found = tt
left-seen cs seen lanes k is lane (Some n) found = ap (λ (ds : List Connection). number_on lane (connections_without n ds)) (sym is) ∙ left-none lane n cs k.rise k.alone (ap (number_on lane) is ∙ sym found)

-- the list after one at a place was changed
pub set-changed : (cs seen : List Connection) (n at : ℕ) (f : Connection → Connection) (d : Connection) (now : List Connection) → cs ≡ seen → ((c : Connection) × IsPlaceOf n seen at c) → d ≡ get_or cs at d
    → now ≡ slice_set cs at (f d) → now ≡ changed n f seen
set-changed cs seen n at f d now seen_is place item is =
    let same : d ≡ place.0 = item ∙ ap (λ (ds : List Connection). get_or ds at d) seen_is ∙ at-place seen at place.0 d place.1.here in
    is ∙ ap (λ (ds : List Connection). slice_set ds at (f d)) seen_is ∙ ap (λ (c : Connection). slice_set seen at (f c)) same ∙ sym (place.1.changed_is f)

-- there is room at a place
pub room-at : (cs seen : List Connection) (n at octets : ℕ) (d : Connection) → cs ≡ seen → ((c : Connection) × IsPlaceOf n seen at c) → d ≡ get_or cs at d → sum d.outstanding + octets < 2 ^ 64
    → IsRoomFor octets (connection_of n seen)
room-at cs seen n at octets d seen_is place item room =
    let same : d ≡ place.0 = item ∙ ap (λ (ds : List Connection). get_or ds at d) seen_is ∙ at-place seen at place.0 d place.1.here in
    subst (IsRoomFor octets) (sym place.1.found) (subst (λ (c : Connection). sum c.outstanding + octets < 2 ^ 64) same room)

pub indexed-none : {S : Type 0} (cs : List Connection) (lanes : HashMap ℕ ℕ S) → cs ≡ [] → IsEmpty lanes → AreIndexed cs lanes
indexed-none cs lanes none empty = rw none (record { rise = tt; alone = tt; table = λ lane. rw empty refl })
