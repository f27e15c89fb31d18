-- However what comes on a lane is cut into pieces, the machine does the same.
use Rattle.std.proofs.Common.{◌≡◌, ◌==◌, ℕ, Bool, true, false, cond, List, [], ◌∷◌, ◌++◌, length, drop, Option, None, Some, refl, sym, ap, subst, ◌∙◌, inl, inr, append-nil}
use Rattle.std.specs.Option.{option_map, unwrap_or}
use Rattle.std.specs.List.{concat}
use Rattle.std.proofs.lemmas.Bool.Decides.{eqb_tells}
use Rattle.std.proofs.Math.Seq.{drop-length}
use Rattle.mj_base.specs.declared.event.Event.{Event}
use Rattle.mj_base.specs.declared.event.Note.{Note}
use Rattle.mj_base.specs.declared.event.Event.TheVariants as events
use Rattle.mj_base.specs.declared.event.Out.{Out}
use Rattle.mj_base.specs.declared.limits.Limits.{Limits}
use Rattle.mj_handshake.specs.ReadyGrammar.{ready_frame}
use Rattle.mj_handshake.specs.declared.socket_type.SocketType.TheVariants.{Router}
use Rattle.mj_wire.specs.StreamItems.{gained, stream_items}
use Rattle.mj_wire.specs.declared.item.WireItem.{WireItem}
use Rattle.mj_wire.specs.declared.item.WireItem.TheVariants as items
use Rattle.mj_machine.specs.declared.connection.Connection.{Connection}
use Rattle.mj_machine.specs.StoreState.{no_store, told_by}
use Rattle.mj_machine.specs.MachineState.{Machine, State, Stream, Whole, between, entered, start}
use Rattle.mj_machine.specs.Connections.{connection_of, connection_on, number_on}
use Rattle.mj_machine.specs.Acts.{Doing, behind, each, quiet, ◌then◌}
use Rattle.mj_machine.specs.DiskActs.{routed}
use Rattle.mj_machine.specs.Pairing.{settles}
use Rattle.mj_machine.specs.Sending.{sends_to}
use Rattle.mj_machine.specs.MessageStep.{said_in, says_by}
use Rattle.mj_machine.specs.EventStep.{Gains, Happening, Noted, Opens, effect, ends_by, fed, fed_by, gain_of, gains, happening, happens, item_step, longer, outs_of, state_after, stream_of}
use Rattle.mj_machine.specs.MachineRun.{plain, run_outs, run_state}
use Rattle.mj_machine.specs.Steps.{Cause, IsAllowed, Step, acts, step_of}
use Rattle.mj_machine.proofs.AbsentLemmas.{absent-happens, absent-opens}
use Rattle.mj_machine.proofs.ConnectionLemmas.{equal}
use Rattle.mj_machine.proofs.PieceLemmas.{gains-in-turn, pieces-gain}
use Rattle.mj_machine.proofs.RunLemmas.{run_outs-append, run_state-append}
use Rattle.mj_machine.proofs.SettlingLemmas.{settles-end, settles-none}
use Rattle.mj_machine.proofs.StepLemmas.{reads-effect}
use Rattle.mj_machine.proofs.StepWalk.{AnyLane, MayBegin, Of, kept-effect, stays-effect, walked-by}
use Rattle.mj_machine.proofs.StreamLemmas.{fed-nothing, fed-other, fed-same, fed-twice, found_stream, there-on}
use Rattle.mj_laws.specs.Cuts.{CutsChangeNothing, EndAlike, come_on}
use Rattle.mj_laws.specs.NobodyWaits.{BeginsSettled, IsSettled}
use Rattle.mj_laws.specs.Soundness.{IsSound}
use Rattle.mj_laws.proofs.AlikeLemmas.{AreAlike, SameStreams, alike-run, alike-then}
use Rattle.mj_laws.proofs.AloneLemmas.{IsAlone, Never, alone-kept, alone-number, alone-start}
use Rattle.mj_laws.proofs.SettledLemmas.{IsCalmly, pair-settled, settled-pair, settled-walked}
use Rattle.mj_laws.specs.Storeless.{IsStoreless}
use Rattle.mj_laws.proofs.StorelessLemmas.{idle-acts, storeless-run, storeless-start}
use Rattle.mj_laws.proofs.SoundLemmas.{sound-after, sound-start}

-- ---- settled states

settled-effect : (h : Happening) (w : Whole) → Of IsCalmly w → Of IsCalmly (effect h w).0
settled-effect h w settled =
    subst (Of IsCalmly) (reads-effect h w).state (stays-effect AnyLane (Of IsCalmly) (Of IsStoreless) BeginsSettled settled-walked h w (λ lane is. tt) settled).end

settled-happens : (h : Happening) (w : Whole) → IsSettled (happens h w).0.routing
settled-happens h w = settled-pair (happens h w).0.routing (settles-end (effect h w).0)

nothing-settles : (w : Whole) → IsSettled w.routing → settles w ≡ quiet w
nothing-settles w settled = settles-none w (pair-settled w.routing settled)

-- so settling adds nothing behind what happens
happens-settled : (h : Happening) (w : Whole) → Of IsCalmly w → happens h w ≡ effect h w
happens-settled h w calm =
    ap (λ (d : Doing Whole Out). behind (effect h w).1 d) (nothing-settles (effect h w).0 (settled-effect h w calm).1)
    ∙ ap (λ (xs : List Out). ((effect h w).0, xs)) (append-nil (effect h w).1)

-- ---- no act was made

record IsFresh (w : Whole) : Type 0 where
  pub none : IsStoreless w.routing w.store
  pub acts : w.acts ≡ 0
  pub notes : w.notes ≡ []

abbrev Any : Step → Type 0
Any t = Unit {0}

fresh-one : (cause : Cause) (w : Whole) → IsAllowed cause w.routing → MayBegin AnyLane cause w.routing → IsFresh w → Any (step_of cause w (acts cause w)) × IsFresh (acts cause w).0
fresh-one cause w allowed free p =
    let now = idle-acts cause w allowed p.none in (tt, record { none = (now.store, now.tickets); acts = now.acts ∙ p.acts; notes = now.notes ∙ p.notes })

fresh-effect : (h : Happening) (w : Whole) → IsFresh w → IsFresh (effect h w).0
fresh-effect h w p =
    subst IsFresh (reads-effect h w).state (stays-effect AnyLane IsFresh IsFresh Any (walked-by AnyLane IsFresh Any fresh-one) h w (λ lane is. tt) p).end

-- an event begins where the one before it ended
begins-there : (w : Whole) → IsFresh w → entered w.routing w.store [] ≡ w
begins-there w fresh =
    ap (λ (k : ℕ). record { routing = w.routing; store = w.store; acts = k; notes = [] }) (sym fresh.acts)
    ∙ ap (λ (notes : List Note). record { routing = w.routing; store = w.store; acts = w.acts; notes = notes }) (sym fresh.notes)

-- ---- items of a connection that isn't there

passed-item : (n : ℕ) (item : WireItem) (w : Whole) → connection_of n w.routing.connections ≡ None → IsSettled w.routing → item_step n item w ≡ quiet w
passed-item n items.Accepted w none settled = ap (λ (o : Option Connection). routed w (sends_to n (ready_frame Router) o (told_by w.store) w.routing)) none
passed-item n (items.Ready kind) w none settled = refl
passed-item n (items.Message message) w none settled =
    ap (λ (o : Option Connection). says_by n o (said_in message) w then settles) none ∙ ap (λ (d : Doing Whole Out). behind [] d) (nothing-settles w settled)
passed-item n (items.Ended reason at) w none settled = ap (λ (o : Option Connection). routed w (ends_by n o reason at (told_by w.store) w.routing)) none

passed-items : (n : ℕ) (gain : List WireItem) (w : Whole) → connection_of n w.routing.connections ≡ None → IsSettled w.routing → each (item_step n) gain w ≡ quiet w
passed-items n [] w none settled = refl
passed-items n (item ∷ gain) w none settled =
    ap (λ (d : Doing Whole Out). d then each (item_step n) gain) (passed-item n item w none settled)
    ∙ ap (λ (d : Doing Whole Out). behind [] d) (passed-items n gain w none settled)

-- ---- what holds between two events

-- each connection has a stream
abbrev HasStreams : Machine → Type 0
HasStreams m = (n : ℕ) → found_stream n m.streams ≡ None → connection_of n m.state.connections ≡ None

record IsReady (limits : Limits) (m : Machine) : Type 0 where
  pub sound : IsSound limits true m.state
  pub none : IsStoreless m.state m.store
  pub settled : IsSettled m.state
  pub streams : HasStreams m

ready-calm : (limits : Limits) (m : Machine) → IsReady limits m → Of IsCalmly (between m)
ready-calm limits m ready = (ready.none, ready.settled)

ready-fresh : (limits : Limits) (m : Machine) → IsReady limits m → IsFresh (between m)
ready-fresh limits m ready = record { none = ready.none; acts = refl; notes = refl }

fed-none : (o : Option ℕ) (piece : List ℕ) (n : ℕ) (streams : List Stream) → found_stream n (fed_by o piece streams) ≡ None → found_stream n streams ≡ None
fed-none None piece n streams none = none
fed-none (Some q) piece n streams none =
    elim (eqb_tells n q) [
      | inl same ↦ nowhere (found_stream n streams)
          (sym (fed-same n piece streams) ∙ subst (λ (x : ℕ). found_stream n (fed x piece streams) ≡ None) (sym same.1) none)
      | inr other ↦ sym (fed-other q n piece other.1 streams) ∙ none
    ]
  where
    nowhere : (found : Option Stream) → option_map (longer piece) found ≡ None → found ≡ None
    nowhere None e = refl
    nowhere (Some t) e = absurd (cc e)

streams-by : (limits : Limits) (m : Machine) (event : Event) (notes : List Note) → HasStreams m → HasStreams (state_after limits m (record { event = event; notes = notes }))
streams-by limits m (events.Open lane) notes has n none = by (m.state.next == n) refl none
  where
    by : (b : Bool) → (m.state.next == n) ≡ b → cond {A = Option Stream} b (Some (record { number = m.state.next; octets = [] })) (found_stream n m.streams) ≡ None
        → connection_of n (happens (Opens lane) (entered m.state m.store notes)).0.routing.connections ≡ None
    by true is found = absurd (cc found)
    by false is found =
        absent-opens lane (entered m.state m.store notes) n (λ same. cc (is, ap (λ (x : ℕ). m.state.next == x) same ∙ equal m.state.next)) (has n found)
streams-by limits m (events.Bytes lane piece) notes has n none =
    absent-happens (happening limits m (events.Bytes lane piece)) tt (entered m.state m.store notes) n (has n (fed-none (number_on lane m.state.connections) piece n m.streams none))
streams-by limits m (events.Sent lane) notes has n none = absent-happens (happening limits m (events.Sent lane)) tt (entered m.state m.store notes) n (has n none)
streams-by limits m (events.Close lane) notes has n none = absent-happens (happening limits m (events.Close lane)) tt (entered m.state m.store notes) n (has n none)
streams-by limits m (events.Tick ms) notes has n none = absent-happens (happening limits m (events.Tick ms)) tt (entered m.state m.store notes) n (has n none)
streams-by limits m events.Stop notes has n none = absent-happens (happening limits m events.Stop) tt (entered m.state m.store notes) n (has n none)

ready-start : (limits : Limits) → IsReady limits (start limits)
ready-start limits = record { sound = sound-start limits no_store; none = storeless-start limits; settled = tt; streams = λ n none. refl }

ready-after : (limits : Limits) (m : Machine) (e : Noted) → IsReady limits m → IsReady limits (state_after limits m e)
ready-after limits m e ready = record {
  sound = sound-after limits m e ready.sound;
  none = (storeless-run limits m (e ∷ []) ready.none).1;
  settled = settled-happens (happening limits m e.event) (entered m.state m.store e.notes);
  streams = streams-by limits m e.event e.notes ready.streams;
}

ready-run : (limits : Limits) (m : Machine) (front : List Noted) → IsReady limits m → IsReady limits (run_state limits m front)
ready-run limits m [] ready = ready
ready-run limits m (e ∷ front) ready = ready-run limits (state_after limits m e) front (ready-after limits m e ready)

-- ---- two pieces

module _ (limits : Limits) (lane : ℕ) (first second : List ℕ) (w : Whole) (streams : List Stream) where
  abbrev s : State
  s = w.routing

  -- what the pieces do, where the lane's connection is o: both in one, the first, and the second behind it
  abbrev All : Option ℕ → Doing Whole Out
  All o = gains o (gain_of limits o (first ++ second) streams) w

  abbrev First : Option ℕ → Doing Whole Out
  First o = gains o (gain_of limits o first streams) w

  abbrev Second : Doing Whole Out → List Stream → Option ℕ → Doing Whole Out
  Second d fed_streams o = gains o (gain_of limits o second fed_streams) d.0

  -- of these streams, where the lane's connection is o, and q behind the first piece
  record Joins (o q : Option ℕ) : Type 0 where
    pub state : (Second (First o) (fed_by o first streams) q).0 ≡ (All o).0
    pub outs : (First o).1 ++ (Second (First o) (fed_by o first streams) q).1 ≡ (All o).1
    pub same : SameStreams (Second (First o) (fed_by o first streams) q).0.routing (fed_by q second (fed_by o first streams)) (fed_by o (first ++ second) streams)

  -- nobody is on the lane
  joins-none : Joins None None
  joins-none = record { state = refl; outs = refl; same = λ n. inr refl }

  module _ (n : ℕ) (on : number_on lane s.connections ≡ Some n) (alone : IsAlone lane n s.connections) (calm : Of IsCalmly w) (stream : Stream)
      (has : found_stream n streams ≡ Some stream) where
    -- the items of the second piece
    abbrev Rest : List WireItem
    Rest = gained limits (stream.octets ++ first) second

    abbrev Now : Doing Whole Out
    Now = First (Some n)

    stream-is : stream_of n streams ≡ stream.octets
    stream-is = ap (λ (o : Option Stream). unwrap_or (option_map (λ t. t.octets) o) []) has

    longer-is : stream_of n (fed n first streams) ≡ stream.octets ++ first
    longer-is = ap (λ (o : Option Stream). unwrap_or (option_map (λ t. t.octets) o) []) (fed-same n first streams ∙ ap (λ (o : Option Stream). option_map (longer first) o) has)

    -- the items of both pieces are those of the first, and then these
    all-is : All (Some n) ≡ (Now then gains (Some n) Rest)
    all-is =
        ap (λ (gain : List WireItem). gains (Some n) gain w)
        (pieces-gain limits (stream_of n streams) first second
        ∙ ap (λ (octets : List ℕ). gained limits (stream_of n streams) first ++ gained limits (octets ++ first) second) stream-is)
        ∙ gains-in-turn (Some n) (gained limits (stream_of n streams) first) Rest w

    second-is : Second Now (fed n first streams) (Some n) ≡ gains (Some n) Rest Now.0
    second-is = ap (λ (octets : List ℕ). gains (Some n) (gained limits octets second) Now.0) longer-is

    first-is : effect (Gains lane (gain_of limits (Some n) first streams)) w ≡ Now
    first-is = ap (λ (o : Option ℕ). gains o (gain_of limits (Some n) first streams) w) on

    still-alone : IsAlone lane n Now.0.routing.connections
    still-alone =
        subst (λ (d : Doing Whole Out). IsAlone lane n d.0.routing.connections) first-is
        (kept-effect Never (λ t. IsAlone lane n t.connections) (alone-kept lane n) (Gains lane (gain_of limits (Some n) first streams)) w (λ other is. cc is) alone)

    still-settled : IsSettled Now.0.routing
    still-settled = subst (λ (d : Doing Whole Out). IsSettled d.0.routing) first-is (settled-effect (Gains lane (gain_of limits (Some n) first streams)) w calm).1

    -- the connection is there still
    joins-on : Joins (Some n) (Some n)
    joins-on = record {
      state = ap (λ (d : Doing Whole Out). d.0) second-is ∙ sym (ap (λ (d : Doing Whole Out). d.0) all-is);
      outs = ap (λ (d : Doing Whole Out). Now.1 ++ d.1) second-is ∙ sym (ap (λ (d : Doing Whole Out). d.1) all-is);
      same = λ q. inr (ap (λ (ts : List Stream). found_stream q ts) (fed-twice n first second streams));
    }

    -- it left at the first piece
    joins-left : connection_of n Now.0.routing.connections ≡ None → Joins (Some n) None
    joins-left none =
        let passed : gains (Some n) Rest Now.0 ≡ quiet Now.0 = passed-items n Rest Now.0 none still-settled in
        let whole : All (Some n) ≡ (Now.0, Now.1 ++ []) = all-is ∙ ap (λ (d : Doing Whole Out). (d.0, Now.1 ++ d.1)) passed in record {
          state = sym (ap (λ (d : Doing Whole Out). d.0) whole);
          outs = sym (ap (λ (d : Doing Whole Out). d.1) whole);
          same = λ q. elim (eqb_tells q n) [
            | inl same ↦ inl (ap (λ (x : ℕ). connection_of x Now.0.routing.connections) same.1 ∙ none)
            | inr other ↦ inr (fed-other n q first other.1 streams ∙ sym (fed-other n q (first ++ second) other.1 streams))
          ];
        }

    joins-some : Joins (Some n) (number_on lane Now.0.routing.connections)
    joins-some = by (connection_of n Now.0.routing.connections) refl
      where
        by : (found : Option Connection) → connection_of n Now.0.routing.connections ≡ found → Joins (Some n) (number_on lane Now.0.routing.connections)
        by None none = subst (Joins (Some n)) (sym (alone-number lane n Now.0.routing.connections None still-alone none)) (joins-left none)
        by (Some c) some = subst (Joins (Some n)) (sym (alone-number lane n Now.0.routing.connections (Some c) still-alone some)) joins-on

module _ (limits : Limits) (lane : ℕ) (first second : List ℕ) (m : Machine) (ready : IsReady limits m) where
  abbrev W : Whole
  W = between m

  abbrev JoinsAt : Option ℕ → Type 0
  JoinsAt o = Joins limits lane first second W m.streams o (number_on lane (First limits lane first second W m.streams o).0.routing.connections)

  joins-found : (n : ℕ) → number_on lane m.state.connections ≡ Some n → (c : Option Connection) → connection_on lane m.state.connections ≡ c → option_map (λ d. d.number) c ≡ Some n
      → (t : Option Stream) → found_stream n m.streams ≡ t → JoinsAt (Some n)
  joins-found n on None is number t has = absurd (cc number)
  joins-found n on (Some c) is number None has = absurd (there-on lane n m.state.connections on (ready.streams n has))
  joins-found n on (Some c) is number (Some stream) has =
      joins-some limits lane first second W m.streams n on
      (subst (λ (x : ℕ). IsAlone lane x m.state.connections) (same-number c number) (alone-start lane m.state.connections c ready.sound.lanes ready.sound.numbers.1 is)) (ready-calm limits m ready) stream has
    where
      same-number : (d : Connection) → Some d.number ≡ Some n → d.number ≡ n
      same-number d e = cc e

  joins : (o : Option ℕ) → number_on lane m.state.connections ≡ o → JoinsAt o
  joins None none = subst (Joins limits lane first second W m.streams None) (sym none) (joins-none limits lane first second W m.streams)
  joins (Some n) on = joins-found n on (connection_on lane m.state.connections) refl on (found_stream n m.streams) refl

  abbrev Lane : Option ℕ
  Lane = number_on lane m.state.connections

  abbrev Bytes : List ℕ → Noted
  Bytes piece = plain (events.Bytes lane piece)

  -- the machine behind the first piece, which does this
  abbrev Behind : Doing Whole Out → Machine
  Behind d = record { state = d.0.routing; store = d.0.store; streams = fed_by Lane first m.streams }

  abbrev IsJoined : Doing Whole Out → Type 0
  IsJoined d = AreAlike (state_after limits (Behind d) (Bytes second)) (state_after limits m (Bytes (first ++ second))) × (d.1 ++ outs_of limits (Behind d) (Bytes second) ≡ outs_of limits m (Bytes (first ++ second)))

  is-joined : IsJoined (First limits lane first second W m.streams Lane)
  is-joined =
      let d = First limits lane first second W m.streams Lane in
      let joined = joins Lane refl in
      let calm : Of IsCalmly d.0 = settled-effect (happening limits m (events.Bytes lane first)) W (ready-calm limits m ready) in
      let fresh : IsFresh d.0 = fresh-effect (happening limits m (events.Bytes lane first)) W (ready-fresh limits m ready) in
      let q = number_on lane d.0.routing.connections in
      let more = gain_of limits q second (fed_by Lane first m.streams) in
      let last : happens (happening limits (Behind d) (events.Bytes lane second)) (between (Behind d)) ≡ gains q more d.0 =
      happens-settled (happening limits (Behind d) (events.Bytes lane second)) (between (Behind d)) calm ∙ ap (λ (v : Whole). gains q more v) (begins-there d.0 fresh) in
      let whole = happens-settled (happening limits m (events.Bytes lane (first ++ second))) W (ready-calm limits m ready) in
      let state = ap (λ (x : Doing Whole Out). x.0) last ∙ joined.state ∙ sym (ap (λ (x : Doing Whole Out). x.0) whole) in (
        record {
          state = ap (λ (v : Whole). v.routing) state;
          store = ap (λ (v : Whole). v.store) state;
          streams = subst (λ (x : Doing Whole Out). SameStreams x.0.routing (fed_by q second (fed_by Lane first m.streams)) (fed_by Lane (first ++ second) m.streams)) (sym last) joined.same;
        },
        ap (λ (x : Doing Whole Out). d.1 ++ x.1) last ∙ joined.outs ∙ sym (ap (λ (x : Doing Whole Out). x.1) whole),
      )

  two-pieces : IsJoined (happens (happening limits m (events.Bytes lane first)) W)
  two-pieces = subst IsJoined (sym (happens-settled (happening limits m (events.Bytes lane first)) W (ready-calm limits m ready))) is-joined

-- ---- any pieces

-- no piece
no-gain : (limits : Limits) (o : Option ℕ) (streams : List Stream) → gain_of limits o [] streams ≡ []
no-gain limits None streams = refl
no-gain limits (Some n) streams =
    ap (λ (octets : List ℕ). drop (length (stream_items limits (stream_of n streams))) (stream_items limits octets)) (append-nil (stream_of n streams))
    ∙ drop-length (stream_items limits (stream_of n streams))

nothing-gained : (o : Option ℕ) (w : Whole) → gains o [] w ≡ quiet w
nothing-gained None w = refl
nothing-gained (Some n) w = refl

nothing-fed : (o : Option ℕ) (streams : List Stream) → streams ≡ fed_by o [] streams
nothing-fed None streams = refl
nothing-fed (Some n) streams = sym (fed-nothing n streams)

no-piece : (limits : Limits) (lane : ℕ) (m : Machine) → IsReady limits m
    → AreAlike m (state_after limits m (plain (events.Bytes lane []))) × ([] ≡ outs_of limits m (plain (events.Bytes lane [])))
no-piece limits lane m ready =
    let o = number_on lane m.state.connections in
    let nothing : happens (happening limits m (events.Bytes lane [])) (between m) ≡ quiet (between m) =
    happens-settled (happening limits m (events.Bytes lane [])) (between m) (ready-calm limits m ready)
    ∙ ap (λ (gain : List WireItem). gains o gain (between m)) (no-gain limits o m.streams) ∙ nothing-gained o (between m) in (
      record {
        state = sym (ap (λ (d : Doing Whole Out). d.0.routing) nothing);
        store = sym (ap (λ (d : Doing Whole Out). d.0.store) nothing);
        streams = λ n. inr (ap (λ (ts : List Stream). found_stream n ts) (nothing-fed o m.streams));
      },
      sym (ap (λ (d : Doing Whole Out). d.1) nothing),
    )

-- pieces behind each other do what the one does that has all their bytes
as-one : (limits : Limits) (lane : ℕ) (pieces : List (List ℕ)) (m : Machine) → IsReady limits m
    → AreAlike (run_state limits m (come_on lane pieces)) (state_after limits m (plain (events.Bytes lane (concat pieces))))
    × (run_outs limits m (come_on lane pieces) ≡ outs_of limits m (plain (events.Bytes lane (concat pieces))))
as-one limits lane [] m ready = no-piece limits lane m ready
as-one limits lane (piece ∷ pieces) m ready =
    let now = plain (events.Bytes lane piece) in
    let rest_of = plain (events.Bytes lane (concat pieces)) in
    let k = state_after limits m now in
    let rest = as-one limits lane pieces k (ready-after limits m now ready) in
    let joined = two-pieces limits lane piece (concat pieces) m ready in (
      alike-then (run_state limits k (come_on lane pieces)) (state_after limits k rest_of) (state_after limits m (plain (events.Bytes lane (piece ++ concat pieces)))) rest.0 joined.0,
      ap (λ (xs : List Out). outs_of limits m now ++ xs) rest.1 ∙ joined.1,
    )

-- the run with the pieces is the run with the one
run-as-one : (limits : Limits) (before behind : List Noted) (lane : ℕ) (pieces : List (List ℕ))
    → EndAlike limits (before ++ (come_on lane pieces ++ behind)) (before ++ (plain (events.Bytes lane (concat pieces)) ∷ behind))
run-as-one limits before behind lane pieces =
    let m = run_state limits (start limits) before in
    let one = plain (events.Bytes lane (concat pieces)) in
    let joined = as-one limits lane pieces m (ready-run limits (start limits) before (ready-start limits)) in
    let rest = alike-run limits (run_state limits m (come_on lane pieces)) (state_after limits m one) behind joined.0 in
    record {
      outs = run_outs-append limits (start limits) before (come_on lane pieces ++ behind)
          ∙ ap (λ (xs : List Out). run_outs limits (start limits) before ++ xs)
          (run_outs-append limits m (come_on lane pieces) behind ∙ ap (λ (xs : List Out). xs ++ run_outs limits (run_state limits m (come_on lane pieces)) behind) joined.1
          ∙ ap (λ (xs : List Out). outs_of limits m one ++ xs) rest.0)
          ∙ sym (run_outs-append limits (start limits) before (one ∷ behind));
      state = ap (λ (k : Machine). k.state) (run_state-append limits (start limits) before (come_on lane pieces ++ behind) ∙ run_state-append limits m (come_on lane pieces) behind)
          ∙ rest.1 ∙ sym (ap (λ (k : Machine). k.state) (run_state-append limits (start limits) before (one ∷ behind)));
    }

pub cuts_change_nothing : (limits : Limits) → CutsChangeNothing limits
cuts_change_nothing limits before behind lane pieces others same =
    let one = run-as-one limits before behind lane pieces in
    let other = run-as-one limits before behind lane others in
    let whole = λ (octets : List ℕ). before ++ (plain (events.Bytes lane octets) ∷ behind) in
    record {
      outs = one.outs ∙ ap (λ (octets : List ℕ). run_outs limits (start limits) (whole octets)) same ∙ sym other.outs;
      state = one.state ∙ ap (λ (octets : List ℕ). (run_state limits (start limits) (whole octets)).state) same ∙ sym other.state;
    }
