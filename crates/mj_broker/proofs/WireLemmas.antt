-- Readers of streams: where they stand, fed, added and dropped.
use Rattle.std.proofs.Common.{◌≡◌, ◌≢◌, ◌⊎◌, ◌+◌, ◌<◌, ◌≤◌, ◌==◌, ◌++◌, ℕ, Bool, true, false, cond, List, [], ◌∷◌, length, get_or, take, slice_set, is_some, Option, None, Some, IfSome, refl, sym, ap, subst, ◌∙◌, inl, inr, add-one}
use Rattle.std.proofs.Math.Seq.{take-suc}
use Rattle.std.proofs.lemmas.List.{take_all}
use Rattle.std.specs.Option.{option_map, unwrap_or}
use Rattle.std.specs.List.{find, position}
use Rattle.std.proofs.lemmas.Bool.Decides.{eqb_tells}
use Rattle.std.proofs.lemmas.Option.{get_or_from_slice_get}
use Rattle.mj_base.specs.declared.limits.Limits.{Limits}
use Rattle.mj_wire.specs.SmallItems.{AddsSmall, AreSmallItems}
use Rattle.mj_wire.specs.StreamItems.{gained}
use Rattle.mj_wire.specs.WireState.{State as WireValue}
use Rattle.mj_wire.specs.WireState.{StandsFor}
use Rattle.mj_wire.specs.declared.item.WireItem.{WireItem}
use Rattle.mj_machine.specs.declared.connection.Connection.{Connection}
use Rattle.mj_machine.specs.MachineState.{Stream}
use Rattle.mj_machine.specs.Connections.{connection_of}
use Rattle.mj_machine.specs.EventStep.{fed, longer, stream_of}
use Rattle.mj_machine.proofs.ConnectionLemmas.{agrees, differs, equal}
use Rattle.mj_machine.proofs.StreamLemmas.{fed-other, fed-same}
use Rattle.mj_broker.specs.Keyed.{IsPlaceIn}
use Rattle.mj_broker.proofs.KeyedLemmas.{place-in}
use Rattle.mj_broker.specs.declared.wires.Link.{Link}
use Rattle.mj_broker.specs.Wires.{AreFresh, AreLimited, IsLinkAt, MayBeFed, SameLimits, SameNumbers, WireStands, WiresStand, kept_links, rewired, stream_found, wire_of}

abbrev test : ℕ → Link → Bool
test n l = l.number == n

-- ---- the place of a reader

link-of : (n : ℕ) (ls : List Link) (place : Option ℕ) → IsPlaceIn (λ l. l.number) n ls place → IsLinkAt n ls place
link-of n ls None is = ap (option_map (λ (l : Link). l.wire)) is.none
link-of n ls (Some at) is =
    (is.0, record { here = is.1.here; found = ap (option_map (λ (l : Link). l.wire)) is.1.found; rewired_is = λ wire. is.1.changed_is (λ l. record l { wire = wire }) })

pub link-place : (n : ℕ) (ls : List Link) → IsLinkAt n ls (position (test n) ls)
link-place n ls = link-of n ls _ (place-in (λ l. l.number) n ls)

-- the reader at that place, and the list with another one there
pub record IsFed (n : ℕ) (ls : List Link) (at : ℕ) (l : Link) : Type 0 where
  pub old : wire_of n ls ≡ Some l.wire
  pub now : (wire : WireValue) → slice_set ls at (record { number = l.number; wire = wire }) ≡ rewired n wire ls

pub link-fed : (n : ℕ) (ls slice : List Link) (place : Option ℕ) (at : ℕ) (l : Link) → slice ≡ ls → IsLinkAt n slice place → place ≡ Some at → l ≡ get_or ls at l → IsFed n ls at l
link-fed n ls slice place at l same is found read =
    let there : IsLinkAt n ls (Some at) = subst (λ (o : Option ℕ). IsLinkAt n ls o) found (subst (λ (xs : List Link). IsLinkAt n xs place) same is) in
    let it : there.0 ≡ l = sym (get_or_from_slice_get ls at there.0 l there.1.here) ∙ sym read in
    subst (λ (k : Link). IsFed n ls at k) it (record { old = there.1.found; now = λ wire. sym (there.1.rewired_is wire) })

-- ---- one reader changed

rewired-same : (n : ℕ) (wire : WireValue) (ls : List Link) → wire_of n (rewired n wire ls) ≡ option_map (λ _. wire) (wire_of n ls)
rewired-same n wire [] = refl
rewired-same n wire (l ∷ ls) = by (l.number == n) refl (rewired-same n wire ls)
  where
    by : (b : Bool) → (l.number == n) ≡ b → wire_of n (rewired n wire ls) ≡ option_map (λ _. wire) (wire_of n ls)
        → wire_of n (cond {A = List Link} b (record l { wire = wire } ∷ ls) (l ∷ rewired n wire ls)) ≡ option_map (λ _. wire) (option_map (λ k. k.wire) (cond {A = Option Link} b (Some l) (find (test n) ls)))
    by true e rest = rw e refl
    by false e rest = rw e rest

rewired-other : (n q : ℕ) (wire : WireValue) → q ≢ n → (ls : List Link) → wire_of q (rewired n wire ls) ≡ wire_of q ls
rewired-other n q wire apart [] = refl
rewired-other n q wire apart (l ∷ ls) = by (l.number == n) refl (rewired-other n q wire apart ls)
  where
    by : (b : Bool) → (l.number == n) ≡ b → wire_of q (rewired n wire ls) ≡ wire_of q ls → wire_of q (cond {A = List Link} b (record l { wire = wire } ∷ ls) (l ∷ rewired n wire ls)) ≡ wire_of q (l ∷ ls)
    by true e rest =
        let no : (l.number == q) ≡ false = differs l.number q (λ same. apart (sym same ∙ agrees l.number n e)) in
        rw no refl
    by false e rest = else (l.number == q)
      where
        else : (b : Bool) → option_map (λ k. k.wire) (cond {A = Option Link} b (Some l) (find (test q) (rewired n wire ls))) ≡ option_map (λ k. k.wire) (cond {A = Option Link} b (Some l) (find (test q) ls))
        else true = refl
        else false = rest

-- ---- a reader fed

-- what `Wire::feed` says of a wire and its stream
abbrev pub Feeds : WireValue → WireValue → List ℕ → Type 0
Feeds old new piece = (limits : Limits) (stream : List ℕ) → StandsFor limits old stream → StandsFor limits new (stream ++ piece)

fed-stands : (limits : Limits) (old new : WireValue) (piece : List ℕ) (found : Option Stream) → Feeds old new piece → WireStands limits (Some old) found → WireStands limits (Some new) (option_map (longer piece) found)
fed-stands limits old new piece None feeds stands = stands
fed-stands limits old new piece (Some stream) feeds stands = feeds limits stream.octets stands

pub wires-fed : (n : ℕ) (old new : WireValue) (piece : List ℕ) (ls now : List Link) → wire_of n ls ≡ Some old → now ≡ rewired n new ls → Feeds old new piece
    → (limits : Limits) (streams : List Stream) → WiresStand limits ls streams → WiresStand limits now (fed n piece streams)
wires-fed n old new piece ls now old_is now_is feeds = λ limits streams stands q. subst (λ (xs : List Link). WireStands limits (wire_of q xs) (stream_found q (fed n piece streams))) (sym now_is) (at limits streams stands q (eqb_tells n q))
  where
    here : (limits : Limits) (streams : List Stream) → WiresStand limits ls streams → WireStands limits (wire_of n (rewired n new ls)) (stream_found n (fed n piece streams))
    here limits streams stands =
        rw (rewired-same n new ls) (rw old_is (rw (fed-same n piece streams) (fed-stands limits old new piece (stream_found n streams) feeds (subst (λ (w : Option WireValue). WireStands limits w (stream_found n streams)) old_is (stands n)))))

    at : (limits : Limits) (streams : List Stream) → WiresStand limits ls streams → (q : ℕ) → ((n == q) ≡ true × (n ≡ q)) ⊎ ((n == q) ≡ false × (n ≢ q)) → WireStands limits (wire_of q (rewired n new ls)) (stream_found q (fed n piece streams))
    at limits streams stands q (inl agree) = subst (λ (k : ℕ). WireStands limits (wire_of k (rewired n new ls)) (stream_found k (fed n piece streams))) agree.1 (here limits streams stands)
    at limits streams stands q (inr apart) = rw (rewired-other n q new (λ e. apart.1 (sym e)) ls) (rw (fed-other n q piece (λ e. apart.1 (sym e)) streams) (stands q))

-- what `Wire::feed` gives
abbrev pub Gives : WireValue → List ℕ → List WireItem → Type 0
Gives old piece items = (limits : Limits) (stream : List ℕ) → StandsFor limits old stream → items ≡ gained limits stream piece

pub wires-gained : (n : ℕ) (old : WireValue) (piece : List ℕ) (ls : List Link) (items : List WireItem) → wire_of n ls ≡ Some old → Gives old piece items
    → (limits : Limits) (streams : List Stream) → WiresStand limits ls streams → items ≡ gained limits (stream_of n streams) piece
wires-gained n old piece ls items old_is gives = λ limits streams stands.
    of limits (stream_found n streams) (subst (λ (w : Option WireValue). WireStands limits w (stream_found n streams)) old_is (stands n))
  where
    of : (limits : Limits) (found : Option Stream) → WireStands limits (Some old) found → items ≡ gained limits (unwrap_or (option_map (λ t. t.octets) found) []) piece
    of limits None stands = absurd stands
    of limits (Some stream) stands = gives limits stream.octets stands

pub fresh-fed : (n : ℕ) (old new : WireValue) (ls now : List Link) → wire_of n ls ≡ Some old → now ≡ rewired n new ls → new.spent ≡ false → AreFresh ls → AreFresh now
fresh-fed n old new ls now old_is now_is ready fresh = λ q. subst (λ (xs : List Link). MayBeFed (wire_of q xs)) (sym now_is) (at q (eqb_tells n q))
  where
    at : (q : ℕ) → ((n == q) ≡ true × (n ≡ q)) ⊎ ((n == q) ≡ false × (n ≢ q)) → MayBeFed (wire_of q (rewired n new ls))
    at q (inl agree) = subst (λ (k : ℕ). MayBeFed (wire_of k (rewired n new ls))) agree.1 (rw (rewired-same n new ls) (rw old_is ready))
    at q (inr apart) = rw (rewired-other n q new (λ e. apart.1 (sym e)) ls) (fresh q)

pub numbers-fed : (n : ℕ) (new : WireValue) (ls now : List Link) → now ≡ rewired n new ls → SameNumbers ls now
numbers-fed n new ls now now_is = λ q gone. at q (eqb_tells n q) (subst (λ (xs : List Link). wire_of q xs ≡ None) now_is gone)
  where
    nothing : (found : Option WireValue) → option_map (λ _. new) found ≡ None → found ≡ None
    nothing None e = refl
    nothing (Some w) e = cc

    at : (q : ℕ) → ((n == q) ≡ true × (n ≡ q)) ⊎ ((n == q) ≡ false × (n ≢ q)) → wire_of q (rewired n new ls) ≡ None → wire_of q ls ≡ None
    at q (inl agree) = subst (λ (k : ℕ). wire_of k (rewired n new ls) ≡ None → wire_of k ls ≡ None) agree.1 (λ e. nothing (wire_of n ls) (sym (rewired-same n new ls) ∙ e))
    at q (inr apart) = λ e. sym (rewired-other n q new (λ same. apart.1 (sym same)) ls) ∙ e

-- ---- readers of connections that are there

pub kept-wire : (cs : List Connection) (ls : List Link) (q : ℕ) → wire_of q (kept_links cs ls) ≡ cond (is_some (connection_of q cs)) (wire_of q ls) None
kept-wire cs [] q = nothing (is_some (connection_of q cs))
  where
    nothing : (b : Bool) → None ≡ cond {A = Option WireValue} b None None
    nothing true = refl
    nothing false = refl
kept-wire cs (l ∷ ls) q = by (l.number == q) refl (kept-wire cs ls q)
  where
    here : (b : Bool) → is_some (connection_of q cs) ≡ b → l.number ≡ q → wire_of q (kept_links cs ls) ≡ cond (is_some (connection_of q cs)) (wire_of q ls) None
        → wire_of q (cond {A = List Link} b (l ∷ kept_links cs ls) (kept_links cs ls)) ≡ cond b (Some l.wire) None
    here true e same rest = rw same (rw (equal q) refl)
    here false e same rest = rest ∙ ap (λ (b : Bool). cond b (wire_of q ls) None) e

    there : (b : Bool) → (l.number == q) ≡ false → wire_of q (kept_links cs ls) ≡ cond (is_some (connection_of q cs)) (wire_of q ls) None
        → wire_of q (cond {A = List Link} b (l ∷ kept_links cs ls) (kept_links cs ls)) ≡ cond (is_some (connection_of q cs)) (wire_of q ls) None
    there true e rest = rw e rest
    there false e rest = rest

    by : (b : Bool) → (l.number == q) ≡ b → wire_of q (kept_links cs ls) ≡ cond (is_some (connection_of q cs)) (wire_of q ls) None
        → wire_of q (kept_links cs (l ∷ ls)) ≡ cond (is_some (connection_of q cs)) (option_map (λ k. k.wire) (cond {A = Option Link} b (Some l) (find (test q) ls))) None
    by true e rest =
        let same = agrees l.number q e in
        subst (λ (k : ℕ). wire_of q (cond {A = List Link} (is_some (connection_of k cs)) (l ∷ kept_links cs ls) (kept_links cs ls)) ≡ cond (is_some (connection_of q cs)) (Some l.wire) None) (sym same)
        (here (is_some (connection_of q cs)) refl same rest)
    by false e rest = there (is_some (connection_of l.number cs)) e rest

kept-or-none : (b : Bool) (limits : Limits) (wire : Option WireValue) (found : Option Stream) → WireStands limits wire found → WireStands limits (cond {A = Option WireValue} b wire None) found
kept-or-none true limits wire found stands = stands
kept-or-none false limits wire found stands = tt

pub wires-kept : (cs : List Connection) (ls : List Link) (limits : Limits) (streams : List Stream) → WiresStand limits ls streams → WiresStand limits (kept_links cs ls) streams
wires-kept cs ls limits streams stands = λ q. rw (kept-wire cs ls q) (kept-or-none (is_some (connection_of q cs)) limits (wire_of q ls) (stream_found q streams) (stands q))

pub fresh-kept : (cs : List Connection) (ls : List Link) → AreFresh ls → AreFresh (kept_links cs ls)
fresh-kept cs ls fresh = λ q. rw (kept-wire cs ls q) (of (is_some (connection_of q cs)) q)
  where
    of : (b : Bool) (q : ℕ) → MayBeFed (cond {A = Option WireValue} b (wire_of q ls) None)
    of true q = fresh q
    of false q = tt

-- ---- readers that are all there

kept-append : (cs : List Connection) (xs ys : List Link) → kept_links cs (xs ++ ys) ≡ kept_links cs xs ++ kept_links cs ys
kept-append cs [] ys = refl
kept-append cs (x ∷ xs) ys = by (is_some (connection_of x.number cs)) (kept-append cs xs ys)
  where
    by : (b : Bool) → kept_links cs (xs ++ ys) ≡ kept_links cs xs ++ kept_links cs ys
        → cond b (x ∷ kept_links cs (xs ++ ys)) (kept_links cs (xs ++ ys)) ≡ cond b (x ∷ kept_links cs xs) (kept_links cs xs) ++ kept_links cs ys
    by true rest = ap (λ (ls : List Link). x ∷ ls) rest
    by false rest = rest

-- one more that is there
pub kept-more : (cs : List Connection) (ls : List Link) (i : ℕ) (x : Link) → i < length ls → x ≡ get_or ls i x → is_some (connection_of x.number cs) ≡ true
    → kept_links cs (take i ls) ≡ take i ls → kept_links cs (take (i + 1) ls) ≡ take (i + 1) ls
kept-more cs ls i x inside is there before =
    let next : take (i + 1) ls ≡ take i ls ++ x ∷ [] =
    rw add-one (take-suc ls i x inside) ∙ ap (λ (y : Link). take i ls ++ y ∷ []) (sym is) in
    let alone : kept_links cs (x ∷ []) ≡ x ∷ [] = rw there refl in
    ap (kept_links cs) next ∙ kept-append cs (take i ls) (x ∷ []) ∙ ap (λ (ks : List Link). ks ++ kept_links cs (x ∷ [])) before ∙ ap (λ (ks : List Link). take i ls ++ ks) alone ∙ sym next

pub kept-whole : (cs : List Connection) (ls : List Link) (i : ℕ) → length ls ≤ i → kept_links cs (take i ls) ≡ take i ls → kept_links cs ls ≡ ls
kept-whole cs ls i over before = subst (λ (ks : List Link). kept_links cs ks ≡ ks) (take_all i ls over) before

-- ---- limits

some-limits : (limits : Limits) (found : Option WireValue) (w : WireValue) → found ≡ Some w → IfSome found (λ v. v.limits ≡ limits) → w.limits ≡ limits
some-limits limits found w is holds = subst (λ (o : Option WireValue). IfSome o (λ v. v.limits ≡ limits)) is holds

pub limits-fed : (n : ℕ) (old new : WireValue) (ls now : List Link) → wire_of n ls ≡ Some old → now ≡ rewired n new ls → new.limits ≡ old.limits → SameLimits ls now
limits-fed n old new ls now old_is now_is same limits are q = subst (λ (xs : List Link). IfSome (wire_of q xs) (λ v. v.limits ≡ limits)) (sym now_is) (at (eqb_tells n q))
  where
    here : IfSome (wire_of n (rewired n new ls)) (λ v. v.limits ≡ limits)
    here = rw (rewired-same n new ls) (rw old_is (same ∙ some-limits limits (wire_of n ls) old old_is (are n)))

    at : ((n == q) ≡ true × (n ≡ q)) ⊎ ((n == q) ≡ false × (n ≢ q)) → IfSome (wire_of q (rewired n new ls)) (λ v. v.limits ≡ limits)
    at (inl agree) = subst (λ (k : ℕ). IfSome (wire_of k (rewired n new ls)) (λ v. v.limits ≡ limits)) agree.1 here
    at (inr apart) = subst (λ (o : Option WireValue). IfSome o (λ v. v.limits ≡ limits)) (sym (rewired-other n q new (λ e. apart.1 (sym e)) ls)) (are q)

pub small-fed : (n : ℕ) (old : WireValue) (ls : List Link) (before items : List WireItem) → wire_of n ls ≡ Some old → before ≡ [] → AddsSmall old.limits before items
    → (limits : Limits) → AreLimited limits ls → AreSmallItems limits items
small-fed n old ls before items old_is none adds limits are =
    let is : items ≡ adds.0 = adds.1 ∙ ap (λ (xs : List WireItem). xs ++ adds.0) none in
    subst (λ (xs : List WireItem). AreSmallItems limits xs) (sym is)
    (subst (λ (l : Limits). AreSmallItems l adds.0) (some-limits limits (wire_of n ls) old old_is (are n)) adds.2)

pub limits-kept : (cs : List Connection) (ls : List Link) (limits : Limits) → AreLimited limits ls → AreLimited limits (kept_links cs ls)
limits-kept cs ls limits are q = rw (kept-wire cs ls q) (of (is_some (connection_of q cs)))
  where
    of : (b : Bool) → IfSome (cond {A = Option WireValue} b (wire_of q ls) None) (λ v. v.limits ≡ limits)
    of true = are q
    of false = tt

-- ---- one more in front

pub limits-linked : (link : Link) (ls : List Link) (limits : Limits) → link.wire.limits ≡ limits → AreLimited limits ls → AreLimited limits (link ∷ ls)
limits-linked link ls limits is are q = of (link.number == q)
  where
    of : (b : Bool) → IfSome (option_map (λ l. l.wire) (cond {A = Option Link} b (Some link) (find (test q) ls))) (λ v. v.limits ≡ limits)
    of true = is
    of false = are q

pub stands-linked : (link : Link) (ls : List Link) (limits : Limits) (n : ℕ) (streams : List Stream) → link.number ≡ n → StandsFor limits link.wire [] → WiresStand limits ls streams
    → WiresStand limits (link ∷ ls) (record { number = n; octets = [] } ∷ streams)
stands-linked link ls limits n streams number_is stands are q =
    subst (λ (k : ℕ). WireStands limits (wire_of q (link ∷ ls)) (stream_found q (record { number = k; octets = [] } ∷ streams))) number_is (of (link.number == q))
  where
    of : (b : Bool) → WireStands limits (option_map (λ l. l.wire) (cond {A = Option Link} b (Some link) (find (test q) ls))) (cond {A = Option Stream} b (Some (record { number = link.number; octets = [] })) (stream_found q streams))
    of true = stands
    of false = are q
