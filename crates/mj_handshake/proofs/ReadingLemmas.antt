-- What each reader of a part of READY says of the bytes, and that properties are read one by one.
use Rattle.std.proofs.Common.{ℕ, zero, suc, ◌≡◌, ◌-◌, ◌<◌, ◌≤◌, Bool, true, false, ltb, cond, ◌||◌, List, [], ◌∷◌, length, take, drop, Option, Some, None, Result, Err, refl, sym, ◌∙◌, ap, arith}
use Rattle.std.proofs.lemmas.Bool.{ltb-false}
use Rattle.std.proofs.lemmas.List.{length-drop}
use Rattle.std.proofs.lemmas.Option.{cond_some, option_and_then_some, none-some}
use Rattle.std.specs.Option.{option_map, option_or, unwrap_or}
use Rattle.std.specs.Int.{from_be_bytes, w32}
use Rattle.mj_base.specs.declared.reason.Reason.{Reason}
use Rattle.mj_base.specs.declared.reason.Reason.TheVariants.{BadHandshake, BadSocketType}
use Rattle.mj_handshake.specs.declared.socket_type.SocketType.{SocketType}
use Rattle.mj_handshake.specs.ReadyProperty.{Property, is_long_identity, named_type}
use Rattle.mj_handshake.specs.ReadyGrammar.{has_long_identity, first_type, answer_of}
use Rattle.mj_handshake.specs.ReadyReading.{is_name, part_at, checked_name, name_at, value_at, cut, cut_behind, property_at, one_more, properties_within, properties_of}

guarded : {A : Type 0} (b : Bool) (x y : A) → cond b None (Some x) ≡ Some y → (b ≡ false) × (x ≡ y)
guarded true x y e = absurd (none-some y e)
guarded false x y e = (refl, cc)

mapped : {A B : Type 0} (f : A → B) (o : Option A) (y : B) → option_map f o ≡ Some y → (x : A) × (o ≡ Some x) × (f x ≡ y)
mapped f None y e = absurd (none-some y e)
mapped f (Some x) y e = (x, refl, cc)

pub record PartRead (size : ℕ) (octets : List ℕ) (p : List ℕ × List ℕ) : Type 0 where
  pub inside : size ≤ length octets
  pub front : p.0 ≡ take size octets
  pub back : p.1 ≡ drop size octets

pub part_read : (size : ℕ) (octets : List ℕ) (p : List ℕ × List ℕ) → part_at size octets ≡ Some p → PartRead size octets p
part_read size octets p e =
    let g : (ltb (length octets) size ≡ false) × (◌≡◌ {A = List ℕ × List ℕ} (take size octets, drop size octets) p) = guarded _ _ _ e in
    record { inside = ltb-false _ _ g.0; front = sym (ap (λ (q : List ℕ × List ℕ). q.0) g.1); back = sym (ap (λ (q : List ℕ × List ℕ). q.1) g.1) }

pub record NameRead (octets : List ℕ) (p : List ℕ × List ℕ) : Type 0 where
  pub size : ℕ
  pub rest : List ℕ
  pub spelled : octets ≡ size ∷ rest
  pub part : PartRead size rest p
  pub lawful : is_name p.0 ≡ true

pub name_read : (octets : List ℕ) (p : List ℕ × List ℕ) → name_at octets ≡ Some p → NameRead octets p
name_read [] p e = absurd (none-some p e)
name_read (size ∷ rest) p e =
    option_and_then_some checked_name (part_at size rest) p e (λ q was checked.
    let k : (is_name q.0 ≡ true) × (q ≡ p) = cond_some _ _ _ checked in
    record { size = size; rest = rest; spelled = refl; part = part_read size rest p (was ∙ ap Some k.1); lawful = ap (λ (x : List ℕ × List ℕ). is_name x.0) (sym k.1) ∙ k.0 })

pub record ValueRead (octets : List ℕ) (p : List ℕ × List ℕ) : Type 0 where
  pub whole : 4 ≤ length octets
  pub part : PartRead (from_be_bytes w32 (take 4 octets)) (drop 4 octets) p

sized : {A : Type 0} (b : Bool) (o : Option A) (y : A) → cond b None o ≡ Some y → (b ≡ false) × (o ≡ Some y)
sized true o y e = absurd (none-some y e)
sized false o y e = (refl, e)

pub value_read : (octets : List ℕ) (p : List ℕ × List ℕ) → value_at octets ≡ Some p → ValueRead octets p
value_read octets p e =
    let g : (ltb (length octets) 4 ≡ false) × (part_at (from_be_bytes w32 (take 4 octets)) (drop 4 octets) ≡ Some p) = sized _ _ _ e in
    record { whole = ltb-false _ _ g.0; part = part_read _ _ p g.1 }

pub record PropertyRead (octets : List ℕ) (c : Property × List ℕ) : Type 0 where
  pub named : List ℕ × List ℕ
  pub valued : List ℕ × List ℕ
  pub name : NameRead octets named
  pub value : ValueRead named.1 valued
  pub whole : c ≡ cut named.0 valued.0 valued.1

pub property_read : (octets : List ℕ) (c : Property × List ℕ) → property_at octets ≡ Some c → PropertyRead octets c
unfolding property_at
property_read octets c e =
    option_and_then_some cut_behind (name_at octets) c e (λ n was behind.
    let m : (v : List ℕ × List ℕ) × (value_at n.1 ≡ Some v) × (cut n.0 v.0 v.1 ≡ c) = mapped _ _ _ behind in
    record { named = n; valued = m.0; name = name_read octets n was; value = value_read n.1 m.0 m.1; whole = sym m.2 })

-- a property takes bytes
pub property_shorter : (octets : List ℕ) (c : Property × List ℕ) → property_at octets ≡ Some c → length c.1 < length octets
property_shorter octets c e =
    let r = property_read octets c e in
    let a : length octets ≡ suc (length r.name.rest) = ap length r.name.spelled in
    let b : length r.named.1 ≡ length r.name.rest - r.name.size = ap length r.name.part.back ∙ length-drop r.name.size r.name.rest in
    let d : length r.valued.1 ≡ length (drop 4 r.named.1) - from_be_bytes w32 (take 4 r.named.1) = ap length r.value.part.back ∙ length-drop _ _ in
    let f : length (drop 4 r.named.1) ≡ length r.named.1 - 4 = length-drop 4 r.named.1 in
    let g : length c.1 ≡ length r.valued.1 = ap (λ (x : Property × List ℕ). length x.1) r.whole in
    omega arith

same_more : (f g : List ℕ → Option (List Property)) (o : Option (Property × List ℕ)) → ((c : Property × List ℕ) → o ≡ Some c → f c.1 ≡ g c.1) → one_more f o ≡ one_more g o
same_more f g None h = refl
same_more f g (Some c) h = ap (λ (o : Option (List Property)). option_map (λ (properties : List Property). c.0 ∷ properties) o) (h c refl)

-- steps beyond the number of bytes change nothing
enough : (steps more : ℕ) (octets : List ℕ) → length octets ≤ steps → length octets ≤ more → properties_within steps octets ≡ properties_within more octets
enough zero zero [] h k = refl
enough zero (suc more) [] h k = refl
enough (suc steps) zero [] h k = refl
enough (suc steps) (suc more) [] h k = refl
enough zero more (octet ∷ octets) h k = absurd (omega arith)
enough (suc steps) zero (octet ∷ octets) h k = absurd (omega arith)
enough (suc steps) (suc more) (octet ∷ octets) h k =
    same_more _ _ (property_at (octet ∷ octets)) (λ c e.
    let less : length c.1 < suc (length octets) = property_shorter (octet ∷ octets) c e in
    enough steps more c.1 (omega arith) (omega arith))

-- properties are read one by one
pub properties_step : (octets : List ℕ) → 0 < length octets → properties_of octets ≡ one_more (λ rest. properties_of rest) (property_at octets)
unfolding properties_of
properties_step [] h = absurd (omega arith)
properties_step (octet ∷ octets) h =
    same_more _ _ (property_at (octet ∷ octets)) (λ c e.
    let less : length c.1 < suc (length octets) = property_shorter (octet ∷ octets) c e in
    enough (length octets) (length c.1) c.1 (omega arith) (omega arith))

pub properties_end : properties_of [] ≡ Some []
unfolding properties_of
properties_end = refl

-- what the properties say behind others, of which the first Socket-Type said this
abbrev pub answer_from : Option (Result SocketType Reason) → Option (List Property) → Result SocketType Reason
answer_from found None = Err BadHandshake
answer_from found (Some properties) = cond (has_long_identity properties) (Err BadHandshake) (unwrap_or (option_or found (first_type properties)) (Err BadSocketType))

pub answer_start : (o : Option (List Property)) → answer_from None o ≡ answer_of o
answer_start None = refl
answer_start (Some properties) = refl

or_none : {A : Type 0} (o : Option A) → option_or o None ≡ o
or_none None = refl
or_none (Some x) = refl

or_assoc : {A : Type 0} (a b c : Option A) → option_or (option_or a b) c ≡ option_or a (option_or b c)
or_assoc None b c = refl
or_assoc (Some x) b c = refl

pub answer_end : (found : Option (Result SocketType Reason)) → answer_from found (properties_of []) ≡ unwrap_or found (Err BadSocketType)
answer_end found = ap (answer_from found) properties_end ∙ ap (λ (o : Option (Result SocketType Reason)). unwrap_or o (Err BadSocketType)) (or_none found)

answer_more : (found : Option (Result SocketType Reason)) (p : Property) (o : Option (List Property)) → is_long_identity p.name p.value ≡ false
    → answer_from (option_or found (named_type p.name p.value)) o ≡ answer_from found (option_map (λ (properties : List Property). p ∷ properties) o)
answer_more found p None e = refl
answer_more found p (Some properties) e =
    ap (λ (t : Option (Result SocketType Reason)). cond (has_long_identity properties) (Err BadHandshake) (unwrap_or t (Err BadSocketType))) (or_assoc found (named_type p.name p.value) (first_type properties))
    ∙ ap (λ (b : Bool). cond (b || has_long_identity properties) (Err BadHandshake) (unwrap_or (option_or found (first_type (p ∷ properties))) (Err BadSocketType))) (sym e)

answer_long : (found : Option (Result SocketType Reason)) (p : Property) (o : Option (List Property)) → is_long_identity p.name p.value ≡ true
    → answer_from found (option_map (λ (properties : List Property). p ∷ properties) o) ≡ Err BadHandshake
answer_long found p None e = refl
answer_long found p (Some properties) e =
    ap (λ (b : Bool). cond (b || has_long_identity properties) (Err BadHandshake) (unwrap_or (option_or found (first_type (p ∷ properties))) (Err BadSocketType))) e

read_on : (octets : List ℕ) (c : Property × List ℕ) → 0 < length octets → property_at octets ≡ Some c → properties_of octets ≡ option_map (λ (properties : List Property). c.0 ∷ properties) (properties_of c.1)
read_on octets c h e = properties_step octets h ∙ ap (one_more (λ rest. properties_of rest)) e

-- one turn of the walk over the properties
pub turn : (found : Option (Result SocketType Reason)) (octets : List ℕ) (c : Property × List ℕ) → 0 < length octets → property_at octets ≡ Some c → is_long_identity c.0.name c.0.value ≡ false
    → answer_from (option_or found (named_type c.0.name c.0.value)) (properties_of c.1) ≡ answer_from found (properties_of octets)
turn found octets c h e short = answer_more found c.0 (properties_of c.1) short ∙ ap (answer_from found) (sym (read_on octets c h e))

pub turn_long : (found : Option (Result SocketType Reason)) (octets : List ℕ) (c : Property × List ℕ) → 0 < length octets → property_at octets ≡ Some c → is_long_identity c.0.name c.0.value ≡ true
    → answer_from found (properties_of octets) ≡ Err BadHandshake
turn_long found octets c h e long = ap (answer_from found) (read_on octets c h e) ∙ answer_long found c.0 (properties_of c.1) long

pub turn_none : (found : Option (Result SocketType Reason)) (octets : List ℕ) → 0 < length octets → property_at octets ≡ None → answer_from found (properties_of octets) ≡ Err BadHandshake
turn_none found octets h e = ap (answer_from found) (properties_step octets h ∙ ap (one_more (λ rest. properties_of rest)) e)
