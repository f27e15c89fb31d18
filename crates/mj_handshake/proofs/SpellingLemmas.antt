-- Properties that are read are spelled so, and properties that are spelled are read.
use Rattle.std.proofs.Common.{ℕ, zero, suc, ◌≡◌, ◌+◌, ◌^◌, ◌<◌, ◌≤◌, Bool, true, false, ltb, eqb, cond, not, ◌⊎◌, inl, inr, List, [], ◌∷◌, ◌++◌, length, take, drop, get_or, min, Option, Some, None, refl, sym, ◌∙◌, ap, subst, arith, append_assoc, length-append, length-take}
use Rattle.std.specs.Prelude.{flat_map, bytes_eq}
use Rattle.std.specs.List.{list_all, AllByRecursion}
use Rattle.std.specs.Option.{option_map, option_and_then}
use Rattle.std.specs.Int.{to_be_bytes, from_be_bytes, w32}
use Rattle.std.proofs.lemmas.Bool.{and_parts, and_from, not-true, eqb-false, ne_eqb, le-ltb, cases_lt}
use Rattle.std.proofs.lemmas.List.{get_or-drop, get_or-take, get_or_past, take-append-drop, take_at, drop_at}
use Rattle.std.proofs.lemmas.List.Concat.{flat_map-cons}
use Rattle.std.proofs.lemmas.Nat.{be_bytes_4, from_be_bytes-to_be_bytes_4}
use Rattle.std.proofs.lemmas.Option.{none-some}
use Rattle.std.proofs.lemmas.Slice.Eq.{bytes_eq-Decides}
use Rattle.mj_handshake.specs.ReadyProperty.{Property, IsProperty, property_octets, is_name_byte}
use Rattle.mj_handshake.specs.ReadyGrammar.{ready_name, IsReady, ready_properties}
use Rattle.mj_handshake.specs.ReadyReading.{is_name, part_at, checked_name, name_at, value_at, cut, cut_behind, property_at, one_more, properties_within, properties_of}
use Rattle.mj_handshake.proofs.ReadingLemmas.{PartRead, NameRead, ValueRead, property_read, properties_step, properties_end}

pub record AreBytes (octets : List ℕ) : Type 0 where
  pub small : (i : ℕ) → get_or octets i 0 < 256

bytes_drop : (n : ℕ) (octets : List ℕ) → AreBytes octets → AreBytes (drop n octets)
bytes_drop n octets b = record { small = λ i. let e : get_or (drop n octets) i 0 ≡ get_or octets (n + i) 0 = get_or-drop n octets i 0 in let s : get_or octets (n + i) 0 < 256 = b.small (n + i) in omega arith }

small_take : (n : ℕ) (octets : List ℕ) → AreBytes octets → (i : ℕ) → (i < n) ⊎ (n ≤ i) → get_or (take n octets) i 0 < 256
small_take n octets b i (inl lt) = let e : get_or (take n octets) i 0 ≡ get_or octets i 0 = get_or-take n octets i 0 lt in let s : get_or octets i 0 < 256 = b.small i in omega arith
small_take n octets b i (inr le) =
    let l : length (take n octets) ≡ min n (length octets) = length-take n octets in
    let past : length (take n octets) ≤ i = omega arith in
    let e : get_or (take n octets) i 0 ≡ 0 = get_or_past (take n octets) i 0 past in
    omega arith

bytes_take : (n : ℕ) (octets : List ℕ) → AreBytes octets → AreBytes (take n octets)
bytes_take n octets b = record { small = λ i. small_take n octets b i (cases_lt i n) }

part_whole : (size : ℕ) (octets : List ℕ) (p : List ℕ × List ℕ) → PartRead size octets p → (octets ≡ p.0 ++ p.1) × (length p.0 ≡ size)
part_whole size octets p r = (
  sym (take-append-drop size octets) ∙ ap (λ (xs : List ℕ). xs ++ drop size octets) (sym r.front) ∙ ap (λ (xs : List ℕ). p.0 ++ xs) (sym r.back),
  let l : length p.0 ≡ min size (length octets) = ap length r.front ∙ length-take size octets in let i : size ≤ length octets = r.inside in omega arith,
)

record NameSpelled (octets : List ℕ) (p : List ℕ × List ℕ) : Type 0 where
  whole : octets ≡ length p.0 ∷ (p.0 ++ p.1)
  named : 0 < length p.0
  short : length p.0 ≤ 255
  spelled : list_all is_name_byte p.0 ≡ true
  behind : AreBytes p.1

name_spelled : (octets : List ℕ) (p : List ℕ × List ℕ) → NameRead octets p → AreBytes octets → NameSpelled octets p
name_spelled octets p r b =
    let w = part_whole r.size r.rest p r.part in
    let size : length p.0 ≡ r.size = w.1 in
    let first : r.size < 256 = let s : get_or octets 0 0 < 256 = b.small 0 in let e : get_or octets 0 0 ≡ r.size = ap (λ (xs : List ℕ). get_or xs 0 0) r.spelled in omega arith in
    let rest : AreBytes r.rest = subst AreBytes (ap (λ (xs : List ℕ). drop 1 xs) r.spelled) (bytes_drop 1 octets b) in
    let k : (not (eqb (length p.0) 0) ≡ true) × (list_all is_name_byte p.0 ≡ true) = and_parts _ _ r.lawful in
    let some : length p.0 ≡ 0 → ⊥ = eqb-false _ _ (not-true _ k.0) in
    record {
      whole = r.spelled ∙ ap (λ (xs : List ℕ). r.size ∷ xs) w.0 ∙ ap (λ (n : ℕ). n ∷ (p.0 ++ p.1)) (sym size);
      named = omega arith;
      short = omega arith;
      spelled = k.1;
      behind = subst AreBytes (sym r.part.back) (bytes_drop r.size r.rest rest);
    }

record ValueSpelled (octets : List ℕ) (p : List ℕ × List ℕ) : Type 0 where
  whole : octets ≡ to_be_bytes w32 (length p.0) ++ (p.0 ++ p.1)
  sized : length p.0 < 2 ^ 32
  behind : AreBytes p.1

-- four bytes are a number below 2 ^ 32
below : (bytes : List ℕ) → AreBytes bytes → from_be_bytes w32 bytes < 2 ^ 32
below bytes b =
    let b0 : get_or bytes 0 0 < 256 = b.small 0 in
    let b1 : get_or bytes 1 0 < 256 = b.small 1 in
    let b2 : get_or bytes 2 0 < 256 = b.small 2 in
    let b3 : get_or bytes 3 0 < 256 = b.small 3 in
    omega arith

value_spelled : (octets : List ℕ) (p : List ℕ × List ℕ) → ValueRead octets p → AreBytes octets → ValueSpelled octets p
value_spelled octets p r b =
    let w = part_whole (from_be_bytes w32 (take 4 octets)) (drop 4 octets) p r.part in
    let four : length (take 4 octets) ≡ 4 = let l : length (take 4 octets) ≡ min 4 (length octets) = length-take 4 octets in let h : 4 ≤ length octets = r.whole in omega arith in
    let front : AreBytes (take 4 octets) = bytes_take 4 octets b in
    let again : to_be_bytes w32 (length p.0) ≡ take 4 octets = be_bytes_4 (take 4 octets) (length p.0) four front.small w.1 in
    record {
      whole = sym (take-append-drop 4 octets) ∙ ap (λ (xs : List ℕ). xs ++ drop 4 octets) (sym again) ∙ ap (λ (xs : List ℕ). to_be_bytes w32 (length p.0) ++ xs) w.0;
      sized = subst (λ (n : ℕ). n < 2 ^ 32) (sym w.1) (below (take 4 octets) front);
      behind = subst AreBytes (sym r.part.back) (bytes_drop _ (drop 4 octets) (bytes_drop 4 octets b));
    }

pub record PropertySpelled (octets : List ℕ) (c : Property × List ℕ) : Type 0 where
  pub whole : octets ≡ property_octets c.0 ++ c.1
  pub lawful : IsProperty c.0
  pub behind : AreBytes c.1

grouped : (n : ℕ) (name size value rest : List ℕ) → n ∷ (name ++ (size ++ (value ++ rest))) ≡ (n ∷ name ++ size ++ value) ++ rest
grouped n name size value rest = ap (λ (xs : List ℕ). n ∷ xs) (sym (append_assoc (name ++ size) value rest ∙ append_assoc name size (value ++ rest)))

cut_spelled : (octets : List ℕ) (n v : List ℕ × List ℕ) → NameSpelled octets n → ValueSpelled n.1 v → PropertySpelled octets (cut n.0 v.0 v.1)
cut_spelled octets n v a b =
    record {
      whole = a.whole ∙ ap (λ (xs : List ℕ). length n.0 ∷ (n.0 ++ xs)) b.whole ∙ grouped (length n.0) n.0 (to_be_bytes w32 (length v.0)) v.0 v.1;
      lawful = record { named = a.named; short = a.short; spelled = a.spelled; sized = b.sized };
      behind = b.behind;
    }

pub property_spelled : (octets : List ℕ) (c : Property × List ℕ) → property_at octets ≡ Some c → AreBytes octets → PropertySpelled octets c
property_spelled octets c e b =
    let r = property_read octets c e in
    let n = name_spelled octets r.named r.name b in
    let v = value_spelled r.named.1 r.valued r.value n.behind in
    subst (PropertySpelled octets) (sym r.whole) (cut_spelled octets r.named r.valued n v)

pub record PropertiesSpelled (octets : List ℕ) (properties : List Property) : Type 0 where
  pub whole : octets ≡ flat_map property_octets properties
  pub lawful : AllByRecursion IsProperty properties

nothing_spelled : (properties : List Property) → ◌≡◌ {A = Option (List Property)} (Some []) (Some properties) → PropertiesSpelled [] properties
nothing_spelled [] e = record { whole = refl; lawful = tt }
nothing_spelled (p ∷ properties) e = cc

with_spelled : (octets : List ℕ) (c : Property × List ℕ) (read : Option (List Property)) (properties : List Property) → PropertySpelled octets c
    → ((others : List Property) → read ≡ Some others → AreBytes c.1 → PropertiesSpelled c.1 others)
    → option_map (λ (others : List Property). c.0 ∷ others) read ≡ Some properties → PropertiesSpelled octets properties
with_spelled octets c None properties s behind e = absurd (none-some properties e)
with_spelled octets c (Some others) properties s behind e =
    let all : c.0 ∷ others ≡ properties = cc in
    let r = behind others refl s.behind in
    subst (PropertiesSpelled octets) all (record {
      whole = s.whole ∙ ap (λ (xs : List ℕ). property_octets c.0 ++ xs) r.whole ∙ sym (flat_map-cons property_octets c.0 others);
      lawful = (s.lawful, r.lawful);
    })

more_spelled : (octets : List ℕ) (read : Option (Property × List ℕ)) (more : List ℕ → Option (List Property)) (properties : List Property) → property_at octets ≡ read → AreBytes octets
    → ((rest : List ℕ) (others : List Property) → more rest ≡ Some others → AreBytes rest → PropertiesSpelled rest others)
    → one_more more read ≡ Some properties → PropertiesSpelled octets properties
more_spelled octets None more properties was b behind e = absurd (none-some properties e)
more_spelled octets (Some c) more properties was b behind e = with_spelled octets c (more c.1) properties (property_spelled octets c was b) (λ others h k. behind c.1 others h k) e

within_spelled : (steps : ℕ) (octets : List ℕ) (properties : List Property) → properties_within steps octets ≡ Some properties → AreBytes octets → PropertiesSpelled octets properties
within_spelled zero [] properties e b = nothing_spelled properties e
within_spelled (suc steps) [] properties e b = nothing_spelled properties e
within_spelled zero (octet ∷ octets) properties e b = absurd (none-some properties e)
within_spelled (suc steps) (octet ∷ octets) properties e b =
    more_spelled (octet ∷ octets) (property_at (octet ∷ octets)) (λ rest. properties_within steps rest) properties refl b (λ rest others h k. within_spelled steps rest others h k) e

pub properties_spelled : (octets : List ℕ) (properties : List Property) → properties_of octets ≡ Some properties → AreBytes octets → PropertiesSpelled octets properties
unfolding properties_of
properties_spelled octets properties e b = within_spelled (length octets) octets properties e b

part_again : (front rest : List ℕ) (size : ℕ) → length front ≡ size → part_at size (front ++ rest) ≡ Some (front, rest)
part_again front rest size e =
    let l : length (front ++ rest) ≡ length front + length rest = length-append front rest in
    let test : ltb (length (front ++ rest)) size ≡ false = le-ltb (length (front ++ rest)) size (omega arith) in
    rw (test, take_at front rest size e, drop_at front rest size e) refl

name_again : (name rest : List ℕ) → is_name name ≡ true → name_at (length name ∷ (name ++ rest)) ≡ Some (name, rest)
name_again name rest lawful =
    ap (option_and_then checked_name) (part_again name rest (length name) refl) ∙ ap (λ (b : Bool). cond b (Some (name, rest)) None) lawful

value_again : (bytes value rest : List ℕ) → length bytes ≡ 4 → from_be_bytes w32 bytes ≡ length value → value_at (bytes ++ (value ++ rest)) ≡ Some (value, rest)
value_again bytes value rest four size =
    let l : length (bytes ++ (value ++ rest)) ≡ length bytes + length (value ++ rest) = length-append bytes (value ++ rest) in
    let test : ltb (length (bytes ++ (value ++ rest))) 4 ≡ false = le-ltb (length (bytes ++ (value ++ rest))) 4 (omega arith) in
    let front : take 4 (bytes ++ (value ++ rest)) ≡ bytes = take_at bytes (value ++ rest) 4 four in
    let back : drop 4 (bytes ++ (value ++ rest)) ≡ value ++ rest = drop_at bytes (value ++ rest) 4 four in
    ap (λ (b : Bool). cond b None (part_at (from_be_bytes w32 (take 4 (bytes ++ (value ++ rest)))) (drop 4 (bytes ++ (value ++ rest))))) test
    ∙ ap (λ (xs : List ℕ). part_at (from_be_bytes w32 xs) (drop 4 (bytes ++ (value ++ rest)))) front
    ∙ ap (λ (xs : List ℕ). part_at (from_be_bytes w32 bytes) xs) back
    ∙ part_again value rest (from_be_bytes w32 bytes) (sym size)

named_lawful : (p : Property) → IsProperty p → is_name p.name ≡ true
named_lawful p h =
    let some : eqb (length p.name) 0 ≡ false = ne_eqb (length p.name) 0 (λ e. let n : 0 < length p.name = h.named in omega arith) in
    and_from _ _ (ap not some) h.spelled

pub property_again : (p : Property) (rest : List ℕ) → IsProperty p → property_at (property_octets p ++ rest) ≡ Some (p, rest)
unfolding property_at
property_again p rest h =
    let size : from_be_bytes w32 (to_be_bytes w32 (length p.value)) ≡ length p.value = from_be_bytes-to_be_bytes_4 (length p.value) h.sized in
    ap property_at (sym (grouped (length p.name) p.name (to_be_bytes w32 (length p.value)) p.value rest))
    ∙ ap (option_and_then cut_behind) (name_again p.name (to_be_bytes w32 (length p.value) ++ (p.value ++ rest)) (named_lawful p h))
    ∙ ap (option_map (λ (v : List ℕ × List ℕ). cut p.name v.0 v.1)) (value_again (to_be_bytes w32 (length p.value)) p.value rest refl size)

pub properties_again : (properties : List Property) → AllByRecursion IsProperty properties → properties_of (flat_map property_octets properties) ≡ Some properties
properties_again [] h = properties_end
properties_again (p ∷ properties) h =
    let bytes : flat_map property_octets (p ∷ properties) ≡ property_octets p ++ flat_map property_octets properties = flat_map-cons property_octets p properties in
    let some : 0 < length (property_octets p ++ flat_map property_octets properties) = omega arith in
    ap properties_of bytes ∙ properties_step _ some
    ∙ ap (one_more (λ rest. properties_of rest)) (property_again p (flat_map property_octets properties) h.0)
    ∙ ap (option_map (λ (others : List Property). p ∷ others)) (properties_again properties h.1)

named_ready : (body : List ℕ) (b : Bool) (properties : List Property) → bytes_eq (take 6 body) ready_name ≡ b → cond b (properties_of (drop 6 body)) None ≡ Some properties → AreBytes body → IsReady properties body
named_ready body true properties was e b =
    let s = properties_spelled (drop 6 body) properties e (bytes_drop 6 body b) in
    let name : take 6 body ≡ ready_name = (bytes_eq-Decides (take 6 body) ready_name).0 was in
    (s.lawful, sym (take-append-drop 6 body) ∙ ap (λ (xs : List ℕ). xs ++ drop 6 body) name ∙ ap (λ (xs : List ℕ). ready_name ++ xs) s.whole)
named_ready body false properties was e b = absurd (none-some properties e)

pub ready_spelled : (body : List ℕ) (properties : List Property) → ready_properties body ≡ Some properties → AreBytes body → IsReady properties body
ready_spelled body properties e b = named_ready body (bytes_eq (take 6 body) ready_name) properties refl e b

pub ready_again : (body : List ℕ) (properties : List Property) → IsReady properties body → ready_properties body ≡ Some properties
ready_again body properties h =
    let e : body ≡ ready_name ++ flat_map property_octets properties = h.1 in
    ap ready_properties e ∙ properties_again properties h.0

pub same_list : (body : List ℕ) (properties others : List Property) → ready_properties body ≡ Some properties → IsReady others body → others ≡ properties
same_list body properties others was h =
    let e : Some others ≡ Some properties = sym (ready_again body others h) ∙ was in
    cc

pub one_list : (properties others : List Property) (octets : List ℕ) → IsReady properties octets → IsReady others octets → properties ≡ others
one_list properties others octets h k = same_list octets others properties (ready_again octets others k) h
