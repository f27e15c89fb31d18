-- What the tests of READY mean in the grammar's words.
use Rattle.std.proofs.Common.{ℕ, ◌≡◌, ◌<◌, ◌≤◌, ◌⊎◌, inl, inr, ⊎_elim, Bool, true, false, ltb, cond, ◌||◌, List, [], ◌∷◌, ◌++◌, length, Option, Some, None, Result, Ok, Err, refl, sym, ◌∙◌, ap, subst, arith}
use Rattle.std.specs.Prelude.{bytes_eq, codes, IfOk, IfErr, ◌↔◌}
use Rattle.std.specs.List.{AllByRecursion}
use Rattle.std.specs.Option.{option_or, unwrap_or}
use Rattle.std.proofs.lemmas.Bool.{and_parts, and_cases, or_cases, ltb-true, ltb-false, cases_Bool, false≢true, true≢false}
use Rattle.std.proofs.lemmas.Option.{none-some}
use Rattle.std.proofs.lemmas.Slice.Eq.{bytes_eq-Decides}
use Rattle.mj_base.specs.declared.reason.Reason.{Reason}
use Rattle.mj_base.specs.declared.reason.Reason.TheVariants.{BadHandshake, BadSocketType}
use Rattle.mj_handshake.specs.declared.socket_type.SocketType.{SocketType}
use Rattle.mj_handshake.specs.declared.socket_type.SocketType.TheVariants.{Req, Dealer, Router}
use Rattle.mj_handshake.specs.ReadyProperty.{Property, IsNamed, is_named, is_long_identity, type_name, type_of, named_type}
use Rattle.mj_handshake.specs.ReadyGrammar.{HasShortIdentity, IsAccepted, FirstType, IsBadHandshake, IsBadSocketType, NamesType, first_type, has_long_identity, socket_type, answer_of, ready_properties, ready_of}
use Rattle.mj_handshake.proofs.SpellingLemmas.{AreBytes, ready_spelled, ready_again, same_list, one_list}

named_so : (wanted : List ℕ) (p : Property) → is_named wanted p.name ≡ true → IsNamed wanted p
named_so wanted p e = (bytes_eq-Decides _ _).0 e

so_named : (wanted : List ℕ) (p : Property) → IsNamed wanted p → is_named wanted p.name ≡ true
so_named wanted p e = (bytes_eq-Decides _ _).1 e

-- an Identity that is too long
long_so : (p : Property) → is_long_identity p.name p.value ≡ true → HasShortIdentity p → ⊥
long_so p e short =
    let k : (ltb 255 (length p.value) ≡ true) × (is_named (codes "Identity") p.name ≡ true) = and_parts _ _ e in
    let long : 255 < length p.value = ltb-true 255 (length p.value) k.0 in
    let h : length p.value ≤ 255 = short (named_so (codes "Identity") p k.1) in
    absurd (omega arith)

short_so : (p : Property) → is_long_identity p.name p.value ≡ false → HasShortIdentity p
short_so p e named =
    ⊎_elim (λ f. ltb-false 255 (length p.value) f) (λ f. absurd (true≢false (sym (so_named (codes "Identity") p named) ∙ f))) (and_cases _ _ e)

or_parts : (x y : Bool) → (x || y) ≡ false → (x ≡ false) × (y ≡ false)
or_parts true y e = absurd (true≢false e)
or_parts false y e = (refl, e)

all_short : (properties : List Property) → has_long_identity properties ≡ false → AllByRecursion HasShortIdentity properties
all_short [] e = tt
all_short (p ∷ properties) e =
    let k : (is_long_identity p.name p.value ≡ false) × (has_long_identity properties ≡ false) = or_parts _ _ e in
    (short_so p k.0, all_short properties k.1)

some_long : (properties : List Property) → has_long_identity properties ≡ true → AllByRecursion HasShortIdentity properties → ⊥
some_long [] e h = absurd (false≢true e)
some_long (p ∷ properties) e h = ⊎_elim (λ f. long_so p f h.0) (λ f. some_long properties f h.1) (or_cases _ _ e)

-- the value names this type exactly where it is its name
type_again : (kind : SocketType) → type_of (type_name kind) ≡ Ok kind
type_again Req = refl
type_again Dealer = refl
type_again Router = refl

chosen : {A : Type 0} (b : Bool) (x y z : A) → cond b x y ≡ z → ((b ≡ true) × (x ≡ z)) ⊎ ((b ≡ false) × (y ≡ z))
chosen true x y z e = inl (refl, e)
chosen false x y z e = inr (refl, e)

is_text : (value text : List ℕ) (kind other : SocketType) → type_name kind ≡ text → bytes_eq value text ≡ true → ◌≡◌ {A = Result SocketType Reason} (Ok kind) (Ok other) → value ≡ type_name other
is_text value text kind other name test e =
    let same : kind ≡ other = cc in
    (bytes_eq-Decides value text).0 test ∙ sym name ∙ ap type_name same

type_so : (value : List ℕ) (kind : SocketType) → type_of value ≡ Ok kind → value ≡ type_name kind
type_so value kind e =
    ⊎_elim (λ t. is_text value (codes "REQ") Req kind refl t.0 t.1)
    (λ f. ⊎_elim (λ t. is_text value (codes "DEALER") Dealer kind refl t.0 t.1)
    (λ g. ⊎_elim (λ t. is_text value (codes "ROUTER") Router kind refl t.0 t.1) (λ h. cc) (chosen _ _ _ _ g.1))
    (chosen _ _ _ _ f.1))
    (chosen _ _ _ _ e)

-- an answer is a type, or no type
OkOrNoType : Result SocketType Reason → Type 0
OkOrNoType r = ((kind : SocketType) × (r ≡ Ok kind)) ⊎ (r ≡ Err BadSocketType)

by_test : (b : Bool) (kind : SocketType) (others : Result SocketType Reason) → OkOrNoType others → OkOrNoType (cond b (Ok kind) others)
unfolding OkOrNoType
by_test true kind others h = inl (kind, refl)
by_test false kind others h = h

no_type : OkOrNoType (Err BadSocketType)
unfolding OkOrNoType
no_type = inr refl

type_or_none : (value : List ℕ) → OkOrNoType (type_of value)
type_or_none value = by_test _ Req _ (by_test _ Dealer _ (by_test _ Router (Err BadSocketType) no_type))

not_ok : (kind : SocketType) → ◌≡◌ {A = Result SocketType Reason} (Err BadSocketType) (Ok kind) → ⊥
not_ok kind e = cc

first_named : (p : Property) (others : Option (Result SocketType Reason)) → is_named (codes "Socket-Type") p.name ≡ true → option_or (named_type p.name p.value) others ≡ Some (type_of p.value)
first_named p others e = ap (λ (b : Bool). option_or (cond b (Some (type_of p.value)) None) others) e

first_other : (p : Property) (others : Option (Result SocketType Reason)) → is_named (codes "Socket-Type") p.name ≡ false → option_or (named_type p.name p.value) others ≡ others
first_other p others e = ap (λ (b : Bool). option_or (cond b (Some (type_of p.value)) None) others) e

-- the first Socket-Type's value is what first_type judges
first_again : (properties before after : List Property) (p : Property) → properties ≡ before ++ p ∷ after → AllByRecursion (λ q. ¬ IsNamed (codes "Socket-Type") q) before → IsNamed (codes "Socket-Type") p
    → first_type properties ≡ Some (type_of p.value)
first_again properties [] after p e none named = ap first_type e ∙ first_named p (first_type after) (so_named (codes "Socket-Type") p named)
first_again properties (q ∷ before) after p e none named =
    let other : is_named (codes "Socket-Type") q.name ≡ false = ⊎_elim (λ t. absurd (none.0 (named_so (codes "Socket-Type") q t))) (λ f. f) (cases_Bool (is_named (codes "Socket-Type") q.name)) in
    ap first_type e ∙ first_other q (first_type (before ++ p ∷ after)) other ∙ first_again (before ++ p ∷ after) before after p refl none.1 named

pub type_told : (properties : List Property) (kind : SocketType) → FirstType properties (type_name kind) → first_type properties ≡ Some (Ok kind)
type_told properties kind h =
    first_again properties h.before h.after h.property h.whole h.none h.named ∙ ap (λ (value : List ℕ). Some (type_of value)) h.says ∙ ap Some (type_again kind)

first_so : (properties : List Property) (kind : SocketType) → first_type properties ≡ Some (Ok kind) → FirstType properties (type_name kind)
first_so [] kind e = absurd (none-some _ e)
first_so (p ∷ properties) kind e =
    ⊎_elim
    (λ t.
    let same : type_of p.value ≡ Ok kind = let s : ◌≡◌ {A = Option (Result SocketType Reason)} (Some (type_of p.value)) (Some (Ok kind)) = sym (first_named p (first_type properties) t) ∙ e in cc in
    record { before = []; property = p; after = properties; whole = refl; none = tt; named = named_so (codes "Socket-Type") p t; says = type_so p.value kind same })
    (λ f.
    let h = first_so properties kind (sym (first_other p (first_type properties) f) ∙ e) in
    record {
      before = p ∷ h.before;
      property = h.property;
      after = h.after;
      whole = ap (λ (xs : List Property). p ∷ xs) h.whole;
      none = (λ named. true≢false (sym (so_named (codes "Socket-Type") p named) ∙ f), h.none);
      named = h.named;
      says = h.says;
    })
    (cases_Bool (is_named (codes "Socket-Type") p.name))

first_or_none : (properties : List Property) → OkOrNoType (unwrap_or (first_type properties) (Err BadSocketType))
unfolding OkOrNoType
first_or_none [] = inr refl
first_or_none (p ∷ properties) =
    ⊎_elim
    (λ t. subst (λ (o : Option (Result SocketType Reason)). OkOrNoType (unwrap_or o (Err BadSocketType))) (sym (first_named p (first_type properties) t)) (type_or_none p.value))
    (λ f. subst (λ (o : Option (Result SocketType Reason)). OkOrNoType (unwrap_or o (Err BadSocketType))) (sym (first_other p (first_type properties) f)) (first_or_none properties))
    (cases_Bool (is_named (codes "Socket-Type") p.name))

unwrapped : (o : Option (Result SocketType Reason)) (kind : SocketType) → unwrap_or o (Err BadSocketType) ≡ Ok kind → o ≡ Some (Ok kind)
unwrapped None kind e = cc
unwrapped (Some r) kind e = ap Some e

-- what the answer says of the bytes
abbrev Answered : List ℕ → Result SocketType Reason → Type 0
Answered body r =
    ((kind : SocketType) × (r ≡ Ok kind) × NamesType body kind)
    ⊎ (((r ≡ Err BadSocketType) × IsBadSocketType body) ⊎ ((r ≡ Err BadHandshake) × IsBadHandshake body))

answered_long : (body : List ℕ) (properties : List Property) → ready_properties body ≡ Some properties → has_long_identity properties ≡ true → Answered body (socket_type properties)
answered_long body properties was long =
    inr (inr (
      ap (λ (b : Bool). cond b (Err BadHandshake) (unwrap_or (first_type properties) (Err BadSocketType))) long,
      λ others a. some_long properties long (subst (AllByRecursion HasShortIdentity) (same_list body properties others was a.spelled) a.short),
    ))

answered_type : (body : List ℕ) (properties : List Property) → IsAccepted properties body → OkOrNoType (unwrap_or (first_type properties) (Err BadSocketType)) → Answered body (unwrap_or (first_type properties) (Err BadSocketType))
unfolding OkOrNoType
answered_type body properties a (inl (kind, e)) = inl (kind, e, (properties, a, first_so properties kind (unwrapped (first_type properties) kind e)))
answered_type body properties a (inr e) =
    inr (inl (e, (properties, a, λ kind h. not_ok kind (sym e ∙ ap (λ (o : Option (Result SocketType Reason)). unwrap_or o (Err BadSocketType)) (type_told properties kind h)))))

answered_short : (body : List ℕ) (properties : List Property) → ready_properties body ≡ Some properties → AreBytes body → has_long_identity properties ≡ false → Answered body (socket_type properties)
answered_short body properties was b short =
    let a : IsAccepted properties body = record { spelled = ready_spelled body properties was b; short = all_short properties short } in
    subst (Answered body)
    (sym (ap (λ (t : Bool). cond t (Err BadHandshake) (unwrap_or (first_type properties) (Err BadSocketType))) short))
    (answered_type body properties a (first_or_none properties))

answered_by : (body : List ℕ) (o : Option (List Property)) → ready_properties body ≡ o → AreBytes body → Answered body (answer_of o)
answered_by body None was b = inr (inr (refl, λ properties a. none-some properties (sym was ∙ ready_again body properties a.spelled)))
answered_by body (Some properties) was b =
    ⊎_elim (λ t. answered_long body properties was t) (λ f. answered_short body properties was b f) (cases_Bool (has_long_identity properties))

answered : (body : List ℕ) (r : Result SocketType Reason) → r ≡ ready_of body → AreBytes body → Answered body r
unfolding ready_of
answered body r e b = subst (Answered body) (sym e) (answered_by body (ready_properties body) refl b)

ok_names : (body : List ℕ) (r : Result SocketType Reason) → Answered body r → IfOk r (λ kind. NamesType body kind)
ok_names body (Ok kind) (inl (other, e, n)) = let same : other ≡ kind = cc in subst (NamesType body) same n
ok_names body (Ok kind) (inr (inl (e, h))) = cc
ok_names body (Ok kind) (inr (inr (e, h))) = cc
ok_names body (Err reason) a = tt

two_reasons : (body : List ℕ) (r : Result SocketType Reason) → Answered body r → IfErr r (λ reason. (reason ≡ BadHandshake) ⊎ (reason ≡ BadSocketType))
two_reasons body (Ok kind) a = tt
two_reasons body (Err reason) (inl (other, e, n)) = cc
two_reasons body (Err reason) (inr (inl (e, h))) = inr cc
two_reasons body (Err reason) (inr (inr (e, h))) = inl cc

handshake_iff : (body : List ℕ) (r : Result SocketType Reason) → Answered body r → (r ≡ Err BadHandshake) ↔ IsBadHandshake body
handshake_iff body r (inl (kind, e, n)) = (λ h. cc, λ h. absurd (h n.0 n.1))
handshake_iff body r (inr (inl (e, n))) = (λ h. cc, λ h. absurd (h n.0 n.1))
handshake_iff body r (inr (inr (e, n))) = (λ h. n, λ h. e)

apart : (body : List ℕ) (kind : SocketType) → NamesType body kind → IsBadSocketType body → ⊥
apart body kind n h =
    let same : n.0 ≡ h.0 = one_list n.0 h.0 body n.1.spelled h.1.spelled in
    h.2 kind (subst (λ (properties : List Property). FirstType properties (type_name kind)) same n.2)

socket_type_iff : (body : List ℕ) (r : Result SocketType Reason) → Answered body r → (r ≡ Err BadSocketType) ↔ IsBadSocketType body
socket_type_iff body r (inl (kind, e, n)) = (λ h. cc, λ h. absurd (apart body kind n h))
socket_type_iff body r (inr (inl (e, n))) = (λ h. n, λ h. e)
socket_type_iff body r (inr (inr (e, n))) = (λ h. cc, λ h. absurd (n h.0 h.1))

pub is_found : (body : List ℕ) (r : Result SocketType Reason) → r ≡ ready_of body → AreBytes body → IfOk r (λ kind. NamesType body kind)
is_found body r e b = ok_names body r (answered body r e b)

pub is_reason : (body : List ℕ) (r : Result SocketType Reason) → r ≡ ready_of body → AreBytes body → IfErr r (λ reason. (reason ≡ BadHandshake) ⊎ (reason ≡ BadSocketType))
is_reason body r e b = two_reasons body r (answered body r e b)

pub is_handshake : (body : List ℕ) (r : Result SocketType Reason) → r ≡ ready_of body → AreBytes body → (r ≡ Err BadHandshake) ↔ IsBadHandshake body
is_handshake body r e b = handshake_iff body r (answered body r e b)

pub is_socket_type : (body : List ℕ) (r : Result SocketType Reason) → r ≡ ready_of body → AreBytes body → (r ≡ Err BadSocketType) ↔ IsBadSocketType body
is_socket_type body r e b = socket_type_iff body r (answered body r e b)
