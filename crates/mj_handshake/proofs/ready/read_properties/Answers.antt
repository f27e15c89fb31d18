-- Each turn reads one property; at the end, and at a fault, the rest gives the answer of the whole.
use Rattle.std.proofs.Common.{◌≡◌, ℕ, ◌<◌, List, [], ◌∷◌, length, Option, Result, true, false, refl, sym, ap, ◌∙◌, arith}
use Rattle.std.proofs.lemmas.Bool.Decides.{nat_tests}
use Rattle.std.specs.Option.{option_or}
use Rattle.mj_base.specs.declared.reason.Reason.{Reason}
use Rattle.mj_handshake.specs.declared.socket_type.SocketType.{SocketType}
use Rattle.mj_handshake.specs.ReadyProperty.{is_long_identity, named_type}
use Rattle.mj_handshake.specs.ReadyReading.{cut, properties_of}
use Rattle.mj_handshake.proofs.ReadingLemmas.{answer_from, answer_start, answer_end, turn, turn_long, turn_none, property_shorter}
use Rattle.mj_handshake.proofs.ready.read_properties.Goals as goal

empty : (xs : List ℕ) → length xs ≡ 0 → xs ≡ []
empty [] e = refl
empty (x ∷ xs) e = absurd (omega arith)

pub loop-rest-init : goal.loop-rest-init
loop-rest-init c = answer_start (properties_of c.args.octets.now)

pub returns-in_default : goal.returns-in_default
returns-in_default c =
    let some : 0 < length c.loop-rest.rest.now = grind (arith, nat_tests) in
    sym (turn_none c.loop-rest.found c.loop-rest.rest.now some (sym c.in_default.ensures)) ∙ c.loop-rest.invariant

pub returns-then-is_long_identity : goal.returns-then-is_long_identity
returns-then-is_long_identity c =
    let some : 0 < length c.loop-rest.rest.now = grind (arith, nat_tests) in
    let long : is_long_identity c.in-Some.cut.name.now c.in-Some.cut.value.now ≡ true = cc in
    sym (turn_long c.loop-rest.found c.loop-rest.rest.now (cut c.in-Some.cut.name.now c.in-Some.cut.value.now c.in-Some.cut.rest.now) some (sym c.in-Some.ensures) long) ∙ c.loop-rest.invariant

pub loop-rest-smaller : goal.loop-rest-smaller
loop-rest-smaller c = property_shorter c.loop-rest.rest.now (cut c.in-Some.cut.name.now c.in-Some.cut.value.now c.in-Some.cut.rest.now) (sym c.in-Some.ensures)

pub loop-rest-preserved : goal.loop-rest-preserved
loop-rest-preserved c =
    let some : 0 < length c.loop-rest.rest.now = grind (arith, nat_tests) in
    let short : is_long_identity c.in-Some.cut.name.now c.in-Some.cut.value.now ≡ false = cc in
    let found : c.or-found.result ≡ option_or c.loop-rest.found (named_type c.in-Some.cut.name.now c.in-Some.cut.value.now) = c.or-found.ensures ∙ ap (option_or c.loop-rest.found) c.named_type.ensures in
    ap (λ (o : Option (Result SocketType Reason)). answer_from o (properties_of c.in-Some.cut.rest.now)) found
    ∙ turn c.loop-rest.found c.loop-rest.rest.now (cut c.in-Some.cut.name.now c.in-Some.cut.value.now c.in-Some.cut.rest.now) some (sym c.in-Some.ensures) short
    ∙ c.loop-rest.invariant

pub returns : goal.returns
returns c =
    let none : length c.loop-rest.rest.now ≡ 0 = grind (arith, nat_tests) in
    c.unwrap_or.ensures ∙ sym (answer_end c.loop-rest.found)
    ∙ ap (λ (rest : List ℕ). answer_from c.loop-rest.found (properties_of rest)) (sym (empty c.loop-rest.rest.now none))
    ∙ c.loop-rest.invariant
