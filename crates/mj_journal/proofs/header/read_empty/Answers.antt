use Rattle.std.proofs.Common.{◌≡◌, ◌<◌, ℕ, true, false, not, List, [], ◌∷◌, length, drop, ap, subst, sym, ◌∙◌, arith}
use Rattle.std.specs.Str.{bytes_eq}
use Rattle.std.proofs.lemmas.Slice.Eq.{bytes_eq-Decides}
use Rattle.mj_journal.specs.Opening.{IsBadHeader}
use Rattle.mj_journal.proofs.Headers.{not_empty_length, not_empty_rest, not_empty_head, bad_no_header}
use Rattle.mj_journal.proofs.header.read_empty.Goals as goal

pub returns-in_default-clause-found : goal.returns-in_default-clause-found
returns-in_default-clause-found c =
    let short : length c.args.front.now < 16 = c.in_default.ensures.cases in
    not_empty_length c.args.front.now (λ (e : length c.args.front.now ≡ 17). omega (arith, e))

pub returns-then-ne-clause-found : goal.returns-then-ne-clause-found
returns-then-ne-clause-found c =
    not_empty_rest c.args.front.now (λ (e : drop 16 c.args.front.now ≡ 0 ∷ []).
    let same : bytes_eq c.in-Some.rest.now c.as_slice.result.now ≡ true = (bytes_eq-Decides c.in-Some.rest.now c.as_slice.result.now).1 (c.in-Some.ensures.cases.1 ∙ e ∙ sym c.as_slice.ensures) in
    let not_true : true ≡ false = c.if-ne.ensures ∙ ap not same in
    cc)

pub returns-in-Err-clause-found : goal.returns-in-Err-clause-found
returns-in-Err-clause-found c =
    not_empty_head c.args.front.now (bad_no_header c.in-Err.field-0 _ (subst (λ (l : List ℕ). IsBadHeader c.in-Err.field-0 l) c.in-Some.ensures.cases.0 c.in-Err.ensures.refused))
