-- A hall once a request has come.
use Rattle.std.proofs.Common.{◌≡◌, ℕ, ◌+◌, nat_lt, Bool, true, cond, List, [], ◌∷◌, ◌++◌, refl, sym, ◌∙◌, ap, subst, arith}
use Rattle.std.specs.List.{list_all}
use Rattle.std.proofs.lemmas.Bool.{and_parts, and_from}
use Rattle.std.proofs.lemmas.Bool.Decides.{nat_tests}
use Rattle.std.proofs.lemmas.List.Sums.{sum_by_push}
use Rattle.mj_counted.specs.declared.rows.Rows.{Rows}
use Rattle.mj_counted.specs.Rows.{entries, entry}
use Rattle.mj_chain.specs.declared.node.Node.{Node}
use Rattle.mj_chain.specs.Seats.{Seat}
use Rattle.mj_queue.specs.declared.request.Request.{Request}
use Rattle.mj_queue.specs.Settling.{is_of_client, queued, queued_weight}
use Rattle.mj_hall.specs.declared.kept.Queued.{Queued}
use Rattle.mj_hall.specs.Asking.{Asking, HasLast}
use Rattle.mj_hall.specs.Floor.{labels_below, labels_rise, requests_of}
use Rattle.mj_queue.specs.declared.request.Origin.TheVariants.{Client, Ticket}
use Rattle.mj_hall.proofs.TakenLemmas.{client_weight, weight_is}

abbrev seat : ℕ → Queued → Seat Queued
seat k x = record { key = k; value = x }

pub asking_same : (old new : Rows (Node Queued)) (cs cs_new ts ts_new : List (ℕ × ℕ)) (es : List (Seat Queued)) → Asking old cs ts es → ((k : ℕ) → entry new k ≡ entry old k) → entries new ≡ entries old → cs_new ≡ cs → ts_new ≡ ts → Asking new cs_new ts_new es
asking_same old new cs cs_new ts ts_new es a same count clients tickets = record {
  distinct = a.distinct;
  rows = λ k. same k ∙ a.rows k;
  count = count ∙ a.count;
  by_client = subst (λ (ps : List (ℕ × ℕ)). HasLast (λ n. Client n) ps es) (sym clients) a.by_client;
  by_ticket = subst (λ (ps : List (ℕ × ℕ)). HasLast (λ n. Ticket n) ps es) (sym tickets) a.by_ticket;
}

pub requests-append : (es : List (Seat Queued)) (k : ℕ) (x : Queued) → requests_of (es ++ seat k x ∷ []) ≡ requests_of es ++ x.request ∷ []
requests-append [] k x = refl
requests-append (s ∷ ss) k x = ap (λ (rs : List Request). s.value.request ∷ rs) (requests-append ss k x)

all-append : (q : Seat Queued → Bool) (es : List (Seat Queued)) (s : Seat Queued) → list_all q es ≡ true → q s ≡ true → list_all q (es ++ s ∷ []) ≡ true
all-append q [] s all e = and_from _ _ e refl
all-append q (t ∷ ts) s all e = let parts = and_parts (q t) (list_all q ts) all in and_from _ _ parts.0 (all-append q ts s parts.1 e)

pub rise-append : (es : List (Seat Queued)) (k next : ℕ) (x : Queued) → labels_rise es ≡ true → labels_below next es ≡ true → x.label ≡ next → labels_rise (es ++ seat k x ∷ []) ≡ true
rise-append [] k next x rise below is = refl
rise-append (s ∷ ss) k next x rise below is =
    let parts = and_parts (list_all (λ t. nat_lt s.value.label t.value.label) ss) (labels_rise ss) rise in
    let lower = and_parts (nat_lt s.value.label next) (labels_below next ss) below in
    and_from _ _ (all-append (λ t. nat_lt s.value.label t.value.label) ss (seat k x) parts.0 (subst (λ (n : ℕ). nat_lt s.value.label n ≡ true) (sym is) lower.0)) (rise-append ss k next x parts.1 lower.1 is)

pub below-append : (es : List (Seat Queued)) (k next : ℕ) (x : Queued) → labels_below next es ≡ true → x.label ≡ next → labels_below (next + 1) (es ++ seat k x ∷ []) ≡ true
below-append es k next x below is = all-append (λ s. nat_lt s.value.label (next + 1)) es (seat k x) (higher es below) (subst (λ (n : ℕ). nat_lt n (next + 1) ≡ true) (sym is) (own next))
  where
    own : (n : ℕ) → nat_lt n (n + 1) ≡ true
    own n = grind (arith, nat_tests)

    more : (n m : ℕ) → nat_lt n m ≡ true → nat_lt n (m + 1) ≡ true
    more n m e = grind (arith, nat_tests)

    higher : (ys : List (Seat Queued)) → labels_below next ys ≡ true → list_all (λ s. nat_lt s.value.label (next + 1)) ys ≡ true
    higher [] e = refl
    higher (y ∷ ys) e = let parts = and_parts (nat_lt y.value.label next) (labels_below next ys) e in and_from _ _ (more y.value.label next parts.0) (higher ys parts.1)

pub number-append : (es : List (Seat Queued)) (k : ℕ) (x : Queued) → queued (requests_of (es ++ seat k x ∷ [])) ≡ queued (requests_of es) + cond (is_of_client x.request.origin) 1 0
number-append es k x = ap queued (requests-append es k x) ∙ sum_by_push (λ (r : Request). cond (is_of_client r.origin) 1 0) (requests_of es) x.request

pub weight-append : (es : List (Seat Queued)) (k : ℕ) (x : Queued) → queued_weight (requests_of (es ++ seat k x ∷ [])) ≡ queued_weight (requests_of es) + client_weight x.request
weight-append es k x =
    ap queued_weight (requests-append es k x) ∙ weight_is (requests_of es ++ x.request ∷ []) ∙ sum_by_push client_weight (requests_of es) x.request ∙ ap (λ (n : ℕ). n + client_weight x.request) (sym (weight_is (requests_of es)))
