-- What two links tell, one thing behind the other.
use Rattle.std.proofs.Common.{◌≡◌, ℕ, List, [], ◌∷◌, ◌++◌, take, drop, refl, sym, ap, subst, ◌∙◌, append_assoc, append-nil, Option, None, Some, ◌+◌, ◌<◌, length, get_or, arith}
use Rattle.std.proofs.lemmas.List.{drop_more, take-append-drop, take_more}
use Rattle.mj_base.specs.Linking.{Tells}
use Rattle.mj_base.specs.declared.link.LinkEntry.{LinkEntry}
use Rattle.mj_bridge.specs.declared.act.BridgeAct.{BridgeAct}
use Rattle.mj_bridge.specs.declared.act.BridgeAct.TheVariants as side
use Rattle.mj_bridge_prog.specs.Sides.{AreDone, AreLater, ArePartly, Breaks, Counts, Moves, Performs, Round, Sides, far_entries, far_of, far_tale, near_entries, near_of, near_tale, sides}
use Rattle.mj_peer.specs.declared.act.Act.{Act}
use Rattle.mj_peering.specs.Performing.{entries_of}

pub tells-same : (old now : Option (List LinkEntry)) → now ≡ old → Tells old now []
tells-same None now e = e
tells-same (Some xs) now e = e ∙ ap Some (sym (append-nil xs))

tells-more : (old mid now : Option (List LinkEntry)) (xs ys : List LinkEntry) → Tells old mid xs → Tells mid now ys → Tells old now (xs ++ ys)
tells-more None mid now xs ys a b = subst (λ (m : Option (List LinkEntry)). Tells m now ys) a b
tells-more (Some ts) mid now xs ys a b = subst (λ (m : Option (List LinkEntry)). Tells m now ys) a b ∙ ap Some (append_assoc ts xs ys)

pub moves-more : (old mid now : Sides) (xs xs' ys ys' : List LinkEntry) → Moves old mid xs ys → Moves mid now xs' ys' → Moves old now (xs ++ xs') (ys ++ ys')
moves-more old mid now xs xs' ys ys' a b =
    record { near = tells-more old.near mid.near now.near xs xs' a.near b.near; far = tells-more old.far mid.far now.far ys ys' a.far b.far }

pub moves-none : (old : Sides) → Moves old old [] []
moves-none old = record { near = tells-same old.near old.near refl; far = tells-same old.far old.far refl }

-- ---- acts

pub moves-near : (old now : Option (List LinkEntry)) (far far' : Option (List LinkEntry)) (a : Act) → far' ≡ far → Tells old now (entries_of a) → Moves (sides old far) (sides now far') (near_of (side.Near a)) (far_of (side.Near a))
moves-near old now far far' a e t = record { near = t; far = tells-same far far' e }

pub moves-far : (near near' : Option (List LinkEntry)) (old now : Option (List LinkEntry)) (a : Act) → near' ≡ near → Tells old now (entries_of a) → Moves (sides near old) (sides near' now) (near_of (side.Far a)) (far_of (side.Far a))
moves-far near near' old now a e t = record { near = tells-same near near' e; far = t }

near-append : (xs ys : List BridgeAct) → near_entries (xs ++ ys) ≡ near_entries xs ++ near_entries ys
near-append [] ys = refl
near-append (x ∷ xs) ys = ap (λ (l : List LinkEntry). near_of x ++ l) (near-append xs ys) ∙ sym (append_assoc (near_of x) (near_entries xs) (near_entries ys))

far-append : (xs ys : List BridgeAct) → far_entries (xs ++ ys) ≡ far_entries xs ++ far_entries ys
far-append [] ys = refl
far-append (x ∷ xs) ys = ap (λ (l : List LinkEntry). far_of x ++ l) (far-append xs ys) ∙ sym (append_assoc (far_of x) (far_entries xs) (far_entries ys))

moves-as : (old now : Sides) (xs xs' ys ys' : List LinkEntry) → xs ≡ xs' → ys ≡ ys' → Moves old now xs ys → Moves old now xs' ys'
moves-as old now xs xs' ys ys' e f m = record { near = subst (λ (l : List LinkEntry). Tells old.near now.near l) e m.near; far = subst (λ (l : List LinkEntry). Tells old.far now.far l) f m.far }

-- one act more was done
pub performs-more : (old mid now : Sides) (done : List BridgeAct) (a : BridgeAct) → Performs old mid done → Moves mid now (near_of a) (far_of a) → Performs old now (done ++ a ∷ [])
performs-more old mid now done a p m =
    moves-as old now (near_entries done ++ near_of a) (near_entries (done ++ a ∷ [])) (far_entries done ++ far_of a) (far_entries (done ++ a ∷ []))
    (sym (near-append done (a ∷ []) ∙ ap (λ (l : List LinkEntry). near_entries done ++ l) (append-nil (near_of a))))
    (sym (far-append done (a ∷ []) ∙ ap (λ (l : List LinkEntry). far_entries done ++ l) (append-nil (far_of a))))
    (moves-more old mid now (near_entries done) (near_of a) (far_entries done) (far_of a) p m)

-- the next act failed
pub performs-breaks : (old mid now : Sides) (acts done rest : List BridgeAct) (a : BridgeAct) → acts ≡ done ++ a ∷ rest → Performs old mid done → now.near ≡ mid.near → now.far ≡ mid.far → Breaks old now acts
performs-breaks old mid now acts done rest a whole p n f = record {
  done = done;
  rest = a ∷ rest;
  whole = whole;
  moved =
      record {
        near = subst (λ (o : Option (List LinkEntry)). Tells old.near o (near_entries done)) (sym n) p.near;
        far = subst (λ (o : Option (List LinkEntry)). Tells old.far o (far_entries done)) (sym f) p.far;
      };
}

pub acts-at : (acts : List BridgeAct) (i : ℕ) (a : BridgeAct) → i < length acts → a ≡ get_or acts i a → acts ≡ take i acts ++ a ∷ drop (i + 1) acts
acts-at acts i a inside is =
    sym (take-append-drop i acts) ∙ ap (λ (l : List BridgeAct). take i acts ++ l) (drop_more acts i a inside ∙ ap (λ (x : BridgeAct). x ∷ drop (i + 1) acts) (sym is))

pub taken-more : (acts : List BridgeAct) (i : ℕ) (a : BridgeAct) → i < length acts → a ≡ get_or acts i a → take (i + 1) acts ≡ take i acts ++ a ∷ []
taken-more acts i a inside is = take_more acts i a inside ∙ ap (λ (x : BridgeAct). take i acts ++ x ∷ []) (sym is)

-- ---- rounds

near-tale-append : (xs ys : List Round) → near_tale (xs ++ ys) ≡ near_tale xs ++ near_tale ys
near-tale-append [] ys = refl
near-tale-append (x ∷ xs) ys =
    ap (λ (l : List LinkEntry). (x.near_read ++ near_entries x.acts) ++ l) (near-tale-append xs ys) ∙ sym (append_assoc (x.near_read ++ near_entries x.acts) (near_tale xs) (near_tale ys))

far-tale-append : (xs ys : List Round) → far_tale (xs ++ ys) ≡ far_tale xs ++ far_tale ys
far-tale-append [] ys = refl
far-tale-append (x ∷ xs) ys =
    ap (λ (l : List LinkEntry). (x.far_read ++ far_entries x.acts) ++ l) (far-tale-append xs ys) ∙ sym (append_assoc (x.far_read ++ far_entries x.acts) (far_tale xs) (far_tale ys))

pub done-more : (old mid now : Sides) (xs ys : List Round) → AreDone old mid xs → AreDone mid now ys → AreDone old now (xs ++ ys)
done-more old mid now xs ys a b =
    moves-as old now (near_tale xs ++ near_tale ys) (near_tale (xs ++ ys)) (far_tale xs ++ far_tale ys) (far_tale (xs ++ ys)) (sym (near-tale-append xs ys)) (sym (far-tale-append xs ys))
    (moves-more old mid now (near_tale xs) (near_tale ys) (far_tale xs) (far_tale ys) a b)

pub partly-more : (old mid now : Sides) (xs : List Round) (last : Round) → AreDone old mid xs → ArePartly mid now [] last → ArePartly old now xs last
partly-more old mid now xs last a b = record {
  done = b.done;
  rest = b.rest;
  whole = b.whole;
  moved = moves-more old mid now (near_tale xs) (last.near_read ++ near_entries b.done) (far_tale xs) (last.far_read ++ far_entries b.done) a b.moved;
}

-- a round: what was read, and then its acts
pub round-done : (old mid now : Sides) (round : Round) → Moves old mid round.near_read round.far_read → Performs mid now round.acts → AreDone old now (round ∷ [])
round-done old mid now round r p =
    moves-as old now (round.near_read ++ near_entries round.acts) (near_tale (round ∷ [])) (round.far_read ++ far_entries round.acts) (far_tale (round ∷ []))
    (sym (append-nil (round.near_read ++ near_entries round.acts))) (sym (append-nil (round.far_read ++ far_entries round.acts)))
    (moves-more old mid now round.near_read (near_entries round.acts) round.far_read (far_entries round.acts) r p)

pub round-cut : (old mid now : Sides) (round : Round) → Moves old mid round.near_read round.far_read → Breaks mid now round.acts → ArePartly old now [] round
round-cut old mid now round r b = record {
  done = b.done;
  rest = b.rest;
  whole = b.whole;
  moved = moves-more old mid now round.near_read (near_entries b.done) round.far_read (far_entries b.done) r b.moved;
}

-- ---- counts

pub later-more : (a b c : Counts) → AreLater a b → AreLater b c → AreLater a c
later-more a b c x y = record {
  near_reads = (let h = x.near_reads in let k = y.near_reads in omega (arith, h, k));
  near_writes = (let h = x.near_writes in let k = y.near_writes in omega (arith, h, k));
  far_reads = (let h = x.far_reads in let k = y.far_reads in omega (arith, h, k));
  far_writes = (let h = x.far_writes in let k = y.far_writes in omega (arith, h, k));
}

pub later-none : (a : Counts) → AreLater a a
later-none a = record { near_reads = omega arith; near_writes = omega arith; far_reads = omega arith; far_writes = omega arith }
