-- What a link tells and what a sink has got, one thing behind the other.
use Rattle.std.proofs.Common.{◌≡◌, ℕ, List, [], ◌∷◌, ◌++◌, take, drop, refl, sym, ap, subst, ◌∙◌, append_assoc, append-nil, Option, None, Some, ◌+◌, ◌<◌, ◌≤◌, length, get_or, arith}
use Rattle.std.proofs.lemmas.List.{drop_more, take-append-drop, take_more}
use Rattle.std.specs.Io.KnownBytes.{Appends, Keeps}
use Rattle.mj_base.specs.Linking.{Tells}
use Rattle.mj_base.specs.declared.link.LinkEntry.{LinkEntry}
use Rattle.mj_peer.specs.declared.act.Act.{Act}
use Rattle.mj_peering.specs.Performing.{AreLater, Breaks, Counts, Moves, Performs, Places, entries, entries_of, line_of, lines}

pub tells-same : (old now : Option (List LinkEntry)) → now ≡ old → Tells old now []
tells-same None now e = e
tells-same (Some xs) now e = e ∙ ap Some (sym (append-nil xs))

pub tells-more : (old mid now : Option (List LinkEntry)) (xs ys : List LinkEntry) → Tells old mid xs → Tells mid now ys → Tells old now (xs ++ ys)
tells-more None mid now xs ys a b = subst (λ (m : Option (List LinkEntry)). Tells m now ys) a b
tells-more (Some ts) mid now xs ys a b = subst (λ (m : Option (List LinkEntry)). Tells m now ys) a b ∙ ap Some (append_assoc ts xs ys)

pub appends-kept : (old now : Option (List ℕ)) → Keeps old now → Appends old now []
appends-kept None now k = tt
appends-kept (Some xs) None k = k
appends-kept (Some xs) (Some ys) k = k ∙ sym (append-nil xs)

pub appends-same : (old now : Option (List ℕ)) → now ≡ old → Appends old now []
appends-same None now e = tt
appends-same (Some xs) now e = subst (λ (n : Option (List ℕ)). Appends (Some xs) n []) (sym e) (sym (append-nil xs))

pub appends-more : (old mid now : Option (List ℕ)) (xs ys : List ℕ) → Appends old mid xs → Appends mid now ys → Appends old now (xs ++ ys)
appends-more None mid now xs ys a b = tt
appends-more (Some ts) None now xs ys a b = absurd a
appends-more (Some ts) (Some ms) None xs ys a b = absurd b
appends-more (Some ts) (Some ms) (Some ns) xs ys a b = b ∙ ap (λ (l : List ℕ). l ++ ys) a ∙ append_assoc ts xs ys

pub moves-more : (old mid now : Places) (xs xs' : List LinkEntry) (ys ys' : List ℕ) → Moves old mid xs ys → Moves mid now xs' ys' → Moves old now (xs ++ xs') (ys ++ ys')
moves-more old mid now xs xs' ys ys' a b =
    record { told = tells-more old.told mid.told now.told xs xs' a.told b.told; got = appends-more old.got mid.got now.got ys ys' a.got b.got }

pub moves-none : (old : Places) → Moves old old [] []
moves-none old = record { told = tells-same old.told old.told refl; got = appends-same old.got old.got refl }

-- ---- acts

pub entries-append : (xs ys : List Act) → entries (xs ++ ys) ≡ entries xs ++ entries ys
entries-append [] ys = refl
entries-append (x ∷ xs) ys = ap (λ (l : List LinkEntry). entries_of x ++ l) (entries-append xs ys) ∙ sym (append_assoc (entries_of x) (entries xs) (entries ys))

pub lines-append : (xs ys : List Act) → lines (xs ++ ys) ≡ lines xs ++ lines ys
lines-append [] ys = refl
lines-append (x ∷ xs) ys = ap (λ (l : List ℕ). line_of x ++ l) (lines-append xs ys) ∙ sym (append_assoc (line_of x) (lines xs) (lines ys))

-- one act more was done
pub performs-more : (old mid now : Places) (done : List Act) (a : Act) → Performs old mid done → Moves mid now (entries_of a) (line_of a) → Performs old now (done ++ a ∷ [])
performs-more old mid now done a p m =
    let both = moves-more old mid now (entries done) (entries_of a) (lines done) (line_of a) p m in
    let e : entries (done ++ a ∷ []) ≡ entries done ++ entries_of a = entries-append done (a ∷ []) ∙ ap (λ (l : List LinkEntry). entries done ++ l) (append-nil (entries_of a)) in
    let l : lines (done ++ a ∷ []) ≡ lines done ++ line_of a = lines-append done (a ∷ []) ∙ ap (λ (l : List ℕ). lines done ++ l) (append-nil (line_of a)) in
    subst (λ (y : List ℕ). Moves old now (entries (done ++ a ∷ [])) y) (sym l) (subst (λ (x : List LinkEntry). Moves old now x (lines done ++ line_of a)) (sym e) both)

-- the next act failed, with a front of its line printed
pub performs-breaks : (old mid now : Places) (acts done rest : List Act) (a : Act) (n : ℕ) → acts ≡ done ++ a ∷ rest → Performs old mid done → Moves mid now [] (take n (line_of a)) → Breaks old now acts
performs-breaks old mid now acts done rest a n whole p m = record {
  done = done;
  rest = a ∷ rest;
  whole = whole;
  n = n;
  moved =
      let both = moves-more old mid now (entries done) [] (lines done) (take n (line_of a)) p m in
      let line : lines (take 1 (a ∷ rest)) ≡ line_of a = append-nil (line_of a) in
      subst (λ (y : List ℕ). Moves old now (entries done) (lines done ++ take n y)) (sym line)
      (subst (λ (x : List LinkEntry). Moves old now x (lines done ++ take n (line_of a))) (append-nil (entries done)) both);
}

-- the acts up to a place, and the one at it
pub acts-at : (acts : List Act) (i : ℕ) (a : Act) → i < length acts → a ≡ get_or acts i a → acts ≡ take i acts ++ a ∷ drop (i + 1) acts
acts-at acts i a inside is =
    sym (take-append-drop i acts) ∙ ap (λ (l : List Act). take i acts ++ l) (drop_more acts i a inside ∙ ap (λ (x : Act). x ∷ drop (i + 1) acts) (sym is))

pub taken-more : (acts : List Act) (i : ℕ) (a : Act) → i < length acts → a ≡ get_or acts i a → take (i + 1) acts ≡ take i acts ++ a ∷ []
taken-more acts i a inside is = take_more acts i a inside ∙ ap (λ (x : Act). take i acts ++ x ∷ []) (sym is)

-- ---- counts

pub later-more : (a b c : Counts) → AreLater a b → AreLater b c → AreLater a c
later-more a b c x y = record {
  reads = (let h = x.reads in let k = y.reads in omega (arith, h, k));
  writes = (let h = x.writes in let k = y.writes in omega (arith, h, k));
  prints = (let h = x.prints in let k = y.prints in omega (arith, h, k));
  wants = (let h = x.wants in let k = y.wants in omega (arith, h, k));
}

pub later-none : (a : Counts) → AreLater a a
later-none a = record { reads = le-refl a.reads; writes = le-refl a.writes; prints = le-refl a.prints; wants = le-refl a.wants }
  where
    le-refl : (n : ℕ) → n ≤ n
    le-refl n = omega arith
