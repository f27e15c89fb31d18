-- What a link tells and what a sink has got, one thing behind the other.
use Rattle.std.proofs.Common.{◌≡◌, ℕ, List, [], ◌∷◌, ◌++◌, refl, sym, ap, subst, ◌∙◌, append_assoc, append-nil, Option, None, Some}
use Rattle.std.specs.Io.KnownBytes.{Appends, Keeps}
use Rattle.mj_base.specs.Linking.{Tells}
use Rattle.mj_base.specs.declared.link.LinkEntry.{LinkEntry}
use Rattle.mj_peering.specs.Performing.{Moves, Places}

pub tells-same : (old now : Option (List LinkEntry)) → now ≡ old → Tells old now []
tells-same None now e = e
tells-same (Some xs) now e = e ∙ ap Some (sym (append-nil xs))

pub tells-more : (old mid now : Option (List LinkEntry)) (xs ys : List LinkEntry) → Tells old mid xs → Tells mid now ys → Tells old now (xs ++ ys)
tells-more None mid now xs ys a b = subst (λ (m : Option (List LinkEntry)). Tells m now ys) a b
tells-more (Some ts) mid now xs ys a b = subst (λ (m : Option (List LinkEntry)). Tells m now ys) a b ∙ ap Some (append_assoc ts xs ys)

pub appends-kept : (old now : Option (List ℕ)) → Keeps old now → Appends old now []
appends-kept None now k = tt
appends-kept (Some xs) None k = k
appends-kept (Some xs) (Some ys) k = k ∙ sym (append-nil xs)

pub appends-same : (old now : Option (List ℕ)) → now ≡ old → Appends old now []
appends-same None now e = tt
appends-same (Some xs) now e = subst (λ (n : Option (List ℕ)). Appends (Some xs) n []) (sym e) (sym (append-nil xs))

pub appends-more : (old mid now : Option (List ℕ)) (xs ys : List ℕ) → Appends old mid xs → Appends mid now ys → Appends old now (xs ++ ys)
appends-more None mid now xs ys a b = tt
appends-more (Some ts) None now xs ys a b = absurd a
appends-more (Some ts) (Some ms) None xs ys a b = absurd b
appends-more (Some ts) (Some ms) (Some ns) xs ys a b = b ∙ ap (λ (l : List ℕ). l ++ ys) a ∙ append_assoc ts xs ys

pub moves-more : (old mid now : Places) (xs xs' : List LinkEntry) (ys ys' : List ℕ) → Moves old mid xs ys → Moves mid now xs' ys' → Moves old now (xs ++ xs') (ys ++ ys')
moves-more old mid now xs xs' ys ys' a b =
    record { told = tells-more old.told mid.told now.told xs xs' a.told b.told; got = appends-more old.got mid.got now.got ys ys' a.got b.got }

pub moves-none : (old : Places) → Moves old old [] []
moves-none old = record { told = tells-same old.told old.told refl; got = appends-same old.got old.got refl }
