-- An act on the disk, and what follows it.
use Rattle.std.proofs.Common.{◌≡◌, ◌⊎◌, ℕ, List, [], ◌∷◌, ◌++◌, refl, sym, ap, subst, ◌∙◌, inl, inr}
use Rattle.std.proofs.lemmas.List.{append-nil}
use Rattle.mj_base.specs.declared.event.Out.{Out}
use Rattle.mj_disk.specs.declared.disk.Disk.{Ghosts}
use Rattle.mj_disk.proofs.Moments.{leaves_weaker}
use Rattle.mj_machine.specs.StoreState.{Store}
use Rattle.mj_machine.specs.MachineState.{Act, Whole}
use Rattle.mj_machine.specs.Acts.{Doing, quiet, ◌then◌}
use Rattle.mj_machine.specs.DiskActs.{opening}
use Rattle.mj_titanic.specs.declared.fault.ActFault.{ActFault}
use Rattle.mj_keeper.specs.Standing.{GoesOn, IsOneOf, MayLeave}
use Rattle.mj_titanic.specs.Acting.{Did, IsAt, Parts, Stopped, around, nowhere}
use Rattle.mj_titanic.proofs.Composing.{did-as, did-stopped, did-then, one-of-first, one-of-second, stopped-as}
use Rattle.mj_titanic.proofs.Continuing.{KeepsStore, after, opening-after, opening-leaves}

-- each image of the one list is one of the other
abbrev pub AreAmong : List Store → List Store → Type 0
AreAmong xs ys = (image : List ℕ) → IsOneOf xs image → IsOneOf ys image

one-of-both : (xs ys : List Store) (image : List ℕ) → IsOneOf (xs ++ ys) image → IsOneOf xs image ⊎ IsOneOf ys image
one-of-both [] ys image is = inr is
one-of-both (x ∷ xs) ys image (inl here) = inl (inl here)
one-of-both (x ∷ xs) ys image (inr there) = by (one-of-both xs ys image there)
  where
    by : IsOneOf xs image ⊎ IsOneOf ys image → IsOneOf (x ∷ xs) image ⊎ IsOneOf ys image
    by (inl a) = inl (inr a)
    by (inr b) = inr b

among-behind : (all xs ys : List Store) → AreAmong xs ys → AreAmong (all ++ xs) (all ++ ys)
among-behind all xs ys among image is = by (one-of-both all xs image is)
  where
    by : IsOneOf all image ⊎ IsOneOf xs image → IsOneOf (all ++ ys) image
    by (inl a) = one-of-first all ys image a
    by (inr b) = one-of-second all ys image (among image b)

module _ {D : Type 0} (disks : Ghosts D) where
  pub goes-among : (disk after : D) (xs ys : List Store) → AreAmong xs ys → GoesOn disks disk after xs → GoesOn disks disk after ys
  goes-among disk after xs ys among one start before all leaves =
      leaves_weaker (start, disks.time after) before (disks.told after) (IsOneOf (all ++ xs)) (IsOneOf (all ++ ys)) (one start before all leaves) (among-behind all xs ys among)

  pub did-among : (old : Parts) (disk : D) (new : Parts) (after : D) (before outs : List Out) (f : Act) (s t : Whole → List Store) → Did disks old disk new after before outs f s
      → ((w : Whole) → IsAt disks old disk w → AreAmong (s w) (t w)) → Did disks old disk new after before outs f t
  did-among old disk new after before outs f s t did among = record {
    added = did.added;
    outs_are = did.outs_are;
    given = did.given;
    ends = did.ends;
    crash = λ w at agree. goes-among disk after (s w) (t w) (among w at) (did.crash w at agree);
    count = did.count;
    silent = did.silent;
    plain = did.plain;
  }

  pub stopped-among : (fault : ActFault) (old : Parts) (disk after : D) (s t : Whole → List Store) → Stopped disks fault old disk after s
      → ((w : Whole) → IsAt disks old disk w → AreAmong (s w) (t w)) → Stopped disks fault old disk after t
  stopped-among fault old disk after s t stopped among = record {
    some = stopped.some;
    upto = stopped.upto;
    given = stopped.given;
    crash = λ w at agree. goes-among disk after (s w) (t w) (among w at) (stopped.crash w at agree);
    count = stopped.count;
    kind = stopped.kind;
    refused = stopped.refused;
    plain = stopped.plain;
  }

  -- another act that is the same where the code is
  pub did-same : (old : Parts) (disk : D) (new : Parts) (after : D) (before outs : List Out) (f g : Act) → Did disks old disk new after before outs f (around f)
      → ((w : Whole) → IsAt disks old disk w → f w ≡ g w) → Did disks old disk new after before outs g (around g)
  did-same old disk new after before outs f g did same =
      did-as disks old disk new after before outs f g (around f) (around g) did same (λ w at. ap (λ (d : Doing Whole Out). w.store ∷ d.0.store ∷ []) (same w at))

  pub stopped-same : (fault : ActFault) (old : Parts) (disk after : D) (f g : Act) → Stopped disks fault old disk after (around f)
      → ((w : Whole) → IsAt disks old disk w → f w ≡ g w) → Stopped disks fault old disk after (around g)
  stopped-same fault old disk after f g stopped same =
      stopped-as disks fault old disk after (around f) (around g) stopped (λ w at. ap (λ (d : Doing Whole Out). w.store ∷ d.0.store ∷ []) (same w at))

  -- what is routed, as an act with the stores around it
  pub did-around : (old : Parts) (disk : D) (new : Parts) (after : D) (before outs : List Out) (f : Act) → Did disks old disk new after before outs f nowhere → Did disks old disk new after before outs f (around f)
  did-around old disk new after before outs f did = did-among old disk new after before outs f nowhere (around f) did (λ w at image none. absurd none)

  pub stopped-around : (fault : ActFault) (old : Parts) (disk after : D) (f : Act) → Stopped disks fault old disk after nowhere → Stopped disks fault old disk after (around f)
  stopped-around fault old disk after f stopped = stopped-among fault old disk after nowhere (around f) stopped (λ w at image none. absurd none)

  -- ---- an act, and then one that leaves the store

  module _ (old : Parts) (disk : D) (f rest whole : Act) (keeps : KeepsStore rest) (are : (w : Whole) → IsAt disks old disk w → whole w ≡ (f w then rest)) where
    acted-among : (w : Whole) → IsAt disks old disk w → AreAmong (around f w) (around whole w)
    acted-among w at image (inl here) = inl here
    acted-among w at image (inr (inr none)) = absurd none
    acted-among w at image (inr (inl there)) =
        inr (inl (subst (λ (s : Store). MayLeave s image) (sym (ap (λ (d : Doing Whole Out). d.0.store) (are w at) ∙ keeps (f w).0)) there))

    pub acted-then : (mid : Parts) (between : D) (new : Parts) (after : D) (before outs_mid outs : List Out) (t : Act) → Did disks old disk mid between before outs_mid f (around f)
        → Did disks mid between new after outs_mid outs t nowhere → ((v : Whole) → IsAt disks mid between v → t v ≡ rest v)
        → Did disks old disk new after before outs whole (around whole)
    acted-then mid between new after before outs_mid outs t one two same =
        let then_rest = did-as disks mid between new after outs_mid outs t rest nowhere nowhere two same (λ v at. refl) in
        did-as disks old disk new after before outs (λ w. f w then rest) whole (around whole) (around whole)
        (did-among old disk new after before outs (λ w. f w then rest) (λ w. around f w ++ []) (around whole)
        (did-then disks old disk mid between before outs_mid f (around f) one new after outs rest nowhere then_rest)
        (λ w at image is. acted-among w at image (subst (λ (ss : List Store). IsOneOf ss image) (append-nil (around f w)) is)))
        (λ w at. sym (are w at)) (λ w at. refl)

    pub acted-stopped : (fault : ActFault) (after : D) → Stopped disks fault old disk after (around f) → Stopped disks fault old disk after (around whole)
    acted-stopped fault after stopped = stopped-among fault old disk after (around f) (around whole) stopped acted-among

    pub acted-then-stopped : (mid : Parts) (between : D) (before outs_mid : List Out) (fault : ActFault) (after : D) → Did disks old disk mid between before outs_mid f (around f)
        → Stopped disks fault mid between after nowhere → Stopped disks fault old disk after (around whole)
    acted-then-stopped mid between before outs_mid fault after one two =
        stopped-among fault old disk after (λ w. around f w ++ []) (around whole)
        (did-stopped disks old disk mid between before outs_mid f (around f) one fault after rest nowhere two)
        (λ w at image is. acted-among w at image (subst (λ (ss : List Store). IsOneOf ss image) (append-nil (around f w)) is))

  -- ---- an opening again, and then another act

  module _ (old : Parts) (disk : D) (failed done : Act) where
    -- the images around it are those in front of it
    opened-first : (w : Whole) (ss : List Store) → AreAmong (around (opening quiet quiet) w) (w.store ∷ ss)
    opened-first w ss image (inl here) = inl here
    opened-first w ss image (inr (inl there)) = inl (opening-leaves w image there)
    opened-first w ss image (inr (inr none)) = absurd none

    opened-among : (w : Whole) → AreAmong (around (opening quiet quiet) w ++ around (after failed done) (opening quiet quiet w).0) (around (opening failed done) w)
    opened-among w image is = by (one-of-both (around (opening quiet quiet) w) (around (after failed done) (opening quiet quiet w).0) image is)
      where
        by : IsOneOf (around (opening quiet quiet) w) image ⊎ IsOneOf (around (after failed done) (opening quiet quiet w).0) image → IsOneOf (around (opening failed done) w) image
        by (inl first) = opened-first w ((opening failed done w).0.store ∷ []) image first
        by (inr (inl second)) = inl (opening-leaves w image second)
        by (inr (inr (inl third))) = inr (inl (subst (λ (s : Store). MayLeave s image) (sym (ap (λ (d : Doing Whole Out). d.0.store) (opening-after failed done w))) third))
        by (inr (inr (inr none))) = absurd none

    pub opened-then : (mid : Parts) (between : D) (new : Parts) (end : D) (before outs_mid outs : List Out) (t : Act) → Did disks old disk mid between before outs_mid (opening quiet quiet) (around (opening quiet quiet))
        → Did disks mid between new end outs_mid outs t (around t) → ((v : Whole) → IsAt disks mid between v → t v ≡ after failed done v)
        → Did disks old disk new end before outs (opening failed done) (around (opening failed done))
    opened-then mid between new end before outs_mid outs t one two same =
        let then_rest = did-same mid between new end outs_mid outs t (after failed done) two same in
        did-as disks old disk new end before outs (λ w. opening quiet quiet w then after failed done) (opening failed done) (around (opening failed done)) (around (opening failed done))
        (did-among old disk new end before outs (λ w. opening quiet quiet w then after failed done)
        (λ w. around (opening quiet quiet) w ++ around (after failed done) (opening quiet quiet w).0) (around (opening failed done))
        (did-then disks old disk mid between before outs_mid (opening quiet quiet) (around (opening quiet quiet)) one new end outs (after failed done) (around (after failed done)) then_rest)
        (λ w at. opened-among w))
        (λ w at. sym (opening-after failed done w)) (λ w at. refl)

    pub opened-stopped : (fault : ActFault) (end : D) → Stopped disks fault old disk end (around (opening quiet quiet)) → Stopped disks fault old disk end (around (opening failed done))
    opened-stopped fault end stopped =
        stopped-among fault old disk end (around (opening quiet quiet)) (around (opening failed done)) stopped (λ w at. opened-first w ((opening failed done w).0.store ∷ []))

    pub opened-then-stopped : (mid : Parts) (between : D) (before outs_mid : List Out) (fault : ActFault) (end : D) (t : Act) → Did disks old disk mid between before outs_mid (opening quiet quiet) (around (opening quiet quiet))
        → Stopped disks fault mid between end (around t) → ((v : Whole) → IsAt disks mid between v → t v ≡ after failed done v)
        → Stopped disks fault old disk end (around (opening failed done))
    opened-then-stopped mid between before outs_mid fault end t one two same =
        let then_rest = stopped-same fault mid between end t (after failed done) two same in
        stopped-among fault old disk end (λ w. around (opening quiet quiet) w ++ around (after failed done) (opening quiet quiet w).0) (around (opening failed done))
        (did-stopped disks old disk mid between before outs_mid (opening quiet quiet) (around (opening quiet quiet)) one fault end (after failed done) (around (after failed done)) then_rest)
        (λ w at. opened-among w)
