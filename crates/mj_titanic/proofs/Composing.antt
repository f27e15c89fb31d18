-- What was done in two parts was done whole.
use Rattle.std.proofs.Common.{◌≡◌, ◌⊎◌, ◌+◌, ◌<◌, ◌≤◌, ◌||◌, ℕ, Bool, true, false, List, [], ◌∷◌, ◌++◌, Option, None, refl, sym, ap, subst, ◌∙◌, inl, inr, arith, append_assoc}
use Rattle.std.proofs.lemmas.List.{append-nil}
use Rattle.std.proofs.lemmas.List.Folds.{list_any-append}
use Rattle.std.specs.List.{list_any}
use Rattle.mj_base.specs.declared.event.Note.{Note}
use Rattle.mj_base.specs.declared.event.Note.TheVariants as notes
use Rattle.mj_base.specs.declared.event.Out.{Out}
use Rattle.mj_base.specs.declared.event.Out.TheVariants as outs
use Rattle.mj_disk.specs.DiskModel.{History, LeavesOnly}
use Rattle.mj_disk.specs.declared.disk.Disk.{Ghosts}
use Rattle.mj_disk.proofs.Moments.{leaves_weaker}
use Rattle.mj_machine.specs.StoreState.{Store}
use Rattle.mj_machine.specs.MachineState.{Act, Whole}
use Rattle.mj_machine.specs.Acts.{Doing, ◌then◌}
use Rattle.mj_machine.specs.DiskActs.{notes_in, says_found, says_shut}
use Rattle.mj_titanic.specs.declared.fault.ActFault.{ActFault}
use Rattle.mj_keeper.specs.Standing.{GoesOn, IsOneOf}
use Rattle.mj_titanic.specs.Acting.{Agree, AreOf, Did, Ends, IsActFault, IsAt, IsRefused, Parts, RoseBy, Stopped, shut_count}

-- ---- notes

pub notes-append : (xs ys : List Out) → notes_in (xs ++ ys) ≡ notes_in xs ++ notes_in ys
notes-append [] ys = refl
notes-append (outs.Piece lane octets ∷ xs) ys = notes-append xs ys
notes-append (outs.End lane reason at ∷ xs) ys = notes-append xs ys
notes-append (outs.Note note ∷ xs) ys = ap (λ (ns : List Note). note ∷ ns) (notes-append xs ys)

pub count-append : (xs ys : List Note) → shut_count (xs ++ ys) ≡ shut_count xs + shut_count ys
count-append [] ys = omega arith
count-append (notes.Shut k ∷ xs) ys = let rest = count-append xs ys in omega (arith, rest)
count-append (notes.Again k found ∷ xs) ys = count-append xs ys

or_left : (a b : Bool) → b ≡ false → (a || b) ≡ a
or_left true b is = refl
or_left false b is = is

or_right : (a b : Bool) → a ≡ false → (a || b) ≡ b
or_right true b is = absurd (cc is)
or_right false b is = refl

or_cases : (a b : Bool) → (a || b) ≡ true → (a ≡ true) ⊎ (b ≡ true)
or_cases true b is = inl refl
or_cases false b is = inr is

-- what is true only inside a range is false outside
outside : (b : Bool) (low high k : ℕ) → (b ≡ true → (low ≤ k) × (k < high)) → (k < low) ⊎ (high ≤ k) → b ≡ false
outside false low high k within out = refl
outside true low high k within (inl below) = let is = within refl in absurd (omega (arith, is.0, below))
outside true low high k within (inr above) = let is = within refl in absurd (omega (arith, is.1, above))

any-first : (p : Note → Bool) (xs ys : List Note) → list_any p ys ≡ false → list_any p (xs ++ ys) ≡ list_any p xs
any-first p xs ys none = list_any-append p xs ys ∙ or_left (list_any p xs) (list_any p ys) none

any-second : (p : Note → Bool) (xs ys : List Note) → list_any p xs ≡ false → list_any p (xs ++ ys) ≡ list_any p ys
any-second p xs ys none = list_any-append p xs ys ∙ or_right (list_any p xs) (list_any p ys) none

module _ (first middle next : ℕ) (xs ys : List Note) (one : AreOf first middle xs) (two : AreOf middle next ys) where
  pub given-both : AreOf first next (xs ++ ys)
  given-both = record {
    onward = omega (arith, one.onward, two.onward);
    shut = λ k says. within k (one.shut k) (two.shut k) (or_cases _ _ (sym (list_any-append (says_shut k) xs ys) ∙ says));
    found = λ k says. within k (one.found k) (two.found k) (or_cases _ _ (sym (list_any-append (says_found k) xs ys) ∙ says));
  }
    where
      within : (k : ℕ) {A B : Type 0} → (A → (first ≤ k) × (k < middle)) → (B → (middle ≤ k) × (k < next)) → A ⊎ B → (first ≤ k) × (k < next)
      within k left right (inl a) = let is = left a in (is.0, omega (arith, is.1, two.onward))
      within k left right (inr b) = let is = right b in (omega (arith, is.0, one.onward), is.1)

  pub agree-first : (all : List Note) → Agree first next all (xs ++ ys) → Agree first middle all xs
  agree-first all agree k low high =
      let is = agree k low (omega (arith, high, two.onward)) in (
        is.0 ∙ any-first (says_shut k) xs ys (outside (list_any (says_shut k) ys) middle next k (two.shut k) (inl high)),
        is.1 ∙ any-first (says_found k) xs ys (outside (list_any (says_found k) ys) middle next k (two.found k) (inl high)),
      )

  pub agree-second : (all : List Note) → Agree first next all (xs ++ ys) → Agree middle next all ys
  agree-second all agree k low high =
      let is = agree k (omega (arith, low, one.onward)) high in (
        is.0 ∙ any-second (says_shut k) xs ys (outside (list_any (says_shut k) xs) first middle k (one.shut k) (inr low)),
        is.1 ∙ any-second (says_found k) xs ys (outside (list_any (says_found k) xs) first middle k (one.found k) (inr low)),
      )

-- ---- what a crash may leave

pub one-of-first : (xs ys : List Store) (image : List ℕ) → IsOneOf xs image → IsOneOf (xs ++ ys) image
one-of-first [] ys image is = absurd is
one-of-first (x ∷ xs) ys image (inl here) = inl here
one-of-first (x ∷ xs) ys image (inr there) = inr (one-of-first xs ys image there)

pub one-of-second : (xs ys : List Store) (image : List ℕ) → IsOneOf ys image → IsOneOf (xs ++ ys) image
one-of-second [] ys image is = is
one-of-second (x ∷ xs) ys image is = inr (one-of-second xs ys image is)

module _ {D : Type 0} (disks : Ghosts D) where
  pub goes-then : (disk middle after : D) (xs ys : List Store) → GoesOn disks disk middle xs → GoesOn disks middle after ys → GoesOn disks disk after (xs ++ ys)
  goes-then disk middle after xs ys one two start before all leaves =
      subst (λ (ss : List Store). LeavesOnly (start, disks.time after) before (disks.told after) (IsOneOf ss)) (append_assoc all xs ys)
      (two start before (all ++ xs) (one start before all leaves))

  -- more stores are said of it
  pub goes-more : (disk after : D) (xs ys : List Store) → GoesOn disks disk after xs → GoesOn disks disk after (xs ++ ys)
  goes-more disk after xs ys one start before all leaves =
      leaves_weaker (start, disks.time after) before (disks.told after) (IsOneOf (all ++ xs)) (IsOneOf (all ++ (xs ++ ys))) (one start before all leaves)
      (λ image is. subst (λ (ss : List Store). IsOneOf ss image) (append_assoc all xs ys) (one-of-first (all ++ xs) ys image is))

  pub goes-nowhere : (disk after : D) → disks.told after ≡ disks.told disk → disks.time disk ≤ disks.time after → GoesOn disks disk after []
  goes-nowhere disk after same later start before all leaves =
      subst (λ (ss : List Store). LeavesOnly (start, disks.time after) before (disks.told after) (IsOneOf ss)) (sym (append-nil all))
      (subst (λ (t : Option History). LeavesOnly (start, disks.time after) before t (IsOneOf all)) (sym same)
      (record { later = omega (arith, leaves.later, later); each = leaves.each; before = leaves.before }))

  -- ---- two parts

  rose-both : (m n before middle now : ℕ) → RoseBy m before middle → RoseBy n middle now → RoseBy (m + n) before now
  rose-both m n before middle now one two = (omega (arith, one.0, two.0), omega (arith, one.1, two.1, one.0, two.0))

  module _ (old : Parts) (disk : D) (mid : Parts) (between : D) (before outs_mid : List Out) (f : Act) (s : Whole → List Store) (one : Did disks old disk mid between before outs_mid f s) where
    pub did-then : (new : Parts) (after : D) (outs_new : List Out) (g : Act) (t : Whole → List Store) → Did disks mid between new after outs_mid outs_new g t
        → Did disks old disk new after before outs_new (λ w. f w then g) (λ w. s w ++ t (f w).0)
    did-then new after outs_new g t two = record {
      added = one.added ++ two.added;
      outs_are = two.outs_are ∙ ap (λ (o : List Out). o ++ two.added) one.outs_are ∙ append_assoc before one.added two.added;
      given = subst (λ (ns : List Note). AreOf old.acts new.acts ns) both (given-both old.acts mid.acts new.acts (notes_in one.added) (notes_in two.added) one.given two.given);
      ends = λ w at agree.
          let e = one.ends w at (front w agree) in
          let d = two.ends (f w).0 e.at (rest w e agree) in
          record { at = d.at; outs = ap (λ (o : List Out). o ++ (g (f w).0).1) e.outs ∙ ap (λ (o : List Out). one.added ++ o) d.outs; notes = d.notes ∙ e.notes };
      crash = λ w at agree.
          let e = one.ends w at (front w agree) in
          goes-then disk between after (s w) (t (f w).0) (one.crash w at (front w agree)) (two.crash (f w).0 e.at (rest w e agree));
      count = subst (λ (n : ℕ). RoseBy n (disks.faults disk) (disks.faults after)) (sym (count-append (notes_in one.added) (notes_in two.added)) ∙ ap shut_count both)
          (rose-both (shut_count (notes_in one.added)) (shut_count (notes_in two.added)) (disks.faults disk) (disks.faults between) (disks.faults after) one.count two.count);
      silent = λ none. one.silent (two.silent none);
      plain = λ absent. let p = one.plain absent in let q = two.plain p.0 in (q.0, q.1 ∙ p.1);
    }
      where
        both : notes_in one.added ++ notes_in two.added ≡ notes_in (one.added ++ two.added)
        both = sym (notes-append one.added two.added)

        split : (w : Whole) → Agree old.acts new.acts w.notes (notes_in (one.added ++ two.added)) → Agree old.acts new.acts w.notes (notes_in one.added ++ notes_in two.added)
        split w agree = subst (λ (ns : List Note). Agree old.acts new.acts w.notes ns) (sym both) agree

        front : (w : Whole) → Agree old.acts new.acts w.notes (notes_in (one.added ++ two.added)) → Agree old.acts mid.acts w.notes (notes_in one.added)
        front w agree = agree-first old.acts mid.acts new.acts (notes_in one.added) (notes_in two.added) one.given two.given w.notes (split w agree)

        rest : (w : Whole) → Ends disks mid between one.added w (f w) → Agree old.acts new.acts w.notes (notes_in (one.added ++ two.added)) → Agree mid.acts new.acts (f w).0.notes (notes_in two.added)
        rest w e agree =
            subst (λ (ns : List Note). Agree mid.acts new.acts ns (notes_in two.added)) (sym e.notes)
            (agree-second old.acts mid.acts new.acts (notes_in one.added) (notes_in two.added) one.given two.given w.notes (split w agree))

    -- the second part ended early
    pub did-stopped : (fault : ActFault) (after : D) (g : Act) (t : Whole → List Store) → Stopped disks fault mid between after t
        → Stopped disks fault old disk after (λ w. s w ++ t (f w).0)
    did-stopped fault after g t two = record {
      some = notes_in one.added ++ two.some;
      upto = two.upto;
      given = given-both old.acts mid.acts two.upto (notes_in one.added) two.some one.given two.given;
      crash = λ w at agree.
          let front = agree-first old.acts mid.acts two.upto (notes_in one.added) two.some one.given two.given w.notes agree in
          let e = one.ends w at front in
          let rest = subst (λ (ns : List Note). Agree mid.acts two.upto ns two.some) (sym e.notes)
          (agree-second old.acts mid.acts two.upto (notes_in one.added) two.some one.given two.given w.notes agree) in
          goes-then disk between after (s w) (t (f w).0) (one.crash w at front) (two.crash (f w).0 e.at rest);
      count = omega (arith, one.count.0, two.count);
      kind = two.kind;
      refused = λ is. one.silent (two.refused is);
      plain = λ absent. let p = one.plain absent in two.plain p.0 ∙ p.1;
    }

  -- the first part ended early
  pub stopped-then : (fault : ActFault) (old : Parts) (disk after : D) (s t : Whole → List Store) → Stopped disks fault old disk after s
      → Stopped disks fault old disk after (λ w. s w ++ t w)
  stopped-then fault old disk after s t one = record {
    some = one.some;
    upto = one.upto;
    given = one.given;
    crash = λ w at agree. goes-more disk after (s w) (t w) (one.crash w at agree);
    count = one.count;
    kind = one.kind;
    refused = one.refused;
    plain = one.plain;
  }

  -- ---- an act that is the same where the code is, with the same stores

  pub did-as : (old : Parts) (disk : D) (new : Parts) (after : D) (before outs : List Out) (f g : Act) (s t : Whole → List Store) → Did disks old disk new after before outs f s
      → ((w : Whole) → IsAt disks old disk w → f w ≡ g w) → ((w : Whole) → IsAt disks old disk w → s w ≡ t w) → Did disks old disk new after before outs g t
  did-as old disk new after before outs f g s t did same stores = record {
    added = did.added;
    outs_are = did.outs_are;
    given = did.given;
    ends = λ w at agree. subst (λ (d : Doing Whole Out). Ends disks new after did.added w d) (same w at) (did.ends w at agree);
    crash = λ w at agree. subst (λ (ss : List Store). GoesOn disks disk after ss) (stores w at) (did.crash w at agree);
    count = did.count;
    silent = did.silent;
    plain = did.plain;
  }

  pub stopped-as : (fault : ActFault) (old : Parts) (disk after : D) (s t : Whole → List Store) → Stopped disks fault old disk after s
      → ((w : Whole) → IsAt disks old disk w → s w ≡ t w) → Stopped disks fault old disk after t
  stopped-as fault old disk after s t stopped stores = record {
    some = stopped.some;
    upto = stopped.upto;
    given = stopped.given;
    crash = λ w at agree. subst (λ (ss : List Store). GoesOn disks disk after ss) (stores w at) (stopped.crash w at agree);
    count = stopped.count;
    kind = stopped.kind;
    refused = stopped.refused;
    plain = stopped.plain;
  }

  -- nothing was done
  pub did-nothing : (old : Parts) (disk : D) (before : List Out) → Did disks old disk old disk before before (λ w. (w, [])) (λ w. [])
  did-nothing old disk before = record {
    added = [];
    outs_are = sym (append-nil before);
    given = record { onward = omega arith; shut = λ k says. absurd (cc says); found = λ k says. absurd (cc says) };
    ends = λ w at agree. record { at = at; outs = refl; notes = refl };
    crash = λ w at agree. goes-nowhere disk disk refl (omega arith);
    count = (omega arith, omega arith);
    silent = λ none. none;
    plain = λ absent. (absent, refl);
  }

  -- it ended before anything was done
  pub stopped-still : (fault : ActFault) (old : Parts) (disk : D) (stores : Whole → List Store) → IsActFault fault → (IsRefused fault → disks.told disk ≡ None) → Stopped disks fault old disk disk stores
  stopped-still fault old disk stores kind refused = record {
    some = [];
    upto = old.acts;
    given = record { onward = omega arith; shut = λ k says. absurd (cc says); found = λ k says. absurd (cc says) };
    crash = λ w at agree. goes-more disk disk [] (stores w) (goes-nowhere disk disk refl (omega arith));
    count = omega arith;
    kind = kind;
    refused = refused;
    plain = λ absent. refl;
  }

  -- and the disk was left as it was
  pub stopped-unmoved : (fault : ActFault) (old : Parts) (disk after : D) (stores : Whole → List Store) → after ≡ disk → IsActFault fault → (IsRefused fault → disks.told disk ≡ None) → Stopped disks fault old disk after stores
  stopped-unmoved fault old disk after stores same kind refused =
      subst (λ (d : D). Stopped disks fault old disk d stores) (sym same) (stopped-still fault old disk stores kind refused)

  -- it was done, and then given up
  pub did-given-up : (old : Parts) (disk : D) (new : Parts) (after : D) (before outs : List Out) (f : Act) (s : Whole → List Store) → Did disks old disk new after before outs f s
      → (fault : ActFault) → IsActFault fault → (IsRefused fault → disks.told disk ≡ None) → Stopped disks fault old disk after s
  did-given-up old disk new after before outs f s did fault kind refused = record {
    some = notes_in did.added;
    upto = new.acts;
    given = did.given;
    crash = did.crash;
    count = did.count.0;
    kind = kind;
    refused = refused;
    plain = λ absent. (did.plain absent).1;
  }

  -- to the same parts
  pub did-to : (old : Parts) (disk : D) (new same : Parts) (after : D) (before outs : List Out) (f : Act) (s : Whole → List Store) → new ≡ same → Did disks old disk new after before outs f s
      → Did disks old disk same after before outs f s
  did-to old disk new same after before outs f s is did = subst (λ (p : Parts). Did disks old disk p after before outs f s) is did
