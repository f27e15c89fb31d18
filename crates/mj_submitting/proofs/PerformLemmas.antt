-- Effects performed, one behind the other.
use Rattle.std.proofs.Common.{◌≡◌, ℕ, ◌+◌, ◌<◌, ◌≤◌, List, [], ◌∷◌, ◌++◌, map, take, drop, length, get_or, Option, None, Some, is_some, refl, sym, ap, subst, ◌∙◌, inl, inr, append_assoc, append-nil, arith}
use Rattle.std.specs.Option.{option_and_then}
use Rattle.std.specs.Io.KnownBytes.{Appends}
use Rattle.std.proofs.lemmas.List.{drop_more, take-append-drop, take_more}
use Rattle.mj_base.specs.Linking.{Tells}
use Rattle.mj_base.specs.declared.link.LinkEntry.{LinkEntry}
use Rattle.mj_disk.specs.DiskModel.{History, LeavesOnly, Now, latest}
use Rattle.mj_disk.specs.Content.{IsImage}
use Rattle.mj_disk.specs.declared.disk.Disk.{Ghosts}
use Rattle.mj_disk.proofs.Moments as moments
use Rattle.mj_disk.proofs.Moments.{leaves_weaker, then_leaves}
use Rattle.mj_peering.specs.Performing.{AreLater, Counts, Moves, places}
use Rattle.mj_submitting.proofs.PlaceLemmas.{appends-same, moves-more, moves-none, tells-same}
use Rattle.mj_submit.specs.Notes.{notes_from, payload_of, with_note}
use Rattle.mj_submit.specs.declared.note.Note.{Note}
use Rattle.mj_submit.specs.declared.progress.Progress.{Progress}
use Rattle.mj_submit_file.specs.Files.{AppendsNote, Holds, IsEither, IsFile, IsHeld, LeavesEither}
use Rattle.mj_submit_file.specs.declared.file.SubmitFile.{SubmitFile}
use Rattle.mj_submit_file.proofs.AppendLemmas.{settled-file}
use Rattle.mj_submitter.specs.declared.effect.Effect.{Effect}
use Rattle.mj_submitter.specs.declared.effect.Effect.TheVariants as effect
use Rattle.mj_submitting.specs.Performing.{Adds, AreNext, Breaks, FailsAt, IsFront, IsNext, LeavesFronts, Performs, World, entries, entries_of, line_of, lines, notes, notes_of, with_notes}

-- ---- lists

entries-append : (xs ys : List Effect) → entries (xs ++ ys) ≡ entries xs ++ entries ys
entries-append [] ys = refl
entries-append (x ∷ xs) ys = ap (λ (l : List LinkEntry). entries_of x ++ l) (entries-append xs ys) ∙ sym (append_assoc (entries_of x) (entries xs) (entries ys))

lines-append : (xs ys : List Effect) → lines (xs ++ ys) ≡ lines xs ++ lines ys
lines-append [] ys = refl
lines-append (x ∷ xs) ys = ap (λ (l : List ℕ). line_of x ++ l) (lines-append xs ys) ∙ sym (append_assoc (line_of x) (lines xs) (lines ys))

pub notes-append : (xs ys : List Effect) → notes (xs ++ ys) ≡ notes xs ++ notes ys
notes-append [] ys = refl
notes-append (x ∷ xs) ys = ap (λ (l : List Note). notes_of x ++ l) (notes-append xs ys) ∙ sym (append_assoc (notes_of x) (notes xs) (notes ys))

from-nothing : (o : Option Progress) → option_and_then (notes_from []) o ≡ o
from-nothing None = refl
from-nothing (Some p) = refl

behind-note : (xs ys : List Note) (o : Option Progress) → ((p : Progress) → notes_from (xs ++ ys) p ≡ option_and_then (notes_from ys) (notes_from xs p)) → option_and_then (notes_from (xs ++ ys)) o ≡ option_and_then (notes_from ys) (option_and_then (notes_from xs) o)
behind-note xs ys None more = refl
behind-note xs ys (Some p) more = more p

pub from-append : (xs ys : List Note) (p : Progress) → notes_from (xs ++ ys) p ≡ option_and_then (notes_from ys) (notes_from xs p)
from-append [] ys p = refl
from-append (x ∷ xs) ys p = behind-note xs ys (with_note p x) (λ q. from-append xs ys q)

payloads-append : (xs ys : List Note) → map payload_of (xs ++ ys) ≡ map payload_of xs ++ map payload_of ys
payloads-append [] ys = refl
payloads-append (x ∷ xs) ys = ap (λ (l : List (List ℕ)). payload_of x ∷ l) (payloads-append xs ys)

with-append : (payloads : List (List ℕ)) (xs ys : List Note) → with_notes (with_notes payloads xs) ys ≡ with_notes payloads (xs ++ ys)
with-append payloads xs ys = append_assoc payloads (map payload_of xs) (map payload_of ys) ∙ ap (λ (l : List (List ℕ)). payloads ++ l) (sym (payloads-append xs ys))

-- ---- images

front-more : (payloads : List (List ℕ)) (xs ys : List Note) (image : List ℕ) → IsFront payloads xs image → IsFront payloads (xs ++ ys) image
front-more payloads xs ys image f = (f.0, f.1 ++ ys, ap (λ (l : List Note). l ++ ys) f.2 ∙ append_assoc f.0 f.1 ys, f.3)

front-behind : (payloads : List (List ℕ)) (xs ys : List Note) (image : List ℕ) → IsFront (with_notes payloads xs) ys image → IsFront payloads (xs ++ ys) image
front-behind payloads xs ys image f = (
  xs ++ f.0,
  f.1,
  ap (λ (l : List Note). xs ++ l) f.2 ∙ sym (append_assoc xs f.0 f.1),
  subst (λ (l : List (List ℕ)). IsFile l image) (with-append payloads xs f.0) f.3,
)

fronts-more : {D : Type 0} (disks : Ghosts D) (old mid now : World D) (xs ys : List Note) → Adds disks old mid xs → LeavesFronts disks old mid xs → LeavesFronts disks mid now ys → LeavesFronts disks old now (xs ++ ys)
fronts-more disks old mid now xs ys adds first second payloads holds =
    then_leaves (disks.time old.disk) (disks.time mid.disk) (disks.time now.disk) (disks.told old.disk) (disks.told mid.disk) (disks.told now.disk) (IsFront payloads (xs ++ ys)) (IsFront (with_notes payloads xs) ys)
    (leaves_weaker (disks.time old.disk, disks.time mid.disk) (disks.told old.disk) (disks.told mid.disk) (IsFront payloads xs) (IsFront payloads (xs ++ ys)) (first payloads holds) (λ image f. front-more payloads xs ys image f))
    (second (with_notes payloads xs) (adds payloads holds)) (λ image f. front-behind payloads xs ys image f)

-- ---- one behind the other

performs-append : {D : Type 0} (disks : Ghosts D) (old mid now : World D) (xs ys : List Effect) → Performs disks old mid xs → Performs disks mid now ys → Performs disks old now (xs ++ ys)
performs-append disks old mid now xs ys a b =
    let n : notes (xs ++ ys) ≡ notes xs ++ notes ys = notes-append xs ys in
    record {
      moved =
          let both = moves-more (places old.told old.got) (places mid.told mid.got) (places now.told now.got) (entries xs) (entries ys) (lines xs) (lines ys) a.moved b.moved in
          subst (λ (l : List ℕ). Moves (places old.told old.got) (places now.told now.got) (entries (xs ++ ys)) l) (sym (lines-append xs ys))
          (subst (λ (l : List LinkEntry). Moves (places old.told old.got) (places now.told now.got) l (lines xs ++ lines ys)) (sym (entries-append xs ys)) both);
      progress = ap (λ (l : List Note). notes_from l old.file.progress) n ∙ from-append (notes xs) (notes ys) old.file.progress ∙ ap (option_and_then (notes_from (notes ys))) a.progress ∙ b.progress;
      adds = λ payloads holds.
          subst (λ (l : List Note). Holds disks (with_notes payloads l) now.file now.disk) (sym n)
          (subst (λ (l : List (List ℕ)). Holds disks l now.file now.disk) (with-append payloads (notes xs) (notes ys)) (b.adds (with_notes payloads (notes xs)) (a.adds payloads holds)));
      crash = subst (λ (l : List Note). LeavesFronts disks old now l) (sym n) (fronts-more disks old mid now (notes xs) (notes ys) a.adds a.crash b.crash);
    }

pub performs-more : {D : Type 0} (disks : Ghosts D) (old mid now : World D) (list : List Effect) (i : ℕ) (e : Effect) → i < length list → e ≡ get_or list i e → Performs disks old mid (take i list) → Performs disks mid now (e ∷ []) → Performs disks old now (take (i + 1) list)
performs-more disks old mid now list i e inside at a b =
    subst (λ (l : List Effect). Performs disks old now l) (sym (take_more list i e inside ∙ ap (λ (x : Effect). take i list ++ x ∷ []) (sym at)))
    (performs-append disks old mid now (take i list) (e ∷ []) a b)

-- the next one failed
pub performs-breaks : {D : Type 0} (disks : Ghosts D) (old mid now : World D) (list : List Effect) (i : ℕ) (e : Effect) → i < length list → e ≡ get_or list i e → Performs disks old mid (take i list)
    → FailsAt disks mid now e → Breaks disks old now list
performs-breaks disks old mid now list i e inside at a m = record {
  done = take i list;
  rest = e ∷ drop (i + 1) list;
  whole = sym (take-append-drop i list) ∙ ap (λ (l : List Effect). take i list ++ l) (drop_more list i e inside ∙ ap (λ (x : Effect). x ∷ drop (i + 1) list) (sym at));
  n = m.n;
  moved =
      let both = moves-more (places old.told old.got) (places mid.told mid.got) (places now.told now.got) (entries (take i list)) [] (lines (take i list)) (take m.n (line_of e)) a.moved m.moved in
      subst (λ (y : List ℕ). Moves (places old.told old.got) (places now.told now.got) (entries (take i list)) (lines (take i list) ++ take m.n y)) (sym (append-nil (line_of e)))
      (subst (λ (x : List LinkEntry). Moves (places old.told old.got) (places now.told now.got) x (lines (take i list) ++ take m.n (line_of e))) (append-nil (entries (take i list))) both);
  crash = subst (λ (l : List Note). LeavesFronts disks old now (notes (take i list) ++ l)) (sym (append-nil (notes_of e))) (fronts-more disks old mid now (notes (take i list)) (notes_of e) a.adds a.crash m.crash);
}

resting : (moment : ℕ) (told : Option History) (P : List ℕ → Type 0) → ((history : History) → told ≡ Some history → latest history.past ≤ moment) → Now told (λ held. (image : List ℕ) → IsImage held image → P image) → LeavesOnly (moment, moment) told told P
resting moment None P timely each = moments.rests (moment, moment) None None P refl refl (omega arith)
resting moment (Some history) P timely each = moments.started (Some history) history moment P refl (timely history refl) (each history refl)

-- the file and its disk were left alone
pub rests-so : {D : Type 0} (disks : Ghosts D) (old now : World D) → now.file ≡ old.file → now.disk ≡ old.disk → ((history : History) → disks.told old.disk ≡ Some history → latest history.past ≤ disks.time old.disk) → LeavesFronts disks old now []
rests-so {D} disks old now file disk timely payloads holds =
    subst (λ (d : D). LeavesOnly (disks.time old.disk, disks.time d) (disks.told old.disk) (disks.told d) (IsFront payloads [])) (sym disk)
    (resting (disks.time old.disk) (disks.told old.disk) (IsFront payloads []) timely
    (λ history is image now. ([], [], refl, subst (λ (l : List (List ℕ)). IsFile l image) (sym (append-nil payloads)) (settled-file payloads history.now image (holds.stands history is) now))))

pub holds-so : {D : Type 0} (disks : Ghosts D) (old now : World D) → now.file ≡ old.file → now.disk ≡ old.disk → Adds disks old now []
holds-so {D} disks old now file disk payloads holds =
    subst (λ (l : List (List ℕ)). Holds disks l now.file now.disk) (sym (append-nil payloads))
    (subst (λ (f : SubmitFile). Holds disks payloads f now.disk) (sym file) (subst (λ (d : D). Holds disks payloads old.file d) (sym disk) holds))

pub started : {D : Type 0} (disks : Ghosts D) (old : World D) → ((history : History) → disks.told old.disk ≡ Some history → latest history.past ≤ disks.time old.disk) → Performs disks old old []
started disks old timely = record { moved = moves-none (places old.told old.got); progress = refl; adds = holds-so disks old old refl refl; crash = rests-so disks old old refl refl timely }

-- an effect that leaves the file alone was done
pub performs-other : {D : Type 0} (disks : Ghosts D) (old now : World D) (e : Effect) → notes_of e ≡ [] → now.file ≡ old.file → now.disk ≡ old.disk → ((history : History) → disks.told old.disk ≡ Some history → latest history.past ≤ disks.time old.disk)
    → Moves (places old.told old.got) (places now.told now.got) (entries_of e) (line_of e) → Performs disks old now (e ∷ [])
performs-other disks old now e none file disk timely moved =
    let n : notes (e ∷ []) ≡ [] = append-nil (notes_of e) ∙ none in
    record {
      moved =
          subst (λ (l : List ℕ). Moves (places old.told old.got) (places now.told now.got) (entries (e ∷ [])) l) (sym (append-nil (line_of e)))
          (subst (λ (l : List LinkEntry). Moves (places old.told old.got) (places now.told now.got) l (line_of e)) (sym (append-nil (entries_of e))) moved);
      progress = ap (λ (l : List Note). notes_from l old.file.progress) n ∙ ap (λ (f : SubmitFile). Some f.progress) (sym file);
      adds = subst (λ (l : List Note). Adds disks old now l) (sym n) (holds-so disks old now file disk);
      crash = subst (λ (l : List Note). LeavesFronts disks old now l) (sym n) (rests-so disks old now file disk timely);
    }

-- an effect that leaves the file alone failed
pub fails-other : {D : Type 0} (disks : Ghosts D) (old now : World D) (e : Effect) (n : ℕ) → notes_of e ≡ [] → now.file ≡ old.file → now.disk ≡ old.disk → ((history : History) → disks.told old.disk ≡ Some history → latest history.past ≤ disks.time old.disk)
    → now.told ≡ old.told → Appends old.got now.got (take n (line_of e)) → FailsAt disks old now e
fails-other disks old now e n none file disk timely told got = record {
  n = n;
  moved = record { told = tells-same old.told now.told told; got = got };
  crash = subst (λ (l : List Note). LeavesFronts disks old now l) (sym none) (rests-so disks old now file disk timely);
}

-- a note was appended
pub front-either : (payloads : List (List ℕ)) (note : Note) (image : List ℕ) → IsEither payloads note image → IsFront payloads (note ∷ []) image
front-either payloads note image (inl old) = ([], note ∷ [], refl, subst (λ (l : List (List ℕ)). IsFile l image) (sym (append-nil payloads)) old)
front-either payloads note image (inr new) = (note ∷ [], [], refl, new)

pub fronts-either : {D : Type 0} (disks : Ghosts D) (old now : World D) (note : Note) → LeavesEither disks note old.file old.disk now.disk → LeavesFronts disks old now (note ∷ [])
fronts-either disks old now note leaves payloads holds =
    leaves_weaker (disks.time old.disk, disks.time now.disk) (disks.told old.disk) (disks.told now.disk) (IsEither payloads note) (IsFront payloads (note ∷ [])) (leaves payloads holds) (λ image e. front-either payloads note image e)

-- a note wasn't appended, or may have been
pub fails-note : {D : Type 0} (disks : Ghosts D) (old now : World D) (note : Note) → now.told ≡ old.told → now.got ≡ old.got → LeavesEither disks note old.file old.disk now.disk → FailsAt disks old now (effect.Note note)
fails-note disks old now note told got leaves = record {
  n = 0;
  moved = record { told = tells-same old.told now.told told; got = appends-same old.got now.got got };
  crash = fronts-either disks old now note leaves;
}

pub performs-note : {D : Type 0} (disks : Ghosts D) (old now : World D) (note : Note) → now.told ≡ old.told → now.got ≡ old.got → AppendsNote disks note old.file old.disk now.file now.disk → LeavesEither disks note old.file old.disk now.disk → Performs disks old now (effect.Note note ∷ [])
performs-note disks old now note told got appended leaves = record {
  moved = record { told = tells-same old.told now.told told; got = appends-same old.got now.got got };
  progress = ap (option_and_then (notes_from [])) appended.0;
  adds = appended.1;
  crash = fronts-either disks old now note leaves;
}

-- the notes that are left
some-first : (o : Option Progress) (rest : List Note) (q : Progress) → option_and_then (notes_from rest) o ≡ Some q → (r : Progress) × (o ≡ Some r)
some-first None rest q is = absurd (cc is)
some-first (Some r) rest q is = (r, refl)

pub next-at : (list : List Effect) (i : ℕ) (e : Effect) (p q : Progress) → i < length list → e ≡ get_or list i e → notes_from (notes (drop i list)) p ≡ Some q → IsNext e p
next-at list i e p q inside at is =
    let here : drop i list ≡ e ∷ drop (i + 1) list = drop_more list i e inside ∙ ap (λ (x : Effect). x ∷ drop (i + 1) list) (sym at) in
    let whole : option_and_then (notes_from (notes (drop (i + 1) list))) (notes_from (notes_of e) p) ≡ Some q = sym (from-append (notes_of e) (notes (drop (i + 1) list)) p) ∙ ap (λ (l : List Effect). notes_from (notes l) p) (sym here) ∙ is in
    subst (λ (l : List Note). (r : Progress) × (notes_from l p ≡ Some r)) (sym (append-nil (notes_of e))) (some-first (notes_from (notes_of e) p) (notes (drop (i + 1) list)) q whole)

pub next-behind : (list : List Effect) (i : ℕ) (e : Effect) (p q r : Progress) → i < length list → e ≡ get_or list i e → notes_from (notes (drop i list)) p ≡ Some q → notes_from (notes (e ∷ [])) p ≡ Some r → notes_from (notes (drop (i + 1) list)) r ≡ Some q
next-behind list i e p q r inside at is one =
    let here : drop i list ≡ e ∷ drop (i + 1) list = drop_more list i e inside ∙ ap (λ (x : Effect). x ∷ drop (i + 1) list) (sym at) in
    let one2 : notes_from (notes_of e) p ≡ Some r = ap (λ (l : List Note). notes_from l p) (sym (append-nil (notes_of e))) ∙ one in
    sym (ap (option_and_then (notes_from (notes (drop (i + 1) list)))) one2) ∙ sym (from-append (notes_of e) (notes (drop (i + 1) list)) p) ∙ ap (λ (l : List Effect). notes_from (notes l) p) (sym here) ∙ is

pub held-on : {D : Type 0} (disks : Ghosts D) (old now : World D) (list : List Effect) → IsHeld disks old.file old.disk → Performs disks old now list → IsHeld disks now.file now.disk
held-on disks old now list held p = (with_notes held.0 (notes list), p.adds held.0 held.1)

pub later-more : (a b c : Counts) → AreLater a b → AreLater b c → AreLater a c
later-more a b c x y = record {
  reads = (let h = x.reads in let k = y.reads in omega (arith, h, k));
  writes = (let h = x.writes in let k = y.writes in omega (arith, h, k));
  prints = (let h = x.prints in let k = y.prints in omega (arith, h, k));
  wants = (let h = x.wants in let k = y.wants in omega (arith, h, k));
}
