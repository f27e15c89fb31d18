-- A run of follow, piece by piece.
use Rattle.std.proofs.Common.{◌≡◌, ℕ, ◌+◌, ◌<◌, ◌≤◌, ◌^◌, ◌⊎◌, Bool, true, false, List, [], ◌∷◌, ◌++◌, length, take, drop, get_or, Option, None, Some, is_some, refl, sym, ap, subst, ◌∙◌, inl, inr, ⊎_elim, arith, append_assoc, append-nil, length-append}
use Rattle.std.proofs.lemmas.List.{take-append-drop, take_more}
use Rattle.mj_base.specs.Linking.{Tells}
use Rattle.mj_base.specs.declared.link.LinkEntry.{LinkEntry}
use Rattle.mj_base.specs.declared.link.LinkEvent.{LinkEvent}
use Rattle.mj_base.specs.declared.link.LinkEvent.TheVariants as event
use Rattle.mj_copy.specs.FollowRules.{FollowTurn, Following, follow_appended, follow_opened, follow_steps, new_follow}
use Rattle.mj_copy.specs.FollowStands.{IsTurn, following_of}
use Rattle.mj_copy.specs.declared.awaits.Awaits.TheVariants as waits
use Rattle.mj_copy.specs.declared.follow.Follow.{Follow}
use Rattle.mj_copy.specs.declared.follow_act.FollowAct.{FollowAct}
use Rattle.mj_copy_file.specs.Logs.{AppendsOne, Holds, IsEither, IsHeld, IsNext, Knows, LeavesEither, OpensLog}
use Rattle.mj_copy_file.specs.declared.log.Log.{Log}
use Rattle.mj_copy_file.proofs.LogSpots.{counted, counts_few}
use Rattle.mj_copying.specs.FollowFile.{CrashesBetween, FileIs, IsBetween, has_then}
use Rattle.mj_copying.specs.FollowRun.{Appended, Copying, Doing, IsCut, IsDue, IsFound, Opened, AreDue, Refused, Took, after, done_by, entries, entries_of, new_copying, read_of, round, tale, turn_at}
use Rattle.mj_copying.specs.FollowRun.{after as after_doing}
use Rattle.mj_copying.specs.FollowState.{Began, Breaks, BrokenBy, Goes, HaltCause, Halts, HasEither, IsCutIn, IsRead, IsRunning, IsWhy, IsWhyOf, Left, Performs, Runs, Sound, Stopped, Turned, goes_behind}
use Rattle.mj_base.specs.Rising.{Rose}
use Rattle.mj_copying.specs.Passing.{AreLater, Counts, entry_of}
use Rattle.mj_copying.specs.declared.following.FollowStop.{FollowStop}
use Rattle.mj_copying.specs.declared.following.FollowStop.TheVariants as halts
use Rattle.mj_copying.specs.declared.stop.Stop.{Stop}
use Rattle.mj_copying.specs.declared.stop.Stop.TheVariants as stops
use Rattle.mj_copying.proofs.FollowSound.{appended_keep, fresh, opened_keep, steps_keep}
use Rattle.mj_copying.proofs.LinkLemmas.{tells_alike, tells_more, tells_same, tells_still}
use Rattle.mj_disk.specs.Content.{Content, IsImage, settled}
use Rattle.mj_disk.specs.DiskModel.{CrashesAs, History, IsSettled, LeavesOnly, Now, latest}
use Rattle.mj_disk.specs.declared.disk.Disk.{Ghosts}
use Rattle.mj_disk.proofs.Images.{settled_is}
use Rattle.mj_disk.proofs.Moments.{counts_now, leaves_weaker, started, then_leaves}
use Rattle.mj_journal.specs.FileText.{Opens, OpensAs, StandsFor}
use Rattle.mj_journal.specs.Opening.{IsImageOrOpensAlike}
use Rattle.mj_journal.specs.HandedOut.{IsBaseOf}
use Rattle.mj_journal.proofs.Beginning.{short_is_nil}
use Rattle.mj_store.specs.Opening.{IsUnopened}

-- ---- the file

log_is : {D : Type 0} (disks : Ghosts D) (start : Option History) (c : Copying) (log : Option Log) (disk : D) → FileIs disks start c log disk → c.following.opened ≡ true → (l : Log) × (log ≡ Some l) × (l.base ≡ c.following.base) × Holds disks c.payloads l disk
log_is disks start c None disk file opened = absurd (cc (file.0, opened))
log_is disks start c (Some l) disk file opened = (l, refl, file.1, file.2)

unopened : {D : Type 0} (disks : Ghosts D) (start : Option History) (c : Copying) (log : Option Log) (disk : D) → FileIs disks start c log disk → c.following.opened ≡ false → disks.told disk ≡ start
unopened disks start c None disk file closed = file.1
unopened disks start c (Some l) disk file closed = absurd (cc (file.0, closed))

file_same : {D : Type 0} (disks : Ghosts D) (start : Option History) (c : Copying) (f : Following) (log : Option Log) (disk : D) → f.opened ≡ c.following.opened → (c.following.opened ≡ true → f.base ≡ c.following.base) → FileIs disks start c log disk → FileIs disks start (record { following = f; payloads = c.payloads }) log disk
file_same disks start c f None disk opened base file = (opened ∙ file.0, file.1)
file_same disks start c f (Some l) disk opened base file = (opened ∙ file.0, file.1 ∙ sym (base file.0), file.2)

crash_same : (moments : ℕ × ℕ) (start now : Option History) (c : Copying) (f : Following) (doubt : List (List ℕ)) → f.opened ≡ c.following.opened → CrashesBetween moments start now c doubt → CrashesBetween moments start now (record { following = f; payloads = c.payloads }) doubt
crash_same moments start now c f doubt opened crash history of others is clean opens =
    subst (λ (b : Bool). LeavesOnly moments start now (IsBetween others (has_then b c.payloads others ++ doubt))) (sym opened) (crash history of others is clean opens)

-- ---- a read, or a refusal: nothing is written

stepped : {D : Type 0} (disks : Ghosts D) (start : Option History) (since : ℕ) (c : Copying) (e : LinkEvent) (end now : Follow) (log : Option Log) (disk : D) → Runs disks start since c end log disk → following_of now ≡ (follow_steps e c.following).0
    → Runs disks start since (record { following = (follow_steps e c.following).0; payloads = c.payloads }) now log disk
stepped disks start since c e end now log disk r is =
    let keeps = steps_keep (length c.payloads) e c.following r.sound in
    record {
      is = is;
      sound = keeps.sound;
      file = file_same disks start c (follow_steps e c.following).0 log disk keeps.opened_is keeps.base_is r.file;
      crash = crash_same (since, disks.time disk) start (disks.told disk) c (follow_steps e c.following).0 [] keeps.opened_is r.crash;
      telling = r.telling;
    }

turn_is : (c : Copying) (end now : Follow) (acts : List FollowAct) (turn : Following → FollowTurn) → following_of end ≡ c.following → IsTurn now acts (turn (following_of end)) → (following_of now ≡ (turn c.following).0) × (acts ≡ (turn c.following).1)
turn_is c end now acts turn is t = subst (λ (f : Following). (following_of now ≡ (turn f).0) × (acts ≡ (turn f).1)) is t

pub took_began : {D : Type 0} (disks : Ghosts D) (start : Option History) (since : ℕ) (c : Copying) (e : LinkEvent) (end now : Follow) (acts : List FollowAct) (log : Option Log) (disk : D) → (following_of end).awaits ≡ waits.Link → IsTurn now acts (follow_steps e (following_of end)) → Runs disks start since c end log disk
    → Began disks start since c (entry_of e ∷ []) acts now log disk
took_began disks start since c e end now acts log disk awaits t r =
    let turn = turn_is c end now acts (follow_steps e) r.is t in
    record { doing = Took e; due = sym (ap (λ (f : Following). f.awaits) r.is) ∙ awaits; read_is = refl; acts_are = turn.1; runs = stepped disks start since c e end now log disk r turn.0 }

has_now : {D : Type 0} (disks : Ghosts D) (c : Copying) (l : Log) (disk : D) → Holds disks c.payloads l disk → Now (disks.told disk) (HasEither c.payloads [])
has_now disks c l disk holds history is image here =
    let file = holds.file history is in
    let same : image ≡ history.now.octets = settled_is history.now.octets image (subst (λ (x : Content). IsImage x image) file.0 here) in
    inl (l.base, inl (subst (λ (o : List ℕ). StandsFor l.base c.payloads o) (sym same) file.1))

pub runs_left : {D : Type 0} (disks : Ghosts D) (start : Option History) (since : ℕ) (c : Copying) (end : Follow) (log : Option Log) (disk : D) → Runs disks start since c end log disk → Left disks start since c [] disk
runs_left disks start since c end log disk r = record {
  crash = r.crash;
  has = λ opened. let l = log_is disks start c log disk r.file opened in has_now disks c l.0 disk l.3;
}

by_memory : (start : Option History) (c : Copying) (now : Option History) (stop : FollowStop) (before after : ℕ) → BrokenBy stop before after → IsWhy start c now stop
by_memory start c now (halts.Broken stop) before after cause = tt
by_memory start c now (halts.Unopened fault) before after cause = absurd cause
by_memory start c now (halts.OtherBase base) before after cause = absurd cause

pub took_stopped : {D : Type 0} (disks : Ghosts D) (start : Option History) (since : ℕ) (c : Copying) (end : Follow) (log : Option Log) (disk : D) (old now : Option (List LinkEntry)) (stop : FollowStop) (before after : ℕ) → (following_of end).awaits ≡ waits.Link → IsRead old now → BrokenBy stop before after → Runs disks start since c end log disk
    → Stopped disks start since c old now stop disk
took_stopped disks start since c end log disk old now stop before after awaits (inl same) cause r = record {
  cut = [];
  part = inl refl;
  told = tells_same old now same;
  doubt = [];
  left = runs_left disks start since c end log disk r;
  why = by_memory start c (disks.told disk) stop before after cause;
}
took_stopped disks start since c end log disk old now stop before after awaits (inr read) cause r = record {
  cut = entry_of read.0 ∷ [];
  part = inr (read.0, refl, sym (ap (λ (f : Following). f.awaits) r.is) ∙ awaits);
  told = read.1;
  doubt = [];
  left = runs_left disks start since c end log disk r;
  why = by_memory start c (disks.told disk) stop before after cause;
}

-- ---- an opening

-- what an opening leaves of a settled file opens as it did
opens_alike : (of : ℕ) (others : List (List ℕ)) (held : Content) (image : List ℕ) → IsSettled held → Opens of others held.octets → IsImageOrOpensAlike held image → OpensAs others image
opens_alike of others held image clean opens (inl before) =
    let same : image ≡ held.octets = settled_is held.octets image (subst (λ (x : Content). IsImage x image) clean before) in
    (of, subst (λ (o : List ℕ). Opens of others o) (sym same) opens)
opens_alike of others held image clean opens (inr alike) =
    let none : others ≡ [] = short_is_nil others held.octets alike.0.0 (of, opens) in
    subst (λ (ps : List (List ℕ)). OpensAs ps image) (sym none) alike.1.1

all_of : (others last : List (List ℕ)) (image : List ℕ) → last ≡ others ++ [] → OpensAs others image → IsBetween others last image
all_of others last image is opens = record { more = []; rest = []; opens = subst (λ (ps : List (List ℕ)). OpensAs ps image) (sym (append-nil others)) opens; last_is = is ∙ sym (append-nil (others ++ [])) }

opening_leaves : {D : Type 0} (disks : Ghosts D) (start : Option History) (since : ℕ) (c : Copying) (disk after : D) (last : List (List ℕ)) (history : History) (of : ℕ) (others : List (List ℕ)) → c.following.opened ≡ false → disks.told disk ≡ start → CrashesBetween (since, disks.time disk) start (disks.told disk) c []
    → CrashesAs IsImageOrOpensAlike (disks.time disk, disks.time after) (disks.told disk) (disks.told after) → start ≡ Some history → IsSettled history.now → Opens of others history.now.octets → last ≡ others ++ []
    → LeavesOnly (since, disks.time after) start (disks.told after) (IsBetween others last)
opening_leaves disks start since c disk after last history of others closed same before crash is clean opens last_is =
    let first : LeavesOnly (since, disks.time disk) start (disks.told disk) (IsBetween others last) =
    subst (λ (ps : List (List ℕ)). LeavesOnly (since, disks.time disk) start (disks.told disk) (IsBetween others ps)) (ap (λ (b : Bool). has_then b c.payloads others ++ []) closed ∙ sym last_is) (before history of others is clean opens) in
    then_leaves since (disks.time disk) (disks.time after) start (disks.told disk) (disks.told after) (IsBetween others last) (IsImageOrOpensAlike history.now) first (crash history (same ∙ is))
    (λ image alike. all_of others last image last_is (opens_alike of others history.now image clean opens alike))

pub opened_began : {D : Type 0} (disks : Ghosts D) (start : Option History) (since : ℕ) (c : Copying) (base : ℕ) (new : Log) (end now : Follow) (acts : List FollowAct) (log log_now : Option Log) (disk after : D) → (following_of end).awaits ≡ waits.File base → log_now ≡ Some new → new.base ≡ base → (opens : OpensLog disks base disk new after)
    → IsTurn now acts (follow_opened (length new.spots.items) (following_of end)) → is_some (disks.told after) ≡ is_some (disks.told disk) → CrashesAs IsImageOrOpensAlike (disks.time disk, disks.time after) (disks.told disk) (disks.told after) → Runs disks start since c end log disk
    → Began disks start since c [] acts now log_now after
opened_began disks start since c base new end now acts log log_now disk after awaits log_is base_is opens t telling crash r =
    let waiting : c.following.awaits ≡ waits.File base = sym (ap (λ (f : Following). f.awaits) r.is) ∙ awaits in
    let sound = r.sound.file base waiting in
    let same = unopened disks start c log disk r.file sound.0 in
    let size : length new.spots.items ≡ length opens.0 = counted opens.0 new (length new.spots.items) opens.1.knows refl in
    let turn = turn_is c end now acts (follow_opened (length opens.0)) r.is (subst (λ (n : ℕ). IsTurn now acts (follow_opened n (following_of end))) size t) in
    let keeps = opened_keep (length opens.0) c.following in
    let found : IsFound start base opens.0 = λ history of others is as_others.
    let f = opens.2 history of others (same ∙ is) as_others in
    (f.0, subst (λ (b : ℕ). IsBaseOf base b of history.now.octets) base_is f.1) in
    record {
      doing = Opened opens.0;
      due = (base, waiting, found);
      read_is = refl;
      acts_are = turn.1;
      runs = record {
        is = turn.0;
        sound = keeps.sound;
        file = subst (λ (l : Option Log). FileIs disks start (record { following = (follow_opened (length opens.0) c.following).0; payloads = opens.0 }) l after) (sym log_is)
            (keeps.opened_is, base_is ∙ sym sound.1 ∙ sym (keeps.base_is refl), opens.1);
        crash = λ history of others is clean as_others.
            let f = (found history of others is as_others).0 in
            opening_leaves disks start since c disk after (has_then (follow_opened (length opens.0) c.following).0.opened opens.0 others ++ []) history of others sound.0 same r.crash crash is clean as_others
            (ap (λ (b : Bool). has_then b opens.0 others ++ []) keeps.opened_is ∙ ap (λ (ps : List (List ℕ)). ps ++ []) f);
        telling = telling ∙ r.telling;
      };
    }

pub opened_stopped : {D : Type 0} (disks : Ghosts D) (start : Option History) (since : ℕ) (c : Copying) (base : ℕ) (end : Follow) (log : Option Log) (disk after : D) (told : Option (List LinkEntry)) (stop : FollowStop) → (following_of end).awaits ≡ waits.File base → IsWhyOf (disks.told disk) base (disks.told after) stop
    → CrashesAs IsImageOrOpensAlike (disks.time disk, disks.time after) (disks.told disk) (disks.told after) → Runs disks start since c end log disk → Stopped disks start since c told told stop after
opened_stopped disks start since c base end log disk after told stop awaits why crash r =
    let waiting : c.following.awaits ≡ waits.File base = sym (ap (λ (f : Following). f.awaits) r.is) ∙ awaits in
    let closed = (r.sound.file base waiting).0 in
    let same = unopened disks start c log disk r.file closed in
    record {
      cut = [];
      part = inl refl;
      told = tells_same told told refl;
      doubt = [];
      left = record {
        crash = λ history of others is clean as_others.
            opening_leaves disks start since c disk after (has_then c.following.opened c.payloads others ++ []) history of others closed same r.crash crash is clean as_others (ap (λ (b : Bool). has_then b c.payloads others ++ []) closed);
        has = λ opened. absurd (cc (opened, closed));
      };
      why = by stop why waiting same;
    }
  where
    by : (s : FollowStop) → IsWhyOf (disks.told disk) base (disks.told after) s → c.following.awaits ≡ waits.File base → disks.told disk ≡ start → IsWhy start c (disks.told after) s
    by (halts.Broken stop) w waiting same = tt
    by (halts.Unopened fault) w waiting same = subst (λ (t : Option History). IsUnopened fault t (disks.told after)) same w
    by (halts.OtherBase other) w waiting same = (base, waiting, w.0, w.1)

-- ---- an append

settled_image : (octets : List ℕ) → IsImage (settled octets) octets
settled_image octets = record { no_shorter = omega arith; no_longer = omega arith; kept = λ k inside none. refl }

told_now : (told start : Option History) (history : History) → is_some told ≡ is_some start → start ≡ Some history → (now : History) × (told ≡ Some now)
told_now None start history telling is = absurd (cc (telling, ap is_some is))
told_now (Some now) start history telling is = (now, refl)

-- what the file has began with what its bytes opened as at the start
grew : {D : Type 0} (disks : Ghosts D) (start : Option History) (since : ℕ) (c : Copying) (end : Follow) (log : Option Log) (l : Log) (disk : D) (history : History) (of : ℕ) (others : List (List ℕ)) → Runs disks start since c end log disk → c.following.opened ≡ true → Holds disks c.payloads l disk → start ≡ Some history → IsSettled history.now → Opens of others history.now.octets
    → (more : List (List ℕ)) × (c.payloads ≡ others ++ more)
grew disks start since c end log l disk history of others r opened holds is clean opens =
    let now = told_now (disks.told disk) start history r.telling is in
    let file = holds.file now.0 now.1 in
    let image : IsImage now.0.now now.0.now.octets = subst (λ (x : Content). IsImage x now.0.now.octets) (sym file.0) (settled_image now.0.now.octets) in
    let between = (r.crash history of others is clean opens).each now.0.now.octets (counts_now (disks.told disk) now.0 since now.0.now.octets now.1 image) in
    let last : c.payloads ≡ c.payloads ++ [] = sym (append-nil c.payloads) in
    let open_last : c.payloads ++ [] ≡ has_then c.following.opened c.payloads others ++ [] = ap (λ (b : Bool). has_then b c.payloads others ++ []) (sym opened) in
    (between.more ++ between.rest, last ∙ open_last ∙ between.last_is ∙ append_assoc others between.more between.rest)

either_between : (base : ℕ) (others more payloads : List (List ℕ)) (payload image : List ℕ) → payloads ≡ others ++ more → IsEither base payloads payload image → IsBetween others (payloads ++ payload ∷ []) image
either_between base others more payloads payload image is (inl old) = record {
  more = more;
  rest = payload ∷ [];
  opens = (base, inl (subst (λ (ps : List (List ℕ)). StandsFor base ps image) is old));
  last_is = ap (λ (ps : List (List ℕ)). ps ++ payload ∷ []) is;
}
either_between base others more payloads payload image is (inr new) =
    let whole : payloads ++ payload ∷ [] ≡ others ++ (more ++ payload ∷ []) = ap (λ (ps : List (List ℕ)). ps ++ payload ∷ []) is ∙ append_assoc others more (payload ∷ []) in
    record {
      more = more ++ payload ∷ [];
      rest = [];
      opens = (base, inl (subst (λ (ps : List (List ℕ)). StandsFor base ps image) whole new));
      last_is = whole ∙ sym (append-nil (others ++ (more ++ payload ∷ [])));
    }

between_more : (first last more : List (List ℕ)) (image : List ℕ) → IsBetween first last image → IsBetween first (last ++ more) image
between_more first last more image b = record {
  more = b.more;
  rest = b.rest ++ more;
  opens = b.opens;
  last_is = ap (λ (ps : List (List ℕ)). ps ++ more) b.last_is ∙ append_assoc (first ++ b.more) b.rest more;
}

append_leaves : {D : Type 0} (disks : Ghosts D) (start : Option History) (since : ℕ) (c : Copying) (payload : List ℕ) (end : Follow) (log : Option Log) (l : Log) (disk after : D) (history : History) (of : ℕ) (others : List (List ℕ)) → Runs disks start since c end log disk → c.following.opened ≡ true → Holds disks c.payloads l disk → LeavesEither disks payload l disk after → start ≡ Some history → IsSettled history.now → Opens of others history.now.octets
    → LeavesOnly (since, disks.time after) start (disks.told after) (IsBetween others (c.payloads ++ payload ∷ []))
append_leaves disks start since c payload end log l disk after history of others r opened holds leaves is clean opens =
    let g = grew disks start since c end log l disk history of others r opened holds is clean opens in
    let last : has_then c.following.opened c.payloads others ++ [] ≡ c.payloads = ap (λ (b : Bool). has_then b c.payloads others ++ []) opened ∙ append-nil c.payloads in
    let first : LeavesOnly (since, disks.time disk) start (disks.told disk) (IsBetween others c.payloads) =
    subst (λ (ps : List (List ℕ)). LeavesOnly (since, disks.time disk) start (disks.told disk) (IsBetween others ps)) last (r.crash history of others is clean opens) in
    then_leaves since (disks.time disk) (disks.time after) start (disks.told disk) (disks.told after) (IsBetween others (c.payloads ++ payload ∷ [])) (IsEither l.base c.payloads payload)
    (leaves_weaker (since, disks.time disk) start (disks.told disk) (IsBetween others c.payloads) (IsBetween others (c.payloads ++ payload ∷ [])) first (λ image b. between_more others c.payloads (payload ∷ []) image b))
    (leaves c.payloads holds)
    (λ image either. either_between l.base others g.0 c.payloads payload image g.1 either)

pub record AppendedIs {D : Type 0} (disks : Ghosts D) (payload : List ℕ) (log log_now : Option Log) (disk after : D) : Type 0 where
  pub appends : (l : Log) → log ≡ Some l → (m : Log) × (log_now ≡ Some m) × (m.base ≡ l.base) × AppendsOne disks payload l disk m after
  pub leaves : (l : Log) → log ≡ Some l → LeavesEither disks payload l disk after
  pub telling : is_some (disks.told after) ≡ is_some (disks.told disk)

pub appended_began : {D : Type 0} (disks : Ghosts D) (start : Option History) (since : ℕ) (c : Copying) (payload : List ℕ) (end now : Follow) (acts : List FollowAct) (log log_now : Option Log) (disk after : D) → (following_of end).awaits ≡ waits.Append payload → AppendedIs disks payload log log_now disk after → IsTurn now acts (follow_appended (following_of end))
    → Runs disks start since c end log disk → Began disks start since c [] acts now log_now after
appended_began disks start since c payload end now acts log log_now disk after awaits appended t r =
    let waiting : c.following.awaits ≡ waits.Append payload = sym (ap (λ (f : Following). f.awaits) r.is) ∙ awaits in
    let opened = r.sound.append payload waiting in
    let l = log_is disks start c log disk r.file opened in
    let m = appended.appends l.0 l.1 in
    let one = m.3 c.payloads l.3 in
    let turn = turn_is c end now acts follow_appended r.is t in
    let keeps = appended_keep (length c.payloads) c.following opened (r.sound.counts opened) in
    let size : length c.payloads + 1 ≡ length (c.payloads ++ payload ∷ []) = omega (arith, length-append c.payloads (payload ∷ [])) in
    record {
      doing = Appended payload;
      due = (waiting, subst (λ (b : ℕ). IsNext b c.payloads payload) l.2 one.0);
      read_is = refl;
      acts_are = turn.1;
      runs = record {
        is = turn.0;
        sound = subst (λ (n : ℕ). Sound n (follow_appended c.following).0) size keeps.sound;
        file = subst (λ (o : Option Log). FileIs disks start (record { following = (follow_appended c.following).0; payloads = c.payloads ++ payload ∷ [] }) o after) (sym m.1)
            (keeps.opened_is ∙ opened, m.2 ∙ l.2 ∙ sym (keeps.base_is opened), one.1);
        crash = λ history of others is clean as_others.
            let last : c.payloads ++ payload ∷ [] ≡ has_then (follow_appended c.following).0.opened (c.payloads ++ payload ∷ []) others ++ [] =
            sym (append-nil (c.payloads ++ payload ∷ [])) ∙ ap (λ (b : Bool). has_then b (c.payloads ++ payload ∷ []) others ++ []) (sym (keeps.opened_is ∙ opened)) in
            subst (λ (ps : List (List ℕ)). LeavesOnly (since, disks.time after) start (disks.told after) (IsBetween others ps)) last
            (append_leaves disks start since c payload end log l.0 disk after history of others r opened l.3 (appended.leaves l.0 l.1) is clean as_others);
        telling = appended.telling ∙ r.telling;
      };
    }

pub refused_began : {D : Type 0} (disks : Ghosts D) (start : Option History) (since : ℕ) (c : Copying) (payload : List ℕ) (end now : Follow) (acts : List FollowAct) (log log_now : Option Log) (disk after : D) → (following_of end).awaits ≡ waits.Append payload → log_now ≡ log → after ≡ disk
    → ((l : Log) → log ≡ Some l → (payloads : List (List ℕ)) → Knows payloads l → ¬ IsNext l.base payloads payload) → IsTurn now acts (follow_steps event.End (following_of end)) → Runs disks start since c end log disk → Began disks start since c [] acts now log_now after
refused_began disks start since c payload end now acts log log_now disk after awaits log_same disk_same unlawful t r =
    let waiting : c.following.awaits ≡ waits.Append payload = sym (ap (λ (f : Following). f.awaits) r.is) ∙ awaits in
    let opened = r.sound.append payload waiting in
    let l = log_is disks start c log disk r.file opened in
    let turn = turn_is c end now acts (follow_steps event.End) r.is t in
    let runs = stepped disks start since c event.End end now log disk r turn.0 in
    record {
      doing = Refused payload;
      due = (waiting, subst (λ (b : ℕ). ¬ IsNext b c.payloads payload) l.2 (unlawful l.0 l.1 c.payloads l.3.knows));
      read_is = refl;
      acts_are = turn.1;
      runs = subst (λ (o : Option Log). Runs disks start since (record { following = (follow_steps event.End c.following).0; payloads = c.payloads }) now o after) (sym log_same)
          (subst (λ (d : _). Runs disks start since (record { following = (follow_steps event.End c.following).0; payloads = c.payloads }) now log d) (sym disk_same) runs);
    }

pub append_stopped : {D : Type 0} (disks : Ghosts D) (start : Option History) (since : ℕ) (c : Copying) (payload : List ℕ) (end : Follow) (log : Option Log) (disk after : D) (told : Option (List LinkEntry)) (stop : Stop) → (following_of end).awaits ≡ waits.Append payload → ((l : Log) → log ≡ Some l → LeavesEither disks payload l disk after) → Runs disks start since c end log disk
    → Stopped disks start since c told told (halts.Broken stop) after
append_stopped disks start since c payload end log disk after told stop awaits leaves r =
    let waiting : c.following.awaits ≡ waits.Append payload = sym (ap (λ (f : Following). f.awaits) r.is) ∙ awaits in
    let opened = r.sound.append payload waiting in
    let l = log_is disks start c log disk r.file opened in
    let either = leaves l.0 l.1 in
    record {
      cut = [];
      part = inl refl;
      told = tells_same told told refl;
      doubt = payload ∷ [];
      left = record {
        crash = λ history of others is clean as_others.
            let last : c.payloads ++ payload ∷ [] ≡ has_then c.following.opened c.payloads others ++ payload ∷ [] = ap (λ (b : Bool). has_then b c.payloads others ++ payload ∷ []) (sym opened) in
            subst (λ (ps : List (List ℕ)). LeavesOnly (since, disks.time after) start (disks.told after) (IsBetween others ps)) last
            (append_leaves disks start since c payload end log l.0 disk after history of others r opened l.3 either is clean as_others);
        has = λ open_now history is image here.
            ⊎_elim (λ old. inl (l.0.base, inl old)) (λ new. inr (l.0.base, inl new))
            ((either c.payloads l.3).each image (counts_now (disks.told after) history (disks.time disk) image is here));
      };
      why = tt;
    }

-- ---- what calls ask

pub is_held : {D : Type 0} (disks : Ghosts D) (end : Follow) (log : Option Log) (disk : D) (payload : List ℕ) → IsRunning disks end log disk → (following_of end).awaits ≡ waits.Append payload → (l : Log) × (log ≡ Some l) × IsHeld disks l disk
is_held disks end log disk payload running awaits =
    let c = running.2 in
    let r = running.3 in
    let opened = r.sound.append payload (sym (ap (λ (f : Following). f.awaits) r.is) ∙ awaits) in
    let l = log_is disks running.0 c log disk r.file opened in
    (l.0, l.1, (c.payloads, l.3))

pub is_few : {D : Type 0} (disks : Ghosts D) (end : Follow) (log : Option Log) (disk : D) (payload : List ℕ) → IsRunning disks end log disk → (following_of end).awaits ≡ waits.Append payload → (following_of end).count < 2 ^ 62
is_few disks end log disk payload running awaits =
    let c = running.2 in
    let r = running.3 in
    let opened = r.sound.append payload (sym (ap (λ (f : Following). f.awaits) r.is) ∙ awaits) in
    let l = log_is disks running.0 c log disk r.file opened in
    let size = counted c.payloads l.0 (length l.0.spots.items) l.3.knows refl in
    let few = counts_few c.payloads l.0 (length l.0.spots.items) l.3.knows refl l.0.journal.small in
    let count = ap (λ (f : Following). f.count) r.is ∙ r.sound.counts opened in
    omega (arith, size, few, count)

pub is_base : {D : Type 0} (disks : Ghosts D) (end : Follow) (log : Option Log) (disk : D) (base : ℕ) → IsRunning disks end log disk → (following_of end).awaits ≡ waits.File base → (1 ≤ base) × (base ≤ 2 ^ 61)
is_base disks end log disk base running awaits =
    let r = running.3 in
    let s = r.sound.file base (sym (ap (λ (f : Following). f.awaits) r.is) ∙ awaits) in
    (s.2, s.3)

-- ---- turns

pub turned : {D : Type 0} (disks : Ghosts D) (start : Option History) (since : ℕ) (c : Copying) (read : List LinkEntry) (acts done : List FollowAct) (end : Follow) (log : Option Log) (disk : D) (old mid now : Option (List LinkEntry)) → done ≡ acts → Tells old mid read → Began disks start since c read acts end log disk → Performs mid now done → Turned disks start since c old now end log disk
turned disks start since c read acts done end log disk old mid now same told b p = record {
  doing = b.doing;
  due = b.due;
  told = tells_alike old now _ _ (ap (λ (l : List LinkEntry). l ++ entries done) b.read_is ∙ ap (λ (l : List FollowAct). read_of b.doing ++ entries l) (same ∙ b.acts_are)) (tells_more old mid now read (entries done) told p);
  runs = b.runs;
}

pub cut_in : {D : Type 0} (disks : Ghosts D) (start : Option History) (since : ℕ) (c : Copying) (read : List LinkEntry) (acts tried : List FollowAct) (end : Follow) (log : Option Log) (disk : D) (old mid now : Option (List LinkEntry)) (stop : Stop) → tried ≡ acts → Tells old mid read → Began disks start since c read acts end log disk → Breaks mid now tried → IsCutIn disks start since c old now (halts.Broken stop) disk
cut_in disks start since c read acts tried end log disk old mid now stop same told b broke = record {
  last = after b.doing c;
  cut = read ++ entries broke.done;
  part = inr (record {
    doing = b.doing;
    due = b.due;
    done = broke.done;
    rest = broke.rest;
    whole = sym b.acts_are ∙ sym same ∙ broke.whole;
    cut_is = ap (λ (l : List LinkEntry). l ++ entries broke.done) b.read_is;
    last_is = inl refl;
  });
  told = tells_more old mid now read (entries broke.done) told broke.told;
  doubt = [];
  left = runs_left disks start since (after b.doing c) end log disk b.runs;
  why = tt;
}

pub stopped_in : {D : Type 0} (disks : Ghosts D) (start : Option History) (since : ℕ) (c : Copying) (old now : Option (List LinkEntry)) (stop : FollowStop) (disk : D) → Stopped disks start since c old now stop disk → IsCutIn disks start since c old now stop disk
stopped_in disks start since c old now stop disk s = by s.part
  where
    by : (s.cut ≡ []) ⊎ ((e : LinkEvent) × (s.cut ≡ entry_of e ∷ []) × (c.following.awaits ≡ waits.Link)) → IsCutIn disks start since c old now stop disk
    by (inl none) = record { last = c; cut = s.cut; part = inl (none, refl); told = s.told; doubt = s.doubt; left = s.left; why = s.why }
    by (inr read) = record {
      last = c;
      cut = s.cut;
      part = inr (record { doing = Took read.0; due = read.2; done = []; rest = (turn_at (Took read.0) c).1; whole = refl; cut_is = read.1; last_is = inr (refl, refl) });
      told = s.told;
      doubt = s.doubt;
      left = s.left;
      why = s.why;
    }

-- ---- runs

due_more : (start : Option History) (doings : List Doing) (doing : Doing) (c : Copying) → AreDue start doings c → IsDue start doing (done_by doings c) → AreDue start (doings ++ doing ∷ []) c
due_more start [] doing c due one = (one, tt)
due_more start (x ∷ doings) doing c due one = (due.0, due_more start doings doing (after x c) due.1 one)

done_more : (doings : List Doing) (doing : Doing) (c : Copying) → done_by (doings ++ doing ∷ []) c ≡ after doing (done_by doings c)
done_more [] doing c = refl
done_more (x ∷ doings) doing c = done_more doings doing (after x c)

tale_more : (doings : List Doing) (doing : Doing) (c : Copying) → tale (doings ++ doing ∷ []) c ≡ tale doings c ++ round doing (done_by doings c)
tale_more [] doing c = append-nil (round doing c)
tale_more (x ∷ doings) doing c = ap (λ (l : List LinkEntry). round x c ++ l) (tale_more doings doing (after x c)) ∙ sym (append_assoc (round x c) (tale doings (after x c)) (round doing (done_by doings (after x c))))

pub goes_not : {D : Type 0} (disks : Ghosts D) (start : Option History) (since : ℕ) (c : Copying) (old : Option (List LinkEntry)) (end : Follow) (log : Option Log) (disk : D) → Runs disks start since c end log disk → Goes disks start since c old old end log disk
goes_not disks start since c old end log disk r = record { last = c; followed = record { doings = []; due = tt; last_is = refl; told = tells_same old old refl }; runs = r }

pub goes_more : {D : Type 0} (disks : Ghosts D) (start : Option History) (since : ℕ) (first : Copying) (old mid now : Option (List LinkEntry)) (end end_now : Follow) (log log_now : Option Log) (disk after : D) (g : Goes disks start since first old mid end log disk) → Turned disks start since g.last mid now end_now log_now after → Goes disks start since first old now end_now log_now after
goes_more disks start since first old mid now end end_now log log_now disk after g t = record {
  last = after_doing t.doing g.last;
  followed = record {
    doings = g.followed.doings ++ t.doing ∷ [];
    due = due_more start g.followed.doings t.doing first g.followed.due (subst (λ (c : Copying). IsDue start t.doing c) g.followed.last_is t.due);
    last_is = ap (after_doing t.doing) g.followed.last_is ∙ sym (done_more g.followed.doings t.doing first);
    told = tells_alike old now _ _ (ap (λ (c : Copying). tale g.followed.doings first ++ round t.doing c) g.followed.last_is ∙ sym (tale_more g.followed.doings t.doing first))
        (tells_more old mid now (tale g.followed.doings first) (round t.doing g.last) g.followed.told t.told);
  };
  runs = t.runs;
}

pub halts_at : {D : Type 0} (disks : Ghosts D) (start : Option History) (since : ℕ) (first : Copying) (old mid now : Option (List LinkEntry)) (end : Follow) (log : Option Log) (disk after : D) (stop : FollowStop) (g : Goes disks start since first old mid end log disk) → IsCutIn disks start since g.last mid now stop after → Halts disks start since first old now stop after
halts_at disks start since first old mid now end log disk after stop g x = record {
  last = x.last;
  broke = record {
    doings = g.followed.doings;
    due = g.followed.due;
    cut = x.cut;
    part = ⊎_elim (λ a. inl (a.0, a.1 ∙ g.followed.last_is)) (λ b. inr (subst (λ (c : Copying). IsCut start c x.cut x.last) g.followed.last_is b)) x.part;
    told = tells_more old mid now (tale g.followed.doings first) x.cut g.followed.told x.told;
  };
  doubt = x.doubt;
  left = x.left;
  why = x.why;
}

-- ---- behind an append

pub behind_began : {D : Type 0} (disks : Ghosts D) (done : Bool) (start : Option History) (since : ℕ) (c : Copying) (payload : List ℕ) (end now : Follow) (acts : List FollowAct) (log log_now : Option Log) (disk after : D) → (following_of end).awaits ≡ waits.Append payload
    → (done ≡ true → (l : Log) → log ≡ Some l → (m : Log) × (log_now ≡ Some m) × (m.base ≡ l.base) × AppendsOne disks payload l disk m after)
    → (done ≡ false → (log_now ≡ log) × (after ≡ disk) × ((l : Log) → log ≡ Some l → (payloads : List (List ℕ)) → Knows payloads l → ¬ IsNext l.base payloads payload))
    → ((l : Log) → log ≡ Some l → LeavesEither disks payload l disk after) → is_some (disks.told after) ≡ is_some (disks.told disk) → IsTurn now acts (goes_behind done (following_of end)) → Runs disks start since c end log disk → Began disks start since c [] acts now log_now after
behind_began disks true start since c payload end now acts log log_now disk after awaits appends refuses leaves telling t r =
    appended_began disks start since c payload end now acts log log_now disk after awaits (record { appends = appends refl; leaves = leaves; telling = telling }) t r
behind_began disks false start since c payload end now acts log log_now disk after awaits appends refuses leaves telling t r =
    let no_more = refuses refl in
    refused_began disks start since c payload end now acts log log_now disk after awaits no_more.0 no_more.1 no_more.2 t r

pub acts_at : (acts : List FollowAct) (i : ℕ) → acts ≡ take i acts ++ drop i acts
acts_at acts i = sym (take-append-drop i acts)

entries_append : (xs ys : List FollowAct) → entries (xs ++ ys) ≡ entries xs ++ entries ys
entries_append [] ys = refl
entries_append (x ∷ xs) ys = ap (λ (l : List LinkEntry). entries_of x ++ l) (entries_append xs ys) ∙ sym (append_assoc (entries_of x) (entries xs) (entries ys))

pub performs_more : (old mid now : Option (List LinkEntry)) (done : List FollowAct) (a : FollowAct) → Performs old mid done → Tells mid now (entries_of a) → Performs old now (done ++ a ∷ [])
performs_more old mid now done a p m =
    tells_alike old now _ _ (sym (entries_append done (a ∷ []) ∙ ap (λ (l : List LinkEntry). entries done ++ l) (append-nil (entries_of a)))) (tells_more old mid now (entries done) (entries_of a) p m)

pub performs_breaks : (old mid now : Option (List LinkEntry)) (acts done rest : List FollowAct) → acts ≡ done ++ rest → Performs old mid done → now ≡ mid → Breaks old now acts
performs_breaks old mid now acts done rest whole p same = record { done = done; rest = rest; whole = whole; told = tells_still old mid now (entries done) p same }

pub taken_more : (acts : List FollowAct) (i : ℕ) (a : FollowAct) → i < length acts → a ≡ get_or acts i a → take (i + 1) acts ≡ take i acts ++ a ∷ []
taken_more acts i a inside is = take_more acts i a inside ∙ ap (λ (x : FollowAct). take i acts ++ x ∷ []) (sym is)

-- ---- the start

rose_wider : (a b n : ℕ) → a ≤ b → Rose b n → Rose a n
rose_wider a b n up rose = omega (arith, up, rose)

pub halt_wider : (stop : FollowStop) (a b n : Counts) → AreLater a b → HaltCause stop b n → HaltCause stop a n
halt_wider (halts.Broken stops.NoMemory) a b n later cause = tt
halt_wider (halts.Broken stops.Read) a b n later cause = rose_wider a.reads b.reads n.reads later.reads cause
halt_wider (halts.Broken stops.Write) a b n later cause = rose_wider a.writes b.writes n.writes later.writes cause
halt_wider (halts.Broken stops.Disk) a b n later cause = rose_wider a.disk b.disk n.disk later.disk cause
halt_wider (halts.Unopened fault) a b n later cause = λ is. rose_wider a.disk b.disk n.disk later.disk (cause is)
halt_wider (halts.OtherBase base) a b n later cause = tt

begins_crash : {D : Type 0} (disks : Ghosts D) (tries : ℕ) (disk : D) → ((history : History) → disks.told disk ≡ Some history → latest history.past ≤ disks.time disk) → CrashesBetween (disks.time disk, disks.time disk) (disks.told disk) (disks.told disk) (new_copying tries) []
begins_crash disks tries disk timely history of others is clean opens =
    started (disks.told disk) history (disks.time disk) (IsBetween others (others ++ [])) is (timely history is)
    (λ image here.
    let same : image ≡ history.now.octets = settled_is history.now.octets image (subst (λ (x : Content). IsImage x image) clean here) in
    all_of others (others ++ []) image refl (of, subst (λ (o : List ℕ). Opens of others o) (sym same) opens))

pub begins_runs : {D : Type 0} (disks : Ghosts D) (tries : ℕ) (end : Follow) (disk : D) → ((history : History) → disks.told disk ≡ Some history → latest history.past ≤ disks.time disk) → following_of end ≡ new_follow tries → Runs disks (disks.told disk) (disks.time disk) (new_copying tries) end None disk
begins_runs disks tries end disk timely is = record { is = is; sound = fresh tries; file = (refl, refl); crash = begins_crash disks tries disk timely; telling = refl }

pub halts_first : {D : Type 0} (disks : Ghosts D) (tries : ℕ) (told : Option (List LinkEntry)) (stop : Stop) (disk : D) → ((history : History) → disks.told disk ≡ Some history → latest history.past ≤ disks.time disk) → Halts disks (disks.told disk) (disks.time disk) (new_copying tries) told told (halts.Broken stop) disk
halts_first disks tries told stop disk timely = record {
  last = new_copying tries;
  broke = record { doings = []; due = tt; cut = []; part = inl (refl, refl); told = tells_same told told refl };
  doubt = [];
  left = record { crash = begins_crash disks tries disk timely; has = λ opened. absurd (cc opened) };
  why = tt;
}
