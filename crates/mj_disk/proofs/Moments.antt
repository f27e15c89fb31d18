-- How what a crash may leave goes on over a run of calls.
use Rattle.std.proofs.Common.{◌≡◌, ℕ, ◌<◌, ◌≤◌, ◌⊎◌, List, [], ◌∷◌, true, false, Option, Some, None, is_some, sym, ◌∙◌, ap, subst, inl, inr, ⊎_elim, refl, arith}
use Rattle.mj_disk.specs.Content.{Content, IsImage}
use Rattle.mj_disk.specs.DiskModel.{History, changed, EndedSince, LeftSince, latest, Changes, Syncs, LeavesOnly, LeavesOn}
use Rattle.mj_disk.proofs.Images.{settled_is}

none_since : (past : List (ℕ × Content)) (moment : ℕ) (image : List ℕ) → latest past ≤ moment → EndedSince past moment image → ⊥
none_since [] moment image le ended = ended
none_since (last ∷ past) moment image le (inl ended) = let later : moment < last.0 = ended.0 in omega arith
none_since (last ∷ past) moment image le (inr ended) = none_since past moment image (omega arith) ended

-- since the last change there is what is held now alone
pub only_now : (history : History) (moment : ℕ) (image : List ℕ) → latest history.past ≤ moment → LeftSince (Some history) moment image → IsImage history.now image
only_now history moment image le (inl now) = now
only_now history moment image le (inr ended) = absurd (none_since history.past moment image le ended)

pub told_only_now : (told : Option History) (history : History) (moment : ℕ) (image : List ℕ) → told ≡ Some history → latest history.past ≤ moment → LeftSince told moment image → IsImage history.now image
told_only_now told history moment image is le left =
    only_now history moment image le (subst (λ (t : Option History). LeftSince t moment image) is left)

-- a crash now is one since any moment
pub counts_now : (told : Option History) (history : History) (moment : ℕ) (image : List ℕ) → told ≡ Some history → IsImage history.now image → LeftSince told moment image
counts_now told history moment image is now = subst (λ (t : Option History). LeftSince t moment image) (sym is) (inl now)

-- what tells afterwards told before
pub told_before : (before after : Option History) (history : History) → is_some after ≡ is_some before → after ≡ Some history → (old : History) × (before ≡ Some old)
told_before None after history telling is = absurd (let none : is_some (Some history) ≡ false = ap is_some (sym is) ∙ telling in cc none)
told_before (Some old) after history telling is = (old, refl)

-- nothing was written
pub stays : (old new : Option History) (history : History) (moments : ℕ × ℕ) (P : List ℕ → Type 0) → old ≡ Some history → new ≡ old → latest history.past ≤ moments.0 → moments.0 ≤ moments.1 → ((image : List ℕ) → IsImage history.now image → P image) → LeavesOnly moments old new P
stays old new history moments P is same in_time later here = record {
  later = later;
  each = λ image left. here image (told_only_now new history moments.0 image (same ∙ is) in_time left);
  before = λ moment image le left. inl (subst (λ (t : Option History). LeftSince t moment image) same left);
}

pub started : (old : Option History) (history : History) (moment : ℕ) (P : List ℕ → Type 0) → old ≡ Some history → latest history.past ≤ moment → ((image : List ℕ) → IsImage history.now image → P image) → LeavesOnly (moment, moment) old old P
started old history moment P is in_time here = stays old old history (moment, moment) P is refl in_time (omega arith) here

pub leaves_weaker : (moments : ℕ × ℕ) (old new : Option History) (P Q : List ℕ → Type 0) → LeavesOnly moments old new P → ((image : List ℕ) → P image → Q image) → LeavesOnly moments old new Q
leaves_weaker moments old new P Q leaves weaker = record {
  later = leaves.later;
  each = λ image left. weaker image (leaves.each image left);
  before = λ moment image le left. ⊎_elim (λ earlier. inl earlier) (λ now. inr (weaker image now)) (leaves.before moment image le left);
}

-- two runs, one behind the other
pub then_leaves : (start middle end : ℕ) (old mid new : Option History) (P Q : List ℕ → Type 0) → LeavesOnly (start, middle) old mid P → LeavesOnly (middle, end) mid new Q → ((image : List ℕ) → Q image → P image) → LeavesOnly (start, end) old new P
then_leaves start middle end old mid new P Q first second weaker = record {
  later = omega (arith, first.later, second.later);
  each = λ image left. ⊎_elim (λ earlier. first.each image earlier) (λ now. weaker image now) (second.before start image first.later left);
  before = λ moment image le left. ⊎_elim
      (λ earlier. first.before moment image le earlier)
      (λ now. inr (weaker image now))
      (second.before moment image (omega (arith, le, first.later)) left);
}

-- a run that goes on
pub leaves_on : (moments : ℕ × ℕ) (mid new : Option History) (P : List ℕ → Type 0) → LeavesOnly moments mid new P → LeavesOn P moments mid new
leaves_on moments mid new P second start before first =
    then_leaves start moments.0 moments.1 before mid new P P first second (λ image here. here)

-- one change more
added : (start middle end : ℕ) (old mid : Option History) (held : History) (next : Content) (P : List ℕ → Type 0) → LeavesOnly (start, middle) old mid P → mid ≡ Some held → middle ≤ end → ((image : List ℕ) → IsImage next image → P image) → LeavesOnly (start, end) old (Some (changed end next held)) P
added start middle end old mid held next P so_far is later here = record {
  later = omega (arith, so_far.later);
  each = λ image left. ⊎_elim
      (λ now. here image now)
      (λ ended. so_far.each image (subst (λ (t : Option History). LeftSince t start image) (sym is) (⊎_elim (λ last. inl last.1) (λ earlier. inr earlier) ended)))
      left;
  before = λ moment image le left. ⊎_elim
      (λ now. inr (here image now))
      (λ ended. so_far.before moment image le (subst (λ (t : Option History). LeftSince t moment image) (sym is) (⊎_elim (λ last. inl last.1) (λ earlier. inr earlier) ended)))
      left;
}

later_by : (start middle end : ℕ) (old new : Option History) (P : List ℕ → Type 0) → LeavesOnly (start, middle) old new P → middle ≤ end → LeavesOnly (start, end) old new P
later_by start middle end old new P so_far later =
    record { later = omega (arith, so_far.later); each = so_far.each; before = so_far.before }

-- a call that wrote nothing
pub still : (start middle end : ℕ) (old mid new : Option History) (P : List ℕ → Type 0) → LeavesOnly (start, middle) old mid P → new ≡ mid → middle ≤ end → LeavesOnly (start, end) old new P
still start middle end old mid new P so_far same later =
    subst (λ (t : Option History). LeavesOnly (start, end) old t P) (sym same) (later_by start middle end old mid P so_far later)

-- one call more
pub goes_on : (how : Content → Content → Type 0) (start middle end : ℕ) (old mid new : Option History) (held : History) (P : List ℕ → Type 0) → LeavesOnly (start, middle) old mid P → mid ≡ Some held → Changes how (middle, end) mid new → middle ≤ end → ((next : Content) (image : List ℕ) → how held.now next → IsImage next image → P image) → LeavesOnly (start, end) old new P
goes_on how start middle end old mid new held P so_far is changes later here =
    ⊎_elim
    (λ same. subst (λ (t : Option History). LeavesOnly (start, end) old t P) (is ∙ sym same) (later_by start middle end old mid P so_far later))
    (λ (change : (next : Content) × (new ≡ Some (changed end next held)) × (middle < end) × how held.now next). subst (λ (t : Option History). LeavesOnly (start, end) old t P) (sym change.1) (added start middle end old mid held change.0 P so_far is later (λ image now. here change.0 image change.3 now)))
    (changes held is)

-- a sync more
pub synced_on : (start middle end : ℕ) (old mid new : Option History) (held : History) (P : List ℕ → Type 0) → LeavesOnly (start, middle) old mid P → mid ≡ Some held → IsImage held.now held.now.octets → Changes Syncs (middle, end) mid new → middle ≤ end → LeavesOnly (start, end) old new P
synced_on start middle end old mid new held P so_far is reads changes later =
    goes_on Syncs start middle end old mid new held P so_far is changes later (λ next image syncs now.
    let whole : image ≡ held.now.octets = settled_is held.now.octets image (subst (λ (c : Content). IsImage c image) syncs now) in
    so_far.each image (counts_now mid held start image is (subst (λ (i : List ℕ). IsImage held.now i) (sym whole) reads)))

-- a change of a disk that tells
pub changes_by : (how : Content → Content → Type 0) (start moment end : ℕ) (held new : History) (next : Content) → new ≡ changed moment next held → end ≡ moment → start < moment → how held.now next → Changes how (start, end) (Some held) (Some new)
changes_by how start moment end held new next new_is end_is later how_is history is =
    let same : held ≡ history = cc is in
    let timed : new ≡ changed end next held = new_is ∙ ap (λ (m : ℕ). changed m next held) (sym end_is) in
    let rises : start < end = omega arith in
    subst
    (λ (h : History). (Some new ≡ Some h) ⊎ ((x : Content) × (Some new ≡ Some (changed end x h)) × (start < end) × how h.now x))
    same
    (inr (next, ap (λ (h : History). Some h) timed, rises, how_is))

-- a disk that doesn't tell leaves no images
pub rests : (moments : ℕ × ℕ) (old new : Option History) (P : List ℕ → Type 0) → old ≡ None → is_some new ≡ is_some old → moments.0 ≤ moments.1 → LeavesOnly moments old new P
rests moments old None P none telling later = record { later = later; each = λ image left. absurd left; before = λ moment image le left. absurd left }
rests moments old (Some history) P none telling later = absurd (let no : true ≡ false = telling ∙ ap is_some none in cc no)
