-- What an opening hands out is the list as which the bytes open.
use Rattle.std.proofs.Common.{◌≡◌, ℕ, ◌⊎◌, List, [], ◌∷◌, ◌++◌, length, Option, Some, refl, sym, ◌∙◌, ap, subst, inl, inr, ⊎_elim, arith, append_assoc}
use Rattle.std.proofs.lemmas.List.{append-nil}
use Rattle.mj_disk.specs.Content.{Content, IsImage}
use Rattle.mj_disk.specs.DiskModel.{History, IsSettled, LeftSince}
use Rattle.mj_disk.proofs.Moments.{counts_now}
use Rattle.mj_journal.specs.FileText.{header_2, IsHeader, IsShort, Opens, OpensAs, Stands, StandsFor, end_of}
use Rattle.mj_journal.specs.Opening.{ReadTo, IsBegun, IsImageOrOpensAlike}
use Rattle.mj_journal.specs.Appending.{CrashesOldOrNew}
use Rattle.mj_journal.specs.HandedOut.{HandsFrom, HandsOut, IsBaseOf, OpensAsEither, ReadsSince}
use Rattle.mj_journal.proofs.Files.{length-header, length-base_octets}
use Rattle.mj_journal.proofs.Beginning.{short_is_nil}
use Rattle.mj_journal.proofs.Unique.{stands_once, stands_short, opens_once}

-- what was read so far, and what is handed out from there on
hands_on : (base gate : ℕ) (head : List ℕ) (sofar handed : List (List ℕ)) (held : Content) → ReadTo base gate head sofar held.octets → HandsFrom base gate handed held → Stands head (sofar ++ handed) held.octets
hands_on base gate head sofar [] held r from =
    subst (λ (ps : List (List ℕ)). Stands head ps held.octets) (sym (append-nil sofar)) (from.1 head sofar r)
hands_on base gate head sofar (payload ∷ handed) held r from =
    let more = hands_on base from.0 head (sofar ++ payload ∷ []) handed held (from.1.1 head sofar r) from.2 in
    subst (λ (ps : List (List ℕ)). Stands head ps held.octets) (append_assoc sofar (payload ∷ []) handed) more

length-header_2 : (asked : ℕ) → length (header_2 asked) ≡ 16
length-header_2 asked = omega (arith, length-base_octets asked)

-- a new file stands for no payloads
new_stands : (head : List ℕ) → Stands head [] (head ++ 0 ∷ [])
new_stands head = record {
  blocks = [];
  rest = [];
  all_open = tt;
  holds = refl;
  spells = ap (λ (l : List ℕ). l ++ 0 ∷ []) (sym (append-nil head));
}

begun_hands : (asked base size of : ℕ) (payloads handed : List (List ℕ)) (old new : Content) → IsBegun asked base size old new → HandsFrom base 16 handed new → Opens of payloads old.octets → (handed ≡ payloads) × IsBaseOf asked base of old.octets
begun_hands asked base size of payloads handed old new begun from opens =
    let stands = hands_on base 16 begun.head [] handed new begun.reads from in
    let long = length-header base begun.head begun.reads.is_header in
    ⊎_elim
    (λ (kept : (new.octets ≡ old.octets) × ¬ IsShort old.octets).
    let whole : StandsFor base handed old.octets = (begun.head, begun.reads.is_header, subst (λ (l : List ℕ). Stands begun.head handed l) kept.0 stands) in
    let once = opens_once base of handed payloads old.octets (inl whole) opens in
    (once.1, inl once.0))
    (λ (made : IsShort old.octets × (new.octets ≡ header_2 asked ++ 0 ∷ []) × (base ≡ asked)).
    let none = opens_once 1 of [] payloads old.octets (inr (made.0, refl, refl)) opens in
    let fresh = subst (λ (l : List ℕ). Stands (header_2 asked) [] l) (sym made.1) (new_stands (header_2 asked)) in
    let once = stands_once begun.head (header_2 asked) handed [] new.octets long (length-header_2 asked) stands fresh in
    (once.1 ∙ none.1, inr (made.0, made.2)))
    begun.same

pub hands_out : (asked base of : ℕ) (payloads handed : List (List ℕ)) (told after : Option History) (history : History) → told ≡ Some history → HandsOut asked base handed told after → Opens of payloads history.now.octets → (handed ≡ payloads) × IsBaseOf asked base of history.now.octets
hands_out asked base of payloads handed told after history is out opens =
    let begun = out.1 history is in
    begun_hands asked base out.0 of payloads handed history.now begun.0.now begun.2 (out.2 begun.0 begun.1) opens

pub hands_out_either : (asked base : ℕ) (first second handed : List (List ℕ)) (told after : Option History) (history : History) → told ≡ Some history → HandsOut asked base handed told after → OpensAs first history.now.octets ⊎ OpensAs second history.now.octets → (handed ≡ first) ⊎ (handed ≡ second)
hands_out_either asked base first second handed told after history is out opens =
    ⊎_elim
    (λ (one : OpensAs first history.now.octets). inl (hands_out asked base one.0 first handed told after history is out one.1).0)
    (λ (two : OpensAs second history.now.octets). inr (hands_out asked base two.0 second handed told after history is out two.1).0)
    opens

-- a file that has a header isn't made anew
kept_base : (asked base of : ℕ) (payloads : List (List ℕ)) (octets : List ℕ) → StandsFor of payloads octets → IsBaseOf asked base of octets → base ≡ of
kept_base asked base of payloads octets stands (inl same) = same
kept_base asked base of payloads octets stands (inr made) = absurd (made.0.1 (stands_short of payloads octets stands made.0.0))

pub hands_out_appended : (payload : List ℕ) (end : ℕ) (moments : ℕ × ℕ) (before told : Option History) → CrashesOldOrNew payload end moments before told
    → (history left : History) (after : Option History) (head : List ℕ) (asked base of : ℕ) (payloads handed : List (List ℕ)) → before ≡ Some history → IsSettled history.now → IsHeader of head → Stands head payloads history.now.octets → end ≡ end_of payloads
    → LeftSince told moments.0 left.now.octets → HandsOut asked base handed (Some left) after
    → (base ≡ of) × ((handed ≡ payloads) ⊎ (handed ≡ payloads ++ payload ∷ []))
hands_out_appended payload end moments before told crashes history left after head asked base of payloads handed is all_synced is_header stands place since out =
    let leaves = crashes history head payloads is all_synced (length-header of head is_header) stands place in
    ⊎_elim
    (λ (old : Stands head payloads left.now.octets).
    let whole : StandsFor of payloads left.now.octets = (head, is_header, old) in
    let found = hands_out asked base of payloads handed (Some left) after left refl out (inl whole) in
    (kept_base asked base of payloads left.now.octets whole found.1, inl found.0))
    (λ (new : Stands head (payloads ++ payload ∷ []) left.now.octets).
    let whole : StandsFor of (payloads ++ payload ∷ []) left.now.octets = (head, is_header, new) in
    let found = hands_out asked base of (payloads ++ payload ∷ []) handed (Some left) after left refl out (inl whole) in
    (kept_base asked base of (payloads ++ payload ∷ []) left.now.octets whole found.1, inr found.0))
    (leaves.each left.now.octets since)

-- an image that a crash inside a beginning left is one of before, or opens as no payloads, as what was read does
pub alike_opens : (first second : List (List ℕ)) (held : Content) (image : List ℕ) → OpensAsEither first second held → IsImage held held.octets → IsImageOrOpensAlike held image → OpensAs first image ⊎ OpensAs second image
alike_opens first second held image each reads (inl before) = each image before
alike_opens first second held image each reads (inr alike) =
    let none = alike.1.1 in
    ⊎_elim
    (λ (one : OpensAs first held.octets). inl (subst (λ (ps : List (List ℕ)). OpensAs ps image) (sym (short_is_nil first held.octets alike.0.0 one)) none))
    (λ (two : OpensAs second held.octets). inr (subst (λ (ps : List (List ℕ)). OpensAs ps image) (sym (short_is_nil second held.octets alike.0.0 two)) none))
    (each held.octets reads)

-- what a disk reads is an image since any moment
pub reads_since : (told : Option History) (moment : ℕ) (left : History) → ((history : History) → told ≡ Some history → IsImage history.now history.now.octets) → ReadsSince told moment left → LeftSince told moment left.now.octets
reads_since told moment left reads (inl here) = counts_now told left moment left.now.octets here (reads left here)
reads_since told moment left reads (inr since) = since
