-- The law on the world, over every list of steps.
use Rattle.std.proofs.Common.{◌≡◌, ℕ, ◌<◌, ◌≤◌, ◌^◌, List, [], ◌∷◌, ◌++◌, sym, ap, subst, ◌∙◌, inl, inr, arith}
use Rattle.std.specs.List.{AllByRecursion}
use Rattle.mj_copy.specs.Messages.{Message, Base, Have, Send, End, Whole, octets_of, reading}
use Rattle.mj_copy.specs.declared.follow_act.FollowAct.{FollowAct}
use Rattle.mj_copy.specs.declared.follow_act.FollowAct.TheVariants as follows
use Rattle.mj_copy_law.specs.CopyLaw.{CopyIsAPrefix, HasFirst, IsAmong, IsLawful, IsSafe}
use Rattle.mj_copy_law.specs.World.{AtFirst, Reached, Source, Then, World, after, first, total_of, turn_of}
use Rattle.mj_copy_law.proofs.Fronts.{fronts_are_read, written_is_read}
use Rattle.mj_copy_law.proofs.ShipTurns.{IsHaveTo}
use Rattle.mj_copy_law.proofs.FollowTurns.{IsFollowAct}
use Rattle.mj_copy_law.proofs.Standing.{Holds, at_first, goes, images}

have_same : (n m : ℕ) → n < 2 ^ 64 → m < 2 ^ 64 → octets_of (Have n) ≡ octets_of (Have m) → n ≡ m
have_same n m one other e =
    let read : Whole (Have n) [] ≡ Whole (Have m) [] = sym (written_is_read (Have n) [] one) ∙ ap (λ (xs : List ℕ). reading (xs ++ [])) e ∙ written_is_read (Have m) [] other in
    cc read

told : (count n : ℕ) (octets : List ℕ) (m : Message) → n < 2 ^ 64 → IsHaveTo count m → octets ≡ octets_of m → octets_of (Have n) ≡ octets → n ≤ count
told count n octets (Base base) fits is spelling e = absurd is
told count n octets (Have m) fits is spelling e = let same = have_same n m fits is.1 (e ∙ spelling) in omega (arith, same, is.0)
told count n octets (Send at payload) fits is spelling e = absurd is
told count n octets End fits is spelling e = absurd is

-- each acknowledgement among these acts is of no more than that
acknowledged : (count n : ℕ) (acts : List FollowAct) → n < 2 ^ 64 → AllByRecursion (IsFollowAct count) acts → IsAmong (follows.Write (octets_of (Have n))) acts → n ≤ count
acknowledged count n [] fits all among = absurd among
acknowledged count n (act ∷ acts) fits all (inr later) = acknowledged count n acts fits all.1 later
acknowledged count n (follows.Write octets ∷ acts) fits all (inl e) = let same : octets_of (Have n) ≡ octets = cc e in told count n octets all.0.0 fits all.0.1 all.0.2 same
acknowledged count n (follows.Open base ∷ acts) fits all (inl e) = absurd (cc e)
acknowledged count n (follows.Append payload ∷ acts) fits all (inl e) = absurd (cc e)
acknowledged count n (follows.Reopen ∷ acts) fits all (inl e) = absurd (cc e)
acknowledged count n (follows.Done ∷ acts) fits all (inl e) = absurd (cc e)
acknowledged count n (follows.NoAnswer ∷ acts) fits all (inl e) = absurd (cc e)

module _ (source : Source) (lawful : IsLawful source) where
  reached : (start w : World) (count : ℕ) → Holds source count start → Reached source start w → (more : ℕ) × Holds source more w
  reached start w count h AtFirst = (count, h)
  reached start w count h (Then v step r allowed) =
      let before = reached start v count h r in
      let g = goes source lawful fronts_are_read step before.0 v before.1 allowed in
      (g.0, g.2)

  safe : (count : ℕ) (w : World) → Holds source count w → IsSafe source w
  safe count w h = record {
    copy_is_prefix = (count, (h.few, h.has));
    images_are_prefixes = λ image is. let l = images source lawful fronts_are_read count w image h is in (l.0, l.2);
    haves_are_true = λ step n fits allowed among.
        let g = goes source lawful fronts_are_read step count w h allowed in
        let below = acknowledged g.0 n (turn_of step w).1 fits g.3 among in
        λ image is. let l = images source lawful fronts_are_read g.0 (after source step w) image g.2 is in let up = l.1 in (l.0, omega (arith, below, up), l.2);
    ship_done_is_all = λ e image is. whole (h.shipping.done e) image (images source lawful fronts_are_read count w image h is);
    follow_done_is_all = λ e image is. whole (h.following.done e) image (images source lawful fronts_are_read count w image h is);
  }
    where
      whole : total_of source ≤ count → (image : List ℕ) → (m : ℕ) × (count ≤ m) × HasFirst source m image → HasFirst source (total_of source) image
      whole all image l =
          let up = l.1 in let most = l.2.0 in
          let same : l.0 ≡ total_of source = omega (arith, all, up, most) in
          subst (λ (m : ℕ). HasFirst source m image) same l.2

pub copy_is_a_prefix : CopyIsAPrefix
copy_is_a_prefix source copy ship_tries follow_tries w lawful is r =
    let h = reached source lawful (first source copy ship_tries follow_tries) w is.0 (at_first source lawful fronts_are_read is.0 copy ship_tries follow_tries is.1) r in
    safe source lawful h.0 w h.1
