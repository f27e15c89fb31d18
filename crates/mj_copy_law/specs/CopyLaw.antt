-- The law on the world: the copy is a prefix of the source, whatever the links and the crashes do.
use Rattle.std.specs.Prelude.{ℕ, ◌≡◌, ◌<◌, ◌≤◌, ◌^◌, ◌⊎◌, List, [], ◌∷◌, take}
use Rattle.std.specs.List.{AllByRecursion}
use Rattle.mj_copy.specs.Messages.{Have, octets_of}
use Rattle.mj_copy.specs.declared.follow_act.FollowAct.{FollowAct}
use Rattle.mj_copy.specs.declared.follow_act.FollowAct.TheVariants as follows
use Rattle.mj_copy.specs.declared.phase.Phase.TheVariants.{Finished}
use Rattle.mj_copy_law.specs.World.{Allowed, Leaves, Reached, Source, Step, World, after, first, total_of, turn_of}
use Rattle.mj_journal.specs.FileText.{IsPayload, OpensAs}

-- the file opens as the first n commands of the source
abbrev pub HasFirst : Source → ℕ → List ℕ → Type 0
HasFirst source n octets = (n ≤ total_of source) × OpensAs (take n source.payloads) octets

abbrev pub IsPrefix : Source → List ℕ → Type 0
IsPrefix source octets = (n : ℕ) × HasFirst source n octets

-- the file opens as at least the first n commands of the source
abbrev pub HasAtLeast : Source → ℕ → List ℕ → Type 0
HasAtLeast source n octets = (m : ℕ) × (n ≤ m) × HasFirst source m octets

-- in each image that a crash now may leave
abbrev pub InEachImage : World → (List ℕ → Type 0) → Type 0
InEachImage w P = (image : List ℕ) → Leaves w.following.awaits w.copy image → P image

abbrev pub IsAmong : FollowAct → List FollowAct → Type 0
IsAmong act [] = ⊥
IsAmong act (other ∷ acts) = (act ≡ other) ⊎ IsAmong act acts

pub record IsLawful (source : Source) : Type 0 where
  pub base_from : 1 ≤ source.base
  pub base_to : source.base ≤ 2 ^ 61
  pub few : total_of source < 2 ^ 62
  pub payloads : AllByRecursion IsPayload source.payloads

-- each acknowledgement is written when every image has what it acknowledges
abbrev pub EachHaveIsTrue : Source → World → Type 0
EachHaveIsTrue source w =
    (step : Step) (n : ℕ) → n < 2 ^ 64 → Allowed step w → IsAmong (follows.Write (octets_of (Have n))) (turn_of step w).1 → InEachImage (after source step w) (HasAtLeast source n)

pub record IsSafe (source : Source) (w : World) : Type 0 where
  pub copy_is_prefix : IsPrefix source w.copy
  pub images_are_prefixes : InEachImage w (IsPrefix source)
  pub haves_are_true : EachHaveIsTrue source w
  pub ship_done_is_all : w.shipping.phase ≡ Finished → InEachImage w (HasFirst source (total_of source))
  pub follow_done_is_all : w.following.phase ≡ Finished → InEachImage w (HasFirst source (total_of source))

-- behind every list of steps, from a copy that is a prefix
abbrev pub CopyIsAPrefix : Type 0
CopyIsAPrefix =
    (source : Source) (copy : List ℕ) (ship_tries follow_tries : ℕ) (w : World) → IsLawful source → IsPrefix source copy
    → Reached source (first source copy ship_tries follow_tries) w → IsSafe source w
