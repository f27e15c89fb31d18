-- The worked runs, computed.
use Rattle.std.proofs.Common.{◌≡◌, ℕ, List, [], ◌∷◌, ◌++◌, length, refl, sym, ap, subst, inl, inr, arith, length-append}
use Rattle.mj_copy.specs.Messages.{number, number_in}
use Rattle.mj_frame.specs.HeadReading.{head_at}
use Rattle.mj_journal.specs.FileText.{IsHeader, Stands, base_octets, header_2, length_octets}
use Rattle.mj_journal.specs.Appending.{StandsForEither}
use Rattle.mj_journal.proofs.Files.{length-header}
use Rattle.mj_journal.proofs.Unique.{opens_once, stands_once, text_stands}
use Rattle.mj_copy_law.specs.CopyRuns.{FollowsOne, FollowsOneStore, GivesUp, ShipsInPieces, ShipsOne, ShipsThree, close, empty_file, one, steps_of_one, whole_file, after_all}
use Rattle.mj_copy_law.specs.World.{Allowed, AtFirst, Opens, Reached, Step, Then, World, after, first}

pub ships_three : ShipsThree
unfolding head_at number number_in
ships_three = (refl, refl)

pub ships_in_pieces : ShipsInPieces
unfolding head_at number number_in
ships_in_pieces = refl

pub follows_one : FollowsOne
unfolding head_at number number_in base_octets length_octets
follows_one = (refl, refl)

pub follows_one_store : FollowsOneStore
unfolding head_at number number_in
follows_one_store = refl

pub gives_up : GivesUp
gives_up = refl

-- ---- the world

is_header_1 : IsHeader 1 (header_2 1)
is_header_1 = inr (omega arith, omega arith, refl)

nothing_stands : Stands (header_2 1) [] empty_file
nothing_stands = text_stands (header_2 1) [] tt

one_stands : Stands (header_2 1) (close ∷ []) whole_file
one_stands = text_stands (header_2 1) (close ∷ []) ((omega arith, omega arith), tt)

-- what an opening of no bytes gives
opens_empty : Opens 1 [] empty_file 0
opens_empty = record {
  head = header_2 1;
  payloads = [];
  is_header = is_header_1;
  stands = nothing_stands;
  count_is = refl;
  same = λ others opens. (opens_once 1 opens.0 [] others [] (inr ((omega arith, no_store), refl, refl)) opens.1).1;
}
  where
    no_store : ¬ ((base : ℕ) × (head : List ℕ) × IsHeader base head × ([] ≡ head ++ 0 ∷ []))
    no_store (base, head, is, e) = omega (arith, length-header base head is, length-append head (0 ∷ []), ap length e)

opens_whole : Opens 1 whole_file whole_file 1
opens_whole = record {
  head = header_2 1;
  payloads = close ∷ [];
  is_header = is_header_1;
  stands = one_stands;
  count_is = refl;
  same = λ others opens. (opens_once 1 opens.0 (close ∷ []) others whole_file (inl (header_2 1, is_header_1, one_stands)) opens.1).1;
}

-- a crash inside the append may leave all of it
crash_leaves_it : (base : ℕ) (head : List ℕ) (payloads : List (List ℕ)) → IsHeader base head → Stands head payloads empty_file → StandsForEither head payloads close whole_file
crash_leaves_it base head payloads is stands =
    let same = stands_once head (header_2 1) payloads [] empty_file (length-header base head is) (length-header 1 (header_2 1) is_header_1) stands nothing_stands in
    inr (subst (λ (h : List ℕ). Stands h (payloads ++ close ∷ []) whole_file) (sym same.0) (subst (λ (ps : List (List ℕ)). Stands (header_2 1) (ps ++ close ∷ []) whole_file) (sym same.1) one_stands))

abbrev AllAllowed : List Step → World → Type 0
AllAllowed [] w = Unit {0}
AllAllowed (step ∷ steps) w = Allowed step w × AllAllowed steps (after one step w)

reached : (start : World) (steps : List Step) (w : World) → Reached one start w → AllAllowed steps w → Reached one start (after_all one steps w)
reached start [] w r all = r
reached start (step ∷ steps) w r all = reached start steps (after one step w) (Then w step r all.0) all.1

all_allowed : AllAllowed steps_of_one (first one [] 3 3)
unfolding head_at number number_in
all_allowed = (tt, (refl, (refl, ((1, refl, opens_empty), (tt, (refl, (crash_leaves_it, (tt, (refl, ((1, refl, opens_whole), (tt, (refl, tt))))))))))))

pub ships_one : ShipsOne
unfolding head_at number number_in
ships_one = (after_all one steps_of_one (first one [] 3 3), refl, refl, refl, refl, refl, refl, reached (first one [] 3 3) steps_of_one (first one [] 3 3) AtFirst all_allowed)
