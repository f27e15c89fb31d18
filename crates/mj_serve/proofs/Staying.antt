-- What was given stays on the disk over an event, and what is given now is on it.
use Rattle.std.proofs.Common.{◌≡◌, ℕ, List, [], ◌∷◌, ◌++◌, map, Option, Some, None, ⊎_elim, arith}
use Rattle.mj_base.specs.declared.event.Out.{Out}
use Rattle.mj_base.specs.declared.event.Out.TheVariants as outs
use Rattle.mj_disk.specs.DiskModel.{History, LeavesOnly, LeftSince}
use Rattle.mj_laws.specs.Kept.{Extends}
use Rattle.mj_tickets.specs.declared.command.TicketCmd.{TicketCmd}
use Rattle.mj_serve.specs.Given.{Entry, entry_at}
use Rattle.mj_serve.specs.Stability.{AreStable, HasPrefix, IsStable, StaysSince}
use Rattle.mj_serve.proofs.Leaving.{extends-then, prefix-front}

module _ (old new : Option History) (before now : ℕ) (base : ℕ) (commands later : List TicketCmd) (P : List ℕ → Type 0) (leaves : LeavesOnly (before, now) old new P) (has : (image : List ℕ) → P image → HasPrefix base commands image) (extends : Extends commands later) where
  since-on : (behind : List TicketCmd) (moment : Option ℕ) → Extends behind commands → StaysSince old before base behind moment → StaysSince new now base behind moment
  since-on behind None front stays = tt
  since-on behind (Some moment) front stays = (
    omega (arith, stays.0, leaves.later),
    λ image left. ⊎_elim (λ earlier. stays.1 image earlier) (λ here. prefix-front base behind commands image front (has image here)) (leaves.before moment image stays.0 left),
  )

  pub stable-on : (given : List Entry) (marks : List (List TicketCmd)) → AreStable old before base commands given marks → AreStable new now base later given marks
  stable-on [] [] stable = tt
  stable-on [] (behind ∷ marks) stable = absurd stable
  stable-on (entry ∷ given) [] stable = absurd stable
  stable-on (entry ∷ given) (behind ∷ marks) stable = (
    record { extends = extends-then behind commands later stable.0.extends extends; stays = since-on behind entry.moment stable.0.extends stable.0.stays },
    stable-on given marks stable.1,
  )

module _ (told : Option History) (now base : ℕ) (commands : List TicketCmd) where
  pub stable-both : (given more : List Entry) (marks others : List (List TicketCmd)) → AreStable told now base commands given marks → AreStable told now base commands more others → AreStable told now base commands (given ++ more) (marks ++ others)
  stable-both [] more [] others one two = two
  stable-both [] more (behind ∷ marks) others one two = absurd one
  stable-both (entry ∷ given) more [] others one two = absurd one
  stable-both (entry ∷ given) more (behind ∷ marks) others one two = (one.0, stable-both given more marks others one.1 two)

  module _ (same : commands ≡ commands ++ []) (has : (image : List ℕ) → LeftSince told now image → HasPrefix base commands image) where
    put-now : (out : Out) → IsStable told now base commands (entry_at now out) commands
    put-now (outs.Piece lane octets) = record { extends = ([], same); stays = (omega arith, has) }
    put-now (outs.End lane reason at) = record { extends = ([], same); stays = tt }
    put-now (outs.Note note) = record { extends = ([], same); stays = tt }

    pub stable-now : (added : List Out) → AreStable told now base commands (map (entry_at now) added) (map (λ (out : Out). commands) added)
    stable-now [] = tt
    stable-now (out ∷ added) = (put-now out, stable-now added)
