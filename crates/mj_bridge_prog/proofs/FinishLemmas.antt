-- The last line of a run, and its status.
use Rattle.std.proofs.Common.{◌≡◌, ℕ, true, false, List, [], Option, inr, Result, Ok, Err, IfOk, IfErr, IfSome, nat_eq, if◌then◌else◌, refl, sym, ap, ◌∙◌, subst}
use Rattle.std.specs.Prelude.{MatchResult}
use Rattle.std.proofs.KnownBytes.{Appends-kept, Appends-nil}
use Rattle.mj_base.specs.Writing.{WriteAdds, WriteCause}
use Rattle.mj_base.specs.declared.sink.WriteAnswer.{WriteAnswer}
use Rattle.mj_base.specs.declared.sink.WriteAnswer.TheVariants as writes
use Rattle.mj_bridge.specs.BridgeRules.{Bridge}
use Rattle.mj_bridge.specs.declared.deck.Deck.{Deck}
use Rattle.mj_bridge_prog.specs.BridgeRun.{Left}
use Rattle.mj_bridge_prog.specs.BridgeTable.{CameTo, Ends, IsHalted, IsRow, Scene, code_of, ending_by, ending_line, is_good, scene, status_after}
use Rattle.mj_bridge_prog.specs.Sides.{Counts, Sides}
use Rattle.mj_bridge_prog.specs.declared.ending.Ending.{Ending}
use Rattle.mj_bridge_prog.specs.declared.ending.Ending.TheVariants as endings
use Rattle.mj_bridge_prog.specs.declared.status.Status.{Status}
use Rattle.mj_bridge_prog.specs.declared.status.Status.TheVariants as statuses
use Rattle.mj_bridge_prog.specs.declared.words.Bridging.{Bridging}
use Rattle.mj_bridge_prog.specs.BridgeTable.{bridge_of}
use Rattle.mj_peer.specs.declared.duty.Duty.{Duty}
use Rattle.mj_peering.specs.declared.leaving.Leaving.{Leaving}
use Rattle.mj_peering.specs.declared.leaving.Leaving.TheVariants as leaves
use Rattle.mj_peering.specs.declared.stop.Stop.{Stop}
use Rattle.mj_peering.specs.declared.stop.Stop.TheVariants as stops
use Rattle.mj_words.specs.Lines.{AppendsLine}
use Rattle.mj_words.specs.SinkCounts.{counted}
use Rattle.mj_bridge_prog.proofs.RunLemmas.{halted-unstarted}

-- the run came to an end
ends : (leaving : Leaving) (first : Bridge) (old now : Sides) (e : Deck) → Left leaving first old now e → Ends leaving e.near.duty.served first old now
ends leaving first old now e l = record {
  calls = l.calls;
  last = l.last;
  in_turn = l.in_turn;
  at_work = l.at_work;
  leaves = l.leaves;
  served = ap (λ (d : Duty). d.served) l.stands.holds.near.duty;
  done = l.done;
}

pub came-to : (leaving : Leaving) (n : ℕ) (first : Bridge) (old now : Sides) (e : Deck) → n ≡ e.near.duty.served → Left leaving first old now e → CameTo first old now (ending_by leaving n)
came-to leaves.Finished n first old now e is l = subst (λ (m : ℕ). Ends leaves.Finished m first old now) (sym is) (ends leaves.Finished first old now e l)
came-to leaves.NoAnswer n first old now e is l = subst (λ (m : ℕ). Ends leaves.NoAnswer m first old now) (sym is) (ends leaves.NoAnswer first old now e l)

-- the line of a good end was written, or wasn't
pub row-written : (first : Bridge) (old now : Sides) (before later : Counts) (had got : Option (List ℕ)) (faults wants faults' wants' : ℕ) (ending : Ending) (answer : WriteAnswer) → is_good ending ≡ true
    → CameTo first old now ending → WriteAdds had got answer (ending_line ending) → WriteCause faults faults' answer
    → IsRow (status_after answer) first (scene old now before later had got (counted faults wants) (counted faults' wants'))
row-written first old now before later had got faults wants faults' wants' (endings.NoAnswer n) answer good came adds cause = cc
row-written first old now before later had got faults wants faults' wants' (endings.Bridged n) writes.Done good came adds cause = (n, came, adds)
row-written first old now before later had got faults wants faults' wants' (endings.Bridged n) writes.NoMemory good came adds cause = inr (endings.Bridged n, came, Appends-kept had had got [] (Appends-nil had) adds)
row-written first old now before later had got faults wants faults' wants' (endings.Bridged n) writes.Failed good came adds cause = inr (cause, (n, came, adds))

-- no answer came
pub row-given-up : (first : Bridge) (s : Scene) (ending : Ending) → is_good ending ≡ false → CameTo first s.old s.now ending → AppendsLine s.had s.got s.sink_before s.sink_after [] (ending_line ending) → IsRow statuses.NoAnswer first s
row-given-up first s (endings.Bridged n) bad came line = cc
row-given-up first s (endings.NoAnswer n) bad came line = (n, came, line)

pub ended : (r : Result Ending Stop) (P : Ending → Type 0) (Q : Stop → Type 0) → IfOk r P → IfErr r Q → MatchResult r P Q
ended (Ok ending) P Q ok err = ok
ended (Err stop) P Q ok err = err

-- ---- statuses and their numbers

abbrev named : ℕ → Status
named n =
    if nat_eq n 0 then statuses.Done
    else if nat_eq n 1 then statuses.Words
    else if nat_eq n 4 then statuses.NoMemory
    else if nat_eq n 6 then statuses.Read
    else if nat_eq n 7 then statuses.Write
    else statuses.NoAnswer

named-code : (s : Status) → named (code_of s) ≡ s
named-code statuses.Done = refl
named-code statuses.Words = refl
named-code statuses.NoMemory = refl
named-code statuses.Read = refl
named-code statuses.Write = refl
named-code statuses.NoAnswer = refl

pub status-is : (s t : Status) (result : ℕ) → result ≡ code_of s → result ≡ code_of t → s ≡ t
status-is s t result e f = sym (named-code s) ∙ ap named (sym e ∙ f) ∙ named-code t

-- the row of a status that is known
pub row-of : (found : Option Bridging) (s : Scene) (result : ℕ) (x y : Status) → IfSome found (λ v. IsRow x (bridge_of v) s) → result ≡ code_of x → result ≡ code_of y → IfSome found (λ v. IsRow y (bridge_of v) s)
row-of found s result x y rows e f = subst (λ (status : Status). IfSome found (λ v. IsRow status (bridge_of v) s)) (status-is x y result e f) rows

-- where the words are right the status isn't that of wrong ones
pub some-words : (first : Bridge) (s : Scene) (x : Status) → IsRow x first s → x ≡ statuses.Words → ⊥
some-words first s x row is = subst (λ (y : Status). IsRow y first s) is row

-- there was no memory for the bridge
pub unmade : (stop : Stop) (first : Bridge) (old : Sides) (before later : Counts) → stop ≡ stops.NoMemory → IsHalted first old old before later stop
unmade stop first old before later is = subst (λ (x : Stop). IsHalted first old old before later x) (sym is) (tt, halted-unstarted stops.NoMemory first old refl)
