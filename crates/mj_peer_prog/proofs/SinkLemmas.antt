-- What link and sink tell where nothing or a last line is added.
use Rattle.std.proofs.Common.{◌≤◌, ℕ, List, [], ◌++◌, take, Option, None, Some, refl, sym, ap, subst, append-nil, arith}
use Rattle.std.specs.Io.KnownBytes.{Appends, Keeps}
use Rattle.std.proofs.KnownBytes.{Appends-trans, Appends-nil, Appends-kept}
use Rattle.mj_base.specs.Linking.{Tells}
use Rattle.mj_base.specs.Rising.{Rose}
use Rattle.mj_base.specs.declared.link.LinkEntry.{LinkEntry}
use Rattle.mj_peering.specs.Performing.{AreLater, Counts, Moves, Places, places}
use Rattle.mj_words.specs.SinkCounts.{counted}
use Rattle.mj_words.specs.SinkCounts.{AreLater as AreLaterAtSink}

tells-same : (old : Option (List LinkEntry)) → Tells old old []
tells-same None = refl
tells-same (Some xs) = ap Some (sym (append-nil xs))

pub moves-none : (old : Places) → Moves old old [] []
moves-none old = record { told = tells-same old.told; got = Appends-nil old.got }

pub later-same : (c : Counts) → AreLater c c
later-same c = record { reads = omega arith; writes = omega arith; prints = omega arith; wants = omega arith }

-- a last line behind what was printed
pub moves-line : (old : Places) (told : Option (List LinkEntry)) (got new : Option (List ℕ)) (passed : List LinkEntry) (shown line : List ℕ)
    → Moves old (places told got) passed shown → Appends got new line → Moves old (places told new) passed (shown ++ line)
moves-line old told got new passed shown line m a = record { told = m.told; got = Appends-trans old.got got new shown line m.got a }

-- nothing behind it
pub moves-kept : (old : Places) (told : Option (List LinkEntry)) (got new : Option (List ℕ)) (passed : List LinkEntry) (shown : List ℕ)
    → Moves old (places told got) passed shown → Keeps got new → Moves old (places told new) passed shown
moves-kept old told got new passed shown m k = record { told = m.told; got = Appends-kept old.got got new shown m.got k }

pub moves-front : (old now : Places) (passed : List LinkEntry) (shown line : List ℕ) → Moves old now passed shown → Moves old now passed (shown ++ take 0 line)
moves-front old now passed shown line m = subst (λ (l : List ℕ). Moves old now passed l) (sym (append-nil shown)) m

pub sink-later : (before now : Counts) → AreLater before now → AreLaterAtSink (counted before.prints before.wants) (counted now.prints now.wants)
sink-later before now l = record { faults = l.prints; wants = l.wants }

pub rose-from : (a b c : ℕ) → a ≤ b → Rose b c → Rose a c
rose-from a b c first rose = omega arith
