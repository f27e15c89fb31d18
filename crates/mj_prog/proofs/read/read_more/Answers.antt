use Rattle.std.proofs.Common.{◌≤◌, ◌-◌, ℕ, List, sym, subst, rules}
use Rattle.mj_prog.specs.ReadSoFar.{IsSoFar}
use Rattle.mj_prog.proofs.SoFar.{so_far-got, so_far-end, so_far-kept, failed-read}
use Rattle.mj_prog.proofs.ReadingStops.{reads-here}
use Rattle.mj_prog.proofs.read.read_more.Goals as goal

pub returns-in-Got-clause-stands : goal.returns-in-Got-clause-stands
returns-in-Got-clause-stands g c = λ from taken so_far.
    let progress = c.args.progress.now in
    let fills = c.in-Got.ensures.fills in
    let few : c.in-Got.count ≤ progress.room = search (rules, fills.1) in
    subst (λ (xs : List ℕ). IsSoFar from (g.S.Source.left c.fill.new.src) progress.lanes xs (progress.room - c.in-Got.count) progress.lines taken) (sym fills.2.1)
    (so_far-got from _ _ progress.lanes progress.pending.items fills.2.0 progress.room c.in-Got.count progress.lines taken so_far c.requires.some few fills.2.2 fills.2.3)

pub returns-in-End-clause-stands : goal.returns-in-End-clause-stands
returns-in-End-clause-stands g c = λ from taken so_far.
    let progress = c.args.progress.now in
    let fills = c.in-End.ensures.fills in
    subst (λ (xs : List ℕ). IsSoFar from (g.S.Source.left c.fill.new.src) progress.lanes xs 0 progress.lines taken) (sym fills.0)
    (so_far-end from _ _ progress.lanes progress.pending.items progress.room progress.lines taken so_far c.requires.some fills.1 fills.2)

pub returns-in-Failed-clause-stands : goal.returns-in-Failed-clause-stands
returns-in-Failed-clause-stands g c = λ from taken so_far.
    let progress = c.args.progress.now in
    let fills = c.in-Failed.ensures.fills in
    failed-read from _ _ progress.lanes progress.pending.items progress.room progress.lines taken so_far c.requires.whole c.requires.some fills.1

pub returns-in-NoMemory-clause-stands : goal.returns-in-NoMemory-clause-stands
returns-in-NoMemory-clause-stands g c = λ from taken so_far.
    let progress = c.args.progress.now in
    let fills = c.in-NoMemory.ensures.fills in
    subst (λ (xs : List ℕ). IsSoFar from (g.S.Source.left c.fill.new.src) progress.lanes xs progress.room progress.lines taken) (sym fills.0)
    (so_far-kept from _ _ progress.lanes progress.pending.items progress.room progress.lines taken so_far fills.1)

pub returns-in-Got-clause-no_further : goal.returns-in-Got-clause-no_further
returns-in-Got-clause-no_further g c = λ from taken so_far.
    let progress = c.args.progress.now in
    reads-here from _ _ _ progress.lanes progress.pending.items progress.room progress.lines taken c.in-Got.ensures.last so_far c.requires.whole c.requires.some

pub returns-in-End-clause-no_further : goal.returns-in-End-clause-no_further
returns-in-End-clause-no_further g c = λ from taken so_far.
    let progress = c.args.progress.now in
    reads-here from _ _ _ progress.lanes progress.pending.items progress.room progress.lines taken c.in-End.ensures.last so_far c.requires.whole c.requires.some

pub returns-in-Failed-clause-no_further : goal.returns-in-Failed-clause-no_further
returns-in-Failed-clause-no_further g c = λ from taken so_far.
    let progress = c.args.progress.now in
    reads-here from _ _ _ progress.lanes progress.pending.items progress.room progress.lines taken c.in-Failed.ensures.last so_far c.requires.whole c.requires.some

pub returns-in-NoMemory-clause-no_further : goal.returns-in-NoMemory-clause-no_further
returns-in-NoMemory-clause-no_further g c = λ from taken so_far.
    let progress = c.args.progress.now in
    reads-here from _ _ _ progress.lanes progress.pending.items progress.room progress.lines taken c.in-NoMemory.ensures.last so_far c.requires.whole c.requires.some
