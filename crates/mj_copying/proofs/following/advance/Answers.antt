use Rattle.std.proofs.Common.{List, ℕ, [], ◌∷◌, refl, sym, ap, subst, ◌∙◌}
use Rattle.mj_copy.specs.declared.awaits.Awaits.TheVariants as waits
use Rattle.mj_copying.specs.FollowState.{Stopped}
use Rattle.mj_copying.specs.Passing.{entry_of}
use Rattle.mj_copying.specs.declared.following.FollowStop.{FollowStop}
use Rattle.mj_copying.specs.declared.stop.Stop.TheVariants as stops
use Rattle.mj_copying.proofs.FollowLemmas.{append_stopped, behind_began, is_base, is_few, is_held, opened_began, opened_stopped, took_began, took_stopped}
use Rattle.mj_copying.proofs.LinkLemmas.{if_err, if_err_both, if_ok, tells_same}
use Rattle.mj_copying.proofs.following.advance.Goals as goal

pub append-requires : goal.append-requires
append-requires g c = is_held g.D.Disk c.args.end.now c.args.log.now c.args.disk.now c.in-Append.payload c.requires.runs (sym c.awaits.ensures ∙ c.in-Append.is)

pub go_on-requires-clause-few : goal.go_on-requires-clause-few
go_on-requires-clause-few g c = is_few g.D.Disk c.args.end.now c.args.log.now c.args.disk.now c.in-Append.payload c.requires.runs (sym c.awaits.ensures ∙ c.in-Append.is)

pub open-requires-clause-low : goal.open-requires-clause-low
open-requires-clause-low g c = (is_base g.D.Disk c.args.end.now c.args.log.now c.args.disk.now c.in-File.base c.requires.runs (sym c.awaits.ensures ∙ c.in-File.is)).0

pub open-requires-clause-high : goal.open-requires-clause-high
open-requires-clause-high g c = (is_base g.D.Disk c.args.end.now c.args.log.now c.args.disk.now c.in-File.base c.requires.runs (sym c.awaits.ensures ∙ c.in-File.is)).1

pub returns-in-Link-clause-began : goal.returns-in-Link-clause-began
returns-in-Link-clause-began g c =
    if_ok c.take.result
    (λ acts q start since now r. (entry_of q.0 ∷ [], q.1, took_began g.D.Disk start since now q.0 c.args.end.now c.take.new.end acts.items c.args.log.now c.args.disk.now (sym c.awaits.ensures ∙ c.in-Link.is) q.2 r))
    c.take.ensures.took

pub returns-in-Link-clause-stopped : goal.returns-in-Link-clause-stopped
returns-in-Link-clause-stopped g c =
    if_err_both c.take.result
    (λ stop read cause start since now r. took_stopped g.D.Disk start since now c.args.end.now c.args.log.now c.args.disk.now (g.L.Link.told c.args.link.now) (g.L.Link.told c.take.new.link) stop _ _ (sym c.awaits.ensures ∙ c.in-Link.is) read cause r)
    c.take.ensures.stopped c.take.ensures.cause

pub returns-in-File-clause-began : goal.returns-in-File-clause-began
returns-in-File-clause-began g c =
    if_ok c.open.result
    (λ acts q start since now r. (
      [],
      tells_same (g.L.Link.told c.args.link.now) (g.L.Link.told c.args.link.now) refl,
      opened_began g.D.Disk start since now c.in-File.base q.0 c.args.end.now c.open.new.end acts.items c.args.log.now c.open.new.log c.args.disk.now c.open.new.disk (sym c.awaits.ensures ∙ c.in-File.is) q.1 q.2 q.3 q.4 c.open.ensures.telling c.open.ensures.crash r,
    ))
    c.open.ensures.opened

pub returns-in-File-clause-stopped : goal.returns-in-File-clause-stopped
returns-in-File-clause-stopped g c =
    if_err c.open.result
    (λ stop why start since now r. opened_stopped g.D.Disk start since now c.in-File.base c.args.end.now c.args.log.now c.args.disk.now c.open.new.disk (g.L.Link.told c.args.link.now) stop (sym c.awaits.ensures ∙ c.in-File.is) why c.open.ensures.crash r)
    c.open.ensures.why

pub returns-in-Err-clause-stopped : goal.returns-in-Err-clause-stopped
returns-in-Err-clause-stopped g c = λ start since now r.
    append_stopped g.D.Disk start since now c.as_slice.result.now c.args.end.now c.args.log.now c.args.disk.now c.append.new.disk (g.L.Link.told c.args.link.now) c.in-Err.stop
    (sym c.awaits.ensures ∙ c.in-Append.is ∙ ap (λ (p : List ℕ). waits.Append p) (sym c.as_slice.ensures)) c.append.ensures.crash r

pub returns-in-Ok-clause-began : goal.returns-in-Ok-clause-began
returns-in-Ok-clause-began g c =
    if_ok c.go_on.result
    (λ acts t start since now r. (
      [],
      tells_same (g.L.Link.told c.args.link.now) (g.L.Link.told c.args.link.now) refl,
      behind_began g.D.Disk c.in-Ok.done start since now c.as_slice.result.now c.args.end.now c.go_on.new.end acts.items c.args.log.now c.append.new.log c.args.disk.now c.append.new.disk
          (sym c.awaits.ensures ∙ c.in-Append.is ∙ ap (λ (p : List ℕ). waits.Append p) (sym c.as_slice.ensures))
          c.in-Ok.ensures.appended c.in-Ok.ensures.refused c.append.ensures.crash c.append.ensures.telling t r,
    ))
    c.go_on.ensures.turn

pub returns-in-Ok-clause-stopped : goal.returns-in-Ok-clause-stopped
returns-in-Ok-clause-stopped g c =
    if_err c.go_on.result
    (λ stop is start since now r.
    subst (λ (s : FollowStop). Stopped g.D.Disk start since now (g.L.Link.told c.args.link.now) (g.L.Link.told c.args.link.now) s c.append.new.disk) (sym is)
    (append_stopped g.D.Disk start since now c.as_slice.result.now c.args.end.now c.args.log.now c.args.disk.now c.append.new.disk (g.L.Link.told c.args.link.now) stops.NoMemory
    (sym c.awaits.ensures ∙ c.in-Append.is ∙ ap (λ (p : List ℕ). waits.Append p) (sym c.as_slice.ensures)) c.append.ensures.crash r))
    c.go_on.ensures.cause
