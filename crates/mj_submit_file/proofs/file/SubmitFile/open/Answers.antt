use Rattle.std.proofs.Common.{◌≡◌, ℕ, sym, subst}
use Rattle.mj_submit_file.specs.Files.{HasAll}
use Rattle.mj_submit_file.specs.declared.file.SubmitFile.{SubmitFile}
use Rattle.mj_submit_file.proofs.OpenLemmas.{begin-unopened, first-read, opens-file, read-unopened}
use Rattle.mj_submit_file.proofs.file.SubmitFile.open.Goals as goal

pub returns-in-Err-clause-unopened : goal.returns-in-Err-clause-unopened
returns-in-Err-clause-unopened g c = begin-unopened c.in-Err.fault _ _ c.in-Err.ensures.kind c.in-Err.ensures.refused

pub read_all-requires-clause-read : goal.read_all-requires-clause-read
read_all-requires-clause-read g c =
    first-read c.in-Ok.opening.base c.in-Ok.opening.size c.in-Ok.opening.next 1 c.nothing_yet-progress.result _ _ c.in-Ok.ensures.first.0 c.nothing_yet-progress.ensures c.begin.ensures.telling c.in-Ok.ensures.begun

pub returns-in-Ok-read_all-clause-opened : goal.returns-in-Ok-read_all-clause-opened
returns-in-Ok-read_all-clause-opened g c =
    let file : SubmitFile = record { progress = c.read_all.new.progress; journal = c.finish.result } in
    opens-file g.D.Disk c.args.disk.now c.read_all.new.disk (g.D.Disk.told c.begin.new.disk) 1 c.in-Ok.opening.base c.in-Ok.opening.size file c.read_all.ensures.same c.in-Ok.ensures.begun
    (subst (λ (n : ℕ). HasAll c.in-Ok.opening.base n c.read_all.new.progress (g.D.Disk.told c.begin.new.disk)) (sym c.finish.ensures.end) c.in-Ok-read_all.ensures.all)
    c.finish.ensures.unspent (c.in-Ok-read_all.ensures.settled c.in-Ok.ensures.settled) (g.met.D.Disk.settled_told c.read_all.new.disk)

pub returns-in-Err-read_all-clause-unopened : goal.returns-in-Err-read_all-clause-unopened
returns-in-Err-read_all-clause-unopened g c = read-unopened c.in-Err-read_all.fault c.in-Ok.opening.base _ _ _ c.read_all.ensures.same c.in-Err-read_all.ensures.unread
