use Rattle.std.proofs.Common.{◌≡◌, refl, ap, subst, ◌∙◌}
use Rattle.mj_copy_file.specs.Logs.{AppendsOne, LeavesEither}
use Rattle.mj_copy_file.specs.declared.log.Log.{Log}
use Rattle.mj_copying.proofs.following.append.Goals as goal

pub returns-in-Ok-clause-appended : goal.returns-in-Ok-clause-appended
returns-in-Ok-clause-appended g c = λ yes l is.
    let same : c.in-Some.log ≡ l = cc (c.in-Some.is, is) in
    (c.append.new.self, refl, c.append.ensures.base ∙ ap (λ (x : Log). x.base) same, subst (λ (x : Log). AppendsOne g.D.Disk c.args.payload.now x c.args.disk.now c.append.new.self c.append.new.disk) same (c.in-Ok.ensures.appended yes))

pub returns-in-Ok-clause-crash : goal.returns-in-Ok-clause-crash
returns-in-Ok-clause-crash g c = λ l is.
    let same : c.in-Some.log ≡ l = cc (c.in-Some.is, is) in
    subst (λ (x : Log). LeavesEither g.D.Disk c.args.payload.now x c.args.disk.now c.append.new.disk) same c.append.ensures.crash

pub returns-in-Err-NoMemory-clause-crash : goal.returns-in-Err-NoMemory-clause-crash
returns-in-Err-NoMemory-clause-crash g c = λ l is.
    let same : c.in-Some.log ≡ l = cc (c.in-Some.is, is) in
    subst (λ (x : Log). LeavesEither g.D.Disk c.args.payload.now x c.args.disk.now c.append.new.disk) same c.append.ensures.crash

pub returns-in-Err-Disk-clause-crash : goal.returns-in-Err-Disk-clause-crash
returns-in-Err-Disk-clause-crash g c = λ l is.
    let same : c.in-Some.log ≡ l = cc (c.in-Some.is, is) in
    subst (λ (x : Log). LeavesEither g.D.Disk c.args.payload.now x c.args.disk.now c.append.new.disk) same c.append.ensures.crash
