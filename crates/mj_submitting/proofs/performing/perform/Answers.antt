use Rattle.std.proofs.Common.{◌≡◌, ◌∷◌, [], List, ℕ, refl, sym, subst, ap}
use Rattle.std.proofs.lemmas.Result.{err_from_is_err_and, on_err_weaker, on_ok_weaker}
use Rattle.mj_base.specs.Linking.{Tells}
use Rattle.mj_base.specs.declared.link.LinkEntry.TheVariants as entry
use Rattle.mj_peering.specs.Performing.{places}
use Rattle.mj_submitter.specs.declared.effect.Effect.{Effect}
use Rattle.mj_submitter.specs.declared.effect.Effect.TheVariants as effect
use Rattle.mj_submitting.specs.Performing.{FailsAt, Performs, World, world}
use Rattle.mj_submitting.proofs.PlaceLemmas.{appends-same, tells-same}
use Rattle.mj_submitting.proofs.PerformLemmas.{fails-note, fails-other, performs-note, performs-other}
use Rattle.mj_submitting.proofs.performing.perform.Goals as goal

pub returns-in-Done-clause-done : goal.returns-in-Done-clause-done
returns-in-Done-clause-done g c =
    let old = world (g.L.Link.told c.args.link.now) (g.K.Sink.written c.args.out.now) c.args.file.now c.args.disk.now in
    let now = world (g.L.Link.told c.write.new.self) (g.K.Sink.written c.args.out.now) c.args.file.now c.args.disk.now in
    subst (λ (e : Effect). Performs g.D.Disk old now (e ∷ [])) (sym c.in-Write.is) (performs-other g.D.Disk old now (effect.Write c.in-Write.text) refl refl refl (g.met.D.Disk.in_time c.args.disk.now) (record { told = subst (λ (l : List ℕ). Tells old.told now.told (entry.Wrote l ∷ [])) c.as_slice.ensures c.in-Done.ensures.told; got = appends-same old.got now.got refl }))

pub returns-in-NoMemory-clause-broken : goal.returns-in-NoMemory-clause-broken
returns-in-NoMemory-clause-broken g c =
    let old = world (g.L.Link.told c.args.link.now) (g.K.Sink.written c.args.out.now) c.args.file.now c.args.disk.now in
    let now = world (g.L.Link.told c.write.new.self) (g.K.Sink.written c.args.out.now) c.args.file.now c.args.disk.now in
    subst (λ (e : Effect). FailsAt g.D.Disk old now e) (sym c.in-Write.is) (fails-other g.D.Disk old now (effect.Write c.in-Write.text) 0 refl refl refl (g.met.D.Disk.in_time c.args.disk.now) c.in-NoMemory.ensures.told (appends-same old.got now.got refl))

pub returns-in-Failed-clause-broken : goal.returns-in-Failed-clause-broken
returns-in-Failed-clause-broken g c =
    let old = world (g.L.Link.told c.args.link.now) (g.K.Sink.written c.args.out.now) c.args.file.now c.args.disk.now in
    let now = world (g.L.Link.told c.write.new.self) (g.K.Sink.written c.args.out.now) c.args.file.now c.args.disk.now in
    subst (λ (e : Effect). FailsAt g.D.Disk old now e) (sym c.in-Write.is) (fails-other g.D.Disk old now (effect.Write c.in-Write.text) 0 refl refl refl (g.met.D.Disk.in_time c.args.disk.now) c.in-Failed.ensures.told (appends-same old.got now.got refl))

pub returns-in_err-reopen-in-Reopen-clause-broken : goal.returns-in_err-reopen-in-Reopen-clause-broken
returns-in_err-reopen-in-Reopen-clause-broken g c =
    let old = world (g.L.Link.told c.args.link.now) (g.K.Sink.written c.args.out.now) c.args.file.now c.args.disk.now in
    let now = world (g.L.Link.told c.reopen.new.self) (g.K.Sink.written c.args.out.now) c.args.file.now c.args.disk.now in
    let p = err_from_is_err_and c.from_residual.result c.from_residual.ensures.1 in
    rw p.1 (subst (λ (e : Effect). FailsAt g.D.Disk old now e) (sym c.in-Reopen.is) (fails-other g.D.Disk old now effect.Reopen 0 refl refl refl (g.met.D.Disk.in_time c.args.disk.now) c.in_err-reopen-in-Reopen.ensures.err (appends-same old.got now.got refl)))

pub returns-in_ok-reopen-in-Reopen-clause-done : goal.returns-in_ok-reopen-in-Reopen-clause-done
returns-in_ok-reopen-in-Reopen-clause-done g c =
    let old = world (g.L.Link.told c.args.link.now) (g.K.Sink.written c.args.out.now) c.args.file.now c.args.disk.now in
    let now = world (g.L.Link.told c.reopen.new.self) (g.K.Sink.written c.args.out.now) c.args.file.now c.args.disk.now in
    subst (λ (e : Effect). Performs g.D.Disk old now (e ∷ [])) (sym c.in-Reopen.is) (performs-other g.D.Disk old now effect.Reopen refl refl refl (g.met.D.Disk.in_time c.args.disk.now) (record { told = c.in_ok-reopen-in-Reopen.ensures.ok; got = appends-same old.got now.got refl }))

pub returns-in-Print-clause-done : goal.returns-in-Print-clause-done
returns-in-Print-clause-done g c =
    let old = world (g.L.Link.told c.args.link.now) (g.K.Sink.written c.args.out.now) c.args.file.now c.args.disk.now in
    let now = world (g.L.Link.told c.args.link.now) (g.K.Sink.written c.print_reply.new.out) c.args.file.now c.args.disk.now in
    on_ok_weaker c.print_reply.result (λ d. subst (λ (e : Effect). Performs g.D.Disk old now (e ∷ [])) (sym c.in-Print.is) (performs-other g.D.Disk old now (effect.Print c.in-Print.line c.in-Print.body) refl refl refl (g.met.D.Disk.in_time c.args.disk.now) (record { told = tells-same old.told now.told refl; got = d }))) c.print_reply.ensures.done

pub returns-in-Print-clause-broken : goal.returns-in-Print-clause-broken
returns-in-Print-clause-broken g c =
    let old = world (g.L.Link.told c.args.link.now) (g.K.Sink.written c.args.out.now) c.args.file.now c.args.disk.now in
    let now = world (g.L.Link.told c.args.link.now) (g.K.Sink.written c.print_reply.new.out) c.args.file.now c.args.disk.now in
    on_err_weaker c.print_reply.result (λ b. subst (λ (e : Effect). FailsAt g.D.Disk old now e) (sym c.in-Print.is) (fails-other g.D.Disk old now (effect.Print c.in-Print.line c.in-Print.body) b.0 refl refl refl (g.met.D.Disk.in_time c.args.disk.now) refl b.1)) c.print_reply.ensures.broken

pub returns-in-Ok-true-clause-done : goal.returns-in-Ok-true-clause-done
returns-in-Ok-true-clause-done g c =
    let old = world (g.L.Link.told c.args.link.now) (g.K.Sink.written c.args.out.now) c.args.file.now c.args.disk.now in
    let now = world (g.L.Link.told c.args.link.now) (g.K.Sink.written c.args.out.now) c.append.new.self c.append.new.disk in
    subst (λ (e : Effect). Performs g.D.Disk old now (e ∷ [])) (sym c.in-Note.is) (performs-note g.D.Disk old now c.in-Note.note refl refl (c.in-Ok-true.ensures.appended c.in-Ok-true.field-0-test) c.append.ensures.crash)

pub returns-in-Err-NoMemory-clause-broken : goal.returns-in-Err-NoMemory-clause-broken
returns-in-Err-NoMemory-clause-broken g c =
    let old = world (g.L.Link.told c.args.link.now) (g.K.Sink.written c.args.out.now) c.args.file.now c.args.disk.now in
    let now = world (g.L.Link.told c.args.link.now) (g.K.Sink.written c.args.out.now) c.append.new.self c.append.new.disk in
    subst (λ (e : Effect). FailsAt g.D.Disk old now e) (sym c.in-Note.is) (fails-note g.D.Disk old now c.in-Note.note refl refl c.append.ensures.crash)

pub returns-in-Err-Disk-clause-broken : goal.returns-in-Err-Disk-clause-broken
returns-in-Err-Disk-clause-broken g c =
    let old = world (g.L.Link.told c.args.link.now) (g.K.Sink.written c.args.out.now) c.args.file.now c.args.disk.now in
    let now = world (g.L.Link.told c.args.link.now) (g.K.Sink.written c.args.out.now) c.append.new.self c.append.new.disk in
    subst (λ (e : Effect). FailsAt g.D.Disk old now e) (sym c.in-Note.is) (fails-note g.D.Disk old now c.in-Note.note refl refl c.append.ensures.crash)

pub returns-in-End-clause-done : goal.returns-in-End-clause-done
returns-in-End-clause-done g c =
    let old = world (g.L.Link.told c.args.link.now) (g.K.Sink.written c.args.out.now) c.args.file.now c.args.disk.now in
    let now = world (g.L.Link.told c.args.link.now) (g.K.Sink.written c.args.out.now) c.args.file.now c.args.disk.now in
    subst (λ (e : Effect). Performs g.D.Disk old now (e ∷ [])) (sym c.in-End.is) (performs-other g.D.Disk old now (effect.End c.in-End.field-0) refl refl refl (g.met.D.Disk.in_time c.args.disk.now) (record { told = tells-same old.told now.told refl; got = appends-same old.got now.got refl }))
