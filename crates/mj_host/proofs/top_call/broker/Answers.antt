use Rattle.std.proofs.Common.{map, string_bytes, ap, ◌∙◌, subst, Result}
use Rattle.mj_base.specs.StandardLimits.{standard_limits}
use Rattle.mj_serve.specs.declared.fault.ServeFault.{ServeFault}
use Rattle.mj_serve.specs.declared.summary.Summary.{Summary}
use Rattle.std.proofs.lemmas.Option.{IfSome_then}
use Rattle.mj_host.specs.Statuses.{code_of}
use Rattle.mj_host.specs.Words.{has_store, numbers_in}
use Rattle.mj_host.specs.Hosting.{HasRun}
use Rattle.mj_host.specs.declared.status.Status.TheVariants as statuses
use Rattle.mj_host.proofs.EndingLaws.{disk-is, done-is, otherwise, same-status, store-is, unrefused, words-apart, write-is}
use Rattle.mj_host.proofs.StatusLaws.{words-is}
use Rattle.mj_host.proofs.top_call.broker.Goals as goal

pub returns-clause-words : goal.returns-clause-words
returns-clause-words g c = (
  λ is. c.run_broker.ensures.words.0 (words-is c.run_broker.result c.code.result c.code.ensures is),
  λ none. c.code.ensures ∙ ap code_of (c.run_broker.ensures.words.1 none),
)

pub returns-clause-refused_words : goal.returns-clause-refused_words
returns-clause-refused_words g c = λ is. c.run_broker.ensures.refused_words (words-is c.run_broker.result c.code.result c.code.ensures is)

pub returns-clause-ran : goal.returns-clause-ran
returns-clause-ran g c =
    IfSome_then (numbers_in (map string_bytes c.args.words.now)) c.run_broker.ensures.ran (λ _ ran. (ran.0, c.run_broker.result, ran.1, ran.2, c.code.ensures))

pub returns-clause-done : goal.returns-clause-done
returns-clause-done g c = λ is.
    IfSome_then (numbers_in (map string_bytes c.args.words.now)) c.run_broker.ensures.ran (λ _ ran.
    let d = done-is ran.0 c.run_broker.result _ _ _ _ ran.2 (same-status c.run_broker.result statuses.Done c.code.result c.code.ensures is) in
    (d.0, subst (λ (answer : Result Summary ServeFault). HasRun g.P.Ports.stand g.P.Ports.stopped g.D.Disk standard_limits c.args.seed (has_store (map string_bytes c.args.words.now)) c.args.ports.now c.args.disk.now c.run_broker.new.ports c.run_broker.new.disk answer) d.1 ran.1, d.2))

pub returns-clause-store : goal.returns-clause-store
returns-clause-store g c = λ is.
    IfSome_then (numbers_in (map string_bytes c.args.words.now)) c.run_broker.ensures.ran (λ _ ran.
    let s = store-is ran.0 c.run_broker.result _ _ _ _ ran.2 (same-status c.run_broker.result statuses.Store c.code.result c.code.ensures is) in
    (subst (λ (answer : Result Summary ServeFault). HasRun g.P.Ports.stand g.P.Ports.stopped g.D.Disk standard_limits c.args.seed (has_store (map string_bytes c.args.words.now)) c.args.ports.now c.args.disk.now c.run_broker.new.ports c.run_broker.new.disk answer) s.1 ran.1).lawful s.2)

pub returns-clause-opening : goal.returns-clause-opening
returns-clause-opening g c = λ is.
    IfSome_then (numbers_in (map string_bytes c.args.words.now)) c.run_broker.ensures.ran (λ _ ran.
    ran.1.cause (disk-is ran.0 c.run_broker.result _ _ _ _ ran.2 (same-status c.run_broker.result statuses.Disk c.code.result c.code.ensures is)))

pub returns-clause-write : goal.returns-clause-write
returns-clause-write g c = λ is.
    IfSome_then (numbers_in (map string_bytes c.args.words.now)) c.run_broker.ensures.ran (λ _ ran.
    write-is ran.0 c.run_broker.result _ _ _ _ ran.2 (same-status c.run_broker.result statuses.Write c.code.result c.code.ensures is))

pub returns-clause-complete : goal.returns-clause-complete
returns-clause-complete g c =
    IfSome_then (numbers_in (map string_bytes c.args.words.now)) c.run_broker.ensures.ran (λ _ ran base commands opens tells disk out.
    let status = c.run_broker.result in
    otherwise status c.code.result c.code.ensures
    (words-apart ran.0 status _ _ _ _ ran.2)
    (λ e. let s = store-is ran.0 status _ _ _ _ ran.2 e in
    let run = subst (λ (answer : Result Summary ServeFault). HasRun g.P.Ports.stand g.P.Ports.stopped g.D.Disk standard_limits c.args.seed (has_store (map string_bytes c.args.words.now)) c.args.ports.now c.args.disk.now c.run_broker.new.ports c.run_broker.new.disk answer) s.1 ran.1 in
    unrefused (has_store (map string_bytes c.args.words.now)) (g.D.Disk.told c.args.disk.now) base commands opens (λ none. let t = tells none in (t.0, t.1)) (run.lawful s.2) (λ history told. (run.refused s.2 (history, told)).0))
    (λ e. disk (ran.1.cause (disk-is ran.0 status _ _ _ _ ran.2 e)).0)
    (λ e. out (write-is ran.0 status _ _ _ _ ran.2 e)))
