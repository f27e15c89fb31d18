use Rattle.std.proofs.Common.{Option, subst}
use Rattle.std.proofs.lemmas.Result.{err_from_is_err_and}
use Rattle.mj_peer.specs.WorkerEndRules.{Met}
use Rattle.mj_peering.specs.Performing.{places}
use Rattle.mj_peering.specs.WorkerRun.{Turned}
use Rattle.mj_peering.specs.declared.leaving.Leaving.{Leaving}
use Rattle.mj_peering.proofs.PlaceLemmas.{later-more}
use Rattle.mj_peering.proofs.WorkerLemmas.{halted-met, left-met, worked-met}
use Rattle.mj_peering.proofs.worker.run_worker.Goals as goal

pub returns-in_err-leaving-clause-halted : goal.returns-in_err-leaving-clause-halted
returns-in_err-leaving-clause-halted g c =
    let p = err_from_is_err_and c.from_residual-in_err-leaving.result c.from_residual-in_err-leaving.ensures.1 in
    rw (p.1, p.2) (λ first s. halted-met _ first _ _ _ _ c.in_err-leaving.ensures.broken (c.loop.invariant.worked first s))

pub returns-in-Some-2-clause-ran : goal.returns-in-Some-2-clause-ran
returns-in-Some-2-clause-ran g c = λ first s.
    let old = places (g.L.Link.told c.args.link.now) (g.K.Sink.written c.args.out.now) in
    let mid = places (g.L.Link.told c.loop.link) (g.K.Sink.written c.loop.out) in
    let now = places (g.L.Link.told c.meet.new.link) (g.K.Sink.written c.meet.new.out) in
    let d = c.in_ok-leaving.ensures.done in
    left-met c.in-Some-2.leaving first old mid now c.loop.end.post c.meet.new.end.post d.0 (subst (λ (o : Option Leaving). Turned o c.loop.end.post c.meet.new.end.post mid now (Met d.0)) c.in-Some-2.is d.1) (c.loop.invariant.worked first s)

pub loop-preserved : goal.loop-preserved
loop-preserved g c =
    let old = places (g.L.Link.told c.args.link.now) (g.K.Sink.written c.args.out.now) in
    let mid = places (g.L.Link.told c.loop.link) (g.K.Sink.written c.loop.out) in
    let now = places (g.L.Link.told c.meet.new.link) (g.K.Sink.written c.meet.new.out) in
    let d = c.in_ok-leaving.ensures.done in
    record {
      ready = c.in_ok-leaving.ensures.ready;
      worked = λ first s. worked-met first old mid now c.loop.end.post c.meet.new.end.post d.0 (subst (λ (o : Option Leaving). Turned o c.loop.end.post c.meet.new.end.post mid now (Met d.0)) c.in-None-2.is d.1) (c.loop.invariant.worked first s);
      later = later-more _ _ _ c.loop.invariant.later c.in_ok-leaving.ensures.later;
    }
