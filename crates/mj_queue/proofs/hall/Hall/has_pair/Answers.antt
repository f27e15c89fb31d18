use Rattle.std.proofs.Common.{ap, is_some, ◌∙◌}
use Rattle.mj_queue.specs.HallState.{HallState}
use Rattle.mj_queue.specs.Settling.{pair}
use Rattle.mj_queue.proofs.LawLemmas.{asked-seen}
use Rattle.mj_queue.proofs.hall.Hall.has_pair.Goals as goal

pub returns : goal.returns
returns c =
    c.some_asked.ensures
    ∙ asked-seen c.self.inside.waiting.items c.deref-2.result.now c.self.inside.requests.items c.deref.result.now c.deref-2.ensures.value c.deref.ensures.value
    ∙ ap (λ (h : HallState). is_some (pair h.waiting h.requests)) c.self.view_is
