use Rattle.std.proofs.Common.{ℕ, List, ap, ◌∙◌}
use Rattle.mj_copy.specs.Messages.{Send, octets_of}
use Rattle.mj_copying.specs.Passing.{wrote}
use Rattle.mj_copying.specs.ShipRun.{sent}
use Rattle.mj_copying.proofs.LinkLemmas.{on_ok, tells_alike}
use Rattle.mj_copying.proofs.shipping.send.Goals as goal

pub returns-in_ok-message-in-Ok-clause-done : goal.returns-in_ok-message-in-Ok-clause-done
returns-in_ok-message-in-Ok-clause-done g c =
    on_ok c.write.result
    (λ t payloads s.
    tells_alike (g.L.Link.told c.args.link.now) (g.L.Link.told c.write.new.link) _ (sent payloads c.args.n)
    (ap wrote (c.as_slice-in-Ok.ensures ∙ c.in_ok-message-in-Ok.ensures ∙ ap (λ (p : List ℕ). octets_of (Send c.args.n p)) (c.as_slice.ensures ∙ c.in-Ok.ensures.payload s.history s.tells payloads s.knows s.stands)))
    t)
    c.write.ensures.done
