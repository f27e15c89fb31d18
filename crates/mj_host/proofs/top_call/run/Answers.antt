use Rattle.mj_host.proofs.top_call.run.Goals as goal

pub returns : goal.returns
returns g c =
    let e = c.serve.ensures in
    record {
      served = e.served;
      served_without = e.served_without;
      stopped = e.stopped;
      ended = e.ended;
      ended_without = e.ended_without;
      plain = e.plain;
      cause = e.cause;
      unopened = e.unopened;
      refused = e.refused;
      lawful = e.lawful;
    }
