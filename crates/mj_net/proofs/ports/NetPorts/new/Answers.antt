use Rattle.std.proofs.Common.{◌≡◌, Bool, false, refl, sym}
use Rattle.std.proofs.lemmas.List.Elements.{All-replicate}
use Rattle.mj_net.proofs.Passing.{stands-new}
use Rattle.mj_net.proofs.ports.NetPorts.new.Goals as goal

pub returns-clause-new : goal.returns-clause-new
returns-clause-new g c = record {
  untaken = c.requires.taken;
  unput = c.requires.put;
  closed = All-replicate (λ (opened : Bool). opened ≡ false) 64 false refl;
  count = sym c.requires.lanes.0;
  going = refl;
}

pub returns-clause-stands : goal.returns-clause-stands
returns-clause-stands g c = stands-new _ refl
