use Rattle.mj_broker.proofs.broker.link.Goals as goal

pub returns : goal.returns
returns c = record {
  link = record { number = c.next_number.result; wire = c.in_ok-new.field-0 };
  whole = c.in_ok-insert.ensures.items;
  numbered = c.next_number.ensures;
  unspent = c.in_ok-new.ensures.ready;
  limited = c.in_ok-new.ensures.limits;
  stands = c.in_ok-new.ensures.stands;
}
