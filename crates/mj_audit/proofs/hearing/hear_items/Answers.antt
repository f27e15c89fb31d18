use Rattle.std.proofs.Common.{◌≡◌, ◌∙◌, ◌++◌, List, ap, subst, take}
use Rattle.std.specs.List.{flat_map}
use Rattle.mj_ledger.specs.Events.{Event}
use Rattle.mj_ledger.specs.Standing.{Stands}
use Rattle.mj_transcript.specs.Said.{hears}
use Rattle.mj_ledger.specs.declared.tables.Tables.{Tables}
use Rattle.mj_transcript.specs.Lines.{is_message}
use Rattle.mj_audit.proofs.HearLemmas.{known-more, none-before, none-more, one-more}
use Rattle.mj_audit.proofs.hearing.hear_items.Goals as goal

pub hear_item-requires : goal.hear_item-requires
hear_item-requires c = record {
  settled = λ here.
      ap (λ (t : Tables). t.suspect) (c.loop-item.invariant.still (none-before is_message c.args.items.now c.loop-item.item-index c.item-item.result c.loop-item-test.true c.item-item.is here c.requires.few)) ∙ c.requires.settled;
}

pub loop-item-preserved : goal.loop-item-preserved
loop-item-preserved c =
    let item = c.item-item.result in
    let i = c.loop-item.item-index in
    let items = c.args.items.now in
    record {
      stands = λ es there s.
          let before = es ++ flat_map (hears c.args.who.now) (take i items) in
          subst (λ (l : List Event). Stands c.hear_item.new.tables l) (one-more (hears c.args.who.now) es items i item c.loop-item-test.true c.item-item.is)
          (c.in_ok-hear_item.ensures.stands before (known-more c.args.who.now es (flat_map (hears c.args.who.now) (take i items)) there) (c.loop-item.invariant.stands es there s));
      still = λ none.
          let parts = none-more is_message items i item c.loop-item-test.true c.item-item.is none in
          c.hear_item.ensures.still parts.1 ∙ c.loop-item.invariant.still parts.0;
    }
