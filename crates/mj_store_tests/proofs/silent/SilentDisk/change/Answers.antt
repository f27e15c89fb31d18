use Rattle.mj_disk.specs.Laws.{none_told}
use Rattle.mj_store_tests.proofs.silent.SilentDisk.change.Goals as goal

pub returns : goal.returns
returns c = λ store held. (held.0, held.1, record { knows = held.2.knows; settled = held.2.settled; file = λ history is. none_told history is })
