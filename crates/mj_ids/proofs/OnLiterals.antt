-- What an answer unfolds to compute the id of a seed and a number, and the text of an id, on literals.
use Rattle.std.specs.Prelude.{⊤}
use Rattle.rand_core.specs.Steps.{u32_at}
use Rattle.rand_chacha.specs.Block.{quarter_round, column_round, diagonal_round, double_rounds, block_word}
use Rattle.uuid.specs.Text.{by_index}
use Rattle.mj_ids.specs.Ids.{word_of, id_of, number_of, read_of}

unfoldable pub ids_on_literals : ⊤
unfolding word_of id_of number_of read_of by_index u32_at quarter_round column_round diagonal_round double_rounds block_word
ids_on_literals = tt
