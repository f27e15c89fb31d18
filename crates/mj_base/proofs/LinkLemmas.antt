-- What a link in memory has written, one entry more.
use Rattle.std.proofs.Common.{◌≡◌, List, [], ◌∷◌, ◌++◌, ◌∙◌, arith}
use Rattle.std.proofs.lemmas.Grind.{flat_map-append, common_steps}
use Rattle.mj_base.specs.Linking.{all_written, octets_written}
use Rattle.mj_base.specs.declared.link.LinkEntry.{LinkEntry}

pub all_written_more : (told : List LinkEntry) (entry : LinkEntry) → all_written (told ++ entry ∷ []) ≡ all_written told ++ octets_written entry
all_written_more told entry = flat_map-append octets_written told (entry ∷ []) ∙ grind (arith, common_steps)
