-- What a disk that tells holds, of a file of commands that is open.
use Rattle.std.specs.Prelude.{ℕ, ◌≡◌, List, Option, Some}
use Rattle.mj_disk.specs.DiskModel.{History}
use Rattle.mj_copy_file.specs.Logs.{Knows}
use Rattle.mj_copy_file.specs.declared.log.Log.{Log}
use Rattle.mj_journal.specs.FileText.{StandsFor}

-- memory has these payloads, and the disk tells that it stands for them
pub record StandsAt (payloads : List (List ℕ)) (log : Log) (told : Option History) : Type 0 where
  pub knows : Knows payloads log
  pub history : History
  pub tells : told ≡ Some history
  pub stands : StandsFor log.base payloads history.now.octets
