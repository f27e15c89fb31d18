-- A disk of which no call was made.
use Rattle.std.proofs.Common.{◌≡◌, ◌≤◌, ℕ, Option, Some, refl}
use Rattle.mj_disk.specs.DiskModel.{History, latest}
use Rattle.mj_disk.proofs.Moments.{told_only_now}
use Rattle.mj_serve.specs.Serving.{IsLeftAlone}

pub alone-untouched : (moment : ℕ) (told : Option History) → ((history : History) → told ≡ Some history → latest history.past ≤ moment) → IsLeftAlone moment told told
alone-untouched moment told in_time = record {
  bytes = λ old is. (old, is, refl);
  images = λ old is image left. told_only_now told old moment image is (in_time old is) left;
}
