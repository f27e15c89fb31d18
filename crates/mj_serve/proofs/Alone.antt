-- A disk that is synced, or left as it is.
use Rattle.std.proofs.Common.{◌≡◌, ◌≤◌, ℕ, Option, Some, refl, sym, ◌∙◌, subst, ap}
use Rattle.mj_disk.specs.Content.{Content, IsImage, settled}
use Rattle.mj_disk.specs.DiskModel.{Becomes, Changes, History, Syncs, latest}
use Rattle.mj_disk.proofs.Moments.{started, synced_on, told_only_now}
use Rattle.mj_serve.specs.Serving.{IsLeftAlone}

module _ (moment : ℕ) (before : Option History) (in_time : (history : History) → before ≡ Some history → latest history.past ≤ moment) where
  pub alone-still : (after : Option History) → after ≡ before → IsLeftAlone moment before after
  alone-still after same = record {
    bytes = λ old is. (old, same ∙ is, refl);
    images = λ old is image left. told_only_now after old moment image (same ∙ is) (in_time old is) left;
  }

  pub alone-synced : (after : Option History) (now : ℕ) → ((history : History) → before ≡ Some history → IsImage history.now history.now.octets)
      → Becomes (λ held. settled held.octets) before after → Changes Syncs (moment, now) before after → moment ≤ now → IsLeftAlone moment before after
  alone-synced after now reads synced changes later = record {
    bytes = λ old is. let new = synced old is in (new.0, new.1, ap (λ (c : Content). c.octets) new.2);
    images = λ old is image left.
        (synced_on moment moment now before before after old (IsImage old.now) (started before old moment (IsImage old.now) is (in_time old is) (λ image here. here)) is (reads old is) changes later).each image left;
  }

pub alone-on : (moment : ℕ) (before middle after : Option History) → after ≡ middle → IsLeftAlone moment before middle → IsLeftAlone moment before after
alone-on moment before middle after same alone = subst (λ (t : Option History). IsLeftAlone moment before t) (sym same) alone
