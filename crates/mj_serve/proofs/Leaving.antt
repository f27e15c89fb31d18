-- What a crash may leave now, and over an event.
use Rattle.std.proofs.Common.{◌≡◌, ◌≤◌, ℕ, true, false, List, [], ◌∷◌, ◌++◌, Some, refl, sym, ap, ◌∙◌, subst, inl, inr, ⊎_elim, append_assoc}
use Rattle.std.specs.List.{AllByRecursion}
use Rattle.mj_base.specs.declared.limits.Limits.{Limits}
use Rattle.mj_disk.specs.Content.{Content, IsImage}
use Rattle.mj_disk.specs.DiskModel.{History, LeavesOnly, LeftSince, latest}
use Rattle.mj_disk.specs.declared.disk.Disk.{Ghosts}
use Rattle.mj_disk.proofs.Images.{settled_is}
use Rattle.mj_disk.proofs.Moments.{started, told_only_now}
use Rattle.mj_keeper.specs.Standing.{GoesOn, IsOneOf, MayLeave, Sees, StandsBy}
use Rattle.mj_keeper.specs.declared.keeper.Keeper.{Keeper}
use Rattle.mj_keeper.specs.declared.keeper.Shelf.{Shelf}
use Rattle.mj_keeper.specs.declared.keeper.Shelf.TheVariants as shelves
use Rattle.mj_laws.specs.Kept.{Extends, GoesFrom}
use Rattle.mj_machine.specs.EventStep.{Noted, state_after}
use Rattle.mj_machine.specs.MachineRun.{run_state}
use Rattle.mj_machine.specs.MachineState.{Machine}
use Rattle.mj_machine.specs.Steps.{stores_of}
use Rattle.mj_machine.specs.StoreState.{Store, doubted}
use Rattle.mj_store.specs.Commands.{OpensFor, StandsForCommands}
use Rattle.mj_tickets.specs.declared.command.TicketCmd.{TicketCmd}
use Rattle.mj_titanic.proofs.Composing.{one-of-first}
use Rattle.mj_serve.specs.Stability.{HasPrefix, stores_over}

-- ---- now

pub opens-for : (base : ℕ) (commands : List TicketCmd) (image : List ℕ) → StandsForCommands base commands image → OpensFor base commands image
opens-for base commands image stands = (base, inl stands, inl refl)

abbrev pub InTime : {D : Type 0} → Ghosts D → D → Type 0
InTime disks disk = (history : History) → disks.told disk ≡ Some history → latest history.past ≤ disks.time disk

module _ {D : Type 0} (disks : Ghosts D) where
  left-by : (limits : Limits) (shelf : Shelf) (disk : D) (store : Store) (history : History) → disks.told disk ≡ Some history → StandsBy disks limits shelf disk store → store.stored ≡ true
      → (image : List ℕ) → IsImage history.now image → MayLeave store image
  left-by limits shelves.Absent disk store history is stands stored image here = absurd (let no : false ≡ true = sym stands.1 ∙ stored in cc no)
  left-by limits (shelves.Open held) disk store history is stands stored image here =
      let file = stands.3.file history is in
      let whole : image ≡ history.now.octets = settled_is history.now.octets image (subst (λ (c : Content). IsImage c image) file.0 here) in
      inl (opens-for store.base store.commands image (subst (λ (i : List ℕ). StandsForCommands store.base store.commands i) (sym whole) file.1))
  left-by limits (shelves.Shut end) disk store history is stands stored image here =
      ⊎_elim
      (λ plain. inl (opens-for store.base store.commands image plain))
      (λ doubtful. inr (opens-for store.base (store.commands ++ doubted store.access) image doubtful))
      (stands.2.images history is image here)

  pub left-now : (keeper : Keeper) (disk : D) (store : Store) → InTime disks disk → Sees disks keeper disk store → store.stored ≡ true
      → (image : List ℕ) → LeftSince (disks.told disk) (disks.time disk) image → MayLeave store image
  left-now keeper disk store in_time sees stored image left =
      let telling = sees.telling stored in
      left-by keeper.limits keeper.shelf disk store telling.0 telling.1 sees.stands.by stored image
      (told_only_now (disks.told disk) telling.0 (disks.time disk) image telling.1 (in_time telling.0 telling.1) left)

  -- the images since an event began
  pub event-leaves : (keeper : Keeper) (disk after : D) (store : Store) (stores : List Store) → InTime disks disk → Sees disks keeper disk store → store.stored ≡ true → GoesOn disks disk after stores
      → LeavesOnly (disks.time disk, disks.time after) (disks.told disk) (disks.told after) (IsOneOf (store ∷ stores))
  event-leaves keeper disk after store stores in_time sees stored goes =
      let telling = sees.telling stored in
      goes (disks.time disk) (disks.told disk) (store ∷ [])
      (started (disks.told disk) telling.0 (disks.time disk) (IsOneOf (store ∷ [])) telling.1 (in_time telling.0 telling.1)
      (λ image here. inl (left-by keeper.limits keeper.shelf disk store telling.0 telling.1 sees.stands.by stored image here)))

-- ---- commands in front

pub extends-refl : (commands : List TicketCmd) → commands ≡ commands ++ [] → Extends commands commands
extends-refl commands is = ([], is)

pub extends-then : (first second third : List TicketCmd) → Extends first second → Extends second third → Extends first third
extends-then first second third one two =
    (one.0 ++ two.0, two.1 ∙ ap (λ (cs : List TicketCmd). cs ++ two.0) one.1 ∙ append_assoc first one.0 two.0)

pub prefix-front : (base : ℕ) (front commands : List TicketCmd) (image : List ℕ) → Extends front commands → HasPrefix base commands image → HasPrefix base front image
prefix-front base front commands image extends has =
    (extends.0 ++ has.0, subst (λ (cs : List TicketCmd). OpensFor base cs image) (ap (λ (cs : List TicketCmd). cs ++ has.0) extends.1 ∙ append_assoc front extends.0 has.0) has.1)

pub may-have : (before store : Store) (image : List ℕ) → GoesFrom before store → MayLeave store image → HasPrefix before.base before.commands image
may-have before store image goes may =
    subst (λ (base : ℕ). HasPrefix base before.commands image) goes.base (prefix-front store.base before.commands store.commands image goes.commands (⊎_elim
    (λ plain. ([], subst (λ (cs : List TicketCmd). OpensFor store.base cs image) (nil store.commands) plain))
    (λ doubtful. (doubted store.access, doubtful))
    may))
  where
    nil : (commands : List TicketCmd) → commands ≡ commands ++ []
    nil [] = refl
    nil (cmd ∷ commands) = ap (λ (cs : List TicketCmd). cmd ∷ cs) (nil commands)

pub one-has : (before : Store) (stores : List Store) (image : List ℕ) → AllByRecursion (GoesFrom before) stores → IsOneOf stores image → HasPrefix before.base before.commands image
one-has before [] image all is = absurd is
one-has before (store ∷ stores) image all (inl here) = may-have before store image all.0 here
one-has before (store ∷ stores) image all (inr there) = one-has before stores image all.1 there

-- ---- the stores of a run of one event more

one-of-on : (front old new : List Store) (image : List ℕ) → (IsOneOf old image → IsOneOf new image) → IsOneOf (front ++ old) image → IsOneOf (front ++ new) image
one-of-on [] old new image on is = on is
one-of-on (store ∷ front) old new image on (inl here) = inl here
one-of-on (store ∷ front) old new image on (inr there) = inr (one-of-on front old new image on there)

pub stores-more : (limits : Limits) (m : Machine) (events : List Noted) (e : Noted) (image : List ℕ)
    → IsOneOf (stores_over limits m events ++ stores_of limits (run_state limits m events) e) image → IsOneOf (stores_over limits m (events ++ e ∷ [])) image
stores-more limits m [] e image (inl here) = inl here
stores-more limits m [] e image (inr there) = one-of-first (stores_of limits m e) ((state_after limits m e).store ∷ []) image there
stores-more limits m (first ∷ events) e image is =
    one-of-on (stores_of limits m first) (stores_over limits (state_after limits m first) events ++ stores_of limits (run_state limits (state_after limits m first) events) e)
    (stores_over limits (state_after limits m first) (events ++ e ∷ [])) image
    (stores-more limits (state_after limits m first) events e image)
    (subst (λ (ss : List Store). IsOneOf ss image)
    (append_assoc (stores_of limits m first) (stores_over limits (state_after limits m first) events) (stores_of limits (run_state limits (state_after limits m first) events) e)) is)
