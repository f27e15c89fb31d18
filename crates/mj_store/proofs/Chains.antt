-- An image that a crash left gives the list as which it opens, where it is taken as a fresh disk.
use Rattle.std.proofs.Common.{◌≡◌, ℕ, suc, List, [], ◌∷◌, refl, sym, subst, inl, inr, ⊎_elim, arith}
use Rattle.std.specs.List.{Contains}
use Rattle.mj_disk.specs.Content.{Content, settled}
use Rattle.mj_disk.specs.declared.disk.Disk.{Ghosts}
use Rattle.mj_tickets.specs.declared.command.TicketCmd.{TicketCmd}
use Rattle.mj_tickets.specs.Fold.{start}
use Rattle.mj_journal.specs.FileText.{IsHeader, Opens}
use Rattle.mj_store.specs.Commands.{payloads_of, IsBase, IsLawful, OpensFor}
use Rattle.mj_store.specs.Laws.{IsFresh, OpensAgain, ImagesOpenAgain, OneOpensAgain}

base_of_header : (of : ℕ) (head : List ℕ) → IsHeader of head → IsBase of
base_of_header of head (inl one) = (omega (arith, one.0), omega (arith, one.0))
base_of_header of head (inr two) = (two.0, two.1)

base_of : (of : ℕ) (payloads : List (List ℕ)) (image : List ℕ) → Opens of payloads image → IsBase of
base_of of payloads image (inl stands) = base_of_header of stands.0 stands.1
base_of of payloads image (inr little) = (omega (arith, little.1), omega (arith, little.1))

lawful_again : (base : ℕ) (cmds : List TicketCmd) (image : List ℕ) → IsLawful base cmds → (opens : OpensFor base cmds image) → IsLawful opens.0 cmds
lawful_again base cmds image lawful opens = ⊎_elim
    (λ (same : opens.0 ≡ base). subst (λ (n : ℕ). IsLawful n cmds) (sym same) lawful)
    (λ (none : cmds ≡ []). subst (λ (cs : List TicketCmd). IsLawful opens.0 cs) (sym none) (record { based = base_of opens.0 (payloads_of cmds) image opens.1; written = tt; index = start opens.0; index_is = refl }))
    opens.2

opens_again : {D : Type 0} (disks : Ghosts D) (base : ℕ) (cmds : List TicketCmd) (image : List ℕ) (disk : D) → IsLawful base cmds → (opens : OpensFor base cmds image) → IsFresh disks image disk → OpensAgain disks opens.0 cmds disk
opens_again disks base cmds image disk lawful opens fresh =
    let again = lawful_again base cmds image lawful opens in
    let here : Opens opens.0 (payloads_of cmds) fresh.0.now.octets = subst (λ (c : Content). Opens opens.0 (payloads_of cmds) c.octets) (sym fresh.2) opens.1 in
    let clean : fresh.0.now ≡ settled fresh.0.now.octets = subst (λ (c : Content). c ≡ settled c.octets) (sym fresh.2) refl in
    record {
      lawful = again;
      gives = λ store after begins. begins opens.0 cmds fresh.0 fresh.1 again here;
      leaves = λ after leaves. leaves opens.0 cmds fresh.0 fresh.1 clean here;
    }

pub images_open_again : {D : Type 0} (disks : Ghosts D) → ImagesOpenAgain disks
images_open_again disks base cmds image disk lawful opens fresh = (opens.0, opens.2, opens_again disks base cmds image disk lawful opens fresh)

contains_more : (list : List TicketCmd) (lists : List (List TicketCmd)) (cmds : List TicketCmd) → Contains lists cmds → Contains (list ∷ lists) cmds
contains_more list lists cmds one = (suc one.0, omega (arith, one.1), one.2)

pub one_opens_again : {D : Type 0} (disks : Ghosts D) → OneOpensAgain disks
one_opens_again disks base [] image disk all opens fresh = absurd opens
one_opens_again disks base (list ∷ lists) image disk all (inl opens) fresh =
    (list, (0, omega arith, refl), images_open_again disks base list image disk all.0 opens fresh)
one_opens_again disks base (list ∷ lists) image disk all (inr opens) fresh =
    let one = one_opens_again disks base lists image disk all.1 opens fresh in
    (one.0, contains_more list lists one.0 one.1, one.2)
