-- One entry more in the record of a disk in memory.
use Rattle.std.proofs.Common.{◌≡◌, ℕ, ◌-◌, List, [], ◌∷◌, ◌++◌, length, take, drop, reverse, refl, ◌∙◌, ap, arith, length-append}
use Rattle.std.proofs.lemmas.List.{reverse-append, take_at, drop_at}
use Rattle.mj_disk.specs.Content.{written, touched, settled}
use Rattle.mj_disk.specs.DiskModel.{begun, changed}
use Rattle.mj_disk.specs.Entries.{replayed, history_of, front_of}
use Rattle.mj_disk.specs.declared.entry.Entry.{Entry}
use Rattle.mj_disk.specs.declared.entry.Entry.TheVariants.{Wrote, Touched, Synced}

pub wrote_more : (start : List ℕ) (entries : List Entry) (kept octets : List ℕ) (moment at len : ℕ) → len ≡ length octets → history_of start (entries ++ Wrote moment at len ∷ []) (kept ++ octets) ≡ changed moment (written at octets (history_of start entries kept).now) (history_of start entries kept)
unfolding history_of
wrote_more start entries kept octets moment at len is =
    let place : length kept ≡ length (kept ++ octets) - len = omega (arith, length-append kept octets) in
    let last : drop (length (kept ++ octets) - len) (kept ++ octets) ≡ octets = drop_at kept octets _ place in
    let front : take (length (kept ++ octets) - len) (kept ++ octets) ≡ kept = take_at kept octets _ place in
    ap (λ (es : List Entry). replayed start es (kept ++ octets)) (reverse-append entries (Wrote moment at len ∷ []))
    ∙ ap (λ (bytes : List ℕ). changed moment (written at bytes (replayed start (reverse entries) (front_of len (kept ++ octets))).now) (replayed start (reverse entries) (front_of len (kept ++ octets)))) last
    ∙ ap (λ (bytes : List ℕ). changed moment (written at octets (replayed start (reverse entries) bytes).now) (replayed start (reverse entries) bytes)) front

pub touched_more : (start : List ℕ) (entries : List Entry) (kept : List ℕ) (moment at len : ℕ) → history_of start (entries ++ Touched moment at len ∷ []) kept ≡ changed moment (touched at len (history_of start entries kept).now) (history_of start entries kept)
unfolding history_of
touched_more start entries kept moment at len =
    ap (λ (es : List Entry). replayed start es kept) (reverse-append entries (Touched moment at len ∷ []))

pub synced_more : (start : List ℕ) (entries : List Entry) (kept : List ℕ) (moment : ℕ) → history_of start (entries ++ Synced moment ∷ []) kept ≡ changed moment (settled (history_of start entries kept).now.octets) (history_of start entries kept)
unfolding history_of
synced_more start entries kept moment =
    ap (λ (es : List Entry). replayed start es kept) (reverse-append entries (Synced moment ∷ []))

pub none_recorded : (start kept : List ℕ) → history_of start [] kept ≡ begun start
unfolding history_of
none_recorded start kept = refl

pub ruleset record_steps = (wrote_more, touched_more, synced_more, none_recorded)
