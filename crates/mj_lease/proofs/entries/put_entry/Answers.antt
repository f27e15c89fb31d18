use Rattle.std.proofs.Common.{◌≡◌, ℕ, ◌<◌, ◌⊎◌, inl, inr, Bool, true, false, is_ok, ap, sym, ◌∙◌, arith, vec_len, vec_capacity}
use Rattle.mj_lease.specs.Entries.{has_entry}
use Rattle.mj_lease.proofs.EntryLemmas.{looked, put-there, put-missing, has-place}
use Rattle.mj_lease.proofs.entries.put_entry.Goals as goal

pub unwrap-requires : goal.unwrap-requires
unwrap-requires c =
    let found = looked c.args.conn c.place_of-at.result c.args.entries.now.items c.deref.result.now c.deref-2.result.now c.is_at.result false
    c.deref.ensures.value c.place_of-at.ensures.place c.deref-2.ensures.value c.is_at.ensures c.if-is_at.false in
    let absent : has_entry c.args.conn c.args.entries.now.items ≡ false = sym (has-place c.args.conn c.args.entries.now.items c.requires.sorted) ∙ found.entry in
    c.insert.ensures.succeeds (has_spare (has_entry c.args.conn c.args.entries.now.items) (vec_len c.args.entries.now) (vec_capacity c.args.entries.now) absent c.requires.room)
  where
    has_spare : (b : Bool) (len capacity : ℕ) → b ≡ false → (b ≡ true) ⊎ (len < capacity) → len < capacity
    has_spare b len capacity is (inl there) = cc
    has_spare b len capacity is (inr spare) = spare

pub returns-then-is_at-clause-items : goal.returns-then-is_at-clause-items
returns-then-is_at-clause-items c =
    let found = looked c.args.conn c.place_of-at.result c.args.entries.now.items c.deref.result.now c.deref-2.result.now c.is_at.result true
    c.deref.ensures.value c.place_of-at.ensures.place c.deref-2.ensures.value c.is_at.ensures c.if-is_at.true in
    rw found.place (put-there c.args.conn c.args.deadline c.args.entries.now.items found.entry)

pub returns-then-is_at-clause-len : goal.returns-then-is_at-clause-len
returns-then-is_at-clause-len c =
    let found = looked c.args.conn c.place_of-at.result c.args.entries.now.items c.deref.result.now c.deref-2.result.now c.is_at.result true
    c.deref.ensures.value c.place_of-at.ensures.place c.deref-2.ensures.value c.is_at.ensures c.if-is_at.true in
    let there : has_entry c.args.conn c.args.entries.now.items ≡ true = sym (has-place c.args.conn c.args.entries.now.items c.requires.sorted) ∙ found.entry in
    rw there (omega arith)

pub returns-else-is_at-clause-items : goal.returns-else-is_at-clause-items
returns-else-is_at-clause-items c =
    let found = looked c.args.conn c.place_of-at.result c.args.entries.now.items c.deref.result.now c.deref-2.result.now c.is_at.result false
    c.deref.ensures.value c.place_of-at.ensures.place c.deref-2.ensures.value c.is_at.ensures c.if-is_at.false in
    let done : is_ok c.insert.result ≡ true = ap is_ok c.unwrap.ensures in
    c.insert.ensures.items ∙ rw (done, found.place) (put-missing c.args.conn c.args.deadline c.args.entries.now.items found.entry)

pub returns-else-is_at-clause-len : goal.returns-else-is_at-clause-len
returns-else-is_at-clause-len c =
    let found = looked c.args.conn c.place_of-at.result c.args.entries.now.items c.deref.result.now c.deref-2.result.now c.is_at.result false
    c.deref.ensures.value c.place_of-at.ensures.place c.deref-2.ensures.value c.is_at.ensures c.if-is_at.false in
    let absent : has_entry c.args.conn c.args.entries.now.items ≡ false = sym (has-place c.args.conn c.args.entries.now.items c.requires.sorted) ∙ found.entry in
    let done : is_ok c.insert.result ≡ true = ap is_ok c.unwrap.ensures in
    c.insert.ensures.len ∙ rw (done, absent) (omega arith)
