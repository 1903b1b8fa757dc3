use Rattle.std.proofs.Common.{◌≡◌, arith, length, map}
use Rattle.std.proofs.lemmas.List.{map-set, map-append}
use Rattle.branching.specs.Arcs.{pair}
use Rattle.incumbent_book.specs.Contents.{past_of}
use Rattle.solomon_reader.specs.History.{split_count, used_number, unused_number}
use Rattle.incumbent_book.specs.RowLists.{listed_row}
use Rattle.incumbent_book.specs.declared.fault.BookFault.TheVariants.{NotALeaf, TooDeep}
use Rattle.incumbent_book.proofs.SetLists.{taken_back}
use Rattle.incumbent_book.proofs.Kept.{kept_split, kept_open, split_is}
use Rattle.incumbent_book.proofs.book.Book.take_split.Goals as goal

pub split-requires-clause-leaf : goal.split-requires-clause-leaf
split-requires-clause-leaf c =
    let acc = rw (← c.self.view_is) at c.requires in
    let o = kept_open _ _ c.self.invariant c.args.leaf (acc.met NotALeaf (omega arith)) in
    let deep = acc.met TooDeep (omega arith) in
    (o.0, o.1, omega (arith, o.3, deep, c.self.invariant.limits.depth))

pub invariant_of-self-in-Ok-split : goal.invariant_of-self-in-Ok-split
invariant_of-self-in-Ok-split c =
    let acc = rw (← c.self.view_is) at c.requires in
    let w = c.in-Ok-split.ensures.ok in
    let s = split_count (past_of c.self.inside.history.items) in
    let count = c.self.invariant.arena.count in
    let first : c.in-Ok-split.made.0 ≡ used_number s = omega (arith, c.in-Ok-split.ensures.numbers.0, count) in
    let second : c.in-Ok-split.made.1 ≡ unused_number s = omega (arith, c.in-Ok-split.ensures.numbers.1, count) in
    let g = rw (c.of-first.ensures.sets, c.of-second.ensures.sets) at c.in-Ok.ensures.sets in
    let r = rw (c.of-first.ensures.rows, c.of-second.ensures.rows, c.as_slice-rows.ensures.value) at c.in-Ok.ensures.rows in
    rw (c.write.ensures, c.make_room.ensures.items, c.tenths.ensures.value, c.tenths-2.ensures.value, first, second, g.is, w.2, map-append, map-set)
    (kept_split _ _ c.self.invariant c.args.worker c.args.leaf c.args.arc c.args.used c.args.unused w.0 acc c.tenths.ensures.valued c.tenths-2.ensures.valued w.1
    g.more g.listing (rw g.is at g.few) _ r)

pub invariant_of-self-in-Err-split : goal.invariant_of-self-in-Err-split
invariant_of-self-in-Err-split c =
    let old = c.self.inside.listed.items in
    let before : c.len-before.result ≡ length old = omega (arith, c.len-before.ensures) in
    let begins = c.in-Ok.ensures.begins in
    rw (c.make_room.ensures.items, c.truncate.ensures.items, taken_back old c.list_all.new.listed.items c.len-before.result before begins, c.in-Err-split.ensures.err.2) c.self.invariant

pub returns-in-Ok-split : goal.returns-in-Ok-split
returns-in-Ok-split c =
    let w = c.in-Ok-split.ensures.ok in
    let s = split_count (past_of c.self.inside.history.items) in
    let count = c.self.invariant.arena.count in
    let first : c.in-Ok-split.made.0 ≡ used_number s = omega (arith, c.in-Ok-split.ensures.numbers.0, count) in
    let second : c.in-Ok-split.made.1 ≡ unused_number s = omega (arith, c.in-Ok-split.ensures.numbers.1, count) in
    let g = rw (c.of-first.ensures.sets, c.of-second.ensures.sets) at c.in-Ok.ensures.sets in
    let r = rw (c.of-first.ensures.rows, c.of-second.ensures.rows, c.as_slice-rows.ensures.value) at c.in-Ok.ensures.rows in (
      c.requires,
      rw (← c.self.view_is) first,
      rw (← c.self.view_is) second,
      (
        g.more,
        rw (← c.self.view_is) g.listing,
        (
          map listed_row c.in-Ok.rows.items,
          rw (← c.self.view_is) r.listing,
          rw (← c.self.view_is, c.write.ensures, c.make_room.ensures.items, c.tenths.ensures.value, c.tenths-2.ensures.value, first, second, w.2, map-append, map-set)
              (split_is _ _ c.self.invariant c.args.worker c.args.leaf (pair c.args.arc) c.args.used c.args.unused g.more _ (map listed_row c.in-Ok.rows.items) g.is),
        ),
      ),
    )
