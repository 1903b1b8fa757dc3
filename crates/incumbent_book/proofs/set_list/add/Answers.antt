use Rattle.std.proofs.Common.{◌<◌, ◌≤◌, length, map, sym, ◌∙◌, arith}
use Rattle.std.proofs.lemmas.List.{length-map}
use Rattle.std.proofs.lemmas.Result.{on_ok_weaker}
use Rattle.priced_sets.specs.Sets.{set_of, listed_set}
use Rattle.incumbent_book.proofs.SetLists.{grown_known, grown_one, no_room_for, placed, unplaced}
use Rattle.incumbent_book.proofs.set_list.add.Goals as goal

pub returns-then-is_some-clause-ok : goal.returns-then-is_some-clause-ok
returns-then-is_some-clause-ok c =
    grown_known c.args.most (set_of c.args.set.now) _ c.requires.few (rw c.as_slice.ensures.value at (placed _ _ _ c.place_of.ensures (sym c.is_some.ensures ∙ c.if-is_some.true)))

pub returns-then-len-most-clause-err : goal.returns-then-len-most-clause-err
returns-then-len-most-clause-err c =
    let full : c.args.most ≤ length (map listed_set c.args.listed.now.items) = omega (arith, length-map c.args.listed.now.items listed_set, c.len.ensures, c.if-len-most.true) in
    no_room_for c.args.most (map listed_set c.args.listed.now.items) (set_of c.args.set.now) full
    (rw c.as_slice.ensures.value at (unplaced _ _ _ c.place_of.ensures (sym c.is_some.ensures ∙ c.if-is_some.false)))

pub returns-clause-ok : goal.returns-clause-ok
returns-clause-ok c =
    let room : length (map listed_set c.args.listed.now.items) < c.args.most = omega (arith, length-map c.args.listed.now.items listed_set, c.len.ensures, c.if-len-most.false) in
    on_ok_weaker c.put_in.result (grown_one c.args.most (set_of c.args.set.now) _ _ room
    (rw c.as_slice.ensures.value at (unplaced _ _ _ c.place_of.ensures (sym c.is_some.ensures ∙ c.if-is_some.false)))) c.put_in.ensures.ok
