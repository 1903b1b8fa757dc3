use Rattle.std.proofs.Common.{[]}
use Rattle.std.proofs.lemmas.List.{get_or_read}
use Rattle.tree_bound.proofs.Working.{added_none}
use Rattle.tree_bound.proofs.table.keep.Goals as goal

pub returns-then-dominates : goal.returns-then-dominates
returns-then-dominates c =
    let e = get_or_read c.args.table.now.buckets.items c.args.load c.index.result.now c.requires.load c.index.ensures [] in
    added_none _ c.args.table.now.buckets.items c.args.load c.args.label.now (rw e at (c.dominates.ensures c.if-dominates.true))
