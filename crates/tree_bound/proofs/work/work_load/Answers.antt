use Rattle.std.proofs.Common.{◌∙◌, ◌≡◌, [], arith}
use Rattle.std.proofs.lemmas.List.{get_or_read}
use Rattle.tree_bound.specs.Labels.{labels_at}
use Rattle.tree_bound.proofs.Working.{taken_pairs, taken_worked, swept_more}
use Rattle.tree_bound.proofs.work.work_load.Goals as goal

pub work_labels-requires-clause-labels : goal.work_labels-requires-clause-labels
work_labels-requires-clause-labels c =
    let e : c.labels.result.now ≡ labels_at c.args.table.now.buckets.items c.args.load =
    c.labels.ensures ∙ (c.replace-bucket.ensures.value ∙ get_or_read c.args.table.now.buckets.items c.args.load c.index_mut.result.now c.requires.load c.index_mut.ensures.value []) in
    rw e (taken_pairs _ _ c.args.table.now.buckets.items c.args.settled.now c.args.load c.args.best c.requires.swept)

pub work_labels-requires-clause-begun : goal.work_labels-requires-clause-begun
work_labels-requires-clause-begun c =
    let e : c.labels.result.now ≡ labels_at c.args.table.now.buckets.items c.args.load =
    c.labels.ensures ∙ (c.replace-bucket.ensures.value ∙ get_or_read c.args.table.now.buckets.items c.args.load c.index_mut.result.now c.requires.load c.index_mut.ensures.value []) in
    rw e (taken_worked _ _ c.args.table.now.buckets.items c.args.settled.now c.args.load c.args.best c.requires.swept c.replace-bucket.new.dest)

pub returns : goal.returns
returns c = swept_more _ _ c.work_labels.new.table.buckets.items c.work_labels.new.settled c.args.load c.labels.result.now _ _ (omega arith) c.in_ok-after.ensures
