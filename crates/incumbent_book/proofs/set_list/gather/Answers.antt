use Rattle.std.proofs.lemmas.Result.{err_from_is_err_and}
use Rattle.incumbent_book.proofs.SetLists.{gathering_none, gathering_more, gathering_stops}
use Rattle.incumbent_book.proofs.set_list.gather.Goals as goal

pub loop-set-init : goal.loop-set-init
loop-set-init c = gathering_none c.args.most c.args.sets.now c.args.listed.now.items c.requires.few

pub loop-set-preserved : goal.loop-set-preserved
loop-set-preserved c =
    gathering_more c.args.most c.args.sets.now c.args.listed.now.items c.loop-set.listed.items _ c.loop-set.set-index c.set-item.result c.loop-set-test.true c.set-item.is
    c.loop-set.invariant c.in_ok-add.ensures.ok c.in_ok-add.ensures.begins

pub returns-in_err-add-clause-err : goal.returns-in_err-add-clause-err
returns-in_err-add-clause-err c =
    let p = err_from_is_err_and c.from_residual.result c.from_residual.ensures.1 in
    let w = gathering_stops c.args.most c.args.sets.now c.args.listed.now.items c.loop-set.listed.items c.loop-set.set-index c.set-item.result c.loop-set-test.true c.set-item.is
    c.loop-set.invariant _ c.in_err-add.ensures.err in
    rw (p.1, p.2) w
