use Rattle.std.proofs.lemmas.Result.{on_ok_weaker, IfErr-weaker, err_from_is_err_and}
use Rattle.priced_sets.specs.Sets.{sets_of}
use Rattle.incumbent_book.proofs.SetLists.{grown_both, unlisted_after, unlisted_before}
use Rattle.incumbent_book.proofs.set_list.gather_both.Goals as goal

pub returns-in_err-gather-clause-err : goal.returns-in_err-gather-clause-err
returns-in_err-gather-clause-err c =
    let p = err_from_is_err_and c.from_residual.result c.from_residual.ensures.1 in
    rw (p.1, p.2) (unlisted_before c.args.most (sets_of c.args.first.now) (sets_of c.args.second.now) _ c.requires.few _ c.in_err-gather.ensures.err)

pub returns-clause-ok : goal.returns-clause-ok
returns-clause-ok c = on_ok_weaker c.gather-2.result (grown_both c.args.most (sets_of c.args.first.now) (sets_of c.args.second.now) _ _ _ c.in_ok-gather.ensures.ok) c.gather-2.ensures.ok

pub returns-clause-err : goal.returns-clause-err
returns-clause-err c = IfErr-weaker c.gather-2.result _ _ (unlisted_after c.args.most (sets_of c.args.first.now) (sets_of c.args.second.now) _ _ c.in_ok-gather.ensures.ok) c.gather-2.ensures.err
