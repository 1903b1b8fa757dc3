use Rattle.std.proofs.lemmas.Result.{err_from_is_err_and}
use Rattle.checker.proofs.Verdicts.{tree_accepted, tree_refused}
use Rattle.checker.proofs.checking.accepted.Goals as goal

pub returns-in_err-check_bound-clause-refused : goal.returns-in_err-check_bound-clause-refused
returns-in_err-check_bound-clause-refused c =
    let p = err_from_is_err_and c.from_residual-in_err-check_bound.result c.from_residual-in_err-check_bound.ensures.1 in
    rw (p.1, p.2) (tree_refused c.args.instance.now c.args.text.now c.in_ok-cert.cert c.in_ok-cert.ensures.found c.in_err-check_bound.field-0.0 c.in_err-check_bound.ensures.refused)

pub returns-clause-accepted : goal.returns-clause-accepted
returns-clause-accepted c =
    tree_accepted c.args.instance.now c.args.text.now c.in_ok-cert.cert c.in_ok-cert.ensures.found c.in_ok-check_bound.ensures.accepted
