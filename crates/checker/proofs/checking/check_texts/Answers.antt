use Rattle.std.proofs.lemmas.Result.{err_from_is_err_and}
use Rattle.std.proofs.Common.{ap}
use Rattle.std.specs.Prelude.{option_map}
use Rattle.sol_writer.specs.Text.{view}
use Rattle.solomon_reader.specs.CertificateText.{Content}
use Rattle.checker.proofs.Verdicts.{instance_refused, bound_refused, lent, judged}
use Rattle.checker.proofs.checking.check_texts.Goals as goal

pub returns-in_err-instance : goal.returns-in_err-instance
returns-in_err-instance c =
    let p = err_from_is_err_and c.from_residual.result c.from_residual.ensures.1 in
    rw p.1 (instance_refused _ c.in_err-instance.field-0.0 p.0 p.2 c.in_err-instance.ensures.exact)

pub returns-in_err-check_bound : goal.returns-in_err-check_bound
returns-in_err-check_bound c =
    let p = err_from_is_err_and c.from_residual-in_err-check_bound.result c.from_residual-in_err-check_bound.ensures.1 in
    rw (p.1, p.2)
    (bound_refused _ c.in_ok-instance.instance c.in_ok-cert.cert (option_map view c.in_ok-solution.solution) c.in_ok-instance.ensures.found c.in_ok-cert.ensures.found c.in_ok-solution.ensures.found
    c.in_err-check_bound.field-0.0 c.in_err-check_bound.ensures.refused)

pub returns : goal.returns
returns c =
    let same_bound = ap (λ (x : Content). x.bound) c.parts.ensures.value in
    let same = lent c.as_ref.result c.in_ok-solution.solution c.as_ref.ensures.value in
    judged _ c.in_ok-instance.instance c.in_ok-cert.cert (option_map view c.in_ok-solution.solution) c.in_ok-instance.ensures.found c.in_ok-cert.ensures.found c.in_ok-solution.ensures.found
    c.in_ok-check_bound.ensures.accepted _
    (rw (same_bound, same) at c.judge.ensures.verdict)
    (rw same at c.judge.ensures.refused)
