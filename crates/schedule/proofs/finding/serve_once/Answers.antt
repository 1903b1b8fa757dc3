use Rattle.std.proofs.Common.{refl}
use Rattle.solomon_reader.proofs.Planning.{after_twice}
use Rattle.schedule.proofs.Marking.{once_by_marks}
use Rattle.schedule.proofs.finding.serve_once.Goals as goal

pub returns-then-has_missing-clause-fault : goal.returns-then-has_missing-clause-fault
returns-then-has_missing-clause-fault c =
    let found = c.in_ok-marks.ensures in
    record {
      holds = c.if-has_missing.ensures.found _ found.marks refl;
      lowest = after_twice _ _ found.some found.known (λ i h. once_by_marks c.args.instance.now c.args.routes.now _ c.law_of_limits.ensures.customers found.known found.marks i);
    }

pub returns-clause-once : goal.returns-clause-once
returns-clause-once c = λ i h. c.if-has_missing.ensures.none _ c.in_ok-marks.ensures.marks refl i h
