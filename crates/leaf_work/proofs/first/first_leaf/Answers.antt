use Rattle.std.proofs.Common.{◌≤◌, inr}
use Rattle.leaf_work.proofs.first.first_leaf.Goals as goal
use Rattle.leaf_work.proofs.first.first_leaf.Goals.{in-Some-plan, in-None}

pub returns-clause-not_lower : goal.returns-clause-not_lower
returns-clause-not_lower c =
    let root = c.in_ok-root.ensures in
    let not_lower : c.in_ok-root.root.value ≤ c.match-plan.result.value = elim c.match-plan.branch [
      | in-Some-plan w ↦ rw w.result-is w.start_from.ensures.not_lower
      | in-None w ↦ rw w.result-is w.start_by_demands.ensures.not_lower
    ] in
    inr (
      c.in_ok-root.root,
      record {
        root = record { problem = root.problem; region = root.region; neighbours = root.neighbours; valued = root.valued };
        prices = root.prices;
        sets = root.sets;
        rows = root.rows;
      },
      not_lower,
    )
