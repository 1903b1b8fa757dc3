use Rattle.segments.specs.Joining.{join_assoc}
use Rattle.segments.proofs.JoinedLists.{stop_met, join_met, join_feasible, join_unmet, closed_is}
use Rattle.segments.proofs.StopJoins.{list_joined, list_unjoined, cost_joined}
use Rattle.segments.proofs.laws.laws_of_segments.Goals as goal

pub returns : goal.returns
returns c = record {
  assoc = join_assoc;
  single = stop_met;
  met = join_met;
  some = join_feasible;
  none = join_unmet;
  list = list_joined;
  list_none = list_unjoined;
  closing = closed_is;
  route = cost_joined;
}
