use Rattle.insertion.proofs.Taking.{all_customers}
use Rattle.insertion.proofs.building.build.Goals as goal

pub all_routes-requires : goal.all_routes-requires
all_routes-requires c = rw c.in_ok-unrouted.ensures (all_customers c.args.instance.now)
