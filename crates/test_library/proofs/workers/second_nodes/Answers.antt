use Rattle.std.proofs.Common.{subst, IfSome}
use Rattle.std.proofs.lemmas.List.Elements.{All-pop}
use Rattle.std.specs.List.{All}
use Rattle.node_pool.specs.Deques.{FitsAt}
use Rattle.node_pool.specs.Ends.{deque_at}
use Rattle.test_library.proofs.workers.second_nodes.Goals as goal

pub new-requires : goal.new-requires
new-requires c = let found = (All-pop (λ p. All (λ t. FitsAt (deque_at t) p) c.args.deques.now) c.args.passes.items c.pop.new.self.items
    c.pop.result c.pop.ensures.items c.requires).1 in subst (λ r. IfSome r (λ p. All (λ t. FitsAt (deque_at t) p) c.args.deques.now)) c.in-Some.is found
