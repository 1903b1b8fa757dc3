use Rattle.vrptw.proofs.Answering.{closed_text}
use Rattle.vrptw.proofs.Closed.{closed_found}
use Rattle.vrptw.proofs.closing_text.close_instance.Goals as goal

pub returns-clause-closed : goal.returns-clause-closed
returns-clause-closed g c text is =
    closed_text c.args.instance.now c.args.settings.now.neighbours c.args.leaf_limit c.in_ok-found.found c.in_ok-found.ensures.closed c.args.settings.now _ _ _ _ text
    is (c.are_within.ensures.0 c.if-not-are_within.false) c.write_found.result c.write_found.ensures

pub write_found-requires : goal.write_found-requires
write_found-requires g c =
    closed_found c.args.instance.now c.args.settings.now c.args.leaf_limit c.in_ok-found.found (c.are_within.ensures.0 c.if-not-are_within.false).0 c.in_ok-found.ensures.closed
