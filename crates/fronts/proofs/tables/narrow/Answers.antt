use Rattle.fronts.proofs.Narrowing.{forbidden_within, all_narrowed}
use Rattle.fronts.proofs.tables.narrow.Goals as goal

pub forbid-requires : goal.forbid-requires
forbid-requires c = forbidden_within c.args.region.now _ _ c.size-count.ensures.consistent c.requires.count c.forbidden_arcs.ensures

pub returns : goal.returns
returns c = all_narrowed c.args.region.now _ _ c.required_arcs.ensures c.forbidden_arcs.ensures _ _ _ c.requires c.forbid.ensures c.require_each.ensures
