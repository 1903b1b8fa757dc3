use Rattle.std.proofs.Common.{◌+◌}
use Rattle.std.specs.Prelude.{option_map}
use Rattle.desk.specs.Blanks.{names_of}
use Rattle.search_workers.proofs.running.run_within.Given as goal

-- the desk is about this instance
abbrev pub ghosts-run_at_desk : goal.ghosts-run_at_desk
ghosts-run_at_desk g a = record {
  problem = a.input.now.instance.now;
  neighbours = a.input.now.settings.now.neighbours;
  sets = a.input.now.settings.now.sets;
  rows = a.input.now.settings.now.rows;
  opening_cost = option_map (λ h. h.plan.cost) a.opening.begin.plan;
  opening_bound = a.opening.begin.tree.reached;
  workers = a.input.now.settings.now.searchers + a.input.now.settings.now.bounders;
  names = names_of a.blanks;
}
