use Rattle.labelling.proofs.labeller.Labeller.leads_nowhere.Goals as goal

pub is_dear-requires-clause-bound : goal.is_dear-requires-clause-bound
is_dear-requires-clause-bound c = c.at.ensures c.args.label.now.front.load
