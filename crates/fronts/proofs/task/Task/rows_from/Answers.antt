use Rattle.fronts.proofs.task.Task.rows_from.Goals as goal

pub returns : goal.returns
returns c = rw (c.index.ensures, c.from.ensures) (c.args.self.now.allowed.each c.args.v c.index.result.now c.requires)
