use Rattle.completions.proofs.table.bound_in.Goals as goal

pub returns-then-place-bounds : goal.returns-then-place-bounds
returns-then-place-bounds c = c.unknown.ensures c.args.v c.args.time c.args.load

pub returns-then-found-v : goal.returns-then-found-v
returns-then-found-v c = c.unknown-then-found-v.ensures c.args.v c.args.time c.args.load
