-- The opening tokens of ten ledgers.
use Rattle.std.specs.Prelude.{ℕ}
use Rattle.std.specs.declared.sync.ledger.Blank.{Blank}
use Rattle.desk.specs.Tally.{Tally}
use Rattle.desk.specs.declared.blanks.Blanks.{Blanks}

-- a number of each token
abbrev pub each_of : (Blank → ℕ) → Blanks → Tally
each_of f b =
    record {
      accepted = f b.accepted;
      better = f b.better;
      repriced = f b.repriced;
      split = f b.split;
      workers = f b.workers;
      costs = f b.costs;
      values = f b.values;
      repriced_leaves = f b.repriced_leaves;
      split_leaves = f b.split_leaves;
      made = f b.made;
    }

-- the names of the ledgers
abbrev pub names_of : Blanks → Tally
names_of b = each_of (λ t. t.name) b

-- into how many parts they are cut
abbrev pub parts_of : Blanks → Tally
parts_of b = each_of (λ t. t.parts) b
