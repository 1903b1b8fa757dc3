use Rattle.solomon_reader.specs.CertificateText.{leaf_count}
use Rattle.vrptw.proofs.TreeTexts.{few_neighbours, outcome_tree, own_plan}
use Rattle.vrptw.proofs.found.found_by.Goals as goal

pub returns-clause-found : goal.returns-clause-found
returns-clause-found c =
    let b = c.args.outcome in
    let parts = c.in_ok-parts.ensures in
    let tree = parts.nodes in
    record {
      plan = rw parts.plan (own_plan b.problem b.incumbent parts.book.plan);
      few = rw (← c.requires.neighbours) (few_neighbours b parts.book tree.0 tree.1);
      most = parts.bound.ceiling;
      tree = rw (parts.sets, parts.rows, ← c.requires.neighbours, ← c.requires.sets, ← c.requires.rows) (record {
        few = parts.book.few;
        listed = parts.book.known;
        few_rows = parts.book.few_rows;
        rows_listed = parts.book.rows_known;
        in_order = parts.book.rows_in_order;
        leaves = leaf_count tree.0;
        tree = outcome_tree b parts.book tree.0 tree.1 c.in_ok-parts.parts.bound parts.bound c.in_ok-parts.parts.nodes.items tree.2;
      });
    }
