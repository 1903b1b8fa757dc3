use Rattle.std.proofs.Common.{IsTrue, codes, false}
use Rattle.clap.specs.Words.{found_of, rows_of}
use Rattle.command_line.proofs.Named.{no_cuts, no_number, not_within}
use Rattle.command_line.specs.declared.jobs.TheConstants.{CUT_ROWS, CUT_SETS}
use Rattle.command_line.proofs.commands.settings_of.Goals as goal

pub returns-in_err-searchers : goal.returns-in_err-searchers
returns-in_err-searchers c =
    rw c.from_residual.ensures (no_number (codes "searchers") (λ s. s.searchers) (rows_of (found_of c.args.found.now))
    (λ settings has. has.searchers_are) (rw c.in_err-searchers.was at c.number_of.ensures))

pub returns-in_err-bounders : goal.returns-in_err-bounders
returns-in_err-bounders c =
    rw c.from_residual-in_err-bounders.ensures (no_number (codes "bounders") (λ s. s.bounders) (rows_of (found_of c.args.found.now))
    (λ settings has. has.bounders_are) (rw c.in_err-bounders.was at c.number_of-2.ensures))

pub returns-in_err-turns : goal.returns-in_err-turns
returns-in_err-turns c =
    rw c.from_residual-in_err-turns.ensures (no_number (codes "turns") (λ s. s.turns) (rows_of (found_of c.args.found.now))
    (λ settings has. has.turns_are) (rw c.in_err-turns.was at c.number_of-3.ensures))

pub returns-in_err-seed : goal.returns-in_err-seed
returns-in_err-seed c =
    rw c.from_residual-in_err-seed.ensures (no_number (codes "seed") (λ s. s.seed) (rows_of (found_of c.args.found.now))
    (λ settings has. has.seed_is) (rw c.in_err-seed.was at c.number_of-4.ensures))

pub returns-in_err-neighbours : goal.returns-in_err-neighbours
returns-in_err-neighbours c =
    rw c.from_residual-in_err-neighbours.ensures (no_number (codes "neighbours") (λ s. s.neighbours) (rows_of (found_of c.args.found.now))
    (λ settings has. has.neighbours_are) (rw c.in_err-neighbours.was at c.number_of-5.ensures))

pub returns-in_err-labels : goal.returns-in_err-labels
returns-in_err-labels c =
    rw c.from_residual-in_err-labels.ensures (no_number (codes "labels") (λ s. s.labels) (rows_of (found_of c.args.found.now))
    (λ settings has. has.labels_are) (rw c.in_err-labels.was at c.number_of-6.ensures))

pub returns-in_err-gap : goal.returns-in_err-gap
returns-in_err-gap c =
    rw c.from_residual-in_err-gap.ensures (no_number (codes "gap") (λ s. s.gap) (rows_of (found_of c.args.found.now))
    (λ settings has. has.gap_is) (rw c.in_err-gap.was at c.number_of-7.ensures))

pub returns-in_err-sets : goal.returns-in_err-sets
returns-in_err-sets c =
    rw c.from_residual-in_err-sets.ensures (no_cuts (codes "sets") CUT_SETS (λ s. s.sets) (rows_of (found_of c.args.found.now))
    (λ settings has. has.sets_are) (rw c.in_err-sets.was at c.cuts_of.ensures))

pub returns-in_err-rows : goal.returns-in_err-rows
returns-in_err-rows c =
    rw c.from_residual-in_err-rows.ensures (no_cuts (codes "rows") CUT_ROWS (λ s. s.rows) (rows_of (found_of c.args.found.now))
    (λ settings has. has.rows_are) (rw c.in_err-rows.was at c.cuts_of-2.ensures))

pub returns-then-not-is_within : goal.returns-then-not-is_within
returns-then-not-is_within c =
    not_within (rows_of (found_of c.args.found.now)) _ (record {
      searchers_are = c.in_ok-searchers.ensures;
      bounders_are = c.in_ok-bounders.ensures;
      turns_are = c.in_ok-turns.ensures;
      seed_is = c.in_ok-seed.ensures;
      neighbours_are = c.in_ok-neighbours.ensures;
      labels_are = c.in_ok-labels.ensures;
      gap_is = c.in_ok-gap.ensures;
      sets_are = c.in_ok-sets.ensures;
      rows_are = c.in_ok-rows.ensures;
    }) (λ within. let bad : IsTrue false = c.if-not-is_within.ensures.1 within in cc)
