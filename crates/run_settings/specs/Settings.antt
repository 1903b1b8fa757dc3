-- How much work goes into a plan and a bound.
use Rattle.std.specs.Prelude.{◌≤◌}
use Rattle.run_settings.specs.declared.settings.Settings.{Settings}
use Rattle.run_settings.specs.declared.settings.TheConstants.{MOST_BOUNDERS, MOST_GAP, MOST_LABELS, MOST_SEARCHERS, MOST_TURNS}
use Rattle.solomon_reader.specs.declared.limits.TheConstants.{MOST_NEIGHBOURS, MOST_ROWS, MOST_SETS}

-- each number is within its limits; a seed may be any number
pub record IsWithin (settings : Settings) : Type 0 where
  pub some_searchers : 1 ≤ settings.searchers
  pub most_searchers : settings.searchers ≤ MOST_SEARCHERS
  pub some_bounders : 1 ≤ settings.bounders
  pub most_bounders : settings.bounders ≤ MOST_BOUNDERS
  pub some_turns : 1 ≤ settings.turns
  pub most_turns : settings.turns ≤ MOST_TURNS
  pub most_neighbours : settings.neighbours ≤ MOST_NEIGHBOURS
  pub some_labels : 1 ≤ settings.labels
  pub most_labels : settings.labels ≤ MOST_LABELS
  pub most_gap : settings.gap ≤ MOST_GAP
  pub most_sets : settings.sets ≤ MOST_SETS
  pub most_rows : settings.rows ≤ MOST_ROWS

-- the settings of words that name none
abbrev pub default_settings : Settings
default_settings = record {
  searchers = 2;
  bounders = 2;
  turns = 200;
  seed = 1;
  neighbours = 8;
  labels = 1000000;
  gap = 0;
  sets = 0;
  rows = 0;
}
