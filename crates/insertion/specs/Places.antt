-- The places of a route.
use Rattle.std.specs.Prelude.{◌*◌, ◌<◌, ◌≤◌, length}
use Rattle.solomon_reader.specs.declared.limits.TheConstants.{MOST_TIME, MOST_DISTANCE}
use Rattle.solomon_reader.specs.Problem.{Problem}
use Rattle.insertion.specs.declared.place.Place.{Place}

-- between two rows of the instance, within the limits of times and ways
pub record IsBoundedPlace (p : Problem) (g : Place) : Type 0 where
  pub before : g.before < length p.rows
  pub after : g.after < length p.rows
  pub leaves : g.leaves ≤ 20 * MOST_TIME
  pub begins : g.begins ≤ 10 * MOST_TIME
  pub arc : g.arc ≤ MOST_DISTANCE
