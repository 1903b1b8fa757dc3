-- Whether two instances are the same: name, fleet, capacity and rows.
use Rattle.std.specs.Prelude.{Bool, ◌==◌, ◌&&◌}
use Rattle.std.specs.Str.{bytes_eq}
use Rattle.std.specs.Cmp.Lexicographic.{pointwise}
use Rattle.solomon_reader.specs.declared.row.Row.{Row}
use Rattle.solomon_reader.specs.Problem.{Problem}

abbrev pub same_row : Row → Row → Bool
same_row a b = (a.x == b.x) && (a.y == b.y) && (a.demand == b.demand) && (a.ready == b.ready) && (a.due == b.due) && (a.service == b.service)

abbrev pub same_problem : Problem → Problem → Bool
same_problem a b = bytes_eq a.name b.name && (a.fleet == b.fleet) && (a.capacity == b.capacity) && pointwise same_row a.rows b.rows
