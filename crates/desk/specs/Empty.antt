-- An instance that no text has, and names of no ledgers.
use Rattle.std.specs.Prelude.{[]}
use Rattle.solomon_reader.specs.Problem.{Problem}
use Rattle.desk.specs.Tally.{Tally, each}

abbrev pub no_problem : Problem
no_problem = record { name = []; fleet = 0; capacity = 0; rows = [] }

abbrev pub no_names : Tally
no_names = each 0
