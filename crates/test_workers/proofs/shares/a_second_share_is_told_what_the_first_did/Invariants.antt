use Rattle.std.specs.Prelude.{None}
use Rattle.desk.specs.Blanks.{names_of}
use Rattle.test_workers.proofs.shares.a_second_share_is_told_what_the_first_did.Given as goal

abbrev pub ghosts-run : goal.ghosts-run
ghosts-run g a = record { problem = a.book.problem; neighbours = a.book.neighbours; sets = a.book.most_sets; rows = a.book.most_rows; opening_cost = None; opening_bound = 0; workers = 2; names = names_of a.blanks }
