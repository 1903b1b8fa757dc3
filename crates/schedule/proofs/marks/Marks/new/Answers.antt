use Rattle.std.proofs.Common.{arith}
use Rattle.schedule.specs.declared.marks.TheConstants.{MOST_MARKS}
use Rattle.schedule.proofs.Marking.{no_marks}
use Rattle.schedule.proofs.marks.Marks.new.Goals as goal

pub returns : goal.returns
returns c = no_marks MOST_MARKS (omega arith)
