use Rattle.std.proofs.Common.{◌≡◌, take}
use Rattle.incumbent_book.specs.Contents.{past_of}
use Rattle.desk.specs.Tally.{tally_of}
use Rattle.desk.proofs.dealing.count_all.Given as goal

abbrev pub invariant-loop-event : goal.invariant-loop-event
invariant-loop-event g l =
    (l.totals ≡ tally_of (past_of (take l.event-index l.history)))
    × (l.mine ≡ record { worker = l.initial.mine.worker; tally = tally_of (past_of (take l.event-index l.history)); cost = l.initial.mine.cost; bound = l.initial.mine.bound })
