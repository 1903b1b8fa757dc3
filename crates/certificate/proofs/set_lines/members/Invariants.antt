use Rattle.std.proofs.Common.{◌≡◌, length}
use Rattle.certificate.specs.Reading.{members_at}
use Rattle.certificate.proofs.Loops.{with_front}
use Rattle.certificate.proofs.set_lines.members.Given as goal

abbrev pub invariant-loop-word : goal.invariant-loop-word
invariant-loop-word l = with_front l.list.items (members_at l.line l.words) ≡ members_at l.line l.fn.words

abbrev pub decreases-loop-word : goal.decreases-loop-word
decreases-loop-word l = length l.words
