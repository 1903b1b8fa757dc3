use Rattle.std.proofs.Common.{◌≡◌, drop}
use Rattle.certificate.specs.Reading.{is_rising}
use Rattle.certificate.proofs.set_lines.are_rising.Given as goal

abbrev pub invariant-loop-number : goal.invariant-loop-number
invariant-loop-number l = is_rising l.low l.most (drop l.number-index l.numbers) ≡ is_rising 0 l.most l.numbers
