use Rattle.std.proofs.Common.{◌≡◌, ◌+◌, vec_len}
use Rattle.desk.specs.Tally.{plus}
use Rattle.desk.specs.Account.{tally_of_shares}
use Rattle.desk.proofs.dealing.gather.Given as goal

abbrev pub invariant-loop-share : goal.invariant-loop-share
invariant-loop-share g l =
    (l.tokens.parts + vec_len l.shares ≡ vec_len l.fn.shares) × (plus l.tokens.tally (tally_of_shares l.shares.items) ≡ tally_of_shares l.fn.shares.items)

abbrev pub decreases-loop-share : goal.decreases-loop-share
decreases-loop-share g l = vec_len l.shares
