use Rattle.std.proofs.Common.{◌≡◌, ◌+◌, ◌≤◌, vec_len, vec_capacity}
use Rattle.desk.specs.Tally.{each}
use Rattle.desk.specs.Account.{opening_accounts}
use Rattle.desk.proofs.dealing.deal.Given as goal

abbrev pub invariant-loop-worker : goal.invariant-loop-worker
invariant-loop-worker g l =
    (vec_len l.shares ≡ l.worker) × (l.shares.items ≡ opening_accounts l.worker l.fn.first.tally l.seen.cost l.seen.bound)
    × (l.rest.parts + l.worker ≡ l.workers) × (l.rest.tally ≡ each 0) × (l.workers ≤ vec_capacity l.shares)
