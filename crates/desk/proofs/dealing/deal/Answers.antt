use Rattle.std.proofs.Common.{arith, ap, refl}
use Rattle.desk.specs.Holding.{Holding}
use Rattle.desk.proofs.Tallies.{opening_accounts_more}
use Rattle.desk.proofs.dealing.deal.Goals as goal

pub loop-worker-preserved : goal.loop-worker-preserved
loop-worker-preserved g c =
    let more = opening_accounts_more c.loop-worker.worker c.args.first.tally c.args.seen.now.cost c.args.seen.now.bound (omega (arith, c.loop-worker.auto.worker)) in
    let rest = ap (λ (t : Holding). t.parts) c.split_off.ensures.rest in (
      omega (arith, c.push_reserved-in-loop-worker.ensures.len, c.loop-worker.invariant.0),
      rw (c.push_reserved-in-loop-worker.ensures.items, c.loop-worker.invariant.1, more, c.new.ensures, ap (λ (t : Holding). t.tally) c.split_off.ensures.one) refl,
      omega (arith, rest, c.loop-worker.invariant.2, c.loop-worker-test.true),
      ap (λ (t : Holding). t.tally) c.split_off.ensures.rest,
      omega (arith, c.push_reserved-in-loop-worker.ensures.capacity, c.loop-worker.invariant.4),
    )
