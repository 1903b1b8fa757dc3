use Rattle.std.proofs.Common.{◌≤◌, ◌+◌, length, arith}
use Rattle.solomon_reader.specs.Problem.{customer_count}
use Rattle.set_needs.proofs.Subsets.{rising_short}
use Rattle.set_needs.proofs.deciding.need_by_load.Goals as goal

pub overflow_add-load : goal.overflow_add-load
overflow_add-load c =
    let few : 0 + length c.args.members.now ≤ customer_count c.args.instance.now = rising_short c.args.members.now 0 (customer_count c.args.instance.now) (omega arith) c.requires.rising c.requires.known in
    omega (arith, few, c.law_of_limits.ensures.customers, c.loop-member-test.true, c.loop-member.invariant, c.from-load.ensures, c.demand.ensures.bound)
