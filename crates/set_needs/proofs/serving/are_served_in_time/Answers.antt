use Rattle.std.proofs.Common.{◌≡◌, ◌+◌, length, arith}
use Rattle.std.specs.Prelude.{◌-◌}
use Rattle.set_needs.specs.Latest.{subsets}
use Rattle.set_needs.proofs.Subsets.{subsets_some, served_by, by_served}
use Rattle.set_needs.proofs.serving.are_served_in_time.Goals as goal

pub latest_table-requires-clause-count : goal.latest_table-requires-clause-count
latest_table-requires-clause-count c = omega (arith, c.subsets-all.ensures.value, subsets_some (length c.args.members.now))

pub returns : goal.returns
returns c =
    let all : (c.subsets-all.result - 1) + 1 ≡ subsets (length c.args.members.now) = omega (arith, c.subsets-all.ensures.value, subsets_some (length c.args.members.now)) in (
      λ early. served_by c.args.instance.now c.args.members.now (c.subsets-all.result - 1) all c.latest_for-latest.result c.latest_for-latest.ensures c.ready.result c.ready.ensures.value (c.is_no_later.ensures.0 early),
      λ served. c.is_no_later.ensures.1 (by_served c.args.instance.now c.args.members.now (c.subsets-all.result - 1) all c.latest_for-latest.result c.latest_for-latest.ensures c.ready.result c.ready.ensures.value served),
    )

pub latest_for-latest-requires-clause-mask : goal.latest_for-latest-requires-clause-mask
latest_for-latest-requires-clause-mask c = omega (arith, c.subsets-all.ensures.value, c.subsets-all.ensures.some)
