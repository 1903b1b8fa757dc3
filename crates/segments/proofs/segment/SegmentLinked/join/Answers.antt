use Rattle.std.proofs.Common.{◌∙◌, ◌≡◌, ◌+◌, ◌≤◌, arith, pos, ◌+ℤ◌, ◌-ℤ◌, ◌≤ℤ◌, to_z, of_z, w64}
use Rattle.std.specs.Int.{int_min, int_max}
use Rattle.std.proofs.lemmas.Int.{ints}
use Rattle.solomon_reader.specs.Problem.{customer_count}
use Rattle.solomon_reader.specs.Distance.{distance}
use Rattle.solomon_reader.specs.Segments.{capped}
use Rattle.segments.proofs.JoinedLists.{made, made_bounded}
use Rattle.segments.proofs.segment.SegmentLinked.join.Goals as goal

pub invariant_of-result : goal.invariant_of-result
invariant_of-result c =
    let u = c.get-arc.result in
    let e : u ≡ distance c.args.context.now c.a.inside.last c.b.inside.first = c.get-arc.ensures.value ∙ c.distance.ensures.value in
    let a = c.a.inside in
    let b = c.b.inside in
    let left_at : c.reach.result ≡ a.earliest +ℤ pos u = rw (← c.a.view_is) at c.reach.ensures in
    let timely : (a.earliest +ℤ pos u) ≤ℤ b.latest = omega (arith, ints) in
    let cost_is : c.cost_with.result ≡ a.cost + u + b.cost = rw (← c.a.view_is, ← c.b.view_is) at c.cost_with.ensures in
    let load_is : c.load_with.result ≡ capped (a.load + b.load) = rw (← c.a.view_is, ← c.b.view_is) at c.load_with.ensures in
    let l : c.latest_with.result ≡ int_min a.latest ((b.latest -ℤ a.duration) -ℤ pos u) = rw (← c.a.view_is, ← c.b.view_is) at c.latest_with.ensures in
    let latest_is : to_z w64 (of_z w64 c.latest_with.result) ≡ int_min a.latest ((b.latest -ℤ a.duration) -ℤ pos u) = rw (← l) (omega (arith, ints)) in
    let d : c.duration_with.result ≡ a.duration +ℤ pos u +ℤ b.duration = rw (← c.a.view_is, ← c.b.view_is) at c.duration_with.ensures in
    let duration_is : to_z w64 (of_z w64 c.duration_with.result) ≡ a.duration +ℤ pos u +ℤ b.duration = rw (← d) (omega (arith, ints)) in
    let x : c.earliest_with.result ≡ int_max (a.earliest +ℤ pos u +ℤ b.duration) b.earliest = rw (← c.a.view_is, ← c.b.view_is) at c.earliest_with.ensures in
    let earliest_is : to_z w64 (of_z w64 c.earliest_with.result) ≡ int_max (a.earliest +ℤ pos u +ℤ b.duration) b.earliest = rw (← x) (omega (arith, ints)) in
    made_bounded c.args.context.now (record { load = a.load; cost = a.cost; first = a.first; last = a.last; latest = a.latest; duration = a.duration; earliest = a.earliest })
    (record { load = b.load; cost = b.cost; first = b.first; last = b.last; latest = b.latest; duration = b.duration; earliest = b.earliest }) _
    c.a.invariant c.b.invariant (rw (← e) timely) load_is (rw (← e) cost_is) (rw (← e) latest_is) (rw (← e) duration_is) (rw (← e) earliest_is)

pub returns : goal.returns
returns c =
    let u = c.get-arc.result in
    let e : u ≡ distance c.args.context.now c.a.inside.last c.b.inside.first = c.get-arc.ensures.value ∙ c.distance.ensures.value in
    let a = c.a.inside in
    let b = c.b.inside in
    let left_at : c.reach.result ≡ a.earliest +ℤ pos u = rw (← c.a.view_is) at c.reach.ensures in
    let timely : (a.earliest +ℤ pos u) ≤ℤ b.latest = omega (arith, ints) in
    let cost_is : c.cost_with.result ≡ a.cost + u + b.cost = rw (← c.a.view_is, ← c.b.view_is) at c.cost_with.ensures in
    let load_is : c.load_with.result ≡ capped (a.load + b.load) = rw (← c.a.view_is, ← c.b.view_is) at c.load_with.ensures in
    let l : c.latest_with.result ≡ int_min a.latest ((b.latest -ℤ a.duration) -ℤ pos u) = rw (← c.a.view_is, ← c.b.view_is) at c.latest_with.ensures in
    let latest_is : to_z w64 (of_z w64 c.latest_with.result) ≡ int_min a.latest ((b.latest -ℤ a.duration) -ℤ pos u) = rw (← l) (omega (arith, ints)) in
    let d : c.duration_with.result ≡ a.duration +ℤ pos u +ℤ b.duration = rw (← c.a.view_is, ← c.b.view_is) at c.duration_with.ensures in
    let duration_is : to_z w64 (of_z w64 c.duration_with.result) ≡ a.duration +ℤ pos u +ℤ b.duration = rw (← d) (omega (arith, ints)) in
    let x : c.earliest_with.result ≡ int_max (a.earliest +ℤ pos u +ℤ b.duration) b.earliest = rw (← c.a.view_is, ← c.b.view_is) at c.earliest_with.ensures in
    let earliest_is : to_z w64 (of_z w64 c.earliest_with.result) ≡ int_max (a.earliest +ℤ pos u +ℤ b.duration) b.earliest = rw (← x) (omega (arith, ints)) in
    let last_is : a.last ≤ customer_count c.args.context.now = omega arith in
    let first_is : b.first ≤ customer_count c.args.context.now = omega arith in
    rw (← c.a.view_is, ← c.b.view_is)
    (made c.args.context.now (record { load = a.load; cost = a.cost; first = a.first; last = a.last; latest = a.latest; duration = a.duration; earliest = a.earliest })
    (record { load = b.load; cost = b.cost; first = b.first; last = b.last; latest = b.latest; duration = b.duration; earliest = b.earliest }) _ _ _ _ _
    last_is first_is (rw (← e) timely) load_is (rw (← e) cost_is) (rw (← e) latest_is) (rw (← e) duration_is) (rw (← e) earliest_is))
