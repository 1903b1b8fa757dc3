use Rattle.std.proofs.Common.{arith}
use Rattle.std.proofs.lemmas.Bool.{false≢true}
use Rattle.tree_bound.proofs.value.limit_of.Goals as goal
use Rattle.tree_bound.proofs.value.limit_of.Goals.{else-is_none-via-then-is_none+else-value_at-from, else-is_none-via-else-is_none}

pub returns-then-value_at-from-2-clause-routeless : goal.returns-then-value_at-from-2-clause-routeless
returns-then-value_at-from-2-clause-routeless c = elim c.else-is_none.branch [
  | else-is_none-via-then-is_none+else-value_at-from w ↦ λ none. record { value = w.value_at.result; rounded = w.value_at.ensures; high = omega (arith, w.if-value_at-from.false, w.from.ensures) }
  | else-is_none-via-else-is_none w ↦ λ none. absurd (let t = w.if-is_none.ensures in let there = rw none at t in false≢true there)
]
