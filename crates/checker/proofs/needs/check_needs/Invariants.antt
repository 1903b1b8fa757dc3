use Rattle.std.proofs.Common.{ℕ, ◌<◌, get_or}
use Rattle.solomon_reader.specs.CustomerSets.{IsNeeded}
use Rattle.certificate.specs.declared.sets.ListedSet.{ListedSet}
use Rattle.checker.proofs.needs.check_needs.Given as goal

-- the sets so far need what they are said to
abbrev pub invariant-loop-index : goal.invariant-loop-index
invariant-loop-index l = (k : ℕ) (d : ListedSet) → k < l.index → IsNeeded l.instance (get_or l.sets k d).members.items (get_or l.sets k d).need
