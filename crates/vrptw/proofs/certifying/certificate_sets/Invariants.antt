use Rattle.std.proofs.Common.{◌≡◌, map, ◌++◌}
use Rattle.priced_sets.specs.Sets.{listed_set}
use Rattle.certificate.specs.Text.{listed_set_of}
use Rattle.vrptw.proofs.certifying.certificate_sets.Given as goal

abbrev pub invariant-loop-set : goal.invariant-loop-set
invariant-loop-set l = record {
  listed : map listed_set_of l.listed.items ≡ map listed_set l.yielded;
  rest : l.fn.sets.items ≡ l.yielded ++ l.set-iterator.rest.items;
}
