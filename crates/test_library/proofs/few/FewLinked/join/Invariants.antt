use Rattle.std.proofs.Common.{◌≡◌, ◌++◌, take}
use Rattle.test_library.specs.Few.{filled}
use Rattle.test_library.proofs.few.FewLinked.join.Given as goal

abbrev pub invariant-loop-i : goal.invariant-loop-i
invariant-loop-i l = l.items ≡ filled 8 (take l.a-inside.len l.a-inside.items ++ take l.i l.b-inside.items)
