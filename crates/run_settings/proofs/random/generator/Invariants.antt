use Rattle.std.specs.Prelude.{◌≡◌}
use Rattle.rand_xoshiro.specs.SplitMix64.{splitmix_seed}
use Rattle.rand_xoshiro.specs.Xoshiro256.{of_seed}
use Rattle.run_settings.specs.Generators.{jumped}
use Rattle.run_settings.proofs.random.generator.Given as goal

abbrev pub invariant-loop : goal.invariant-loop
invariant-loop l = l.random ≡ jumped l.counter (of_seed (splitmix_seed 32 l.fn.seed))
