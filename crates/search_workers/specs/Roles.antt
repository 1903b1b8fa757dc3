-- The roles of the workers.
use Rattle.std.specs.Prelude.{◌≡◌, ℕ}
use Rattle.rand_xoshiro.specs.SplitMix64.{splitmix_seed}
use Rattle.rand_xoshiro.specs.Xoshiro256.{of_seed}
use Rattle.run_settings.specs.Generators.{jumped}
use Rattle.search_workers.specs.declared.post.Role.{Role}

-- who looks for plans draws the words of the seed after as many jumps as its number
abbrev pub DrawsFor : ℕ → ℕ → Role → Type 0
DrawsFor seed number role = role.random ≡ jumped number (of_seed (splitmix_seed 32 seed))
