-- What a run begins with, and why it gives no outcome.
use Rattle.std.specs.Prelude.{◌≡◌, ◌+◌, ◌≤◌, length, Option, Some, None, MatchOption}
use Rattle.schedule.specs.Solution.{Solution}
use Rattle.incumbent_book.specs.Contents.{Contents}
use Rattle.solomon_reader.specs.History.{split_count}
use Rattle.run_settings.specs.Settings.{IsWithin}
use Rattle.search_workers.specs.declared.fault.RunFault.{RunFault}
use Rattle.search_workers.specs.declared.fault.RunFault.TheVariants.{Memory, BadSettings, LabelLimit, NoThread}
use Rattle.run_settings.specs.declared.settings.Settings.{Settings}

-- the same search, with at most one event more
pub record IsOneOn (old new : Contents) : Type 0 where
  pub problem : new.problem ≡ old.problem
  pub neighbours : new.neighbours ≡ old.neighbours
  pub sets : new.most_sets ≡ old.most_sets
  pub rows : new.most_rows ≡ old.most_rows
  pub limits : new.limits ≡ old.limits
  pub events : length new.past ≤ length old.past + 1
  pub splits : split_count new.past ≡ split_count old.past

-- the settings are told to be bad exactly where they are
abbrev pub RefusesSettings : Settings → RunFault → Type 0
RefusesSettings settings BadSettings = ¬ IsWithin settings
RefusesSettings settings Memory = IsWithin settings
RefusesSettings settings LabelLimit = IsWithin settings
RefusesSettings settings NoThread = IsWithin settings

-- a plan that costs at most what another one does, if there is that one
abbrev pub IsNoDearer : Option Solution → Option Solution → Type 0
IsNoDearer None found = Unit {0}
IsNoDearer (Some start) found = MatchOption found ⊥ (λ plan. plan.cost ≤ start.cost)
