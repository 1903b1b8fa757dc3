-- Rows that don't give a job, and rows that give one job alone.
use Rattle.std.proofs.Common.{◌≡◌, ◌∙◌, ℕ, Bool, IsTrue, true, false, List, Option, Some, None, option_map, slice_index, ap, ap₂, arith, codes, inl, inr, refl, subst, sym}
use Rattle.std.specs.Prelude.{MatchOption}
use Rattle.std.specs.Str.Parse.{digits_value, without_leading_plus}
use Rattle.clap.specs.Words.{Row, Text}
use Rattle.command_line.specs.Commands.{HasCuts, HasFlag, HasNumber, IsLeftToCuts, IsNumberIf}
use Rattle.command_line.specs.Jobs.{HasClosing, HasSettings, HasTree, IsSameJob, Says, SaysAny}
use Rattle.command_line.specs.declared.jobs.TheConstants.{CUT_ROWS, CUT_SETS}
use Rattle.command_line.specs.declared.jobs.Job.{Job}
use Rattle.command_line.specs.declared.jobs.Job.TheVariants.{Solve, Check}
use Rattle.command_line.proofs.Parts.{same_part_if}
use Rattle.run_settings.specs.declared.part.Part.{Part}
use Rattle.run_settings.specs.Settings.{IsWithin}
use Rattle.run_settings.specs.declared.settings.Settings.{Settings}

-- no command has both names
one_name : (name : Text) → name ≡ codes "solve" → name ≡ codes "check" → ⊥
one_name name solve check =
    let bad : 115 ≡ 99 = ap (λ (l : List ℕ). slice_index l 0) (sym solve ∙ check) in
    absurd (omega (arith, bad))

-- no number of pairs is given
pub no_check : (rows : List Row) → ((n : ℕ) → HasNumber (codes "states") rows n → ⊥) → (other : Job) → Says (codes "check") rows other → ⊥
no_check rows none (Check instance certificate solution states) says = none states says.1.states_are
no_check rows none (Solve instance solution certificate start tree part settings close leaves progress live plans) says = absurd (one_name (codes "check") says.0 refl)

-- one of the numbers of `solve` is not given
pub no_number : (id : Text) (number : Settings → ℕ) (rows : List Row)
    → ((settings : Settings) → HasSettings rows settings → HasNumber id rows (number settings))
    → IsNumberIf id rows None → (other : Settings) → HasSettings rows other → ⊥
no_number id number rows has none other settings = none (number other) (has other settings)

-- the number of sets or rows is not given
pub no_cuts : (id : Text) (many : ℕ) (number : Settings → ℕ) (rows : List Row)
    → ((settings : Settings) → HasSettings rows settings → HasCuts id many rows (number settings))
    → ((n : ℕ) → HasCuts id many rows n → ⊥) → (other : Settings) → HasSettings rows other → ⊥
no_cuts id many number rows has none other settings = none (number other) (has other settings)

-- no number is another one than the argument's where the words don't leave it to the flag
not_another : (id : Text) (many : ℕ) (rows : List Row) → (IsLeftToCuts id rows → ⊥) → ((n : ℕ) → HasNumber id rows n → ⊥) → (n : ℕ) → HasCuts id many rows n → ⊥
not_another id many rows own none n (inl left) = own left.0
not_another id many rows own none n (inr has) = none n has.1

pub own_number : (id : Text) (many : ℕ) (rows : List Row) → (IsLeftToCuts id rows → ⊥) → (r : Option ℕ) → IsNumberIf id rows r
    → MatchOption r ((n : ℕ) → HasCuts id many rows n → ⊥) (HasCuts id many rows)
own_number id many rows own (Some n) is = inr (own, is)
own_number id many rows own None is = not_another id many rows own is

-- no settings are given
pub no_solve : (rows : List Row) → ((other : Settings) → HasSettings rows other → ⊥) → (other : Job) → Says (codes "solve") rows other → ⊥
no_solve rows none (Solve instance solution certificate start tree part settings close leaves progress live plans) says = none settings says.1.settings_are
no_solve rows none (Check instance certificate solution states) says = absurd (one_name (codes "solve") refl says.0)

some_is_one : {X : Type 0} (o : Option X) (x y : X) → o ≡ Some x → o ≡ Some y → x ≡ y
some_is_one o x y p q = cc

same_number : (id : Text) (rows : List Row) (m n : ℕ) → HasNumber id rows m → HasNumber id rows n → m ≡ n
same_number id rows m n p q =
    p.4 ∙ (ap (λ t. digits_value 10 (without_leading_plus t)) (some_is_one _ p.0 q.0 p.1 q.1) ∙ sym q.4)

same_cuts : (id : Text) (many : ℕ) (rows : List Row) (m n : ℕ) → HasCuts id many rows m → HasCuts id many rows n → m ≡ n
same_cuts id many rows m n (inl p) (inl q) = p.1 ∙ sym q.1
same_cuts id many rows m n (inr p) (inr q) = same_number id rows m n p.1 q.1
same_cuts id many rows m n (inl p) (inr q) = absurd (q.0 p.0)
same_cuts id many rows m n (inr p) (inl q) = absurd (p.0 q.0)

same_flag : (id : Text) (rows : List Row) (a b : Bool) → HasFlag id rows a → HasFlag id rows b → a ≡ b
same_flag id rows true true p q = refl
same_flag id rows false false p q = refl
same_flag id rows true false p q = let bad : IsTrue false = q.1 (p.0 refl) in cc
same_flag id rows false true p q = let bad : IsTrue false = p.1 (q.0 refl) in cc

-- no closing is given where no number of leaves is
pub no_leaves : (rows : List Row) → IsNumberIf (codes "leaves") rows None → (close : Bool) (leaves : ℕ) → HasClosing rows close leaves → ⊥
no_leaves rows none close leaves has = none leaves has.leaves_are

-- no job to solve is given where no closing is
pub no_closing : (rows : List Row) → ((close : Bool) (leaves : ℕ) → HasClosing rows close leaves → ⊥) → (other : Job) → Says (codes "solve") rows other → ⊥
no_closing rows none (Solve instance solution certificate start tree part settings close leaves progress live plans) says = none close leaves says.1.closing_is
no_closing rows none (Check instance certificate solution states) says = absurd (one_name (codes "solve") refl says.0)

-- no job to solve is given where no tree and part are
pub no_tree : (rows : List Row) (close : Bool) → HasFlag (codes "close") rows close
    → ((tree : Option Text) (part : Part) → HasTree rows tree part close → ⊥) → (other : Job) → Says (codes "solve") rows other → ⊥
no_tree rows close flag none (Solve instance solution certificate start tree part settings other leaves progress live plans) says =
    none _ part (subst (HasTree rows (option_map (λ s. s.now) tree) part) (same_flag (codes "close") rows other close says.1.closing_is.close_is flag) says.1.tree_is)
no_tree rows close flag none (Check instance certificate solution states) says = absurd (one_name (codes "solve") refl says.0)

-- settings by their numbers
abbrev with_numbers : ℕ → ℕ → ℕ → ℕ → ℕ → ℕ → ℕ → ℕ → ℕ → Settings
with_numbers searchers bounders turns seed neighbours labels gap sets rows = record {
  searchers = searchers;
  bounders = bounders;
  turns = turns;
  seed = seed;
  neighbours = neighbours;
  labels = labels;
  gap = gap;
  sets = sets;
  rows = rows;
}

-- the rows have these numbers, within their ranges or not
pub record HasNumbers (rows : List Row) (settings : Settings) : Type 0 where
  pub searchers_are : HasNumber (codes "searchers") rows settings.searchers
  pub bounders_are : HasNumber (codes "bounders") rows settings.bounders
  pub turns_are : HasNumber (codes "turns") rows settings.turns
  pub seed_is : HasNumber (codes "seed") rows settings.seed
  pub neighbours_are : HasNumber (codes "neighbours") rows settings.neighbours
  pub labels_are : HasNumber (codes "labels") rows settings.labels
  pub gap_is : HasNumber (codes "gap") rows settings.gap
  pub sets_are : HasCuts (codes "sets") CUT_SETS rows settings.sets
  pub rows_are : HasCuts (codes "rows") CUT_ROWS rows settings.rows

numbers_of : (rows : List Row) (settings : Settings) → HasSettings rows settings → HasNumbers rows settings
numbers_of rows settings has = record {
  searchers_are = has.searchers_are;
  bounders_are = has.bounders_are;
  turns_are = has.turns_are;
  seed_is = has.seed_is;
  neighbours_are = has.neighbours_are;
  labels_are = has.labels_are;
  gap_is = has.gap_is;
  sets_are = has.sets_are;
  rows_are = has.rows_are;
}

same_numbers : (rows : List Row) (a b : Settings) → HasNumbers rows a → HasNumbers rows b → a ≡ b
same_numbers rows a b p q =
    ap₂ (λ s o. with_numbers s o a.turns a.seed a.neighbours a.labels a.gap a.sets a.rows)
    (same_number _ rows _ _ p.searchers_are q.searchers_are) (same_number _ rows _ _ p.bounders_are q.bounders_are)
    ∙ (ap₂ (λ t s. with_numbers b.searchers b.bounders t s a.neighbours a.labels a.gap a.sets a.rows)
    (same_number _ rows _ _ p.turns_are q.turns_are) (same_number _ rows _ _ p.seed_is q.seed_is)
    ∙ (ap₂ (λ n l. with_numbers b.searchers b.bounders b.turns b.seed n l a.gap a.sets a.rows)
    (same_number _ rows _ _ p.neighbours_are q.neighbours_are) (same_number _ rows _ _ p.labels_are q.labels_are)
    ∙ (ap (λ g. with_numbers b.searchers b.bounders b.turns b.seed b.neighbours b.labels g a.sets a.rows)
    (same_number _ rows _ _ p.gap_is q.gap_is)
    ∙ ap₂ (with_numbers b.searchers b.bounders b.turns b.seed b.neighbours b.labels b.gap)
    (same_cuts _ _ rows _ _ p.sets_are q.sets_are) (same_cuts _ _ rows _ _ p.rows_are q.rows_are))))

same_settings : (rows : List Row) (a b : Settings) → HasSettings rows a → HasSettings rows b → a ≡ b
same_settings rows a b p q = same_numbers rows a b (numbers_of rows a p) (numbers_of rows b q)

-- no settings are given where the numbers aren't within their ranges
pub not_within : (rows : List Row) (a : Settings) → HasNumbers rows a → (IsWithin a → ⊥) → (other : Settings) → HasSettings rows other → ⊥
not_within rows a numbers outside other has = outside (subst (λ (s : Settings). IsWithin s) (same_numbers rows other a (numbers_of rows other has) numbers) has.within)

-- what a command and its rows say is one job
pub same_job : (named : Option (Text × List Row)) (found other : Job) → SaysAny named found → SaysAny named other → IsSameJob found other
same_job None found other says also = absurd says
same_job (Some (name, rows)) (Solve instance solution certificate start tree part settings close leaves progress live plans)
    (Solve second_instance second_solution second_certificate second_start second_tree second_part second_settings second_close second_leaves second_progress second_live second_plans) (_, p) (_, q) = (
      some_is_one _ _ _ p.instance_path q.instance_path,
      some_is_one _ _ _ p.solution_path q.solution_path,
      some_is_one _ _ _ p.certificate_path q.certificate_path,
      sym p.start_path ∙ q.start_path,
      sym p.tree_is.tree_path ∙ q.tree_is.tree_path,
      same_part_if _ part second_part p.tree_is.part_is q.tree_is.part_is,
      same_settings rows settings second_settings p.settings_are q.settings_are,
      same_flag (codes "close") rows close second_close p.closing_is.close_is q.closing_is.close_is,
      same_number _ rows leaves second_leaves p.closing_is.leaves_are q.closing_is.leaves_are,
      same_flag (codes "progress") rows progress second_progress p.progress_is q.progress_is,
      same_flag (codes "live") rows live second_live p.live_is q.live_is,
      sym p.plans_path ∙ q.plans_path,
    )
same_job (Some (name, rows)) (Check instance certificate solution states) (Check second_instance second_certificate second_solution second_states) (_, p) (_, q) = (
  some_is_one _ _ _ p.instance_path q.instance_path,
  some_is_one _ _ _ p.certificate_path q.certificate_path,
  sym p.solution_path ∙ q.solution_path,
  same_number _ rows states second_states p.states_are q.states_are,
)
same_job (Some (name, rows)) (Solve instance solution certificate start tree part settings close leaves progress live plans) (Check second_instance second_certificate second_solution second_states) p q =
    absurd (one_name name p.0 q.0)
same_job (Some (name, rows)) (Check instance certificate solution states)
    (Solve second_instance second_solution second_certificate second_start second_tree second_part second_settings second_close second_leaves second_progress second_live second_plans) p q =
    absurd (one_name name q.0 p.0)
