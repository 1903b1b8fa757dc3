-- Steps that build a command.
use Rattle.std.proofs.Common.{◌≡◌, ◌∙◌, ◌||◌, ℕ, List, [], ◌∷◌, Option, Some, None, Result, Ok, Err, ap, ap₂, refl, sym, subst, unwrap_or, false}
use Rattle.std.specs.Str.Parse.{IsNumeral, ParsesUnsigned, without_leading_plus}
use Rattle.clap.specs.Words.{AddsArg, AddsSubcommand, App, Rule, Shape, app_of, rule_of, with_rule, Row, Text, ReadsOne, one_of, with_subcommand}
use Rattle.clap.specs.declared.Arg.{Arg}
use Rattle.clap.specs.declared.Command.{Command}
use Rattle.command_line.specs.Commands.{AddsRules, HasShape, IsNumberIf}

-- `Command::arg`, of an argument that subcommands do not share
pub adds_rule : (before after : Command) (arg : Arg) (app : App) (rule : Rule)
    → HasShape app before → AddsArg before arg after → rule_of arg ≡ rule → arg.global ≡ false
    → HasShape (with_rule app rule) after
adds_rule before after arg app rule was step is own =
    (step.shape own ∙ ap₂ with_rule was.0 is, step.globals ∙ ap₂ (λ x y. x || y) was.1 own)

-- the same of two arguments in turn
pub adds_two : (before made after : Command) (first second : Arg) (one two : Rule)
    → AddsArg before first made → rule_of first ≡ one → first.global ≡ false
    → AddsArg made second after → rule_of second ≡ two → second.global ≡ false
    → AddsRules (one ∷ two ∷ []) before after
adds_two before made after first second one two step is own next also owned app was =
    adds_rule made after second (with_rule app one) two
    (adds_rule before made first app one was step is own) next also owned

-- the same of three
pub adds_three : (before made more after : Command) (first second third : Arg) (one two three : Rule)
    → AddsArg before first made → rule_of first ≡ one → first.global ≡ false
    → AddsArg made second more → rule_of second ≡ two → second.global ≡ false
    → AddsArg more third after → rule_of third ≡ three → third.global ≡ false
    → AddsRules (one ∷ two ∷ three ∷ []) before after
adds_three before made more after first second third one two three step is own next also owned last as_well its app was =
    adds_rule more after third (with_rule (with_rule app one) two) three
    (adds_two before made more first second one two step is own next also owned app was) last as_well its

-- `Command::subcommand`, of a command with no subcommands of its own
pub adds_shape : (before after sub : Command) (app : App) (shape : Shape) → app_of before ≡ app
    → HasShape (record { top = shape; subs = [] }) sub → AddsSubcommand before sub after
    → app_of after ≡ with_subcommand app shape
adds_shape before after sub app shape was has step =
    step.shape has.1 ∙ ap₂ with_subcommand was (ap (λ a. a.top) has.0)

none_is_not_some : {X : Type 0} (x : X) → None ≡ Some x → ⊥
none_is_not_some x e = cc

-- `ArgMatches::get_one`, of a number
pub reads : (E : Type 0) (G : List ℕ → Result ℕ E → Type 0) → ((u : List ℕ) (x : Result ℕ E) → G u x → ParsesUnsigned 32 10 u x)
    → (id : Text) (rows : List Row) (o : Option Text) → one_of id rows ≡ o → (r : Option ℕ) → (o ≡ None → r ≡ None)
    → ((t : List ℕ) → o ≡ Some t → ReadsOne G t r) → IsNumberIf id rows r
reads E G only id rows None e r none value = subst (IsNumberIf id rows) (sym (none refl)) (λ n h. none_is_not_some h.0 (sym e ∙ h.1))
reads E G only id rows (Some t) e r none value = go r (value t refl)
  where
    go : (r : Option ℕ) → ReadsOne G t r → IsNumberIf id rows r
    go (Some v) h = let p = only t (Ok v) h in (t, e, p.0.0, p.0.1, p.1)
    go None h = λ n k. let same : k.0 ≡ t = ap (λ o. unwrap_or o []) (sym k.1 ∙ e) in
        only t (Err h.0) h.1 (subst (λ u. IsNumeral 10 (without_leading_plus u)) same k.2, rw (← same) k.3)
