use Rattle.std.proofs.Common.{◌≡◌, ◌∙◌, sym, subst, refl, ◌∷◌, [], false, true, arith, to_z, of_z, w64}
use Rattle.std.proofs.lemmas.Int.{ints}
use Rattle.segments.specs.PlanTrees.{problem_of}
use Rattle.moves.specs.Trees.{visits_of}
use Rattle.moves.specs.Search.{IsUnder}
use Rattle.moves.proofs.Searching.{none_of_one, best_is, same_move}
use Rattle.moves.specs.Values.{HasValue}
use Rattle.moves.proofs.choosing.best_of_one.Goals as goal

different : false ≡ true → ⊥
different e = grind (arith, e)

pub returns-then-not-is_under : goal.returns-then-not-is_under
returns-then-not-is_under c =
    let f = c.args.first.now in
    let s = c.args.second.now in
    let same : to_z w64 (of_z w64 c.args.change) ≡ c.args.change = omega (arith, ints) in
    none_of_one (problem_of c.args.trees.now) (visits_of c.args.trees.now) c.args.kind c.args.limit (f.route ∷ f.position ∷ f.length ∷ s.route ∷ s.position ∷ []) s.length refl
    (λ n u e is h below. different (c.if-not-is_under.ensures.1 (subst (IsUnder c.args.limit) (c.requires.change n u e is h ∙ sym same) below)))

pub returns : goal.returns
returns c =
    let f = c.args.first.now in
    let s = c.args.second.now in
    let o = c.candidate_of-candidate in
    let v = c.in_ok-value.value in
    let same : to_z w64 (of_z w64 c.args.change) ≡ c.args.change = omega (arith, ints) in
    let kept : to_z w64 (of_z w64 v) ≡ v = omega (arith, ints) in
    let change : v ≡ c.args.change = c.requires.change o.result v o.ensures.kind o.ensures.numbers c.in_ok-value.ensures in
    let below : IsUnder c.args.limit c.args.change = rw same at (c.if-not-is_under.ensures.0 refl) in
    rw kept (best_is (problem_of c.args.trees.now) (visits_of c.args.trees.now) c.args.kind c.args.limit o.result v (f.route ∷ f.position ∷ f.length ∷ s.route ∷ s.position ∷ []) s.length refl
    o.ensures.kind o.ensures.numbers c.in_ok-value.ensures (subst (IsUnder c.args.limit) (sym change) below))

pub returns-in_err-value : goal.returns-in_err-value
returns-in_err-value c =
    let f = c.args.first.now in
    let s = c.args.second.now in
    let o = c.candidate_of-candidate in
    rw c.from_residual.ensures (none_of_one (problem_of c.args.trees.now) (visits_of c.args.trees.now) c.args.kind c.args.limit (f.route ∷ f.position ∷ f.length ∷ s.route ∷ s.position ∷ []) s.length refl
    (λ n u e is h below. c.in_err-value.ensures u
    (subst (λ m. HasValue (problem_of c.args.trees.now) (visits_of c.args.trees.now) m u) (same_move n o.result (e ∙ sym o.ensures.kind) (is ∙ sym o.ensures.numbers)) h)))
