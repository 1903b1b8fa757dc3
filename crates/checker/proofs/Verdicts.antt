-- What verdicts and refusals say of the texts, and of every plan: why routes are refused, and the verdict on three texts from what was found of each.
use Rattle.std.proofs.Common.{◌≡◌, ℕ, zero, suc, List, [], ◌∷◌, arith, refl, ap, subst, inl, inr, sym, ◌∙◌}
use Rattle.std.specs.Prelude.{◌≢◌, Option, None, Some, option_map, option_copied, Result, Ok, Err, IfOk, IfErr, ◌⊎◌}
use Rattle.std.proofs.lemmas.Bool.{cases_lt}
use Rattle.solomon_reader.specs.Problem.{Problem, customer_count}
use Rattle.solomon_reader.specs.Plan.{IsPlan, plan_cost}
use Rattle.solomon_reader.proofs.Planning.{no_plan}
use denote.Bor.{Bor}
use Rattle.sol_writer.specs.declared.sol.Sol.{Sol}
use Rattle.sol_writer.specs.Text.{view}
use Rattle.solomon_reader.specs.Layout.{IsInstance}
use Rattle.std.specs.List.{AllByRecursion}
use Rattle.solomon_reader.specs.CustomerSets.{IsNeeded}
use Rattle.solomon_reader.specs.SetPrices.{ListedSet, AreTrueNeeds}
use Rattle.solomon_reader.specs.Bound.{listed_sets}
use Rattle.solomon_reader.specs.CertificateText.{Certificate, Content, IsAccepted, IsListedSet, IsCertificateText, listed}
use Rattle.solomon_reader.specs.Words.{words}
use Rattle.solomon_reader.specs.Reading.{reading}
use Rattle.solomon_reader.specs.declared.fault.ReadFault.{ReadFault}
use Rattle.solomon_reader.specs.declared.fault.ReadFault.TheVariants as read
use Rattle.solomon_reader.specs.DualityLaws.{tree_bound_holds, no_plan_above}
use Rattle.solomon_reader.proofs.Takes.{reading_again}
use Rattle.solomon_reader.proofs.Bounds.{one_tree_bound}
use Rattle.checker.specs.declared.fault.CheckFault.{CheckFault}
use Rattle.checker.specs.declared.verdict.Verdict.{Verdict}
use Rattle.checker.specs.Checking.{Texts, Spelled, IsSolutionOf, AreTextsOf, IsFor, HasNeeds, HasBound, Judges, RefusesBound, RefusesSolution, Refuses, Checks, IsRight, IsRightSolution, Means}
use Rattle.checker.specs.Checking.{IsFaultOfReader, RefusesInstance, RefusesCertificate, RefusesSolutionText, RefusesTexts, RefusesPlan, RefusesContents, RefusesTree}
use Rattle.checker.specs.Needs.{IsNeededAt}
use Rattle.checker.specs.declared.verdict.Verdict.TheVariants.{Best, Gap, NoPlan, BoundOnly}
use Rattle.checker.specs.declared.fault.CheckFault.TheVariants as fault
use Rattle.certificate.specs.Reading as certificate_reading
use Rattle.certificate.proofs.Again as certificate
use Rattle.sol_writer.proofs.Again as solution

-- ---- The verdict on three texts, from what was found of each.

-- the first text is no instance
pub instance_refused : (t : Texts) (f : ReadFault) (e : CheckFault) → IsFaultOfReader f e → (f ≢ read.Memory → reading (words t.instance) ≡ Err f) → Refuses t e
instance_refused t f e (inl (is, told)) h = rw told (inl (inl tt))
instance_refused t f e (inr (other, told)) h = rw told (inl (inl (h other, other)))

module _ (t : Texts) (p : Problem) (x : Content) (s : Option Spelled) (instance : IsInstance t.instance p) (text : IsCertificateText t.certificate x) (is_solution : IsSolutionOf t.solution s) where
  are_texts : AreTextsOf t p text.certificate s
  are_texts = record { instance = instance; shaped = text.shaped; spelled = text.spelled; solution = is_solution }

  -- the certificate is refused
  pub bound_refused : (e : CheckFault) → ((c : Certificate) → x ≡ listed c → RefusesBound p c e) → Refuses t e
  bound_refused e h = inr (record { problem = p; contents = text.certificate; solution = s; are = are_texts; refused = inl (h text.certificate text.is) })

  module _ (accepted : (c : Certificate) → x ≡ listed c → IsFor p c × HasNeeds p c × HasBound p c c.bound) where
    -- the certificate is accepted, and the solution judged
    pub judged : (r : Result Verdict CheckFault) → IfOk r (Judges p x.bound s) → IfErr r (RefusesSolution p s) → Checks t r
    judged (Ok v) ok err =
        let good = accepted text.certificate text.is in
        (p, text.certificate, s, are_texts, good.0, good.1, good.2, subst (λ (b : ℕ). Judges p b s v) (ap (λ (y : Content). y.bound) text.is) ok)
    judged (Err e) ok err =
        let good = accepted text.certificate text.is in
        inr (record { problem = p; contents = text.certificate; solution = s; are = are_texts; refused = inr (record { fits = good.0; needed = good.1; bound = good.2; refused = err }) })

-- ---- The text of a certificate alone, from what was found of it.

module _ (p : Problem) (text : List ℕ) (x : Content) (is : IsCertificateText text x) where
  pub tree_accepted : ((c : Certificate) → x ≡ listed c → IsFor p c × HasNeeds p c × HasBound p c c.bound) → (a : IsAccepted p text) × (x ≡ listed a.certificate)
  tree_accepted h =
      let good = h is.certificate is.is in (
        record {
          certificate = is.certificate;
          shaped = is.shaped;
          spelled = is.spelled;
          name = good.0.name;
          size = good.0.size;
          needed = good.1;
          is_bound = good.2;
        },
        is.is,
      )

  pub tree_refused : (e : CheckFault) → ((c : Certificate) → x ≡ listed c → RefusesBound p c e) → RefusesTree p text e
  tree_refused e h = inr (is.certificate, is.shaped, is.spelled, h is.certificate is.is)

-- what is lent of a solution is what is had
pub lent : (r : Option (Bor Sol)) (o : Option Sol) → option_copied r ≡ o → option_map (λ s. view s.now) r ≡ option_map view o
lent r o e = subst (λ (x : Option Sol). option_map (λ s. view s.now) r ≡ option_map view x) e (each r)
  where
    each : (r : Option (Bor Sol)) → option_map (λ s. view s.now) r ≡ option_map view (option_copied r)
    each None = refl
    each (Some s) = refl

-- ---- What verdicts and refusals say of the texts, and of every plan.

-- memory or the states don't suffice
abbrev IsLimit : CheckFault → Type 0
IsLimit fault.Memory = Unit {0}
IsLimit fault.StateLimit = Unit {0}
IsLimit e = ⊥

limit_or_not : (e : CheckFault) → (e ≡ fault.Memory) ⊎ ((e ≡ fault.StateLimit) ⊎ (¬ IsLimit e))
limit_or_not fault.Memory = inl refl
limit_or_not fault.StateLimit = inr (inl refl)
limit_or_not fault.OtherName = inr (inr (λ h. h))
limit_or_not fault.OtherSize = inr (inr (λ h. h))
limit_or_not (fault.NeedTooGreat line) = inr (inr (λ h. h))
limit_or_not (fault.BoundDiffers printed derived) = inr (inr (λ h. h))
limit_or_not (fault.Instance f) = inr (inr (λ h. h))
limit_or_not (fault.Certificate f) = inr (inr (λ h. h))
limit_or_not (fault.Solution f) = inr (inr (λ h. h))
limit_or_not (fault.PlanRefused why) = inr (inr (λ h. h))
limit_or_not (fault.CostDiffers printed real) = inr (inr (λ h. h))

ok_is_not_err : {A B : Type 0} (r : Result A B) (x : A) (y : B) → r ≡ Ok x → r ≡ Err y → ⊥
ok_is_not_err {A = A} {B = B} r x y e f = let P : Result A B → Type 0 = λ z. IfOk z (λ _. ⊥) in subst P e (subst P (sym f) tt)

ok_is : {A B : Type 0} (r : Result A B) (x y : A) → r ≡ Ok x → r ≡ Ok y → x ≡ y
ok_is {A = A} {B = B} r x y e f = subst (λ (z : Result A B). IfOk z (λ w. x ≡ w)) f (subst (λ (z : Result A B). IfOk z (λ w. x ≡ w)) (sym e) refl)

one_problem : (text : List ℕ) (p q : Problem) → IsInstance text p → IsInstance text q → p ≡ q
one_problem text p q a b = ok_is _ p q (reading_again (words text) p a.0 a.1) (reading_again (words text) q b.0 b.1)

-- each set of a list needs what it is said to, and what stands behind the list needs nothing
needed_at : (p : Problem) (sets : List ListedSet) (m : ℕ) → AllByRecursion (λ s. IsNeeded p s.members s.need) sets → IsNeededAt p sets m
needed_at p [] m are = inl (omega arith)
needed_at p (s ∷ sets) zero are = are.0
needed_at p (s ∷ sets) (suc m) are = needed_at p sets m are.1

-- ---- what is right, seen from what was read

module _ (t : Texts) (p : Problem) (c : Certificate) (s : Option Spelled) (are : AreTextsOf t p c s) (right : IsRight t) where
  same_problem : right.problem ≡ p
  same_problem = one_problem t.instance right.problem p right.instance are.instance

  same_certificate : right.accepted.certificate ≡ c
  same_certificate = certificate.texts_differ right.accepted.certificate c right.accepted.shaped are.shaped (sym right.accepted.spelled ∙ are.spelled)

  right_name : c.name ≡ p.name
  right_name = sym (ap (λ (x : Certificate). x.name) same_certificate) ∙ right.accepted.name ∙ ap (λ (q : Problem). q.name) same_problem

  right_size : c.size ≡ customer_count p
  right_size = sym (ap (λ (x : Certificate). x.size) same_certificate) ∙ right.accepted.size ∙ ap customer_count same_problem

  right_bound : HasBound p c c.bound
  right_bound = subst (λ (q : Problem). HasBound q c c.bound) same_problem (subst (λ (x : Certificate). HasBound right.problem x x.bound) same_certificate right.accepted.is_bound)

  right_needs : HasNeeds p c
  right_needs = subst (λ (q : Problem). HasNeeds q c) same_problem (subst (λ (x : Certificate). HasNeeds right.problem x) same_certificate right.accepted.needed)

  bound_wrong : (e : CheckFault) → RefusesBound p c e → IsLimit e
  bound_wrong fault.Memory h = tt
  bound_wrong fault.StateLimit h = tt
  bound_wrong fault.OtherName h = absurd (h right_name)
  bound_wrong fault.OtherSize h = absurd (h.1 right_size)
  bound_wrong (fault.NeedTooGreat line) h = absurd (h.1.less (needed_at p (listed_sets c.version) h.1.place right_needs))
  bound_wrong (fault.BoundDiffers printed derived) h = absurd (h.4 (h.3 ∙ one_tree_bound c.version p c.neighbours c.tree c.bound derived right_bound h.2))
  bound_wrong (fault.Instance f) h = absurd h
  bound_wrong (fault.Certificate f) h = absurd h
  bound_wrong (fault.Solution f) h = absurd h
  bound_wrong (fault.PlanRefused why) h = absurd h
  bound_wrong (fault.CostDiffers printed real) h = absurd h

module _ (p : Problem) where
  -- a solution that is read, and is that of a plan and its cost
  plan_wrong : (text : Option (List ℕ)) (s : Option Spelled) → IsSolutionOf text s → IsRightSolution p text → (e : CheckFault) → RefusesSolution p s e → IsLimit e
  plan_wrong None None is right e h = absurd h
  plan_wrong None (Some s) is right e h = absurd is
  plan_wrong (Some text) None is right e h = absurd is
  plan_wrong (Some text) (Some s) is right fault.Memory h = tt
  plan_wrong (Some text) (Some s) is right (fault.PlanRefused why) h =
      let same = solution.texts_differ right.0 s.0 (plan_cost p right.0) s.1 right.2.shaped is.shaped (sym right.2.spelled ∙ is.spelled) in
      absurd (no_plan p s.0 why h (subst (λ (routes : List (List ℕ)). IsPlan p routes) same.0 right.1))
  plan_wrong (Some text) (Some s) is right (fault.CostDiffers printed real) h =
      let same = solution.texts_differ right.0 s.0 (plan_cost p right.0) s.1 right.2.shaped is.shaped (sym right.2.spelled ∙ is.spelled) in
      absurd (h.3 (h.1 ∙ sym same.1 ∙ ap (plan_cost p) same.0 ∙ sym h.2))
  plan_wrong (Some text) (Some s) is right fault.StateLimit h = absurd h
  plan_wrong (Some text) (Some s) is right fault.OtherName h = absurd h
  plan_wrong (Some text) (Some s) is right fault.OtherSize h = absurd h
  plan_wrong (Some text) (Some s) is right (fault.NeedTooGreat line) h = absurd h
  plan_wrong (Some text) (Some s) is right (fault.BoundDiffers printed derived) h = absurd h
  plan_wrong (Some text) (Some s) is right (fault.Instance f) h = absurd h
  plan_wrong (Some text) (Some s) is right (fault.Certificate f) h = absurd h
  plan_wrong (Some text) (Some s) is right (fault.Solution f) h = absurd h

  -- a text that is none of a solution
  text_wrong : (text : Option (List ℕ)) → IsRightSolution p text → (e : CheckFault) → RefusesSolutionText text e → IsLimit e
  text_wrong None right e h = absurd h
  text_wrong (Some text) right fault.Memory h = tt
  text_wrong (Some text) right (fault.Solution f) h =
      absurd (ok_is_not_err _ _ f (solution.reading_again text right.0 (plan_cost p right.0) right.2.shaped right.2.spelled) h.0)
  text_wrong (Some text) right fault.StateLimit h = absurd h
  text_wrong (Some text) right fault.OtherName h = absurd h
  text_wrong (Some text) right fault.OtherSize h = absurd h
  text_wrong (Some text) right (fault.NeedTooGreat line) h = absurd h
  text_wrong (Some text) right (fault.BoundDiffers printed derived) h = absurd h
  text_wrong (Some text) right (fault.Instance f) h = absurd h
  text_wrong (Some text) right (fault.Certificate f) h = absurd h
  text_wrong (Some text) right (fault.PlanRefused why) h = absurd h
  text_wrong (Some text) right (fault.CostDiffers printed real) h = absurd h

module _ (t : Texts) (right : IsRight t) where
  instance_wrong : (e : CheckFault) → RefusesInstance t.instance e → IsLimit e
  instance_wrong fault.Memory h = tt
  instance_wrong (fault.Instance f) h = absurd (ok_is_not_err _ _ f (reading_again (words t.instance) right.problem right.instance.0 right.instance.1) h.0)
  instance_wrong fault.StateLimit h = absurd h
  instance_wrong fault.OtherName h = absurd h
  instance_wrong fault.OtherSize h = absurd h
  instance_wrong (fault.NeedTooGreat line) h = absurd h
  instance_wrong (fault.BoundDiffers printed derived) h = absurd h
  instance_wrong (fault.Solution f) h = absurd h
  instance_wrong (fault.Certificate f) h = absurd h
  instance_wrong (fault.PlanRefused why) h = absurd h
  instance_wrong (fault.CostDiffers printed real) h = absurd h

  certificate_wrong : (e : CheckFault) → RefusesCertificate t.certificate e → IsLimit e
  certificate_wrong fault.Memory h = tt
  certificate_wrong (fault.Certificate f) h =
      absurd (ok_is_not_err _ _ f (ap certificate_reading.reading right.accepted.spelled ∙ certificate.reading_again right.accepted.certificate right.accepted.shaped) h.0)
  certificate_wrong fault.StateLimit h = absurd h
  certificate_wrong fault.OtherName h = absurd h
  certificate_wrong fault.OtherSize h = absurd h
  certificate_wrong (fault.NeedTooGreat line) h = absurd h
  certificate_wrong (fault.BoundDiffers printed derived) h = absurd h
  certificate_wrong (fault.Instance f) h = absurd h
  certificate_wrong (fault.Solution f) h = absurd h
  certificate_wrong (fault.PlanRefused why) h = absurd h
  certificate_wrong (fault.CostDiffers printed real) h = absurd h

  right_here : (p : Problem) → IsInstance t.instance p → IsRightSolution p t.solution
  right_here p is = subst (λ (q : Problem). IsRightSolution q t.solution) (one_problem t.instance right.problem p right.instance is) right.solution

  contents_wrong : (e : CheckFault) (r : RefusesContents t e) → RefusesBound r.problem r.contents e ⊎ RefusesPlan r.problem r.contents r.solution e → IsLimit e
  contents_wrong e r (inl h) = bound_wrong t r.problem r.contents r.solution r.are right e h
  contents_wrong e r (inr h) = plan_wrong r.problem t.solution r.solution r.are.solution (right_here r.problem r.are.instance) e h.refused

  texts_wrong : (e : CheckFault) → RefusesTexts t e → IsLimit e
  texts_wrong e (inl h) = instance_wrong e h
  texts_wrong e (inr (inl h)) = certificate_wrong e h.2
  texts_wrong e (inr (inr h)) = text_wrong h.0.problem t.solution (right_here h.0.problem h.0.instance) e h.1

  wrong_here : (e : CheckFault) → Refuses t e → IsLimit e
  wrong_here e (inl h) = texts_wrong e h
  wrong_here e (inr h) = contents_wrong e h h.refused

-- texts that are refused aren't right, unless memory or the states didn't suffice
pub not_right : (t : Texts) (r : Result Verdict CheckFault) → Checks t r → IfErr r (λ e. (e ≡ fault.Memory) ⊎ ((e ≡ fault.StateLimit) ⊎ (¬ IsRight t)))
not_right t (Ok v) h = tt
not_right t (Err e) h = elim (limit_or_not e) [
  | inl memory ↦ inl memory
  | inr (inl states) ↦ inr (inl states)
  | inr (inr other) ↦ inr (inr (λ right. other (wrong_here t right e h)))
]

-- ---- what a verdict means

-- sets of customers that are needed have true needs
true_needs : (p : Problem) (n : ℕ) (sets : List ListedSet) → n ≡ customer_count p → AllByRecursion (IsListedSet n) sets → AllByRecursion (λ s. IsNeeded p s.members s.need) sets → AreTrueNeeds p sets
true_needs p n [] same listed needed = tt
true_needs p n (s ∷ sets) same listed needed = (record { set = rw same at listed.0.customers; needed = needed.0 }, true_needs p n sets same listed.1 needed.1)

judged_means : (p : Problem) (c : Certificate) (s : Option Spelled) (v : Verdict) → AreTrueNeeds p (listed_sets c.version) → HasBound p c c.bound → Judges p c.bound s v → Means p v
judged_means p c None NoPlan needs bound h = λ routes plan. no_plan_above c.version p c.neighbours c.tree routes needs (subst (λ (b : ℕ). HasBound p c b) h bound) plan
judged_means p c None (BoundOnly told) needs bound h = λ routes plan. omega (arith, h.0, tree_bound_holds c.version p c.neighbours c.tree c.bound routes needs bound plan)
judged_means p c None (Best cost) needs bound h = absurd h
judged_means p c None (Gap cost told) needs bound h = absurd h
judged_means p c (Some s) (Best cost) needs bound h = (
  record { routes = s.0; plan = h.0; exact = h.2 ∙ h.1 },
  λ routes plan. omega (arith, h.2, h.3, tree_bound_holds c.version p c.neighbours c.tree c.bound routes needs bound plan),
)
judged_means p c (Some s) (Gap cost told) needs bound h = (
  record { routes = s.0; plan = h.0; exact = h.2 ∙ h.1 },
  λ routes plan. omega (arith, h.3, tree_bound_holds c.version p c.neighbours c.tree c.bound routes needs bound plan),
  elim (cases_lt told cost) [
    | inl below ↦ below
    | inr above ↦ absurd (h.4 (omega (arith, h.1, h.2, h.3, tree_bound_holds c.version p c.neighbours c.tree c.bound s.0 needs bound h.0)))
  ],
)
judged_means p c (Some s) NoPlan needs bound h = absurd h
judged_means p c (Some s) (BoundOnly told) needs bound h = absurd h

-- what a verdict says of every plan
pub means_here : (t : Texts) (r : Result Verdict CheckFault) → Checks t r → IfOk r (λ v. (p : Problem) → IsInstance t.instance p → Means p v)
means_here t (Err e) h = tt
means_here t (Ok v) h = λ p is.
    let needs = true_needs h.0 h.1.size (listed_sets h.1.version) h.4.size h.3.shaped.listed h.5 in
    subst (λ (q : Problem). Means q v) (one_problem t.instance h.0 p h.3.instance is) (judged_means h.0 h.1 h.2 v needs h.6 h.7)
