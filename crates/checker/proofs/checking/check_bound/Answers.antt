use Rattle.std.proofs.Common.{rules, ◌≡◌, refl, ap, ◌∙◌}
use Rattle.solomon_reader.specs.Problem.{customer_count}
use Rattle.solomon_reader.specs.CertificateText.{Content}
use Rattle.checker.proofs.Sets.{is_for, has_needs, are_known}
use Rattle.checker.proofs.checking.check_bound.Goals as goal

pub check_needs-requires-clause-sets : goal.check_needs-requires-clause-sets
check_needs-requires-clause-sets c =
    let p = c.args.instance.now in
    let parts = c.parts-parts.result.now in
    let text = c.parts-parts.ensures.has_text in
    let size : parts.size ≡ customer_count p = search rules in
    are_known p parts text.certificate (c.parts-parts.ensures.value ∙ text.is) c.sets.result.now c.sets.ensures text.shaped size

pub returns-then-ne-2-clause-refused : goal.returns-then-ne-2-clause-refused
returns-then-ne-2-clause-refused c = λ d e.
    let p = c.args.instance.now in
    let parts = c.parts-parts.result.now in
    let is = c.parts-parts.ensures.value ∙ e in
    let name : parts.name.items ≡ p.name = search rules in
    let size : parts.size ≡ customer_count p = search rules in
    let differs : ¬ (parts.bound ≡ c.in-Ok.derived) = search rules in (
      is_for p parts d is name size,
      has_needs p parts d is c.sets.result.now c.sets.ensures c.in_ok-check_needs.ensures.held,
      (rw e at c.in-Ok.ensures.bound) d.tree refl,
      ap (λ (x : Content). x.bound) is,
      differs,
    )

pub returns-in-Err-StateLimit-clause-refused : goal.returns-in-Err-StateLimit-clause-refused
returns-in-Err-StateLimit-clause-refused c = λ d e.
    let p = c.args.instance.now in
    let parts = c.parts-parts.result.now in
    let is = c.parts-parts.ensures.value ∙ e in
    let name : parts.name.items ≡ p.name = search rules in
    let size : parts.size ≡ customer_count p = search rules in
    (is_for p parts d is name size, has_needs p parts d is c.sets.result.now c.sets.ensures c.in_ok-check_needs.ensures.held)

pub returns-else-ne-2-clause-accepted : goal.returns-else-ne-2-clause-accepted
returns-else-ne-2-clause-accepted c = λ d e.
    let p = c.args.instance.now in
    let parts = c.parts-parts.result.now in
    let is = c.parts-parts.ensures.value ∙ e in
    let name : parts.name.items ≡ p.name = search rules in
    let size : parts.size ≡ customer_count p = search rules in
    let same : c.in-Ok.derived ≡ parts.bound = search rules in
    let printed : c.in-Ok.derived ≡ d.bound = same ∙ ap (λ (x : Content). x.bound) is in (
      is_for p parts d is name size,
      has_needs p parts d is c.sets.result.now c.sets.ensures c.in_ok-check_needs.ensures.held,
      rw printed at ((rw e at c.in-Ok.ensures.bound) d.tree refl),
    )
