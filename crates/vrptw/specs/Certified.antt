-- What the solver certifies.
use Rattle.std.specs.Prelude.{◌≡◌, ◌+◌, ◌≤◌}
use Rattle.std.specs.List.{AllByRecursion}
use Rattle.solomon_reader.specs.Problem.{Problem, customer_count}
use Rattle.solomon_reader.specs.Bound.{listed_sets, ceiling_of, IsTreeBound}
use Rattle.solomon_reader.specs.CustomerSets.{IsNeeded}
use Rattle.solomon_reader.specs.CertificateText.{Certificate, IsCertificate, Content, listed}
use Rattle.run_settings.specs.declared.settings.Settings.{Settings}
use Rattle.vrptw.specs.Answers.{IsVersionFor}

-- the contents of a certificate for the instance, with so many neighbours, sets and rows as the settings say: its sets need what they are said to, and its bound is that of its tree
pub record IsCertified (p : Problem) (settings : Settings) (x : Content) : Type 0 where
  pub certificate : Certificate
  pub shaped : IsCertificate certificate
  pub is : x ≡ listed certificate
  pub version : IsVersionFor settings.sets settings.rows certificate.version
  pub name : certificate.name ≡ p.name
  pub size : certificate.size ≡ customer_count p
  pub neighbours : certificate.neighbours ≡ settings.neighbours
  pub needed : AllByRecursion (λ s. IsNeeded p s.members s.need) (listed_sets certificate.version)
  pub is_bound : IsTreeBound certificate.version p settings.neighbours certificate.tree certificate.bound
  pub most : certificate.bound ≤ ceiling_of p + 1
