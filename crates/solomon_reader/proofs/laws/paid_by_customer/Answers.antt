use Rattle.solomon_reader.specs.PaidLaws.{reduced_by_customer}
use Rattle.solomon_reader.proofs.laws.paid_by_customer.Goals as goal

pub returns : goal.returns
returns c = reduced_by_customer
