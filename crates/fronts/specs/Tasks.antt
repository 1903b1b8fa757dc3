-- What a task is to price.
use Rattle.solomon_reader.specs.States.{Pricing}
use Rattle.fronts.specs.Payments.{pricing_for}
use Rattle.fronts.specs.declared.task.Task.{Task}

abbrev pub pricing_of : Task → Pricing
pricing_of t = pricing_for t.instance.now t.region.now t.neighbours t.payment
