-- Why prices give no value, where the labeller gave no answer.
use Rattle.labelling.specs.declared.fault.LabelFault.{LabelFault}
use Rattle.labelling.specs.declared.fault.LabelFault.TheVariants as label
use Rattle.prices.specs.declared.fault.PriceFault.{PriceFault}
use Rattle.prices.specs.declared.fault.PriceFault.TheVariants as price

abbrev pub fault_of : LabelFault → PriceFault
fault_of label.Memory = price.Memory
fault_of label.LabelLimit = price.LabelLimit
