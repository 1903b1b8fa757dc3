-- Why a tree wasn't grown, where the labeller gave no answer.
use Rattle.labelling.specs.declared.fault.LabelFault.{LabelFault}
use Rattle.labelling.specs.declared.fault.LabelFault.TheVariants as label
use Rattle.given_tree.specs.declared.fault.ReplayFault.{ReplayFault}
use Rattle.given_tree.specs.declared.fault.ReplayFault.TheVariants as replay

abbrev pub fault_of : LabelFault → ReplayFault
fault_of label.Memory = replay.Memory
fault_of label.LabelLimit = replay.LabelLimit
