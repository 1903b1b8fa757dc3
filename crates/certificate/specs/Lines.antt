-- What contracts see of lines.
use Rattle.solomon_reader.specs.Bound.{Node, leaf_node, split_node, of_customers}
use Rattle.tenths.specs.Lines.{Left}
use Rattle.certificate.specs.declared.line.Line.{Line}
use Rattle.certificate.specs.declared.words.NodeLine.{NodeLine}
use Rattle.certificate.specs.declared.words.NodeLine.TheVariants.{Prices, Arc}
use Rattle.certificate.specs.Reading.{Here}

-- a line with what is left behind it
abbrev pub here : Line → Left → Here
here l rest = (l.number, (l.text.now, rest))

-- a node's first line: a leaf has no prices of sets and rows yet
abbrev pub line_of : NodeLine → Node
line_of (Prices prices) = leaf_node (of_customers prices.items)
line_of (Arc from to) = split_node (from, to)
