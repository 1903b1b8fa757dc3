-- What contracts see of a certificate, and the lines of its text.
use Rattle.std.specs.Prelude.{ℕ, List, [], ◌∷◌, ◌++◌, codes, decimal, map}
use Rattle.std.specs.Fmt.{signed_decimal}
use Rattle.std.specs.List.{flat_map}
use Rattle.tenths.specs.Text.{tenths_text, spaced, line}
use Rattle.solomon_reader.specs.SetPrices as prices
use Rattle.solomon_reader.specs.SubsetRows as priced
use Rattle.solomon_reader.specs.Bound.{version_1, version_2, with_sets, with_rows, listed_sets, listed_rows, Node, leaf_node, split_node}
use Rattle.solomon_reader.specs.Bound as shared
use Rattle.solomon_reader.specs.CertificateText.{Content, version_text}
use Rattle.certificate.specs.declared.parts.CertParts.{CertParts}
use Rattle.certificate.specs.declared.version.Version.{Version}
use Rattle.certificate.specs.declared.version.Version.TheVariants.{One, Two, WithSets, WithRows}
use Rattle.certificate.specs.declared.version.PricedLines.{PricedLines}
use Rattle.certificate.specs.declared.version.PricedLines.TheVariants.{Customers, Sets, Rows}
use Rattle.certificate.specs.declared.sets.ListedSet.{ListedSet}
use Rattle.certificate.specs.declared.rows.SubsetRow.{SubsetRow}
use Rattle.certificate.specs.Tree.{nodes_of}
use Rattle.certificate.specs.Reading.{priced_lines}

-- what contracts see of a set
abbrev pub listed_set_of : ListedSet → prices.ListedSet
listed_set_of s = record { members = s.members.items; need = s.need }

-- what contracts see of a row
abbrev pub row_of : SubsetRow → priced.SubsetRow
row_of s = record { first = s.first; second = s.second; third = s.third }

-- what contracts see of a version
abbrev pub version_of : Version → shared.Version
version_of One = version_1
version_of Two = version_2
version_of (WithSets sets) = with_sets (map listed_set_of sets.items)
version_of (WithRows sets rows) = with_rows (map listed_set_of sets.items) (map row_of rows.items)

-- what contracts see of the parts
abbrev pub content_of : CertParts → Content
content_of c = record { version = version_of c.version; name = c.name.items; size = c.size; neighbours = c.neighbours; bound = c.bound; nodes = nodes_of c.nodes.items }

-- ---- the lines

-- places with their prices, behind a word
abbrev pub placed_text : List ℕ → List prices.SetPrice → List ℕ
placed_text text ms = text ++ flat_map (λ m. spaced (decimal m.0) ++ spaced (decimal m.1)) ms

abbrev pub set_prices_text : List prices.SetPrice → List ℕ
set_prices_text ms = placed_text (codes "M") ms

abbrev pub row_prices_text : List priced.RowPrice → List ℕ
row_prices_text qs = placed_text (codes "Q") qs

-- the lines of a leaf behind that of its customers' prices
abbrev pub priced_texts : PricedLines → List prices.SetPrice → List priced.RowPrice → List (List ℕ)
priced_texts Customers ms qs = []
priced_texts (Sets sets) ms qs = set_prices_text ms ∷ []
priced_texts (Rows sets rows) ms qs = set_prices_text ms ∷ row_prices_text qs ∷ []

-- the lines of a node
abbrev pub node_texts : PricedLines → Node → List (List ℕ)
node_texts lines (leaf_node l) = (codes "P" ++ flat_map spaced (map signed_decimal l.customers)) ∷ priced_texts lines l.sets l.rows
node_texts lines (split_node a) = (codes "S" ++ flat_map spaced (decimal a.0 ∷ decimal a.1 ∷ [])) ∷ []

abbrev pub set_text : prices.ListedSet → List ℕ
set_text s = codes "S" ++ flat_map spaced (decimal s.need ∷ map decimal s.members)

abbrev pub row_text : priced.SubsetRow → List ℕ
row_text s = codes "R" ++ flat_map spaced (decimal s.first ∷ decimal s.second ∷ decimal s.third ∷ [])

-- the lines between the first one and that of the bound
abbrev pub name_lines : Content → List (List ℕ)
name_lines x = (codes "INSTANCE" ++ spaced x.name) ∷ (codes "CUSTOMERS" ++ spaced (decimal x.size)) ∷ (codes "NEIGHBOURS" ++ spaced (decimal x.neighbours)) ∷ []

-- the lines before the nodes
abbrev pub head_lines : Content → List (List ℕ)
head_lines x = version_text x.version ∷ (name_lines x ++ ((codes "BOUND" ++ spaced (tenths_text x.bound)) ∷ (map set_text (listed_sets x.version) ++ (map row_text (listed_rows x.version) ++ (codes "TREE" ∷ [])))))

abbrev pub text_lines : Content → List (List ℕ)
text_lines x = head_lines x ++ (flat_map (node_texts (priced_lines x.version)) x.nodes ++ (codes "END" ∷ []))

abbrev pub content_text : Content → List ℕ
content_text x = flat_map line (text_lines x)
