-- Certificates of a lower bound, their texts, and which texts an instance accepts.
use Rattle.std.specs.Prelude.{◌≡◌, ℕ, ◌+◌, ◌<◌, ◌≤◌, List, [], ◌∷◌, ◌++◌, map, length, ℤ, codes, nat_abs, nat_lt, max, decimal, Bool, ◌&&◌, ◌||◌, ◌==◌, IsTrue}
use Rattle.std.specs.Fmt.{signed_decimal}
use Rattle.std.specs.List.{flat_map, sum_by, AllByRecursion}
use Rattle.tenths.specs.Text.{line, spaced, tenths_text}
use Rattle.tenths.specs.declared.value.TheConstants.{MOST_TENTHS}
use Rattle.solomon_reader.specs.declared.limits.TheConstants.{MOST_CUSTOMERS, MOST_NEIGHBOURS, MOST_PRICE, MOST_LEAVES, MOST_DEPTH, MOST_SETS, MOST_NEED, MOST_ROWS, MOST_ROW_PRICES}
use Rattle.solomon_reader.specs.Problem.{Problem, customer_count}
use Rattle.solomon_reader.specs.Layout.{IsName}
use Rattle.solomon_reader.specs.Region.{Region, IsUndecided, used_child, unused_child, root_region}
use Rattle.solomon_reader.specs.CustomerSets.{IsCustomerSet, IsNeeded}
use Rattle.solomon_reader.specs.SetPrices.{ListedSet, SetPrice}
use Rattle.solomon_reader.specs.SubsetRows.{SubsetRow, RowPrice}
use Rattle.solomon_reader.specs.Bound.{Version, version_1, version_2, with_sets, with_rows, listed_sets, listed_rows, LeafPrices, Tree, leaf, split, Node, preorder, IsTreeBound}

pub record Certificate : Type 0 where
  pub version : Version
  pub name : List ℕ
  pub size : ℕ
  pub neighbours : ℕ
  pub bound : ℕ
  pub tree : Tree

-- how many leaves a tree has
abbrev pub leaf_count : Tree → ℕ
leaf_count (leaf prices) = 1
leaf_count (split a used unused) = leaf_count used + leaf_count unused

-- the greatest number of arcs on a path
abbrev pub depth_of : Tree → ℕ
depth_of (leaf prices) = 0
depth_of (split a used unused) = 1 + max (depth_of used) (depth_of unused)

-- a price in grains
abbrev pub IsPrice : ℤ → Type 0
IsPrice z = nat_abs z ≤ MOST_PRICE

-- a listed set: at least two of the customers 1 to n
pub record IsListedSet (n : ℕ) (s : ListedSet) : Type 0 where
  pub need : (1 ≤ s.need) × (s.need ≤ MOST_NEED)
  pub some : 2 ≤ length s.members
  pub customers : IsCustomerSet n s.members

-- three of the customers 1 to n, in increasing order
pub record IsListedRow (n : ℕ) (s : SubsetRow) : Type 0 where
  pub some : 1 ≤ s.first
  pub rising : (s.first < s.second) × (s.second < s.third)
  pub known : s.third ≤ n

-- one row stands before another by its first customer, then by its second, then by its third
abbrev pub is_before : SubsetRow → SubsetRow → Bool
is_before s t = nat_lt s.first t.first || ((s.first == t.first) && (nat_lt s.second t.second || ((s.second == t.second) && nat_lt s.third t.third)))

-- each row stands before the next
abbrev pub AreInOrder : List SubsetRow → Type 0
AreInOrder [] = Unit {0}
AreInOrder (s ∷ []) = Unit {0}
AreInOrder (s ∷ t ∷ rows) = IsTrue (is_before s t) × AreInOrder (t ∷ rows)

-- what the sets at a leaf are paid together for an entry
abbrev pub set_prices_sum : List SetPrice → ℕ
set_prices_sum prices = sum_by (λ m. m.1) prices

-- what the rows at a leaf charge together
abbrev pub row_prices_sum : List RowPrice → ℕ
row_prices_sum prices = sum_by (λ q. q.1) prices

-- prices of some of this many sets, from a grain on; together with those of rows and a customer's they are within the range of a price
pub record AreSetPrices (sets : ℕ) (prices : LeafPrices) : Type 0 where
  pub numbers : IsCustomerSet sets (map (λ m. m.0) prices.sets)
  pub some : AllByRecursion (λ m. 1 ≤ m.1) prices.sets
  pub within : AllByRecursion (λ z. (set_prices_sum prices.sets + row_prices_sum prices.rows) + nat_abs z ≤ MOST_PRICE) prices.customers

-- prices of a few of this many rows, from a grain on
pub record AreRowPrices (rows : ℕ) (prices : List RowPrice) : Type 0 where
  pub numbers : IsCustomerSet rows (map (λ q. q.0) prices)
  pub some : AllByRecursion (λ q. 1 ≤ q.1) prices
  pub few : length prices ≤ MOST_ROW_PRICES

-- at the region each leaf has a price for each customer, and prices of sets and rows that are listed; each split decides an arc that isn't decided
abbrev pub IsTreeAt : Version → Region → Tree → Type 0
IsTreeAt version g (leaf prices) = (length prices.customers ≡ g.size) × AllByRecursion IsPrice prices.customers × AreSetPrices (length (listed_sets version)) prices × AreRowPrices (length (listed_rows version)) prices.rows
IsTreeAt version g (split a used unused) = IsUndecided g a × (IsTreeAt version (used_child g a) used × IsTreeAt version (unused_child g a) unused)

-- what has a text
pub record IsCertificate (c : Certificate) : Type 0 where
  pub name : IsName c.name
  pub size : (1 ≤ c.size) × (c.size ≤ MOST_CUSTOMERS)
  pub neighbours : c.neighbours ≤ MOST_NEIGHBOURS
  pub bound : c.bound ≤ MOST_TENTHS
  pub listed : AllByRecursion (IsListedSet c.size) (listed_sets c.version)
  pub sets : length (listed_sets c.version) ≤ MOST_SETS
  pub rows_listed : AllByRecursion (IsListedRow c.size) (listed_rows c.version)
  pub in_order : AreInOrder (listed_rows c.version)
  pub rows : length (listed_rows c.version) ≤ MOST_ROWS
  pub tree : IsTreeAt c.version (root_region c.size) c.tree
  pub leaves : leaf_count c.tree ≤ MOST_LEAVES
  pub depth : depth_of c.tree ≤ MOST_DEPTH

-- as `P 100000 -20`
abbrev pub leaf_line : List ℤ → List ℕ
leaf_line prices = line (codes "P" ++ flat_map (λ z. spaced (signed_decimal z)) prices)

-- as `S 0 4`
abbrev pub split_line : ℕ × ℕ → List ℕ
split_line a = line (codes "S" ++ spaced (decimal a.0) ++ spaced (decimal a.1))

-- as `M 1 5000 4 20`: numbers of sets, each with its price
abbrev pub set_prices_line : List SetPrice → List ℕ
set_prices_line prices = line (codes "M" ++ flat_map (λ m. spaced (decimal m.0) ++ spaced (decimal m.1)) prices)

-- as `Q 2 700`: numbers of rows, each with its price
abbrev pub row_prices_line : List RowPrice → List ℕ
row_prices_line prices = line (codes "Q" ++ flat_map (λ q. spaced (decimal q.0) ++ spaced (decimal q.1)) prices)

-- the prices of a leaf: where sets or rows may have some, theirs stand on lines of their own
abbrev pub leaf_lines : Version → LeafPrices → List ℕ
leaf_lines version_1 prices = leaf_line prices.customers
leaf_lines version_2 prices = leaf_line prices.customers
leaf_lines (with_sets sets) prices = leaf_line prices.customers ++ set_prices_line prices.sets
leaf_lines (with_rows sets rows) prices = leaf_line prices.customers ++ set_prices_line prices.sets ++ row_prices_line prices.rows

-- the nodes of a tree in preorder, the tree where the arc is used first
abbrev pub node_lines : Version → Tree → List ℕ
node_lines version (leaf prices) = leaf_lines version prices
node_lines version (split a used unused) = split_line a ++ node_lines version used ++ node_lines version unused

-- as `S 2 3 5 8`: the need, and the customers
abbrev pub set_line : ListedSet → List ℕ
set_line s = line (codes "S" ++ spaced (decimal s.need) ++ flat_map (λ i. spaced (decimal i)) s.members)

-- as `R 2 5 7`: the three customers
abbrev pub row_line : SubsetRow → List ℕ
row_line s = line (codes "R" ++ spaced (decimal s.first) ++ spaced (decimal s.second) ++ spaced (decimal s.third))

-- how a text of the version begins
abbrev pub version_text : Version → List ℕ
version_text version_1 = codes "VRPTW-CERT 1"
version_text version_2 = codes "VRPTW-CERT 2"
version_text (with_sets sets) = codes "VRPTW-SETS 1"
version_text (with_rows sets rows) = codes "VRPTW-ROWS 1"

abbrev pub first_line : Version → List ℕ
first_line version = line (version_text version)

-- the lines before the nodes
abbrev pub head_lines : Certificate → List ℕ
head_lines c = first_line c.version ++ line (codes "INSTANCE " ++ c.name) ++ line (codes "CUSTOMERS " ++ decimal c.size)
    ++ line (codes "NEIGHBOURS " ++ decimal c.neighbours) ++ line (codes "BOUND " ++ tenths_text c.bound)
    ++ flat_map set_line (listed_sets c.version) ++ flat_map row_line (listed_rows c.version) ++ line (codes "TREE")

abbrev pub certificate_text : Certificate → List ℕ
certificate_text c = head_lines c ++ node_lines c.version c.tree ++ line (codes "END")

-- what a certificate holds, its tree as a list of nodes
pub record Content : Type 0 where
  pub version : Version
  pub name : List ℕ
  pub size : ℕ
  pub neighbours : ℕ
  pub bound : ℕ
  pub nodes : List Node

-- a certificate with its tree as a list
abbrev pub listed : Certificate → Content
listed c = record { version = c.version; name = c.name; size = c.size; neighbours = c.neighbours; bound = c.bound; nodes = preorder c.tree }

-- these are the contents of a certificate, so they have a text
pub record HasText (x : Content) : Type 0 where
  pub certificate : Certificate
  pub shaped : IsCertificate certificate
  pub is : x ≡ listed certificate

-- the text is that of a certificate with these contents
pub record IsCertificateText (text : List ℕ) (x : Content) : Type 0 where
  pub certificate : Certificate
  pub shaped : IsCertificate certificate
  pub is : x ≡ listed certificate
  pub spelled : text ≡ certificate_text certificate

-- The instance accepts the text: it is that of a certificate with the instance's name and size, whose sets need what they are said to, and with the bound of its tree.
pub record IsAccepted (p : Problem) (text : List ℕ) : Type 0 where
  pub certificate : Certificate
  pub shaped : IsCertificate certificate
  pub spelled : text ≡ certificate_text certificate
  pub name : certificate.name ≡ p.name
  pub size : certificate.size ≡ customer_count p
  pub needed : AllByRecursion (λ s. IsNeeded p s.members s.need) (listed_sets certificate.version)
  pub is_bound : IsTreeBound certificate.version p certificate.neighbours certificate.tree certificate.bound
