-- Reading a certificate line by line, with the first fault that is met.
use Rattle.std.specs.Prelude.{ℕ, zero, suc, ◌+◌, ◌-◌, ◌^◌, min, Bool, true, false, List, [], ◌∷◌, ◌++◌, length, map, Option, Some, None, codes, Result, Ok, Err, nat_le, nat_lt, ◌==◌, ◌&&◌, if◌then◌else◌, ℤ, nat_abs}
use Rattle.std.specs.List.{list_all, list_any}
use Rattle.std.specs.Option.{option_map}
use Rattle.std.specs.Str.{bytes_eq}
use Rattle.tenths.specs.Reading.{◌>>=◌, check, value_or, GivesUnless}
use Rattle.tenths.specs.Parts.{parts}
use Rattle.tenths.specs.Lines.{Left, line_at, is_end}
use Rattle.tenths.specs.Numbers.{number_of, signed_of, tenths_of, capped, clamped}
use Rattle.certificate.specs.declared.fault.CertFault.{CertFault}
use Rattle.certificate.specs.declared.fault.CertFault.TheVariants.{Memory, BadLine, Truncated, Extra, BadArc, ArcDecided, PriceRange, TooDeep, TooManyLeaves, NeedRange, BadSet, TooManySets, BadRow, TooManyRows}
use Rattle.solomon_reader.specs.declared.limits.TheConstants.{MOST_NAME, MOST_CUSTOMERS, MOST_NEIGHBOURS, MOST_PRICE, MOST_LEAVES, MOST_DEPTH, MOST_SETS, MOST_NEED, MOST_ROWS, MOST_ROW_PRICES}
use Rattle.solomon_reader.specs.Words.{is_letter}
use Rattle.solomon_reader.specs.Plan.{Arc}
use Rattle.solomon_reader.specs.SetPrices.{ListedSet, SetPrice}
use Rattle.solomon_reader.specs.SubsetRows.{SubsetRow, RowPrice}
use Rattle.solomon_reader.specs.Bound.{Version, version_1, version_2, with_sets, with_rows, of_customers, Node, leaf_node, split_node}
use Rattle.solomon_reader.specs.CertificateText.{Content, version_text, is_before, set_prices_sum}
use Rattle.certificate.specs.declared.version.PricedLines.{PricedLines}
use Rattle.certificate.specs.declared.version.PricedLines.TheVariants.{Customers, Sets, Rows}

-- What a function returned, seen by view, is what reading gives, unless memory ran out.
abbrev pub Gives : {X Y : Type 0} → (X → Y) → Result X CertFault → Result Y CertFault → Type 0
Gives view result read = GivesUnless Memory view result read

-- the next line
abbrev pub next_at : Left → Result (List ℕ × Left) CertFault
next_at left = value_or Truncated (line_at left)

-- ---- a line

-- a line: its number, its bytes, and what is left behind it
abbrev pub Here : Type 0
Here = ℕ × (List ℕ × Left)

unfoldable pub line_from : Left → Result Here CertFault
line_from st = do
  l ← next_at st
  Ok (st.0, l)

-- the first word of a line is this one
abbrev pub begins : List ℕ → List (List ℕ) → Bool
begins text [] = false
begins text (w ∷ ws) = bytes_eq w text

-- ---- numbers of customers, of sets and of rows

-- cut, above each customer, each set and each row
abbrev pub small : ℕ → ℕ
small m = min (capped m) 65535

-- the words of a line that are left are canonical numbers
unfoldable pub members_at : ℕ → List (List ℕ) → Result (List ℕ) CertFault
members_at k [] = Ok []
members_at k (w ∷ ws) = do
  i ← value_or (BadLine k) (option_map small (number_of w))
  members ← members_at k ws
  Ok (i ∷ members)

-- each is above the one before, the first above low, and none above most
abbrev pub is_rising : ℕ → ℕ → List ℕ → Bool
is_rising low most [] = true
is_rising low most (i ∷ s) = nat_lt low i && nat_le i most && is_rising i most s

-- ---- a leaf

-- the words of a line that are left are canonical signed numbers
unfoldable pub signed_at : ℕ → List (List ℕ) → Result (List ℤ) CertFault
signed_at k [] = Ok []
signed_at k (w ∷ ws) = do
  z ← value_or (BadLine k) (option_map clamped (signed_of w))
  zs ← signed_at k ws
  Ok (z ∷ zs)

abbrev pub is_price : ℤ → Bool
is_price z = nat_le (nat_abs z) MOST_PRICE

-- the prices of a leaf: first the words, then how many, then their range
unfoldable pub prices_at : ℕ → ℕ → List (List ℕ) → Result (List ℤ) CertFault
prices_at n k ws = do
  zs ← signed_at k ws
  some ← check (length zs == n) (BadLine k) zs
  check (list_all is_price some) (PriceRange k) some

-- whose prices the lines of a leaf tell
abbrev pub priced_lines : Version → PricedLines
priced_lines version_1 = Customers
priced_lines version_2 = Customers
priced_lines (with_sets sets) = Sets (length sets)
priced_lines (with_rows sets rows) = Rows (length sets) (length rows)

-- out of how many sets, and out of how many rows
abbrev pub set_count : PricedLines → ℕ
set_count Customers = 0
set_count (Sets sets) = sets
set_count (Rows sets rows) = sets

abbrev pub row_count : PricedLines → ℕ
row_count Customers = 0
row_count (Sets sets) = 0
row_count (Rows sets rows) = rows

-- the words of a line that are left are canonical numbers in pairs: places of sets or of rows, with their prices
unfoldable pub pairs_at : ℕ → List (List ℕ) → Result (List SetPrice) CertFault
pairs_at k [] = Ok []
pairs_at k (v ∷ []) = Err (BadLine k)
pairs_at k (v ∷ w ∷ ws) = do
  i ← value_or (BadLine k) (option_map small (number_of v))
  m ← value_or (BadLine k) (option_map capped (number_of w))
  pairs ← pairs_at k ws
  Ok ((i, m) ∷ pairs)

-- places in a list of this length, in increasing order
abbrev pub are_listed : ℕ → List SetPrice → Bool
are_listed most ms = is_rising 0 most (map (λ m. m.0) ms)

-- each price is a grain or more
abbrev pub are_small : List SetPrice → Bool
are_small ms = list_all (λ m. nat_le 1 m.1 && nat_le m.1 MOST_PRICE) ms

-- and together, beside so much, they are within the range of a price beside each customer's
abbrev pub are_prices : ℕ → List ℤ → List SetPrice → Bool
are_prices beside zs ms = are_small ms && list_all (λ z. nat_le ((beside + set_prices_sum ms) + nat_abs z) MOST_PRICE) zs

-- a sum of prices is cut here
abbrev pub greatest : ℕ
greatest = 2 ^ 64 - 1

-- the prices behind the first word: first the words, then which places
unfoldable pub placed_in : List ℕ → CertFault → ℕ → ℕ → List (List ℕ) → Result (List SetPrice) CertFault
placed_in text unknown most k [] = Err (BadLine k)
placed_in text unknown most k (w ∷ ws) = do
  pairs ← (if bytes_eq w text then pairs_at k ws else Err (BadLine k))
  check (are_listed most pairs) unknown pairs

-- the prices of sets on the next line: first the words, then which sets, then their range
unfoldable pub set_prices_at : ℕ → List ℤ → Left → Result (List SetPrice × Left) CertFault
set_prices_at sets zs st = do
  l ← line_from st
  ms ← placed_in (codes "M") (BadSet l.0) sets l.0 (parts 32 l.1.0)
  check (are_prices 0 zs ms) (PriceRange l.0) (ms, l.1.1)

-- the prices of rows on the next line: first the words, then which rows, then how many, then their range
unfoldable pub row_prices_at : ℕ → List ℤ → List SetPrice → Left → Result (List RowPrice × Left) CertFault
row_prices_at rows zs ms st = do
  l ← line_from st
  qs ← placed_in (codes "Q") (BadRow l.0) rows l.0 (parts 32 l.1.0)
  few ← check (nat_le (length qs) MOST_ROW_PRICES) (TooManyRows l.0) qs
  check (are_prices (set_prices_sum ms) zs few) (PriceRange l.0) (few, l.1.1)

-- behind the line of the customers' prices: lines of sets' and of rows' prices, where the text has them
unfoldable pub leaf_at : PricedLines → List ℤ → Left → Result (Node × Left) CertFault
leaf_at Customers zs st = Ok (leaf_node (of_customers zs), st)
leaf_at (Sets sets) zs st = do
  m ← set_prices_at sets zs st
  Ok (leaf_node (record { customers = zs; sets = m.0; rows = [] }), m.1)
leaf_at (Rows sets rows) zs st = do
  m ← set_prices_at sets zs st
  q ← row_prices_at rows zs m.0 m.1
  Ok (leaf_node (record { customers = zs; sets = m.0; rows = q.0 }), q.1)

-- ---- a split

-- two canonical numbers; the cap is above each limit
unfoldable pub pair_at : ℕ → List (List ℕ) → Result Arc CertFault
pair_at k [] = Err (BadLine k)
pair_at k (v ∷ []) = Err (BadLine k)
pair_at k (v ∷ w ∷ u ∷ ws) = Err (BadLine k)
pair_at k (v ∷ w ∷ []) = do
  i ← value_or (BadLine k) (option_map capped (number_of v))
  j ← value_or (BadLine k) (option_map capped (number_of w))
  Ok (i, j)

abbrev pub is_arc : ℕ → Arc → Bool
is_arc n a = nat_le a.0 n && nat_le a.1 n && (if a.0 == a.1 then false else true)

abbrev pub arc_eq : Arc → Arc → Bool
arc_eq a b = a.0 == b.0 && a.1 == b.1

abbrev pub is_decided : Arc → List Arc → Bool
is_decided a path = list_any (λ b. arc_eq b a) path

abbrev pub undecided : ℕ → List Arc → Arc → Result Arc CertFault
undecided k path a = if is_decided a path then Err (ArcDecided k) else Ok a

-- the arc of a split
unfoldable pub arc_at : ℕ → ℕ → List Arc → List (List ℕ) → Result Arc CertFault
arc_at n k path ws = do
  a ← pair_at k ws
  b ← check (is_arc n a) (BadArc k) a
  undecided k path b

-- ---- a node's line

-- the limits of a whole tree are looked at behind the line's own faults; a leaf has no prices of sets yet
unfoldable pub node_in : ℕ → ℕ → List Arc → List (List ℕ) → Result Node CertFault
node_in n k path [] = Err (BadLine k)
node_in n k path (w ∷ ws) = if bytes_eq w (codes "P") then (prices_at n k ws >>= λ zs. Ok (leaf_node (of_customers zs)))
    else if bytes_eq w (codes "S") then (arc_at n k path ws >>= λ a. Ok (split_node a))
    else Err (BadLine k)

abbrev pub node_at : ℕ → List Arc → Left → Result (Node × Left) CertFault
node_at n path left = next_at left >>= λ l. node_in n left.0 path (parts 32 l.0) >>= λ node. Ok (node, l.1)

-- ---- a tree, which is read below a path: so many arcs may still come, and so many leaves

-- what is read: the nodes, how many leaves may still come, and what is left of the text
abbrev pub Below : Type 0
Below = List Node × (ℕ × Left)

abbrev pub one_leaf : PricedLines → ℕ → List ℤ → ℕ → Left → Result Below CertFault
one_leaf priced k zs zero rest = Err (TooManyLeaves k)
one_leaf priced k zs (suc leaves) rest = leaf_at priced zs rest >>= λ x. Ok (x.0 ∷ [], (leaves, x.1))

-- behind the node's line: a leaf, or both children
abbrev pub below : PricedLines → ℕ → ℕ → (Arc → Left → Result Below CertFault) → Node → Left → Result Below CertFault
below priced k leaves children (leaf_node prices) rest = one_leaf priced k prices.customers leaves rest
below priced k leaves children (split_node a) rest = children a rest

abbrev pub both : Arc → List Node → Below → Below
both a used unused = (split_node a ∷ (used ++ unused.0), unused.1)

unfoldable pub tree_at : PricedLines → ℕ → ℕ → List Arc → ℕ → Left → Result Below CertFault
tree_at priced n zero path leaves st = node_at n path st >>= λ x. below priced st.0 leaves (λ a rest. Err (TooDeep st.0)) x.0 x.1
tree_at priced n (suc left) path leaves st = node_at n path st >>= λ x. below priced st.0 leaves
    (λ a rest. tree_at priced n left (path ++ (a ∷ [])) leaves rest >>= λ used. tree_at priced n left (path ++ (a ∷ [])) used.1.0 used.1.1 >>= λ unused. Ok (both a used.0 unused)) x.0 x.1

-- ---- the whole

-- this very line
unfoldable pub fixed_at : List ℕ → Left → Result Left CertFault
fixed_at text st = do
  l ← next_at st
  check (bytes_eq l.0 text) (BadLine st.0) l.1

-- a line of two words, of which the first is fixed: the second one
abbrev pub second : ℕ → List ℕ → List (List ℕ) → Result (List ℕ) CertFault
second k text [] = Err (BadLine k)
second k text (v ∷ []) = Err (BadLine k)
second k text (v ∷ w ∷ u ∷ ws) = Err (BadLine k)
second k text (v ∷ w ∷ []) = check (bytes_eq v text) (BadLine k) w

unfoldable pub field_at : List ℕ → Left → Result (List ℕ × Left) CertFault
field_at text st = do
  l ← next_at st
  w ← second st.0 text (parts 32 l.0)
  Ok (w, l.1)

abbrev pub is_name : List ℕ → Bool
is_name w = nat_le 1 (length w) && nat_le (length w) MOST_NAME && list_all is_letter w

unfoldable pub name_at : Left → Result (List ℕ × Left) CertFault
name_at st = do
  w ← field_at (codes "INSTANCE") st
  check (is_name w.0) (BadLine st.0) w

-- the number that a word is, from low to high
abbrev pub within_from : ℕ → ℕ → ℕ → Option ℕ → Result ℕ CertFault
within_from low high k number = value_or (BadLine k) number >>= λ m. check (nat_le low m && nat_le m high) (BadLine k) m

unfoldable pub within_at : List ℕ → ℕ → ℕ → Left → Result (ℕ × Left) CertFault
within_at text low high st = do
  w ← field_at text st
  m ← within_from low high st.0 (option_map capped (number_of w.0))
  Ok (m, w.1)

unfoldable pub bound_at : Left → Result (ℕ × Left) CertFault
bound_at st = do
  w ← field_at (codes "BOUND") st
  t ← value_or (BadLine st.0) (tenths_of w.0)
  Ok (t, w.1)

-- the first five lines; nothing is listed yet
pub record Head : Type 0 where
  pub version : Version
  pub name : List ℕ
  pub size : ℕ
  pub neighbours : ℕ
  pub bound : ℕ

unfoldable pub sizes_at : Left → Result ((ℕ × ℕ) × Left) CertFault
sizes_at st = do
  n ← within_at (codes "CUSTOMERS") 1 MOST_CUSTOMERS st
  k ← within_at (codes "NEIGHBOURS") 0 MOST_NEIGHBOURS n.1
  Ok ((n.0, k.0), k.1)

abbrev pub version_in : ℕ → List ℕ → Result Version CertFault
version_in k l = if bytes_eq l (version_text version_1) then Ok version_1 else if bytes_eq l (version_text version_2) then Ok version_2
    else if bytes_eq l (version_text (with_sets [])) then Ok (with_sets [])
    else if bytes_eq l (version_text (with_rows [] [])) then Ok (with_rows [] []) else Err (BadLine k)

unfoldable pub version_at : Left → Result (Version × Left) CertFault
version_at st = do
  l ← next_at st
  v ← version_in st.0 l.0
  Ok (v, l.1)

-- the first two lines
unfoldable pub title_at : Left → Result ((Version × List ℕ) × Left) CertFault
title_at st = do
  v ← version_at st
  name ← name_at v.1
  Ok ((v.0, name.0), name.1)

unfoldable pub head_at : Left → Result (Head × Left) CertFault
head_at st = do
  title ← title_at st
  sizes ← sizes_at title.1
  bound ← bound_at sizes.1
  Ok (record { version = title.0.0; name = title.0.1; size = sizes.0.0; neighbours = sizes.0.1; bound = bound.0 }, bound.1)

-- ---- the lists

-- Things of a list, a line each, from this line up to one that begins otherwise; so many may still come. What is read may depend on what was seen of the one before.
unfoldable pub items_at : {A : Type 0} → List ℕ → (Option A → ℕ → List (List ℕ) → Result A CertFault) → (ℕ → CertFault) → (A → Option A) → ℕ → Option A → Here
    → Result (List A × Here) CertFault
items_at text item_in full seen zero before at = if begins text (parts 32 at.1.0)
    then (item_in before at.0 (parts 32 at.1.0) >>= λ s. Err (full at.0)) else Ok ([], at)
items_at text item_in full seen (suc left) before at = if begins text (parts 32 at.1.0)
    then (item_in before at.0 (parts 32 at.1.0) >>= λ s. line_from at.1.1 >>= λ next. items_at text item_in full seen left (seen s) next >>= λ more. Ok (s ∷ more.0, more.1))
    else Ok ([], at)

-- the need and the members: first the words, then the need's range, then the members
unfoldable pub set_in : ℕ → ℕ → List (List ℕ) → Result ListedSet CertFault
set_in n k [] = Err (BadLine k)
set_in n k (w ∷ []) = Err (BadLine k)
set_in n k (w ∷ v ∷ ws) = do
  need ← value_or (BadLine k) (option_map capped (number_of v))
  members ← members_at k ws
  some ← check (bytes_eq w (codes "S") && nat_le 2 (length members)) (BadLine k) members
  held ← check (nat_le 1 need && nat_le need MOST_NEED) (NeedRange k) need
  check (is_rising 0 n some) (BadSet k) (record { members = some; need = held })

-- the sets from this line on
abbrev pub sets_at : ℕ → Here → Result (List ListedSet × Here) CertFault
sets_at n at = items_at (codes "S") (λ before k ws. set_in n k ws) (λ k. TooManySets k) (λ s. None) MOST_SETS None at

-- three of the customers 1 to n, in increasing order
abbrev pub is_listed_row : ℕ → SubsetRow → Bool
is_listed_row n s = nat_le 1 s.first && (nat_lt s.first s.second && (nat_lt s.second s.third && nat_le s.third n))

-- the row stands behind the one before, where there is one
abbrev pub is_behind : Option SubsetRow → SubsetRow → Bool
is_behind None s = true
is_behind (Some before) s = is_before before s

abbrev pub three_of : List ℕ → Option SubsetRow
three_of [] = None
three_of (a ∷ []) = None
three_of (a ∷ b ∷ []) = None
three_of (a ∷ b ∷ c ∷ []) = Some (record { first = a; second = b; third = c })
three_of (a ∷ b ∷ c ∷ d ∷ s) = None

-- the three customers: first the words, then which customers, behind the row before
unfoldable pub row_in : ℕ → Option SubsetRow → ℕ → List (List ℕ) → Result SubsetRow CertFault
row_in n before k [] = Err (BadLine k)
row_in n before k (w ∷ ws) = do
  members ← members_at k ws
  row ← value_or (BadLine k) (if bytes_eq w (codes "R") then three_of members else None)
  check (is_listed_row n row && is_behind before row) (BadRow k) row

-- the rows from this line on
abbrev pub rows_at : ℕ → Here → Result (List SubsetRow × Here) CertFault
rows_at n at = items_at (codes "R") (λ before k ws. row_in n before k ws) (λ k. TooManyRows k) (λ s. Some s) MOST_ROWS None at

-- sets, and the line that begins the tree
unfoldable pub sets_listed_at : ℕ → Left → Result (Version × Left) CertFault
sets_listed_at n st = do
  first ← line_from st
  sets ← sets_at n first
  check (bytes_eq sets.1.1.0 (codes "TREE")) (BadLine sets.1.0) (with_sets sets.0, sets.1.1.1)

-- sets, rows, and the line that begins the tree
unfoldable pub rows_listed_at : ℕ → Left → Result (Version × Left) CertFault
rows_listed_at n st = do
  first ← line_from st
  sets ← sets_at n first
  rows ← rows_at n sets.1
  check (bytes_eq rows.1.1.0 (codes "TREE")) (BadLine rows.1.0) (with_rows sets.0 rows.0, rows.1.1.1)

-- what stands between the first five lines and the nodes
unfoldable pub listed_at : ℕ → Version → Left → Result (Version × Left) CertFault
listed_at n version_1 st = fixed_at (codes "TREE") st >>= λ a. Ok (version_1, a)
listed_at n version_2 st = fixed_at (codes "TREE") st >>= λ a. Ok (version_2, a)
listed_at n (with_sets sets) st = sets_listed_at n st
listed_at n (with_rows sets rows) st = rows_listed_at n st

-- the nodes, and the line behind them
unfoldable pub nodes_at : PricedLines → ℕ → Left → Result (List Node × Left) CertFault
nodes_at priced n st = do
  t ← tree_at priced n MOST_DEPTH [] MOST_LEAVES st
  b ← fixed_at (codes "END") t.1.1
  Ok (t.0, b)

abbrev pub with_tree : Version → Head → List Node → Content
with_tree version h nodes = record { version = version; name = h.name; size = h.size; neighbours = h.neighbours; bound = h.bound; nodes = nodes }

-- the certificate that a text is, or its first fault
unfoldable pub reading : List ℕ → Result Content CertFault
reading text = do
  h ← head_at (1, parts 10 text)
  v ← listed_at h.0.size h.0.version h.1
  t ← nodes_at (priced_lines v.0) h.0.size v.1
  check (is_end t.1.1) Extra (with_tree v.0 h.0 t.0)

-- the nodes before a tree, and those of the tree
abbrev pub with_nodes : List Node → Result Below CertFault → Result Below CertFault
with_nodes front read = read >>= λ x. Ok (front ++ x.0, x.1)
