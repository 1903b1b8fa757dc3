-- Whether nodes are those of a tree.
use Rattle.std.specs.Prelude.{ℕ, Bool, true, false, not, ◌&&◌, ◌==◌, nat_le, List, [], ◌∷◌, ◌++◌, length, Option, Some, None, ℤ}
use Rattle.std.specs.List.{list_all}
use Rattle.solomon_reader.specs.declared.limits.TheConstants.{MOST_CUSTOMERS, MOST_NEIGHBOURS, MOST_LEAVES, MOST_DEPTH, MOST_SETS, MOST_NEED, MOST_ROWS, MOST_ROW_PRICES}
use Rattle.tenths.specs.declared.value.TheConstants.{MOST_TENTHS}
use Rattle.solomon_reader.specs.Plan.{Arc}
use Rattle.solomon_reader.specs.SetPrices.{ListedSet}
use Rattle.solomon_reader.specs.Bound.{LeafPrices, Tree, leaf, split, Node, listed_sets, listed_rows}
use Rattle.solomon_reader.specs.SubsetRows.{SubsetRow, RowPrice}
use Rattle.solomon_reader.specs.CertificateText.{Content, leaf_count, set_prices_sum}
use Rattle.certificate.specs.Grown.{Grown, grown}
use Rattle.certificate.specs.Reading.{is_arc, is_decided, is_price, is_name, is_rising, are_listed, are_prices, is_listed_row, is_behind}

-- the prices of rows, where so many are listed, beside so much
abbrev pub are_row_prices : ℕ → ℕ → List ℤ → List RowPrice → Bool
are_row_prices rows beside zs qs = are_listed rows qs && (nat_le (length qs) MOST_ROW_PRICES && are_prices beside zs qs)

-- the prices of a leaf where so many sets and rows are listed
abbrev pub is_leaf : ℕ → ℕ → ℕ → LeafPrices → Bool
is_leaf sets rows n prices = (length prices.customers == n && list_all is_price prices.customers)
    && ((are_listed sets prices.sets && are_prices 0 prices.customers prices.sets) && are_row_prices rows (set_prices_sum prices.sets) prices.customers prices.rows)

abbrev pub is_open : ℕ → List Arc → Arc → Bool
is_open n path a = is_arc n a && not (is_decided a path)

-- the tree stands below a path, where so many sets and rows are listed
abbrev pub stands : ℕ → ℕ → ℕ → List Arc → Tree → Bool
stands sets rows n path (leaf prices) = is_leaf sets rows n prices
stands sets rows n path (split a used unused) = is_open n path a && (stands sets rows n (path ++ (a ∷ [])) used && stands sets rows n (path ++ (a ∷ [])) unused)

-- a tree with no nodes behind it
abbrev pub is_whole_tree : ℕ → ℕ → ℕ → Grown → Bool
is_whole_tree sets rows n None = false
is_whole_tree sets rows n (Some (tree, x ∷ xs)) = false
is_whole_tree sets rows n (Some (tree, [])) = nat_le (leaf_count tree) MOST_LEAVES && stands sets rows n [] tree

abbrev pub is_head : Content → Bool
is_head x = is_name x.name && (nat_le 1 x.size && (nat_le x.size MOST_CUSTOMERS && (nat_le x.neighbours MOST_NEIGHBOURS && nat_le x.bound MOST_TENTHS)))

abbrev pub is_listed_set : ℕ → ListedSet → Bool
is_listed_set n s = nat_le 1 s.need && (nat_le s.need MOST_NEED && (nat_le 2 (length s.members) && is_rising 0 n s.members))

-- the sets have lines
abbrev pub are_sets : ℕ → List ListedSet → Bool
are_sets n sets = nat_le (length sets) MOST_SETS && list_all (is_listed_set n) sets

-- each row has a line, behind the one before
abbrev pub are_rising_rows : ℕ → Option SubsetRow → List SubsetRow → Bool
are_rising_rows n before [] = true
are_rising_rows n before (s ∷ rows) = (is_listed_row n s && is_behind before s) && are_rising_rows n (Some s) rows

-- the rows have lines
abbrev pub are_rows : ℕ → List SubsetRow → Bool
are_rows n rows = nat_le (length rows) MOST_ROWS && are_rising_rows n None rows

-- the nodes are those of one tree, where so many sets and rows are listed
unfoldable pub is_one_tree : ℕ → ℕ → ℕ → List Node → Bool
is_one_tree sets rows n nodes = is_whole_tree sets rows n (grown MOST_DEPTH nodes)

-- all but the nodes is a certificate's
abbrev pub is_before_tree : Content → Bool
is_before_tree x = is_head x && (are_sets x.size (listed_sets x.version) && are_rows x.size (listed_rows x.version))
