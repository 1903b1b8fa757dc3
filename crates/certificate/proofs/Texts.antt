-- The text of a certificate is its lines, in the parts in which it is written.
use Rattle.std.proofs.Common.{◌≡◌, refl, ℕ, List, [], ◌∷◌, ◌++◌, map, ap, sym, ◌∙◌, append_assoc}
use Rattle.std.specs.Prelude.{codes, decimal, ℤ}
use Rattle.std.specs.Fmt.{signed_decimal}
use Rattle.std.specs.List.{flat_map}
use Rattle.std.proofs.lemmas.List.{append-nil}
use Rattle.std.proofs.lemmas.List.Folds.{flat_map-map}
use Rattle.std.proofs.lemmas.Grind.{flat_map-append}
use Rattle.tenths.specs.Text.{tenths_text, spaced, line}
use Rattle.solomon_reader.specs.SetPrices.{ListedSet}
use Rattle.solomon_reader.specs.SubsetRows.{SubsetRow}
use Rattle.solomon_reader.specs.Bound.{Tree, leaf, split, split_node, preorder, Version, version_1, version_2, with_sets, with_rows, listed_sets, listed_rows, LeafPrices, Node, leaf_node}
use Rattle.solomon_reader.specs.CertificateText.{Certificate, node_lines, leaf_lines, set_line, row_line, first_line, certificate_text, Content, listed}
use Rattle.solomon_reader.specs.CertificateText as shared
use Rattle.certificate.specs.declared.node.CertNode.{CertNode}
use Rattle.certificate.specs.declared.parts.CertParts.{CertParts}
use Rattle.certificate.specs.Tree.{node_of, nodes_of}
use Rattle.certificate.specs.declared.version.PricedLines.{PricedLines}
use Rattle.certificate.specs.declared.version.PricedLines.TheVariants.{Customers}
use Rattle.certificate.specs.Reading.{priced_lines}
use Rattle.certificate.specs.Text.{content_of, version_of, set_text, row_text, set_prices_text, row_prices_text, priced_texts, node_texts, name_lines, head_lines, content_text}

-- ---- nodes

leaf_line_is : (zs : List ℤ) → line (codes "P" ++ flat_map spaced (map signed_decimal zs)) ≡ shared.leaf_line zs
leaf_line_is zs = ap (λ (w : List ℕ). line (codes "P" ++ w)) (flat_map-map spaced signed_decimal zs)

-- the lines of a leaf behind its first
abbrev pub priced_text : PricedLines → LeafPrices → List ℕ
priced_text priced l = flat_map line (priced_texts priced l.sets l.rows)

pub leaf_with : (priced : PricedLines) (l : LeafPrices) → flat_map line (node_texts priced (leaf_node l)) ≡ shared.leaf_line l.customers ++ priced_text priced l
leaf_with priced l = ap (λ (w : List ℕ). w ++ priced_text priced l) (leaf_line_is l.customers)

leaf_is : (version : Version) (l : LeafPrices) → flat_map line (node_texts (priced_lines version) (leaf_node l)) ≡ leaf_lines version l
leaf_is version_1 l = leaf_with Customers l ∙ append-nil (shared.leaf_line l.customers)
leaf_is version_2 l = leaf_with Customers l ∙ append-nil (shared.leaf_line l.customers)
leaf_is (with_sets sets) l = leaf_with (priced_lines (with_sets sets)) l ∙ ap (λ (w : List ℕ). shared.leaf_line l.customers ++ w) (append-nil (line (set_prices_text l.sets)))
leaf_is (with_rows sets rows) l =
    leaf_with (priced_lines (with_rows sets rows)) l
    ∙ ap (λ (w : List ℕ). shared.leaf_line l.customers ++ (line (set_prices_text l.sets) ++ w)) (append-nil (line (row_prices_text l.rows)))
    ∙ sym (append_assoc (shared.leaf_line l.customers) (line (set_prices_text l.sets)) (line (row_prices_text l.rows)))

split_is : (a : ℕ × ℕ) (priced : PricedLines) → flat_map line (node_texts priced (split_node a)) ≡ shared.split_line a
split_is a priced = append-nil _ ∙ ap (λ (w : List ℕ). line (codes "S" ++ (spaced (decimal a.0) ++ w))) (append-nil (spaced (decimal a.1)))

-- the lines of nodes, one node after another
abbrev pub lines_of : PricedLines → List Node → List (List ℕ)
lines_of b xs = flat_map (node_texts b) xs

tree_lines : (version : Version) (tree : Tree) → flat_map line (lines_of (priced_lines version) (preorder tree)) ≡ node_lines version tree
tree_lines version (leaf prices) = ap (λ (w : List (List ℕ)). flat_map line w) (append-nil (node_texts (priced_lines version) (leaf_node prices))) ∙ leaf_is version prices
tree_lines version (split a used unused) =
    let b = priced_lines version in
    let both : flat_map line (lines_of b (preorder used ++ preorder unused)) ≡ node_lines version used ++ node_lines version unused =
    ap (λ (w : List (List ℕ)). flat_map line w) (flat_map-append (node_texts b) (preorder used) (preorder unused)) ∙ flat_map-append line (lines_of b (preorder used)) (lines_of b (preorder unused))
    ∙ ap (λ (w : List ℕ). w ++ flat_map line (lines_of b (preorder unused))) (tree_lines version used) ∙ ap (λ (w : List ℕ). node_lines version used ++ w) (tree_lines version unused) in
    flat_map-append line (node_texts b (split_node a)) (lines_of b (preorder used ++ preorder unused))
    ∙ ap (λ (w : List ℕ). w ++ flat_map line (lines_of b (preorder used ++ preorder unused))) (split_is a b)
    ∙ ap (λ (w : List ℕ). shared.split_line a ++ w) both ∙ sym (append_assoc (shared.split_line a) (node_lines version used) (node_lines version unused))

-- ---- the lines before the nodes

set_is : (s : ListedSet) → line (set_text s) ≡ set_line s
set_is s = ap (λ (w : List ℕ). line (codes "S" ++ (spaced (decimal s.need) ++ w))) (flat_map-map spaced decimal s.members) ∙ ap (λ (w : List ℕ). line w) (sym (append_assoc (codes "S") (spaced (decimal s.need)) (flat_map (λ i. spaced (decimal i)) s.members)))

sets_are : (sets : List ListedSet) → flat_map line (map set_text sets) ≡ flat_map set_line sets
sets_are [] = refl
sets_are (s ∷ sets) = ap (λ (w : List ℕ). w ++ flat_map line (map set_text sets)) (set_is s) ∙ ap (λ (w : List ℕ). set_line s ++ w) (sets_are sets)

row_is : (s : SubsetRow) → line (row_text s) ≡ row_line s
row_is s =
    ap (λ (w : List ℕ). line (codes "R" ++ (spaced (decimal s.first) ++ (spaced (decimal s.second) ++ w)))) (append-nil (spaced (decimal s.third)))
    ∙ ap (λ (w : List ℕ). line w) (three (codes "R") (spaced (decimal s.first)) (spaced (decimal s.second)) (spaced (decimal s.third)))
  where
    three : (a b c d : List ℕ) → a ++ (b ++ (c ++ d)) ≡ ((a ++ b) ++ c) ++ d
    three a b c d = simp append_assoc

rows_are : (rows : List SubsetRow) → flat_map line (map row_text rows) ≡ flat_map row_line rows
rows_are [] = refl
rows_are (s ∷ rows) = ap (λ (w : List ℕ). w ++ flat_map line (map row_text rows)) (row_is s) ∙ ap (λ (w : List ℕ). row_line s ++ w) (rows_are rows)

eight : (a b c d e f r g : List ℕ) → a ++ (b ++ (c ++ (d ++ (e ++ (f ++ (r ++ g)))))) ≡ ((((((a ++ b) ++ c) ++ d) ++ e) ++ f) ++ r) ++ g
eight a b c d e f r g = simp append_assoc

-- the lines of lists, and the one that begins the tree
list_lines : (sets rows : List (List ℕ)) → flat_map line (sets ++ (rows ++ (codes "TREE" ∷ []))) ≡ flat_map line sets ++ (flat_map line rows ++ codes "TREE\n")
list_lines sets rows = flat_map-append line sets (rows ++ (codes "TREE" ∷ [])) ∙ ap (λ (w : List ℕ). flat_map line sets ++ w) (flat_map-append line rows (codes "TREE" ∷ []))

head_text : (c : Certificate) → flat_map line (head_lines (listed c)) ≡ shared.head_lines c
head_text c =
    let sets = flat_map set_line (listed_sets c.version) in
    let rows = flat_map row_line (listed_rows c.version) in
    let back : flat_map line (map set_text (listed_sets c.version) ++ (map row_text (listed_rows c.version) ++ (codes "TREE" ∷ []))) ≡ sets ++ (rows ++ line (codes "TREE")) =
    list_lines (map set_text (listed_sets c.version)) (map row_text (listed_rows c.version))
    ∙ ap (λ (w : List ℕ). w ++ (flat_map line (map row_text (listed_rows c.version)) ++ line (codes "TREE"))) (sets_are (listed_sets c.version))
    ∙ ap (λ (w : List ℕ). sets ++ (w ++ line (codes "TREE"))) (rows_are (listed_rows c.version)) in
    ap (λ (w : List ℕ). first_line c.version ++ (line (codes "INSTANCE " ++ c.name) ++ (line (codes "CUSTOMERS " ++ decimal c.size)
    ++ (line (codes "NEIGHBOURS " ++ decimal c.neighbours) ++ (line (codes "BOUND " ++ tenths_text c.bound) ++ w))))) back
    ∙ eight (first_line c.version) (line (codes "INSTANCE " ++ c.name)) (line (codes "CUSTOMERS " ++ decimal c.size))
    (line (codes "NEIGHBOURS " ++ decimal c.neighbours)) (line (codes "BOUND " ++ tenths_text c.bound)) sets rows (line (codes "TREE"))

pub text_is : (c : Certificate) → content_text (listed c) ≡ certificate_text c
text_is c =
    let nodes = lines_of (priced_lines c.version) (preorder c.tree) in
    let back : flat_map line (nodes ++ (codes "END" ∷ [])) ≡ node_lines c.version c.tree ++ line (codes "END") =
    flat_map-append line nodes (codes "END" ∷ []) ∙ ap (λ (w : List ℕ). w ++ flat_map line (codes "END" ∷ [])) (tree_lines c.version c.tree) in
    flat_map-append line (head_lines (listed c)) (nodes ++ (codes "END" ∷ []))
    ∙ ap (λ (w : List ℕ). w ++ flat_map line (nodes ++ (codes "END" ∷ []))) (head_text c) ∙ ap (λ (w : List ℕ). shared.head_lines c ++ w) back
    ∙ sym (append_assoc (shared.head_lines c) (node_lines c.version c.tree) (line (codes "END")))

-- ---- the text in the parts in which it is written

-- the lines before the nodes are those before the bound, the bound's, those of the sets, those of the rows and the tree's
pub head_parts : (x : Content) → flat_map line (head_lines x)
    ≡ ((((first_line x.version ++ flat_map line (name_lines x)) ++ line (codes "BOUND " ++ tenths_text x.bound)) ++ flat_map line (map set_text (listed_sets x.version)))
    ++ flat_map line (map row_text (listed_rows x.version))) ++ codes "TREE\n"
head_parts x =
    let first = first_line x.version in
    let names = flat_map line (name_lines x) in
    let bound = line (codes "BOUND " ++ tenths_text x.bound) in
    let sets = map set_text (listed_sets x.version) in
    let rows = map row_text (listed_rows x.version) in
    ap (λ (w : List ℕ). first ++ w) (flat_map-append line (name_lines x) ((codes "BOUND" ++ spaced (tenths_text x.bound)) ∷ (sets ++ (rows ++ (codes "TREE" ∷ []))))
    ∙ ap (λ (w : List ℕ). names ++ (bound ++ w)) (list_lines sets rows))
    ∙ six first names bound (flat_map line sets) (flat_map line rows) (codes "TREE\n")
  where
    six : (a b c d e f : List ℕ) → a ++ (b ++ (c ++ (d ++ (e ++ f)))) ≡ ((((a ++ b) ++ c) ++ d) ++ e) ++ f
    six a b c d e f = simp append_assoc

-- the text of nodes, as it is written
abbrev pub nodes_text : PricedLines → List CertNode → List ℕ
nodes_text b ns = flat_map (λ x. flat_map line (node_texts b (node_of x))) ns

nodes_lined : (b : PricedLines) (ns : List CertNode) → flat_map line (lines_of b (nodes_of ns)) ≡ nodes_text b ns
nodes_lined b [] = refl
nodes_lined b (n ∷ ns) = flat_map-append line (node_texts b (node_of n)) (lines_of b (nodes_of ns)) ∙ ap (λ (w : List ℕ). flat_map line (node_texts b (node_of n)) ++ w) (nodes_lined b ns)

pub text_parts : (c : CertParts) → content_text (content_of c) ≡ (flat_map line (head_lines (content_of c)) ++ nodes_text (priced_lines (version_of c.version)) c.nodes.items) ++ codes "END\n"
text_parts c =
    let b = priced_lines (version_of c.version) in
    let nodes = lines_of b (nodes_of c.nodes.items) in
    let head = flat_map line (head_lines (content_of c)) in
    flat_map-append line (head_lines (content_of c)) (nodes ++ (codes "END" ∷ []))
    ∙ ap (λ (w : List ℕ). head ++ w) (flat_map-append line nodes (codes "END" ∷ []) ∙ ap (λ (w : List ℕ). w ++ codes "END\n") (nodes_lined b c.nodes.items))
    ∙ sym (append_assoc head (nodes_text b c.nodes.items) (codes "END\n"))
