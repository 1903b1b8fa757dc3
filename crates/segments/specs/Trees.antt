-- Trees: lists of items, with the joins that they keep.
use Rattle.std.specs.Prelude.{◌≡◌, ℕ, ◌<◌, ◌≤◌, List, [], length, take, slice_index_or, Option, Vec, option_and_then}
use Rattle.std.specs.declared.alloc.Global.{Global}
use Rattle.segments.specs.Linked.{chain}
use Rattle.segments.specs.Levels.{AreLevels}
use Rattle.segments.specs.declared.tree.RouteTree.{RouteTree}

-- the items of a tree
abbrev pub items_of : {L : Type 0} → RouteTree L → List L
items_of t = t.items.items

-- the joins of a tree are those of its items, and joining three is the same from the left and from the right
pub record IsTree {L : Type 0} (op : L → L → Option L) (t : RouteTree L) : Type 0 where
  pub levels : AreLevels op t.items.items t.levels.items
  pub law : (x y z : L) → option_and_then (λ xy. op xy z) (op x y) ≡ option_and_then (λ yz. op x yz) (op y z)

-- the join of all items, whatever joins them
abbrev pub IsWhole : {L : Type 0} → RouteTree L → Option L → Type 0
IsWhole {L} t o = (op : L → L → Option L) → IsTree op t → o ≡ chain op (items_of t)

-- the number of levels, whatever joins the items
abbrev pub IsTall : {L : Type 0} → RouteTree L → ℕ → Type 0
IsTall {L} t h = (op : L → L → Option L) → IsTree op t → h ≡ length t.levels.items

-- first joins of a level, and none of a level that isn't there
pub record IsBeginning {L : Type 0} (levels : List (Vec (Option L) Global)) (k count : ℕ) (joins : List (Option L)) : Type 0 where
  pub short : length joins ≤ count
  pub there : (d : Vec (Option L) Global) → k < length levels → joins ≡ take (length joins) (slice_index_or levels k d).items
  pub missing : length levels ≤ k → joins ≡ []
