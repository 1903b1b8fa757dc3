-- Levels of joins, each of which joins its neighbours in the one below two by two.
use Rattle.std.specs.Prelude.{◌≡◌, refl, ℕ, zero, suc, ◌+◌, ◌-◌, ◌*◌, ◌/◌, ◌^◌, ◌<◌, ◌≤◌, List, [], ◌∷◌, length, map, slice_index_or, Option, Some, None, Vec}
use Rattle.std.specs.declared.alloc.Global.{Global}
use Rattle.segments.specs.Linked.{both}

-- the neighbours joined two by two, an odd last one goes up alone
abbrev pub pairs : {L : Type 0} → (L → L → Option L) → List (Option L) → List (Option L)
pairs op [] = []
pairs op (x ∷ []) = x ∷ []
pairs op (x ∷ (y ∷ rest)) = both op x y ∷ pairs op rest

-- the level k above the list
abbrev pub level : {L : Type 0} → (L → L → Option L) → List (Option L) → ℕ → List (Option L)
level op xs zero = xs
level op xs (suc k) = pairs op (level op xs k)

-- the height of n items: none for none, and else the least with room for n items at its foot
pub record IsHeight (n h : ℕ) : Type 0 where
  pub none : n ≡ 0 → h ≡ 0
  pub some : 0 < n → 0 < h
  pub room : 0 < n → n ≤ 2 ^ (h - 1)
  pub least : 0 < n → 2 ^ (h - 1) < 2 * n

-- the levels are those of the items: the first has the items, each next one joins its neighbours, only the last has one
pub record AreLevels {L : Type 0} (op : L → L → Option L) (items : List L) (levels : List (Vec (Option L) Global)) : Type 0 where
  pub each : (k : ℕ) (d : Vec (Option L) Global) → k < length levels → (slice_index_or levels k d).items ≡ level op (map Some items) k
  pub some : 0 < length items → 0 < length levels
  pub last : (k : ℕ) → k + 1 ≡ length levels → length (level op (map Some items) k) ≡ 1
  pub inner : (k : ℕ) → k + 1 < length levels → 1 < length (level op (map Some items) k)

-- how often n is halved until none is left, k times at most
abbrev pub halvings : ℕ → ℕ → ℕ
halvings zero n = 0
halvings (suc k) zero = 0
halvings (suc k) (suc n) = suc (halvings k (suc n / 2))

-- the number of binary digits, none for 0
abbrev pub binary_digits : ℕ → ℕ
binary_digits n = halvings n n

pub digits_of_100 : binary_digits 100 ≡ 7
digits_of_100 = refl

-- two joins side by side, where none has no items
abbrev pub beside : {L : Type 0} → (L → L → Option L) → Option (Option L) → Option (Option L) → Option (Option L)
beside op None b = b
beside op (Some x) None = Some x
beside op (Some x) (Some y) = Some (both op x y)

-- the join of a list of joins, none of no items
abbrev pub total : {L : Type 0} → (L → L → Option L) → List (Option L) → Option (Option L)
total op [] = None
total op (x ∷ xs) = beside op (Some x) (total op xs)
