-- The levels of a tree: how many there are, how neighbours are joined two by two, and how they are walked upwards.
use Rattle.std.proofs.Common.{◌≡◌, refl, ℕ, zero, suc, ◌+◌, ◌-◌, ◌*◌, ◌/◌, ◌%◌, ◌<◌, ◌≤◌, inl, inr, List, [], ◌∷◌, ◌++◌, length, map, take, drop, get_or, sym, ap, ◌∙◌, arith, add-one}
use Rattle.std.proofs.Common.{drop-cons, length-drop, ◌^◌}
use Rattle.std.specs.Prelude.{Option, Some, None, option_and_then, Vec, unwrap_or}
use Rattle.std.specs.List.{slice_range, slice_get}
use Rattle.std.proofs.lemmas.List.{take_more, take-map, drop-map, length-map, length-take}
use Rattle.std.proofs.lemmas.Bool.{cases_lt}
use Rattle.std.proofs.Math.Nat.{pow-le-pow_right}
use Rattle.std.proofs.lemmas.Grind.{pow_more}
use Rattle.std.specs.declared.alloc.Global.{Global}
use Rattle.std.proofs.lemmas.Option.{slice_get_within, get_or_from_slice_get}
use Rattle.segments.specs.Linked.{chain, both}
use Rattle.segments.specs.Chains.{both-assoc}
use Rattle.segments.specs.Levels.{pairs, level, beside, total, IsHeight, halvings, binary_digits, AreLevels}
use Rattle.segments.specs.Trees.{IsBeginning}

module _ {L : Type 0} (op : L → L → Option L) where
  pub length-pairs : (xs : List (Option L)) → (length xs ≤ 2 * length (pairs op xs)) × (2 * length (pairs op xs) ≤ length xs + 1)
  length-pairs [] = (omega arith, omega arith)
  length-pairs (x ∷ []) = (omega arith, omega arith)
  length-pairs (x ∷ (y ∷ rest)) = let h = length-pairs rest in (omega (arith, h.0), omega (arith, h.1))

  pub pairs-take : (j m : ℕ) (xs : List (Option L)) → m ≡ 2 * j → take j (pairs op xs) ≡ pairs op (take m xs)
  pairs-take zero zero xs h = refl
  pairs-take zero (suc m) xs h = absurd (omega arith)
  pairs-take (suc j) zero xs h = absurd (omega arith)
  pairs-take (suc j) (suc zero) xs h = absurd (omega arith)
  pairs-take (suc j) (suc (suc m)) [] h = refl
  pairs-take (suc j) (suc (suc m)) (x ∷ []) h = short j x
    where
      short : (j : ℕ) (x : Option L) → take (suc j) (x ∷ []) ≡ x ∷ []
      short zero x = refl
      short (suc j) x = refl
  pairs-take (suc j) (suc (suc m)) (x ∷ (y ∷ rest)) h = ap (λ ys. both op x y ∷ ys) (pairs-take j m rest (omega arith))

  pub pairs-drop : (j m : ℕ) (xs : List (Option L)) → m ≡ 2 * j → drop j (pairs op xs) ≡ pairs op (drop m xs)
  pairs-drop zero zero xs h = refl
  pairs-drop zero (suc m) xs h = absurd (omega arith)
  pairs-drop (suc j) zero xs h = absurd (omega arith)
  pairs-drop (suc j) (suc zero) xs h = absurd (omega arith)
  pairs-drop (suc j) (suc (suc m)) [] h = refl
  pairs-drop (suc j) (suc (suc m)) (x ∷ []) h = none j x
    where
      none : (j : ℕ) (x : Option L) → drop (suc j) (x ∷ []) ≡ []
      none zero x = refl
      none (suc j) x = refl
  pairs-drop (suc j) (suc (suc m)) (x ∷ (y ∷ rest)) h = pairs-drop j m rest (omega arith)

  -- one pair more
  pub pairs-more : (i m : ℕ) (xs : List (Option L)) (x y : Option L) → m ≡ 2 * i → m + 1 < length xs → x ≡ get_or xs m x → y ≡ get_or xs (suc m) y
      → take (suc i) (pairs op xs) ≡ take i (pairs op xs) ++ (both op x y ∷ [])
  pairs-more zero zero [] x y h w ex ey = absurd (omega arith)
  pairs-more zero zero (a ∷ []) x y h w ex ey = absurd (omega arith)
  pairs-more zero zero (a ∷ (b ∷ rest)) x y h w ex ey = rw (ex, ey) refl
  pairs-more zero (suc m) xs x y h w ex ey = absurd (omega arith)
  pairs-more (suc i) zero xs x y h w ex ey = absurd (omega arith)
  pairs-more (suc i) (suc zero) xs x y h w ex ey = absurd (omega arith)
  pairs-more (suc i) (suc (suc m)) [] x y h w ex ey = absurd (omega arith)
  pairs-more (suc i) (suc (suc m)) (a ∷ []) x y h w ex ey = absurd (omega arith)
  pairs-more (suc i) (suc (suc m)) (a ∷ (b ∷ rest)) x y h w ex ey = ap (λ ys. both op a b ∷ ys) (pairs-more i m rest x y (omega arith) (omega arith) ex ey)

  -- the last one alone
  pub pairs-last : (i m : ℕ) (xs : List (Option L)) (x : Option L) → m ≡ 2 * i → m + 1 ≡ length xs → x ≡ get_or xs m x
      → take (suc i) (pairs op xs) ≡ take i (pairs op xs) ++ (x ∷ [])
  pairs-last zero zero [] x h w ex = absurd (omega arith)
  pairs-last zero zero (a ∷ []) x h w ex = rw ex refl
  pairs-last zero zero (a ∷ (b ∷ rest)) x h w ex = absurd (omega arith)
  pairs-last zero (suc m) xs x h w ex = absurd (omega arith)
  pairs-last (suc i) zero xs x h w ex = absurd (omega arith)
  pairs-last (suc i) (suc zero) xs x h w ex = absurd (omega arith)
  pairs-last (suc i) (suc (suc m)) [] x h w ex = absurd (omega arith)
  pairs-last (suc i) (suc (suc m)) (a ∷ []) x h w ex = absurd (omega arith)
  pairs-last (suc i) (suc (suc m)) (a ∷ (b ∷ rest)) x h w ex = ap (λ ys. both op a b ∷ ys) (pairs-last i m rest x (omega arith) (omega arith) ex)

  -- beginnings that are the same stay so one level up
  pub pairs-same : (k j : ℕ) (xs ys : List (Option L)) → 2 * j ≤ k → take k xs ≡ take k ys → take j (pairs op xs) ≡ take j (pairs op ys)
  pairs-same k j xs ys h e =
      pairs-take j (2 * j) xs refl ∙ ap (pairs op) (take-less k (2 * j) xs ys h e) ∙ sym (pairs-take j (2 * j) ys refl)
    where
      take-less : (k m : ℕ) (xs ys : List (Option L)) → m ≤ k → take k xs ≡ take k ys → take m xs ≡ take m ys
      take-less k m xs ys h e = sym (take-take k m xs h) ∙ ap (take m) e ∙ take-take k m ys h
        where
          take-take : (k m : ℕ) (xs : List (Option L)) → m ≤ k → take m (take k xs) ≡ take m xs
          take-take k zero xs h = refl
          take-take zero (suc m) xs h = absurd (omega arith)
          take-take (suc k) (suc m) [] h = refl
          take-take (suc k) (suc m) (x ∷ xs) h = ap (λ ys. x ∷ ys) (take-take k m xs (omega arith))

  pub beside-none : (a : Option (Option L)) → beside op a None ≡ a
  beside-none None = refl
  beside-none (Some x) = refl

  pub total-some : (xs : List L) → 0 < length xs → total op (map Some xs) ≡ Some (chain op xs)
  total-some [] h = absurd (omega arith)
  total-some (x ∷ []) h = refl
  total-some (x ∷ (y ∷ ys)) h = ap (beside op (Some (Some x))) (total-some (y ∷ ys) (omega arith))

module _ {L : Type 0} (op : L → L → Option L) (law : (x y z : L) → option_and_then (λ xy. op xy z) (op x y) ≡ option_and_then (λ yz. op x yz) (op y z)) where
  pub beside-assoc : (a b c : Option (Option L)) → beside op (beside op a b) c ≡ beside op a (beside op b c)
  beside-assoc None b c = refl
  beside-assoc (Some x) None c = refl
  beside-assoc (Some x) (Some y) None = refl
  beside-assoc (Some x) (Some y) (Some z) = ap Some (both-assoc op law x y z)

  pub total-append : (xs ys : List (Option L)) → total op (xs ++ ys) ≡ beside op (total op xs) (total op ys)
  total-append [] ys = refl
  total-append (x ∷ xs) ys = ap (beside op (Some x)) (total-append xs ys) ∙ sym (beside-assoc (Some x) (total op xs) (total op ys))

  pub total-pairs : (xs : List (Option L)) → total op (pairs op xs) ≡ total op xs
  total-pairs [] = refl
  total-pairs (x ∷ []) = refl
  total-pairs (x ∷ (y ∷ rest)) = ap (beside op (Some (both op x y))) (total-pairs rest) ∙ beside-assoc (Some x) (Some y) (total op rest)

  pub total-level : (xs : List (Option L)) (k : ℕ) → total op (level op xs k) ≡ total op xs
  total-level xs zero = refl
  total-level xs (suc k) = total-pairs (level op xs k) ∙ total-level xs k

  -- the first position of a stretch
  pub total-first : (xs : List (Option L)) (a b : ℕ) (x : Option L) → a < b → b ≤ length xs → x ≡ get_or xs a x
      → total op (slice_range xs a b) ≡ beside op (Some x) (total op (slice_range xs (a + 1) b))
  total-first xs a b x h w e =
      let cut : drop a xs ≡ x ∷ drop (a + 1) xs = drop-cons xs a x (omega arith) ∙ ap (λ y. y ∷ drop (suc a) xs) (sym e) ∙ ap (λ n. x ∷ drop n xs) (sym (add-one a)) in
      let more : b - a ≡ suc (b - (a + 1)) = omega arith in
      rw (more, cut) refl

  get_or-drop : (a i c : ℕ) (xs : List (Option L)) (d : Option L) → c ≡ a + i → get_or (drop a xs) i d ≡ get_or xs c d
  get_or-drop zero i c xs d e = ap (λ n. get_or xs n d) (omega arith)
  get_or-drop (suc a) i zero xs d e = absurd (omega arith)
  get_or-drop (suc a) i (suc c) [] d e = refl
  get_or-drop (suc a) i (suc c) (x ∷ xs) d e = get_or-drop a i c xs d (omega arith)

  -- the last position of a stretch
  pub total-last : (xs : List (Option L)) (a b c : ℕ) (x : Option L) → b ≡ c + 1 → a ≤ c → c < length xs → x ≡ get_or xs c x
      → total op (slice_range xs a b) ≡ beside op (total op (slice_range xs a c)) (Some x)
  total-last xs a b c x one h w e =
      let read : get_or (drop a xs) (c - a) x ≡ x = get_or-drop a (c - a) c xs x (omega arith) ∙ sym e in
      let more : b - a ≡ c - a + 1 = omega arith in
      let within : c - a < length (drop a xs) = omega (arith, length-drop a xs) in
      let cut : slice_range xs a b ≡ slice_range xs a c ++ (x ∷ []) =
      ap (λ n. take n (drop a xs)) more ∙ take_more (drop a xs) (c - a) x within ∙ ap (λ y. take (c - a) (drop a xs) ++ (y ∷ [])) read in
      ap (total op) cut ∙ total-append (slice_range xs a c) (x ∷ [])

  -- a stretch one level up
  pub total-up : (xs : List (Option L)) (a b i j : ℕ) → a ≡ 2 * i → b ≡ 2 * j → total op (slice_range (pairs op xs) i j) ≡ total op (slice_range xs a b)
  total-up xs a b i j h k =
      ap (λ ys. total op (take (j - i) ys)) (pairs-drop op i a xs h)
      ∙ ap (total op) (pairs-take op (j - i) (b - a) (drop a xs) (omega arith))
      ∙ total-pairs (take (b - a) (drop a xs))

  -- an empty stretch has no items
  pub total-empty : (xs : List (Option L)) (a b : ℕ) → b ≤ a → total op (slice_range xs a b) ≡ None
  total-empty xs a b h = let e : b - a ≡ 0 = omega arith in rw e refl

  pub worth-first : (before behind t rest : Option (Option L)) (x : Option L) → t ≡ beside op (Some x) rest
      → beside op (beside op before (Some x)) (beside op rest behind) ≡ beside op before (beside op t behind)
  worth-first before behind t rest x e =
      beside-assoc before (Some x) (beside op rest behind)
      ∙ ap (beside op before) (sym (beside-assoc (Some x) rest behind))
      ∙ ap (λ y. beside op before (beside op y behind)) (sym e)

  pub worth-last : (before behind t rest : Option (Option L)) (x : Option L) → t ≡ beside op rest (Some x)
      → beside op before (beside op rest (beside op (Some x) behind)) ≡ beside op before (beside op t behind)
  worth-last before behind t rest x e =
      ap (beside op before) (sym (beside-assoc rest (Some x) behind))
      ∙ ap (λ y. beside op before (beside op y behind)) (sym e)

  pub worth-up : (xs : List (Option L)) (a b : ℕ) → (a < b → a % 2 ≡ 0) → (a < b → b % 2 ≡ 0)
      → total op (slice_range (pairs op xs) (a / 2) (b / 2)) ≡ total op (slice_range xs a b)
  worth-up xs a b h k = elim (cases_lt a b) [
    | inl less ↦ let x = h less in let y = k less in total-up xs a b (a / 2) (b / 2) (omega arith) (omega arith)
    | inr more ↦ total-empty (pairs op xs) (a / 2) (b / 2) (omega arith) ∙ sym (total-empty xs a b more)
  ]

-- ---- Heights, lengths of levels and binary digits.

pow-suc : (k : ℕ) → 2 ^ suc k ≡ 2 * 2 ^ k
pow-suc k = ap (λ i. 2 ^ i) (sym (add-one k)) ∙ pow_more 2 k ∙ swapped (2 ^ k)
  where
    swapped : (n : ℕ) → n * 2 ≡ 2 * n
    swapped n = omega arith

pub pow-back : (i j : ℕ) → 2 ^ i < 2 ^ j → i < j
pow-back i j h = elim (cases_lt i j) [
  | inl less ↦ less
  | inr more ↦ let p : 2 ^ j ≤ 2 ^ i = pow-le-pow_right (omega arith) more in absurd (omega (arith, p, h))
]

-- at most one height
pub height-least : (n h k : ℕ) → 0 < n → IsHeight n h → IsHeight n k → h ≤ k
height-least n h k some a b =
    let x = a.least some in let y = b.room some in let z = pow-suc (k - 1) in
    let p : 2 ^ (h - 1) < 2 ^ suc (k - 1) = omega arith in
    let q = pow-back (h - 1) (suc (k - 1)) p in
    let s = b.some some in
    omega arith

pub height-same : (n h k : ℕ) → IsHeight n h → IsHeight n k → h ≡ k
height-same zero h k a b = a.none refl ∙ sym (b.none refl)
height-same (suc n) h k a b =
    let x = height-least (suc n) h k (omega arith) a b in let y = height-least (suc n) k h (omega arith) b a in omega arith

pub below-digits : (k n : ℕ) → n ≤ k → n < 2 ^ halvings k n
below-digits zero zero h = omega arith
below-digits zero (suc n) h = absurd (omega arith)
below-digits (suc k) zero h = omega arith
below-digits (suc k) (suc n) h =
    let less = below-digits k (suc n / 2) (omega arith) in
    let more = pow-suc (halvings k (suc n / 2)) in
    omega arith

pub height-digits : (n h : ℕ) → IsHeight n h → h ≤ binary_digits n + 1
height-digits zero h a = let x = a.none refl in omega arith
height-digits (suc n) h a =
    let d = binary_digits (suc n) in
    let x = a.least (omega arith) in let y = below-digits (suc n) (suc n) (omega arith) in let z = pow-suc d in
    let p : 2 ^ (h - 1) < 2 ^ suc d = omega arith in
    let q = pow-back (h - 1) (suc d) p in
    omega arith

pub height-met : (n c m : ℕ) → 0 < n → c + m ≡ 64 → n - 1 < 2 ^ m → 2 ^ m ≤ 2 * (n - 1) + 1 → IsHeight n (64 - c + 1)
height-met n c m h e below above =
    let f : 64 - c + 1 - 1 ≡ m = omega arith in
    record {
      none = λ z. absurd (omega arith);
      some = λ z. omega arith;
      room = λ z. rw f (omega arith);
      least = λ z. rw f (omega arith);
    }

module _ {L : Type 0} (op : L → L → Option L) where
  pub some-level : (xs : List (Option L)) (k : ℕ) → 0 < length xs → 0 < length (level op xs k)
  some-level xs zero h = h
  some-level xs (suc k) h = let x = some-level xs k h in let y = (length-pairs op (level op xs k)).0 in omega arith

  pub room-level : (xs : List (Option L)) (k j t : ℕ) → t ≡ k + j → length xs ≤ 2 ^ t → length (level op xs k) ≤ 2 ^ j
  room-level xs zero j t e h = let f : t ≡ j = omega arith in rw f at h
  room-level xs (suc k) j t e h =
      let x = room-level xs k (suc j) t (omega arith) h in
      let y = (length-pairs op (level op xs k)).1 in
      let z = pow-suc j in
      omega arith

  pub grown-level : (xs : List (Option L)) (k j t : ℕ) → t ≡ k + j → length (level op xs k) ≤ 2 ^ j → length xs ≤ 2 ^ t
  grown-level xs zero j t e h = let f : j ≡ t = omega arith in rw f at h
  grown-level xs (suc k) j t e h =
      let y = (length-pairs op (level op xs k)).0 in
      let z = pow-suc j in
      grown-level xs k (suc j) t (omega arith) (omega arith)

  pub none-level : (xs : List (Option L)) (k : ℕ) → length xs ≡ 0 → length (level op xs k) ≡ 0
  none-level xs zero h = h
  none-level xs (suc k) h = let x = none-level xs k h in let y = (length-pairs op (level op xs k)).1 in omega arith

  -- the last level has one
  pub last-one : (xs : List (Option L)) (n k h : ℕ) → length xs ≡ n → 0 < n → IsHeight n h → k + 1 ≡ h → length (level op xs k) ≡ 1
  last-one xs n k h same some a e =
      let room = a.room some in
      let long : length xs ≤ 2 ^ (h - 1) = omega arith in
      let x = room-level xs k 0 (h - 1) (omega arith) long in
      let y = some-level xs k (omega arith) in
      omega arith

  -- no level below the last has one
  pub inner-more : (xs : List (Option L)) (n k h : ℕ) → length xs ≡ n → 0 < n → IsHeight n h → k + 1 < h → 1 < length (level op xs k)
  inner-more xs n k h same some a e = elim (cases_lt 1 (length (level op xs k))) [
    | inl more ↦ more
    | inr one ↦
        let short : length xs ≤ 2 ^ k = grown-level xs k 0 k (omega arith) (omega arith) in
        let high : 2 ^ suc k ≤ 2 ^ (h - 1) = pow-le-pow_right (omega arith) (omega arith) in
        let least = a.least some in
        let twice = pow-suc k in
        absurd (omega arith)
  ]

  pub height-of-levels : (xs : List (Option L)) (n h : ℕ) → length xs ≡ n → (0 < n → 0 < h) → ((k : ℕ) → k + 1 ≡ h → length (level op xs k) ≡ 1)
      → ((k : ℕ) → k + 1 < h → 1 < length (level op xs k)) → IsHeight n h
  height-of-levels xs n zero same some last inner = record {
    none = λ z. refl;
    some = some;
    room = λ z. let no = some z in absurd (omega arith);
    least = λ z. let no = some z in absurd (omega arith);
  }
  height-of-levels xs n (suc zero) same some last inner =
      let one : length xs ≡ 1 = last 0 (omega arith) in
      let n-one : n ≡ 1 = omega arith in
      record {
        none = λ z. absurd (omega arith);
        some = some;
        room = λ z. rw n-one (omega arith);
        least = λ z. rw n-one (omega arith);
      }
  height-of-levels xs n (suc (suc k)) same some last inner =
      let one : length (level op xs (suc k)) ≡ 1 = last (suc k) (omega arith) in
      let more : 1 < length (level op xs k) = inner k (omega arith) in
      let top : suc (suc k) - 1 ≡ suc k = omega arith in
      let room : length xs ≤ 2 ^ suc k = grown-level xs (suc k) 0 (suc k) (omega arith) (omega arith) in
      let twice = pow-suc k in
      let some_items : 0 < n = not-none more in
      let large : 2 ^ k < length xs = below more in
      record {
        none = λ z. absurd (omega arith);
        some = λ z. omega arith;
        room = λ z. rw top (omega arith);
        least = λ z. rw top (omega arith);
      }
    where
      not-none : 1 < length (level op xs k) → 0 < n
      not-none more = elim (cases_lt 0 n) [
        | inl some ↦ some
        | inr none ↦ let e = none-level xs k (omega arith) in absurd (omega arith)
      ]

      below : 1 < length (level op xs k) → 2 ^ k < length xs
      below more = elim (cases_lt (2 ^ k) (length xs)) [
        | inl large ↦ large
        | inr small ↦ let short : length (level op xs k) ≤ 2 ^ 0 = room-level xs k 0 k (omega arith) small in absurd (omega arith)
      ]

-- ---- The levels of a tree, built and walked upwards.

pub pushed-before : {X : Type 0} (vs : List X) (v : X) (j : ℕ) (d : X) → j < length vs → get_or (vs ++ (v ∷ [])) j d ≡ get_or vs j d
pushed-before [] v j d h = absurd (omega arith)
pushed-before (w ∷ vs) v zero d h = refl
pushed-before (w ∷ vs) v (suc j) d h = pushed-before vs v j d (omega arith)

pub pushed-last : {X : Type 0} (vs : List X) (v : X) (j : ℕ) (d : X) → j ≡ length vs → get_or (vs ++ (v ∷ [])) j d ≡ v
pushed-last [] v zero d h = refl
pushed-last [] v (suc j) d h = absurd (omega arith)
pushed-last (w ∷ vs) v zero d h = absurd (omega arith)
pushed-last (w ∷ vs) v (suc j) d h = pushed-last vs v j d (omega arith)

not_none : (n h : ℕ) → IsHeight n h → 0 < h → 0 < n
not_none zero h a some = let e = a.none refl in absurd (omega arith)
not_none (suc n) h a some = omega arith

module _ {L : Type 0} (op : L → L → Option L) where
  -- one level more
  pub level_pushed : (xs : List (Option L)) (levels more : List (Vec (Option L) Global)) (v : Vec (Option L) Global) (k : ℕ)
      → more ≡ levels ++ (v ∷ []) → length levels ≡ k
      → ((j : ℕ) (d : Vec (Option L) Global) → j < k → (get_or levels j d).items ≡ level op xs j) → v.items ≡ level op xs k
      → (j : ℕ) (d : Vec (Option L) Global) → j < k + 1 → (get_or more j d).items ≡ level op xs j
  level_pushed xs levels more v k e n all top j d h = elim (cases_lt j k) [
    | inl less ↦ rw e (ap (λ w. w.items) (pushed-before levels v j d (omega arith)) ∙ all j d less)
    | inr last ↦
        let same : k ≡ j = omega arith in
        rw e (ap (λ w. w.items) (pushed-last levels v j d (omega arith)) ∙ top ∙ ap (level op xs) same)
  ]

  pub none_pushed : (xs : List (Option L)) (levels : List (Vec (Option L) Global)) (j : ℕ) (d : Vec (Option L) Global) → j < 0 → (get_or levels j d).items ≡ level op xs j
  none_pushed xs levels j d h = absurd (omega arith)

  -- the same first items are the same first joins
  pub same_start : (count : ℕ) (items others : List L) → take count items ≡ take count others → take count (map Some items) ≡ take count (map Some others)
  same_start count items others e = take-map Some count items ∙ ap (map Some) e ∙ sym (take-map Some count others)

  -- the joins that are kept are those of the new level
  pub beginning_known : (items : List L) (levels : List (Vec (Option L) Global)) (xs joins : List (Option L)) (k count half : ℕ) (d : Vec (Option L) Global)
      → AreLevels op items levels → IsBeginning levels (k + 1) half joins → 2 * half ≤ count
      → take count xs ≡ take count (level op (map Some items) k) → joins ≡ take (length joins) (pairs op xs)
  beginning_known items levels xs joins k count half d tree known h e = elim (cases_lt (k + 1) (length levels)) [
    | inl there ↦
        let read : (get_or levels (k + 1) d).items ≡ pairs op (level op (map Some items) k) = tree.each (k + 1) d there ∙ ap (level op (map Some items)) (add-one k) in
        let short = known.short in
        known.there d there ∙ ap (take (length joins)) read ∙ sym (pairs-same op count (length joins) xs (level op (map Some items) k) (omega arith) e)
    | inr missing ↦ let none = known.missing missing in rw none refl
  ]

  pub height_of_levels : (items : List L) (levels : List (Vec (Option L) Global)) → AreLevels op items levels → IsHeight (length items) (length levels)
  height_of_levels items levels tree = height-of-levels op (map Some items) (length items) (length levels) (length-map items Some) tree.some tree.last tree.inner

  pub levels_of_height : (items : List L) (levels : List (Vec (Option L) Global)) → IsHeight (length items) (length levels)
      → ((k : ℕ) (d : Vec (Option L) Global) → k < length levels → (get_or levels k d).items ≡ level op (map Some items) k) → AreLevels op items levels
  levels_of_height items levels height each = record {
    each = each;
    some = height.some;
    last = λ k e. last-one op (map Some items) (length items) k (length levels) (length-map items Some) (not_none (length items) (length levels) height (omega arith)) height e;
    inner = λ k e. inner-more op (map Some items) (length items) k (length levels) (length-map items Some) (not_none (length items) (length levels) height (omega arith)) height e;
  }

  pub chain_of_span : (items : List L) (a b : ℕ) → a < b → b ≤ length items → beside op (total op (slice_range (map Some items) a b)) None ≡ Some (chain op (slice_range items a b))
  chain_of_span items a b h w =
      let cut : slice_range (map Some items) a b ≡ map Some (slice_range items a b) = ap (take (b - a)) (drop-map Some a items) ∙ take-map Some (b - a) (drop a items) in
      let long : 0 < length (slice_range items a b) = omega (arith, length-take (b - a) (drop a items), length-drop a items) in
      beside-none op _ ∙ ap (total op) cut ∙ total-some op (slice_range items a b) long

  pub end_of_span : (items : List L) (levels : List (Vec (Option L) Global)) (k b c : ℕ) → AreLevels op items levels
      → b ≤ length (level op (map Some items) k) → 2 * c ≤ b → 0 < length items → k + 1 ≡ length levels → c ≡ 0
  end_of_span items levels k b c tree within half some e =
      let one = last-one op (map Some items) (length items) k (length levels) (length-map items Some) some (height_of_levels items levels tree) e in omega arith

  pub bound_of_span : (xs : List (Option L)) (b c : ℕ) → b ≤ length xs → 2 * c ≤ b → c ≤ length (pairs op xs)
  bound_of_span xs b c within half = let h = (length-pairs op xs).0 in omega arith

  pub some_levels : (items : List L) (levels : List (Vec (Option L) Global)) → AreLevels op items levels → 0 < length items → 0 < length levels
  some_levels items levels tree h = tree.some h

  pub no_levels : AreLevels op [] []
  no_levels = record { each = λ k d h. absurd (omega arith); some = λ h. absurd (omega arith); last = λ k h. absurd (omega arith); inner = λ k h. absurd (omega arith) }

module _ {L : Type 0} (op : L → L → Option L) (law : (x y z : L) → option_and_then (λ xy. op xy z) (op x y) ≡ option_and_then (λ yz. op x yz) (op y z)) where
  -- the last level is one join, that of all items
  pub last_total : (items : List L) (levels : List (Vec (Option L) Global)) (v : Vec (Option L) Global) → AreLevels op items levels
      → Some v ≡ slice_get levels (length levels - 1) → (length v.items ≡ 1) × (total op v.items ≡ Some (chain op items))
  last_total items levels v tree e =
      let k = length levels - 1 in
      let within = slice_get_within levels k v (sym e) in
      let read : get_or levels k v ≡ v = get_or_from_slice_get levels k v v (sym e) in
      let same : v.items ≡ level op (map Some items) k = ap (λ w. w.items) (sym read) ∙ tree.each k v within in
      let some : 0 < length items = not_none (length items) (length levels) (height_of_levels op items levels tree) (omega (arith, within)) in
      let one = last-one op (map Some items) (length items) k (length levels) (length-map items Some) some (height_of_levels op items levels tree) (omega (arith, within)) in (
        ap length same ∙ one,
        ap (total op) same ∙ total-level op law (map Some items) k ∙ total-some op items some,
      )

  pub whole_of_one : (ys : List (Option L)) (o whole : Option L) → length ys ≡ 1 → total op ys ≡ Some whole → Some o ≡ slice_get ys 0 → o ≡ whole
  whole_of_one [] o whole one t e = absurd (omega arith)
  whole_of_one (y ∷ []) o whole one t e = ap (λ x. unwrap_or x o) (e ∙ t)
  whole_of_one (y ∷ (z ∷ ys)) o whole one t e = absurd (omega arith)

  pub never_empty : (ys : List (Option L)) (o whole : Option L) → length ys ≡ 1 → None ≡ slice_get ys 0 → o ≡ whole
  never_empty [] o whole one e = absurd (omega arith)
  never_empty (y ∷ ys) o whole one e = cc
