-- A plan enters a set at least as often as it needs.
use Rattle.std.proofs.Common.{◌≡◌, refl, ℕ, zero, suc, ◌+◌, ◌*◌, ◌<◌, ◌≤◌, true, false, cond, List, [], ◌∷◌, ◌++◌, length, arith, ap, sym, ◌∙◌, ◌⊎◌, inl, inr, ne_eqb, eqb-true}
use Rattle.std.specs.Prelude.{◌==◌}
use Rattle.std.specs.List.{sum_by, flat_map, filter, AllByRecursion}
use Rattle.std.specs.List.Sorted.{IsPermutation}
use Rattle.std.proofs.lemmas.Bool.{cases_Bool, cases_lt, cases_eq, or_from, or_cases, or_parts, false≢true, eqb-false}
use Rattle.std.proofs.lemmas.List.{append-nil}
use Rattle.std.proofs.lemmas.List.Elements.{filter-append}
use Rattle.std.proofs.lemmas.List.Sums.{sum_by-cons, sum_by-append}
use Rattle.std.proofs.lemmas.List.Sorted.{sum_by-IsPermutation, length_permutation}
use Rattle.std.proofs.lemmas.Nat.{mul-le}
use Rattle.solomon_reader.specs.Problem.{Problem, IsCustomer, customers, customer_count, demand, ready, due, service}
use Rattle.solomon_reader.specs.Distance.{distance}
use Rattle.solomon_reader.specs.Plan.{IsPlan, IsFitting, Walks, arcs_from, count_of}
use Rattle.solomon_reader.specs.Region.{Among}
use Rattle.solomon_reader.specs.AmongLaws.{among_all}
use Rattle.solomon_reader.specs.CountLaws.{mark, mark-same, mark-other, count-cons, count-range_within, permutation_from_counts}
use Rattle.solomon_reader.specs.LoadLaws.{quotient-le}
use Rattle.solomon_reader.specs.CustomerSets.{IsRisingFrom, IsCustomerSet, holds, enters, entries, plan_entries, way_over, begins_at, CanServe, IsServedInTime}
use Rattle.solomon_reader.specs.SetDuality.{NeedsHold}

-- ---- the members of a set

-- a rising list has nothing up to where it begins
pub holds_low : (s : List ℕ) (low i : ℕ) → IsRisingFrom low s → i ≤ low → holds s i ≡ false
holds_low [] low i h k = refl
holds_low (j ∷ s) low i h k = or_from (j == i) (holds s i) (ne_eqb j i (λ e. omega (arith, h.0, k, e))) (holds_low s j i h.1 (omega (arith, h.0, k)))

pub depot_outside : (n : ℕ) (s : List ℕ) → IsCustomerSet n s → holds s 0 ≡ false
depot_outside n s set = holds_low s 0 0 set.rising (omega arith)

count_no : (s : List ℕ) (i : ℕ) → holds s i ≡ false → count_of i s ≡ 0
count_no [] i h = refl
count_no (j ∷ s) i h =
    let parts = or_parts (j == i) (holds s i) h in
    omega (arith, count-cons i j s, mark-other i j (eqb-false j i parts.0), count_no s i parts.1)

count_yes : (s : List ℕ) (low i : ℕ) → IsRisingFrom low s → holds s i ≡ true → count_of i s ≡ 1
count_yes [] low i rising h = absurd (false≢true h)
count_yes (j ∷ s) low i rising h =
    elim (cases_eq j i) [
      | inl e ↦ let one : mark i j ≡ 1 = rw e (mark-same i) in
          omega (arith, one, count-cons i j s, count_no s i (holds_low s j i rising.1 (omega (arith, e))))
      | inr d ↦ elim (or_cases (j == i) (holds s i) h) [
        | inl e ↦ absurd (d (eqb-true j i e))
        | inr there ↦ omega (arith, count-cons i j s, mark-other i j d, count_yes s j i rising.1 there)
      ]
    ]

member_low : (s : List ℕ) (low i : ℕ) → IsRisingFrom low s → holds s i ≡ true → low < i
member_low s low i rising h =
    elim (cases_lt low i) [ inl lower ↦ lower | inr above ↦ absurd (false≢true (sym (holds_low s low i rising (omega (arith, above))) ∙ h)) ]

member_known : (n : ℕ) (s : List ℕ) (i : ℕ) → AllByRecursion (λ j. j ≤ n) s → holds s i ≡ true → i ≤ n
member_known n [] i all h = absurd (false≢true h)
member_known n (j ∷ s) i all h =
    elim (or_cases (j == i) (holds s i) h) [
      | inl e ↦ omega (arith, all.0, eqb-true j i e)
      | inr there ↦ member_known n s i all.1 there
    ]

-- ---- what a set keeps of a list

kept : List ℕ → List ℕ → List ℕ
kept s r = filter (holds s) r

kept_more : (s : List ℕ) (j : ℕ) (r : List ℕ) → holds s j ≡ true → kept s (j ∷ r) ≡ j ∷ kept s r
unfolding kept
kept_more s j r h = rw h refl

kept_same : (s : List ℕ) (j : ℕ) (r : List ℕ) → holds s j ≡ false → kept s (j ∷ r) ≡ kept s r
unfolding kept
kept_same s j r h = rw h refl

kept_nil : (s : List ℕ) → kept s [] ≡ []
unfolding kept
kept_nil s = refl

kept_append : (s xs ys : List ℕ) → kept s (xs ++ ys) ≡ kept s xs ++ kept s ys
unfolding kept
kept_append s xs ys = filter-append (holds s) xs ys

count_kept : (s : List ℕ) (i : ℕ) (r : List ℕ) → holds s i ≡ true → count_of i (kept s r) ≡ count_of i r
count_kept s i [] h = ap (count_of i) (kept_nil s)
count_kept s i (j ∷ r) h =
    elim (cases_Bool (holds s j)) [
      | inl there ↦ omega (arith, ap (count_of i) (kept_more s j r there), count-cons i j (kept s r), count-cons i j r, count_kept s i r h)
      | inr out ↦ omega (
        arith,
        ap (count_of i) (kept_same s j r out),
        count-cons i j r,
        mark-other i j (λ e. false≢true (sym out ∙ ap (holds s) e ∙ h)),
        count_kept s i r h,
      )
    ]

count_dropped : (s : List ℕ) (i : ℕ) (r : List ℕ) → holds s i ≡ false → count_of i (kept s r) ≡ 0
count_dropped s i [] h = ap (count_of i) (kept_nil s)
count_dropped s i (j ∷ r) h =
    elim (cases_Bool (holds s j)) [
      | inl there ↦ omega (
        arith,
        ap (count_of i) (kept_more s j r there),
        count-cons i j (kept s r),
        mark-other i j (λ e. false≢true (sym h ∙ ap (holds s) (sym e) ∙ there)),
        count_dropped s i r h,
      )
      | inr out ↦ omega (arith, ap (count_of i) (kept_same s j r out), count_dropped s i r h)
    ]

sum_kept : (f : ℕ → ℕ) (s r : List ℕ) → sum_by f (kept s r) ≤ sum_by f r
sum_kept f s [] = rw (kept_nil s) (omega arith)
sum_kept f s (j ∷ r) =
    elim (cases_Bool (holds s j)) [
      | inl there ↦ omega (arith, ap (sum_by f) (kept_more s j r there), sum_by-cons f j (kept s r), sum_by-cons f j r, sum_kept f s r)
      | inr out ↦ omega (arith, ap (sum_by f) (kept_same s j r out), sum_by-cons f j r, sum_kept f s r)
    ]

stops : List (List ℕ) → List ℕ
stops routes = flat_map (λ r. r) routes

kept_stops : (s r : List ℕ) (routes : List (List ℕ)) → kept s (stops (r ∷ routes)) ≡ kept s r ++ kept s (stops routes)
unfolding stops
kept_stops s r routes = kept_append s r (flat_map (λ q. q) routes)

-- the members stand in a plan once each
members : (p : Problem) (s : List ℕ) (routes : List (List ℕ)) → IsCustomerSet (customer_count p) s → IsPlan p routes → IsPermutation s (kept s (stops routes))
unfolding stops
members p s routes set plan = permutation_from_counts s (kept s (stops routes)) counts
  where
    same : (i : ℕ) → count_of i (stops routes) ≡ count_of i (customers p)
    same i = sum_by-IsPermutation (λ x. cond (x == i) 1 0) (customers p) (stops routes) plan.each_once

    counts : (i : ℕ) → count_of i s ≡ count_of i (kept s (stops routes))
    counts i =
        elim (cases_Bool (holds s i)) [
          | inl there ↦
              let low = member_low s 0 i set.rising there in
              let high = member_known (customer_count p) s i set.known there in
              omega (
                arith,
                count_yes s 0 i set.rising there,
                count_kept s i (stops routes) there,
                same i,
                count-range_within i 1 (customer_count p) (omega (arith, low)) (omega (arith, high)),
              )
          | inr out ↦ omega (arith, count_no s i out, count_dropped s i (stops routes) out)
        ]

-- ---- entries

pub entries_from : List ℕ → ℕ → List ℕ → ℕ
entries_from s i r = sum_by (λ a. cond (enters s a) 1 0) (arcs_from i r)

pub entries_more : (s : List ℕ) (i j : ℕ) (r : List ℕ) → entries_from s i (j ∷ r) ≡ cond (enters s (i, j)) 1 0 + entries_from s j r
unfolding entries_from
entries_more s i j r = sum_by-cons (λ a. cond (enters s a) 1 0) (i, j) (arcs_from j r)

pub entries_end : (s : List ℕ) (i : ℕ) → entries_from s i [] ≡ cond (enters s (i, 0)) 1 0
unfolding entries_from
entries_end s i = omega (arith, sum_by-cons (λ a. cond (enters s a) 1 0) (i, 0) [])

entered : (s : List ℕ) (i j : ℕ) → holds s j ≡ true → holds s i ≡ false → suc zero ≡ cond (enters s (i, j)) 1 0
entered s i j there out = rw (there, out) refl

-- a list that is begun outside and never enters has no member
none_kept : (s : List ℕ) (i : ℕ) (r : List ℕ) → holds s i ≡ false → entries_from s i r ≡ 0 → kept s r ≡ []
none_kept s i [] out none = kept_nil s
none_kept s i (j ∷ r) out none =
    elim (cases_Bool (holds s j)) [
      | inl there ↦ absurd (omega (arith, none, entered s i j there out, entries_more s i j r))
      | inr outside ↦ kept_same s j r outside ∙ none_kept s j r outside (omega (arith, none, entries_more s i j r))
    ]

pub entries_is : (s r : List ℕ) → entries s r ≡ entries_from s 0 r
unfolding entries_from
entries_is s r = refl

plan_more : (s r : List ℕ) (routes : List (List ℕ)) → plan_entries s (r ∷ routes) ≡ entries s r + plan_entries s routes
plan_more s r routes = sum_by-cons (entries s) r routes

module _ (s : List ℕ) (outside : holds s 0 ≡ false) where
  unvisited : (r : List ℕ) → entries s r ≡ 0 → kept s r ≡ []
  unvisited r none = none_kept s 0 r outside (omega (arith, none, entries_is s r))

  unvisited_all : (routes : List (List ℕ)) → plan_entries s routes ≡ 0 → kept s (stops routes) ≡ []
  unfolding stops
  unvisited_all [] none = kept_nil s
  unvisited_all (r ∷ routes) none =
      kept_stops s r routes ∙ ap (λ l. l ++ kept s (stops routes)) (unvisited r (omega (arith, none, plan_more s r routes)))
      ∙ unvisited_all routes (omega (arith, none, plan_more s r routes))

  -- where all routes enter at most once together, one of them has all the members, or there is none
  one_route : (routes : List (List ℕ)) → plan_entries s routes ≤ 1
      → (kept s (stops routes) ≡ []) ⊎ ((r : List ℕ) × Among r routes × (kept s (stops routes) ≡ kept s r))
  unfolding stops
  one_route [] few = inl (kept_nil s)
  one_route (r ∷ routes) few =
      elim (cases_eq (entries s r) 0) [
        | inl none ↦
            let same : kept s (stops (r ∷ routes)) ≡ kept s (stops routes) = kept_stops s r routes ∙ ap (λ l. l ++ kept s (stops routes)) (unvisited r none) in
            elim (one_route routes (omega (arith, few, plan_more s r routes))) [
              | inl empty ↦ inl (same ∙ empty)
              | inr found ↦ inr (found.0, inr found.1, same ∙ found.2)
            ]
        | inr one ↦
            let rest : kept s (stops routes) ≡ [] = unvisited_all routes (omega (arith, few, one, plan_more s r routes)) in
            inr (r, inl refl, kept_stops s r routes ∙ ap (λ l. kept s r ++ l) rest ∙ append-nil (kept s r))
      ]

  -- ---- by load

  module _ (p : Problem) where
    route_load : (r : List ℕ) → IsFitting p r → sum_by (demand p) (kept s r) ≤ entries s r * p.capacity
    route_load r fits =
        elim (cases_eq (entries s r) 0) [
          | inl none ↦ rw (unvisited r none) (omega arith)
          | inr some ↦ omega (arith, sum_kept (demand p) s r, fits.load, mul-le 1 p.capacity (entries s r) p.capacity (omega (arith, some)) (omega arith))
        ]

    members_load : (routes : List (List ℕ)) → AllByRecursion (IsFitting p) routes → sum_by (demand p) (kept s (stops routes)) ≤ plan_entries s routes * p.capacity
    unfolding stops
    members_load [] fits = rw (kept_nil s) (omega arith)
    members_load (r ∷ routes) fits =
        let total : plan_entries s (r ∷ routes) * p.capacity ≡ entries s r * p.capacity + plan_entries s routes * p.capacity =
        rw (plan_more s r routes) (omega arith) in
        omega (
          arith,
          total,
          ap (sum_by (demand p)) (kept_stops s r routes),
          sum_by-append (demand p) (kept s r) (kept s (stops routes)),
          route_load r fits.0,
          members_load routes fits.1,
        )

-- ---- by time

last_of : ℕ → List ℕ → ℕ
last_of i [] = i
last_of i (k ∷ path) = last_of k path

-- how long the way along a path takes
gone : Problem → ℕ → List ℕ → ℕ
gone p i [] = 0
gone p i (k ∷ path) = distance p i k + gone p k path

way_gone : (p : Problem) (path : List ℕ) (i j : ℕ) → way_over p path i j ≡ gone p i path + distance p (last_of i path) j
unfolding last_of gone
way_gone p [] i j = omega arith
way_gone p (k ∷ path) i j = omega (arith, way_gone p path k j)

gone_more : (p : Problem) (path : List ℕ) (i c : ℕ) → gone p i (path ++ (c ∷ [])) ≡ gone p i path + distance p (last_of i path) c
unfolding last_of gone
gone_more p [] i c = omega arith
gone_more p (k ∷ path) i c = omega (arith, gone_more p path k c)

last_more : (path : List ℕ) (i c : ℕ) → c ≡ last_of i (path ++ (c ∷ []))
unfolding last_of
last_more [] i c = refl
last_more (k ∷ path) i c = last_more path k c

gone_nil : (p : Problem) (i : ℕ) → gone p i [] ≡ 0
unfolding gone
gone_nil p i = refl

last_nil : (i : ℕ) → i ≡ last_of i []
unfolding last_of
last_nil i = refl

rows_more : (P : ℕ → Type 0) (path : List ℕ) (c : ℕ) → AllByRecursion P path → P c → AllByRecursion P (path ++ (c ∷ []))
rows_more P [] c all here = (here, tt)
rows_more P (k ∷ path) c all here = (all.0, rows_more P path c all.1 here)

module _ (p : Problem) (s : List ℕ) where
  abbrev IsRow : ℕ → Type 0
  IsRow k = k ≤ customer_count p

  -- a vehicle that walks a route serves the members on it in turn: what lies between two of them is a way, and takes no less
  serves : (i from : ℕ) (path : List ℕ) (c t : ℕ) (r times : List ℕ) (finish : ℕ) → AllByRecursion IsRow path → c ≡ last_of i path → from + gone p i path ≤ t
      → AllByRecursion (IsCustomer p) r → Walks p c t r times finish → finish ≤ due p 0 → CanServe p i from (kept s r)
  serves i from path c t [] [] finish rows ends before known walks closing =
      rw (kept_nil s) (path, rows, omega (arith, way_gone p path i 0, ap (λ x. distance p x 0) ends, before, walks, closing))
  serves i from path c t [] (b ∷ times) finish rows ends before known walks closing = absurd walks
  serves i from path c t (j ∷ r) [] finish rows ends before known walks closing = absurd walks
  serves i from path c t (j ∷ r) (b ∷ times) finish rows ends before known walks closing =
      elim (cases_Bool (holds s j)) [
        | inl there ↦
            let early : begins_at p (from + way_over p path i j) j ≤ b =
            omega (arith, way_gone p path i j, ap (λ x. distance p x j) ends, before, walks.0) in
            rw (kept_more s j r there) (
              path,
              rows,
              (
                omega (arith, early, walks.1),
                serves j (begins_at p (from + way_over p path i j) j + service p j) [] j (b + service p j) r times finish tt (last_nil j) (omega (arith, early, gone_nil p j)) known.1 walks.2 closing,
              ),
            )
        | inr out ↦
            rw (kept_same s j r out) (serves i from (path ++ (j ∷ [])) j (b + service p j) r times finish (rows_more IsRow path j rows known.0.1) (last_more path i j)
            (omega (arith, gone_more p path i j, ap (λ x. distance p x j) ends, before, walks.0)) known.1 walks.2 closing)
      ]

twice_entered : (p : Problem) (s : List ℕ) (routes : List (List ℕ)) → IsCustomerSet (customer_count p) s → IsPlan p routes → 1 ≤ length s → ¬ IsServedInTime p s
    → 2 ≤ plan_entries s routes
twice_entered p s routes set plan some late =
    elim (cases_lt (plan_entries s routes) 2) [
      | inl few ↦
          let order = members p s routes set plan in
          elim (one_route s (depot_outside (customer_count p) s set) routes (omega (arith, few))) [
            | inl none ↦ absurd (omega (arith, some, length_permutation s (kept s (stops routes)) order, ap length none))
            | inr found ↦
                let fits = among_all (IsFitting p) routes plan.fitting found.0 found.1 in
                let walk = fits.walk.1 in
                absurd (late (
                  kept s found.0,
                  rw found.2 at order,
                  serves p s 0 (ready p 0) [] 0 (ready p 0) found.0 walk.times fits.walk.0 tt (last_nil 0) (omega (arith, gone_nil p 0)) fits.known walk.walks walk.closing,
                ))
          ]
      | inr enough ↦ omega (arith, enough)
    ]

pub needs_hold : NeedsHold
needs_hold p s n routes set (inl light) plan =
    let same : sum_by (demand p) (kept s (stops routes)) ≡ sum_by (demand p) s = sum_by-IsPermutation (demand p) s (kept s (stops routes)) (members p s routes set plan) in
    omega (
      arith,
      light,
      quotient-le (sum_by (demand p) s) (plan_entries s routes) p.capacity
          (omega (arith, same, members_load s (depot_outside (customer_count p) s set) p routes plan.fitting)),
    )
needs_hold p s n routes set (inr slow) plan = omega (arith, slow.0, twice_entered p s routes set plan slow.1.some slow.1.late)
