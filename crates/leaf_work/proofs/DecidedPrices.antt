-- Prices at which all fitting routes on allowed arcs have one reduced cost are those of a decided region: where every allowed arc is required no customer stands twice in the routes that are gathered.
use Rattle.std.proofs.Common.{◌≡◌, ◌≢◌, refl, ℕ, ◌+◌, ◌*◌, ◌≤◌, List, [], ◌∷◌, length, arith, ◌∙◌, inl, inr, sym, zero, suc, ◌-◌, ◌<◌, get_or, set, get_or-set_other, ap}
use Rattle.std.specs.Prelude.{ℤ, pos, negsuc, ◌+ℤ◌, ◌-ℤ◌, ◌≤ℤ◌, Some, None, Option, IfSome, MatchOption}
use Rattle.std.specs.List.{AllByRecursion, flat_map}
use Rattle.std.proofs.lemmas.Int.{ints}
use Rattle.std.proofs.lemmas.Nat.{mul-le}
use Rattle.std.proofs.lemmas.Bool.{cases_eq, cases_lt}
use Rattle.solomon_reader.specs.Problem.{Problem, IsCustomer, customers, customer_count}
use Rattle.solomon_reader.specs.Plan.{IsPlan, arcs_from, plan_cost, IsFitting, count_of}
use Rattle.solomon_reader.specs.Region.{Region, Among, IsAllowed, Obeys}
use Rattle.solomon_reader.specs.Relaxed.{IsRelaxed, IsLeastOrZero, reduced_cost, int_sum_by, int_sum, price_of}
use Rattle.solomon_reader.specs.Bound.{Version, routes_counted, IsLeafValue, ceiling_of, version_2}
use Rattle.solomon_reader.specs.SumLaws.{up, down, int_sum-permutation, prices_sum, times_down, times_up}
use Rattle.solomon_reader.specs.RelaxedLaws.{is_relaxed, reduced_sum}
use Rattle.solomon_reader.specs.DualityLaws.{ceiling_holds}
use Rattle.solomon_reader.specs.SetDualityLaws.{same_without}
use Rattle.branching.specs.Choosing.{IsDecided}
use Rattle.solomon_reader.specs.PlanDefects.{stops}
use Rattle.solomon_reader.specs.AmongLaws.{weaker}
use Rattle.solomon_reader.specs.CountLaws.{mark, mark-same, mark-other, count-cons, count-append, count_none, count_positive, All-flat, permutation_from_counts, count-range_below}
use Rattle.solomon_reader.specs.CountLaws.{count-range_above, count-range_within}
use Rattle.solomon_reader.specs.CertificateText.{IsPrice}
use Rattle.solomon_reader.specs.ArcLaws.{count-route}
use Rattle.schedule.specs.Solution.{Solution}
use Rattle.prices.specs.ValuedPrices.{ValuedPrices, IsValued}
use Rattle.leaf_work.specs.Gathering.{FitsIn, IsGathered, begins, HasRoom}
use Rattle.leaf_work.specs.declared.fee.TheConstants.{MOST_FEE}
use Rattle.prices.specs.Narrowing.{IsPricedAt}
use Rattle.leaf_work.specs.Splitting.{IsDecidedLeaf}
use Rattle.leaf_work.specs.DecidedPrices.{AreDecidedPrices, IsDecidedBy}
use Rattle.leaf_work.proofs.Obeying.{same_before, same_next}

-- every fitting route on allowed arcs pays its cost and the fee
pub record IsUniform (p : Problem) (g : Region) (prices : List ℤ) (fee : ℕ) : Type 0 where
  pub each : (r : List ℕ) → FitsIn p g r → reduced_cost p prices r +ℤ pos fee ≡ pos 0

down_le : (m : ℤ) (fee : ℕ) → (pos 0 -ℤ pos fee) ≤ℤ m → down m ≤ fee
down_le (pos n) fee h = omega arith
down_le (negsuc n) fee h = omega (arith, ints, h)

up_none : (m : ℤ) → m ≤ℤ pos 0 → up m ≡ 0
up_none (pos n) h = omega (arith, ints, h)
up_none (negsuc n) h = refl

pub fits_in : (p : Problem) (g : Region) (k : ℕ) (r : List ℕ) → IsRelaxed p g k r → FitsIn p g r
fits_in p g k r h = record { fitting = h.fitting; allowed = h.allowed }

module _ (p : Problem) (g : Region) (prices : List ℤ) (fee : ℕ) (uniform : IsUniform p g prices fee) where
  -- the least reduced cost is a route's, or 0 where there is none
  least_within : (k : ℕ) (m : ℤ) → IsLeastOrZero p g k prices m → ((pos 0 -ℤ pos fee) ≤ℤ m) × (m ≤ℤ pos 0)
  least_within k m (inl is) =
      let r = is.reached.0 in
      let e : reduced_cost p prices r ≡ m = is.reached.2 in
      let paid : m +ℤ pos fee ≡ pos 0 = rw e at (uniform.each r (fits_in p g k r is.reached.1)) in
      (omega (arith, ints, paid), omega (arith, ints, paid))
  least_within k m (inr none) = (omega (arith, ints, none.1), omega (arith, ints, none.1))

  module _ (version : Version) (k v : ℕ) (value : IsLeafValue version p g k prices v) where
    taken : down value.least ≤ fee
    taken = down_le value.least fee (least_within k value.least value.is_least).0

    -- no route costs more than its prices, so that the rules agree
    counted_free : routes_counted version p * up value.least ≡ 0
    counted_free = rw (up_none value.least (least_within k value.least value.is_least).1) (omega arith)

    -- what the fleet takes back is at most the fees
    pub value_covers : int_sum prices ≤ℤ pos (1000 * v + p.fleet * fee)
    value_covers =
        let most : p.fleet * down value.least ≤ p.fleet * fee = mul-le p.fleet (down value.least) p.fleet fee (omega arith) taken in
        omega (arith, ints, value.rounded.covers, times_down p.fleet value.least, times_up (routes_counted version p) value.least, counted_free, most)

    pub value_least : (cost : ℕ) → int_sum prices ≡ pos (1000 * cost) → v ≤ cost
    value_least cost e =
        value.rounded.least cost (omega (arith, ints, e, times_down p.fleet value.least, times_up (routes_counted version p) value.least, counted_free))

  module _ (routes : List (List ℕ)) (size : g.size ≡ customer_count p) (priced : length prices ≡ customer_count p) (plan : IsPlan p routes) (obeys : Obeys g routes) where
    fees : (rs : List (List ℕ)) → ((r : List ℕ) → Among r rs → FitsIn p g r) → int_sum_by (reduced_cost p prices) rs +ℤ pos (length rs * fee) ≡ pos 0
    fees [] h = omega (arith, ints)
    fees (r ∷ rs) h =
        let here = uniform.each r (h r (inl refl)) in
        let rest = fees rs (λ q a. h q (inr a)) in
        omega (arith, ints, here, rest)

    -- the prices pay for each plan that obeys the region, and a fee for each of its routes
    pub paid : int_sum prices ≡ pos (1000 * plan_cost p routes + length routes * fee)
    paid =
        let all = fees routes (λ r a. fits_in p g 0 r (is_relaxed p g 0 routes size plan obeys r a)) in
        let same : int_sum_by (price_of prices) (flat_map (λ r. r) routes) ≡ int_sum prices =
        int_sum-permutation (price_of prices) (customers p) (flat_map (λ r. r) routes) plan.each_once ∙ prices_sum prices (customer_count p) priced in
        omega (arith, ints, all, same, reduced_sum p prices routes)

    -- where the prices are more than fleet and ceiling can pay, there is no such plan
    pub none_pays : pos (1000 * (ceiling_of p + 1) + p.fleet * fee) ≤ℤ int_sum prices → ⊥
    none_pays high =
        let most : length routes * fee ≤ p.fleet * fee = mul-le (length routes) fee p.fleet fee plan.fleet (omega arith) in
        omega (arith, ints, high, paid, most, ceiling_holds p routes plan)

-- where prices are gathered, a route pays for itself
module _ (p : Problem) (g : Region) (decided : IsDecided g) (fee : ℕ) (prices : List ℤ) (routes : List (List ℕ)) (all : IsGathered p g (customer_count p + 1) fee prices routes) where
  unstarted : (i v : ℕ) → i ≢ 0 → v ≢ 0 → IsAllowed g (i, v) → ¬ IsAllowed g (0, v)
  unstarted i v some nz a b = some (same_before g decided i 0 v nz a b)

  later_unpaid : (i : ℕ) (q : List ℕ) → i ≢ 0 → AllByRecursion (IsCustomer p) q → AllByRecursion (IsAllowed g) (arcs_from i q) → int_sum_by (price_of prices) q ≡ pos 0
  later_unpaid i [] nz known allowed = refl
  later_unpaid i (v ∷ q) nz known allowed =
      let some : v ≢ 0 = λ e. omega (arith, known.0.0) in
      let here : price_of prices v ≡ pos 0 = all.unpaid v known.0.0 (omega (arith, known.0.1)) (unstarted i v nz some allowed.0) in
      let rest = later_unpaid v q some known.1 allowed.1 in
      omega (arith, ints, here, rest)

  pays : (r : List ℕ) → FitsIn p g r → reduced_cost p prices r +ℤ pos fee ≡ pos 0
  pays [] f = absurd (omega (arith, f.fitting.some))
  pays (v ∷ q) f =
      let here = all.paid v q (omega (arith, f.fitting.known.0.1)) f in
      let rest = later_unpaid v q (λ e. omega (arith, f.fitting.known.0.0)) f.fitting.known.1 f.allowed.1 in
      omega (arith, ints, here, rest)

  pub gathered_uniform : IsUniform p g prices fee
  gathered_uniform = record { each = pays }

  stands : (r : List ℕ) → FitsIn p g r → Among r routes
  stands [] f = absurd (omega (arith, f.fitting.some))
  stands (v ∷ q) f = all.there v q (omega (arith, f.fitting.known.0.1)) f

  pub all_there : (r : List ℕ) → FitsIn p g r → Among r routes
  all_there r f = stands r f

-- ---- Where every allowed arc is required, no customer stands twice in the routes that are gathered; so where none is missing, they are a plan.

module _ (g : Region) (decided : IsDecided g) where
  -- an arc goes on to v exactly where it leaves u
  same_mark : (u v i j : ℕ) → u ≢ 0 → v ≢ 0 → IsAllowed g (u, v) → j ≢ 0 → IsAllowed g (i, j) → mark v j ≡ mark u i
  same_mark u v i j nu nv a nj b =
      elim (cases_eq j v) [
        | inl e ↦ (let same : i ≡ u = same_before g decided i u v nv (rw e at b) a in rw (e, same) (mark-same v ∙ sym (mark-same u)))
        | inr d ↦ (let other : i ≡ u → ⊥ = λ e. d (same_next g decided u j v nu (rw e at b) a) in mark-other v j d ∙ sym (mark-other u i other))
      ]

  module _ (u v : ℕ) (nu : u ≢ 0) (nv : v ≢ 0) (a : IsAllowed g (u, v)) where
    -- v stands in a list as often as u
    count_next : (i : ℕ) (q : List ℕ) → AllByRecursion (λ x. 1 ≤ x) q → AllByRecursion (IsAllowed g) (arcs_from i q) → count_of v q ≡ mark u i + count_of u q
    count_next i [] known allowed =
        let other : i ≡ u → ⊥ = λ e. nv (sym (same_next g decided u 0 v nu (rw e at allowed.0) a)) in
        omega (arith, mark-other u i other)
    count_next i (j ∷ q) known allowed =
        let some : j ≢ 0 = λ e. omega (arith, known.0) in
        omega (arith, count-cons v j q, count-cons u j q, same_mark u v i j nu nv a some allowed.0, count_next j q known.1 allowed.1)

    count_all_next : (p : Problem) (routes : List (List ℕ)) → AllByRecursion (FitsIn p g) routes → count_of v (stops routes) ≡ count_of u (stops routes)
    count_all_next p [] all = refl
    count_all_next p (r ∷ routes) all =
        let other : 0 ≡ u → ⊥ = λ e. nu (sym e) in
        let here = count_next 0 r (weaker (IsCustomer p) (λ x. 1 ≤ x) (λ x h. h.0) r all.0.fitting.known) all.0.allowed in
        omega (arith, here, mark-other u 0 other, count_all_next p routes all.1, count-append v r (stops routes), count-append u r (stops routes))

  module _ (v : ℕ) (nv : v ≢ 0) (a : IsAllowed g (0, v)) where
    -- a first stop stands nowhere else
    count_later : (i : ℕ) (q : List ℕ) → i ≢ 0 → AllByRecursion (λ x. 1 ≤ x) q → AllByRecursion (IsAllowed g) (arcs_from i q) → count_of v q ≡ 0
    count_later i [] ni known allowed = refl
    count_later i (j ∷ q) ni known allowed =
        let other : j ≡ v → ⊥ = λ e. ni (same_before g decided i 0 v nv (rw e at allowed.0) a) in
        omega (arith, count-cons v j q, mark-other v j other, count_later j q (λ e. omega (arith, known.0)) known.1 allowed.1)

    count_first : (p : Problem) (routes : List (List ℕ)) → AllByRecursion (FitsIn p g) routes → count_of v (stops routes) ≡ begins v routes
    count_first p [] all = refl
    count_first p ([] ∷ routes) all = absurd (omega (arith, all.0.fitting.some))
    count_first p ((x ∷ q) ∷ routes) all =
        let low = weaker (IsCustomer p) (λ x. 1 ≤ x) (λ x h. h.0) q all.0.fitting.known.1 in
        let here = count_later x q (λ e. omega (arith, all.0.fitting.known.0.0)) low all.0.allowed.1 in
        omega (arith, count-append v (x ∷ q) (stops routes), count-cons v x q, here, count_first p routes all.1)

module _ (p : Problem) (g : Region) (decided : IsDecided g) (c fee : ℕ) (prices : List ℤ) (routes : List (List ℕ)) (all : IsGathered p g c fee prices routes) where
  abbrev Once : ℕ → Type 0
  Once v = count_of v (stops routes) ≤ 1

  along : (i : ℕ) (q : List ℕ) → i ≢ 0 → Once i → AllByRecursion (λ x. 1 ≤ x) q → AllByRecursion (IsAllowed g) (arcs_from i q) → AllByRecursion Once q
  along i [] ni once known allowed = tt
  along i (j ∷ q) ni once known allowed =
      let nj : j ≢ 0 = λ e. omega (arith, known.0) in
      let here : Once j = omega (arith, once, count_all_next g decided i j ni nj allowed.0 p routes all.fits) in
      (here, along j q nj here known.1 allowed.1)

  in_route : (r : List ℕ) → FitsIn p g r → AllByRecursion Once r
  in_route [] f = tt
  in_route (x ∷ q) f =
      let nx : x ≢ 0 = λ e. omega (arith, f.fitting.known.0.0) in
      let here : Once x = omega (arith, count_first g decided x nx f.allowed.0 p routes all.fits, all.once x) in
      (here, along x q nx here (weaker (IsCustomer p) (λ x. 1 ≤ x) (λ x h. h.0) q f.fitting.known.1) f.allowed.1)

  each_once : (v : ℕ) → Once v
  each_once v =
      elim (cases_lt (count_of v (stops routes)) 1) [
        | inl none ↦ omega arith
        | inr some ↦ count_positive v Once (stops routes) (All-flat Once routes (weaker (FitsIn p g) (AllByRecursion Once) in_route routes all.fits)) some
      ]

  known : AllByRecursion (IsCustomer p) (stops routes)
  known = All-flat (IsCustomer p) routes (weaker (FitsIn p g) (AllByRecursion (IsCustomer p)) (λ r f. f.fitting.known) routes all.fits)

  module _ (there : (i : ℕ) → IsCustomer p i → 1 ≤ count_of i (stops routes)) (few : length routes ≤ p.fleet) where
    counts : (i : ℕ) → count_of i (customers p) ≡ count_of i (stops routes)
    counts i =
        elim (cases_lt i 1) [
          | inl low ↦ omega (arith, count-range_below i 1 (customer_count p) low, count_none i (IsCustomer p) (stops routes) known (λ h. omega (arith, h.0)))
          | inr above ↦ elim (cases_lt (customer_count p) i) [
            | inl high ↦ omega (arith, count-range_above i 1 (customer_count p) (omega arith), count_none i (IsCustomer p) (stops routes) known (λ h. omega (arith, h.1)))
            | inr within ↦ (let h : IsCustomer p i = (omega arith, omega arith) in omega (arith, count-range_within i 1 (customer_count p) (omega arith) (omega arith), each_once i, there i h))
          ]
        ]

    pub gathered_plan : IsPlan p routes
    gathered_plan = record {
      fleet = few;
      fitting = weaker (FitsIn p g) (IsFitting p) (λ r f. f.fitting) routes all.fits;
      each_once = permutation_from_counts (customers p) (stops routes) counts;
    }

-- ---- The prices of a decided region.

pub in_range : (prices : List ℤ) → AllByRecursion HasRoom prices → AllByRecursion IsPrice prices
in_range prices all = weaker HasRoom IsPrice (λ z h. omega (arith, h)) prices all

sum_set : (zs : List ℤ) (i d : ℕ) → i < length zs → int_sum (set zs i (get_or zs i (pos 0) +ℤ pos d)) ≡ int_sum zs +ℤ pos d
sum_set [] i d h = absurd (omega arith)
sum_set (z ∷ zs) zero d h = omega (arith, ints)
sum_set (z ∷ zs) (suc i) d h = (let rest = sum_set zs i d (omega arith) in omega (arith, ints, rest))

room_at : (zs : List ℤ) (i : ℕ) → AllByRecursion HasRoom zs → i < length zs → HasRoom (get_or zs i (pos 0))
room_at [] i all h = absurd (omega arith)
room_at (z ∷ zs) zero all h = all.0
room_at (z ∷ zs) (suc i) all h = room_at zs i all.1 (omega arith)

abs_more : (z : ℤ) (d : ℕ) → HasRoom z → d ≤ MOST_FEE → IsPrice (z +ℤ pos d)
abs_more (pos n) d h k = omega (arith, ints, h)
abs_more (negsuc n) d h k = grind (arith, ints)

all_set : (zs : List ℤ) (i : ℕ) (y : ℤ) → AllByRecursion IsPrice zs → IsPrice y → AllByRecursion IsPrice (set zs i y)
all_set [] i y all h = tt
all_set (z ∷ zs) zero y all h = (h, all.1)
all_set (z ∷ zs) (suc i) y all h = (all.0, all_set zs i y all.1 h)

length_set : (zs : List ℤ) (i : ℕ) (y : ℤ) → length (set zs i y) ≡ length zs
length_set [] i y = refl
length_set (z ∷ zs) zero y = refl
length_set (z ∷ zs) (suc i) y = ap suc (length_set zs i y)

pub raised_range : (zs : List ℤ) (i d : ℕ) → AllByRecursion HasRoom zs → i < length zs → d ≤ MOST_FEE → AllByRecursion IsPrice (set zs i (get_or zs i (pos 0) +ℤ pos d))
raised_range zs i d all h k = all_set zs i _ (in_range zs all) (abs_more (get_or zs i (pos 0)) d (room_at zs i all h) k)

module _ (p : Problem) (g : Region) (size : g.size ≡ customer_count p) where
  above : (prices : List ℤ) (fee : ℕ) → IsUniform p g prices fee → length prices ≡ customer_count p
      → pos (1000 * (ceiling_of p + 1) + p.fleet * fee) ≤ℤ int_sum prices → AreDecidedPrices p g prices None
  above prices fee uniform priced high = (
    λ version k v value. omega (arith, ints, high, value_covers p g prices fee uniform version k v value),
    λ routes plan obeys. none_pays p g prices fee uniform routes size priced plan obeys high,
  )

  module _ (decided : IsDecided g) where
    pub too_many : (prices : List ℤ) (fee : ℕ) (routes : List (List ℕ)) → IsGathered p g (customer_count p + 1) fee prices routes
        → fee ≡ 1000 * (ceiling_of p + 1) → p.fleet < length routes → AreDecidedPrices p g prices None
    too_many prices fee routes all is many =
        let most : (p.fleet + 1) * fee ≤ length routes * fee = mul-le (p.fleet + 1) fee (length routes) fee (omega arith) (omega arith) in
        above prices fee (gathered_uniform p g decided fee prices routes all) (omega (arith, all.count)) (omega (arith, ints, all.sum, most, is))

    module _ (prices : List ℤ) (routes : List (List ℕ)) (all : IsGathered p g (customer_count p + 1) 0 prices routes) where
      pub planned : (f : Solution) → f.cost ≡ plan_cost p routes → Obeys g f.routes → AreDecidedPrices p g prices (Some f)
      planned f e obeys =
          let uniform = gathered_uniform p g decided 0 prices routes all in
          let sum : int_sum prices ≡ pos (1000 * f.cost) = omega (arith, ints, all.sum, e) in (
            λ version k v value. omega (arith, ints, sum, value_covers p g prices 0 uniform version k v value, value_least p g prices 0 uniform version k v value f.cost sum),
            (obeys, λ others plan obeyed. omega (arith, ints, sum, paid p g prices 0 uniform others size (omega (arith, all.count)) plan obeyed)),
          )

      module _ (c d : ℕ) (customer : IsCustomer p c) (missing : count_of c (stops routes) ≡ 0) where
        abbrev raised : List ℤ
        raised = set prices (c - 1) (get_or prices (c - 1) (pos 0) +ℤ pos d)

        same_prices : (r : List ℕ) → AllByRecursion (IsCustomer p) r → count_of c r ≡ 0 → int_sum_by (price_of raised) r ≡ int_sum_by (price_of prices) r
        same_prices [] known none = refl
        same_prices (x ∷ r) known none =
            let other : x - 1 ≢ c - 1 = λ e. (let same : x ≡ c = omega (arith, e, known.0.0, customer.0) in
            let m : mark c x ≡ 1 = rw same (mark-same c) in omega (arith, none, count-cons c x r, m)) in
            let here : price_of raised x ≡ price_of prices x = rw get_or-set_other refl in
            let rest = same_prices r known.1 (omega (arith, none, count-cons c x r)) in
            omega (arith, ints, here, rest)

        pub unserved_above : d ≡ 1000 * (ceiling_of p + 1) → AreDecidedPrices p g raised None
        unserved_above is =
            let uniform = gathered_uniform p g decided 0 prices routes all in
            let free : (r : List ℕ) → FitsIn p g r → count_of c r ≡ 0 = λ r f. omega (arith, missing, count-route c r routes (all_there p g decided 0 prices routes all r f)) in
            let still : IsUniform p g raised 0 = record { each = λ r f. (let e = uniform.each r f in omega (arith, ints, e, same_prices r f.fitting.known (free r f))) } in
            above raised 0 still (length_set prices (c - 1) _ ∙ omega (arith, all.count))
            (omega (arith, ints, is, all.sum, sum_set prices (c - 1) d (omega (arith, all.count, customer.0, customer.1))))

-- ---- The value of a leaf with the prices of its decided region.

module _ (p : Problem) (g : Region) (prices : List ℤ) (f : ValuedPrices) (is : IsValued f) (problem : f.problem ≡ p) (region : f.region ≡ g) (priced : f.prices ≡ prices) (none : f.sets ≡ []) (free : f.rows ≡ []) where
  valued : IsLeafValue version_2 p g f.neighbours prices f.value
  valued = (same_without version_2 p g f.neighbours prices f.value).0 (rw (problem, region, priced, none, free) at is.valued)

  pub decided_value : (plan : Option Solution) → AreDecidedPrices p g prices plan → MatchOption plan (ceiling_of p + 1 ≤ f.value) (λ s. f.value ≡ s.cost)
  decided_value None s = s.0 version_2 f.neighbours f.value valued
  decided_value (Some x) s = s.0 version_2 f.neighbours f.value valued

  pub decided_plans : (plan : Option Solution) → AreDecidedPrices p g prices plan → IsDecidedBy p g f.value plan
  decided_plans None s = s.1
  decided_plans (Some x) s = rw (decided_value (Some x) s) s.1

-- so a leaf without an open arc comes to those prices
pub decides_leaf : (f decided : ValuedPrices) (prices : List ℤ) (plan : Option Solution) → IsDecided f.region → AreDecidedPrices f.problem f.region prices plan
    → IfSome plan (λ s. s.problem ≡ f.problem) → IsPricedAt f.region f decided → decided.prices ≡ prices → decided.sets ≡ [] → decided.rows ≡ [] → IsValued decided
    → IsDecidedLeaf f decided plan
decides_leaf f decided prices plan closed deciding own at same none free valued = record {
  closed = closed;
  priced = at;
  sets = none;
  rows = free;
  valued = valued;
  own = own;
  value = decided_value f.problem f.region prices decided valued at.problem at.region same none free plan deciding;
  all_plans = decided_plans f.problem f.region prices decided valued at.problem at.region same none free plan deciding;
}
