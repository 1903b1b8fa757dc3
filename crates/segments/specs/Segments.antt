-- Segments: what a list of stops does to an arrival time, and what it costs and loads.
use Rattle.std.specs.Prelude.{◌≡◌, ℕ, ◌+◌, ◌*◌, ◌<◌, ◌≤◌, Bool, ◌&&◌, nat_le, List, [], ◌∷◌, length, ℤ, pos, ◌+ℤ◌, ◌-ℤ◌, ◌≤ℤ◌, int_le, Option, Some, None, if◌then◌else◌}
use Rattle.std.specs.Int.{int_min, int_max}
use Rattle.solomon_reader.specs.declared.limits.TheConstants.{MOST_TIME}
use Rattle.solomon_reader.specs.Problem.{Problem, ready, due, service, demand, customer_count}
use Rattle.solomon_reader.specs.Distance.{distance}
use Rattle.solomon_reader.specs.Segments.{leaving, inner_cost, capped, capped_load}

abbrev pub first_of : List ℕ → ℕ
first_of [] = 0
first_of (i ∷ r) = i

abbrev pub last_from : ℕ → List ℕ → ℕ
last_from i [] = i
last_from i (j ∷ r) = last_from j r

abbrev pub last_of : List ℕ → ℕ
last_of [] = 0
last_of (i ∷ r) = last_from i r

-- what a segment says of its list; times and the cost are tenths
pub record Summary : Type 0 where
  pub load : ℕ
  pub cost : ℕ
  pub first : ℕ
  pub last : ℕ
  pub latest : ℤ
  pub duration : ℤ
  pub earliest : ℤ

-- an arrival at t is feasible where t is at most the latest, and is then left at the greater of t plus the duration and the earliest
abbrev pub leaves : Summary → ℤ → Option ℤ
leaves s t = if int_le t s.latest then Some (int_max (t +ℤ s.duration) s.earliest) else None

-- s is the segment of the list
pub record IsSegment (p : Problem) (r : List ℕ) (s : Summary) : Type 0 where
  pub some : 0 < length r
  pub load : s.load ≡ capped_load p r
  pub cost : s.cost ≡ inner_cost p r
  pub first : s.first ≡ first_of r
  pub last : s.last ≡ last_of r
  pub times : (t : ℤ) → leaving p r t ≡ leaves s t

-- at no time can the list be reached so that each stop is in time
abbrev pub NoneFeasible : Problem → List ℕ → Type 0
NoneFeasible p r = (t : ℤ) → leaving p r t ≡ None

abbrev pub SomeFeasible : Problem → List ℕ → Type 0
SomeFeasible p r = (t : ℤ) × (u : ℤ) × (leaving p r t ≡ Some u)

-- the segment of the list, which some arrival can use, or none where none can
abbrev pub IsSegmentOrNone : Problem → List ℕ → Option Summary → Type 0
IsSegmentOrNone p r (Some s) = IsSegment p r s × SomeFeasible p r
IsSegmentOrNone p r None = NoneFeasible p r

-- the segment of one customer
abbrev pub stop : Problem → ℕ → Summary
stop p i = record {
  load = demand p i;
  cost = 0;
  first = i;
  last = i;
  latest = pos (due p i);
  duration = pos (service p i);
  earliest = pos (ready p i + service p i);
}

-- the arc from a to b is known, and some arrival is feasible
abbrev pub follows : Problem → Summary → Summary → Bool
follows p a b =
    (nat_le a.last (customer_count p) && nat_le b.first (customer_count p))
    && int_le (a.earliest +ℤ pos (distance p a.last b.first)) b.latest

-- the segment of the joined lists
abbrev pub joined : Problem → Summary → Summary → Summary
joined p a b =
    let arc = distance p a.last b.first in
    record {
      load = capped (a.load + b.load);
      cost = a.cost + arc + b.cost;
      first = a.first;
      last = b.last;
      latest = int_min a.latest ((b.latest -ℤ a.duration) -ℤ pos arc);
      duration = a.duration +ℤ pos arc +ℤ b.duration;
      earliest = int_max (a.earliest +ℤ pos arc +ℤ b.duration) b.earliest;
    }

-- none at an unknown stop, and where no arrival is feasible
abbrev pub join : Problem → Summary → Summary → Option Summary
join p a b = if follows p a b then Some (joined p a b) else None

-- what holds of each segment, however long
pub record IsBounded (s : Summary) : Type 0 where
  pub load : s.load ≤ 4294967295
  pub cost : pos s.cost ≤ℤ s.duration
  pub duration : s.duration ≤ℤ s.earliest
  pub earliest : s.earliest ≤ℤ pos (20 * MOST_TIME)
  pub low : pos 0 ≤ℤ (s.latest +ℤ s.duration)
  pub high : (s.latest +ℤ s.duration) ≤ℤ pos (20 * MOST_TIME)
