-- The stops beside the places of a route, and what a change of them changes of the cost, in tenths.
use Rattle.std.specs.Prelude.{◌≡◌, ℕ, ◌+◌, ◌*◌, ◌≤◌, List, ◌∷◌, [], take, drop, map, ℤ, pos, ◌+ℤ◌, ◌-ℤ◌, ◌≤ℤ◌}
use Rattle.solomon_reader.specs.declared.limits.TheConstants.{MOST_DISTANCE}
use Rattle.solomon_reader.specs.Problem.{Problem, customer_count}
use Rattle.solomon_reader.specs.Distance.{distance}
use Rattle.solomon_reader.specs.Moves.{route}
use Rattle.segments.specs.Segments.{Summary, first_of, last_from}
use Rattle.moves.specs.declared.candidate.Chain.{Chain}
use Rattle.moves.specs.declared.candidate.Move.{Move}
use Rattle.moves.specs.declared.candidate.Kind.{Kind}
use Rattle.moves.specs.declared.candidate.Kind.TheVariants as kind
use Rattle.moves.specs.declared.flanks.Flanks.{Flanks}
use Rattle.moves.specs.declared.first_chain.FirstChain.{FirstChain}
use Rattle.moves.specs.Order.{kind_of}
use Rattle.moves.specs.Search.{numbers, stop_count}
use Rattle.moves.specs.Values.{HasValue}

-- the customers of single stops
abbrev pub customers_of : List Summary → List ℕ
customers_of stops = map (λ s. s.first) stops

-- the flanks of the place of a route behind its first k stops; the depot, 0, stands at both ends
abbrev pub flanks_of : List ℕ → ℕ → Flanks
flanks_of r k = record { before = last_from 0 (take k r); behind = first_of (drop k r) }

-- the stops beside a place are rows of the instance
pub record AreKnownFlanks (p : Problem) (g : Flanks) : Type 0 where
  pub before : g.before ≤ customer_count p
  pub behind : g.behind ≤ customer_count p

-- by how much the cost changes where what stands behind two places is exchanged
abbrev pub ends_change : Problem → Flanks → Flanks → ℤ
ends_change p g h =
    pos (distance p g.before h.behind + distance p h.before g.behind) -ℤ pos (distance p g.before g.behind + distance p h.before h.behind)

-- where a chain leaves its route, from the place in front of it to the one behind it
abbrev pub leaving_change : Problem → Flanks → Flanks → ℤ
leaving_change p front rear =
    pos (distance p front.before rear.behind) -ℤ pos (distance p front.before front.behind + distance p rear.before rear.behind)

-- and where it goes into a place
abbrev pub entering_change : Problem → Flanks → Flanks → Flanks → ℤ
entering_change p front rear g =
    pos (distance p g.before front.behind + distance p rear.before g.behind) -ℤ pos (distance p g.before g.behind)

-- a change of cost by few arcs
abbrev pub IsSmall : ℤ → Type 0
IsSmall v = (pos 0 ≤ℤ (v +ℤ pos (2 * MOST_DISTANCE))) × (v ≤ℤ pos (2 * MOST_DISTANCE))

-- the numbers of two chains
abbrev pub numbers_of : Chain → Chain → List ℕ
numbers_of f s = f.route ∷ f.position ∷ f.length ∷ s.route ∷ s.position ∷ s.length ∷ []

-- each move of the kind with the numbers of these two chains changes the cost by v, if it leaves a plan
abbrev pub HasChange : Problem → List (List ℕ) → Kind → Chain → Chain → ℤ → Type 0
HasChange p routes k f s v = (n : Move) (u : ℤ) → kind_of n ≡ k → numbers n ≡ numbers_of f s → HasValue p routes n u → u ≡ v

-- none of them leaves a plan
abbrev pub HasNone : Problem → List (List ℕ) → Kind → Chain → Chain → Type 0
HasNone p routes k f s = (n : Move) (u : ℤ) → kind_of n ≡ k → numbers n ≡ numbers_of f s → ¬ HasValue p routes n u

-- how many stops a move of the kind takes first, where l is its number; none where ends change places
abbrev pub taken_by : Kind → ℕ → ℕ
taken_by kind.Relocate l = 1
taken_by kind.Exchange l = 1
taken_by kind.OrOpt l = l
taken_by kind.TwoOptStar l = 0
taken_by kind.Cross l = l

-- they stand in their route
abbrev pub StandsFirst : List (List ℕ) → Kind → Chain → Type 0
StandsFirst routes k f = f.position + taken_by k f.length ≤ stop_count routes f.route

-- the chain that a move of the kind with these numbers takes first, between the places at its ends
pub record IsFirstChain (p : Problem) (routes : List (List ℕ)) (k : Kind) (c : FirstChain) : Type 0 where
  pub taken : c.taken ≡ taken_by k c.numbers.length
  pub stands : StandsFirst routes k c.numbers
  pub front : c.front ≡ flanks_of (route routes c.numbers.route) c.numbers.position
  pub rear : c.rear ≡ flanks_of (route routes c.numbers.route) (c.numbers.position + taken_by k c.numbers.length)
  pub leaving : c.leaving ≡ leaving_change p c.front c.rear
  pub small : IsSmall c.leaving
  pub known_front : AreKnownFlanks p c.front
  pub known_rear : AreKnownFlanks p c.rear
