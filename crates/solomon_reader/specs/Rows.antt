-- Small instances, and what the definitions give on them, each computed by hand.
use Rattle.std.specs.Prelude.{◌≡◌, ℕ, List, [], ◌∷◌, ◌++◌, codes, pos, neg_ℤ}
use Rattle.solomon_reader.specs.declared.row.Row.{Row}
use Rattle.solomon_reader.specs.Words.{words, Word, Foreign}
use Rattle.solomon_reader.specs.Problem.{Problem}
use Rattle.solomon_reader.specs.Distance.{distance}
use Rattle.solomon_reader.specs.Plan.{route_cost, plan_cost, Finishes}
use Rattle.solomon_reader.specs.Relaxed.{reduced_cost, IsRelaxed}
use Rattle.solomon_reader.specs.Region.{root_region, used_child, unused_child}
use Rattle.solomon_reader.specs.Bound.{ceiling_of, version_1, version_2, with_sets, with_rows, of_customers, Tree, leaf, split, IsRoundedUp, IsLeafValue, IsLeafValueAt, IsTreeBound}
use Rattle.solomon_reader.specs.Moves.{after_relocate, after_exchange, after_or_opt, after_two_opt_star, after_cross}
use Rattle.solomon_reader.specs.CustomerSets.{entries, need_by_load, way_over, CanServe, IsTooMuchInTime, IsNeeded}
use Rattle.solomon_reader.specs.SetPrices.{PricedSet}
use Rattle.solomon_reader.specs.SubsetRows.{SubsetRow, charges}
use Rattle.solomon_reader.specs.PricedLeaf.{without_rows}
use Rattle.solomon_reader.specs.SolutionText.{solution_text}
use Rattle.solomon_reader.specs.CertificateText.{certificate_text}

-- a unit of demand, open from 0 to 1000, no service
abbrev pub open_row : ℕ → ℕ → Row
open_row x y = record { x = x; y = y; demand = 1; ready = 0; due = 1000; service = 0 }

abbrev pub depot_row : Row
depot_row = record { x = 0; y = 0; demand = 0; ready = 0; due = 1000; service = 0 }

abbrev pub problem : ℕ → ℕ → List Row → Problem
problem fleet capacity rows = record { name = codes "T"; fleet = fleet; capacity = capacity; rows = rows }

-- one customer at (3,4)
abbrev pub one_customer : Problem
one_customer = problem 1 1 (depot_row ∷ open_row 3 4 ∷ [])

-- customers whose truncated distances break the triangle inequality
abbrev pub slanted : Problem
slanted = problem 1 2 (depot_row ∷ open_row 1 3 ∷ open_row 2 6 ∷ [])

-- two customers on a line, which one vehicle can serve
abbrev pub in_line : Problem
in_line = problem 2 2 (depot_row ∷ open_row 3 4 ∷ open_row 6 8 ∷ [])

-- the same, with a vehicle for each
abbrev pub narrow : Problem
narrow = problem 2 1 (depot_row ∷ open_row 3 4 ∷ open_row 6 8 ∷ [])

-- two customers close to each other, far from the depot
abbrev pub revisits : Problem
revisits = problem 1 3 (depot_row ∷ open_row 30 40 ∷ open_row 33 44 ∷ [])

pub record WorkedRows : Type 0 where
  pub words_cut : words (codes "T \n\t12") ≡ Word 1 (codes "T") ∷ Word 2 (codes "12") ∷ []
  pub foreign_byte : words (codes "T" ++ 200 ∷ []) ≡ Foreign 1 ∷ []
  pub one : plan_cost one_customer ((1 ∷ []) ∷ []) ≡ 100
  pub back : Finishes one_customer (1 ∷ []) 100
  pub truncated : distance slanted 0 1 ≡ 31
  pub rounded_once : plan_cost slanted ((1 ∷ []) ∷ []) ≡ 62
  pub detour : distance slanted 0 2 ≡ 63
  pub both : route_cost slanted (1 ∷ 2 ∷ []) ≡ 125
  pub far_alone : route_cost slanted (2 ∷ []) ≡ 126
  pub together : plan_cost in_line ((1 ∷ 2 ∷ []) ∷ []) ≡ 200
  pub apart : plan_cost in_line ((2 ∷ []) ∷ (1 ∷ []) ∷ []) ≡ 300
  pub ceiling : ceiling_of in_line ≡ 400
  pub cycle : route_cost revisits (2 ∷ 1 ∷ 2 ∷ []) ≡ 1200
  pub cycle_reduced : reduced_cost revisits (pos 0 ∷ pos 1100000 ∷ []) (2 ∷ 1 ∷ 2 ∷ []) ≡ neg_ℤ (pos 1000000)
  pub cycle_relaxed : IsRelaxed revisits (root_region 2) 0 (2 ∷ 1 ∷ 2 ∷ [])
  pub rounded : IsRoundedUp (pos 99001) 100
  pub solution : solution_text ((1 ∷ []) ∷ []) 100 ≡ codes "Route #1: 1\nCost 10.0\n"
  pub certificate : certificate_text (record { version = version_1; name = codes "T"; size = 1; neighbours = 8; bound = 100; tree = leaf (of_customers (pos 100000 ∷ [])) })
      ≡ codes "VRPTW-CERT 1\nINSTANCE T\nCUSTOMERS 1\nNEIGHBOURS 8\nBOUND 10.0\nTREE\nP 100000\nEND\n"

-- a price at each leaf
abbrev pub two_leaves : Tree
two_leaves = split (0, 1) (leaf (of_customers (pos 100000 ∷ pos 301000 ∷ []))) (leaf (of_customers (pos 401000 ∷ pos 0 ∷ [])))

pub record WorkedBounds : Type 0 where
  pub free_1 : IsTreeBound version_1 one_customer 8 (leaf (of_customers (pos 0 ∷ []))) 0
  pub free_2 : IsTreeBound version_2 one_customer 8 (leaf (of_customers (pos 0 ∷ []))) 100
  pub two_leaves_1 : IsTreeBound version_1 narrow 8 two_leaves 199
  pub two_leaves_2 : IsTreeBound version_2 narrow 8 two_leaves 199
  pub used_leaf : IsLeafValue version_2 narrow (used_child (root_region 2) (0, 1)) 8 (pos 100000 ∷ pos 301000 ∷ []) 199
  pub unused_leaf : IsLeafValue version_2 narrow (unused_child (root_region 2) (0, 1)) 8 (pos 401000 ∷ pos 0 ∷ []) 801
  pub remembered : ¬ IsRelaxed revisits (root_region 2) 1 (2 ∷ 1 ∷ 2 ∷ [])

-- customers 1 and 2, who need two vehicles, at a price of 100,000 grains an entry
abbrev pub pair_priced : PricedSet
pair_priced = record { members = 1 ∷ 2 ∷ []; need = 2; price = 100000 }

-- two of them far from the depot: 1,010 tenths by 1, 1,011 directly
abbrev pub by_detour : Problem
by_detour = problem 1 2 (depot_row ∷ open_row 16 48 ∷ record { x = 32; y = 96; demand = 1; ready = 0; due = 101; service = 0 } ∷ [])

-- three customers at one place, each served for longer than the others are open
abbrev pub busy_row : Row
busy_row = record { x = 3; y = 4; demand = 1; ready = 0; due = 10; service = 20 }

abbrev pub busy : Problem
busy = problem 2 3 (depot_row ∷ busy_row ∷ busy_row ∷ busy_row ∷ [])

-- What sets of customers need, and a leaf at which one has a price.
pub record WorkedSets : Type 0 where
  pub from_depot : entries (1 ∷ []) (1 ∷ 2 ∷ []) ≡ 1
  pub within : entries (1 ∷ 2 ∷ []) (1 ∷ 2 ∷ []) ≡ 1
  pub again : entries (1 ∷ 2 ∷ []) (1 ∷ 3 ∷ 2 ∷ []) ≡ 2
  pub passed_by : entries (1 ∷ 2 ∷ []) (3 ∷ []) ≡ 0
  pub loaded : need_by_load narrow (1 ∷ 2 ∷ []) ≡ 2
  pub direct : distance by_detour 0 2 ≡ 1011
  pub detour : way_over by_detour (1 ∷ []) 0 2 ≡ 1010
  pub in_time : CanServe by_detour 0 0 (2 ∷ [])
  pub too_much : IsTooMuchInTime busy (1 ∷ 2 ∷ 3 ∷ [])
  pub two_needed : IsNeeded busy (1 ∷ 2 ∷ 3 ∷ []) 2
  pub priced : IsLeafValueAt version_2 narrow (root_region 2) 8 (without_rows (pos 0 ∷ pos 100000 ∷ []) (pair_priced ∷ [])) 300
  pub text : certificate_text (record {
    version = with_sets (record { members = 1 ∷ 2 ∷ []; need = 2 } ∷ []);
    name = codes "T";
    size = 2;
    neighbours = 8;
    bound = 300;
    tree = leaf (record { customers = pos 0 ∷ pos 100000 ∷ []; sets = (1, 100000) ∷ []; rows = [] });
  })
      ≡ codes "VRPTW-SETS 1\nINSTANCE T\nCUSTOMERS 2\nNEIGHBOURS 8\nBOUND 30.0\nS 2 1 2\nTREE\nP 0 100000\nM 1 100000\nEND\n"

-- three customers at one place, of whom a vehicle holds two, and a fourth elsewhere
abbrev pub crowd : Problem
crowd = problem 3 2 (depot_row ∷ open_row 3 4 ∷ open_row 3 4 ∷ open_row 3 4 ∷ open_row 6 8 ∷ [])

-- the three alone
abbrev pub trio : Problem
trio = problem 2 2 (depot_row ∷ open_row 3 4 ∷ open_row 3 4 ∷ open_row 3 4 ∷ [])

abbrev pub the_three : SubsetRow
the_three = record { first = 1; second = 2; third = 3 }

-- What a row of three customers charges, and a leaf at which it has a price: two routes' worth, where without it a route and a half.
pub record WorkedSubsetRows : Type 0 where
  pub first_visit : charges crowd 8 the_three (1 ∷ []) ≡ 0
  pub two_visits : charges crowd 8 the_three (1 ∷ 2 ∷ []) ≡ 1
  pub three_visits : charges crowd 8 the_three (1 ∷ 2 ∷ 3 ∷ []) ≡ 1
  pub four_visits : charges crowd 8 the_three (1 ∷ 2 ∷ 1 ∷ 2 ∷ []) ≡ 2
  pub kept_on_the_way : charges crowd 1 the_three (1 ∷ 4 ∷ 2 ∷ []) ≡ 1
  pub lost_on_the_way : charges crowd 0 the_three (1 ∷ 4 ∷ 2 ∷ []) ≡ 0
  pub kept_among_them : charges crowd 0 the_three (1 ∷ 2 ∷ []) ≡ 1
  pub without : IsLeafValueAt version_2 trio (root_region 3) 8 (record { customers = pos 50000 ∷ pos 50000 ∷ pos 50000 ∷ []; sets = []; rows = [] }) 150
  pub priced :
      IsLeafValueAt version_2 trio (root_region 3) 8
      (record { customers = pos 100000 ∷ pos 100000 ∷ pos 100000 ∷ []; sets = []; rows = record { row = the_three; price = 100000 } ∷ [] }) 200
  pub text : certificate_text (record {
    version = with_rows [] (the_three ∷ []);
    name = codes "T";
    size = 3;
    neighbours = 8;
    bound = 200;
    tree = leaf (record { customers = pos 100000 ∷ pos 100000 ∷ pos 100000 ∷ []; sets = []; rows = (1, 100000) ∷ [] });
  })
      ≡ codes "VRPTW-ROWS 1\nINSTANCE T\nCUSTOMERS 3\nNEIGHBOURS 8\nBOUND 20.0\nR 1 2 3\nTREE\nP 100000 100000 100000\nM\nQ 1 100000\nEND\n"

-- Each kind of move on small routes.
pub record WorkedMoves : Type 0 where
  pub relocate : after_relocate ((2 ∷ []) ∷ (1 ∷ []) ∷ []) 0 0 1 0 ≡ (2 ∷ 1 ∷ []) ∷ []
  pub relocate_within : after_relocate ((1 ∷ 2 ∷ 3 ∷ []) ∷ []) 0 0 0 2 ≡ (2 ∷ 3 ∷ 1 ∷ []) ∷ []
  pub relocate_to_new : after_relocate ((1 ∷ 2 ∷ []) ∷ []) 0 1 1 0 ≡ (1 ∷ []) ∷ (2 ∷ []) ∷ []
  pub exchange : after_exchange ((1 ∷ 4 ∷ []) ∷ (3 ∷ 2 ∷ []) ∷ []) 0 1 1 1 ≡ (1 ∷ 2 ∷ []) ∷ (3 ∷ 4 ∷ []) ∷ []
  pub exchange_within : after_exchange ((1 ∷ 2 ∷ 3 ∷ []) ∷ []) 0 0 0 2 ≡ (3 ∷ 2 ∷ 1 ∷ []) ∷ []
  pub chain : after_or_opt ((1 ∷ 4 ∷ []) ∷ (3 ∷ 2 ∷ []) ∷ []) 0 0 2 1 0 ≡ (1 ∷ 4 ∷ 3 ∷ 2 ∷ []) ∷ []
  pub chain_within : after_or_opt ((1 ∷ 2 ∷ 3 ∷ 4 ∷ []) ∷ []) 0 1 2 0 2 ≡ (1 ∷ 4 ∷ 2 ∷ 3 ∷ []) ∷ []
  pub ends : after_two_opt_star ((1 ∷ 4 ∷ []) ∷ (3 ∷ 2 ∷ []) ∷ []) 0 1 1 1 ≡ (1 ∷ 2 ∷ []) ∷ (3 ∷ 4 ∷ []) ∷ []
  pub chains : after_cross ((1 ∷ 2 ∷ 3 ∷ []) ∷ (4 ∷ 5 ∷ []) ∷ []) 0 0 2 1 1 1 ≡ (5 ∷ 3 ∷ []) ∷ (4 ∷ 1 ∷ 2 ∷ []) ∷ []
