-- Bounds on what may follow.
use Rattle.std.proofs.Common.{◌≡◌, refl, ℕ, ◌+◌, ◌*◌, ◌<◌, ◌≤◌, eqb, List, [], ◌∷◌, arith, ap, sym, ◌∙◌, inl, inr, ◌⊎◌}
use Rattle.std.specs.Prelude.{ℤ, pos, ◌+ℤ◌, ◌-ℤ◌, ◌≤ℤ◌}
use Rattle.std.proofs.lemmas.Int.{ints}
use Rattle.std.proofs.lemmas.Bool.{eq-eqb, or_left}
use Rattle.std.proofs.lemmas.List.Sums.{sum_by-cons}
use Rattle.solomon_reader.specs.declared.limits.TheConstants.{MOST_PRICE, MOST_CAPACITY}
use Rattle.solomon_reader.specs.Distance.{distance}
use Rattle.solomon_reader.specs.Plan.{load_of}
use Rattle.solomon_reader.specs.Problem.{IsCustomer, demand, due}
use Rattle.solomon_reader.specs.States.{Pricing, State, arc_value, begins, step, Completes, value_with}
use Rattle.fronts.specs.declared.front.Front.{Front}
use Rattle.completions.specs.declared.bound.Bound.{Bound}
use Rattle.completions.specs.declared.brink.Brink.{Brink}
use Rattle.completions.specs.Completions.{most_paid, IsSmall, Holds, IsFrom, IsBound, StartsIn, IsBoundAmong, IsEndBound, IsBoundWith, IsOnward, IsBelowStep, IsJoined, IsBrink, IsLowEnough}
use Rattle.fronts.specs.Fronts.{bare_state, IsPaid, IsAfter}
use Rattle.solomon_reader.specs.Memories.{place_of}
use Rattle.solomon_reader.proofs.Places.{near_at}
use Rattle.solomon_reader.specs.Region.{IsAllowed}
use Rattle.fronts.specs.Steps.{IsReachable}
use Rattle.fronts.proofs.Stepping.{can_reach}
use Rattle.solomon_reader.proofs.Completions.{never_back}

module _ (q : Pricing) where
  pub load_fits : (s : List ℕ) (a : State) → a.load ≤ q.problem.capacity → Completes q a s → a.load + load_of q.problem s ≤ q.problem.capacity
  load_fits [] a light h = omega arith
  load_fits (j ∷ s) a light h = omega (arith, load_fits s (step q a j) h.0.load h.1, sum_by-cons (demand q.problem) j s)

  pub room_whole : (s : List ℕ) (a : State) → Completes q a s → load_of q.problem s ≤ q.problem.capacity
  room_whole [] a h = omega arith
  room_whole (j ∷ s) a h = omega (arith, load_fits s (step q a j) h.0.load h.1, sum_by-cons (demand q.problem) j s)

  module _ (task : IsPaid q) where
    least_whole : (s : List ℕ) (a : State) → Completes q a s → a.cost ≤ℤ (value_with q a s +ℤ pos (MOST_PRICE * load_of q.problem s))
    least_whole [] a h = omega (arith, ints)
    least_whole (j ∷ s) a h =
        omega (arith, ints, least_whole s (step q a j) h.1, (task.priced a.last j h.0.customer).high, task.carried j h.0.customer, sum_by-cons (demand q.problem) j s)

    pub paid_little : q.problem.capacity ≤ MOST_CAPACITY → (s : List ℕ) (a : State) → Completes q a s → a.cost ≤ℤ (value_with q a s +ℤ pos most_paid)
    paid_little held s a h = omega (arith, ints, least_whole s a h, room_whole s a h, held)

module _ (q : Pricing) (task : IsPaid q) (held : q.problem.capacity ≤ MOST_CAPACITY) where
  -- of anything that may follow
  pub bound_whole : (v t d : ℕ) (b : Bound) → q.problem.capacity ≡ b.room → (b.least +ℤ pos most_paid) ≡ pos 0 → (b.other +ℤ pos most_paid) ≡ pos 0 → IsBound q v t d b
  bound_whole v t d b room least other = record {
    small = record {
      room = omega (arith, room, held);
      least = record { low = omega (arith, ints, least); high = omega (arith, ints, least) };
      other = record { low = omega (arith, ints, other); high = omega (arith, ints, other) };
    };
    holds = λ a s from h. record {
      room = omega (arith, room_whole q s a h, room);
      least = omega (arith, ints, least, paid_little q task held s a h);
      other = λ _. omega (arith, ints, other, paid_little q task held s a h);
    };
  }

  module _ (f : Front) (v t d : ℕ) (last_is : f.last ≡ v) (time_is : f.time ≡ t) (load : f.load ≡ 0) (cost : f.cost ≡ pos 0) where
    begins_no_later : (a : State) (j : ℕ) → a.last ≡ v → t ≤ a.time → begins q.problem (bare_state f) j ≤ begins q.problem a j
    begins_no_later a j last later = omega (arith, later, time_is, ap (λ (i : ℕ). distance q.problem i j) last, ap (λ (i : ℕ). distance q.problem i j) last_is)

    module _ (j e : ℕ) (sum : e ≡ d + demand q.problem j) (b : Bound) (next : Front) (on : Bound) (least z : ℤ) (is : z ≡ least) (out : Bound) (after : IsAfter q.problem q.paid f j next)
        (bound : IsBound q j next.time e on) (onward : IsOnward q v j next.time e least) (joined_z : IsJoined b j next.load next.cost on.room z out) where
      joined : IsJoined b j next.load next.cost on.room least out
      joined = rw is at joined_z

      soon : (a : State) → a.last ≡ v → t ≤ a.time → next.time ≤ (step q a j).time
      soon a last later = omega (arith, after.time, begins_no_later a j last later)

      onward_from : (a : State) → IsFrom v t d a → IsFrom j next.time e (step q a j)
      onward_from a from = record {
        last = refl;
        later = soon a from.last from.later;
        heavier = omega (arith, from.heavier, sum);
        remembered = or_left (eqb j j) _ (eq-eqb j j refl);
      }

      -- what is below the step is below the value with it
      reach : (z : ℤ) → IsBelowStep next.cost least z → (a : State) (s : List ℕ) → IsFrom v t d a → Completes q a (j ∷ s) → (a.cost +ℤ z) ≤ℤ value_with q a (j ∷ s)
      reach z below a s from h =
          let paid = paid_little q task held (j ∷ s) a h in
          let far : arc_value q.problem q.paid a.last j ≡ arc_value q.problem q.paid f.last j =
          ap (λ (i : ℕ). arc_value q.problem q.paid i j) (from.last ∙ sym last_is) in
          let low : z ≤ℤ (value_with q a (j ∷ s) -ℤ a.cost) =
          below _ (omega (arith, ints, onward.least a s from.last from.remembered (onward_from a from) h.0 h.1, after.cost, cost, far)) (omega (arith, ints, paid)) in
          omega (arith, ints, low)

      at_step : (a : State) (s : List ℕ) → IsFrom v t d a → Completes q a (j ∷ s) → Holds q a (j ∷ s) out
      at_step a s from h =
          let on_it = bound.holds (step q a j) s (onward_from a from) h.1 in
          let whole = room_whole q (j ∷ s) a h in
          record {
            room = joined.step_room _ (omega (arith, on_it.room, after.load, load, sum_by-cons (demand q.problem) j s)) (omega (arith, whole, held));
            least = reach out.least joined.step_least a s from h;
            other = λ apart. elim joined.other [
              | inl next_is ↦ absurd (apart (sym next_is.0))
              | inr kept ↦ elim kept.1.1 [
                | inl next_is ↦ absurd (apart (omega (arith, next_is, kept.0)))
                | inr below ↦ reach out.other below a s from h
              ]
            ];
          }

      older : (a : State) (s : List ℕ) → Holds q a s b → Holds q a s out
      older a s h = record {
        room = omega (arith, h.room, joined.room);
        least = omega (arith, ints, h.least, joined.least);
        other = λ apart. elim joined.other [
          | inl next_is ↦ omega (arith, ints, h.least, next_is.1)
          | inr kept ↦ omega (arith, ints, h.other (rw kept.0 at apart), kept.1.0)
        ];
      }

      pub bound_yes : IsBoundWith q v t d j b out
      bound_yes = record { small = joined.small; older = older; on = at_step }

    -- a step that brings no news
    pub bound_same : (j : ℕ) (b : Bound) (next : Front) → IsAfter q.problem q.paid f j next → IsSmall b → IsLowEnough q j next b → IsBoundWith q v t d j b b
    bound_same j b next after small none = record { small = small; older = λ a s h. h; on = on }
      where
        on_from : (a : State) → IsFrom v t d a → IsFrom j next.time 0 (step q a j)
        on_from a from = record {
          last = refl;
          later = omega (arith, after.time, begins_no_later a j from.last from.later);
          heavier = omega arith;
          remembered = or_left (eqb j j) _ (eq-eqb j j refl);
        }

        on : (a : State) (s : List ℕ) → IsFrom v t d a → Completes q a (j ∷ s) → Holds q a (j ∷ s) b
        on a s from h =
            let far : arc_value q.problem q.paid a.last j ≡ arc_value q.problem q.paid f.last j =
            ap (λ (i : ℕ). arc_value q.problem q.paid i j) (from.last ∙ sym last_is) in
            record {
              room = omega (arith, none.room (step q a j) s (on_from a from) h.1, after.load, load, sum_by-cons (demand q.problem) j s);
              least = omega (arith, ints, none.least (step q a j) s (on_from a from) h.1, after.cost, cost, far);
              other = λ _. omega (arith, ints, none.other (step q a j) s (on_from a from) h.1, after.cost, cost, far);
            }

  pub bound_more : (v t d j : ℕ) (P Q : ℕ → Type 0) (b out : Bound) → ((i : ℕ) → Q i → P i ⊎ (i ≡ j))
      → IsBoundAmong q v t d P b → IsBoundWith q v t d j b out → IsBoundAmong q v t d Q out
  bound_more v t d j P Q b out split so_far with_it = record { small = with_it.small; holds = holds }
    where
      holds : (a : State) (s : List ℕ) → IsFrom v t d a → StartsIn Q s → Completes q a s → Holds q a s out
      holds a [] from starts h = with_it.older a [] (so_far.holds a [] from tt h)
      holds a (i ∷ s) from starts h = elim (split i starts) [
        | inl old ↦ with_it.older a (i ∷ s) (so_far.holds a (i ∷ s) from old h)
        | inr same ↦ rw same (with_it.on a s from (rw same at h))
      ]

  pub bound_fewer : (v t d : ℕ) (P Q : ℕ → Type 0) (b : Bound) → ((i : ℕ) → Q i → P i) → IsBoundAmong q v t d P b → IsBoundAmong q v t d Q b
  bound_fewer v t d P Q b fewer h = record { small = h.small; holds = holds }
    where
      holds : (a : State) (s : List ℕ) → IsFrom v t d a → StartsIn Q s → Completes q a s → Holds q a s b
      holds a [] from starts c = h.holds a [] from tt c
      holds a (i ∷ s) from starts c = h.holds a (i ∷ s) from (fewer i starts) c

  -- of all that follows, where the customers are those to whom a route may go in time
  pub bound_all : (v t d : ℕ) (P : ℕ → Type 0) (b : Bound)
      → ((i : ℕ) → IsCustomer q.problem i → IsReachable q.problem v i → IsAllowed q.region (v, i) → t + distance q.problem v i ≤ due q.problem i → P i)
      → IsBoundAmong q v t d P b → IsBound q v t d b
  bound_all v t d P b reached so_far = record { small = so_far.small; holds = holds }
    where
      holds : (a : State) (s : List ℕ) → IsFrom v t d a → Completes q a s → Holds q a s b
      holds a [] from h = so_far.holds a [] from tt h
      holds a (i ∷ s) from h =
          let soon : t + distance q.problem v i ≤ due q.problem i = omega (arith, from.later, h.0.due, ap (λ (u : ℕ). distance q.problem u i) from.last) in
          so_far.holds a (i ∷ s) from (reached i h.0.customer (rw from.last at (can_reach q a i h.0)) (rw from.last at h.0.allowed) soon) h

module _ (q : Pricing) where
  -- what bounds the end, and is no more than a seed
  pub seeded : (v t d : ℕ) (seed end out : Bound) → IsSmall seed → IsSmall out → out.room ≡ seed.room → out.least ≤ℤ end.least → out.other ≤ℤ end.least
      → IsEndBound q v t d end → IsEndBound q v t d out
  seeded v t d seed end out small_seed small room least other is_end = record { small = small; holds = holds }
    where
      holds : (a : State) (s : List ℕ) → IsFrom v t d a → StartsIn (λ _. ⊥) s → Completes q a s → Holds q a s out
      holds a [] from starts h = record {
        room = omega arith;
        least = omega (arith, ints, (is_end.holds a [] from tt h).least, least);
        other = λ _. omega (arith, ints, (is_end.holds a [] from tt h).least, other);
      }
      holds a (i ∷ s) from starts h = absurd starts

  pub brink_of : (v t : ℕ) (b : Bound) (z : ℤ) → z ≡ b.least → IsBound q v t 0 b → IsBrink q (record { least = z; from = t; row = v; room = b.room })
  brink_of v t b z is h = rw is (record {
    cut = h.small.least;
    room = λ a s from c. (h.holds a s from c).room;
    least = λ a s from c. (h.holds a s from c).least;
  })

  pub low_enough : (j : ℕ) (f : Front) (b : Bound) (k : Brink) → IsBrink q k → k.row ≡ j → k.from ≤ f.time → f.load + k.room ≤ b.room
      → b.least ≤ℤ (f.cost +ℤ k.least) → b.other ≤ℤ (f.cost +ℤ k.least) → IsLowEnough q j f b
  low_enough j f b k is row soon room least other = record {
    room = λ a s from c. omega (arith, is.room a s (on a from) c, room);
    least = λ a s from c. omega (arith, ints, is.least a s (on a from) c, least);
    other = λ a s from c. omega (arith, ints, is.least a s (on a from) c, other);
  }
    where
      on : (a : State) → IsFrom j f.time 0 a → IsFrom k.row k.from 0 a
      on a from = record {
        last = omega (arith, from.last, row);
        later = omega (arith, from.later, soon);
        heavier = from.heavier;
        remembered = rw row from.remembered;
      }

  pub onward_other : (v j t d : ℕ) (on : Bound) (z : ℤ) → z ≡ on.other → on.next ≡ v → place_of q.problem q.neighbours j v < 16 → IsBound q j t d on → IsOnward q v j t d z
  onward_other v j t d on z is next low h = rw is (record {
    cut = h.small.other;
    least = λ a s last remembered from can c.
        (h.holds (step q a j) s from c).other (never_back q a s v j on.next next remembered (near_at q.problem j q.neighbours v low) c);
  })
