-- The list of labels grows, labels are dropped and extended, and what was said of it stays.
use Rattle.std.proofs.Common.{◌≡◌, ℕ, List, [], arith, sym, ◌∙◌, ◌≢◌, refl, zero, suc, ◌+◌, ◌-◌, ◌<◌, ◌≤◌, true, false, ◌∷◌, ◌++◌, length-append, get_or, eqb, ap, ◌⊎◌, inl, inr, append-nil}
use Rattle.std.proofs.Common.{append_assoc, reverse, take, drop}
use Rattle.std.specs.Prelude.{ℤ, ◌+ℤ◌, ◌≤ℤ◌, Option, Some, None, MatchOption, length, IsTrue}
use Rattle.std.proofs.lemmas.Int.{ints}
use Rattle.std.proofs.Math.ListN.{set, length-set}
use Rattle.std.proofs.lemmas.Bool.{cases_lt, cases_eq, eq-eqb, or_left}
use Rattle.std.proofs.lemmas.List.{reverse-append, length-reverse, take_all, drop_all, get_or_read, get_or_append_left, get_or_push, get_or-set_same, get_or-set_other}
use Rattle.std.proofs.lemmas.Nat.Bits.{bit_at-zero}
use Rattle.solomon_reader.specs.Problem.{Problem, IsCustomer, due}
use Rattle.solomon_reader.specs.Region.{IsAllowed}
use Rattle.solomon_reader.specs.Relaxed.{IsRelaxed}
use Rattle.solomon_reader.specs.PricedLeaf.{IsLeastBy, charged_cost_by}
use Rattle.row_charges.specs.Bits.{bit_of}
use Rattle.solomon_reader.specs.States.{Pricing, start, arc_value, Completes, value_with, IsAtMost, State, step, CanStep, CanEnd}
use Rattle.solomon_reader.proofs.Completions.{relaxed_completes, value_is, reaches_none, reaches_more, at_most_more, reaches_same}
use Rattle.completions.specs.Completions.{IsFrom, IsVisitBound}
use Rattle.fronts.specs.Fronts.{end_cost, IsBounded, IsStart, IsChargedAfter}
use Rattle.solomon_reader.specs.Distance.{distance}
use Rattle.labels.specs.declared.best.Best.{Best}
use Rattle.labels.specs.declared.label.Label.{Label}
use Rattle.labels.specs.Arena.{label_in, state_at, trace, IsLabel, IsArena, IsPending, HasActive, HasPending, IsDominated, inactive, IsPruned, IsExtension, IsAdded, IsSameStop, IsLater, HasExtended, IsSparedStep}
use Rattle.labels.specs.Arena.{IsGrown, IsMoved, IsMet, TakesStep, TakesSteps, CountsEnd, EndsAt, IsAttained, IsComplete, IsOnward, NonePending, IsAnswer, IsInList, IsFirst, blank}
use Rattle.solomon_reader.specs.Covering.{IsDear}
use Rattle.labels.specs.Cover.{CoversAll, CoversFewer, Carries, IsPassed, IsStepDear}
use Rattle.fronts.specs.Steps.{IsReachable}
use Rattle.fronts.proofs.Stepping.{can_reach}
use Rattle.fronts.specs.declared.front.Front.{Front}
use Rattle.solomon_reader.specs.Memories.{place_of}
use Rattle.labels.proofs.Carrying.{carries_itself, carries_same, carries_through}
use Rattle.labelling.specs.declared.least_cost.Least.{Least}
use Rattle.labelling.specs.Answer.{IsLeastOf}
use Rattle.labelling.proofs.Cover.{covers_grown, covers_retired, fewer_grown, fewer_retired, least_at_end}

-- the best is that of a completion of the start, and at most what each relaxed route costs
module _ (q : Pricing) where
  abbrev pub IsReached : Option ℤ → List ℕ → Type 0
  IsReached value route = MatchOption value (route ≡ []) (λ z. Completes q (start q) route × (value_with q (start q) route ≡ z))

  value_by : (o : Option ℤ) (route : List ℕ) → IsReached o route → ((r : List ℕ) → IsRelaxed q.problem q.region q.neighbours r → IsAtMost o (charged_cost_by q.problem q.neighbours q.paid q.rows r))
      → MatchOption o ((r : List ℕ) → ¬ IsRelaxed q.problem q.region q.neighbours r) (λ z. IsLeastBy q.problem q.region q.neighbours q.paid q.rows z)
  value_by None route found each = λ r relaxed. each r relaxed
  value_by (Some z) route found each =
      record { reached = (route, relaxed_completes q route found.0, sym (value_is q route) ∙ found.1); least = each }

  route_by : (o : Option ℤ) (route : List ℕ) → IsReached o route
      → MatchOption o (route ≡ []) (λ z. IsRelaxed q.problem q.region q.neighbours route × (charged_cost_by q.problem q.neighbours q.paid q.rows route ≡ z))
  route_by None route found = found
  route_by (Some z) route found = (relaxed_completes q route found.0, sym (value_is q route) ∙ found.1)

  pub is_least : (l : Least) → IsReached l.value l.route.items → ((r : List ℕ) → IsRelaxed q.problem q.region q.neighbours r → IsAtMost l.value (charged_cost_by q.problem q.neighbours q.paid q.rows r)) → IsLeastOf q l
  is_least l found each = record { value = value_by l.value l.route.items found each; route = route_by l.value l.route.items found }

-- ---- The list of labels grows, labels are dropped and extended, and what was said of it stays.

-- a label that was read is the label of the list
pub label_read : (xs : List Label) (m : ℕ) (r : Label) → m < length xs → r ≡ get_or xs m r → r ≡ label_in xs m
label_read xs m r within is = get_or_read xs m r within is blank

pub first_is : (p : Problem) (xs : List Label) (l : Label) → xs ≡ l ∷ [] → IsStart p l.front → IsBounded p l.front → l.memory.bits ≡ 0
    → ((i : ℕ) → bit_of l.bits i ≡ false) → l.parent ≡ 0
    → l.stops ≡ 0 → IsPending l → IsFirst p xs
first_is p xs l one start bounded memory bits parent stops pending = record {
  label = l;
  one = one;
  start = λ q same. record {
    last = start.last;
    time = rw same start.time;
    load = start.load;
    cost = start.cost;
    memory =
        λ u. rw (memory, bit_at-zero (place_of q.problem q.neighbours l.front.last u)) refl;
    bits = bits;
  };
  bounded = bounded;
  parent = parent;
  stops = stops;
  unextended = pending;
}

same_itself : (a : Label) → IsSameStop a a
same_itself a = record { front = refl; memory = refl; bits = refl; parent = refl; stops = refl }

same_through : (a b c : Label) → IsSameStop a b → IsSameStop b c → IsSameStop a c
same_through a b c h e = record { front = e.front ∙ h.front; memory = e.memory ∙ h.memory; bits = e.bits ∙ h.bits; parent = e.parent ∙ h.parent; stops = e.stops ∙ h.stops }

same_state : (q : Pricing) (a b : Label) → IsSameStop a b → state_at q b ≡ state_at q a
same_state q a b h = rw (h.front, h.memory, h.bits) refl

later_itself : (a : Label) → IsLater a a
later_itself a = record { same = same_itself a; active = λ h. h; extended = refl }

later_through : (a b c : Label) → IsLater a b → IsLater b c → IsLater a c
later_through a b c h e = record { same = same_through a b c h.same e.same; active = λ t. h.active (e.active t); extended = e.extended ∙ h.extended }

later_inactive : (a : Label) → IsLater a (inactive a)
later_inactive a = record { same = record { front = refl; memory = refl; bits = refl; parent = refl; stops = refl }; active = λ h. cc; extended = refl }

-- the list has the same stops, and maybe more labels
record IsLonger (xs ys : List Label) : Type 0 where
  pub longer : length xs ≤ length ys
  pub same : (m : ℕ) → m < length xs → IsSameStop (label_in xs m) (label_in ys m)

grown_longer : (xs ys : List Label) → IsGrown xs ys → IsLonger xs ys
grown_longer xs ys h = record { longer = h.longer; same = λ m w. (h.later m w).same }

trace_same : (xs ys : List Label) → IsLonger xs ys → ((m : ℕ) → m < length xs → (label_in xs m).parent < length xs)
    → (n : ℕ) (a b : Label) → a.parent < length xs → IsSameStop a b → trace xs n a ≡ trace ys n b
trace_same xs ys h parents zero a b within same = refl
trace_same xs ys h parents (suc n) a b within same =
    rw (same.front, same.parent) (ap (λ r. r ++ (a.front.last ∷ [])) (trace_same xs ys h parents n (label_in xs a.parent) (label_in ys a.parent) (parents a.parent within) (h.same a.parent within)))

module _ (q : Pricing) where
  pub parents_of : (xs : List Label) → IsArena q xs → (m : ℕ) → m < length xs → (label_in xs m).parent < length xs
  parents_of xs arena m within = (arena.each m within).parent

  label_longer : (xs ys : List Label) (a b : Label) → IsLonger xs ys → IsArena q xs → IsLabel q xs a → IsSameStop a b → IsLabel q ys b
  label_longer xs ys a b h arena label same =
      let e : trace xs a.stops a ≡ trace ys a.stops b = trace_same xs ys h (parents_of xs arena) a.stops a b label.parent same in
      let t : trace xs a.stops a ≡ trace ys b.stops b = e ∙ ap (λ (n : ℕ). trace ys n b) (sym same.stops) in
      record {
        bounded = rw same.front label.bounded;
        light = rw (same.front, same.stops) label.light;
        parent = omega (arith, label.parent, same.parent, h.longer);
        reached = rw (← t, same_state q a b same) label.reached;
      }

  arena_longer : (xs ys : List Label) → IsLonger xs ys → length ys ≡ length xs → IsArena q xs → IsArena q ys
  arena_longer xs ys h count arena = record {
    each = λ m w. (let old : m < length xs = omega (arith, w, count) in label_longer xs ys (label_in xs m) (label_in ys m) h arena (arena.each m old) (h.same m old));
  }

grown_none : (xs : List Label) → IsGrown xs xs
grown_none xs = record { longer = omega arith; later = λ m w. later_itself _; fresh = λ m low high. absurd (omega (arith, low, high)) }

moved_none : (q : Pricing) (xs : List Label) → IsMoved q xs xs
moved_none q xs = record { grown = grown_none xs; pending = λ a s. (a, (s, carries_itself q a)); active = λ a s. (a, (s, carries_itself q a)) }

dominated_through : (q : Pricing) (xs ys : List Label) (a : State) → IsMoved q xs ys → IsDominated q xs a → IsDominated q ys a
dominated_through q xs ys a moved (t, h) = let on = moved.active t h.0 in (on.0, (on.1.0, carries_through q _ _ _ on.1.1 h.1))

-- what was extended stays so, and nothing else is
extended_later : (q : Pricing) (xs ys : List Label) → IsGrown xs ys → (a : State) → HasExtended q xs a → HasExtended q ys a
extended_later q xs ys grown a s = (let later = grown.later s.index s.within in
    record { index = s.index; within = omega (arith, s.within, grown.longer); extended = later.extended ∙ s.extended; is = same_state q _ _ later.same ∙ s.is })

extended_before : (q : Pricing) (xs ys : List Label) → IsGrown xs ys → (a : State) → HasExtended q ys a → HasExtended q xs a
extended_before q xs ys grown a s = elim (cases_lt s.index (length xs)) [
  | inl old ↦ (let later = grown.later s.index old in
      record { index = s.index; within = old; extended = sym later.extended ∙ s.extended; is = sym (same_state q _ _ later.same) ∙ s.is })
  | inr new ↦ (let never : true ≡ false = sym s.extended ∙ grown.fresh s.index new s.within in cc)
]

grown_through : (xs ys zs : List Label) → IsGrown xs ys → IsGrown ys zs → IsGrown xs zs
grown_through xs ys zs h e = record {
  longer = omega (arith, h.longer, e.longer);
  later = λ m w. later_through _ _ _ (h.later m w) (e.later m (omega (arith, w, h.longer)));
  fresh = λ m low high. elim (cases_lt m (length ys)) [
    | inl old ↦ (e.later m old).extended ∙ h.fresh m low old
    | inr new ↦ e.fresh m new high
  ];
}

moved_through : (q : Pricing) (xs ys zs : List Label) → IsMoved q xs ys → IsMoved q ys zs → IsMoved q xs zs
moved_through q xs ys zs h e = record {
  grown = grown_through xs ys zs h.grown e.grown;
  pending = λ a s. (let t = h.pending a s in let u = e.pending t.0 t.1.0 in (u.0, (u.1.0, carries_through q _ _ _ u.1.1 t.1.1)));
  active = λ a s. dominated_through q ys zs a e (h.active a s);
}

-- x was added, and what it dominates was dropped
module _ (q : Pricing) (xs zs : List Label) (x : Label) (unextended : IsPending x) (pruned : IsPruned q xs zs (state_at q x)) where
  more : length (zs ++ (x ∷ [])) ≡ length xs + 1
  more = omega (arith, length-append zs (x ∷ []), pruned.same)

  old_at : (m : ℕ) → m < length xs → label_in (zs ++ (x ∷ [])) m ≡ label_in zs m
  old_at m w = get_or_append_left zs (x ∷ []) blank m (omega (arith, w, pruned.same))

  new_at : label_in (zs ++ (x ∷ [])) (length xs) ≡ x
  new_at = get_or_push zs x blank (length xs) pruned.same

  later_at : (m : ℕ) → m < length xs → IsLater (label_in xs m) (label_in (zs ++ (x ∷ [])) m)
  later_at m w = rw (old_at m w) (elim (pruned.each m w) [
    | inl same ↦ rw same (later_itself _)
    | inr past ↦ rw past.1 (later_inactive _)
  ])

  grown_added : IsGrown xs (zs ++ (x ∷ []))
  grown_added = record {
    longer = omega (arith, more);
    later = later_at;
    fresh = λ m low high. (let same : m ≡ length xs = omega (arith, low, high, more) in rw (same, new_at) unextended.extended);
  }

  active_new : HasActive q (zs ++ (x ∷ [])) (state_at q x)
  active_new = record { index = length xs; within = omega (arith, more); active = rw new_at unextended.active; is = ap (state_at q) new_at }

  pending_new : HasPending q (zs ++ (x ∷ [])) (state_at q x)
  pending_new = record { index = length xs; within = omega (arith, more); unextended = rw new_at unextended; is = ap (state_at q) new_at }

  moved_added : IsMoved q xs (zs ++ (x ∷ []))
  moved_added = record { grown = grown_added; pending = pending; active = active }
    where
      pending : (a : State) → HasPending q xs a → (t : State) × (HasPending q (zs ++ (x ∷ [])) t × Carries q t a)
      pending a s = elim (pruned.each s.index s.within) [
        | inl same ↦ (let e = old_at s.index s.within ∙ same in
            (a, (record { index = s.index; within = omega (arith, s.within, more); unextended = rw e s.unextended; is = ap (state_at q) e ∙ s.is }, carries_itself q a)))
        | inr past ↦ (state_at q x, (pending_new, rw s.is at past.0))
      ]

      active : (a : State) → HasActive q xs a → IsDominated q (zs ++ (x ∷ [])) a
      active a s = elim (pruned.each s.index s.within) [
        | inl same ↦ (let e = old_at s.index s.within ∙ same in
            (a, (record { index = s.index; within = omega (arith, s.within, more); active = rw e s.active; is = ap (state_at q) e ∙ s.is }, carries_itself q a)))
        | inr past ↦ (state_at q x, (active_new, rw s.is at past.0))
      ]

  dominated_added : IsDominated q (zs ++ (x ∷ [])) (state_at q x)
  dominated_added = (state_at q x, (active_new, carries_itself q (state_at q x)))

module _ (q : Pricing) where
  module _ (xs : List Label) (l : Label) (index j : ℕ) (arena : IsArena q xs) (within : index < length xs) (here : IsSameStop (label_in xs index) l) where
    pub label_here : IsLabel q xs l
    label_here = label_longer q xs xs (label_in xs index) l (grown_longer xs xs (grown_none xs)) arena (arena.each index within) here

    pub step_refused : (b : Option ℤ) → ¬ CanStep q (state_at q l) j → TakesStep q b xs xs l j
    step_refused b cannot = record { moved = moved_none q xs; labelled = arena; met = λ can. absurd (cannot can) }

    -- nothing after the step costs less than the best
    pub step_dear : (b : Option ℤ) → IsStepDear q b (state_at q l) j → TakesStep q b xs xs l j
    step_dear b dear = record { moved = moved_none q xs; labelled = arena; met = λ can. inr (inl (dear can)) }

    -- nothing after the front of the step costs less than the best
    pub step_passed : (b : Option ℤ) (f : Front) → IsChargedAfter q l.front (bit_of l.bits) j f → IsPassed q b f → TakesStep q b xs xs l j
    step_passed b f after passed = record { moved = moved_none q xs; labelled = arena; met = λ can. inr (inl (counted can)) }
      where
        remembers : (i : ℕ) → i ≡ j → IsTrue ((step q (state_at q l) j).memory i)
        remembers i same = rw same (or_left (eqb j j) _ (eq-eqb j j refl))

        counted : CanStep q (state_at q l) j → IsDear q b (step q (state_at q l) j)
        counted can = passed.each (step q (state_at q l) j) (sym after.last) (omega (arith, after.time)) (omega (arith, after.load)) (omega (arith, ints, after.cost)) (remembers f.last after.last)

    -- the extension is a label of the longer list
    extension_labelled : (ys : List Label) (x : Label) → IsGrown xs ys → IsExtension q l index j x → CanStep q (state_at q l) j → IsLabel q ys x
    extension_labelled ys x grown extension can =
        let longer = grown_longer xs ys grown in
        let before : IsSameStop l (label_in ys index) = record {
          front = (longer.same index within).front ∙ sym here.front;
          memory = (longer.same index within).memory ∙ sym here.memory;
          bits = (longer.same index within).bits ∙ sym here.bits;
          parent = (longer.same index within).parent ∙ sym here.parent;
          stops = (longer.same index within).stops ∙ sym here.stops;
        } in
        let t : trace xs l.stops l ≡ trace ys l.stops (label_in ys index) = trace_same xs ys longer (parents_of q xs arena) l.stops l (label_in ys index) label_here.parent before in
        let whole : trace xs l.stops l ++ (j ∷ []) ≡ trace ys x.stops x = unfolded ys x t extension in
        record {
          bounded = extension.bounded;
          light = extension.light;
          parent = omega (arith, extension.parent, within, grown.longer);
          reached = rw (← whole) (reaches_same q (trace xs l.stops l ++ (j ∷ [])) (state_at q x) (step q (state_at q l) j) extension.same
              (reaches_more q (trace xs l.stops l) (state_at q l) j label_here.reached can));
        }
      where
        unfolded : (ys : List Label) (x : Label) → trace xs l.stops l ≡ trace ys l.stops (label_in ys index) → IsExtension q l index j x
            → trace xs l.stops l ++ (j ∷ []) ≡ trace ys x.stops x
        unfolded ys x t extension =
            let one : l.stops + 1 ≡ suc l.stops = omega arith in
            rw (extension.stops, one, extension.parent, extension.same.last) (ap (λ r. r ++ (j ∷ [])) t)

    -- what may come after the step may come after x, at the same cost
    met_by : (b : Option ℤ) (ys : List Label) (x : Label) → IsExtension q l index j x → IsDominated q ys (state_at q x) → IsMet q b ys (state_at q l) j
    met_by b ys x extension t = inl (t.0, (t.1.0, carries_through q _ _ _ t.1.1 (carries_same q _ _ extension.same)))

    -- what was extended has what may come after the step
    pub step_spared : (b : Option ℤ) → IsSparedStep q xs (state_at q l) j → TakesStep q b xs xs l j
    step_spared b spared = record { moved = moved_none q xs; labelled = arena; met = λ can. inr (inr (spared can)) }

    pub step_taken : (b : Option ℤ) (ys : List Label) (x : Label) → IsExtension q l index j x → CanStep q (state_at q l) j → IsAdded q xs ys x → TakesStep q b xs ys l j
    step_taken b ys x extension can (inl same) = rw same.0 (record {
      moved = moved_none q xs;
      labelled = arena;
      met = λ _. met_by b xs x extension same.1;
    })
    step_taken b ys x extension can (inr (zs, kept)) =
        let grown : IsGrown xs (zs ++ (x ∷ [])) = grown_added q xs zs x extension.unextended kept.0 in
        rw kept.1 (record {
          moved = moved_added q xs zs x extension.unextended kept.0;
          labelled = record { each = each_of zs x grown kept.0 extension };
          met = λ _. met_by b _ x extension (dominated_added q xs zs x extension.unextended kept.0);
        })
      where
        each_of : (zs : List Label) (x : Label) → IsGrown xs (zs ++ (x ∷ [])) → IsPruned q xs zs (state_at q x) → IsExtension q l index j x
            → (m : ℕ) → m < length (zs ++ (x ∷ [])) → IsLabel q (zs ++ (x ∷ [])) (label_in (zs ++ (x ∷ [])) m)
        each_of zs x grown pruned extension m w = elim (cases_lt m (length xs)) [
          | inl old ↦ label_longer q xs (zs ++ (x ∷ [])) (label_in xs m) (label_in (zs ++ (x ∷ [])) m) (grown_longer xs _ grown) arena (arena.each m old) (grown.later m old).same
          | inr new ↦ (let same : m ≡ length xs = omega (arith, new, w, more q xs zs x extension.unextended pruned) in
              rw (same, new_at q xs zs x extension.unextended pruned) (extension_labelled (zs ++ (x ∷ [])) x grown extension can))
        ]

  pub steps_none : (b : Option ℤ) (xs : List Label) (l : Label) (P : ℕ → Type 0) → ((j : ℕ) → P j → ⊥) → IsArena q xs → TakesSteps q b xs xs l P
  steps_none b xs l P none labelled = record { moved = moved_none q xs; labelled = labelled; met = λ j among can. absurd (none j among) }

  pub steps_more : (b : Option ℤ) (xs ys zs : List Label) (l : Label) (i : ℕ) (P Q : ℕ → Type 0) → ((j : ℕ) → Q j → P j ⊎ (j ≡ i))
      → TakesSteps q b xs ys l P → TakesStep q b ys zs l i → TakesSteps q b xs zs l Q
  steps_more b xs ys zs l i P Q split steps stepped = record {
    moved = moved_through q xs ys zs steps.moved stepped.moved;
    labelled = stepped.labelled;
    met = λ j among can. elim (split j among) [
      | inl old ↦ elim (steps.met j old can) [
        | inl dominated ↦ inl (dominated_through q ys zs _ stepped.moved dominated)
        | inr (inl counted) ↦ inr (inl counted)
        | inr (inr spared) ↦ inr (inr (spared.0, (extended_later q ys zs stepped.moved.grown spared.0 spared.1.0, spared.1.1)))
      ]
      | inr same ↦ rw same (stepped.met (rw same at can))
    ];
  }

  -- each customer to whom a step may be taken is one of these
  pub steps_all : (b : Option ℤ) (xs ys : List Label) (l : Label) (P : ℕ → Type 0)
      → ((j : ℕ) → IsCustomer q.problem j → IsReachable q.problem l.front.last j → IsAllowed q.region (l.front.last, j)
      → l.front.time + distance q.problem l.front.last j ≤ due q.problem j → P j) → TakesSteps q b xs ys l P → TakesSteps q b xs ys l (IsCustomer q.problem)
  steps_all b xs ys l P reached steps = record {
    moved = steps.moved;
    labelled = steps.labelled;
    met =
        λ j customer can. steps.met j (reached j customer (can_reach q (state_at q l) j can) can.allowed (omega (arith, can.due))) can;
  }

-- a step and what follows on a visit that ends no sooner cost no less than the best
pub step_beyond : (q : Pricing) (b : Option ℤ) (a : State) (j t : ℕ) (z y : ℤ) → IsVisitBound q t j z → t ≤ a.time → y ≤ℤ (a.cost +ℤ (arc_value q.problem q.paid a.last j +ℤ z)) → IsAtMost b y
    → IsStepDear q b a j
step_beyond q b a j t z y bound later low met = λ can. record {
  dear = λ s h. (let from : IsFrom j t 0 (step q a j) = record { last = refl; later = omega (arith, later); heavier = omega arith; remembered = or_left (eqb j j) _ (eq-eqb j j refl) } in
      at_most_more b _ _ (omega (arith, ints, low, bound.least (step q a j) s from (omega arith) h)) met);
}

module _ (q : Pricing) (l : Label) (b : Best) (counted : IsDear q b.value (state_at q l)) where
  -- nothing after the label costs less than the best: it needs no step
  pub end_passed : (index : ℕ) → CountsEnd q l index b b
  end_passed index = record { lower = λ y h. h; counted = λ can. counted.dear [] can; from = inl refl }

  pub steps_passed : (xs : List Label) (P : ℕ → Type 0) → IsArena q xs → TakesSteps q b.value xs xs l P
  steps_passed xs P labelled = record { moved = moved_none q xs; labelled = labelled; met = λ j among can. inr (inl (record { dear = λ s h. counted.dear (j ∷ s) (can, h) })) }

-- what ended at a label still ends there
module _ (q : Pricing) (xs ys : List Label) (longer : IsLonger xs ys) where
  ends_longer : (m : ℕ) (z : ℤ) → EndsAt q xs m z → EndsAt q ys m z
  ends_longer m z h =
      let same = longer.same m h.within in
      record {
        within = omega (arith, h.within, longer.longer);
        can = rw (same_state q _ _ same) h.can;
        value = rw same.front h.value;
      }

  attained_longer : (o : Option ℤ) (m : ℕ) → MatchOption o (Unit {0}) (λ z. EndsAt q xs m z) → MatchOption o (Unit {0}) (λ z. EndsAt q ys m z)
  attained_longer None m h = tt
  attained_longer (Some z) m h = ends_longer m z h

  attained_by : (b c : Best) (l : Label) (index : ℕ) → index < length xs → label_in xs index ≡ l → IsAttained q xs b → CountsEnd q l index b c → IsAttained q ys c
  attained_by b c l index within here before ending = by ending.from
    where
      by : ((c ≡ b) ⊎ (CanEnd q (state_at q l) × ((c.value ≡ Some (end_cost q.problem l.front)) × (c.index ≡ index)))) → IsAttained q ys c
      by (inl same) = rw same (attained_longer b.value b.index before)
      by (inr h) = rw (h.1.0, h.1.1) (ends_longer index (end_cost q.problem l.front) (record { within = within; can = rw here h.0; value = ap (λ (a : Label). end_cost q.problem a.front) here }))

-- labels were added and dropped, none was extended, and the best hasn't grown
module _ (q : Pricing) (xs ys : List Label) where
  active_or_pending : IsGrown xs ys → (a : State) → HasActive q ys a → HasActive q xs a ⊎ HasPending q ys a
  active_or_pending grown a s = elim (cases_lt s.index (length xs)) [
    | inl old ↦ (let later = grown.later s.index old in
        inl (record { index = s.index; within = old; active = later.active s.active; is = sym (same_state q _ _ later.same) ∙ s.is }))
    | inr new ↦ inr (record { index = s.index; within = s.within; unextended = record { active = s.active; extended = grown.fresh s.index new s.within }; is = s.is })
  ]

  covers_moved : (b c : Option ℤ) → IsMoved q xs ys → ((y : ℤ) → IsAtMost b y → IsAtMost c y)
      → CoversAll q b (HasPending q xs) (HasActive q xs) → CoversAll q c (HasPending q ys) (HasActive q ys)
  covers_moved b c moved lower covers =
      covers_grown q b c (HasPending q xs) (HasActive q xs) (HasPending q ys) (HasActive q ys) lower moved.pending (active_or_pending moved.grown) covers

  fewer_moved : (b c : Option ℤ) → IsMoved q xs ys → ((y : ℤ) → IsAtMost b y → IsAtMost c y)
      → CoversFewer q b (HasPending q xs) (HasExtended q xs) → CoversFewer q c (HasPending q ys) (HasExtended q ys)
  fewer_moved b c moved lower fewer =
      fewer_grown q b c (HasPending q xs) (HasExtended q xs) (HasPending q ys) (HasExtended q ys) lower moved.pending (extended_before q xs ys moved.grown) fewer

  pub complete_stepped : (b : Best) (o : Option ℤ) (l : Label) (j : ℕ) → IsComplete q xs b → TakesStep q o xs ys l j → IsComplete q ys b
  complete_stepped b o l j so_far step = record {
    labelled = step.labelled;
    first = dominated_through q xs ys (start q) step.moved so_far.first;
    covers = covers_moved b.value b.value step.moved (λ y h. h) so_far.covers;
    fewer = fewer_moved b.value b.value step.moved (λ y h. h) so_far.fewer;
    attained = attained_longer q xs ys (grown_longer xs ys step.moved.grown) b.value b.index so_far.attained;
  }

pub complete_counted : (q : Pricing) (xs : List Label) (b c : Best) (l : Label) (index : ℕ) → index < length xs → label_in xs index ≡ l
    → IsComplete q xs b → CountsEnd q l index b c → IsComplete q xs c
complete_counted q xs b c l index within here so_far ending = record {
  labelled = so_far.labelled;
  first = so_far.first;
  covers = covers_moved q xs xs b.value c.value (moved_none q xs) ending.lower so_far.covers;
  fewer = fewer_moved q xs xs b.value c.value (moved_none q xs) ending.lower so_far.fewer;
  attained = attained_by q xs xs (grown_longer xs xs (grown_none xs)) b c l index within here so_far.attained ending;
}

-- the label at an index was extended
abbrev pub done : Label → Label
done l = record l { extended = true }

module _ (q : Pricing) (xs ys : List Label) (index : ℕ) (b after : Best) (l : Label) (so_far : IsComplete q xs b) (within : index < length xs)
    (here : label_in xs index ≡ l) (ending : CountsEnd q l index b after) (steps : TakesSteps q after.value xs ys l (IsCustomer q.problem)) where
  abbrev zs : List Label
  zs = set ys index (done (label_in ys index))

  in_ys : index < length ys
  in_ys = omega (arith, within, steps.moved.grown.longer)

  count_zs : length zs ≡ length ys
  count_zs = length-set ys index (done (label_in ys index))

  zs_at : label_in zs index ≡ done (label_in ys index)
  zs_at = get_or-set_same ys index (done (label_in ys index)) blank in_ys

  zs_other : (m : ℕ) → m ≢ index → label_in zs m ≡ label_in ys m
  zs_other m apart = get_or-set_other ys index m (done (label_in ys index)) blank apart

  zs_same : (m : ℕ) → IsSameStop (label_in ys m) (label_in zs m)
  zs_same m = elim (cases_eq m index) [
    | inl same ↦ rw (same, zs_at) (record { front = refl; memory = refl; bits = refl; parent = refl; stops = refl })
    | inr apart ↦ rw (zs_other m apart) (same_itself _)
  ]

  zs_active : (m : ℕ) → (label_in zs m).active ≡ (label_in ys m).active
  zs_active m = elim (cases_eq m index) [
    | inl same ↦ rw (same, zs_at) refl
    | inr apart ↦ ap (λ (a : Label). a.active) (zs_other m apart)
  ]

  active_zs : (a : State) → HasActive q ys a → HasActive q zs a
  active_zs a s = record { index = s.index; within = omega (arith, s.within, count_zs); active = zs_active s.index ∙ s.active; is = same_state q _ _ (zs_same s.index) ∙ s.is }

  active_ys : (a : State) → HasActive q zs a → HasActive q ys a
  active_ys a s = record { index = s.index; within = omega (arith, s.within, count_zs); active = sym (zs_active s.index) ∙ s.active; is = sym (same_state q _ _ (zs_same s.index)) ∙ s.is }

  is_here : state_at q (label_in ys index) ≡ state_at q l
  is_here = same_state q _ _ (steps.moved.grown.later index within).same ∙ ap (state_at q) here

  others : (a : State) → HasPending q ys a → (a ≡ state_at q l) ⊎ HasPending q zs a
  others a s = elim (cases_eq s.index index) [
    | inl same ↦ inl (sym s.is ∙ ap (λ (m : ℕ). state_at q (label_in ys m)) same ∙ is_here)
    | inr apart ↦ (let e = zs_other s.index apart in
        inr (record { index = s.index; within = omega (arith, s.within, count_zs); unextended = rw e s.unextended; is = ap (state_at q) e ∙ s.is }))
  ]

  each_step : (j : ℕ) → CanStep q (state_at q l) j → IsMet q after.value ys (state_at q l) j
  each_step j can = steps.met j can.customer can

  covers_ys : CoversAll q after.value (HasPending q ys) (HasActive q ys)
  covers_ys = covers_moved q xs ys b.value after.value steps.moved ending.lower so_far.covers

  fewer_ys : CoversFewer q after.value (HasPending q ys) (HasExtended q ys)
  fewer_ys = fewer_moved q xs ys b.value after.value steps.moved ending.lower so_far.fewer

  covers : CoversAll q after.value (HasPending q zs) (HasActive q zs)
  covers a active =
      covers_retired q after.value (HasPending q ys) (HasPending q zs) (HasActive q ys) (HasExtended q ys) (state_at q l) ending.counted each_step others covers_ys fewer_ys a (active_ys a active)

  extended_ys : (a : State) → HasExtended q zs a → (a ≡ state_at q l) ⊎ HasExtended q ys a
  extended_ys a s = elim (cases_eq s.index index) [
    | inl same ↦ inl (sym s.is ∙ ap (λ (m : ℕ). state_at q (label_in zs m)) same ∙ same_state q _ _ (zs_same index) ∙ is_here)
    | inr apart ↦ (let e = zs_other s.index apart in
        inr (record { index = s.index; within = omega (arith, s.within, count_zs); extended = sym (ap (λ (a : Label). a.extended) e) ∙ s.extended; is = sym (ap (state_at q) e) ∙ s.is }))
  ]

  fewer : CoversFewer q after.value (HasPending q zs) (HasExtended q zs)
  fewer = fewer_retired q after.value (HasPending q ys) (HasPending q zs) (HasActive q ys) (HasExtended q ys) (state_at q l) ending.counted each_step others covers_ys fewer_ys
      (HasExtended q zs) extended_ys

  longer_zs : IsLonger ys zs
  longer_zs = record { longer = omega (arith, count_zs); same = λ m w. zs_same m }

  xs_zs : (m : ℕ) → m < length xs → IsSameStop (label_in xs m) (label_in zs m)
  xs_zs m w = same_through _ _ _ (steps.moved.grown.later m w).same (zs_same m)

  xs_longer_zs : IsLonger xs zs
  xs_longer_zs = record { longer = omega (arith, count_zs, steps.moved.grown.longer); same = xs_zs }

  first : IsDominated q zs (start q)
  first =
      let b = dominated_through q xs ys (start q) steps.moved so_far.first in
      (b.0, (active_zs b.0 b.1.0, b.1.1))

  complete_zs : IsComplete q zs after
  complete_zs = record {
    labelled = arena_longer q ys zs longer_zs count_zs steps.labelled;
    first = first;
    covers = covers;
    fewer = fewer;
    attained =
        attained_by q xs zs xs_longer_zs b after l index within here so_far.attained ending;
  }

  onward_zs : IsOnward xs zs index
  onward_zs = record { longer = omega (arith, count_zs, steps.moved.grown.longer); still = still }
    where
      still : (m : ℕ) → m < length xs → IsPending (label_in zs m) → IsPending (label_in xs m) × (m ≢ index)
      still m w h = elim (cases_eq m index) [
        | inl same ↦ (let e : label_in zs m ≡ done (label_in ys index) = rw same zs_at in
            let t : true ≡ false = sym (ap (λ (a : Label). a.extended) e) ∙ h.extended in cc)
        | inr apart ↦ (let later = steps.moved.grown.later m w in
            let e = zs_other m apart in
            (record { active = later.active (sym (ap (λ (a : Label). a.active) e) ∙ h.active); extended = sym later.extended ∙ sym (ap (λ (a : Label). a.extended) e) ∙ h.extended }, apart))
      ]

  written : (r : Label) → r ≡ get_or ys index r → set ys index (done r) ≡ zs
  written r e = ap (λ (a : Label). set ys index (done a)) (get_or_read ys index r in_ys e blank)

  pub complete_written : (r : Label) → r ≡ get_or ys index r → IsComplete q (set ys index (done r)) after
  complete_written r e = rw (written r e) complete_zs

  pub onward_written : (r : Label) → r ≡ get_or ys index r → IsOnward xs (set ys index (done r)) index
  onward_written r e = rw (written r e) onward_zs

-- the route that is rebuilt backwards
pub back_more : (xs : List Label) (l next : Label) (stops taken : ℕ) (r whole : List ℕ) → taken < stops → next ≡ label_in xs l.parent
    → trace xs (stops - taken) l ++ reverse r ≡ whole → trace xs (stops - (taken + 1)) next ++ reverse (r ++ (l.front.last ∷ [])) ≡ whole
back_more xs l next stops taken r whole below is h =
    let e : stops - taken ≡ suc (stops - (taken + 1)) = omega arith in
    let k : (trace xs (stops - (taken + 1)) next ++ (l.front.last ∷ [])) ++ reverse r ≡ whole = rw is (rw e at h) in
    rw reverse-append (rw append_assoc at k)

pub back_all : (xs : List Label) (l : Label) (stops taken : ℕ) (r whole : List ℕ) → stops ≤ taken → trace xs (stops - taken) l ++ reverse r ≡ whole → reverse r ≡ whole
back_all xs l stops taken r whole past h =
    let e : stops - taken ≡ 0 = omega arith in
    rw e at h

pub back_written : (n : ℕ) (r back whole : List ℕ) → back ≡ reverse r → n ≡ length r → reverse r ≡ whole → take n (back ++ drop (length back) r) ≡ whole
back_written n r back whole is count h =
    let e : drop (length back) r ≡ [] = drop_all (length back) r (omega (arith, length-reverse r, ap length is)) in
    let t : take n back ≡ back = take_all n back (omega (arith, count, length-reverse r, ap length is)) in
    rw (e, append-nil, t, is) h

module _ (q : Pricing) where
  pub complete_first : (xs : List Label) (f : Best) → IsFirst q.problem xs → f.value ≡ None → IsComplete q xs f
  complete_first xs f h value =
      let reached : IsLabel q (h.label ∷ []) h.label = record {
        bounded = h.bounded;
        light = omega (arith, h.stops);
        parent = omega (arith, h.parent);
        reached = rw h.stops (reaches_same q [] (state_at q h.label) (start q) (h.start q refl) (reaches_none q));
      } in
      rw h.one (record {
        labelled = record { each = λ m w. (let e : m ≡ 0 = omega (arith, w) in rw e reached) };
        first = (state_at q h.label, (record { index = 0; within = omega arith; active = h.unextended.active; is = refl }, carries_same q _ _ (h.start q refl)));
        covers = λ a active s completes. inr (record { state = a; waits = to_pending a active; rest = s; short = omega arith; completes = completes; low = omega (arith, ints) });
        fewer = λ a s completes. absurd (none_taken a s);
        attained = rw value tt;
      })
    where
      none_taken : (a : State) → HasExtended q (h.label ∷ []) a → ⊥
      none_taken a s =
          let e : s.index ≡ 0 = omega (arith, s.within) in
          let taken : h.label.extended ≡ true = rw e at s.extended in
          let never : true ≡ false = sym taken ∙ h.unextended.extended in cc

      to_pending : (a : State) → HasActive q (h.label ∷ []) a → HasPending q (h.label ∷ []) a
      to_pending a s =
          let e : s.index ≡ 0 = omega (arith, s.within) in
          record { index = 0; within = omega arith; unextended = h.unextended; is = rw e at s.is }

  module _ (xs : List Label) (f : Best) (searched : IsComplete q xs f) where
    pub in_list : IsInList xs f
    in_list = by f.value searched.attained
      where
        by : (o : Option ℤ) → MatchOption o (Unit {0}) (λ z. EndsAt q xs f.index z) → MatchOption o (Unit {0}) (λ _. f.index < length xs)
        by None h = tt
        by (Some z) h = h.within

    module _ (swept : NonePending xs (length xs)) (l : Least) (answer : IsAnswer xs f l.value l.route.items) where
      reached_by : (o : Option ℤ) → MatchOption o (Unit {0}) (λ z. EndsAt q xs f.index z)
          → MatchOption o (l.route.items ≡ []) (λ _. l.route.items ≡ trace xs (label_in xs f.index).stops (label_in xs f.index)) → IsReached q o l.route.items
      reached_by None h e = e
      reached_by (Some z) h e =
          let label = searched.labelled.each f.index h.within in
          rw e (rw append-nil at (label.reached.completes [] h.can), rw append-nil at (label.reached.value []) ∙ h.value)

      reached : IsReached q l.value l.route.items
      reached = rw answer.amount (reached_by f.value searched.attained answer.stops)

      each : (r : List ℕ) → IsRelaxed q.problem q.region q.neighbours r → IsAtMost l.value (charged_cost_by q.problem q.neighbours q.paid q.rows r)
      each r relaxed = rw answer.amount (least_at_end q f.value (HasPending q xs) (HasActive q xs) searched.covers (λ a s. swept.each s.index s.within s.within s.unextended) searched.first r relaxed)

      pub is_least_at_end : IsLeastOf q l
      is_least_at_end = is_least q l reached each
