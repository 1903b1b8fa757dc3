-- The steps from a label, and how loads are worked, the lowest first.
use Rattle.std.proofs.Common.{◌≡◌, refl, ℕ, ◌+◌, ◌<◌, ◌≤◌, true, List, [], ◌∷◌, ◌++◌, length, arith, ◌∙◌, inl, inr, Option, false, length-append, ◌⊎◌, ◌*◌, subst, ap, sym, Some, None}
use Rattle.std.proofs.Common.{replicate}
use Rattle.std.specs.Prelude.{ℤ, pos, slice_index_or, IfSome}
use Rattle.std.proofs.lemmas.Bool.{cases_lt, cases_eq}
use Rattle.std.proofs.Math.ListN.{set, length-set}
use Rattle.std.proofs.lemmas.Int.{ints}
use Rattle.std.proofs.lemmas.List.{get_or_append_left, get_or_push, get_or-set_same, get_or-set_other, get_or_past, get_or-replicate, length-replicate}
use Rattle.solomon_reader.specs.Problem.{IsCustomer, Problem, ready, service}
use Rattle.solomon_reader.specs.Region.{IsAllowed}
use Rattle.solomon_reader.specs.States.{Pricing, State, step, CanStep, IsAsGood, start, CanEnd, IsSameState, IsAtMost}
use Rattle.solomon_reader.proofs.Completions.{reaches_more, reaches_none, relaxed_completes, value_is, good_itself, good_same, good_through, reaches_same, completes_too, value_no_greater}
use Rattle.leaf_arcs.specs.declared.arcs.AllowedArc.{AllowedArc}
use Rattle.solomon_reader.specs.Memories.{place_of}
use Rattle.leaf_arcs.specs.Arcs.{arc_in, IsPricing, AreAllowedArcs, IsInTime}
use Rattle.solomon_reader.specs.Covering.{IsDear}
use Rattle.solomon_reader.specs.declared.row.Row.{Row}
use Rattle.solomon_reader.specs.Layout.{IsWithinLimits, AreRows}
use Rattle.solomon_reader.specs.SubsetRows.{PricedRow}
use Rattle.solomon_reader.specs.PricedLeaf.{PricedLeaf}
use Rattle.solomon_reader.specs.RowLaws.{no_debt}
use Rattle.row_charges.specs.Bits.{bit_of}
use Rattle.solomon_reader.proofs.BoundedRows.{customer_row}
use Rattle.leaf_arcs.proofs.Deciding.{leads_index}
use Rattle.leaf_arcs.proofs.Remembered.{has_nothing}
use Rattle.tree_bound.specs.declared.label.Label.{Label}
use Rattle.tree_bound.specs.Labels.{label_in, labels_at, state_of, Dominates, IsDominated, IsAdded, IsLabel, IsTable, IsMet, IsMoved, blank, IsThinned, IsPut, IsEntered, IsBounded}
use Rattle.tree_bound.specs.Labels.{AreLabels, Waits}
use Rattle.tree_bound.specs.Steps.{CanExtend, IsExtension, IsCared, TakesStep, TakesSteps, ClosesRoute, IsDone, IsSettled, AreSettled, Remains, IsPassed, IsWorked, IsSwept, route_value}
use Rattle.tree_bound.specs.Cover.{IsFound, IsRouteCost, IsLeastBelow}
use Rattle.tree_bound.specs.Grains.{ArePrices}
use Rattle.tree_bound.proofs.Covering.{covers_moved, covers_itself, covers_worked, covers_passed, covers_dear, least_at_end}

pub dominating_good : (q : Pricing) (d r : ℕ) → d ≤ r → (a b : Label) → Dominates q.rows a b → IsAsGood q.rows (state_of q d a) (state_of q r b)
dominating_good q d r low a b h = record { last = h.customer; time = h.time; load = low; cost = h.cost; memory = λ u t. h.memory (place_of q.problem q.neighbours b.customer u) (rw h.customer at t) }

-- what stands at a load waits there
pub dominated_met : (q : Pricing) (bs : List (List Label)) (low load : ℕ) (x : Label) → low ≤ load → IsDominated q.rows (labels_at bs load) x → IsMet q bs low (state_of q load x)
dominated_met q bs low load x late h = (
  state_of q load (label_in (labels_at bs load) h.index),
  (record { load = load; late = late; index = h.index; within = h.within; active = h.active; is = refl }, dominating_good q load load (omega arith) _ x h.good),
)

pub moved_none : (q : Pricing) (bs : List (List Label)) (low : ℕ) → IsMoved q bs bs low
moved_none q bs low a h = (a, (h, good_itself q.rows a))

pub met_through : (q : Pricing) (bs cs : List (List Label)) (low : ℕ) (a : State) → IsMoved q bs cs low → IsMet q bs low a → IsMet q cs low a
met_through q bs cs low a moved (t, h) = let on = moved t h.0 in (on.0, (on.1.0, good_through q.rows _ _ _ on.1.1 h.1))

pub moved_through : (q : Pricing) (bs cs ds : List (List Label)) (low : ℕ) → IsMoved q bs cs low → IsMoved q cs ds low → IsMoved q bs ds low
moved_through q bs cs ds low h e a w = met_through q cs ds low a e (h a w)

module _ (q : Pricing) (b : Option ℤ) where
  cared_through : (bs cs : List (List Label)) (low : ℕ) (a : State) → IsMoved q bs cs low → IsCared q b bs low a → IsCared q b cs low a
  cared_through bs cs low a moved (inl met) = inl (met_through q bs cs low a moved met)
  cared_through bs cs low a moved (inr dear) = inr dear

  pub can_step : (d : ℕ) (x : Label) (j : ℕ) → IsCustomer q.problem j → IsAllowed q.region (x.customer, j) → CanExtend q d x j → CanStep q (state_of q d x) j
  can_step d x j customer allowed h = record { customer = customer; allowed = allowed; load = h.load; due = h.due; fresh = h.fresh }

  pub step_dear : (bs : List (List Label)) (d : ℕ) (x : Label) (j : ℕ) → IsTable q bs (d + 1) → IsDear q b (step q (state_of q d x) j) → TakesStep q b bs bs d x j
  step_dear bs d x j table dear = record { moved = moved_none q bs (d + 1); table = table; met = λ can. inr dear }

  pub step_no : (bs : List (List Label)) (d : ℕ) (x : Label) (j : ℕ) → IsTable q bs (d + 1) → ¬ CanExtend q d x j → TakesStep q b bs bs d x j
  step_no bs d x j table cannot = record {
    moved = moved_none q bs (d + 1);
    table = table;
    met = λ can. absurd (cannot (record { load = can.load; due = can.due; fresh = can.fresh }));
  }

  -- the label after a step is one
  pub label_extended : (d : ℕ) (x : Label) (load j : ℕ) (y : Label) → IsLabel q d x → IsCustomer q.problem j → IsAllowed q.region (x.customer, j)
      → CanExtend q d x j → IsExtension q d x load j y → IsLabel q load y
  label_extended d x load j y pair customer allowed can extension = record {
    bounded = extension.bounded;
    reached = (pair.reached.0 ++ (j ∷ []), reaches_same q _ _ _ extension.same (reaches_more q pair.reached.0 (state_of q d x) j pair.reached.1 (can_step d x j customer allowed can)));
  }

  -- y was kept at its load
  module _ (bs cs : List (List Label)) (d : ℕ) (x : Label) (load j : ℕ) (y : Label) (later : d + 1 ≤ load) (added : IsAdded q.rows bs cs load y) where
    moved_added : IsMoved q bs cs (d + 1)
    moved_added a w = elim (cases_eq w.load load) [
      | inl same ↦ (let dominated = added.here.old w.index (rw same at w.within) (rw same at w.active) in
          let met = dominated_met q cs (d + 1) load (label_in (labels_at bs load) w.index) later dominated in
          let e : state_of q load (label_in (labels_at bs load) w.index) ≡ a = rw same at w.is in
          (met.0, (met.1.0, rw e at met.1.1)))
      | inr apart ↦ (
        a,
        (
          record {
            load = w.load;
            late = w.late;
            index = w.index;
            within = rw (added.others w.load apart) w.within;
            active = rw (added.others w.load apart) w.active;
            is = rw (added.others w.load apart) w.is;
          },
          good_itself q.rows a,
        ),
      )
    ]

    table_added : IsTable q bs (d + 1) → IsLabel q load y → IsTable q cs (d + 1)
    table_added table pair = record { count = added.same ∙ table.count; each = each }
      where
        each : (n m : ℕ) → d + 1 ≤ n → m < length (labels_at cs n) → (label_in (labels_at cs n) m).active ≡ true → IsLabel q n (label_in (labels_at cs n) m)
        each n m late within active = elim (cases_eq n load) [
          | inl same ↦ elim (added.here.others m (rw same at within) (rw same at active)) [
            | inl new ↦ rw (same, new) pair
            | inr old ↦ rw (same, old.1) (table.each load m later old.0 (rw (← old.1) (rw same at active)))
          ]
          | inr apart ↦ rw (added.others n apart) (table.each n m late (rw (added.others n apart) at within) (rw (added.others n apart) at active))
        ]

    pub step_yes : IsTable q bs (d + 1) → IsLabel q d x → IsCustomer q.problem j → IsAllowed q.region (x.customer, j) → CanExtend q d x j → IsExtension q d x load j y
        → TakesStep q b bs cs d x j
    step_yes table pair customer allowed can extension = record {
      moved = moved_added;
      table = table_added table (label_extended d x load j y pair customer allowed can extension);
      met = λ _. inl (let met = dominated_met q cs (d + 1) load y later added.here.new in (met.0, (met.1.0, good_through q.rows _ _ _ met.1.1 (good_same q.rows _ _ extension.same))));
    }

  pub steps_none : (bs : List (List Label)) (d : ℕ) (x : Label) (hs : List AllowedArc) → IsTable q bs (d + 1) → TakesSteps q b bs bs d x hs 0
  steps_none bs d x hs table = record { moved = moved_none q bs (d + 1); table = table; met = λ m w can. absurd (omega (arith, w)) }

  pub steps_more : (bs cs ds : List (List Label)) (d : ℕ) (x : Label) (hs : List AllowedArc) (i : ℕ) → TakesSteps q b bs cs d x hs i → TakesStep q b cs ds d x (arc_in hs i).to
      → TakesSteps q b bs ds d x hs (i + 1)
  steps_more bs cs ds d x hs i spread stepped = record {
    moved = moved_through q bs cs ds (d + 1) spread.moved stepped.moved;
    table = stepped.table;
    met = λ m below can. elim (cases_lt m i) [
      | inl less ↦ cared_through cs ds (d + 1) _ stepped.moved (spread.met m less can)
      | inr more ↦ (let same : m ≡ i = omega (arith, below, more) in rw same (stepped.met (rw same at can)))
    ];
  }

-- ---- The labels of a load, after one was kept.

pub dominates_itself : (rows : List PricedRow) (x : Label) → Dominates rows x x
dominates_itself rows x = record {
  customer = refl;
  memory = λ i t. t;
  time = omega arith;
  cost = omega (arith, ints, no_debt rows (bit_of x.bits) (bit_of x.bits) (λ i t. t));
}

pub thinned_none : (rows : List PricedRow) (xs : List Label) (x : Label) → IsThinned rows xs xs x
thinned_none rows xs x = record { same = refl; each = λ m w. inl refl }

pub thinned_through : (rows : List PricedRow) (xs ys zs : List Label) (x : Label) → IsThinned rows xs ys x → IsThinned rows ys zs x → IsThinned rows xs zs x
thinned_through rows xs ys zs x h e = record {
  same = e.same ∙ h.same;
  each = λ m w. elim (h.each m w) [
    | inl same ↦ elim (e.each m (omega (arith, w, h.same))) [
      | inl again ↦ inl (again ∙ same)
      | inr past ↦ inr (rw same at past.0, past.1)
    ]
    | inr past ↦ elim (e.each m (omega (arith, w, h.same))) [
      | inl again ↦ inr (past.0, rw again past.1)
      | inr twice ↦ inr (past.0, twice.1)
    ]
  ];
}

pub put_behind : (xs : List Label) (x : Label) → IsPut xs (xs ++ (x ∷ [])) x
put_behind xs x = record {
  index = length xs;
  within = omega (arith, length-append xs (x ∷ []));
  here = get_or_push xs x blank (length xs) refl;
  still = λ m w active. (omega (arith, w, length-append xs (x ∷ [])), get_or_append_left xs (x ∷ []) blank m w);
  others = λ m w. elim (cases_lt m (length xs)) [
    | inl old ↦ inr (old, get_or_append_left xs (x ∷ []) blank m old)
    | inr new ↦ inl (let e : m ≡ length xs = omega (arith, w, new, length-append xs (x ∷ [])) in rw e (get_or_push xs x blank (length xs) refl))
  ];
}

pub put_within : (xs : List Label) (index : ℕ) (x : Label) → index < length xs → (label_in xs index).active ≡ false → IsPut xs (set xs index x) x
put_within xs index x within hole = record {
  index = index;
  within = omega (arith, within, length-set xs index x);
  here = get_or-set_same xs index x blank within;
  still = λ m w active. (
    omega (arith, w, length-set xs index x),
    elim (cases_eq m index) [
      | inl same ↦ absurd (let e = rw same at active in cc)
      | inr apart ↦ get_or-set_other xs index m x blank apart
    ],
  );
  others = λ m w. elim (cases_eq m index) [
    | inl same ↦ inl (rw same (get_or-set_same xs index x blank within))
    | inr apart ↦ inr (omega (arith, w, length-set xs index x), get_or-set_other xs index m x blank apart)
  ];
}

pub kept_of : (rows : List PricedRow) (xs zs ys : List Label) (x : Label) → x.active ≡ true → IsThinned rows xs zs x → IsPut zs ys x → IsEntered rows xs ys x
kept_of rows xs zs ys x active thinned put = record { new = new; old = old; others = others }
  where
    at_place : (y : Label) → Dominates rows x y → IsDominated rows ys y
    at_place y good = record { index = put.index; within = put.within; active = rw put.here active; good = rw put.here good }

    new : IsDominated rows ys x
    new = at_place x (dominates_itself rows x)

    old : (m : ℕ) → m < length xs → (label_in xs m).active ≡ true → IsDominated rows ys (label_in xs m)
    old m w stands = elim (thinned.each m w) [
      | inl same ↦ (let on = put.still m (omega (arith, w, thinned.same)) (rw same stands) in
          let e = on.1 ∙ same in
          record { index = m; within = on.0; active = rw e stands; good = rw e (dominates_itself rows (label_in xs m)) })
      | inr past ↦ at_place (label_in xs m) past.0
    ]

    others : (m : ℕ) → m < length ys → (label_in ys m).active ≡ true → (label_in ys m ≡ x) ⊎ ((m < length xs) × (label_in ys m ≡ label_in xs m))
    others m w stands = elim (put.others m w) [
      | inl new ↦ inl new
      | inr old ↦ (let low : m < length xs = omega (arith, old.0, thinned.same) in elim (thinned.each m low) [
        | inl same ↦ inr (low, old.1 ∙ same)
        | inr past ↦ absurd (let e = rw old.1 at stands in let d = past.1 in cc)
      ])
    ]

-- a label that is dominated isn't put in
pub added_none : (rows : List PricedRow) (bs : List (List Label)) (load : ℕ) (x : Label) → IsDominated rows (labels_at bs load) x → IsAdded rows bs bs load x
added_none rows bs load x dominated = record {
  same = refl;
  others = λ d apart. refl;
  here = record {
    new = dominated;
    old = λ m w active. record { index = m; within = w; active = active; good = dominates_itself rows (label_in (labels_at bs load) m) };
    others = λ m w active. inr (w, refl);
  };
}

pub first_kept : (rows : List PricedRow) (x : Label) → x.active ≡ true → IsEntered rows [] (x ∷ []) x
first_kept rows x active = kept_of rows [] [] (x ∷ []) x active (thinned_none rows [] x) (put_behind [] x)

-- ---- Loads are worked, the lowest first.

module _ (q : Pricing) where
  -- all steps of a row were taken
  pub done_of : (bs cs : List (List Label)) (d : ℕ) (x : Label) (b c : Option ℤ) (hs : List AllowedArc) → AreAllowedArcs q x.customer hs → IsBounded q.problem d x
      → ClosesRoute q d x b c → TakesSteps q c bs cs d x hs (length hs) → IsDone q bs cs d x b c
  done_of bs cs d x b c hs arcs bounded closes steps = record {
    closes = closes;
    moved = steps.moved;
    table = steps.table;
    met = λ j can. (let timely : IsInTime q.problem x.customer j = omega (arith, bounded.begun, can.due) in
        let m = leads_index hs j (arcs.all j can.customer can.allowed timely) in at m.0 j m.1.0 m.1.1 can);
  }
    where
      at : (m j : ℕ) → m < length hs → (arc_in hs m).to ≡ j → CanStep q (state_of q d x) j → IsCared q c cs (d + 1) (step q (state_of q d x) j)
      at m j w e can = subst (λ (n : ℕ). IsCared q c cs (d + 1) (step q (state_of q d x) n)) e (steps.met m w (subst (λ (n : ℕ). CanStep q (state_of q d x) n) (sym e) can))

  -- what is settled stays so, as the others are worked
  pub settled_moved : (b c : Option ℤ) (Before After : State → Type 0) → ((y : ℤ) → IsAtMost b y → IsAtMost c y)
      → ((a : State) → Before a → (t : State) × (After t × IsAsGood q.rows t a))
      → (d r : ℕ) → d ≤ r → (ds : List Label) → AreSettled q b Before d ds → AreSettled q c After r ds
  settled_moved b c Before After lower moved d r more ds settled m w active =
      let s = settled m w active in
      record { load = s.load; low = omega (arith, s.low, more); covers = covers_moved q b c Before After lower moved _ 0 s.covers }

  no_labels : (n d : ℕ) → labels_at (replicate n []) d ≡ []
  no_labels n d = elim (cases_lt d n) [
    | inl low ↦ get_or-replicate n d [] [] low
    | inr high ↦ get_or_past (replicate n []) d [] (omega (arith, high, length-replicate {A = List Label} n []))
  ]

  -- the table before anything is kept
  pub begun_table : IsTable q (replicate (q.problem.capacity + 1) []) 1
  begun_table = record {
    count = length-replicate (q.problem.capacity + 1) [];
    each = λ d m late w active. absurd (omega (arith, ap (λ (xs : List Label). length xs) (no_labels (q.problem.capacity + 1) d), w));
  }

  pub start_label : (x : Label) → IsSameState (state_of q 0 x) (start q) → IsBounded q.problem 0 x → IsLabel q 0 x
  start_label x same bounded = record { bounded = bounded; reached = ([], reaches_same q [] _ _ same (reaches_none q)) }

  -- what is found once the route that ends at a label was counted
  pub found_closed : (limit : Option ℤ) (d : ℕ) (x : Label) (b c : Option ℤ) → IsLabel q d x → IsFound q limit b
      → (c ≡ b) ⊎ (CanEnd q (state_of q d x) × (c ≡ Some (route_value q.problem x))) → IsFound q limit c
  found_closed limit d x b c pair found (inl same) = rw same found
  found_closed limit d x b c pair found (inr h) = inr (pair.reached.0 ++ [], (pair.reached.1.completes [] h.0, h.1 ∙ ap (λ (z : ℤ). Some z) (sym (pair.reached.1.value []))))

  -- what is found without a limit is the reduced cost of a relaxed route
  pub found_cost : (b : Option ℤ) → IsFound q None b → IfSome b (IsRouteCost q)
  found_cost None found = tt
  found_cost (Some z) (inl none) = absurd (cc)
  found_cost (Some z) (inr h) = (h.0, (relaxed_completes q h.0 h.1.0, some_same _ _ h.1.1 ∙ value_is q h.0))
    where
      some_same : (x y : ℤ) → Some x ≡ Some y → x ≡ y
      some_same x y e = cc

module _ (q : Pricing) (limit : Option ℤ) where
  module _ (bs : List (List Label)) (ds : List Label) (d : ℕ) (xs : List Label) (i : ℕ) (b : Option ℤ) (so_far : IsWorked q limit bs ds d xs i b) where
    -- what remains is the label at i, or remains behind it
    remains_behind : (cs : List (List Label)) → ((a : State) → Waits q bs (d + 1) a → IsMet q cs (d + 1) a) → (a : State) → Remains q bs d xs i a
        → (a ≡ state_of q d (label_in xs i)) ⊎ ((t : State) × (Remains q cs d xs (i + 1) t × IsAsGood q.rows t a))
    remains_behind cs moved a (inl h) = let t = moved a h in inr (t.0, (inl t.1.0, t.1.1))
    remains_behind cs moved a (inr s) = elim (cases_eq s.index i) [
      | inl same ↦ inl (sym (rw same at s.is))
      | inr apart ↦ inr (a, (inr (record { index = s.index; late = omega (arith, s.late, apart); within = s.within; active = s.active; is = s.is }), good_itself q.rows a))
    ]

    -- the label at i doesn't stand
    worked_skip : (label_in xs i).active ≡ false → IsWorked q limit bs ds d xs (i + 1) b
    worked_skip dead = record {
      table = so_far.table;
      covers = covers_moved q b b (Remains q bs d xs i) (Remains q bs d xs (i + 1)) (λ y h. h) (λ a h. (a, (on a h, good_itself q.rows a))) _ 1 so_far.covers;
      settled = settled_moved q b b (Remains q bs d xs i) (Remains q bs d xs (i + 1)) (λ y h. h) (λ a h. (a, (on a h, good_itself q.rows a))) d d (omega arith) ds so_far.settled;
      found = so_far.found;
    }
      where
        on : (a : State) → Remains q bs d xs i a → Remains q bs d xs (i + 1) a
        on a (inl h) = inl h
        on a (inr s) = elim (cases_eq s.index i) [
          | inl same ↦ absurd (let e = rw same at s.active in cc)
          | inr apart ↦ inr (record { index = s.index; late = omega (arith, s.late, apart); within = s.within; active = s.active; is = s.is })
        ]

    -- what remains is the label at i, or remains without it
    only : (a : State) → Remains q bs d xs i a → (a ≡ state_of q d (label_in xs i)) ⊎ Remains q bs d xs (i + 1) a
    only a (inl h) = inr (inl h)
    only a (inr s) = elim (cases_eq s.index i) [
      | inl same ↦ inl (sym (rw same at s.is))
      | inr apart ↦ inr (inr (record { index = s.index; late = omega (arith, s.late, apart); within = s.within; active = s.active; is = s.is }))
    ]

    -- a settled label dominates the one at i
    worked_dominated : IsDominated q.rows ds (label_in xs i) → IsWorked q limit bs ds d xs (i + 1) b
    worked_dominated dominated = record {
      table = so_far.table;
      covers = covers_passed q b (Remains q bs d xs i) (Remains q bs d xs (i + 1)) x y good settled.covers only _ 1 so_far.covers;
      settled = λ m w active. (let s = so_far.settled m w active in record {
        load = s.load;
        low = s.low;
        covers = covers_passed q b (Remains q bs d xs i) (Remains q bs d xs (i + 1)) x y good settled.covers only _ 0 s.covers;
      });
      found = so_far.found;
    }
      where
        x : State
        x = state_of q d (label_in xs i)

        settled : IsSettled q b (Remains q bs d xs i) d (label_in ds dominated.index)
        settled = so_far.settled dominated.index dominated.within dominated.active

        y : State
        y = state_of q settled.load (label_in ds dominated.index)

        good : IsAsGood q.rows y x
        good = dominating_good q settled.load d settled.low _ _ dominated.good

    -- all that may come after the label at i is dear
    worked_dear : IsDear q b (state_of q d (label_in xs i)) → IsWorked q limit bs ds d xs (i + 1) b
    worked_dear dear = record {
      table = so_far.table;
      covers = covers_dear q b (Remains q bs d xs i) (Remains q bs d xs (i + 1)) _ dear only _ 1 so_far.covers;
      settled = λ m w active. (let s = so_far.settled m w active in record {
        load = s.load;
        low = s.low;
        covers = covers_dear q b (Remains q bs d xs i) (Remains q bs d xs (i + 1)) _ dear only _ 0 s.covers;
      });
      found = so_far.found;
    }

    pub worked_passed : IsPassed q b ds d (label_in xs i) → IsWorked q limit bs ds d xs (i + 1) b
    worked_passed (inl dead) = worked_skip dead
    worked_passed (inr (inl dominated)) = worked_dominated dominated
    worked_passed (inr (inr dear)) = worked_dear dear

    pub worked_more : (cs : List (List Label)) (es : List Label) (c : Option ℤ) → IsLabel q d (label_in xs i) → IsDone q bs cs d (label_in xs i) b c
        → IsEntered q.rows ds es (label_in xs i) → IsWorked q limit cs es d xs (i + 1) c
    worked_more cs es c pair done kept = record {
      table = done.table;
      covers = covers_worked q b c (Remains q bs d xs i) (Remains q cs d xs (i + 1)) x done.closes.lower done.closes.counted spread (remains_behind cs done.moved) _ 1 so_far.covers;
      settled = settled;
      found = found_closed q limit d (label_in xs i) b c pair so_far.found done.closes.from;
    }
      where
        x : State
        x = state_of q d (label_in xs i)

        spread : (j : ℕ) → CanStep q x j → ((t : State) × (Remains q cs d xs (i + 1) t × IsAsGood q.rows t (step q x j))) ⊎ IsDear q c (step q x j)
        spread j can = elim (done.met j can) [
          | inl t ↦ inl (t.0, (inl t.1.0, t.1.1))
          | inr dear ↦ inr dear
        ]

        here : IsSettled q c (Remains q cs d xs (i + 1)) d (label_in xs i)
        here = record {
          load = d;
          low = omega arith;
          covers = covers_itself q b c (Remains q bs d xs i) (Remains q cs d xs (i + 1)) x done.closes.lower done.closes.counted spread (remains_behind cs done.moved);
        }

        before : (m : ℕ) → m < length ds → (label_in ds m).active ≡ true → IsSettled q c (Remains q cs d xs (i + 1)) d (label_in ds m)
        before m w active = (let s = so_far.settled m w active in record {
          load = s.load;
          low = s.low;
          covers = covers_worked q b c (Remains q bs d xs i) (Remains q cs d xs (i + 1)) x done.closes.lower done.closes.counted spread (remains_behind cs done.moved) _ 0 s.covers;
        })

        settled : AreSettled q c (Remains q cs d xs (i + 1)) d es
        settled m w active = elim (kept.others m w active) [
          | inl new ↦ rw new here
          | inr old ↦ rw old.1 (before m old.0 (rw (← old.1) active))
        ]

  -- the labels of a load were taken out
  module _ (bs : List (List Label)) (ds : List Label) (d : ℕ) (b : Option ℤ) (swept : IsSwept q limit bs ds d b) where
    pub taken_pairs : AreLabels q d (labels_at bs d)
    taken_pairs = record { each = λ m w active. swept.table.each d m (omega arith) w active }

    pub taken_worked : (ys : List Label) → IsWorked q limit (set bs d ys) ds d (labels_at bs d) 0 b
    taken_worked ys = record {
      table = record {
        count = length-set bs d ys ∙ swept.table.count;
        each = λ n m late w active. (let e = other n late in rw e (swept.table.each n m (omega (arith, late)) (rw e at w) (rw e at active)));
      };
      covers = covers_moved q b b (Waits q bs d) (Remains q (set bs d ys) d (labels_at bs d) 0) (λ y h. h) (λ a h. (a, (on a h, good_itself q.rows a))) _ 1 swept.covers;
      settled = settled_moved q b b (Waits q bs d) (Remains q (set bs d ys) d (labels_at bs d) 0) (λ y h. h) (λ a h. (a, (on a h, good_itself q.rows a))) d d (omega arith) ds swept.settled;
      found = swept.found;
    }
      where
        other : (n : ℕ) → d + 1 ≤ n → labels_at (set bs d ys) n ≡ labels_at bs n
        other n late = get_or-set_other bs d n ys [] (λ e. omega (arith, e, late))

        on : (a : State) → Waits q bs d a → Remains q (set bs d ys) d (labels_at bs d) 0 a
        on a w = elim (cases_eq w.load d) [
          | inl same ↦ inr (record { index = w.index; late = omega arith; within = rw same at w.within; active = rw same at w.active; is = rw same at w.is })
          | inr apart ↦ inl (let e = other w.load (omega (arith, w.late, apart)) in
              record { load = w.load; late = omega (arith, w.late, apart); index = w.index; within = rw e w.within; active = rw e w.active; is = rw e w.is })
        ]

  pub swept_more : (bs : List (List Label)) (ds : List Label) (d : ℕ) (xs : List Label) (i : ℕ) (b : Option ℤ) → length xs ≤ i
      → IsWorked q limit bs ds d xs i b → IsSwept q limit bs ds (d + 1) b
  swept_more bs ds d xs i b all h = record {
    table = h.table;
    covers = covers_moved q b b (Remains q bs d xs i) (Waits q bs (d + 1)) (λ y h. h) (λ a h. (a, (on a h, good_itself q.rows a))) _ 1 h.covers;
    settled = settled_moved q b b (Remains q bs d xs i) (Waits q bs (d + 1)) (λ y h. h) (λ a h. (a, (on a h, good_itself q.rows a))) d (d + 1) (omega arith) ds h.settled;
    found = h.found;
  }
    where
      on : (a : State) → Remains q bs d xs i a → Waits q bs (d + 1) a
      on a (inl h) = h
      on a (inr s) = absurd (omega (arith, s.late, s.within, all))

  pub least_swept : (bs : List (List Label)) (ds : List Label) (d : ℕ) (b : Option ℤ) → length bs ≤ d → IsSwept q limit bs ds d b → IsLeastBelow q limit b
  least_swept bs ds d b all h = least_at_end q (Waits q bs d) none limit b h.covers h.found
    where
      none : (a : State) → ¬ Waits q bs d a
      none a w = let e : labels_at bs w.load ≡ [] = get_or_past bs w.load [] (omega (arith, w.late, all)) in omega (arith, ap (λ (xs : List Label). length xs) e, w.within)

  -- x is the empty beginning at the depot
  module _ (x : Label) (same : IsSameState (state_of q 0 x) (start q)) where
    begun : x.active ≡ true → IsWorked q limit (replicate (q.problem.capacity + 1) []) [] 0 (x ∷ []) 0 limit
    begun active = record {
      table = begun_table q;
      covers = λ s h. inr (record {
        state = state_of q 0 x;
        waits = inr (record { index = 0; late = omega arith; within = omega arith; active = active; is = refl });
        rest = s;
        completes = completes_too q s (state_of q 0 x) (start q) (good_same q.rows _ _ same) h;
        short = omega arith;
        low = value_no_greater q s (state_of q 0 x) (start q) (good_same q.rows _ _ same);
      });
      settled = λ m w active. absurd (omega (arith, w));
      found = inl refl;
    }

    pub swept_begun : (bs cs : List (List Label)) (c : Option ℤ) → bs ≡ replicate (q.problem.capacity + 1) [] → x.active ≡ true → IsLabel q 0 x → IsDone q bs cs 0 x limit c
        → IsSwept q limit cs [] 1 c
    swept_begun bs cs c begun_is active label done = forget (swept_more cs (x ∷ []) 0 (x ∷ []) 1 c (omega arith)
        (worked_more (replicate (q.problem.capacity + 1) []) [] 0 (x ∷ []) 0 limit (begun active) cs (x ∷ []) c label (rw begun_is at done) (first_kept q.rows x active)))
      where
        forget : IsSwept q limit cs (x ∷ []) 1 c → IsSwept q limit cs [] 1 c
        forget h = record { table = h.table; covers = h.covers; settled = λ m w stands. absurd (omega (arith, w)); found = h.found }

-- the depot with an empty memory is the beginning
pub start_same : (q : Pricing) (x : Label) → x.customer ≡ 0 → x.time ≡ ready q.problem 0 → x.cost ≡ pos 0 → x.memory ≡ 0 → ((i : ℕ) → bit_of x.bits i ≡ false)
    → IsSameState (state_of q 0 x) (start q)
start_same q x last time cost memory bits = record {
  last = last;
  time = time;
  load = refl;
  cost = cost;
  memory = λ u. rw memory (has_nothing (place_of q.problem q.neighbours x.customer u));
  bits = bits;
}

-- no service at the depot
pub depot_service : (p : Problem) → IsWithinLimits p → service p 0 ≡ 0
depot_service p limits = by p.rows limits.rows
  where
    by : (rs : List Row) → AreRows rs → 10 * (slice_index_or rs 0 (record { x = 0; y = 0; demand = 0; ready = 0; due = 0; service = 0 })).service ≡ 0
    by [] h = absurd h
    by (depot ∷ rs) h = omega (arith, h.0.2)

pub is_pricing : (p : Problem) (leaf : PricedLeaf) → IsWithinLimits p → ArePrices p leaf → IsPricing p leaf
is_pricing p leaf limits are = record { count = are.count; within = are.within; sets_are = are.sets_are; carried = λ i h. (customer_row p i limits h).1 }
