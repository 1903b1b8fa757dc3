-- Floors from those of what comes after, row by row.
use Rattle.std.proofs.Common.{◌≡◌, ℕ, ◌+◌, ◌<◌, List, [], ◌∷◌, ◌++◌, length, length-append, get_or, arith, inl, inr, refl, ◌≤◌, eqb, max, subst, ap, sym, ◌∙◌, ◌⊎◌, Option, Some, None}
use Rattle.std.specs.Prelude.{ℤ, ◌+ℤ◌, ◌≤ℤ◌, IfSome, IsTrue}
use Rattle.std.proofs.lemmas.List.{get_or_append_left, get_or_push}
use Rattle.std.proofs.lemmas.Bool.{cases_lt, eq-eqb, or_left}
use Rattle.std.specs.Int.{int_max}
use Rattle.std.proofs.lemmas.Int.{ints, clamps}
use Rattle.solomon_reader.specs.Problem.{ready, service}
use Rattle.solomon_reader.specs.Distance.{distance}
use Rattle.solomon_reader.specs.States.{Pricing, State, arc_value, step, CanStep, Completes, value_with, begins}
use Rattle.solomon_reader.specs.Memories.{place_of}
use Rattle.solomon_reader.proofs.Places.{near_at}
use Rattle.solomon_reader.proofs.Completions.{never_back}
use Rattle.leaf_arcs.specs.declared.arcs.AllowedArc.{AllowedArc}
use Rattle.leaf_arcs.specs.declared.floor.Floor.{Floor}
use Rattle.leaf_arcs.specs.Arcs.{IsAllowedArc, AreAllowedArcs, IsInTime, arc_in}
use Rattle.leaf_arcs.specs.Floors.{Holds, IsFloor, IsKnown, IsEndFloor, IsStepFloor, AreStepFloors, IsJoined}
use Rattle.leaf_arcs.proofs.Deciding.{leads_index}

-- the bits, or the lists, of the rows below i
module _ {X : Type 0} (P : ℕ → X → Type 0) where
  pub record Each (i : ℕ) (all : List X) : Type 0 where
    pub count : length all ≡ i
    pub each : (v : ℕ) (d : X) → v < i → P v (get_or all v d)

  pub each_more : (i : ℕ) (all : List X) (x : X) → Each i all → P i x → Each (i + 1) (all ++ (x ∷ []))
  each_more i all x h here = record {
    count = omega (arith, h.count, length-append all (x ∷ []));
    each = λ v d below. elim (cases_lt v i) [
      | inl less ↦ rw (get_or_append_left all (x ∷ []) d v (omega (arith, h.count, less))) (h.each v d less)
      | inr more ↦ (let same : v ≡ i = omega arith in rw (same, get_or_push all x d i h.count) here)
    ];
  }

-- ---- Floors from those of what comes after.

module _ (q : Pricing) where
  pub known : (o : Option Floor) → IfSome o (λ f. IsFloor q f.row f.from f.loaded f) → IsKnown q o
  known None h = record { holds = λ f e. absurd (cc) }
  known (Some x) h = record { holds = λ f e. (let same : x ≡ f = cc in rw (← same) h) }

  -- a floor of an earlier time and a lower load holds later
  pub floor_later : (v t d w u r : ℕ) (f : Floor) → v ≡ w → t ≤ u → d ≤ r → IsFloor q v t d f → IsFloor q w u r f
  floor_later v t d w u r f same le light floor = record {
    holds = λ a s last later loaded remembered completes. floor.holds a s (last ∙ sym same) (omega (arith, le, later)) (omega (arith, light, loaded)) (rw same remembered) completes;
  }

  module _ (v t d : ℕ) where
    pub step_lower : (j : ℕ) (h l : ℤ) → l ≤ℤ h → IsStepFloor q v t d j h → IsStepFloor q v t d j l
    step_lower j h l le floor = record { holds = λ a s last later loaded remembered can completes. omega (arith, ints, le, floor.holds a s last later loaded remembered can completes) }

    -- a step that can't be taken changes no floor
    pub joined_none : (j : ℕ) (f : Floor) → ((h : ℤ) → IsStepFloor q v t d j h) → (z : ℤ) × (IsStepFloor q v t d j z × IsJoined f j z f)
    joined_none j f none = (
      int_max f.least f.other,
      (
        none _,
        record {
          ordered = λ h. h;
          least = omega (arith, ints);
          step = omega (arith, ints, clamps);
          other = inl (refl, (omega (arith, ints), omega (arith, ints, clamps)));
        },
      ),
    )

    pub steps_none : (hs : List AllowedArc) (f : Floor) → f.least ≤ℤ f.other → IsEndFloor q v t f.other → AreStepFloors q v t d hs 0 f
    steps_none hs f ordered ends = record { ordered = ordered; ends = ends; least = λ m w. absurd (omega (arith, w)); other = λ m w. absurd (omega (arith, w)) }

    pub steps_next : (hs : List AllowedArc) (i : ℕ) (f : Floor) (z : ℤ) (out : Floor) → AreStepFloors q v t d hs i f
        → IsStepFloor q v t d (arc_in hs i).to z → IsJoined f (arc_in hs i).to z out
        → AreStepFloors q v t d hs (i + 1) out
    steps_next hs i f z out so_far here joined = record {
      ordered = joined.ordered so_far.ordered;
      ends = record {
        holds = λ a last later can. elim joined.other [
          | inl kept ↦ omega (arith, ints, so_far.ends.holds a last later can, kept.1.0)
          | inr fresh ↦ omega (arith, ints, so_far.ends.holds a last later can, fresh.1, so_far.ordered)
        ];
      };
      least = λ m w. elim (cases_lt m i) [
        | inl less ↦ step_lower _ f.least out.least joined.least (so_far.least m less)
        | inr more ↦ (let same : m ≡ i = omega (arith, w, more) in rw same (step_lower _ z out.least joined.step here))
      ];
      other = λ m w. elim (cases_lt m i) [
        | inl less ↦ old_step m less joined.other
        | inr more ↦ (let same : m ≡ i = omega (arith, w, more) in rw same (new_step joined.other))
      ];
    }
      where
        old_step : (m : ℕ) → m < i → ((out.next ≡ f.next) × ((out.other ≤ℤ f.other) × (out.other ≤ℤ z))) ⊎ ((out.next ≡ (arc_in hs i).to) × (out.other ≤ℤ f.least))
            → ((arc_in hs m).to ≡ out.next) ⊎ IsStepFloor q v t d (arc_in hs m).to out.other
        old_step m less (inl kept) = elim (so_far.other m less) [
          | inl next ↦ inl (next ∙ sym kept.0)
          | inr floor ↦ inr (step_lower _ f.other out.other kept.1.0 floor)
        ]
        old_step m less (inr fresh) = inr (step_lower _ f.least out.other fresh.1 (so_far.least m less))

        new_step : ((out.next ≡ f.next) × ((out.other ≤ℤ f.other) × (out.other ≤ℤ z))) ⊎ ((out.next ≡ (arc_in hs i).to) × (out.other ≤ℤ f.least))
            → ((arc_in hs i).to ≡ out.next) ⊎ IsStepFloor q v t d (arc_in hs i).to out.other
        new_step (inl kept) = inr (step_lower _ z out.other kept.1.1 here)
        new_step (inr fresh) = inl (sym fresh.0)

    -- all steps of the row, and the way home
    pub floor_whole : (hs : List AllowedArc) (f : Floor) → ready q.problem v + service q.problem v ≤ t → AreAllowedArcs q v hs → AreStepFloors q v t d hs (length hs) f → IsFloor q v t d f
    floor_whole hs f begun arcs all = record { holds = holds }
      where
        at : (a : State) (s : List ℕ) (m j : ℕ) → m < length hs → (arc_in hs m).to ≡ j → a.last ≡ v → t ≤ a.time → d ≤ a.load → IsTrue (a.memory v)
            → CanStep q a j → Completes q (step q a j) s
            → Holds q a (j ∷ s) f
        at a s m j w e last later loaded remembered can completes = record {
          least = (subst (λ (n : ℕ). IsStepFloor q v t d n f.least) e (all.least m w)).holds a s last later loaded remembered can completes;
          other = λ apart. elim (all.other m w) [
            | inl next ↦ absurd (apart (sym e ∙ next))
            | inr floor ↦ (subst (λ (n : ℕ). IsStepFloor q v t d n f.other) e floor).holds a s last later loaded remembered can completes
          ];
        }

        holds : (a : State) (s : List ℕ) → a.last ≡ v → t ≤ a.time → d ≤ a.load → IsTrue (a.memory v) → Completes q a s → Holds q a s f
        holds a [] last later loaded remembered can =
            let home : (a.cost +ℤ f.other) ≤ℤ value_with q a [] = omega (arith, ints, all.ends.holds a last later can, ap (λ (i : ℕ). distance q.problem i 0) last) in
            record { least = omega (arith, ints, home, all.ordered); other = λ apart. home }
        holds a (j ∷ s) last later loaded remembered completes =
            let timely : IsInTime q.problem v j = omega (arith, begun, later, completes.0.due, ap (λ (i : ℕ). distance q.problem i j) last) in
            let m = leads_index hs j (arcs.all j completes.0.customer (rw last at completes.0.allowed) timely) in
            at a s m.0 j m.1.0 m.1.1 last later loaded remembered completes.0 completes.1

    -- the step over an arc
    module _ (arc : AllowedArc) (is : IsAllowedArc q v arc) where
      begins_no_later : (a : State) → a.last ≡ v → t ≤ a.time → max (t + arc.travel) arc.ready ≤ begins q.problem a arc.to
      begins_no_later a last later = omega (arith, later, is.travel_is, is.ready_is, ap (λ (i : ℕ). distance q.problem i arc.to) last)

      pub step_late : (h : ℤ) → arc.due < max (t + arc.travel) arc.ready → IsStepFloor q v t d arc.to h
      step_late h late = record { holds = λ a s last later loaded remembered can completes. absurd (omega (arith, late, can.due, begins_no_later a last later, is.due_is)) }

      pub step_heavy : (h : ℤ) → q.problem.capacity < d + arc.demand → IsStepFloor q v t d arc.to h
      step_heavy h heavy = record { holds = λ a s last later loaded remembered can completes. absurd (omega (arith, heavy, can.load, loaded, is.demand_is)) }

      module _ (after : Floor) (h : ℤ) (floor : IsFloor q arc.to (max (t + arc.travel) arc.ready + arc.service) (d + arc.demand) after) where
        on_it : (a : State) (s : List ℕ) → a.last ≡ v → t ≤ a.time → d ≤ a.load → Completes q (step q a arc.to) s → Holds q (step q a arc.to) s after
        on_it a s last later loaded completes =
            floor.holds (step q a arc.to) s refl (omega (arith, begins_no_later a last later, is.service_is)) (omega (arith, loaded, is.demand_is))
            (or_left (eqb arc.to arc.to) _ (eq-eqb arc.to arc.to refl)) completes

        pub step_least : h ≤ℤ (arc.value +ℤ after.least) → IsStepFloor q v t d arc.to h
        step_least le = record {
          holds = λ a s last later loaded remembered can completes.
              omega (arith, ints, le, (on_it a s last later loaded completes).least, is.value_is, ap (λ (i : ℕ). arc_value q.problem q.paid i arc.to) last);
        }

        pub step_other : after.next ≡ v → place_of q.problem q.neighbours arc.to v < 16 → h ≤ℤ (arc.value +ℤ after.other) → IsStepFloor q v t d arc.to h
        step_other next low le = record {
          holds = λ a s last later loaded remembered can completes.
              omega (
                arith,
                ints,
                le,
                (on_it a s last later loaded completes).other (never_back q a s v arc.to after.next next remembered (near_at q.problem arc.to q.neighbours v low) completes),
                is.value_is,
                ap (λ (i : ℕ). arc_value q.problem q.paid i arc.to) last,
              );
        }
