-- What a label whose steps were taken spares another one: where a step forgets all that it has beside what the other remembers, it goes on as well.
use Rattle.std.proofs.Common.{◌≡◌, refl, ℕ, ◌<◌, ◌^◌, true, eqb, List, ◌∷◌, arith, ap, sym, ◌∙◌, inl, inr}
use Rattle.std.proofs.lemmas.Int.{ints}
use Rattle.std.proofs.lemmas.Nat.Bits.{bit_at_above}
use Rattle.std.proofs.lemmas.Bool.{cases_lt, or_cases, or_left, or_right, and_parts, and_from, both_ways, false_from_ne_true}
use Rattle.std.proofs.lemmas.List.Sums.{sum_by-cons}
use Rattle.solomon_reader.specs.Problem.{demand}
use Rattle.solomon_reader.specs.Distance.{distance}
use Rattle.solomon_reader.specs.Remembering.{near}
use Rattle.solomon_reader.specs.Memories.{has_bit, place_of}
use Rattle.solomon_reader.specs.States.{Pricing, step, arc_value, CanStep, Completes}
use Rattle.solomon_reader.specs.RowLaws.{debt_step}
use Rattle.solomon_reader.proofs.Places.{place_first, near_at, not_near}
use Rattle.row_charges.specs.Bits.{bit_of}
use Rattle.fronts.specs.Memories.{Keeps}
use Rattle.fronts.specs.declared.memory.Memory.{Memory}
use Rattle.labels.specs.declared.label.Label.{Label}
use Rattle.labels.specs.Arena.{label_in, state_at, IsGrown, IsSpared}
use Rattle.labels.specs.Cover.{IsNoWorse, Carries, CarriesBy}
use Rattle.labels.specs.Sparing.{IsSparing}
use Rattle.labels.proofs.Carrying.{carries_light}

module _ (q : Pricing) (few : q.neighbours < 16) (xs : List Label) (l : Label) (m : Memory) (small : m.bits < 2 ^ 16) (sparing : IsSparing q xs l m)
    (j full shared : ℕ) (all : (i : ℕ) → i < 16 → has_bit full i ≡ true) (keeps : Keeps q.problem q.neighbours j full l.front.last shared)
    (within : (i : ℕ) → has_bit m.bits i ≡ true → has_bit shared i ≡ true → has_bit l.memory.bits i ≡ true) where
  abbrev e : Label
  e = label_in xs sparing.index

  abbrev v : ℕ
  v = l.front.last

  abbrev place : ℕ → ℕ
  place u = place_of q.problem q.neighbours v u

  near_itself : near q.problem q.neighbours j j ≡ true
  near_itself = near_at q.problem j q.neighbours j (omega (arith, place_first q.problem j q.neighbours))

  -- what is remembered has a place
  low : (u : ℕ) → has_bit m.bits (place u) ≡ true → place u < 16
  low u h = elim (cases_lt (place u) 16) [
    | inl less ↦ less
    | inr high ↦ (let none = bit_at_above m.bits 16 (place u) small high in absurd (both_ways _ (ap (λ (n : ℕ). eqb n 1) none) h))
  ]

  near_low : (u : ℕ) → near q.problem q.neighbours j u ≡ true → place_of q.problem q.neighbours j u < 16
  near_low u h = elim (cases_lt (place_of q.problem q.neighbours j u) 16) [
    | inl less ↦ less
    | inr high ↦ absurd (both_ways _ (not_near q.problem j q.neighbours few u high) h)
  ]

  -- what isn't forgotten on the way to j is remembered by the other one
  kept : (u : ℕ) → near q.problem q.neighbours j u ≡ true → has_bit m.bits (place u) ≡ true → has_bit l.memory.bits (place u) ≡ true
  kept u h here = within (place u) here (keeps u ∙ or_right (eqb u v) _ (and_from _ _ (all _ (near_low u h)) (near_at q.problem v q.neighbours u (low u here))))

  recalled : (u : ℕ) → (state_at q e).memory u ≡ has_bit m.bits (place u)
  recalled u = rw (sparing.ahead.last, sparing.remembers) refl

  kept_too : (u : ℕ) → near q.problem q.neighbours j u ≡ true → (state_at q e).memory u ≡ true → (state_at q l).memory u ≡ true
  kept_too u h here = kept u h (sym (recalled u) ∙ here)

  module _ (can : CanStep q (state_at q l) j) where
    far : distance q.problem e.front.last j ≡ distance q.problem l.front.last j
    far = ap (λ (i : ℕ). distance q.problem i j) sparing.ahead.last

    ahead : IsNoWorse q.rows (step q (state_at q e) j) (step q (state_at q l) j)
    ahead = record {
      last = refl;
      time = omega (arith, sparing.ahead.time, far);
      cost = omega (
        arith,
        ints,
        sparing.ahead.cost,
        ap (λ (i : ℕ). arc_value q.problem q.paid i j) sparing.ahead.last,
        debt_step q.problem q.neighbours q.rows (bit_of e.bits) (bit_of l.bits) j,
      );
      memory = λ u h. elim (or_cases _ _ h) [
        | inl same ↦ or_left _ _ same
        | inr both ↦ (let parts = and_parts _ _ both in or_right (eqb u j) _ (and_from _ _ (kept_too u parts.1 parts.0) parts.1))
      ];
    }

    can_too : (s : List ℕ) → Completes q (step q (state_at q l) j) s → CanStep q (state_at q e) j
    can_too s h = record {
      customer = can.customer;
      allowed = rw sparing.ahead.last can.allowed;
      load = omega (arith, sparing.room (j ∷ s) (can, h), sum_by-cons (demand q.problem) j s);
      due = omega (arith, can.due, sparing.ahead.time, far);
      fresh = false_from_ne_true _ (λ here. both_ways _ can.fresh (kept_too j near_itself here));
    }

    carried : Carries q (step q (state_at q e) j) (step q (state_at q l) j)
    carried = carries_light q _ _ ahead (λ s h. omega (arith, sparing.room (j ∷ s) (can, h), sum_by-cons (demand q.problem) j s))

    by_step : CarriesBy q j (state_at q e) (state_at q l)
    by_step = record { on = λ s h. (let on = carried.on s h.1 in ((can_too s h.1, on.0), on.1)) }

    pub spared_by : IsSpared q xs (state_at q l) j
    spared_by = (state_at q e, (record { index = sparing.index; within = sparing.within; extended = sparing.extended; is = refl }, by_step))

-- what spares a label steps still does so in a longer list
pub sparing_later : (q : Pricing) (xs ys : List Label) (l : Label) (m : Memory) → IsGrown xs ys → IsSparing q xs l m → IsSparing q ys l m
sparing_later q xs ys l m grown h =
    let later = grown.later h.index h.within in
    record {
      index = h.index;
      within = omega (arith, h.within, grown.longer);
      extended = later.extended ∙ h.extended;
      ahead = record { last = rw later.same.front h.ahead.last; time = rw later.same.front h.ahead.time; cost = rw (later.same.front, later.same.bits) h.ahead.cost };
      room = λ s completes. rw later.same.front (h.room s completes);
      remembers = later.same.memory ∙ h.remembers;
    }
