-- A fault of the words that isn't their end stays, however the words go on.
use Rattle.std.proofs.Common.{◌≡◌, ℕ, zero, suc, ◌+◌, Bool, true, false, cond, List, [], ◌∷◌, ◌++◌, length, Result, Ok, Err, refl, sym, ap, ◌⊎◌, inl, inr}
use Rattle.std.specs.Prelude.{nat_le, ◌==◌, ◌&&◌}
use Rattle.std.specs.Str.{bytes_eq}
use Rattle.std.specs.Str.Parse.{digits_value}
use Rattle.solomon_reader.specs.declared.limits.TheConstants.{MOST_NAME, MOST_FLEET, MOST_CAPACITY, MOST_CUSTOMERS, MOST_COORDINATE, MOST_DEMAND, MOST_TIME}
use Rattle.solomon_reader.specs.declared.fault.ReadFault.{ReadFault}
use Rattle.solomon_reader.specs.declared.fault.ReadFault.TheVariants.{Truncated, NoCustomers, BadNumber, BadWord, OutOfRange, OutOfOrder, BadDepot, DemandZero, WindowReversed}
use Rattle.solomon_reader.specs.Words.{Token, Word, Foreign}
use Rattle.solomon_reader.specs.Layout.{is_number, vehicle_words, customer_words}
use Rattle.solomon_reader.specs.Laws.{IsEnd}
use Rattle.solomon_reader.specs.Reading.{◌>>=◌, check, fixed_at, all_fixed_at, number_at, within_at, order_at, demand_at, due_at}
use Rattle.solomon_reader.specs.Reading.{service_at, head_at, window_at, row_at, rows_at, end_before, name_at, fleet_at, header_at, reading}

-- what is left may be longer
abbrev Longer : Type 0 → Type 0
Longer B = B → List Token → B

abbrev grown : {B : Type 0} → Longer B → Result B ReadFault → List Token → Result B ReadFault
grown longer (Ok b) more = Ok (longer b more)
grown longer (Err e) more = Err e

abbrev words_longer : Longer (List Token)
words_longer ts more = ts ++ more

abbrev pair_longer : {X : Type 0} → Longer (X × List Token)
pair_longer p more = (p.0, p.1 ++ more)

-- unless the words end, what a step answers is the same where there are more
pub record Stays {B C : Type 0} (before : Longer B) (after : Longer C) (step : B → Result C ReadFault) : Type 0 where
  pub told : (b : B) (more : List Token) → (step b ≡ Err Truncated) ⊎ (step (before b more) ≡ grown after (step b) more)

bound : {B C D : Type 0} (after : Longer C) (last : Longer D) (f : B → Result C ReadFault) (k : C → Result D ReadFault) (b b' : B) (more : List Token)
    (r r' : Result C ReadFault) → r' ≡ grown after r more → Stays after last k → ((r >>= k) ≡ Err Truncated) ⊎ ((r' >>= k) ≡ grown last (r >>= k) more)
bound after last f k b b' more (Ok c) r' e h = rw e (h.told c more)
bound after last f k b b' more (Err d) r' e h = inr (rw e refl)

pub then : {B C D : Type 0} (before : Longer B) (after : Longer C) (last : Longer D) (f : B → Result C ReadFault) (k : C → Result D ReadFault)
    → Stays before after f → Stays after last k → Stays before last (λ b. f b >>= k)
then before after last f k g h = record {
  told = λ b more. elim (g.told b more) [
    | inl e ↦ inl (ap (λ r. r >>= k) e)
    | inr e ↦ bound after last f k b (before b more) more (f b) (f (before b more)) e h
  ];
}

-- a test of what was read, and no further word
tested : {C : Type 0} (last : Longer C) (b : Bool) (fault : ReadFault) (x y : C) (more : List Token) → last x more ≡ y → check b fault y ≡ grown last (check b fault x) more
tested last true fault x y more e = ap (λ c. Ok c) (sym e)
tested last false fault x y more e = refl

number_stays : Stays words_longer pair_longer (number_at Truncated)
unfolding number_at
number_stays = record { told = by_cases }
  where
    by_cases : (ts more : List Token) → (number_at Truncated ts ≡ Err Truncated) ⊎ (number_at Truncated (ts ++ more) ≡ grown pair_longer (number_at Truncated ts) more)
    by_cases [] more = inl refl
    by_cases (Foreign at ∷ ts) more = inr refl
    by_cases (Word line w ∷ ts) more = inr (tested pair_longer (is_number w) (BadNumber line) ((line, digits_value 10 w), ts) ((line, digits_value 10 w), ts ++ more) more refl)

within_stays : (low high : ℕ) → Stays words_longer pair_longer (within_at low high)
unfolding within_at
within_stays low high = then words_longer pair_longer pair_longer (number_at Truncated) _ number_stays
    (record { told = λ n more. inr (tested pair_longer (nat_le low n.0.1 && nat_le n.0.1 high) (OutOfRange n.0.0) n (n.0, n.1 ++ more) more refl) })

fixed_stays : (text : List ℕ) → Stays words_longer words_longer (fixed_at text)
unfolding fixed_at
fixed_stays text = record { told = by_cases }
  where
    by_cases : (ts more : List Token) → (fixed_at text ts ≡ Err Truncated) ⊎ (fixed_at text (ts ++ more) ≡ grown words_longer (fixed_at text ts) more)
    by_cases [] more = inl refl
    by_cases (Foreign at ∷ ts) more = inr refl
    by_cases (Word line w ∷ ts) more = inr (tested words_longer (bytes_eq w text) (BadWord line) ts (ts ++ more) more refl)

all_fixed_stays : (texts : List (List ℕ)) → Stays words_longer words_longer (all_fixed_at texts)
unfolding all_fixed_at
all_fixed_stays [] = record { told = λ ts more. inr refl }
all_fixed_stays (text ∷ texts) = then words_longer words_longer words_longer (fixed_at text) (all_fixed_at texts) (fixed_stays text) (all_fixed_stays texts)

order_stays : (k : ℕ) → Stays words_longer words_longer (order_at k)
unfolding order_at
order_stays k = then words_longer pair_longer words_longer (number_at Truncated) _ number_stays
    (record { told = λ n more. inr (tested words_longer (n.0.1 == k) (OutOfOrder n.0.0) n.1 (n.1 ++ more) more refl) })

demand_stays : (k : ℕ) → Stays words_longer pair_longer (demand_at k)
unfolding demand_at
demand_stays k = then words_longer pair_longer pair_longer (number_at Truncated) _ number_stays (record { told = λ n more. inr (by_cases (k == 0) (n.0.1 == 0) n more) })
  where
    by_cases : (depot none : Bool) (n : (ℕ × ℕ) × List Token) (more : List Token)
        → cond depot (check none BadDepot (n.0.1, n.1 ++ more)) (cond none (Err (DemandZero n.0.0)) (check (nat_le n.0.1 MOST_DEMAND) (OutOfRange n.0.0) (n.0.1, n.1 ++ more)))
        ≡ grown pair_longer (cond depot (check none BadDepot (n.0.1, n.1)) (cond none (Err (DemandZero n.0.0)) (check (nat_le n.0.1 MOST_DEMAND) (OutOfRange n.0.0) (n.0.1, n.1)))) more
    by_cases true none n more = tested pair_longer none BadDepot (n.0.1, n.1) (n.0.1, n.1 ++ more) more refl
    by_cases false true n more = refl
    by_cases false false n more = tested pair_longer (nat_le n.0.1 MOST_DEMAND) (OutOfRange n.0.0) (n.0.1, n.1) (n.0.1, n.1 ++ more) more refl

due_stays : (ready : ℕ) → Stays words_longer pair_longer (due_at ready)
unfolding due_at
due_stays ready = then words_longer pair_longer pair_longer (within_at 0 MOST_TIME) _ (within_stays 0 MOST_TIME)
    (record { told = λ n more. inr (tested pair_longer (nat_le ready n.0.1) (WindowReversed n.0.0) (n.0.1, n.1) (n.0.1, n.1 ++ more) more refl) })

service_stays : (k : ℕ) → Stays words_longer pair_longer (service_at k)
unfolding service_at
service_stays k = then words_longer pair_longer pair_longer (within_at 0 MOST_TIME) _ (within_stays 0 MOST_TIME) (record { told = λ n more. inr (by_cases (k == 0) n more) })
  where
    by_cases : (depot : Bool) (n : (ℕ × ℕ) × List Token) (more : List Token)
        → cond depot (check (n.0.1 == 0) BadDepot (n.0.1, n.1 ++ more)) (Ok (n.0.1, n.1 ++ more)) ≡ grown pair_longer (cond depot (check (n.0.1 == 0) BadDepot (n.0.1, n.1)) (Ok (n.0.1, n.1))) more
    by_cases true n more = tested pair_longer (n.0.1 == 0) BadDepot (n.0.1, n.1) (n.0.1, n.1 ++ more) more refl
    by_cases false n more = refl

-- a step that goes on from the words that are left, whatever was read before
on : {X C : Type 0} (last : Longer C) (k : X → List Token → Result C ReadFault) → ((x : X) → Stays words_longer last (k x)) → Stays pair_longer last (λ p. k p.0 p.1)
on last k h = record { told = λ p more. (h p.0).told p.1 more }

head_stays : (k : ℕ) → Stays words_longer pair_longer (head_at k)
unfolding head_at
head_stays k = then words_longer words_longer pair_longer (order_at k) _ (order_stays k)
    (then words_longer pair_longer pair_longer (within_at 0 MOST_COORDINATE) _ (within_stays 0 MOST_COORDINATE)
    (on pair_longer (λ x ts. within_at 0 MOST_COORDINATE ts >>= λ y. Ok ((x.1, y.0.1), y.1)) (λ x.
    then words_longer pair_longer pair_longer (within_at 0 MOST_COORDINATE) _ (within_stays 0 MOST_COORDINATE) (record { told = λ y more. inr refl }))))

window_stays : Stays words_longer pair_longer window_at
unfolding window_at
window_stays = then words_longer pair_longer pair_longer (within_at 0 MOST_TIME) _ (within_stays 0 MOST_TIME)
    (on pair_longer (λ ready ts. due_at ready.1 ts >>= λ due. Ok ((ready.1, due.0), due.1)) (λ ready.
    then words_longer pair_longer pair_longer (due_at ready.1) _ (due_stays ready.1) (record { told = λ due more. inr refl })))

row_stays : (k : ℕ) → Stays words_longer pair_longer (row_at k)
unfolding row_at
row_stays k = then words_longer pair_longer pair_longer (head_at k) _ (head_stays k)
    (on pair_longer (λ place ts. demand_at k ts >>= λ demand. window_at demand.1 >>= λ window. service_at k window.1 >>= λ service.
    Ok (record { x = place.0; y = place.1; demand = demand.0; ready = window.0.0; due = window.0.1; service = service.0 }, service.1)) (λ place.
    then words_longer pair_longer pair_longer (demand_at k) _ (demand_stays k)
    (on pair_longer (λ demand ts. window_at ts >>= λ window. service_at k window.1 >>= λ service.
    Ok (record { x = place.0; y = place.1; demand = demand; ready = window.0.0; due = window.0.1; service = service.0 }, service.1)) (λ demand.
    then words_longer pair_longer pair_longer window_at _ window_stays
    (on pair_longer (λ window ts. service_at k ts >>= λ service. Ok
    (record { x = place.0; y = place.1; demand = demand; ready = window.0; due = window.1; service = service.0 }, service.1)) (λ window.
    then words_longer pair_longer pair_longer (service_at k) _ (service_stays k) (record { told = λ service more. inr refl })))))))

name_stays : Stays words_longer pair_longer name_at
unfolding name_at
name_stays = record { told = by_cases }
  where
    by_cases : (ts more : List Token) → (name_at ts ≡ Err Truncated) ⊎ (name_at (ts ++ more) ≡ grown pair_longer (name_at ts) more)
    by_cases [] more = inl refl
    by_cases (Foreign at ∷ ts) more = inr refl
    by_cases (Word line w ∷ ts) more = inr (tested pair_longer (nat_le (length w) MOST_NAME) (BadWord line) (w, ts) (w, ts ++ more) more refl)

fleet_stays : Stays words_longer pair_longer fleet_at
unfolding fleet_at
fleet_stays = then words_longer pair_longer pair_longer (within_at 1 MOST_FLEET) _ (within_stays 1 MOST_FLEET)
    (on pair_longer (λ fleet ts. within_at 1 MOST_CAPACITY ts >>= λ capacity. Ok ((fleet.1, capacity.0.1), capacity.1)) (λ fleet.
    then words_longer pair_longer pair_longer (within_at 1 MOST_CAPACITY) _ (within_stays 1 MOST_CAPACITY) (record { told = λ capacity more. inr refl })))

header_stays : Stays words_longer pair_longer header_at
unfolding header_at
header_stays = then words_longer pair_longer pair_longer name_at _ name_stays
    (on pair_longer (λ name ts. all_fixed_at vehicle_words ts >>= λ a. fleet_at a >>= λ fleet. Ok ((name, fleet.0), fleet.1)) (λ name.
    then words_longer words_longer pair_longer (all_fixed_at vehicle_words) _ (all_fixed_stays vehicle_words)
    (then words_longer pair_longer pair_longer fleet_at _ fleet_stays (record { told = λ fleet more. inr refl }))))

-- ---- faults of the last part, which takes all words

pub record FaultsStay {B C : Type 0} (before : Longer B) (step : B → Result C ReadFault) : Type 0 where
  pub told : (b : B) (more : List Token) (e : ReadFault) → step b ≡ Err e → IsEnd e ⊎ (step (before b more) ≡ Err e)

faults_bound : {C D : Type 0} (after : Longer C) (k : C → Result D ReadFault) (more : List Token) (r r' : Result C ReadFault) (e : ReadFault)
    → r' ≡ grown after r more → FaultsStay after k → (r >>= k) ≡ Err e → IsEnd e ⊎ ((r' >>= k) ≡ Err e)
faults_bound after k more (Ok c) r' e is h f = rw is (h.told c more e f)
faults_bound after k more (Err d) r' e is h f = inr (rw is f)

ended : (e : ReadFault) {C D : Type 0} (k : C → Result D ReadFault) (r : Result C ReadFault) → r ≡ Err Truncated → (r >>= k) ≡ Err e → IsEnd e
ended e k r t f = let same : Truncated ≡ e = cc (ap (λ r. r >>= k) t) in inl (sym same)

faults_then : {B C D : Type 0} (before : Longer B) (after : Longer C) (f : B → Result C ReadFault) (k : C → Result D ReadFault)
    → Stays before after f → FaultsStay after k → FaultsStay before (λ b. f b >>= k)
faults_then before after f k g h = record {
  told = λ b more e is. elim (g.told b more) [
    | inl t ↦ inl (ended e k (f b) t is)
    | inr s ↦ faults_bound after k more (f b) (f (before b more)) e s h is
  ];
}

faults_on : {X C : Type 0} (k : X → List Token → Result C ReadFault) → ((x : X) → FaultsStay words_longer (k x)) → FaultsStay pair_longer (λ p. k p.0 p.1)
faults_on k h = record { told = λ p more e is. (h p.0).told p.1 more e is }

abbrev failed : {C : Type 0} → ReadFault → Result C ReadFault
failed e = Err e

-- the rows of what was read make no fault of their own
only_made : {C D : Type 0} (make : C → D) (r r' : Result C ReadFault) (e : ReadFault) → (r >>= λ c. Ok (make c)) ≡ Err e
    → (r ≡ Err e → IsEnd e ⊎ (r' ≡ Err e)) → IsEnd e ⊎ ((r' >>= λ c. Ok (make c)) ≡ Err e)
only_made make (Ok c) r' e is h = absurd cc
only_made make (Err d) r' e is h = let same : d ≡ e = cc in elim (h (ap (λ f. failed f) same)) [ inl end ↦ inl end | inr s ↦ inr (rw s refl) ]

end_is_end : (k : ℕ) (e : ReadFault) → end_before k ≡ Err e → IsEnd e
end_is_end zero e is = let same : Truncated ≡ e = cc in inl (sym same)
end_is_end (suc zero) e is = let same : NoCustomers ≡ e = cc in inr (sym same)
end_is_end (suc (suc k)) e is = absurd cc

rows_stay : (left k : ℕ) → FaultsStay words_longer (rows_at left k)
unfolding rows_at
rows_stay left k = record { told = by_cases left k }
  where
    by_cases : (left k : ℕ) (ts more : List Token) (e : ReadFault) → rows_at left k ts ≡ Err e → IsEnd e ⊎ (rows_at left k (ts ++ more) ≡ Err e)
    by_cases zero k [] more e is = inl (end_is_end k e is)
    by_cases (suc left) k [] more e is = inl (end_is_end k e is)
    by_cases zero k (Foreign at ∷ ts) more e is = inr is
    by_cases (suc left) k (Foreign at ∷ ts) more e is = inr is
    by_cases zero k (Word line w ∷ ts) more e is = inr is
    by_cases (suc left) k (Word line w ∷ ts) more e is =
        (faults_then words_longer pair_longer (row_at k) _ (row_stays k)
        (faults_on (λ first ts. rows_at left (k + 1) ts >>= λ others. Ok (first ∷ others)) (λ first. record {
          told = λ ts more e is. only_made (λ others. first ∷ others) (rows_at left (k + 1) ts) (rows_at left (k + 1) (ts ++ more)) e is (λ is. by_cases left (k + 1) ts more e is);
        }))).told (Word line w ∷ ts) more e is

pub reading_stays : (front back : List Token) (e : ReadFault) → reading front ≡ Err e → ¬ IsEnd e → reading (front ++ back) ≡ Err e
unfolding reading
reading_stays front back e is not_end =
    elim (all.told front back e is) [ inl end ↦ absurd (not_end end) | inr s ↦ s ]
  where
    all : FaultsStay words_longer reading
    all = faults_then words_longer pair_longer header_at _ header_stays
        (faults_on (λ header ts. all_fixed_at customer_words ts >>= λ a. rows_at (MOST_CUSTOMERS + 1) 0 a >>= λ rows.
        Ok (record { name = header.0; fleet = header.1.0; capacity = header.1.1; rows = rows })) (λ header.
        faults_then words_longer words_longer (all_fixed_at customer_words) _ (all_fixed_stays customer_words)
        (record {
          told = λ ts more e is. only_made (λ rows. record { name = header.0; fleet = header.1.0; capacity = header.1.1; rows = rows })
              (rows_at (MOST_CUSTOMERS + 1) 0 ts) (rows_at (MOST_CUSTOMERS + 1) 0 (ts ++ more)) e is
              (λ is. (rows_stay (MOST_CUSTOMERS + 1) 0).told ts more e is);
        })))
