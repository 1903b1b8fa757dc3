-- Neighbour lists, and what is remembered after a visit.
use Rattle.std.proofs.Common.{◌≡◌, ◌≢◌, refl, ℕ, ◌+◌, ◌<◌, ◌≤◌, ◌^◌, Bool, true, false, ◌&&◌, ◌||◌, ◌==◌, List, [], ◌∷◌, ◌++◌, length, length-append, take, arith, ap, sym, ◌∙◌, inl, inr}
use Rattle.std.proofs.lemmas.List.{get_or_append_left, get_or_push, take_more}
use Rattle.std.proofs.lemmas.List.Folds.{list_any-append}
use Rattle.std.proofs.lemmas.Nat.Bits.{bit_at_above, bit_at-zero}
use Rattle.std.proofs.lemmas.Bool.{cases_Bool, eq-eqb, ne_eqb, cases_lt, cases_eq, or_left, or_right, or_from, or_parts, and_right, and_from, both_ways}
use Rattle.solomon_reader.specs.Problem.{Problem}
use Rattle.solomon_reader.specs.Remembering.{near, remember}
use Rattle.leaf_arcs.specs.declared.neighbours.Neighbour.{Neighbour}
use Rattle.solomon_reader.specs.Memories.{has_bit, place_of, recalls}
use Rattle.leaf_arcs.specs.Memories.{neighbour_in, lists, IsNeighbourList}
use Rattle.solomon_reader.proofs.Places.{place_self, place_ranked, place_none, place_low, same_place, is_near as is_neighbour}

-- a number of 16 bits doesn't have the bit of what isn't in a list
has_far : (m : ℕ) → m < 2 ^ 16 → has_bit m 16 ≡ false
has_far m small = rw (bit_at_above m 16 16 small (omega arith)) refl

pub has_nothing : (i : ℕ) → has_bit 0 i ≡ false
has_nothing i = rw (bit_at-zero i) refl

lists_push : (xs : List Neighbour) (x : Neighbour) (u : ℕ) → lists (xs ++ (x ∷ [])) u ≡ (lists xs u || ((x.customer == u) || false))
lists_push xs x u = list_any-append (λ y. y.customer == u) xs (x ∷ [])

module _ (p : Problem) (k v : ℕ) where
  pub near_begun : IsNeighbourList p k v 0 []
  near_begun = record { sound = λ m w. absurd (omega arith); complete = λ u below h. absurd (omega arith) }

  module _ (i : ℕ) (xs : List Neighbour) (list : IsNeighbourList p k v i xs) where
    module _ (x : Neighbour) (customer : x.customer ≡ i) (bit : x.bit ≡ place_of p k v i) (within : i < length p.rows) (here : near p k v i ≡ true) where
      sound : (m : ℕ) → m < length (xs ++ (x ∷ [])) → (near p k v (neighbour_in (xs ++ (x ∷ [])) m).customer ≡ true)
          × (((neighbour_in (xs ++ (x ∷ [])) m).customer < length p.rows) × ((neighbour_in (xs ++ (x ∷ [])) m).bit ≡ place_of p k v (neighbour_in (xs ++ (x ∷ [])) m).customer))
      sound m w = elim (cases_lt m (length xs)) [
        | inl old ↦ rw (get_or_append_left xs (x ∷ []) (record { customer = 0; bit = 0 }) m old) (list.sound m old)
        | inr new ↦ (let e : m ≡ length xs = omega (arith, w, new, length-append xs (x ∷ [])) in
            rw (e, get_or_push xs x (record { customer = 0; bit = 0 }) (length xs) refl) (rw customer here, (rw customer within, rw customer bit)))
      ]

      complete : (u : ℕ) → u < i + 1 → near p k v u ≡ true → lists (xs ++ (x ∷ [])) u ≡ true
      complete u below h = lists_push xs x u ∙ elim (cases_lt u i) [
        | inl old ↦ or_left _ _ (list.complete u old h)
        | inr new ↦ or_right (lists xs u) _ (or_left (x.customer == u) _ (eq-eqb x.customer u (omega (arith, customer))))
      ]

      pub near_yes : IsNeighbourList p k v (i + 1) (xs ++ (x ∷ []))
      near_yes = record { sound = sound; complete = complete }

    pub near_no : near p k v i ≡ false → IsNeighbourList p k v (i + 1) xs
    near_no out = record {
      sound = list.sound;
      complete = λ u below h. elim (cases_eq u i) [
        | inl same ↦ absurd (both_ways (near p k v i) out (rw same at h))
        | inr apart ↦ list.complete u (omega arith) h
      ];
    }

-- what is remembered after a visit of j: the entries of its list up to m were looked at
module _ (p : Problem) (k v j memory : ℕ) (few : k ≤ 15) where
  abbrev pub Recalls : List Neighbour → ℕ → Type 0
  Recalls xs after = (u : ℕ) → has_bit after (place_of p k j u) ≡ ((u == j) || (lists xs u && recalls p k v memory u))

  not_first : (u : ℕ) → u ≢ j → place_of p k j u ≢ 0
  not_first u apart e = elim (cases_Bool (near p k j u)) [
    | inl h ↦ elim (is_neighbour p k j u h) [ inl same ↦ apart same | inr c ↦ omega (arith, e, place_ranked p j k u apart c.0 c.1) ]
    | inr h ↦ omega (arith, e, place_none p j k u h)
  ]

  pub recalls_none : (after : ℕ) → ((i : ℕ) → has_bit after i ≡ ((i == 0) || has_bit 0 i)) → Recalls [] after
  recalls_none after only u = only (place_of p k j u) ∙ elim (cases_eq u j) [
    | inl same ↦ or_left (place_of p k j u == 0) _ (eq-eqb _ _ (place_self p j k u same)) ∙ sym (or_left (u == j) _ (eq-eqb u j same))
    | inr apart ↦ or_from _ _ (ne_eqb _ _ (not_first u apart)) (has_nothing (place_of p k j u)) ∙ sym (or_from (u == j) _ (ne_eqb u j apart) refl)
  ]

  module _ (xs : List Neighbour) (x : Neighbour) (after : ℕ) (small : after < 2 ^ 16) (is_near : near p k j x.customer ≡ true)
      (bit : x.bit ≡ place_of p k j x.customer) (looked : Recalls xs after) where
    -- x is u exactly where their bits in the list are one
    same_test : (u : ℕ) → (place_of p k j u == x.bit) ≡ (x.customer == u)
    same_test u = elim (cases_eq x.customer u) [
      | inl same ↦ eq-eqb _ _ (ap (place_of p k j) (sym same) ∙ sym bit) ∙ sym (eq-eqb _ _ same)
      | inr apart ↦ ne_eqb _ _ (λ e. elim (cases_Bool (near p k j u)) [
        | inl h ↦ apart (sym (same_place p j k u x.customer h is_near (e ∙ bit)))
        | inr h ↦ omega (arith, e, bit, place_none p j k u h, place_low p j k (omega (arith, few)) x.customer is_near)
      ]) ∙ sym (ne_eqb _ _ apart)
    ]

    pub recalls_no : recalls p k v memory x.customer ≡ false → Recalls (xs ++ (x ∷ [])) after
    recalls_no out u = looked u ∙ ap (λ b. (u == j) || b) (elim (cases_eq x.customer u) [
      | inl same ↦ none_there _ _ (rw same at out)
      | inr apart ↦ ap (λ b. b && recalls p k v memory u) (sym (lists_push xs x u ∙ (ap (λ b. lists xs u || (b || false)) (ne_eqb _ _ apart) ∙ nothing_more (lists xs u))))
    ])
      where
        none_there : (a b : Bool) → recalls p k v memory u ≡ false → (a && recalls p k v memory u) ≡ (b && recalls p k v memory u)
        none_there a b h = and_right a _ h ∙ sym (and_right b _ h)

        nothing_more : (a : Bool) → (a || (false || false)) ≡ a
        nothing_more true = refl
        nothing_more false = refl

    pub recalls_yes : (next : ℕ) → recalls p k v memory x.customer ≡ true → ((i : ℕ) → has_bit next i ≡ ((i == x.bit) || has_bit after i)) → Recalls (xs ++ (x ∷ [])) next
    recalls_yes next here with_x u = with_x (place_of p k j u)
        ∙ (ap (λ b. b || has_bit after (place_of p k j u)) (same_test u) ∙ (ap (λ b. (x.customer == u) || b) (looked u) ∙ elim (cases_eq x.customer u) [
          | inl same ↦ or_left (x.customer == u) _ (eq-eqb _ _ same)
              ∙ sym (or_right (u == j) _ (and_from _ _ (lists_push xs x u ∙ or_right (lists xs u) _ (or_left (x.customer == u) _ (eq-eqb _ _ same))) (rw same at here)))
          | inr apart ↦ ap (λ b. b || ((u == j) || (lists xs u && recalls p k v memory u))) (ne_eqb _ _ apart)
              ∙ ap (λ b. (u == j) || (b && recalls p k v memory u)) (sym (lists_push xs x u ∙ (ap (λ b. lists xs u || (b || false)) (ne_eqb _ _ apart) ∙ nothing_more (lists xs u))))
        ]))
      where
        nothing_more : (a : Bool) → (a || (false || false)) ≡ a
        nothing_more true = refl
        nothing_more false = refl

  pub recalls_all : (xs : List Neighbour) (after : ℕ) → after < 2 ^ 16 → IsNeighbourList p k j (length p.rows) xs → j < length p.rows → Recalls xs after
      → (u : ℕ) → has_bit after (place_of p k j u) ≡ remember (near p k) (recalls p k v memory) j u
  recalls_all xs after small list within looked u = elim (cases_Bool (near p k j u)) [
    | inl h ↦ looked u ∙ ap (λ b. (u == j) || b) (rw (list.complete u (low u h) h, h) (flip (recalls p k v memory u)))
    | inr h ↦ rw (place_none p j k u h) (has_far after small) ∙ sym (or_from _ _ (far u h) (and_right _ _ h))
  ]
    where
      flip : (a : Bool) → (true && a) ≡ (a && true)
      flip true = refl
      flip false = refl

      low : (u : ℕ) → near p k j u ≡ true → u < length p.rows
      low u h = elim (is_neighbour p k j u h) [ inl e ↦ omega (arith, e, within) | inr c ↦ omega (arith, c.0.1, within) ]

      far : (u : ℕ) → near p k j u ≡ false → (u == j) ≡ false
      far u h = (or_parts (u == j) _ h).0

-- one more entry of the list was looked at
module _ (p : Problem) (k v j memory i : ℕ) (few : k ≤ 15) (xs : List Neighbour) (list : IsNeighbourList p k j (length p.rows) xs) (within : i < length xs) (after : ℕ) (small : after < 2 ^ 16)
    (looked : Recalls p k v j memory few (take i xs) after) where
  pub recalls_more_no : recalls p k v memory (neighbour_in xs i).customer ≡ false → Recalls p k v j memory few (take (i + 1) xs) after
  recalls_more_no out = rw (take_more xs i (record { customer = 0; bit = 0 }) within)
      (recalls_no p k v j memory few (take i xs) (neighbour_in xs i) after small (list.sound i within).0 (list.sound i within).1.1 looked out)

  pub recalls_more_yes : (next : ℕ) → recalls p k v memory (neighbour_in xs i).customer ≡ true
      → ((n : ℕ) → has_bit next n ≡ ((n == (neighbour_in xs i).bit) || has_bit after n)) → Recalls p k v j memory few (take (i + 1) xs) next
  recalls_more_yes next here with_x = rw (take_more xs i (record { customer = 0; bit = 0 }) within)
      (recalls_yes p k v j memory few (take i xs) (neighbour_in xs i) after small (list.sound i within).0 (list.sound i within).1.1 looked next here with_x)
