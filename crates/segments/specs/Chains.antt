-- The join of a list, cut anywhere.
use Rattle.std.proofs.Common.{◌≡◌, refl, ℕ, suc, ◌+◌, ◌<◌, List, [], ◌∷◌, ◌++◌, length, take, drop, get_or, sym, ap, ◌∙◌, arith, inl, inr, add-one, drop-cons, length-drop}
use Rattle.std.specs.Prelude.{Option, Some, None, option_and_then}
use Rattle.std.proofs.lemmas.List.{take_more, length-take, take-append-drop, take_all}
use Rattle.std.proofs.lemmas.Bool.{cases_lt}
use Rattle.segments.specs.Linked.{chain, both}

module _ {L : Type 0} (op : L → L → Option L) (law : (x y z : L) → option_and_then (λ xy. op xy z) (op x y) ≡ option_and_then (λ yz. op x yz) (op y z)) where
  both-none : (a : Option L) → both op a None ≡ None
  both-none None = refl
  both-none (Some x) = refl

  pub both-assoc : (a b c : Option L) → both op (both op a b) c ≡ both op a (both op b c)
  both-assoc None b c = refl
  both-assoc (Some x) None c = refl
  both-assoc (Some x) (Some y) None = both-none (op x y)
  both-assoc (Some x) (Some y) (Some z) = law x y z

  chain-cons : (x : L) (xs : List L) → 0 < length xs → chain op (x ∷ xs) ≡ both op (Some x) (chain op xs)
  chain-cons x [] h = absurd (omega arith)
  chain-cons x (y ∷ ys) h = refl

  some-append : (y : L) (xs ys : List L) → 0 < length ((y ∷ xs) ++ ys)
  some-append y xs ys = omega arith

  pub chain-append : (xs ys : List L) → 0 < length xs → 0 < length ys → chain op (xs ++ ys) ≡ both op (chain op xs) (chain op ys)
  chain-append [] ys h k = absurd (omega arith)
  chain-append (x ∷ []) ys h k = chain-cons x ys k
  chain-append (x ∷ (y ∷ xs)) ys h k =
      chain-cons x ((y ∷ xs) ++ ys) (some-append y xs ys)
      ∙ ap (both op (Some x)) (chain-append (y ∷ xs) ys (omega arith) k)
      ∙ sym (both-assoc (Some x) (chain op (y ∷ xs)) (chain op ys))

  -- one item more
  pub chain-more : (xs : List L) (i : ℕ) (x : L) → 0 < i → i < length xs → x ≡ get_or xs i x → chain op (take (i + 1) xs) ≡ both op (chain op (take i xs)) (Some x)
  chain-more xs i x h within read =
      let one_more : take (i + 1) xs ≡ take i xs ++ (x ∷ []) = take_more xs i x within ∙ ap (λ y. take i xs ++ (y ∷ [])) (sym read) in
      let long : 0 < length (take i xs) = omega (arith, length-take i xs) in
      ap (chain op) one_more ∙ chain-append (take i xs) (x ∷ []) long (omega arith)

  -- one item earlier
  pub chain-earlier : (xs : List L) (i : ℕ) (x : L) → i + 1 < length xs → x ≡ get_or xs i x → chain op (drop i xs) ≡ both op (Some x) (chain op (drop (i + 1) xs))
  chain-earlier xs i x within read =
      let here : i < length xs = omega arith in
      let cut : drop i xs ≡ x ∷ drop (i + 1) xs = drop-cons xs i x here ∙ ap (λ y. y ∷ drop (suc i) xs) (sym read) ∙ ap (λ n. x ∷ drop n xs) (sym (add-one i)) in
      let long : 0 < length (drop (i + 1) xs) = omega (arith, length-drop (i + 1) xs) in
      ap (chain op) cut ∙ chain-cons x (drop (i + 1) xs) long

  -- a join that fails early fails
  pub chain-broken : (xs : List L) (i : ℕ) → 0 < i → i < length xs + 1 → None ≡ chain op (take i xs) → None ≡ chain op xs
  chain-broken xs i h within broken =
      elim (cases_lt i (length xs)) [
        | inl more ↦
            let long : 0 < length (take i xs) = omega (arith, length-take i xs) in
            let rest : 0 < length (drop i xs) = omega (arith, length-drop i xs) in
            rw (← take-append-drop i xs, chain-append (take i xs) (drop i xs) long rest, ← broken) refl
        | inr all ↦ broken ∙ ap (chain op) (take_all i xs all)
      ]
