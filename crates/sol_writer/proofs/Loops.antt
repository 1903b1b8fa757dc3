-- Reading words and lines one after the other, as the loops do. A fault of the lines that isn't their end stays, however the text goes on.
use Rattle.std.proofs.Common.{◌≡◌, ℕ, zero, suc, ◌+◌, ◌<◌, List, [], ◌∷◌, ◌++◌, map, take, get_or, length, add-one, refl, sym, ap, ◌∙◌, append_assoc, arith, Bool, true, false, drop, Some}
use Rattle.std.proofs.Common.{None, Result, Ok, Err, Vec, nat_eq, ◌&&◌, cond, inl, inr}
use Rattle.std.proofs.lemmas.List.{append-nil}
use Rattle.std.specs.declared.alloc.Global.{Global}
use Rattle.std.specs.Str.{bytes_eq}
use Rattle.tenths.specs.Sink.{Held, Takes, Fails}
use Rattle.tenths.proofs.Writes.{takes_then, fails_then, fails_first}
use Rattle.solomon_reader.specs.SolutionText.{route_line, route_lines}
use Rattle.tenths.specs.Lines.{Left, line_at, is_end}
use Rattle.tenths.specs.Reading.{◌>>=◌}
use Rattle.solomon_reader.specs.Lists.{lists}
use Rattle.tenths.specs.Parts.{parts}
use Rattle.tenths.proofs.Cuts.{parts-some, grow, grow-some, parts-grow, FaultStays, fault_after, fault_made, fault_if, end_stays}
use Rattle.sol_writer.specs.declared.fault.SolFault.{SolFault}
use Rattle.sol_writer.specs.declared.fault.SolFault.TheVariants.{Truncated, Extra}
use Rattle.sol_writer.specs.Reading.{customer_at, customers_at, route_at, cost_at, is_cost, sol_at, end_at}
use Rattle.sol_writer.specs.Laws.{FirstFaultStays}

-- the lines of the first routes, and of one more
pub route_lines-take : {X : Type 0} (f : X → List ℕ) (xs : List X) (first i number : ℕ) (d : X) → i < length xs → number ≡ first + i
    → route_lines first (map f (take (suc i) xs)) ≡ route_lines first (map f (take i xs)) ++ route_line number (f (get_or xs i d))
route_lines-take f [] first i number d h e = absurd (omega arith)
route_lines-take f (x ∷ xs) first zero number d h e =
    let same : number ≡ first = omega arith in
    rw same (append-nil (route_line first (f x)))
route_lines-take f (x ∷ xs) first (suc i) number d h e =
    ap (λ (w : List ℕ). route_line first (f x) ++ w) (route_lines-take f xs (first + 1) i number d (omega arith) (omega arith))
    ∙ sym (append_assoc (route_line first (f x)) (route_lines (first + 1) (map f (take i xs))) (route_line number (f (get_or xs i d))))

-- the lines, cut after one of them
pub route_lines-cut : {X : Type 0} (f : X → List ℕ) (xs : List X) (first i number : ℕ) (d : X) → i < length xs → number ≡ first + i
    → (rest : List ℕ) × (route_lines first (map f xs) ≡ (route_lines first (map f (take i xs)) ++ route_line number (f (get_or xs i d))) ++ rest)
route_lines-cut f [] first i number d h e = absurd (omega arith)
route_lines-cut f (x ∷ xs) first zero number d h e =
    let same : number ≡ first = omega arith in
    (route_lines (first + 1) (map f xs), rw same refl)
route_lines-cut f (x ∷ xs) first (suc i) number d h e =
    let (rest, parts) = route_lines-cut f xs (first + 1) i number d (omega arith) (omega arith) in (
      rest,
      ap (λ (w : List ℕ). route_line first (f x) ++ w) parts
          ∙ sym (append_assoc (route_line first (f x)) (route_lines (first + 1) (map f (take i xs)) ++ route_line number (f (get_or xs i d))) rest)
          ∙ ap (λ (w : List ℕ). w ++ rest) (sym (append_assoc (route_line first (f x)) (route_lines (first + 1) (map f (take i xs))) (route_line number (f (get_or xs i d))))),
    )

-- a loop that writes the lines went on
pub lines_go_on : {X : Type 0} (f : X → List ℕ) (xs : List X) (first i number : ℕ) (d : X) (route : List ℕ) (r s t : Held)
    → i < length xs → number ≡ first + i → route ≡ f (get_or xs i d)
    → Takes r s (route_lines first (map f (take i xs))) → Takes s t (route_line number route) → Takes r t (route_lines first (map f (take (i + 1) xs)))
lines_go_on f xs first i number d route r s t h e same p q =
    rw (add-one i) (rw (route_lines-take f xs first i number d h e)
    (takes_then r s t (route_lines first (map f (take i xs))) (route_line number (f (get_or xs i d))) p (rw same at q)))

-- a loop that writes the lines failed at one of them
pub lines_fail : {X : Type 0} (f : X → List ℕ) (xs : List X) (first i number : ℕ) (d : X) (route : List ℕ) (r s t : Held)
    → i < length xs → number ≡ first + i → route ≡ f (get_or xs i d)
    → Takes r s (route_lines first (map f (take i xs))) → Fails s t (route_line number route) → Fails r t (route_lines first (map f xs))
lines_fail f xs first i number d route r s t h e same p q =
    let (rest, parts) = route_lines-cut f xs first i number d h e in
    rw parts (fails_first r t (route_lines first (map f (take i xs)) ++ route_line number (f (get_or xs i d))) rest
    (fails_then r s t (route_lines first (map f (take i xs))) (route_line number (f (get_or xs i d))) p (rw same at q)))

-- ---- a label

-- ---- Reading words and lines one after the other, as the loops do.

and_assoc : (a b c : Bool) → ((a && b) && c) ≡ (a && (b && c))
and_assoc true b c = refl
and_assoc false b c = refl

pub colon_after : (digits text : List ℕ) → (bytes_eq (take (length digits) text) digits && bytes_eq (drop (length digits) text) (58 ∷ [])) ≡ bytes_eq text (digits ++ (58 ∷ []))
colon_after [] text = refl
colon_after (d ∷ ds) [] = refl
colon_after (d ∷ ds) (x ∷ xs) = and_assoc (nat_eq x d) (bytes_eq (take (length ds) xs) ds) (bytes_eq (drop (length ds) xs) (58 ∷ [])) ∙ ap (λ (b : Bool). nat_eq x d && b) (colon_after ds xs)

-- ---- customers

abbrev pub with_customers : List ℕ → Result (List ℕ) SolFault → Result (List ℕ) SolFault
with_customers front read = read >>= λ cs. Ok (front ++ cs)

-- ---- routes

abbrev pub with_routes : List (List ℕ) → Result (List (List ℕ) × ℕ) SolFault → Result (List (List ℕ) × ℕ) SolFault
with_routes front read = read >>= λ s. Ok (front ++ s.0, s.1)

-- ---- steps of the loops

pub customers_more : (k c : ℕ) (front w : List ℕ) (ws : List (List ℕ)) (total : Result (List ℕ) SolFault) → customer_at k w ≡ Ok c
    → with_customers front (customers_at k (w ∷ ws)) ≡ total
    → with_customers (front ++ (c ∷ [])) (customers_at k ws) ≡ total
unfolding customers_at
customers_more k c front w ws total h so_far = sym (regroup (customers_at k ws)) ∙ so_far_is
  where
    regroup : (read : Result (List ℕ) SolFault) → with_customers front (read >>= λ cs. Ok (c ∷ cs)) ≡ with_customers (front ++ (c ∷ [])) read
    regroup (Ok cs) = ap (λ (x : List ℕ). Ok x) (simp append_assoc)
    regroup (Err f) = refl

    so_far_is : with_customers front (customers_at k ws >>= λ cs. Ok (c ∷ cs)) ≡ total
    so_far_is = let s = rw h at so_far in s

pub customers_fail : (k : ℕ) (front w : List ℕ) (ws : List (List ℕ)) (e : SolFault) (total : Result (List ℕ) SolFault) → customer_at k w ≡ Err e
    → with_customers front (customers_at k (w ∷ ws)) ≡ total → total ≡ Err e
unfolding customers_at
customers_fail k front w ws e total h so_far = sym so_far ∙ rw h refl

pub customers_end : (k : ℕ) (front : List ℕ) (total : Result (List ℕ) SolFault) → with_customers front (customers_at k []) ≡ total → total ≡ Ok front
unfolding customers_at
customers_end k front total so_far = sym so_far ∙ ap (λ (x : List ℕ). Ok x) (append-nil front)

-- ---- lines

abbrev pub at_left : Left → Result (List (List ℕ) × ℕ) SolFault
at_left l = sol_at l.0 l.1

-- the next line of a list of parts
pub record IsStep (k : ℕ) (ps : List (List ℕ)) (l : List ℕ) (new : Left) : Type 0 where
  pub more : List ℕ
  pub others : List (List ℕ)
  pub old_is : ps ≡ l ∷ more ∷ others
  pub new_is : new ≡ (k + 1, more ∷ others)

pub step_of : (k : ℕ) (ps : List (List ℕ)) (l : List ℕ) (new : Left) → line_at (k, ps) ≡ Some (l, new) → IsStep k ps l new
step_of k [] l new h = absurd cc
step_of k (p ∷ []) l new h = absurd cc
step_of k (p ∷ m ∷ ps) l new h = let e : (p, (k + 1, m ∷ ps)) ≡ (l, new) = cc in
    let f : p ≡ l = ap (λ (x : List ℕ × Left). x.0) e in
    record { more = m; others = ps; old_is = ap (λ (x : List ℕ). x ∷ m ∷ ps) f; new_is = sym (ap (λ (x : List ℕ × Left). x.1) e) }

-- no line is ended
pub no_line : (k : ℕ) (ps : List (List ℕ)) (front : List (List ℕ)) (total : Result (List (List ℕ) × ℕ) SolFault) → line_at (k, ps) ≡ None
    → with_routes front (sol_at k ps) ≡ total → total ≡ Err Truncated
unfolding sol_at
no_line k [] front total h so_far = sym so_far
no_line k (p ∷ []) front total h so_far = sym so_far
no_line k (p ∷ m ∷ ps) front total h so_far = absurd cc

-- the line that was read, with its number as the code has it
module _ (k n : ℕ) (ps : List (List ℕ)) (l : List ℕ) (new : Left) (front : List (List ℕ)) (total : Result (List (List ℕ) × ℕ) SolFault) (same : n ≡ k)
    (step : line_at (k, ps) ≡ Some (l, new)) (so_far : with_routes front (sol_at k ps) ≡ total) where
  pub route_more : (r : List ℕ) → is_cost n l ≡ false → route_at n l ≡ Ok r → with_routes (front ++ (r ∷ [])) (sol_at new.0 new.1) ≡ total
  unfolding sol_at
  route_more r not_cost h =
      let s = step_of k ps l new step in
      let x = rw same at not_cost in
      let y = rw same at h in
      let one = rw (s.old_is, x, y) at so_far in
      ap (λ (n : Left). with_routes (front ++ (r ∷ [])) (at_left n)) s.new_is ∙ sym (regroup (sol_at (k + 1) (s.more ∷ s.others))) ∙ one
    where
      regroup : (read : Result (List (List ℕ) × ℕ) SolFault) → with_routes front (read >>= λ t. Ok (r ∷ t.0, t.1)) ≡ with_routes (front ++ (r ∷ [])) read
      regroup (Ok t) = ap (λ (x : List (List ℕ)). Ok (x, t.1)) (simp append_assoc)
      regroup (Err f) = refl

  pub route_fails : (e : SolFault) → is_cost n l ≡ false → route_at n l ≡ Err e → total ≡ Err e
  unfolding sol_at
  route_fails e not_cost h = let s = step_of k ps l new step in
      let x = rw same at not_cost in
      let y = rw same at h in
      sym so_far ∙ rw (s.old_is, x, y) refl

  pub cost_fails : (e : SolFault) → is_cost n l ≡ true → cost_at n l ≡ Err e → total ≡ Err e
  unfolding sol_at
  cost_fails e is h = let s = step_of k ps l new step in
      let x = rw same at is in
      let y = rw same at h in
      sym so_far ∙ rw (s.old_is, x, y) refl

  pub extra : (t : ℕ) → is_cost n l ≡ true → cost_at n l ≡ Ok t → is_end new.1 ≡ false → total ≡ Err Extra
  unfolding sol_at
  extra t is h more = let s = step_of k ps l new step in
      let x = rw same at is in
      let y = rw same at h in
      let e : is_end (s.more ∷ s.others) ≡ false = ap (λ (n : Left). is_end n.1) (sym s.new_is) ∙ more in
      sym so_far ∙ rw (s.old_is, x, y, e) refl

  pub all_read : (t : ℕ) → is_cost n l ≡ true → cost_at n l ≡ Ok t → is_end new.1 ≡ true → total ≡ Ok (front, t)
  unfolding sol_at
  all_read t is h done = let s = step_of k ps l new step in
      let x = rw same at is in
      let y = rw same at h in
      let e : is_end (s.more ∷ s.others) ≡ true = ap (λ (n : Left). is_end n.1) (sym s.new_is) ∙ done in
      sym so_far ∙ rw (s.old_is, x, y, e) (ap (λ (x : List (List ℕ)). Ok (x, t)) (append-nil front))

pub shorter : (k : ℕ) (ps : List (List ℕ)) (l : List ℕ) (new : Left) → line_at (k, ps) ≡ Some (l, new) → length new.1 < length ps
shorter k ps l new step =
    let s = step_of k ps l new step in
    let a : length new.1 ≡ length (s.more ∷ s.others) = ap (λ (n : Left). length n.1) s.new_is in
    let b : length ps ≡ suc (length (s.more ∷ s.others)) = ap (λ (n : List (List ℕ)). length n) s.old_is in
    omega (arith, a, b)

-- ---- a colon

pub colon_then : (digits text front back : List ℕ) (r : Bool) → front ≡ take (length digits) text → back ≡ drop (length digits) text
    → bytes_eq front digits ≡ true → r ≡ bytes_eq back (58 ∷ []) → r ≡ bytes_eq text (digits ++ (58 ∷ []))
colon_then digits text front back r f b same e =
    let h = colon_after digits text in
    let s : bytes_eq (take (length digits) text) digits ≡ true = rw (← f) same in
    let g = rw (s, ← b) at h in
    e ∙ g

pub colon_else : (digits text front : List ℕ) (r : Bool) → front ≡ take (length digits) text → r ≡ bytes_eq front digits
    → bytes_eq front digits ≡ false → r ≡ bytes_eq text (digits ++ (58 ∷ []))
colon_else digits text front r f e other =
    let h = colon_after digits text in
    let s : bytes_eq (take (length digits) text) digits ≡ false = rw (← f) other in
    let g = rw s at h in
    e ∙ other ∙ g

pub lists-push : (routes : List (Vec ℕ Global)) (r : Vec ℕ Global) → lists (routes ++ (r ∷ [])) ≡ lists routes ++ (r.items ∷ [])
lists-push [] r = refl
lists-push (v ∷ routes) r = ap (λ (x : List (List ℕ)). v.items ∷ x) (lists-push routes r)

-- ---- A fault of the lines that isn't their end stays, however the text goes on.

sol_at-line : (k : ℕ) (l : List ℕ) (ps : List (List ℕ)) (p : List ℕ) (qs : List (List ℕ)) → ps ≡ p ∷ qs
    → sol_at k (l ∷ ps) ≡ cond (is_cost k l) (cost_at k l >>= λ c. end_at ([], c) ps) (route_at k l >>= λ r. sol_at (k + 1) ps >>= λ s. Ok (r ∷ s.0, s.1))
unfolding sol_at
sol_at-line k l ps p qs e = rw e refl

module _ (x : List ℕ) (rest : List (List ℕ)) where
  sol_stays : (k : ℕ) (ps : List (List ℕ)) → FaultStays Truncated (sol_at k ps) (sol_at k (grow x rest ps))
  unfolding sol_at
  sol_stays k [] d f = let same : Truncated ≡ d = cc in inl (sym same)
  sol_stays k (p ∷ []) d f = let same : Truncated ≡ d = cc in inl (sym same)
  sol_stays k (l ∷ m ∷ ps) d f =
      let more = grow x rest (m ∷ ps) in
      let some = grow-some x rest m ps in
      let both = fault_if Truncated (is_cost k l) _ _ (cost_at k l >>= λ c. end_at ([], c) more) (route_at k l >>= λ r. sol_at (k + 1) more >>= λ s. Ok (r ∷ s.0, s.1))
      (fault_after Truncated (cost_at k l) (λ c. end_at ([], c) (m ∷ ps)) (λ c. end_at ([], c) more) (λ c. end_stays Truncated Extra ([], c) ([], c) x rest (m ∷ ps)))
      (fault_after Truncated (route_at k l) (λ r. sol_at (k + 1) (m ∷ ps) >>= λ s. Ok (r ∷ s.0, s.1)) (λ r. sol_at (k + 1) more >>= λ s. Ok (r ∷ s.0, s.1))
      (λ r. fault_made Truncated (sol_at (k + 1) (m ∷ ps)) (sol_at (k + 1) more) (λ s. (r ∷ s.0, s.1)) (sol_stays (k + 1) (m ∷ ps)))) in
      rw (sol_at-line k l more some.0 some.1 some.2) (both d f)

pub reading_stays : FirstFaultStays
reading_stays front back d f other =
    let b = parts-some 10 back in
    let stays = sol_stays b.0 b.1 1 (parts 10 front) d f in
    elim stays [
      | inl e ↦ absurd (other e)
      | inr e ↦ ap (λ ps. sol_at 1 ps) (parts-grow 10 front back b.0 b.1 b.2) ∙ e
    ]
