-- The text of a solution is its lines: what is read has this very text, and the text is read as that solution; so two solutions with one text are one.
use Rattle.std.proofs.Common.{◌≡◌, ℕ, ◌+◌, ◌≤◌, ◌<◌, ◌^◌, Bool, true, false, cond, List, [], ◌∷◌, ◌++◌, length, map, Option, Some, None, Ok, refl, sym, ap, subst, ◌∙◌, append_assoc, arith}
use Rattle.std.proofs.Common.{lit≤, lit<}
use Rattle.std.specs.Prelude.{nat_le, nat_lt, ◌&&◌, codes, decimal, IfOk, Result, Err, ◌==◌}
use Rattle.std.specs.Int.{IsInRange}
use Rattle.std.specs.List.{AllByRecursion, flat_map}
use Rattle.std.specs.Str.{bytes_eq}
use Rattle.std.proofs.lemmas.Slice.Eq.{bytes_eq-Decides}
use Rattle.std.proofs.lemmas.Bool.Decides.{nat_tests}
use Rattle.std.proofs.lemmas.List.{append-nil}
use Rattle.std.proofs.lemmas.List.Folds.{flat_map-map}
use Rattle.std.proofs.lemmas.Grind.{flat_map-append}
use Rattle.tenths.specs.Text.{tenths_text, spaced, line}
use Rattle.tenths.specs.Parts.{parts}
use Rattle.tenths.specs.Lines.{is_end}
use Rattle.tenths.specs.Numbers.{number_of, tenths_of}
use Rattle.tenths.proofs.Cuts.{joined, joined-parts, only_end, Lacks, joined-spaced, joined-lines, AllLack, Lacks-append, Lacks-spaced, parts-spaced, parts-lines, same_word}
use Rattle.tenths.proofs.Digits.{number_takes, number_again, tenths_takes, tenths_again, tenths_lack, decimal_lacks}
use Rattle.solomon_reader.specs.SolutionText.{IsRoute, IsSolution, route_line, route_lines, cost_line, solution_text, IsSolutionText}
use Rattle.tenths.specs.Reading.{◌>>=◌, check, value_or}
use Rattle.tenths.proofs.Steps.{bind_ok, test_ok, ok_is}
use Rattle.solomon_reader.specs.Lists.{lists}
use Rattle.sol_writer.specs.declared.fault.SolFault.TheVariants.{BadLine, Extra}
use Rattle.sol_writer.specs.Text.{label, route_text, cost_text, route_list, solution_lines, lines_text, view}
use Rattle.sol_writer.specs.Reading.{customer_at, customers_at, fixed_at, some_customers, route_at, only_tenths, cost_at, is_cost, end_at, sol_at, reading, Gives}
use Rattle.sol_writer.specs.declared.fault.SolFault.{SolFault}
use Rattle.sol_writer.specs.declared.sol.Sol.{Sol}
use Rattle.sol_writer.specs.Laws.{TextsDiffer}

-- ---- words

customer_takes : (k : ℕ) (w : List ℕ) (o : Option ℕ) (c : ℕ) → number_of w ≡ o
    → (value_or (BadLine k) o >>= λ c. check (nat_le 1 c && nat_le c 9999) (BadLine k) c) ≡ Ok c → (w ≡ decimal c) × IsInRange 1 9999 c
customer_takes k w None c e h = absurd cc
customer_takes k w (Some m) c e h =
    let t = test_ok (nat_le 1 m && nat_le m 9999) (BadLine k) m c h in
    let r = tests m t.0 in
    subst (λ (x : ℕ). (w ≡ decimal x) × IsInRange 1 9999 x) t.1 (number_takes w m e (omega (arith, r.1)), r)
  where
    tests : (m : ℕ) → (nat_le 1 m && nat_le m 9999) ≡ true → (1 ≤ m) × (m ≤ 9999)
    tests m e = grind (arith, nat_tests)

customers_take : (k : ℕ) (ws : List (List ℕ)) (cs : List ℕ) → customers_at k ws ≡ Ok cs → (ws ≡ map decimal cs) × AllByRecursion (IsInRange 1 9999) cs
unfolding customers_at customer_at
customers_take k [] cs h = let e = ok_is [] cs h in subst (λ (x : List ℕ). ([] ≡ map decimal x) × AllByRecursion (IsInRange 1 9999) x) e (refl, tt)
customers_take k (w ∷ ws) cs h =
    let a = bind_ok (customer_at k w) (λ c. customers_at k ws >>= λ cs. Ok (c ∷ cs)) cs h in
    let b = bind_ok (customers_at k ws) (λ cs. Ok (a.0 ∷ cs)) cs a.2 in
    let p = customer_takes k w (number_of w) a.0 refl a.1 in
    let q = customers_take k ws b.0 b.1 in
    let both : (w ∷ ws) ≡ (decimal a.0 ∷ map decimal b.0) = ap (λ (x : List ℕ). x ∷ ws) p.0 ∙ ap (λ (x : List (List ℕ)). decimal a.0 ∷ x) q.0 in
    subst (λ (x : List ℕ). ((w ∷ ws) ≡ map decimal x) × AllByRecursion (IsInRange 1 9999) x) (ok_is (a.0 ∷ b.0) cs b.2) (both, (p.1, q.1))

fixed_takes : (k : ℕ) (text : List ℕ) (ws rest : List (List ℕ)) → fixed_at k text ws ≡ Ok rest → ws ≡ text ∷ rest
fixed_takes k text [] rest h = absurd cc
fixed_takes k text (w ∷ ws) rest h =
    let t = test_ok (bytes_eq w text) (BadLine k) ws rest h in
    ap (λ (x : List ℕ). x ∷ ws) ((bytes_eq-Decides w text).0 t.0) ∙ ap (λ (x : List (List ℕ)). text ∷ x) t.1

some_takes : (k : ℕ) (cs r : List ℕ) → some_customers k cs ≡ Ok r → AllByRecursion (IsInRange 1 9999) cs → (cs ≡ r) × IsRoute r
some_takes k [] r h a = absurd cc
some_takes k (c ∷ cs) r h a = let e = ok_is (c ∷ cs) r h in (e, subst (λ (x : List ℕ). IsRoute x) e (omega arith, a))

-- ---- lines

pub route_takes : (k : ℕ) (l r : List ℕ) → route_at k l ≡ Ok r → (l ≡ route_text k r) × IsRoute r
unfolding route_at
route_takes k l r h =
    let a = bind_ok (fixed_at k (codes "Route") (parts 32 l)) (λ a. fixed_at k (label k) a >>= λ b. customers_at k b >>= λ r. some_customers k r) r h in
    let b = bind_ok (fixed_at k (label k) a.0) (λ b. customers_at k b >>= λ r. some_customers k r) r a.2 in
    let c = bind_ok (customers_at k b.0) (λ r. some_customers k r) r b.2 in
    let t = customers_take k b.0 c.0 c.1 in
    let s = some_takes k c.0 r c.2 t.1 in
    let w : parts 32 l ≡ codes "Route" ∷ label k ∷ map decimal r =
    fixed_takes k (codes "Route") (parts 32 l) a.0 a.1 ∙ ap (λ (x : List (List ℕ)). codes "Route" ∷ x) (fixed_takes k (label k) a.0 b.0 b.1)
    ∙ ap (λ (x : List (List ℕ)). codes "Route" ∷ label k ∷ x) (t.0 ∙ ap (λ (x : List ℕ). map decimal x) s.0) in
    (sym (joined-parts 32 l) ∙ ap (λ (x : List (List ℕ)). joined 32 x) w ∙ joined-spaced (codes "Route") (label k ∷ map decimal r), s.1)

only_takes : (k : ℕ) (ws : List (List ℕ)) (t : ℕ) → only_tenths k ws ≡ Ok t → (ws ≡ tenths_text t ∷ []) × (t < 10 ^ 13)
only_takes k [] t h = absurd cc
only_takes k (w ∷ v ∷ ws) t h = absurd cc
only_takes k (w ∷ []) t h = found (tenths_of w) refl h
  where
    found : (o : Option ℕ) → tenths_of w ≡ o → value_or (BadLine k) o ≡ Ok t → ((w ∷ []) ≡ tenths_text t ∷ []) × (t < 10 ^ 13)
    found None e f = absurd cc
    found (Some u) e f = let g = tenths_takes w u e in subst (λ (x : ℕ). ((w ∷ []) ≡ tenths_text x ∷ []) × (x < 10 ^ 13)) (ok_is u t f) (ap (λ (x : List ℕ). x ∷ []) g.0, g.1)

pub cost_takes : (k : ℕ) (l : List ℕ) (t : ℕ) → cost_at k l ≡ Ok t → (l ≡ cost_text t) × (t < 10 ^ 13)
unfolding cost_at
cost_takes k l t h =
    let a = bind_ok (fixed_at k (codes "Cost") (parts 32 l)) (λ a. only_tenths k a) t h in
    let o = only_takes k a.0 t a.2 in
    let w : parts 32 l ≡ codes "Cost" ∷ tenths_text t ∷ [] = fixed_takes k (codes "Cost") (parts 32 l) a.0 a.1 ∙ ap (λ (x : List (List ℕ)). codes "Cost" ∷ x) o.0 in
    (sym (joined-parts 32 l) ∙ ap (λ (x : List (List ℕ)). joined 32 x) w ∙ joined-spaced (codes "Cost") (tenths_text t ∷ []), o.1)

-- ---- the whole

pub record IsRead (k : ℕ) (ps : List (List ℕ)) (s : List (List ℕ) × ℕ) : Type 0 where
  pub lines : ps ≡ route_list k s.0 ++ (cost_text s.1 ∷ [] ∷ [])
  pub each : AllByRecursion IsRoute s.0
  pub within : s.1 < 10 ^ 13
  pub some : 2 ≤ k + length s.0

second : (k : ℕ) (l : List ℕ) → is_cost k l ≡ true → 2 ≤ k
unfolding is_cost
second k l h = first (nat_lt 1 k) _ refl h
  where
    first : (a b : Bool) → nat_lt 1 k ≡ a → (a && b) ≡ true → 2 ≤ k
    first true b e f = grind (arith, nat_tests)
    first false b e f = absurd cc

cost_read : (k : ℕ) (l : List ℕ) (ps : List (List ℕ)) (s : List (List ℕ) × ℕ) → is_cost k l ≡ true → (cost_at k l >>= λ c. end_at ([], c) ps) ≡ Ok s → IsRead k (l ∷ ps) s
cost_read k l ps s is h =
    let a = bind_ok (cost_at k l) (λ c. end_at ([], c) ps) s h in
    let t = test_ok (is_end ps) Extra ([], a.0) s a.2 in
    let c = cost_takes k l a.0 a.1 in
    let lines : (l ∷ ps) ≡ cost_text a.0 ∷ [] ∷ [] = ap (λ (x : List ℕ). x ∷ ps) c.0 ∙ ap (λ (x : List (List ℕ)). cost_text a.0 ∷ x) (only_end ps t.0) in
    let made : IsRead k (l ∷ ps) ([], a.0) = record { lines = lines; each = tt; within = c.1; some = omega (arith, second k l is) } in
    subst (λ (x : List (List ℕ) × ℕ). IsRead k (l ∷ ps) x) t.1 made

route_read : (k : ℕ) (l : List ℕ) (ps : List (List ℕ)) (s : List (List ℕ) × ℕ) (r : List ℕ) (u : List (List ℕ) × ℕ) → 1 ≤ k → route_at k l ≡ Ok r
    → IsRead (k + 1) ps u → (r ∷ u.0, u.1) ≡ s → IsRead k (l ∷ ps) s
route_read k l ps s r u ge h i e =
    let t = route_takes k l r h in
    let lines : (l ∷ ps) ≡ route_text k r ∷ (route_list (k + 1) u.0 ++ (cost_text u.1 ∷ [] ∷ [])) = ap (λ (x : List ℕ). x ∷ ps) t.0
    ∙ ap (λ (x : List (List ℕ)). route_text k r ∷ x) i.lines in
    let made : IsRead k (l ∷ ps) (r ∷ u.0, u.1) = record { lines = lines; each = (t.1, i.each); within = i.within; some = omega arith } in
    subst (λ (x : List (List ℕ) × ℕ). IsRead k (l ∷ ps) x) e made

pub sol_takes : (k : ℕ) (ps : List (List ℕ)) (s : List (List ℕ) × ℕ) → 1 ≤ k → sol_at k ps ≡ Ok s → IsRead k ps s
unfolding sol_at
sol_takes k [] s ge h = absurd cc
sol_takes k (p ∷ []) s ge h = absurd cc
sol_takes k (l ∷ m ∷ ps) s ge h = chosen (is_cost k l) refl h (λ u. sol_takes (k + 1) (m ∷ ps) u (omega arith))
  where
    chosen : (b : Bool) → is_cost k l ≡ b → cond b (cost_at k l >>= λ c. end_at ([], c) (m ∷ ps)) (route_at k l >>= λ r. sol_at (k + 1) (m ∷ ps) >>= λ s. Ok (r ∷ s.0, s.1)) ≡ Ok s
        → ((u : List (List ℕ) × ℕ) → sol_at (k + 1) (m ∷ ps) ≡ Ok u → IsRead (k + 1) (m ∷ ps) u) → IsRead k (l ∷ m ∷ ps) s
    chosen true e f more = cost_read k l (m ∷ ps) s e f
    chosen false e f more =
        let a = bind_ok (route_at k l) (λ r. sol_at (k + 1) (m ∷ ps) >>= λ s. Ok (r ∷ s.0, s.1)) s f in
        let b = bind_ok (sol_at (k + 1) (m ∷ ps)) (λ s. Ok (a.0 ∷ s.0, s.1)) s a.2 in
        route_read k l (m ∷ ps) s a.0 b.0 ge a.1 (more b.0 b.1) (ok_is (a.0 ∷ b.0.0, b.0.1) s b.2)

pub reading_takes : (text : List ℕ) (s : List (List ℕ) × ℕ) → reading text ≡ Ok s → IsSolution s.0 s.1 × (text ≡ lines_text s.0 s.1)
reading_takes text s h =
    let i = sol_takes 1 (parts 10 text) s (lit≤ tt) h in
    let grouped : route_list 1 s.0 ++ (cost_text s.1 ∷ [] ∷ []) ≡ solution_lines s.0 s.1 ++ ([] ∷ []) = sym (append_assoc (route_list 1 s.0) (cost_text s.1 ∷ []) ([] ∷ [])) in (
      record { some = omega (arith, i.some); each = i.each; within = omega (arith, i.within) },
      sym (joined-parts 10 text)
          ∙ ap (λ (x : List (List ℕ)). joined 10 x) (i.lines ∙ grouped) ∙ joined-lines (solution_lines s.0 s.1),
    )

-- ---- The lines of a solution are its text.

route_is_line : (k : ℕ) (r : List ℕ) → line (route_text k r) ≡ route_line k r
route_is_line k r = ap (λ (w : List ℕ). line (codes "Route" ++ (spaced (label k) ++ w))) (flat_map-map spaced decimal r)

routes_are : (k : ℕ) (rs : List (List ℕ)) → flat_map line (route_list k rs) ≡ route_lines k rs
routes_are k [] = refl
routes_are k (r ∷ rs) = ap (λ (w : List ℕ). w ++ flat_map line (route_list (k + 1) rs)) (route_is_line k r) ∙ ap (λ (w : List ℕ). route_line k r ++ w) (routes_are (k + 1) rs)

cost_is_line : (cost : ℕ) → flat_map line (cost_text cost ∷ []) ≡ cost_line cost
cost_is_line cost = append-nil (line (cost_text cost)) ∙ ap (λ (w : List ℕ). line (codes "Cost" ++ w)) (append-nil (spaced (tenths_text cost)))

pub text_is : (rs : List (List ℕ)) (cost : ℕ) → lines_text rs cost ≡ solution_text rs cost
text_is rs cost =
    flat_map-append line (route_list 1 rs) (cost_text cost ∷ []) ∙ ap (λ (w : List ℕ). w ++ flat_map line (cost_text cost ∷ [])) (routes_are 1 rs)
    ∙ ap (λ (w : List ℕ). route_lines 1 rs ++ w) (cost_is_line cost)

pub read_found : (text : List ℕ) (r : Result Sol SolFault) → Gives view r (reading text) → IfOk r (λ s. IsSolutionText text (lists s.routes.items) s.cost)
read_found text (Ok s) h = let t = reading_takes text (lists s.routes.items, s.cost) h in record { shaped = t.0; spelled = t.1 ∙ text_is (lists s.routes.items) s.cost }
read_found text (Err e) h = tt

-- ---- The text of a solution is read as that solution; so two solutions with one text are one.

customer_again : (k c : ℕ) → IsInRange 1 9999 c → customer_at k (decimal c) ≡ Ok c
unfolding customer_at
customer_again k c r = rw (number_again c (omega (arith, r.1)), tests c r.0 r.1) refl
  where
    tests : (m : ℕ) → 1 ≤ m → m ≤ 9999 → (nat_le 1 m && nat_le m 9999) ≡ true
    tests m a b = grind (arith, nat_tests)

customers_again : (k : ℕ) (cs : List ℕ) → AllByRecursion (IsInRange 1 9999) cs → customers_at k (map decimal cs) ≡ Ok cs
unfolding customers_at
customers_again k [] a = refl
customers_again k (c ∷ cs) a = rw (customer_again k c a.0, customers_again k cs a.1) refl

-- ---- no word has a space, and no line has a line feed

word_lacks : (s k : ℕ) → s < 35 → Lacks s (label k)
word_lacks s k lt = (other 35 lt, Lacks-append s (decimal k) (58 ∷ []) (decimal_lacks s k (omega arith)) (other 58 (omega arith), tt))
  where
    other : (b : ℕ) → s < b → (b == s) ≡ false
    other b h = grind (arith, nat_tests)

customers_lack : (s : ℕ) (cs : List ℕ) → s < 35 → AllLack s (map decimal cs)
customers_lack s [] lt = tt
customers_lack s (c ∷ cs) lt = (decimal_lacks s c (omega arith), customers_lack s cs lt)

route_words_lack : (s k : ℕ) (r : List ℕ) → s < 35 → AllLack s (label k ∷ map decimal r)
route_words_lack s k r lt = (word_lacks s k lt, customers_lack s r lt)

-- ---- lines

route_parts : (k : ℕ) (r : List ℕ) → parts 32 (route_text k r) ≡ codes "Route" ∷ label k ∷ map decimal r
route_parts k r = parts-spaced (codes "Route") (label k ∷ map decimal r) (refl, (refl, (refl, (refl, (refl, tt))))) (route_words_lack 32 k r (lit< tt))

cost_parts : (t : ℕ) → parts 32 (cost_text t) ≡ codes "Cost" ∷ tenths_text t ∷ []
cost_parts t = parts-spaced (codes "Cost") (tenths_text t ∷ []) (refl, (refl, (refl, (refl, tt)))) (tenths_lack 32 t (lit< tt), tt)

some_again : (k : ℕ) (r : List ℕ) → IsRoute r → some_customers k r ≡ Ok r
some_again k [] a = absurd (omega (arith, a.0))
some_again k (c ∷ cs) a = refl

route_again : (k : ℕ) (r : List ℕ) → IsRoute r → route_at k (route_text k r) ≡ Ok r
unfolding route_at
route_again k r a = rw (route_parts k r, same_word (label k), customers_again k r a.1, some_again k r a) refl

cost_again : (k t : ℕ) → t < 10 ^ 13 → cost_at k (cost_text t) ≡ Ok t
unfolding cost_at
cost_again k t h = rw (cost_parts t, tenths_again t h) refl

no_cost : (k : ℕ) (r : List ℕ) → is_cost k (route_text k r) ≡ false
unfolding is_cost
no_cost k r = rw (route_parts k r) (last (nat_lt 1 k))
  where
    last : (b : Bool) → (b && false) ≡ false
    last true = refl
    last false = refl

is_cost_again : (k t : ℕ) → 2 ≤ k → is_cost k (cost_text t) ≡ true
unfolding is_cost
is_cost_again k t ge = rw (cost_parts t, first k ge) refl
  where
    first : (k : ℕ) → 2 ≤ k → nat_lt 1 k ≡ true
    first k h = grind (arith, nat_tests)

-- ---- the whole

-- a line is always behind a route
more_lines : (k : ℕ) (rs : List (List ℕ)) (t : ℕ) → (m : List ℕ) × (ps : List (List ℕ)) × (route_list k rs ++ (cost_text t ∷ [] ∷ []) ≡ m ∷ ps)
more_lines k [] t = (cost_text t, [] ∷ [], refl)
more_lines k (r ∷ rs) t = (route_text k r, route_list (k + 1) rs ++ (cost_text t ∷ [] ∷ []), refl)

sol_at-route : (k : ℕ) (l : List ℕ) (ps : List (List ℕ)) (r : List ℕ) (u : List (List ℕ) × ℕ) (m : List ℕ) (qs : List (List ℕ)) → ps ≡ m ∷ qs
    → is_cost k l ≡ false → route_at k l ≡ Ok r → sol_at (k + 1) ps ≡ Ok u → sol_at k (l ∷ ps) ≡ Ok (r ∷ u.0, u.1)
unfolding sol_at
sol_at-route k l ps r u m qs e f g h = let i = rw e at h in rw (e, f, g, i) refl

pub sol_again : (k : ℕ) (rs : List (List ℕ)) (t : ℕ) → 2 ≤ k + length rs → t < 10 ^ 13 → AllByRecursion IsRoute rs
    → sol_at k (route_list k rs ++ (cost_text t ∷ [] ∷ [])) ≡ Ok (rs, t)
unfolding sol_at
sol_again k [] t ge h a = rw (is_cost_again k t (omega arith), cost_again k t h) refl
sol_again k (r ∷ rs) t ge h a =
    let m = more_lines (k + 1) rs t in
    sol_at-route k (route_text k r) (route_list (k + 1) rs ++ (cost_text t ∷ [] ∷ [])) r (rs, t) m.0 m.1 m.2 (no_cost k r) (route_again k r a.0) (sol_again (k + 1) rs t (omega arith) h a.1)

lines_lack : (k : ℕ) (rs : List (List ℕ)) (t : ℕ) → AllLack 10 (route_list k rs ++ (cost_text t ∷ []))
lines_lack k [] t = ((refl, (refl, (refl, (refl, Lacks-spaced 10 (tenths_text t ∷ []) refl (tenths_lack 10 t (lit< tt), tt))))), tt)
lines_lack k (r ∷ rs) t =
    ((refl, (refl, (refl, (refl, (refl, Lacks-spaced 10 (label k ∷ map decimal r) refl (route_words_lack 10 k r (lit< tt))))))), lines_lack (k + 1) rs t)

-- the lines of a solution are read as that solution
pub lines_again : (rs : List (List ℕ)) (t : ℕ) → IsSolution rs t → reading (lines_text rs t) ≡ Ok (rs, t)
lines_again rs t is =
    let within : t < 10 ^ 13 = omega (arith, is.within) in
    let cut : parts 10 (lines_text rs t) ≡ route_list 1 rs ++ (cost_text t ∷ [] ∷ []) =
    parts-lines (solution_lines rs t) (lines_lack 1 rs t) ∙ append_assoc (route_list 1 rs) (cost_text t ∷ []) ([] ∷ []) in
    ap (λ (x : List (List ℕ)). sol_at 1 x) cut ∙ sol_again 1 rs t (omega (arith, is.some)) within is.each

pub reading_again : (text : List ℕ) (rs : List (List ℕ)) (t : ℕ) → IsSolution rs t → text ≡ solution_text rs t → reading text ≡ Ok (rs, t)
reading_again text rs t is e = ap reading (e ∙ sym (text_is rs t)) ∙ lines_again rs t is

pub texts_differ : TextsDiffer
texts_differ r s b c p q e =
    let same : lines_text r b ≡ lines_text s c = text_is r b ∙ e ∙ sym (text_is s c) in
    let both : (r, b) ≡ (s, c) = ok_is (r, b) (s, c) (sym (lines_again r b p) ∙ ap reading same ∙ lines_again s c q) in
    (ap (λ (x : List (List ℕ) × ℕ). x.0) both, ap (λ (x : List (List ℕ) × ℕ). x.1) both)
