-- Where a text is cut, and texts that are put together: lines of words are cut again, and the fault that first lines show stays.
use Rattle.std.proofs.Common.{◌≡◌, ℕ, suc, ◌+◌, Bool, true, false, List, [], ◌∷◌, ◌++◌, length, take, drop, Option, Some, None, refl, sym, ap, ◌∙◌, arith, append_assoc, cond, Result, Ok}
use Rattle.std.proofs.Common.{Err, ◌⊎◌, inl, inr}
use Rattle.std.specs.Prelude.{take_while, ◌==◌}
use Rattle.std.proofs.lemmas.List.Sums.{take_while-cons}
use Rattle.std.proofs.lemmas.Bool.Decides.{nat_tests}
use Rattle.std.specs.Str.{bytes_eq}
use Rattle.std.proofs.lemmas.Slice.Eq.{bytes_eq-Decides}
use Rattle.std.specs.List.{flat_map}
use Rattle.std.proofs.lemmas.List.{append-nil}
use denote.Ref.{Bor}
use Rattle.tenths.specs.Parts.{parts, onto, is_other, left_parts, IsTail}
use Rattle.tenths.specs.Lines.{Left, line_at, is_end}
use Rattle.tenths.specs.Text.{spaced, line}
use Rattle.tenths.specs.Reading.{◌>>=◌, check}

-- the text is cut before what is behind the front
abbrev pub IsCut : ℕ → List ℕ → List ℕ → List ℕ → Type 0
IsCut s bs front [] = parts s bs ≡ front ∷ []
IsCut s bs front (x ∷ after) = parts s bs ≡ front ∷ parts s after

onto-cut : (s b : ℕ) (bs front back : List ℕ) → (b == s) ≡ false → IsCut s bs front back → IsCut s (b ∷ bs) (b ∷ front) back
unfolding parts
onto-cut s b bs front [] e h = rw (e, h) refl
onto-cut s b bs front (x ∷ after) e h = rw (e, h) refl

cut-cons : (s b : ℕ) (bs : List ℕ) (t : Bool) → (b == s) ≡ t → IsCut s bs (take (length (take_while (is_other s) bs)) bs) (drop (length (take_while (is_other s) bs)) bs)
    → IsCut s (b ∷ bs) (take (length (take_while (is_other s) (b ∷ bs))) (b ∷ bs)) (drop (length (take_while (is_other s) (b ∷ bs))) (b ∷ bs))
unfolding parts
cut-cons s b bs true e h = rw (take_while-cons (is_other s) b bs, e) (rw e refl)
cut-cons s b bs false e h =
    let o : is_other s b ≡ true = rw e refl in
    rw (take_while-cons (is_other s) b bs, o) (onto-cut s b bs _ _ e h)

pub cut : (s : ℕ) (bs : List ℕ) → IsCut s bs (take (length (take_while (is_other s) bs)) bs) (drop (length (take_while (is_other s) bs)) bs)
unfolding parts
cut s [] = refl
cut s (b ∷ bs) = cut-cons s b bs (b == s) refl (cut s bs)

-- as the code finds it
pub cut_at : (s n : ℕ) (bs front back : List ℕ) → n ≡ length (take_while (is_other s) bs) → front ≡ take n bs → back ≡ drop n bs → IsCut s bs front back
cut_at s n bs front back e f g =
    let h = cut s bs in
    rw (f, g, e) h

-- the first part, and those behind the separator
pub cut_next : (s : ℕ) (bs front back : List ℕ) (o : Option (Bor (List ℕ))) → IsCut s bs front back → IsTail back o → parts s bs ≡ front ∷ left_parts s o
cut_next s bs front [] None h t = h
cut_next s bs front [] (Some r) h t = absurd t
cut_next s bs front (x ∷ after) None h t = absurd t
cut_next s bs front (x ∷ after) (Some r) h t = h ∙ ap (λ (y : List ℕ). front ∷ parts s y) (sym t)

-- ---- texts put together

-- the separator isn't among the bytes
abbrev pub Lacks : ℕ → List ℕ → Type 0
Lacks s [] = Unit {0}
Lacks s (b ∷ bs) = ((b == s) ≡ false) × Lacks s bs

pub parts-one : (s : ℕ) (w : List ℕ) → Lacks s w → parts s w ≡ w ∷ []
unfolding parts
parts-one s [] h = refl
parts-one s (b ∷ w) h = rw (h.0, parts-one s w h.1) refl

same_byte : (s : ℕ) → (s == s) ≡ true
same_byte s = grind (arith, nat_tests)

pub parts-more : (s : ℕ) (w rest : List ℕ) → Lacks s w → parts s (w ++ (s ∷ rest)) ≡ w ∷ parts s rest
unfolding parts
parts-more s [] rest h = rw (same_byte s) refl
parts-more s (b ∷ w) rest h = rw (h.0, parts-more s w rest h.1) refl

-- the text of some parts
abbrev pub joined : ℕ → List (List ℕ) → List ℕ
joined s [] = []
joined s (p ∷ []) = p
joined s (p ∷ q ∷ ps) = p ++ (s ∷ joined s (q ∷ ps))

joined-onto : (s b : ℕ) (p : List ℕ) (ps : List (List ℕ)) → joined s ((b ∷ p) ∷ ps) ≡ b ∷ joined s (p ∷ ps)
joined-onto s b p [] = refl
joined-onto s b p (q ∷ ps) = refl

-- there is always a part
abbrev IsSome_parts : List (List ℕ) → Type 0
IsSome_parts [] = ⊥
IsSome_parts (p ∷ ps) = Unit {0}

some-onto : (b : ℕ) (ps : List (List ℕ)) → IsSome_parts (onto b ps)
some-onto b [] = tt
some-onto b (p ∷ ps) = tt

some-nil : (s : ℕ) → IsSome_parts (parts s [])
unfolding parts
some-nil s = tt

some-cons : (s b : ℕ) (bs : List ℕ) (t : Bool) → (b == s) ≡ t → IsSome_parts (parts s (b ∷ bs))
unfolding parts
some-cons s b bs true e = rw e tt
some-cons s b bs false e = rw e (some-onto b (parts s bs))

pub parts-some : (s : ℕ) (bs : List ℕ) → (p : List ℕ) × (ps : List (List ℕ)) × (parts s bs ≡ p ∷ ps)
parts-some s bs = found (parts s bs) refl (some s bs)
  where
    found : (ps : List (List ℕ)) → parts s bs ≡ ps → IsSome_parts ps → (p : List ℕ) × (qs : List (List ℕ)) × (parts s bs ≡ p ∷ qs)
    found [] e h = absurd h
    found (p ∷ ps) e h = (p, ps, e)

    some : (s : ℕ) (bs : List ℕ) → IsSome_parts (parts s bs)
    some s [] = some-nil s
    some s (b ∷ bs) = some-cons s b bs (b == s) refl

joined-cons : (s b : ℕ) (bs : List ℕ) (t : Bool) → (b == s) ≡ t → joined s (parts s bs) ≡ bs → joined s (parts s (b ∷ bs)) ≡ b ∷ bs
unfolding parts
joined-cons s b bs true e h =
    let r = parts-some s bs in
    let same : b ≡ s = equal b s e in
    let g = rw r.2 at h in
    rw (e, r.2, same) (ap (λ (x : List ℕ). s ∷ x) g)
  where
    equal : (b s : ℕ) → (b == s) ≡ true → b ≡ s
    equal b s e = grind (arith, nat_tests)
joined-cons s b bs false e h =
    let r = parts-some s bs in
    let g = rw r.2 at h in
    rw (e, r.2) (joined-onto s b r.0 r.1 ∙ ap (λ (x : List ℕ). b ∷ x) g)

-- a text is its parts put together
pub joined-parts : (s : ℕ) (bs : List ℕ) → joined s (parts s bs) ≡ bs
unfolding parts
joined-parts s [] = refl
joined-parts s (b ∷ bs) = joined-cons s b bs (b == s) refl (joined-parts s bs)

-- ---- lines

abbrev at_line : ℕ → List (List ℕ) → Option (List ℕ × Left)
at_line k ps = line_at (k, ps)

pub no_line_cut : (k : ℕ) (bs front back : List ℕ) → IsCut 10 bs front back → IsTail back None → line_at (k, parts 10 bs) ≡ None
no_line_cut k bs front [] h t = rw h refl
no_line_cut k bs front (x ∷ after) h t = absurd t

pub line_cut : (k : ℕ) (bs front back : List ℕ) (r : Bor (List ℕ)) → IsCut 10 bs front back → IsTail back (Some r) → line_at (k, parts 10 bs) ≡ Some (front, (k + 1, parts 10 r.now))
line_cut k bs front [] r h t = absurd t
line_cut k bs front (x ∷ after) r h t =
    let p = parts-some 10 after in
    let e : parts 10 r.now ≡ p.0 ∷ p.1 = ap (λ (y : List ℕ). parts 10 y) t ∙ p.2 in
    let f : parts 10 bs ≡ front ∷ (p.0 ∷ p.1) = h ∙ ap (λ (y : List (List ℕ)). front ∷ y) p.2 in
    let g : Some (front, (k + 1, p.0 ∷ p.1)) ≡ Some (front, (k + 1, parts 10 r.now)) = ap (λ (y : List (List ℕ)). Some (front, (k + 1, y))) (sym e) in
    ap (at_line k) f ∙ g

joined-end : (b : ℕ) (bs : List ℕ) (ps : List (List ℕ)) → joined 10 ps ≡ b ∷ bs → is_end ps ≡ false
joined-end b bs [] h = refl
joined-end b bs ([] ∷ []) h = absurd cc
joined-end b bs ((x ∷ p) ∷ []) h = refl
joined-end b bs ([] ∷ q ∷ ps) h = refl
joined-end b bs ((x ∷ p) ∷ q ∷ ps) h = refl

pub only_end : (ps : List (List ℕ)) → is_end ps ≡ true → ps ≡ [] ∷ []
only_end [] e = absurd cc
only_end ([] ∷ []) e = refl
only_end ((x ∷ p) ∷ []) e = absurd cc
only_end ([] ∷ q ∷ ps) e = absurd cc
only_end ((x ∷ p) ∷ q ∷ ps) e = absurd cc

abbrev pub is_nil : List ℕ → Bool
is_nil [] = true
is_nil (b ∷ bs) = false

pub end_is : (bs : List ℕ) → is_end (parts 10 bs) ≡ is_nil bs
unfolding parts
end_is [] = refl
end_is (b ∷ bs) = joined-end b bs (parts 10 (b ∷ bs)) (joined-parts 10 (b ∷ bs))

pub empty_is : (bs : List ℕ) → (length bs == 0) ≡ is_nil bs
empty_is [] = refl
empty_is (b ∷ bs) = not_zero (length bs)
  where
    not_zero : (n : ℕ) → (suc n == 0) ≡ false
    not_zero n = grind (arith, nat_tests)

-- ---- Lines of words, put together and cut again.

abbrev pub AllLack : ℕ → List (List ℕ) → Type 0
AllLack s [] = Unit {0}
AllLack s (w ∷ ws) = Lacks s w × AllLack s ws

pub Lacks-append : (s : ℕ) (v w : List ℕ) → Lacks s v → Lacks s w → Lacks s (v ++ w)
Lacks-append s [] w p q = q
Lacks-append s (b ∷ v) w p q = (p.0, Lacks-append s v w p.1 q)

-- ---- words

pub same_word : (w : List ℕ) → bytes_eq w w ≡ true
same_word w = (bytes_eq-Decides w w).1 refl

pub joined-spaced : (w : List ℕ) (ws : List (List ℕ)) → joined 32 (w ∷ ws) ≡ w ++ flat_map spaced ws
joined-spaced w [] = sym (append-nil w)
joined-spaced w (v ∷ ws) = ap (λ (x : List ℕ). w ++ (32 ∷ x)) (joined-spaced v ws)

pub parts-spaced : (w : List ℕ) (ws : List (List ℕ)) → Lacks 32 w → AllLack 32 ws → parts 32 (w ++ flat_map spaced ws) ≡ w ∷ ws
parts-spaced w [] p q = ap (λ (x : List ℕ). parts 32 x) (append-nil w) ∙ parts-one 32 w p
parts-spaced w (v ∷ ws) p q = parts-more 32 w (v ++ flat_map spaced ws) p ∙ ap (λ (x : List (List ℕ)). w ∷ x) (parts-spaced v ws q.0 q.1)

-- the words of a line lack what neither the words nor the space is
pub Lacks-spaced : (s : ℕ) (ws : List (List ℕ)) → (32 == s) ≡ false → AllLack s ws → Lacks s (flat_map spaced ws)
Lacks-spaced s [] e q = tt
Lacks-spaced s (w ∷ ws) e q = (e, Lacks-append s w (flat_map spaced ws) q.0 (Lacks-spaced s ws e q.1))

-- ---- lines

pub joined-lines : (ls : List (List ℕ)) → joined 10 (ls ++ ([] ∷ [])) ≡ flat_map line ls
joined-lines [] = refl
joined-lines (l ∷ []) = sym (append-nil (l ++ (10 ∷ [])))
joined-lines (l ∷ m ∷ ls) = ap (λ (x : List ℕ). l ++ (10 ∷ x)) (joined-lines (m ∷ ls)) ∙ sym (append_assoc l (10 ∷ []) (flat_map line (m ∷ ls)))

pub parts-lines : (ls : List (List ℕ)) → AllLack 10 ls → parts 10 (flat_map line ls) ≡ ls ++ ([] ∷ [])
parts-lines [] q = parts-one 10 [] tt
parts-lines (l ∷ ls) q = ap (λ (x : List ℕ). parts 10 x) (append_assoc l (10 ∷ []) (flat_map line ls)) ∙ parts-more 10 l (flat_map line ls) q.0
    ∙ ap (λ (x : List (List ℕ)). l ∷ x) (parts-lines ls q.1)

-- ---- A text that goes on: the fault that its first lines show stays.

-- the last part grows, and others follow
abbrev pub grow : List ℕ → List (List ℕ) → List (List ℕ) → List (List ℕ)
grow x rest [] = []
grow x rest (p ∷ []) = (p ++ x) ∷ rest
grow x rest (p ∷ q ∷ ps) = p ∷ grow x rest (q ∷ ps)

pub grow-some : (x : List ℕ) (rest : List (List ℕ)) (p : List ℕ) (ps : List (List ℕ)) → (q : List ℕ) × (qs : List (List ℕ)) × (grow x rest (p ∷ ps) ≡ q ∷ qs)
grow-some x rest p [] = (p ++ x, rest, refl)
grow-some x rest p (q ∷ ps) = (p, grow x rest (q ∷ ps), refl)

grow-empty : (x : List ℕ) (rest ps : List (List ℕ)) (p : List ℕ) (qs : List (List ℕ)) → ps ≡ p ∷ qs → grow x rest ([] ∷ ps) ≡ [] ∷ grow x rest ps
grow-empty x rest ps p qs e = rw e refl

onto-grow : (x : List ℕ) (rest : List (List ℕ)) (b : ℕ) (ps : List (List ℕ)) (p : List ℕ) (qs : List (List ℕ)) → ps ≡ p ∷ qs → onto b (grow x rest ps) ≡ grow x rest (onto b ps)
onto-grow x rest b ps p [] e = rw e refl
onto-grow x rest b ps p (q ∷ qs) e = rw e refl

parts-cons : (s b : ℕ) (front back x : List ℕ) (rest : List (List ℕ)) (t : Bool) → (b == s) ≡ t
    → parts s (front ++ back) ≡ grow x rest (parts s front) → parts s (b ∷ (front ++ back)) ≡ grow x rest (parts s (b ∷ front))
unfolding parts
parts-cons s b front back x rest true e h =
    let p = parts-some s front in
    rw (e, h) (sym (grow-empty x rest (parts s front) p.0 p.1 p.2))
parts-cons s b front back x rest false e h =
    let p = parts-some s front in
    rw (e, h) (onto-grow x rest b (parts s front) p.0 p.1 p.2)

pub parts-grow : (s : ℕ) (front back x : List ℕ) (rest : List (List ℕ)) → parts s back ≡ x ∷ rest → parts s (front ++ back) ≡ grow x rest (parts s front)
unfolding parts
parts-grow s [] back x rest e = e
parts-grow s (b ∷ front) back x rest e = parts-cons s b front back x rest (b == s) refl (parts-grow s front back x rest e)

-- where some bytes are left, some are left of what goes on
pub end-grow : (x : List ℕ) (rest ps : List (List ℕ)) → is_end ps ≡ false → is_end (grow x rest ps) ≡ false
end-grow x rest [] h = refl
end-grow x rest ([] ∷ []) h = absurd cc
end-grow x rest ((b ∷ p) ∷ []) h = refl
end-grow x rest ([] ∷ q ∷ []) h = refl
end-grow x rest ([] ∷ q ∷ r ∷ qs) h = refl
end-grow x rest ((b ∷ p) ∷ q ∷ qs) h = refl

-- ---- steps

abbrev pub grown : {E B : Type 0} → (B → B) → Result B E → Result B E
grown longer (Ok b) = Ok (longer b)
grown longer (Err e) = Err e

-- unless the lines end, what a step answers is the same where there are more
abbrev pub Stays : {E B C : Type 0} → E → (B → B) → (C → C) → (B → Result C E) → Type 0
Stays {E} {B} end before after step = (b : B) → (step b ≡ Err end) ⊎ (step (before b) ≡ grown after (step b))

-- a fault other than the end is the fault of what goes on
abbrev pub FaultStays : {E C D : Type 0} → E → Result C E → Result D E → Type 0
FaultStays {E} end r r' = (e : E) → r ≡ Err e → (e ≡ end) ⊎ (r' ≡ Err e)

module _ {E : Type 0} (end : E) where
  bound : {C D : Type 0} (after : C → C) (last : D → D) (k : C → Result D E) (r r' : Result C E) → r' ≡ grown after r → Stays end after last k
      → ((r >>= k) ≡ Err end) ⊎ ((r' >>= k) ≡ grown last (r >>= k))
  bound after last k (Ok c) r' e h = rw e (h c)
  bound after last k (Err d) r' e h = inr (rw e refl)

  pub then : {C D : Type 0} (after : C → C) (last : D → D) (k : C → Result D E) (r r' : Result C E) → (r ≡ Err end) ⊎ (r' ≡ grown after r)
      → Stays end after last k → ((r >>= k) ≡ Err end) ⊎ ((r' >>= k) ≡ grown last (r >>= k))
  then after last k r r' (inl e) h = inl (ap (λ r. r >>= k) e)
  then after last k r r' (inr e) h = bound after last k r r' e h

  -- a test of what was read, and no further line
  pub kept_test : {C : Type 0} (last : C → C) (b : Bool) (fault : E) (x : C) → check b fault (last x) ≡ grown last (check b fault x)
  kept_test last true fault x = refl
  kept_test last false fault x = refl

  -- what was made of the line, and no further line
  pub kept : {C D : Type 0} (last : D → D) (make : C → D) (r : Result C E) → (r >>= λ c. Ok (last (make c))) ≡ grown last (r >>= λ c. Ok (make c))
  kept last make (Ok c) = refl
  kept last make (Err e) = refl

  pub fault_bound : {C D : Type 0} (after : C → C) (k : C → Result D E) (r r' : Result C E) → (r ≡ Err end) ⊎ (r' ≡ grown after r)
      → ((c : C) → FaultStays end (k c) (k (after c))) → FaultStays end (r >>= k) (r' >>= k)
  fault_bound after k r r' (inl e) h d f = let same : end ≡ d = cc (ap (λ r. r >>= k) e) in inl (sym same)
  fault_bound after k (Ok c) r' (inr e) h d f = rw e (h c d f)
  fault_bound after k (Err b) r' (inr e) h d f = inr (rw e f)

  -- the same step, and behind it what stays
  pub fault_after : {C D : Type 0} (r : Result C E) (k l : C → Result D E) → ((c : C) → FaultStays end (k c) (l c)) → FaultStays end (r >>= k) (r >>= l)
  fault_after (Ok c) k l h d f = h c d f
  fault_after (Err b) k l h d f = inr f

  -- what was made of it, and no further line
  pub fault_made : {C D : Type 0} (r r' : Result C E) (make : C → D) → FaultStays end r r' → FaultStays end (r >>= λ c. Ok (make c)) (r' >>= λ c. Ok (make c))
  fault_made (Ok c) r' make h d f = absurd cc
  fault_made (Err b) r' make h d f = let same : b ≡ d = cc in elim (h d (ap (λ v. Err v) same)) [
    | inl e ↦ inl e
    | inr e ↦ inr (rw e refl)
  ]

  pub fault_if : {D : Type 0} (t : Bool) (a b a' b' : Result D E) → FaultStays end a a' → FaultStays end b b' → FaultStays end (cond t a b) (cond t a' b')
  fault_if true a b a' b' h k = h
  fault_if false a b a' b' h k = k

-- the fault of bytes that are left, where none may be
pub end_stays : {E A : Type 0} (end extra : E) (y z : A) (x : List ℕ) (rest ps : List (List ℕ)) → FaultStays end (check (is_end ps) extra y) (check (is_end (grow x rest ps)) extra z)
end_stays end extra y z x rest ps d f = of (is_end ps) refl f
  where
    same : check false extra y ≡ Err d → check false extra z ≡ Err d
    same m = let w : extra ≡ d = cc in ap (λ v. Err v) w

    of : (t : Bool) → is_end ps ≡ t → check t extra y ≡ Err d → (d ≡ end) ⊎ (check (is_end (grow x rest ps)) extra z ≡ Err d)
    of true g h = absurd cc
    of false g h = let k = end-grow x rest ps g in inr (rw k (same h))
