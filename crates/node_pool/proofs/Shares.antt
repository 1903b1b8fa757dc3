-- What a pass knows after one of its shares has changed: shares are dealt one after another, and weigh the same.
use Rattle.std.proofs.Common.{◌≡◌, ◌+◌, ℕ, List, [], ◌∷◌, ◌++◌, length, drop, sym, refl, ap, ◌∙◌, append_assoc, length-append, arith, ◌<◌, ◌≤◌, zero, suc, get_or, set, slice_index_or, subst}
use Rattle.std.proofs.Common.{below_more, get_or-set_other, get_or-set_same, ◌≢◌, false, take, length-set}
use Rattle.std.specs.Prelude.{map}
use Rattle.std.proofs.lemmas.List.{append-nil, get_or-map, get_or_append_left, take_more}
use Rattle.std.proofs.Math.Seq.{get_or-append_seam}
use Rattle.solomon_reader.specs.DequeLaw.{HaveSameNumbers, IsBalanced, all_taken, weigh}
use Rattle.crossbeam_deque.specs.Handles.{view}
use Rattle.node_pool.specs.declared.law.Known.{Known}
use Rattle.node_pool.specs.declared.pass.Pass.{Pass}
use Rattle.node_pool.specs.Deques.{AreNumbered, Deque, FitsIn, IsShareOf, OnePass, known_in, taken_by}
use Rattle.node_pool.specs.Law.{known}

pub weigh_append : (h : ℕ → ℕ) (xs ys : List ℕ) → weigh h (xs ++ ys) ≡ weigh h xs + weigh h ys
weigh_append h [] ys = omega arith
weigh_append h (x ∷ xs) ys = omega (arith, weigh_append h xs ys)

-- where each number weighs one, the weight is the length
pub weigh_ones : (xs : List ℕ) → weigh (λ _. 1) xs ≡ length xs
weigh_ones [] = refl
weigh_ones (x ∷ xs) = omega (arith, weigh_ones xs)

pub same_length : (xs ys : List ℕ) → HaveSameNumbers xs ys → length xs ≡ length ys
same_length xs ys same = let s = same (λ _. 1) in omega (arith, weigh_ones xs, weigh_ones ys)

drop_front : (xs ys : List ℕ) → drop (length xs) (xs ++ ys) ≡ ys
drop_front [] ys = refl
drop_front (x ∷ xs) ys = drop_front xs ys

-- what follows fronts of one length is the same
pub same_rest : (xs ys us vs : List ℕ) → xs ++ us ≡ ys ++ vs → length xs ≡ length ys → us ≡ vs
same_rest xs ys us vs same long = sym (drop_front xs us) ∙ ap (drop (length xs)) same ∙ ap (λ n. drop n (ys ++ vs)) long ∙ drop_front ys vs

-- after more was taken, what is left of what stood is what stands now
pub left_standing : (pushed taken s rest now : List ℕ) → IsBalanced pushed (taken ∷ []) (s ++ rest) → IsBalanced pushed ((taken ++ s) ∷ []) now → rest ≡ now
left_standing pushed taken s rest now before after =
    let long = same_length before.left (taken ++ []) before.counts in
    let longer = same_length after.left ((taken ++ s) ++ []) after.counts in
    same_rest (before.left ++ s) after.left rest now
    (append_assoc before.left s rest ∙ sym before.order ∙ after.order)
    (let a = length-append before.left s in let b = length-append taken [] in let c = length-append (taken ++ s) [] in let d = length-append taken s in omega arith)

pub all_taken_push : (takers : List (List ℕ)) (taken : List ℕ) → all_taken (takers ++ taken ∷ []) ≡ all_taken takers ++ taken
all_taken_push [] taken = append-nil taken
all_taken_push (t ∷ ts) taken = ap (λ l. t ++ l) (all_taken_push ts taken) ∙ sym (append_assoc t (all_taken ts) taken)

-- ---- Each of some ends gives something, one after another.

module _ {H : Type 0} (Gave : H → H → Type 0) where
  -- those at the first i places gave, and the others are as they were
  pub record Swept (first now : List H) (i : ℕ) : Type 0 where
    pub later : (k : ℕ) (h : H) → i ≤ k → slice_index_or now k h ≡ slice_index_or first k h
    pub earlier : (k : ℕ) (h : H) → k < i → Gave (slice_index_or first k h) (slice_index_or now k h)

  pub none_swept : (hs : List H) → Swept hs hs 0
  none_swept hs = record { later = λ k h _. refl; earlier = λ k h low. absurd (omega arith) }

  pub any_default : (hs : List H) (i : ℕ) (d e : H) → i < length hs → get_or hs i d ≡ get_or hs i e
  any_default [] i d e inside = absurd (omega arith)
  any_default (x ∷ xs) zero d e inside = refl
  any_default (x ∷ xs) (suc i) d e inside = any_default xs i d e (omega arith)

  pub one_swept : (first now : List H) (i : ℕ) (d new : H) → i < length now → Gave (slice_index_or now i d) new → Swept first now i → Swept first (set now i new) (i + 1)
  one_swept first now i d new inside gave was = record {
    later = λ k e high. get_or-set_other now i k new e (λ e. omega arith) ∙ was.later k e (omega arith);
    earlier = λ k e. below_more (λ j. Gave (slice_index_or first j e) (slice_index_or (set now i new) j e)) i
        (λ j low. subst (Gave (slice_index_or first j e)) (sym (get_or-set_other now i j new e (λ e. omega arith))) (was.earlier j e low))
        (subst (Gave (slice_index_or first i e)) (sym (get_or-set_same now i new e inside)) (subst (λ y. Gave y new) (any_default now i d e inside ∙ was.later i e (omega arith)) gave))
        k;
  }

module _ {H D P : Type 0} (deque : H → D) (Gave : H → H → Type 0) (Share : D → P → Type 0) where
  -- those at the first i places gave a share each
  pub record Dealt (first now : List H) (shares : List P) (i : ℕ) : Type 0 where
    pub long : length shares ≡ i
    pub deques : map deque now ≡ map deque first
    pub swept : Swept Gave first now i
    pub fits : (k : ℕ) (d : D) (p : P) → k < i → Share (slice_index_or (map deque first) k d) (slice_index_or shares k p)

  same_deques : (hs : List H) (i : ℕ) (h new : H) → h ≡ get_or hs i h → deque new ≡ deque h → map deque (set hs i new) ≡ map deque hs
  same_deques [] i h new is same = refl
  same_deques (x ∷ xs) zero h new is same = ap (λ d. d ∷ map deque xs) (same ∙ ap deque is)
  same_deques (x ∷ xs) (suc i) h new is same = ap (λ ds. deque x ∷ ds) (same_deques xs i h new is same)

  pub none_dealt : (hs : List H) → Dealt hs hs [] 0
  none_dealt hs = record { long = refl; deques = refl; swept = none_swept Gave hs; fits = λ k d p low. absurd (omega arith) }

  pub one_dealt : (first now : List H) (shares : List P) (i : ℕ) (d new : H) (p : P) → i < length now → Gave (slice_index_or now i d) new
      → deque new ≡ deque (slice_index_or now i d) → Share (deque new) p → Dealt first now shares i → Dealt first (set now i new) (shares ++ p ∷ []) (i + 1)
  one_dealt first now shares i d new p inside gave same share was = record {
    long = let l = was.long in omega (arith, length-append shares (p ∷ []));
    deques = same_deques now i (get_or now i d) new (any_default Gave now i d (get_or now i d) inside) same ∙ was.deques;
    swept = one_swept Gave first now i d new inside gave was.swept;
    fits = λ k e o. below_more (λ j. Share (slice_index_or (map deque first) j e) (slice_index_or (shares ++ p ∷ []) j o)) i
        (λ j low. subst (Share (slice_index_or (map deque first) j e)) (sym (get_or_append_left shares (p ∷ []) o j (let l = was.long in omega arith))) (was.fits j e o low))
        (subst (λ (y : D × P). Share y.0 y.1) (λ n. (place e n, seam o n)) share)
        k;
  }
    where
      place : (e : D) → deque new ≡ slice_index_or (map deque first) i e
      place e = same ∙ sym (get_or-map deque now i d e inside) ∙ ap (λ ds. get_or ds i e) was.deques

      seam : (o : P) → p ≡ slice_index_or (shares ++ p ∷ []) i o
      seam o = sym (subst (λ n. get_or (shares ++ p ∷ []) n o ≡ p) was.long (get_or-append_seam shares p [] o))

-- what a map makes of each, where it makes the same of all
pub all_made : {A B : Type 0} (f : A → B) (b : B) (xs : List A) → ((k : ℕ) (x : A) → k < length xs → f (slice_index_or xs k x) ≡ b) → (k : ℕ) (d : B)
    → k < length xs → slice_index_or (map f xs) k d ≡ b
all_made f b [] all k d low = absurd (omega arith)
all_made f b (x ∷ xs) all zero d low = all 0 x low
all_made f b (x ∷ xs) all (suc k) d low = all_made f b xs (λ j y inside. all (suc j) y (omega arith)) k d (omega arith)

-- ---- What a pass knows after one of its shares has changed.

map_set : {A B : Type 0} (f : A → B) (xs : List A) (i : ℕ) (x : A) → map f (set xs i x) ≡ set (map f xs) i (f x)
map_set f [] i x = refl
map_set f (y ∷ xs) zero x = refl
map_set f (y ∷ xs) (suc i) x = ap (λ l. f y ∷ l) (map_set f xs i x)

pub long_map : {A B : Type 0} (f : A → B) (xs : List A) → length (map f xs) ≡ length xs
long_map f [] = refl
long_map f (x ∷ xs) = ap suc (long_map f xs)

-- what another share knows stays
known_else : (ps : List OnePass) (number other : ℕ) (p : OnePass) → other ≢ number → known_in (set ps number p) other ≡ known_in ps other
known_else ps number other p apart = ap (λ l. get_or l other (known false 0 [] [])) (map_set view ps number p) ∙ get_or-set_other (map view ps) number other (view p) (known false 0 [] []) apart

-- what the share knows that changed
pub known_here : (ps : List OnePass) (number : ℕ) (p : OnePass) → number < length ps → known_in (set ps number p) number ≡ view p
known_here ps number p inside =
    ap (λ l. get_or l number (known false 0 [] [])) (map_set view ps number p)
    ∙ get_or-set_same (map view ps) number (view p) (known false 0 [] []) (subst (λ n. number < n) (sym (long_map view ps)) inside)

-- what is known at a place is what its share knows
pub known_at : (ps : List OnePass) (number : ℕ) (p : OnePass) → number < length ps → p ≡ slice_index_or ps number p → known_in ps number ≡ view p
known_at ps number p inside is = get_or-map view ps number p (known false 0 [] []) inside ∙ ap view (sym is)

-- for other deques nothing has changed
pub keeps_others : (ps : List OnePass) (number : ℕ) (p : OnePass) (d : Deque) → d.0 ≢ number → (FitsIn d ps → FitsIn d (set ps number p))
    × (known_in (set ps number p) d.0 ≡ known_in ps d.0)
keeps_others ps number p d apart = (
  (λ fits. (subst (λ n. d.0 < n) (sym (length-set ps number p)) fits.0, λ o. subst (IsShareOf d) (sym (get_or-set_other ps number d.0 p o apart)) (fits.1 o))),
  known_else ps number d.0 p apart,
)

-- what a call says of its share it says of what is known at its place
pub said_at : (R : Known → Known → Type 0) (ps : List OnePass) (number : ℕ) (old new : OnePass) → number < length ps
    → old ≡ slice_index_or ps number old → R (view old) (view new) → R (known_in ps number) (known_in (set ps number new) number)
said_at R ps number old new inside is said = subst (R (known_in ps number)) (sym (known_here ps number new inside)) (subst (λ k. R k (view new)) (sym (known_at ps number old inside is)) said)

-- a pass with one new share of each deque
pub all_fresh : (ds : List Deque) (ps : List OnePass) → length ps ≡ length ds → AreNumbered ds
    → ((k : ℕ) (d : Deque) (p : OnePass) → k < length ps → IsShareOf (slice_index_or ds k d) (slice_index_or ps k p) × (view (slice_index_or ps k p) ≡ known false 1 [] []))
    → (k : ℕ) (d : Deque) → k < length ds → FitsIn (slice_index_or ds k d) ps × (known_in ps (slice_index_or ds k d).0 ≡ known false 1 [] [])
all_fresh ds ps long numbered all k d low =
    let is : (slice_index_or ds k d).0 ≡ k = numbered k d low in
    let inside : k < length ps = omega arith in (
      (subst (λ n. n < length ps) (sym is) inside, λ o. subst (λ n. IsShareOf (slice_index_or ds k d) (slice_index_or ps n o)) (sym is) (all k d o inside).0),
      subst (λ n. known_in ps n ≡ known false 1 [] []) (sym is) (all_made view (known false 1 [] []) ps (λ j p low. (all j d p low).1) k (known false 0 [] []) inside),
    )

pub map_push : {A B : Type 0} (f : A → B) (xs : List A) (x : A) → map f (xs ++ x ∷ []) ≡ map f xs ++ f x ∷ []
map_push f [] x = refl
map_push f (y ∷ xs) x = ap (λ l. f y ∷ l) (map_push f xs x)

-- one more of the first
pub map_more : {A B : Type 0} (f : A → B) (xs : List A) (i : ℕ) (x : A) → i < length xs → x ≡ slice_index_or xs i x → map f (take (i + 1) xs) ≡ map f (take i xs) ++ f x ∷ []
map_more f xs i x low is = ap (map f) (take_more xs i x low) ∙ map_push f (take i xs) (get_or xs i x) ∙ ap (λ y. map f (take i xs) ++ f y ∷ []) (sym is)

-- what stands before the end
pub front : {A : Type 0} (n : ℕ) (xs ys : List A) → n ≡ length xs → take n (xs ++ ys) ≡ xs
front {A = A} n xs ys is = ap (λ m. take m (xs ++ ys)) is ∙ whole xs
  where
    whole : (zs : List A) → take (length zs) (zs ++ ys) ≡ zs
    whole [] = refl
    whole (z ∷ zs) = ap (λ l. z ∷ l) (whole zs)

-- what all passes took so far, and one more
pub taken_more : (d : Deque) (ps : List Pass) (i : ℕ) (p : Pass) (mine all theirs : List ℕ) → i < length ps → p ≡ slice_index_or ps i p
    → all ≡ mine ++ all_taken (map (taken_by d) (take i ps)) → theirs ≡ taken_by d p
    → all ++ theirs ≡ mine ++ all_taken (map (taken_by d) (take (i + 1) ps))
taken_more d ps i p mine all theirs low is so_far this =
    ap (λ l. l ++ theirs) so_far
    ∙ append_assoc mine (all_taken (map (taken_by d) (take i ps))) theirs
    ∙ ap (λ l. mine ++ (all_taken (map (taken_by d) (take i ps)) ++ l)) this
    ∙ ap (λ l. mine ++ l) (sym (all_taken_push (map (taken_by d) (take i ps)) (taken_by d p)))
    ∙ ap (λ l. mine ++ all_taken l) (sym (map_more (taken_by d) ps i p low is))
