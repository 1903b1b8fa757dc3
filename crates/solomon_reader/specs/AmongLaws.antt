-- What stands in a list, and what holds of it.
use Rattle.std.proofs.Common.{refl, List, [], ◌∷◌, ◌++◌, map, ap, inl, inr}
use Rattle.std.specs.List.{flat_map, AllByRecursion}
use Rattle.solomon_reader.specs.Region.{Among}

-- that P holds of each in a list, said in two ways
pub all_among : {X : Type 0} (P : X → Type 0) (xs : List X) → ((x : X) → Among x xs → P x) → AllByRecursion P xs
all_among P [] h = tt
all_among P (x ∷ xs) h = (h x (inl refl), all_among P xs (λ y a. h y (inr a)))

pub among_all : {X : Type 0} (P : X → Type 0) (xs : List X) → AllByRecursion P xs → (x : X) → Among x xs → P x
among_all P [] all x a = absurd a
among_all P (y ∷ ys) all x (inl e) = rw (← e) all.0
among_all P (y ∷ ys) all x (inr a) = among_all P ys all.1 x a

pub weaker : {X : Type 0} (P Q : X → Type 0) → ((x : X) → P x → Q x) → (xs : List X) → AllByRecursion P xs → AllByRecursion Q xs
weaker P Q f [] h = tt
weaker P Q f (x ∷ xs) h = (f x h.0, weaker P Q f xs h.1)

-- what stands in a part stands in the whole
pub among_append_left : {X : Type 0} (x : X) (xs ys : List X) → Among x xs → Among x (xs ++ ys)
among_append_left x [] ys a = absurd a
among_append_left x (y ∷ xs) ys (inl e) = inl e
among_append_left x (y ∷ xs) ys (inr a) = inr (among_append_left x xs ys a)

pub among_append_right : {X : Type 0} (x : X) (xs ys : List X) → Among x ys → Among x (xs ++ ys)
among_append_right x [] ys a = a
among_append_right x (y ∷ xs) ys a = inr (among_append_right x xs ys a)

pub among_map : {X Y : Type 0} (f : X → Y) (x : X) (xs : List X) → Among x xs → Among (f x) (map f xs)
among_map f x [] h = absurd h
among_map f x (y ∷ ys) (inl e) = inl (ap f e)
among_map f x (y ∷ ys) (inr h) = inr (among_map f x ys h)

pub among_flat : {X Y : Type 0} (f : X → List Y) (x : X) (y : Y) (xs : List X) → Among x xs → Among y (f x) → Among y (flat_map f xs)
among_flat f x y [] h k = absurd h
among_flat f x y (z ∷ zs) (inl e) k = among_append_left y (f z) (flat_map f zs) (rw e k)
among_flat f x y (z ∷ zs) (inr h) k = among_append_right y (f z) (flat_map f zs) (among_flat f x y zs h k)
