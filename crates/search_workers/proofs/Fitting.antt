-- From shares of deques to those at their other ends.
use Rattle.std.proofs.Common.{◌≡◌, List, [], ◌∷◌, map}
use Rattle.std.specs.List.{All}
use Rattle.std.proofs.lemmas.List.Elements.{All-nil, All-head, All-tail, All-cons, All-weaker}
use Rattle.node_pool.specs.declared.pass.Pass.{Pass}
use Rattle.node_pool.specs.declared.thief.Thief.{Thief}
use Rattle.node_pool.specs.Deques.{Deque, FitsAt, IsFresh}
use Rattle.node_pool.specs.Ends.{deque_at, deques_at}

unmapped : {X Y : Type 0} (P : Y → Type 0) (f : X → Y) (xs : List X) → All P (map f xs) → All (λ x. P (f x)) xs
unmapped P f [] all = All-nil (λ x. P (f x))
unmapped P f (x ∷ xs) all = All-cons (λ y. P (f y)) x xs (All-head P (f x) (map f xs) all) (unmapped P f xs (All-tail P (f x) (map f xs) all))

-- passes that are fresh for these deques fit each of their other ends
pub fits_all : (ts : List Thief) (ds : List Deque) (ps : List Pass) → deques_at ts ≡ ds → All (λ p. All (λ d. IsFresh d p) ds) ps → All (λ p. All (λ t. FitsAt (deque_at t) p) ts) ps
fits_all ts ds ps same fresh =
    All-weaker (λ p. All (λ d. IsFresh d p) ds) (λ p. All (λ t. FitsAt (deque_at t) p) ts)
    (λ p all. All-weaker (λ t. IsFresh (deque_at t) p) (λ t. FitsAt (deque_at t) p) (λ t is. is.0) ts (unmapped (λ d. IsFresh d p) deque_at ts (rw same all)))
    ps fresh
