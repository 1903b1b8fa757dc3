-- The last deque of a pool, with its two ends.
use Rattle.std.proofs.Common.{◌≡◌, ◌∙◌, List, [], ◌∷◌, ◌++◌, length, refl, sym, ap, subst, length-append, arith}
use Rattle.std.specs.Prelude.{map}
use Rattle.std.specs.List.{All}
use Rattle.std.proofs.lemmas.List.{get_or_push, map_push, same_from_push}
use Rattle.node_pool.specs.declared.hand.Hand.{Hand}
use Rattle.node_pool.specs.declared.thief.Thief.{Thief}
use Rattle.node_pool.specs.declared.pass.Pass.{Pass}
use Rattle.node_pool.specs.Deques.{FitsAt, IsFresh}
use Rattle.node_pool.specs.Ends.{deque_at, deque_of, deques_at, deques_of}

-- both last ends are of one deque
pub last_deque : (hs ys : List Hand) (h : Hand) (ts zs : List Thief) (t : Thief) → hs ≡ ys ++ h ∷ [] → ts ≡ zs ++ t ∷ [] → deques_at ts ≡ deques_of hs → deque_at t ≡ deque_of h
last_deque hs ys h ts zs t hands thieves same =
    (same_from_push (map deque_at zs) (map deque_of ys) (deque_at t) (deque_of h)
    (sym (map_push deque_at zs t) ∙ ap (map deque_at) (sym thieves) ∙ same ∙ ap (map deque_of) hands ∙ map_push deque_of ys h)).1

-- a pass that has a share of each deque has one of the last
pub fits_last : (hs ys : List Hand) (h : Hand) (p : Pass) → hs ≡ ys ++ h ∷ [] → All (λ d. IsFresh d p) (deques_of hs) → FitsAt (deque_of h) p
fits_last hs ys h p hands all =
    let at = ap (map deque_of) hands ∙ map_push deque_of ys h in
    let there = subst (All (λ d. IsFresh d p)) at all (length (map deque_of ys)) (deque_of h) (omega (arith, length-append (map deque_of ys) (deque_of h ∷ []))) in
    (subst (λ d. IsFresh d p) (get_or_push (map deque_of ys) (deque_of h) (deque_of h) (length (map deque_of ys)) refl) there).0
