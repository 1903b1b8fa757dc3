use Rattle.std.specs.Prelude.{Some}
use Rattle.std.specs.List.{All}
use Rattle.std.proofs.lemmas.List.Elements.{All-pop}
use Rattle.node_pool.specs.declared.pass.Pass.{Pass}
use Rattle.node_pool.specs.Deques.{IsFresh}
use Rattle.node_pool.specs.Ends.{deques_of}
use Rattle.test_workers.proofs.Last.{fits_last, last_deque}
use Rattle.test_workers.proofs.ends.ends.Goals as goal

pub returns-clause-thief : goal.returns-clause-thief
returns-clause-thief c = last_deque _ _ _ _ _ _ c.in-Some.ensures.items c.in-Some-pop.ensures.items c.in_ok-hands.ensures.thieves

pub returns-clause-first : goal.returns-clause-first
returns-clause-first c =
    let Fresh = λ (p : Pass). All (λ d. IsFresh d p) (deques_of c.in_ok-hands.hands.items) in
    let rest = (All-pop Fresh _ _ (Some c.in-Some-pop-2.second) c.in-Some-pop-2.ensures.items c.in_ok-hands.ensures.fresh).0 in
    fits_last _ _ _ c.in-Some-pop-3.first c.in-Some.ensures.items (All-pop Fresh _ _ (Some c.in-Some-pop-3.first) c.in-Some-pop-3.ensures.items rest).1

pub returns-clause-second : goal.returns-clause-second
returns-clause-second c =
    let Fresh = λ (p : Pass). All (λ d. IsFresh d p) (deques_of c.in_ok-hands.hands.items) in
    fits_last _ _ _ c.in-Some-pop-2.second c.in-Some.ensures.items (All-pop Fresh _ _ (Some c.in-Some-pop-2.second) c.in-Some-pop-2.ensures.items c.in_ok-hands.ensures.fresh).1
