use Rattle.std.proofs.Common.{rules}
use Rattle.std.proofs.lemmas.List.Elements.{All-pop}
use Rattle.std.specs.List.{All}
use Rattle.ceiling.specs.Seats.{IsSeatOf}
use Rattle.node_pool.specs.Deques.{FitsAt}
use Rattle.node_pool.specs.Ends.{deque_at}
use Rattle.search_workers.proofs.running.post_workers.Goals as goal

-- the pass that is taken fits
pub role_of-requires : goal.role_of-requires
role_of-requires g c =
    let taken = (All-pop (λ p. All (λ t. FitsAt (deque_at t) p) c.args.shared.now.deques.now) c.loop-share.passes.items c.pop-in-loop-share-3.new.self.items
    c.pop-in-loop-share-3.result c.pop-in-loop-share-3.ensures.items c.loop-share.invariant.6).1 in
    rw c.in-Some-Some-Some-Some.is-3 at taken

-- the seat that is taken is one of these words
pub invariant_of-push_reserved : goal.invariant_of-push_reserved
invariant_of-push_reserved g c =
    let taken = (All-pop (IsSeatOf c.args.shared.now.ceiling.now) c.loop-share.seats.items c.pop-in-loop-share.new.self.items
    c.pop-in-loop-share.result c.pop-in-loop-share.ensures.items c.loop-share.invariant.5).1 in
    record { own = rw c.in-Some-Some-Some-Some.is-1 at taken }

pub loop-share-preserved : goal.loop-share-preserved
loop-share-preserved g c =
    let was = c.loop-share.invariant in (
      search rules,
      search rules,
      search rules,
      search rules,
      search rules,
      (All-pop (IsSeatOf c.args.shared.now.ceiling.now) c.loop-share.seats.items c.pop-in-loop-share.new.self.items c.pop-in-loop-share.result c.pop-in-loop-share.ensures.items was.5).0,
      (All-pop (λ p. All (λ t. FitsAt (deque_at t) p) c.args.shared.now.deques.now) c.loop-share.passes.items c.pop-in-loop-share-3.new.self.items
          c.pop-in-loop-share-3.result c.pop-in-loop-share-3.ensures.items was.6).0,
    )
