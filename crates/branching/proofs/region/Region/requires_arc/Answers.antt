use Rattle.branching.proofs.Opening.{set_test}
use Rattle.branching.proofs.region.Region.requires_arc.Goals as goal

pub returns : goal.returns
returns c =
    rw (← c.self.view_is) (set_test c.self.inside.required.items c.args.arc c.contains.result
    (λ e. rw c.as_slice.ensures.value at (c.contains.ensures.found e)) (λ e. rw c.as_slice.ensures.value at (c.contains.ensures.none e)))
