use Rattle.solomon_reader.proofs.Places.{place_bound}
use Rattle.fronts.proofs.task.Task.can_take.Goals as goal

pub contains-requires : goal.contains-requires
contains-requires c =
    let task = c.args.self.now in
    rw c.requires.step.0.place (place_bound task.instance.now c.args.front.now.last task.neighbours task.few c.args.step.now.customer)
