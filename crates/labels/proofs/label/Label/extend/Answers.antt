use Rattle.std.proofs.Common.{arith, refl}
use Rattle.labels.proofs.label.Label.extend.Goals as goal

pub returns : goal.returns
returns c = record {
  same = record {
    last = c.requires.after.last;
    time = c.requires.after.time;
    load = c.requires.after.load;
    cost = c.requires.after.cost;
    memory = rw c.requires.after.last c.remember.ensures;
    bits = c.bits_after.ensures;
  };
  bounded = c.requires.after_bounded;
  light = omega (arith, c.requires.light, c.requires.carried);
  parent = refl;
  stops = refl;
  unextended = record { active = refl; extended = refl };
}
