use Rattle.std.proofs.Common.{◌<◌, ◌≤◌, ◌∙◌, sym, length, arith}
use Rattle.std.proofs.lemmas.List.{length-map}
use Rattle.segments.specs.Segments.{Summary}
use Rattle.moves.specs.Flanks.{customers_of}
use Rattle.moves.proofs.JoinedStops.{before_position}
use Rattle.moves.proofs.flanks.stop_before.Goals as goal

pub returns : goal.returns
returns c =
    let r = customers_of c.args.stops.now in
    let some : 0 < c.args.position = omega (arith, c.if-position-eq0.false) in
    let fits : c.args.position ≤ length r = omega (arith, c.requires, length-map c.args.stops.now (λ (s : Summary). s.first)) in
    c.stop_at.ensures ∙ sym (before_position r c.args.position some fits)
