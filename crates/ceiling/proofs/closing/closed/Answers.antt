use Rattle.std.proofs.Common.{rules, ◌≡◌, ◌+◌, ◌++◌, ◌∷◌, [], ap, vec_len, arith, ◌∙◌}
use Rattle.std.proofs.lemmas.List.Elements.{All-pop}
use Rattle.ceiling.specs.Hands.{account, opening}
use Rattle.ceiling.specs.Seats.{accounts_of}
use Rattle.ceiling.proofs.Moves.{joins}
use Rattle.ceiling.proofs.Ends.{IsAsFar, as_far_refl, as_far_trans, obeys_as_far, takes_last, ends}
use Rattle.ceiling.proofs.closing.closed.Goals as goal

pub loop-other-init : goal.loop-other-init
loop-other-init c =
    let one = c.requires.seat.2 in
    (c.requires.seat.0, c.requires.seat.1, c.requires.others, omega arith, search rules, as_far_refl _ _)

pub join_seat-requires : goal.join_seat-requires
join_seat-requires c =
    let was = c.loop-other.invariant in
    let s = c.in-Some.field-0 in
    let all = All-pop (λ x. x.seat.table_id ≡ c.args.board.shared.table_id) c.loop-other.others.items c.pop.new.self.items c.pop.result c.pop.ensures.items was.2 in
    let two = c.requires.table.0 in
    (was.0, rw c.in-Some.is at all.1, s.no_slot, omega arith, joins _ _ _ _ _ was.3)

pub loop-other-preserved : goal.loop-other-preserved
loop-other-preserved c =
    let was = c.loop-other.invariant in
    let s = c.in-Some.field-0 in
    let xs = c.pop.new.self.items in
    let first = opening c.args.board.shared.key in
    let items : c.loop-other.others.items ≡ xs ++ s ∷ [] = rw c.in-Some.is at c.pop.ensures.items in
    let all = All-pop (λ x. x.seat.table_id ≡ c.args.board.shared.table_id) c.loop-other.others.items xs c.pop.result c.pop.ensures.items was.2 in
    let joined = c.join_seat.ensures in
    let count : vec_len c.loop-other.others ≡ vec_len c.pop.new.self + 1 = search rules in
    let one = s.one_part in
    let parts = was.3 in
    let sum = was.4 in
    let far : IsAsFar first (account c.loop-other.seat.me.0 ∷ accounts_of (xs ++ s ∷ [])) (account c.args.seat.me.0 ∷ accounts_of c.args.others.items) = rw items at was.5 in (
      joined.0 ∙ was.0,
      ap (λ m. m.1) joined.2 ∙ was.1,
      all.0,
      rw joined.2 (omega arith),
      rw joined.2 (omega arith),
      rw joined.2 (as_far_trans first _ _ _ (takes_last first c.loop-other.seat.me.0 xs s) far),
    )

pub free-requires : goal.free-requires
free-requires c =
    let no_slots = c.close_with-closed.ensures.counts.1 in
    let no_slot_before = c.requires.table.1 in
    λ k below. absurd (omega arith)

pub returns : goal.returns
returns c =
    let was = c.loop-other.invariant in
    let first = opening c.args.board.shared.key in
    let mine = account c.loop-other.seat.me.0 in
    let empty : c.loop-other.others.items ≡ [] = search rules in
    let count : vec_len c.loop-other.others ≡ 0 = search rules in
    let sum = was.4 in
    let far : IsAsFar first (mine ∷ []) (account c.args.seat.me.0 ∷ accounts_of c.args.others.items) = rw empty at was.5 in
    obeys_as_far first _ _ _ far (ends _ _ c.loop-other.seat.me.0 c.word-cost.result c.word-bound.result _ _ (omega arith)
    c.close_with-closed.ensures.values.2 c.word-cost.ensures c.word-bound.ensures)
