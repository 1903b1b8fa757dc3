use Rattle.std.proofs.Common.{◌≡◌, ◌+◌, ◌<◌, ℕ, List, length, get_or, Vec, Global, arith, ap, sym, [], ◌∙◌, inl, inr}
use Rattle.std.proofs.lemmas.Bool.{cases_Bool}
use Rattle.fronts.specs.declared.task.Task.{Task}
use Rattle.solomon_reader.specs.Memories.{has_bit, recalls, HasPlaces}
use Rattle.fronts.specs.Memories.{IsWholeList}
use Rattle.solomon_reader.proofs.Places.{place_bound}
use Rattle.fronts.proofs.Recalling.{holds_no, holds_yes, holds_all}
use Rattle.fronts.proofs.task.Task.remember.Goals as goal

module _ (task : Task) where
  -- the places that were read for v
  placed_at : (v i : ℕ) (row : Vec ℕ Global) (places : List ℕ) → v < length task.instance.now.rows → i ≡ v → places ≡ (get_or task.places.now i row).items
      → HasPlaces task.instance.now task.neighbours v (length task.instance.now.rows) places
  placed_at v i row places within at is = rw (is, at) (task.placed.each v row within)

  -- the list that was read for j
  listed_at : (j i : ℕ) → j < length task.instance.now.rows → i ≡ j → IsWholeList task.instance.now task.neighbours j (get_or task.neighbour_lists.now i [])
  listed_at j i within at = rw at (task.near.each j [] within)

  -- the row that stands at a place
  row_at : (j place i u : ℕ) (list : List ℕ) → IsWholeList task.instance.now task.neighbours j list → place < task.neighbours + 1 → i ≡ place → u ≡ get_or list i 0
      → u < length task.instance.now.rows
  row_at j place i u list listed low at is = omega (arith, is, listed.rows i (omega (arith, at, low, task.few)))

pub contains-requires : goal.contains-requires
contains-requires c =
    let task = c.args.self.now in
    let placed = placed_at task c.args.v c.from.result c.index-self-from.result c.as_slice-places.result.now c.requires.v c.from.ensures c.as_slice-places.ensures.value in
    let listed = listed_at task c.args.j c.from-2.result c.requires.j c.from-2.ensures in
    let row = row_at task c.args.j c.loop-place.place c.from-in-loop-place.result c.from-in-loop-place-2.result
    (get_or c.args.self.now.neighbour_lists.now c.from-2.result []) listed (omega (arith, c.loop-place-test.true)) c.from-in-loop-place.ensures c.from-in-loop-place-2.ensures in
    omega (arith, placed.each c.from-in-loop-place-2.result row, place_bound task.instance.now c.args.v task.neighbours task.few c.from-in-loop-place-2.result)

pub loop-place-preserved : goal.loop-place-preserved
loop-place-preserved c =
    let task = c.args.self.now in
    let p = task.instance.now in
    let k = task.neighbours in
    let v = c.args.v in
    let memory = c.args.memory.bits in
    let list = (get_or c.args.self.now.neighbour_lists.now c.from-2.result []) in
    let place = c.loop-place.place in
    let placed = placed_at task v c.from.result c.index-self-from.result c.as_slice-places.result.now c.requires.v c.from.ensures c.as_slice-places.ensures.value in
    let listed = listed_at task c.args.j c.from-2.result c.requires.j c.from-2.ensures in
    let row = row_at task c.args.j place c.from-in-loop-place.result c.from-in-loop-place-2.result list listed (omega (arith, c.loop-place-test.true))
    c.from-in-loop-place.ensures c.from-in-loop-place-2.ensures in
    let at : c.from-in-loop-place-2.result ≡ get_or list place 0 = rw (← c.from-in-loop-place.ensures) c.from-in-loop-place-2.ensures in
    let is : c.contains.result ≡ recalls p k v memory (get_or list place 0) = c.contains.ensures
    ∙ ap (has_bit memory) (placed.each c.from-in-loop-place-2.result row) ∙ ap (recalls p k v memory) at in
    elim (cases_Bool c.contains.result) [
      | inl kept ↦ holds_yes p k v memory list place c.loop-place.after.bits c.loop-place.auto.place c.loop-place.invariant
          c.with_if-after-in-loop-place.result.bits c.with_if-after-in-loop-place.ensures.small (sym is ∙ kept) (rw kept at c.with_if-after-in-loop-place.ensures.places)
      | inr left_out ↦ holds_no p k v memory list place c.loop-place.after.bits c.loop-place.auto.place c.loop-place.invariant
          c.with_if-after-in-loop-place.result.bits c.with_if-after-in-loop-place.ensures.small (sym is ∙ left_out) (rw left_out at c.with_if-after-in-loop-place.ensures.places)
    ]

pub returns : goal.returns
returns c =
    let task = c.args.self.now in
    let end : c.loop-place.place ≡ task.neighbours + 1 = omega arith in
    holds_all task.instance.now task.neighbours c.args.v c.args.memory.bits (get_or c.args.self.now.neighbour_lists.now c.from-2.result []) c.args.j c.loop-place.after.bits task.few
    (listed_at task c.args.j c.from-2.result c.requires.j c.from-2.ensures) c.requires.j (rw end at c.loop-place.invariant)
