-- What contracts see of the end of a deque that its worker holds.
use Rattle.std.specs.Prelude.{◌≡◌, ℕ, List, [], map}
use Rattle.crossbeam_deque.specs.Handles.{stealer_deque, worker_deque, worker_view}
use Rattle.node_pool.specs.declared.law.Known.{Known}
use Rattle.node_pool.specs.Deques.{Deque}
use Rattle.node_pool.specs.declared.hand.Hand.{Hand}
use Rattle.node_pool.specs.declared.thief.Thief.{Thief}

-- what its worker knows
abbrev pub known_to : Hand → Known
known_to h = worker_view h.owner

abbrev pub deque_of : Hand → Deque
deque_of h = (h.number, worker_deque h.owner)

abbrev pub deque_at : Thief → Deque
deque_at t = (t.number, stealer_deque t.others)

-- nothing was pushed to the deque or taken from it. So many passes have a share, and it takes so many pushes
pub record IsEmptyHand (passes capacity : ℕ) (h : Hand) : Type 0 where
  pub others : h.others ≡ passes
  pub pushes : h.pushes ≡ 0
  pub room : h.room ≡ capacity
  pub pushed : (known_to h).pushed ≡ []
  pub taken : (known_to h).taken ≡ []

-- the deques of these ends, in their order
abbrev pub deques_of : List Hand → List Deque
deques_of hs = map deque_of hs

abbrev pub deques_at : List Thief → List Deque
deques_at ts = map deque_at ts
