-- Joining three segments is the same from both sides.
use Rattle.std.proofs.Common.{◌≡◌, refl, ℕ, ◌+◌, Bool, true, false, ◌&&◌, ap, arith}
use Rattle.std.specs.Prelude.{nat_le, int_le, ℤ, pos, ◌+ℤ◌, ◌-ℤ◌, ◌≤ℤ◌, ◌<ℤ◌, Some}
use Rattle.std.specs.Int.{int_min, int_max}
use Rattle.std.proofs.lemmas.Int.{ints, clamps}
use Rattle.solomon_reader.specs.Problem.{Problem, customer_count}
use Rattle.solomon_reader.specs.Distance.{distance}
use Rattle.solomon_reader.specs.Segments.{capped}
use Rattle.segments.specs.Segments.{Summary, join, joined, follows}
use Rattle.segments.specs.Linked.{IsAssociative}

pub by_le : {P : Type 0} (b : Bool) → (b ≡ true → P) → (b ≡ false → P) → P
by_le true f g = f refl
by_le false f g = g refl

pub le_yes : (a b : ℤ) → int_le a b ≡ true → a ≤ℤ b
le_yes a b h = grind (arith, ints)

pub le_no : (a b : ℤ) → int_le a b ≡ false → b <ℤ a
le_no a b h = grind (arith, ints)

pub yes_le : (a b : ℤ) → a ≤ℤ b → int_le a b ≡ true
yes_le a b h = grind (arith, ints)

pub no_le : (a b : ℤ) → b <ℤ a → int_le a b ≡ false
no_le a b h = grind (arith, ints)

and_yes : (a b : Bool) → (a && b) ≡ true → (a ≡ true) × (b ≡ true)
and_yes true b h = (refl, h)
and_yes false b h = cc

-- what the test of a join says
pub record Follows (p : Problem) (a b : Summary) : Type 0 where
  pub known : (nat_le a.last (customer_count p) && nat_le b.first (customer_count p)) ≡ true
  pub timely : (a.earliest +ℤ pos (distance p a.last b.first)) ≤ℤ b.latest

pub follows_yes : (p : Problem) (a b : Summary) → follows p a b ≡ true → Follows p a b
follows_yes p a b h =
    let e = and_yes _ _ h in record { known = e.0; timely = le_yes (a.earliest +ℤ pos (distance p a.last b.first)) b.latest e.1 }

pub yes_follows : (p : Problem) (a b : Summary) → Follows p a b → follows p a b ≡ true
yes_follows p a b h = rw (h.known, yes_le (a.earliest +ℤ pos (distance p a.last b.first)) b.latest h.timely) refl

pub no_follows : (p : Problem) (a b : Summary) → (Follows p a b → ⊥) → follows p a b ≡ false
no_follows p a b h = by_le (follows p a b) (λ y. absurd (h (follows_yes p a b y))) (λ n. n)

follows_not : (p : Problem) (a b : Summary) → follows p a b ≡ false → Follows p a b → ⊥
follows_not p a b n h = let y = yes_follows p a b h in cc

-- the parts of two equal segments
pub same_summary : (load load' cost cost' first last : ℕ) (l l' d d' e e' : ℤ) → load ≡ load' → cost ≡ cost' → l ≡ l' → d ≡ d' → e ≡ e'
    → ◌≡◌ {A = Summary} (record { load = load; cost = cost; first = first; last = last; latest = l; duration = d; earliest = e })
    (record { load = load'; cost = cost'; first = first; last = last; latest = l'; duration = d'; earliest = e' })
same_summary load load' cost cost' first last l l' d d' e e' p q r s t =
    λ i. record { load = p i; cost = q i; first = first; last = last; latest = r i; duration = s i; earliest = t i }

load_is : (a b c : ℕ) → capped (capped (a + b) + c) ≡ capped (a + capped (b + c))
load_is a b c = omega arith

cost_is : (a u b v c : ℕ) → a + u + b + v + c ≡ a + u + (b + v + c)
cost_is a u b v c = omega arith

latest_is : (l m n d e u v : ℤ) → int_min (int_min l ((m -ℤ d) -ℤ u)) ((n -ℤ (d +ℤ u +ℤ e)) -ℤ v) ≡ int_min l ((int_min m ((n -ℤ e) -ℤ v) -ℤ d) -ℤ u)
latest_is l m n d e u v = omega (arith, ints, clamps)

duration_is : (d e f u v : ℤ) → (d +ℤ u +ℤ e) +ℤ v +ℤ f ≡ d +ℤ u +ℤ (e +ℤ v +ℤ f)
duration_is d e f u v = omega (arith, ints)

earliest_is : (x y z e f u v : ℤ) → int_max (int_max (x +ℤ u +ℤ e) y +ℤ v +ℤ f) z ≡ int_max (x +ℤ u +ℤ (e +ℤ v +ℤ f)) (int_max (y +ℤ v +ℤ f) z)
earliest_is x y z e f u v = omega (arith, ints, clamps)

joined_assoc : (p : Problem) (a b c : Summary) → joined p (joined p a b) c ≡ joined p a (joined p b c)
joined_assoc p a b c =
    let u = pos (distance p a.last b.first) in
    let v = pos (distance p b.last c.first) in
    same_summary _ _ _ _ a.first c.last _ _ _ _ _ _
    (load_is a.load b.load c.load) (cost_is a.cost (distance p a.last b.first) b.cost (distance p b.last c.first) c.cost)
    (latest_is a.latest b.latest c.latest a.duration b.duration u v) (duration_is a.duration b.duration c.duration u v)
    (earliest_is a.earliest b.earliest c.earliest b.duration c.duration u v)

early : (a b c : Summary) (u v : ℤ) → (a.earliest +ℤ u) ≤ℤ b.latest → (int_max (a.earliest +ℤ u +ℤ b.duration) b.earliest +ℤ v) ≤ℤ c.latest
    → (a.earliest +ℤ u) ≤ℤ int_min b.latest ((c.latest -ℤ b.duration) -ℤ v)
early a b c u v h m = omega (arith, ints, clamps)

late : (a b c : Summary) (u v : ℤ) → (b.earliest +ℤ v) ≤ℤ c.latest → (a.earliest +ℤ u) ≤ℤ int_min b.latest ((c.latest -ℤ b.duration) -ℤ v)
    → (int_max (a.earliest +ℤ u +ℤ b.duration) b.earliest +ℤ v) ≤ℤ c.latest
late a b c u v k m = omega (arith, ints, clamps)

only_last : (a b c : Summary) (u v : ℤ) → (int_max (a.earliest +ℤ u +ℤ b.duration) b.earliest +ℤ v) ≤ℤ c.latest → (b.earliest +ℤ v) ≤ℤ c.latest
only_last a b c u v m = omega (arith, ints, clamps)

only_first : (a b c : Summary) (u v : ℤ) → (a.earliest +ℤ u) ≤ℤ int_min b.latest ((c.latest -ℤ b.duration) -ℤ v) → (a.earliest +ℤ u) ≤ℤ b.latest
only_first a b c u v m = omega (arith, ints, clamps)

pub join_assoc : IsAssociative join
join_assoc p a b c =
    let u = pos (distance p a.last b.first) in
    let v = pos (distance p b.last c.first) in
    by_le (follows p a b)
    (λ y. let h = follows_yes p a b y in
    by_le (follows p b c)
    (λ z. let k = follows_yes p b c z in
    by_le (follows p (joined p a b) c)
    (λ x. let m = follows_yes p (joined p a b) c x in
    let w : follows p a (joined p b c) ≡ true = yes_follows p a (joined p b c) (record { known = h.known; timely = early a b c u v h.timely m.timely }) in
    rw (y, z, x, w) (ap Some (joined_assoc p a b c)))
    (λ x. let w : follows p a (joined p b c) ≡ false = no_follows p a (joined p b c) (λ m. follows_not p (joined p a b) c x
    (record { known = k.known; timely = late a b c u v k.timely m.timely })) in
    rw (y, z, x, w) refl))
    (λ z. let w : follows p (joined p a b) c ≡ false = no_follows p (joined p a b) c (λ m. follows_not p b c z (record { known = m.known; timely = only_last a b c u v m.timely })) in
    rw (y, z, w) refl))
    (λ y. by_le (follows p b c)
    (λ z. let w : follows p a (joined p b c) ≡ false = no_follows p a (joined p b c) (λ m. follows_not p a b y (record { known = m.known; timely = only_first a b c u v m.timely })) in
    rw (y, z, w) refl)
    (λ z. rw (y, z) refl))
