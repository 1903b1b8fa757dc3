use Rattle.std.proofs.Common.{◌≡◌, ℕ, zero, suc, ◌+◌, ◌-◌, ◌≤◌, ◌∙◌, ap, arith}
use Rattle.std.specs.List.{sum_by, range_with_len}
use Rattle.std.proofs.lemmas.List.Sums.{sum_by-cons}
use Rattle.solomon_reader.specs.Problem.{demand}
use Rattle.solomon_reader.proofs.instance.Instance.fewest_routes.Goals as goal

sum_from : (f : ℕ → ℕ) (n a : ℕ) → sum_by f (range_with_len a (suc n)) ≡ sum_by f (range_with_len a n) + f (a + n)
sum_from f zero a = let e : a + 0 ≡ a = omega arith in rw e (omega arith)
sum_from f (suc n) a =
    let e : (a + 1) + n ≡ a + suc n = omega arith in
    let onward = rw e at (sum_from f n (a + 1)) in
    omega (arith, onward, sum_by-cons f a (range_with_len (a + 1) (suc n)), sum_by-cons f a (range_with_len (a + 1) n))

sum_more : (f : ℕ → ℕ) (i total : ℕ) → 1 ≤ i → total ≡ sum_by f (range_with_len 1 (i - 1)) → total + f i ≡ sum_by f (range_with_len 1 (i + 1 - 1))
sum_more f i total positive so_far =
    let e : i + 1 - 1 ≡ suc (i - 1) = omega arith in
    let at : 1 + (i - 1) ≡ i = omega arith in
    rw e (omega (arith, so_far, rw at at (sum_from f (i - 1) 1)))

pub loop-i-preserved : goal.loop-i-preserved
loop-i-preserved c = record {
  value = ap (λ n. c.loop-i.total + n) (c.from-total.ensures ∙ c.demand.ensures.value) ∙ sum_more (demand c.args.self.now) c.loop-i.i c.loop-i.total c.loop-i.auto.i c.loop-i.invariant.value;
  bound = omega (arith, c.loop-i.invariant.bound, c.from-total.ensures, c.demand.ensures.bound, c.loop-i.auto.i);
}
