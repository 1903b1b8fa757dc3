-- Each move keeps the rule of a deque.
use Rattle.std.proofs.Common.{◌≡◌, ◌≢◌, ◌+◌, ◌-◌, ◌<◌, ◌≤◌, ℕ, zero, suc, true, false, true≢false, List, [], ◌∷◌, ◌++◌, set, sym, refl, ap, ◌∙◌, subst, ⊎_elim, append_assoc, arith}
use mathlib.Core.Option.{some, some-ne-none, some-injective}
use lib.ListN.{get_elem?}
use Rattle.crossbeam_deque.specs.Tasks.{Pushes, Takes, Forks, Merges, Learns}
use Rattle.crossbeam_deque.proofs.Lists.{at_set, at_snoc}
use Rattle.solomon_reader.specs.DequeLaw.{all_taken, weigh}
use Rattle.node_pool.specs.declared.law.Known.{Known}
use Rattle.node_pool.specs.Law.{Balanced, Stand, StoodFirst, WasEmpty, all_parts, known, parts_in, takers}
use Rattle.node_pool.proofs.Shares.{left_standing, weigh_append}

abbrev taken_by_all : (ℕ → ℕ) → List Known → ℕ
taken_by_all h views = weigh h (all_taken (takers views))

taken_cons : (h : ℕ → ℕ) (v : Known) (vs : List Known) → taken_by_all h (v ∷ vs) ≡ weigh h v.taken + taken_by_all h vs
taken_cons h v vs = weigh_append h v.taken (all_taken (takers vs))

taken_set : (h : ℕ → ℕ) (views : List Known) (port : ℕ) (v w : Known) → get_elem? views port ≡ some v
    → taken_by_all h (set views port w) + weigh h v.taken ≡ taken_by_all h views + weigh h w.taken
taken_set h [] port v w e = absurd (some-ne-none v (sym e))
taken_set h (x ∷ xs) zero v w e = let is : weigh h x.taken ≡ weigh h v.taken = ap (λ (y : Known). weigh h y.taken) (some-injective x v e) in
    omega (arith, is, taken_cons h x xs, taken_cons h w xs)
taken_set h (x ∷ xs) (suc port) v w e = omega (arith, taken_set h xs port v w e, taken_cons h x xs, taken_cons h x (set xs port w))

taken_snoc : (h : ℕ → ℕ) (views : List Known) (v : Known) → taken_by_all h (views ++ v ∷ []) ≡ taken_by_all h views + weigh h v.taken
taken_snoc h [] v = taken_cons h v [] ∙ none
  where
    none : weigh h v.taken + taken_by_all h [] ≡ taken_by_all h [] + weigh h v.taken
    none = omega arith
taken_snoc h (x ∷ xs) v = omega (arith, taken_snoc h xs v, taken_cons h x xs, taken_cons h x (xs ++ v ∷ []))

parts_set : (views : List Known) (port : ℕ) (v w : Known) → get_elem? views port ≡ some v → parts_in (set views port w) + v.parts ≡ parts_in views + w.parts
parts_set [] port v w e = absurd (some-ne-none v (sym e))
parts_set (x ∷ xs) zero v w e = let is : x.parts ≡ v.parts = ap (λ (y : Known). y.parts) (some-injective x v e) in omega arith
parts_set (x ∷ xs) (suc port) v w e = omega (arith, parts_set xs port v w e)

parts_snoc : (views : List Known) (v : Known) → parts_in (views ++ v ∷ []) ≡ parts_in views + v.parts
parts_snoc [] v = omega arith
parts_snoc (x ∷ xs) v = omega (arith, parts_snoc xs v)

abbrev Knows : ℕ → List ℕ → ℕ → Known → Type 0
Knows owner pushed port v = v.pushes ≡ true → (port ≡ owner) × (v.pushed ≡ pushed)

abbrev IsIdle : ℕ → Known → Type 0
IsIdle port v = v.parts ≡ 0 → v.taken ≡ []

abbrev Each : (ℕ → Known → Type 0) → List Known → Type 0
Each P views = (port : ℕ) (v : Known) → get_elem? views port ≡ some v → P port v

each_set : (P Q : ℕ → Known → Type 0) (views : List Known) (port : ℕ) (w : Known) → Q port w → ((j : ℕ) (u : Known) → P j u → Q j u) → Each P views → Each Q (set views port w)
each_set P Q views port w mine kept all j u e = ⊎_elim
    (λ (x : (j ≡ port) × (w ≡ u)). subst (λ (y : ℕ × Known). Q y.0 y.1) (λ i. (sym x.0 i, x.1 i)) mine)
    (λ (x : (j ≢ port) × (get_elem? views j ≡ some u)). kept j u (all j u x.1))
    (at_set views port j w u e)

each_snoc : (P : ℕ → Known → Type 0) (views : List Known) (w : Known) → ((j : ℕ) → P j w) → Each P views → Each P (views ++ w ∷ [])
each_snoc P views w last all j u e = ⊎_elim (λ x. all j u x) (λ (is : w ≡ u). subst (P j) is (last j)) (at_snoc views w u j e)

pub begins : Balanced [] (known true all_parts [] [] ∷ [])
begins = record {
  owner = 0;
  pushed = [];
  law = record { left = []; order = refl; counts = λ h. refl };
  knows = one;
  parts = omega arith;
  idle = λ port v e none. nothing port v e;
}
  where
    one : Each (Knows 0 []) (known true all_parts [] [] ∷ [])
    one zero v e = subst (Knows 0 [] 0) (some-injective (known true all_parts [] []) v e) (λ p. (refl, refl))
    one (suc port) v e = absurd (some-ne-none v (sym e))

    nothing : Each (λ port v. v.taken ≡ []) (known true all_parts [] [] ∷ [])
    nothing zero v e = ap (λ (u : Known). u.taken) (sym (some-injective (known true all_parts [] []) v e))
    nothing (suc port) v e = absurd (some-ne-none v (sym e))

pub pushes : (port : ℕ) (v : Known) (xs : List ℕ) → v.pushes ≡ true → Pushes Balanced port v xs (λ w. w ≡ known v.pushes v.parts (v.pushed ++ xs) v.taken)
pushes port v xs may items views b at =
    let w = known v.pushes v.parts (v.pushed ++ xs) v.taken in
    let mine = b.knows port v at may in (
      w,
      record {
        owner = b.owner;
        pushed = b.pushed ++ xs;
        law = record {
          left = b.law.left;
          order = ap (λ l. l ++ xs) b.law.order ∙ append_assoc b.law.left items xs;
          counts = λ h. let t = taken_set h views port v w at in let c = b.law.counts h in omega arith;
        };
        knows = λ j u e. ⊎_elim
            (λ (x : (j ≡ port) × (w ≡ u)). subst (Knows b.owner (b.pushed ++ xs) j) x.1 (λ p. (x.0 ∙ mine.0, ap (λ l. l ++ xs) mine.1)))
            (λ (x : (j ≢ port) × (get_elem? views j ≡ some u)). λ p. absurd (x.0 ((b.knows j u x.1 p).0 ∙ sym mine.0)))
            (at_set views port j w u e);
        parts = let p = parts_set views port v w at in let q = b.parts in omega arith;
        idle = each_set IsIdle IsIdle views port w (b.idle port v at) (λ j u kept. kept) b.idle;
      },
      refl,
    )

pub takes : (port : ℕ) (v : Known) → 0 < v.parts → Takes Balanced port v 1 (λ xs w. (w ≡ known v.pushes v.parts v.pushed (v.taken ++ xs)) × StoodFirst v xs)
takes port v some_part xs items views least most b at =
    let w = known v.pushes v.parts v.pushed (v.taken ++ xs) in (
      w,
      record {
        owner = b.owner;
        pushed = b.pushed;
        law = record {
          left = b.law.left ++ xs;
          order = b.law.order ∙ sym (append_assoc b.law.left xs items);
          counts = λ h. let t = taken_set h views port v w at in let c = b.law.counts h in omega (arith, weigh_append h b.law.left xs, weigh_append h v.taken xs);
        };
        knows = each_set (Knows b.owner b.pushed) (Knows b.owner b.pushed) views port w (b.knows port v at) (λ j u kept. kept) b.knows;
        parts = let p = parts_set views port v w at in let q = b.parts in omega arith;
        idle = each_set IsIdle IsIdle views port w (λ none. absurd (omega arith)) (λ j u kept. kept) b.idle;
      },
      (refl, (items, port, views, b, at)),
    )

pub deals : (port : ℕ) (v : Known) → 1 < v.parts → Forks Balanced port v (known v.pushes (v.parts - 1) v.pushed v.taken) (known false 1 [] [])
deals port v more items views b at =
    let w = known v.pushes (v.parts - 1) v.pushed v.taken in
    let u = known false 1 [] [] in
    let vs = set views port w in record {
      owner = b.owner;
      pushed = b.pushed;
      law = record {
        left = b.law.left;
        order = b.law.order;
        counts = λ h. let t = taken_set h views port v w at in let s = taken_snoc h vs u in let c = b.law.counts h in omega arith;
      };
      knows = each_snoc (Knows b.owner b.pushed) vs u (λ j p. absurd (true≢false (sym p)))
          (each_set (Knows b.owner b.pushed) (Knows b.owner b.pushed) views port w (b.knows port v at) (λ j y kept. kept) b.knows);
      parts = let p = parts_set views port v w at in let s = parts_snoc vs u in let q = b.parts in omega arith;
      idle = each_snoc IsIdle vs u (λ j none. refl) (each_set IsIdle IsIdle views port w (λ none. absurd (omega arith)) (λ j y kept. kept) b.idle);
    }

pub spends : (port : ℕ) (v : Known) → Forks Balanced port v v (known false 0 [] [])
spends port v items views b at =
    let u = known false 0 [] [] in
    let vs = set views port v in record {
      owner = b.owner;
      pushed = b.pushed;
      law = record {
        left = b.law.left;
        order = b.law.order;
        counts = λ h. let t = taken_set h views port v v at in let s = taken_snoc h vs u in let c = b.law.counts h in omega arith;
      };
      knows = each_snoc (Knows b.owner b.pushed) vs u (λ j p. absurd (true≢false (sym p)))
          (each_set (Knows b.owner b.pushed) (Knows b.owner b.pushed) views port v (b.knows port v at) (λ j y kept. kept) b.knows);
      parts = let p = parts_set views port v v at in let s = parts_snoc vs u in let q = b.parts in omega arith;
      idle = each_snoc IsIdle vs u (λ j none. refl) (each_set IsIdle IsIdle views port v (b.idle port v at) (λ j y kept. kept) b.idle);
    }

append_nils : (xs ys : List ℕ) → xs ≡ [] → ys ≡ [] → xs ++ ys ≡ []
append_nils xs ys none nothing = ap (λ l. l ++ ys) none ∙ nothing

pub merges : (port : ℕ) (v : Known) (other : ℕ) (u : Known) → Merges Balanced port v other u (known v.pushes (v.parts + u.parts) v.pushed (v.taken ++ u.taken)) (known false 0 [] [])
merges port v other u items views b at apart there =
    let w = known v.pushes (v.parts + u.parts) v.pushed (v.taken ++ u.taken) in
    let spent = known false 0 [] [] in
    let vs = set views port w in
    let was : get_elem? views other ≡ some u = ⊎_elim (λ x. absurd (apart x.0)) (λ x. x.1) (at_set views port other w u there) in
    let empty : (v.parts + u.parts ≡ 0) → v.taken ++ u.taken ≡ [] = λ none. append_nils v.taken u.taken (b.idle port v at (omega arith)) (b.idle other u was (omega arith)) in record {
      owner = b.owner;
      pushed = b.pushed;
      law = record {
        left = b.law.left;
        order = b.law.order;
        counts = λ h. let t = taken_set h views port v w at in let s = taken_set h vs other u spent there in let c = b.law.counts h in omega (arith, weigh_append h v.taken u.taken);
      };
      knows = each_set (Knows b.owner b.pushed) (Knows b.owner b.pushed) vs other spent (λ p. absurd (true≢false (sym p))) (λ j y kept. kept)
          (each_set (Knows b.owner b.pushed) (Knows b.owner b.pushed) views port w (b.knows port v at) (λ j y kept. kept) b.knows);
      parts = let p = parts_set views port v w at in let s = parts_set vs other u spent there in let q = b.parts in omega arith;
      idle = each_set IsIdle IsIdle vs other spent (λ none. refl) (λ j y kept. kept) (each_set IsIdle IsIdle views port w empty (λ j y kept. kept) b.idle);
    }

-- where no part is left, nothing was taken
none_left : (h : ℕ → ℕ) (views : List Known) → parts_in views ≡ 0 → Each IsIdle views → taken_by_all h views ≡ 0
none_left h [] none idle = refl
none_left h (x ∷ xs) none idle =
    let nothing : weigh h x.taken ≡ 0 = ap (weigh h) (idle 0 x refl (omega arith)) in
    let rest = none_left h xs (omega arith) (λ j. idle (suc j)) in
    omega (arith, weigh_append h x.taken (all_taken (takers xs)))

-- who has all parts took all that was taken
alone : (h : ℕ → ℕ) (views : List Known) (port : ℕ) (v : Known) → get_elem? views port ≡ some v → parts_in views ≡ v.parts → Each IsIdle views
    → taken_by_all h views ≡ weigh h v.taken
alone h [] port v at all idle = absurd (some-ne-none v (sym at))
alone h (x ∷ xs) zero v at all idle =
    let is : x ≡ v = some-injective x v at in
    let parts : x.parts ≡ v.parts = ap (λ (y : Known). y.parts) is in
    let weight : weigh h x.taken ≡ weigh h v.taken = ap (λ (y : Known). weigh h y.taken) is in
    let rest = none_left h xs (omega arith) (λ j. idle (suc j)) in
    omega (arith, taken_cons h x xs)
alone h (x ∷ xs) (suc port) v at all idle = let s = part_of xs port v at in
    let nothing : weigh h x.taken ≡ 0 = ap (weigh h) (idle 0 x refl (omega arith)) in let rest = alone h xs port v at (omega arith) (λ j. idle (suc j)) in omega (arith, taken_cons h x xs)
  where
    part_of : (views : List Known) (port : ℕ) (v : Known) → get_elem? views port ≡ some v → v.parts ≤ parts_in views
    part_of [] port v at = absurd (some-ne-none v (sym at))
    part_of (x ∷ xs) zero v at = let is : x.parts ≡ v.parts = ap (λ (y : Known). y.parts) (some-injective x v at) in omega arith
    part_of (x ∷ xs) (suc port) v at = omega (arith, part_of xs port v at)

pub learns : (port : ℕ) (v : Known) → v.pushes ≡ true → v.parts ≡ all_parts → Learns Balanced port v (Stand v)
learns port v owns whole items views b at = record {
  left = b.law.left;
  order = (b.knows port v at owns).1 ∙ b.law.order;
  counts = λ h. let c = b.law.counts h in let a = alone h views port v at (b.parts ∙ sym whole) b.idle in omega (arith, weigh_append h v.taken []);
}

module _ (v : Known) (s rest : List ℕ) (w : Known) (is : w ≡ known true all_parts v.pushed (v.taken ++ s)) (before : Stand v (s ++ rest)) where
  now_stand : (items : List ℕ) (port : ℕ) (views : List Known) → Balanced items views → get_elem? views port ≡ some w → rest ≡ items
  now_stand items port views b at =
      left_standing v.pushed v.taken s rest items before
      (subst (λ (u : Known). Stand u items) is (learns port w (ap (λ (u : Known). u.pushes) is) (ap (λ (u : Known). u.parts) is) items views b at))

  -- who is alone, and took what stood first, took the next
  pub next_stands : (x : ℕ) → StoodFirst w (x ∷ []) → (items : List ℕ) × (rest ≡ x ∷ items)
  next_stands x stood = (stood.0, now_stand (x ∷ stood.0) stood.1 stood.2 stood.3 stood.4)

  -- who is alone, and found nothing, took all
  pub none_stands : WasEmpty w → rest ≡ []
  none_stands empty = now_stand [] empty.0 empty.1 empty.2 empty.3

pub took_next : (v w u : Known) (s : List ℕ) (x : ℕ) → w ≡ known true all_parts v.pushed (v.taken ++ s)
    → u ≡ known true w.parts w.pushed (w.taken ++ x ∷ []) → u ≡ known true all_parts v.pushed (v.taken ++ (s ++ x ∷ []))
took_next v w u s x is took =
    took
    ∙ ap (λ (k : Known). known true k.parts k.pushed (k.taken ++ x ∷ [])) is
    ∙ ap (known true all_parts v.pushed) (append_assoc v.taken s (x ∷ []))

pub stand_next : (v : Known) (s rest items : List ℕ) (x : ℕ) → rest ≡ x ∷ items → Stand v (s ++ rest) → Stand v ((s ++ x ∷ []) ++ items)
stand_next v s rest items x is stand = subst (Stand v) (ap (λ l. s ++ l) is ∙ sym (append_assoc s (x ∷ []) items)) stand
