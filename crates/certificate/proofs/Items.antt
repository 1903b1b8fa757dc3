-- What is read as a list stands in its lines, a line for each thing.
use Rattle.std.proofs.Common.{◌≡◌, ℕ, ◌+◌, zero, suc, ◌≤◌, Bool, true, false, cond, List, [], ◌∷◌, ◌++◌, length, map, Option, Result, Ok, Err, refl, sym, ap, subst, ◌∙◌, arith}
use Rattle.tenths.specs.Parts.{parts}
use Rattle.tenths.specs.Reading.{◌>>=◌}
use Rattle.tenths.specs.Lines.{Left}
use Rattle.tenths.proofs.Cuts.{joined, joined-parts}
use Rattle.tenths.proofs.Steps.{bind_ok, ok_is}
use Rattle.certificate.specs.declared.fault.CertFault.{CertFault}
use Rattle.certificate.specs.Reading.{Here, next_at, line_from, begins, items_at}

pub next_takes : (k : ℕ) (ps : List (List ℕ)) (l : List ℕ × Left) → next_at (k, ps) ≡ Ok l → ps ≡ l.0 ∷ l.1.1
next_takes k [] l h = absurd cc
next_takes k (p ∷ []) l h = absurd cc
next_takes k (p ∷ m ∷ ps) l h = ap (λ (x : List ℕ × Left). x.0 ∷ x.1.1) (ok_is (p, (k + 1, m ∷ ps)) l h)

-- a line and what is left behind it, as lines
abbrev pub lines_of : Here → List (List ℕ)
lines_of h = h.1.0 ∷ h.1.1.1

pub from_takes : (st : Left) (h : Here) → line_from st ≡ Ok h → st.1 ≡ lines_of h
unfolding line_from
from_takes st h e =
    let l = bind_ok (next_at st) (λ l. Ok (st.0, l)) h e in
    next_takes st.0 st.1 l.0 l.1 ∙ ap lines_of (ok_is (st.0, l.0) h l.2)

-- each thing is what it is to be behind what was seen of the one before
abbrev pub AllBehind : {A : Type 0} → (Option A → A → Type 0) → (A → Option A) → Option A → List A → Type 0
AllBehind Is seen before [] = Unit {0}
AllBehind Is seen before (s ∷ xs) = Is before s × AllBehind Is seen (seen s) xs

module _ {A : Type 0} (text : List ℕ) (item_in : Option A → ℕ → List (List ℕ) → Result A CertFault) (full : ℕ → CertFault) (seen : A → Option A)
    (item_text : A → List ℕ) (Is : Option A → A → Type 0)
    (item_takes : (before : Option A) (k : ℕ) (ws : List (List ℕ)) (s : A) → item_in before k ws ≡ Ok s → (joined 32 ws ≡ item_text s) × Is before s) where
  pub record AreItemsRead (left : ℕ) (before : Option A) (at : Here) (xs : List A) (rest : Here) : Type 0 where
    pub lines : lines_of at ≡ map item_text xs ++ lines_of rest
    pub shaped : AllBehind Is seen before xs
    pub few : length xs ≤ left

  ended : (left : ℕ) (before : Option A) (at : Here) (f : List A × Here) → ([], at) ≡ f → AreItemsRead left before at f.0 f.1
  ended left before at f m = subst (λ (x : List A × Here). AreItemsRead left before at x.0 x.1) m (record { lines = refl; shaped = tt; few = omega arith })

  one_item : (left : ℕ) (before : Option A) (at next : Here) (s : A) (r f : List A × Here) → item_in before at.0 (parts 32 at.1.0) ≡ Ok s → line_from at.1.1 ≡ Ok next
      → (s ∷ r.0, r.1) ≡ f → AreItemsRead left (seen s) next r.0 r.1 → AreItemsRead (suc left) before at f.0 f.1
  one_item left before at next s r f m g same more =
      let t = item_takes before at.0 (parts 32 at.1.0) s m in
      let text : at.1.0 ≡ item_text s = sym (joined-parts 32 at.1.0) ∙ t.0 in
      let lines : lines_of at ≡ item_text s ∷ (map item_text r.0 ++ lines_of r.1) = ap (λ (x : List ℕ). x ∷ at.1.1.1) text
      ∙ ap (λ (x : List (List ℕ)). item_text s ∷ x) (from_takes at.1.1 next g ∙ more.lines) in
      subst (λ (x : List A × Here). AreItemsRead (suc left) before at x.0 x.1) same (record { lines = lines; shaped = (t.1, more.shaped); few = omega (arith, more.few) })

  pub items_take : (left : ℕ) (before : Option A) (at : Here) (f : List A × Here) → items_at text item_in full seen left before at ≡ Ok f → AreItemsRead left before at f.0 f.1
  unfolding items_at
  items_take zero before at f h = of (begins text (parts 32 at.1.0)) h
    where
      of : (t : Bool) → cond t (item_in before at.0 (parts 32 at.1.0) >>= λ s. Err (full at.0)) (Ok ([], at)) ≡ Ok f → AreItemsRead zero before at f.0 f.1
      of false m = ended zero before at f (ok_is ([], at) f m)
      of true m = let s = bind_ok (item_in before at.0 (parts 32 at.1.0)) (λ s. Err (full at.0)) f m in absurd (cc s.2)
  items_take (suc left) before at f h = of (begins text (parts 32 at.1.0)) h (λ s next g m. items_take left (seen s) next g m)
    where
      of : (t : Bool)
          → cond t (item_in before at.0 (parts 32 at.1.0) >>= λ s. line_from at.1.1 >>= λ next. items_at text item_in full seen left (seen s) next >>= λ more. Ok (s ∷ more.0, more.1)) (Ok ([], at)) ≡ Ok f
          → ((s : A) (next : Here) (g : List A × Here) → items_at text item_in full seen left (seen s) next ≡ Ok g → AreItemsRead left (seen s) next g.0 g.1) → AreItemsRead (suc left) before at f.0 f.1
      of false m more = ended (suc left) before at f (ok_is ([], at) f m)
      of true m more =
          let s = bind_ok (item_in before at.0 (parts 32 at.1.0)) (λ s. line_from at.1.1 >>= λ next. items_at text item_in full seen left (seen s) next >>= λ more. Ok (s ∷ more.0, more.1)) f m in
          let n = bind_ok (line_from at.1.1) (λ next. items_at text item_in full seen left (seen s.0) next >>= λ more. Ok (s.0 ∷ more.0, more.1)) f s.2 in
          let r = bind_ok (items_at text item_in full seen left (seen s.0) n.0) (λ more. Ok (s.0 ∷ more.0, more.1)) f n.2 in
          one_item left before at n.0 s.0 r.0 f s.1 n.1 (ok_is (s.0 ∷ r.0.0, r.0.1) f r.2) (more s.0 n.0 r.0 r.1)
