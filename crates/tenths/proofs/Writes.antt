-- How writes add up.
use Rattle.std.proofs.Common.{◌≡◌, ℕ, zero, suc, get_or, length, ◌<◌, List, [], ◌∷◌, ◌++◌, take, drop, Option, Some, None, Result, Ok, Err, refl, sym, ap, ◌∙◌, append_assoc, arith}
use Rattle.std.specs.Prelude.{IsErr}
use Rattle.std.specs.List.{flat_map}
use Rattle.std.specs.Io.KnownBytes.{Appends}
use Rattle.std.proofs.lemmas.List.{take-append-drop}
use Rattle.tenths.specs.Sink.{Held, Takes, Fails, Writes}

Appends-then : (r s t : Option (List ℕ)) (a b : List ℕ) → Appends r s a → Appends s t b → Appends r t (a ++ b)
Appends-then None s t a b p q = tt
Appends-then (Some xs) None t a b p q = absurd p
Appends-then (Some xs) (Some ys) None a b p q = absurd q
Appends-then (Some xs) (Some ys) (Some zs) a b p q = q ∙ ap (λ (w : List ℕ). w ++ b) p ∙ append_assoc xs a b

-- a part was taken, and then the next part
pub takes_then : (r s t : Held) (a b : List ℕ) → Takes r s a → Takes s t b → Takes r t (a ++ b)
takes_then r s t a b p q = record { bytes = Appends-then r.taken s.taken t.taken a b p.bytes q.bytes; fine = q.fine ∙ p.fine }

-- a part was taken, and a beginning of the next part
pub fails_then : (r s t : Held) (a b : List ℕ) → Takes r s a → Fails s t b → Fails r t (a ++ b)
fails_then r s t a b p q =
    let (front, rest, parts, bytes) = q.bytes in
    record {
      bytes = (a ++ front, rest, ap (λ (w : List ℕ). a ++ w) parts ∙ sym (append_assoc a front rest), Appends-then r.taken s.taken t.taken a front p.bytes bytes);
      failed = rw p.fine at q.failed;
    }

-- a beginning of the first part is one of the whole
pub fails_first : (r s : Held) (a b : List ℕ) → Fails r s a → Fails r s (a ++ b)
fails_first r s a b p =
    let (front, rest, parts, bytes) = p.bytes in
    record { bytes = (front, rest ++ b, ap (λ (w : List ℕ). w ++ b) parts ∙ append_assoc front rest b, bytes); failed = p.failed }

-- one text after another
pub writes_then : {E : Type 0} (result : Result Unit E) (r s t : Held) (a b : List ℕ) → Takes r s a → Writes s t result b → Writes r t result (a ++ b)
writes_then (Ok u) r s t a b p q = takes_then r s t a b p q
writes_then (Err e) r s t a b p q = fails_then r s t a b p q

-- what an early return leaves
pub writes_err : {E : Type 0} (result : Result Unit E) (r s : Held) (a : List ℕ) → IsErr result → Fails r s a → Writes r s result a
writes_err (Ok u) r s a e p = absurd cc
writes_err (Err e) r s a _ p = p

-- a beginning of the text was taken, and the rest is left
abbrev pub IsLeft : Held → Held → List ℕ → List ℕ → Type 0
IsLeft r s text rest = (front : List ℕ) × (text ≡ front ++ rest) × Takes r s front

-- the loop's next turn
pub goes_on : (r s t : Held) (text rest : List ℕ) (n : ℕ) → IsLeft r s text rest → Takes s t (take n rest) → IsLeft r t text (drop n rest)
goes_on r s t text rest n (front, parts, p) q = (
  front ++ take n rest,
  parts ∙ ap (λ (w : List ℕ). front ++ w) (sym (take-append-drop n rest))
      ∙ sym (append_assoc front (take n rest) (drop n rest)),
  takes_then r s t front (take n rest) p q,
)

-- the texts of a list's items, cut at one of them
pub flat_map-cut : {X : Type 0} (f : X → List ℕ) (xs : List X) (i : ℕ) (d : X) → i < length xs
    → flat_map f xs ≡ (flat_map f (take i xs) ++ f (get_or xs i d)) ++ flat_map f (drop (suc i) xs)
flat_map-cut f [] i d h = absurd (omega arith)
flat_map-cut f (x ∷ xs) zero d h = refl
flat_map-cut f (x ∷ xs) (suc i) d h =
    ap (λ (w : List ℕ). f x ++ w) (flat_map-cut f xs i d (omega arith))
    ∙ sym (append_assoc (f x) (flat_map f (take i xs) ++ f (get_or xs i d)) (flat_map f (drop (suc i) xs)))
    ∙ ap (λ (w : List ℕ). w ++ flat_map f (drop (suc i) xs)) (sym (append_assoc (f x) (flat_map f (take i xs)) (f (get_or xs i d))))

-- a loop that writes the text of each item failed at one of them
pub loop_fails : {X : Type 0} (f : X → List ℕ) (xs : List X) (i : ℕ) (d : X) (r s t : Held) → i < length xs
    → Takes r s (flat_map f (take i xs)) → Fails s t (f (get_or xs i d)) → Fails r t (flat_map f xs)
loop_fails f xs i d r s t h p q =
    rw (flat_map-cut f xs i d h) (fails_first r t (flat_map f (take i xs) ++ f (get_or xs i d)) (flat_map f (drop (suc i) xs))
    (fails_then r s t (flat_map f (take i xs)) (f (get_or xs i d)) p q))
