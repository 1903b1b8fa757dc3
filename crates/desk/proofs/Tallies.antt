-- Tallies of lists.
use Rattle.std.proofs.Common.{◌≡◌, refl, ℕ, ◌+◌, List, [], ◌∷◌, ◌++◌, arith, ap, ◌∙◌, sym, ◌<◌, length, take, map, Option, ◌-◌}
use Rattle.std.proofs.lemmas.List.{map-append, reverse-append, take_more}
use Rattle.std.proofs.lemmas.List.FromFn.{map-range_with_len_more}
use Rattle.std.proofs.Math.ListN.{get_or}
use Rattle.solomon_reader.specs.History.{Event}
use Rattle.incumbent_book.specs.Contents.{event_of, past_of}
use Rattle.incumbent_book.specs.declared.event.Event.{Event as Kept}
use Rattle.desk.specs.Holding.{Holding}
use Rattle.desk.specs.Account.{Account, opening_accounts, tally_of_shares}
use Rattle.desk.specs.Tally.{Tally, plus, each, tally_by, tally_of, tally_of_event}

pub plus_none : (a : Tally) → plus a (each 0) ≡ a
unfolding plus each
plus_none a = grind arith

plus_swap : (a b : Tally) → plus a b ≡ plus b a
unfolding plus
plus_swap a b = grind arith

swapped : (a b c : Tally) → plus (plus a b) c ≡ plus a (plus c b)
unfolding plus
swapped a b c = grind arith

turned : (a b c : Tally) → plus (plus a b) c ≡ plus (plus a c) b
unfolding plus
turned a b c = grind arith

pub tally_by-cons : {X : Type 0} (f : X → Tally) (x : X) (xs : List X) → tally_by f (x ∷ xs) ≡ plus (tally_by f xs) (f x)
unfolding tally_by
tally_by-cons f x xs = refl

pub tally_by-push : {X : Type 0} (f : X → Tally) (xs : List X) (x : X) → tally_by f (xs ++ x ∷ []) ≡ plus (tally_by f xs) (f x)
unfolding tally_by
tally_by-push f [] x = refl
tally_by-push f (y ∷ ys) x = ap (λ a. plus a (f y)) (tally_by-push f ys x) ∙ turned (tally_by f ys) (f x) (f y)

-- an event more, in the history and in the totals
pub counted_more : (past : List Event) (event : Event) (before after : Tally) (new : List Event) → tally_of past ≡ before → new ≡ event ∷ past
    → after ≡ plus before (tally_of_event event) → tally_of new ≡ after
counted_more past event before after new was longer more = rw (longer, tally_by-cons tally_of_event event past, was, more) refl

-- a share more, merged or still among the others
pub merged : (f : Account → Tally) (xs : List Account) (x : Account) (a : Tally) → plus (plus a (f x)) (tally_by f xs) ≡ plus a (tally_by f (xs ++ x ∷ []))
merged f xs x a = rw (tally_by-push f xs x) (swapped a (f x) (tally_by f xs))

-- the last of some shares, and the others
pub gather_first : (all rest : List Account) (last : Account) → all ≡ rest ++ last ∷ [] → plus last.tally (tally_of_shares rest) ≡ tally_of_shares all
gather_first all rest last are = rw are (sym (tally_by-push (λ (s : Account). s.tally) rest last ∙ plus_swap (tally_of_shares rest) last.tally))

-- one more of the others
pub gather_more : (before after : List Account) (share : Account) (tally : Tally) → before ≡ after ++ share ∷ []
    → plus (plus tally share.tally) (tally_of_shares after) ≡ plus tally (tally_of_shares before)
gather_more before after share tally are = rw are (merged (λ (s : Account). s.tally) after share tally)

-- none of the others
pub gather_all : (others : List Account) (tally : Tally) → others ≡ [] → plus tally (tally_of_shares others) ≡ tally
unfolding tally_by
gather_all others tally none = rw none (plus_none tally)

-- the events so far, and one more
past_of-more : (history : List Kept) (i : ℕ) (event : Kept) → i < length history → event ≡ get_or history i event
    → past_of (take (i + 1) history) ≡ event_of event ∷ past_of (take i history)
past_of-more history i event h is =
    rw (take_more history i event h, map-append event_of (take i history) (get_or history i event ∷ []), reverse-append (map event_of (take i history)) (event_of (get_or history i event) ∷ []))
    (ap (λ (e : Kept). event_of e ∷ past_of (take i history)) (sym is))

pub tally_of-more : (history : List Kept) (i : ℕ) (event : Kept) → i < length history → event ≡ get_or history i event
    → plus (tally_of (past_of (take i history))) (tally_of_event (event_of event)) ≡ tally_of (past_of (take (i + 1) history))
tally_of-more history i event h is = rw (past_of-more history i event h is) (sym (tally_by-cons tally_of_event (event_of event) (past_of (take i history))))

-- a share with this tally
abbrev pub with : Account → Tally → Account
with s tally = record { worker = s.worker; tally = tally; cost = s.cost; bound = s.bound }

pub with_more : (s : Account) (history : List Kept) (i : ℕ) (event : Kept) → i < length history → event ≡ get_or history i event
    → with s (plus (tally_of (past_of (take i history))) (tally_of_event (event_of event))) ≡ with s (tally_of (past_of (take (i + 1) history)))
with_more s history i event h is = ap (with s) (tally_of-more history i event h is)

-- the shares of so many workers, and of one more
pub opening_accounts_more : (workers : ℕ) (before : Tally) (cost : Option ℕ) (bound : ℕ) → 0 < workers
    → opening_accounts (workers + 1) before cost bound ≡ opening_accounts workers before cost bound ++ record { worker = workers; tally = each 0; cost = cost; bound = bound } ∷ []
opening_accounts_more workers before cost bound some =
    let other : ℕ → Account = λ i. record { worker = i; tally = each 0; cost = cost; bound = bound } in
    let first : Account = record { worker = 0; tally = before; cost = cost; bound = bound } in
    let one : workers + 1 - 1 ≡ workers - 1 + 1 = omega arith in
    rw one (ap (λ (others : List Account). first ∷ others) (map-range_with_len_more other 1 (workers - 1) workers (omega arith)))

pub holding : (h : Holding) (parts : ℕ) (tally : Tally) → h.parts ≡ parts → h.tally ≡ tally → h ≡ record { parts = parts; tally = tally }
holding h parts tally p q i = record { parts = p i; tally = q i }
