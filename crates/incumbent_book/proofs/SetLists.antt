-- A list of sets that grows.
use Rattle.std.proofs.Common.{◌≡◌, ◌≢◌, refl, ℕ, true, false, Option, Some, None, drop, zero, suc, ◌+◌, ◌<◌, ◌≤◌, List, [], ◌∷◌, ◌++◌, map, length, take, get_or, arith, ap, sym, ◌∙◌, ◌⊎◌, inl, inr, append_assoc, append-nil, length-append, subst}
use Rattle.std.specs.List.{AllByRecursion}
use Rattle.std.proofs.lemmas.Bool.{cases_eq}
use Rattle.std.specs.Option.{is_some}
use Rattle.std.proofs.Math.Seq.{take-append_seam}
use Rattle.std.proofs.lemmas.List.{get_or-map, map-append, length-map, take_all, take-append-drop}
use Rattle.solomon_reader.specs.Region.{Among}
use Rattle.solomon_reader.specs.AmongLaws.{weaker, among_all, among_append_left, among_append_right}
use Rattle.solomon_reader.specs.SetPrices.{ListedSet, PricedSet, listed_of}
use Rattle.priced_sets.specs.Sets.{set_of, sets_of, listed_set}
use Rattle.priced_sets.proofs.Admitting.{first_sets}
use Rattle.priced_sets.specs.declared.priced_set.ListedSet.{ListedSet as Listed}
use Rattle.priced_sets.specs.declared.priced_set.PricedSet.{PricedSet as Priced}
use Rattle.incumbent_book.specs.Contents.{AreListed, AreDifferent, AreNew, LacksRoom}
use Rattle.incumbent_book.specs.SetLists.{no_set, IsPlaceOf, IsGrown, IsUnlistedFor, Begins}
use Rattle.incumbent_book.specs.declared.fault.BookFault.{BookFault}
use Rattle.incumbent_book.specs.declared.fault.BookFault.TheVariants.{Memory, ForeignInstance, JournalFull, NotALeaf, WrongRegion, NotHigher, Lower, LeavesFull, TooDeep, SetsFull, RowsFull}

-- ---- places

at_place : (s : ListedSet) (xs : List ListedSet) → Among s xs → (i : ℕ) × (i < length xs) × (get_or xs i no_set ≡ s)
at_place s [] a = absurd a
at_place s (x ∷ xs) (inl e) = (0, omega arith, e)
at_place s (x ∷ xs) (inr a) = let r = at_place s xs a in (suc r.0, omega (arith, r.1), r.2)

pub stands_at : (s : ListedSet) (xs : List ListedSet) (i : ℕ) → i < length xs → get_or xs i no_set ≡ s → Among s xs
stands_at s [] i within e = absurd (omega arith)
stands_at s (x ∷ xs) zero within e = inl e
stands_at s (x ∷ xs) (suc i) within e = inr (stands_at s xs i (omega arith) e)

-- the set doesn't stand at any of the first places
pub record NotBelow (s : ListedSet) (xs : List Listed) (i : ℕ) : Type 0 where
  pub none : (k : ℕ) → k < i → get_or (map listed_set xs) k no_set ≢ s

pub not_yet : (s : ListedSet) (xs : List Listed) → NotBelow s xs 0
not_yet s xs = record { none = λ k below. absurd (omega arith) }

pub listed_at : (xs : List Listed) (i : ℕ) (x : Listed) → i < length xs → x ≡ get_or xs i x → get_or (map listed_set xs) i no_set ≡ listed_set x
listed_at xs i x within is = get_or-map listed_set xs i x no_set within ∙ ap listed_set (sym is)

pub not_more : (s : ListedSet) (xs : List Listed) (i : ℕ) (x : Listed) → i < length xs → x ≡ get_or xs i x → ¬ (listed_set x ≡ s) → NotBelow s xs i → NotBelow s xs (i + 1)
not_more s xs i x within is other h = record {
  none = λ k below. elim (cases_eq k i) [
    | inl e ↦ rw e (λ same. other (sym (listed_at xs i x within is) ∙ same))
    | inr d ↦ h.none k (omega arith)
  ];
}

pub nowhere : (s : ListedSet) (xs : List Listed) (i : ℕ) → length xs ≤ i → NotBelow s xs i → ¬ Among s (map listed_set xs)
nowhere s xs i all h a = let r = at_place s (map listed_set xs) a in h.none r.0 (omega (arith, r.1, length-map xs listed_set)) r.2

pub placed : (s : ListedSet) (xs : List ListedSet) (found : Option ℕ) → IsPlaceOf s xs found → is_some found ≡ true → Among s xs
placed s xs None is e = absurd (let t : false ≡ true = e in cc)
placed s xs (Some i) is e = stands_at s xs i is.0 is.1

pub unplaced : (s : ListedSet) (xs : List ListedSet) (found : Option ℕ) → IsPlaceOf s xs found → is_some found ≡ false → ¬ Among s xs
unplaced s xs None is e = is
unplaced s xs (Some i) is e = absurd (let t : true ≡ false = e in cc)

-- ---- growing

pub all_both : {X : Type 0} (P : X → Type 0) (xs ys : List X) → AllByRecursion P xs → AllByRecursion P ys → AllByRecursion P (xs ++ ys)
all_both P [] ys h k = k
all_both P (x ∷ xs) ys h k = (h.0, all_both P xs ys h.1 k)

pub all_left : {X : Type 0} (P : X → Type 0) (xs ys : List X) → AllByRecursion P (xs ++ ys) → AllByRecursion P xs
all_left P [] ys h = tt
all_left P (x ∷ xs) ys h = (h.0, all_left P xs ys h.1)

pub all_right : {X : Type 0} (P : X → Type 0) (xs ys : List X) → AllByRecursion P (xs ++ ys) → AllByRecursion P ys
all_right P [] ys h = h
all_right P (x ∷ xs) ys h = all_right P xs ys h.1

-- what is listed stays listed
pub still_listed : (listed more : List ListedSet) (sets : List PricedSet) → AreListed listed sets → AreListed (listed ++ more) sets
still_listed listed more sets h = weaker (λ s. Among (listed_of s) listed) (λ s. Among (listed_of s) (listed ++ more)) (λ s a. among_append_left (listed_of s) listed more a) sets h

among_either : (s : ListedSet) (xs ys : List ListedSet) → Among s (xs ++ ys) → Among s xs ⊎ Among s ys
among_either s [] ys a = inr a
among_either s (x ∷ xs) ys (inl e) = inl (inl e)
among_either s (x ∷ xs) ys (inr a) = elim (among_either s xs ys a) [
  | inl b ↦ inl (inr b)
  | inr b ↦ inr b
]

different_both : (xs ys : List ListedSet) → AreDifferent xs → AreDifferent ys → ((s : ListedSet) → Among s ys → ¬ Among s xs) → AreDifferent (xs ++ ys)
different_both [] ys h k apart = k
different_both (x ∷ xs) ys h k apart = (
  (λ a. elim (among_either x xs ys a) [
    | inl b ↦ h.0 b
    | inr b ↦ apart x b (inl refl)
  ]),
  different_both xs ys h.1 k (λ s a b. apart s a (inr b)),
)

-- what is new after some sets is new with them
pub new_both : (old more : List ListedSet) (xs ys : List PricedSet) (later : List ListedSet) → AreNew old xs more → AreNew (old ++ more) ys later → AreNew old (xs ++ ys) (more ++ later)
new_both old more xs ys later g h = record {
  are = all_both (λ l. (¬ Among l old) × Among l (map listed_of (xs ++ ys))) more later
      (weaker (λ l. (¬ Among l old) × Among l (map listed_of xs)) (λ l. (¬ Among l old) × Among l (map listed_of (xs ++ ys)))
      (λ l k. (k.0, rw (map-append listed_of xs ys) (among_append_left l (map listed_of xs) (map listed_of ys) k.1))) more g.are)
      (weaker (λ l. (¬ Among l (old ++ more)) × Among l (map listed_of ys)) (λ l. (¬ Among l old) × Among l (map listed_of (xs ++ ys)))
      (λ l k. ((λ a. k.0 (among_append_left l old more a)), rw (map-append listed_of xs ys) (among_append_right l (map listed_of xs) (map listed_of ys) k.1))) later h.are);
  once = different_both more later g.once h.once
      (λ s a b. (among_all (λ l. (¬ Among l (old ++ more)) × Among l (map listed_of ys)) later h.are s a).0 (among_append_right s old more b));
}

-- those of some sets are new with others behind them
pub new_before : (old : List ListedSet) (ys zs : List PricedSet) (more : List ListedSet) → AreNew old ys more → AreNew old (ys ++ zs) more
new_before old ys zs more h = record {
  are = weaker (λ l. (¬ Among l old) × Among l (map listed_of ys)) (λ l. (¬ Among l old) × Among l (map listed_of (ys ++ zs)))
      (λ l k. (k.0, rw (map-append listed_of ys zs) (among_append_left l (map listed_of ys) (map listed_of zs) k.1))) more h.are;
  once = h.once;
}

pub none_new : (old : List ListedSet) (sets : List PricedSet) → AreNew old sets []
none_new old sets = record { are = tt; once = tt }

pub one_new : (old : List ListedSet) (s : PricedSet) → ¬ Among (listed_of s) old → AreNew old (s ∷ []) (listed_of s ∷ [])
one_new old s unknown = record { are = ((unknown, inl refl), tt); once = ((λ a. a), tt) }

-- one more set has no room in a full list
pub no_room_for : (most : ℕ) (listed : List ListedSet) (s : PricedSet) → most ≤ length listed → ¬ Among (listed_of s) listed → LacksRoom most listed (s ∷ [])
no_room_for most listed s full unknown = record { more = listed_of s ∷ []; only = one_new listed s unknown; full = omega (arith, full) }

module _ (most : ℕ) where
  pub grown_none : (old : List ListedSet) → length old ≤ most → IsGrown most [] old old
  grown_none old few = record { more = []; is = sym (append-nil old); listing = record { all = tt; only = none_new old [] }; few = few }

  pub grown_known : (s : PricedSet) (old : List ListedSet) → length old ≤ most → Among (listed_of s) old → IsGrown most (s ∷ []) old old
  grown_known s old few known = record {
    more = [];
    is = sym (append-nil old);
    listing = record { all = (among_append_left (listed_of s) old [] known, tt); only = none_new old (s ∷ []) };
    few = few;
  }

  pub grown_one : (s : PricedSet) (old new : List ListedSet) → length old < most → ¬ Among (listed_of s) old → new ≡ old ++ listed_of s ∷ [] → IsGrown most (s ∷ []) old new
  grown_one s old new room unknown is = record {
    more = listed_of s ∷ [];
    is = is;
    listing = record { all = (among_append_right (listed_of s) old (listed_of s ∷ []) (inl refl), tt); only = one_new old s unknown };
    few = omega (arith, ap (λ (xs : List ListedSet). length xs) is, length-append old (listed_of s ∷ []));
  }

  pub grown_both : (xs ys : List PricedSet) (old mid new : List ListedSet) → IsGrown most xs old mid → IsGrown most ys mid new → IsGrown most (xs ++ ys) old new
  grown_both xs ys old mid new g h =
      let whole : new ≡ old ++ (g.more ++ h.more) = h.is ∙ (ap (λ l. l ++ h.more) g.is ∙ append_assoc old g.more h.more) in
      let first : AreListed (old ++ (g.more ++ h.more)) xs = rw (append_assoc old g.more h.more) at (still_listed (old ++ g.more) h.more xs g.listing.all) in
      let second : AreListed (old ++ (g.more ++ h.more)) ys = rw (g.is, append_assoc old g.more h.more) at h.listing.all in
      record {
        more = g.more ++ h.more;
        is = whole;
        listing = record {
          all = all_both (λ s. Among (listed_of s) (old ++ (g.more ++ h.more))) xs ys first second;
          only = new_both old g.more xs ys h.more g.listing.only (rw g.is at h.listing.only);
        };
        few = h.few;
      }

  -- what has no room after some sets has none with them
  pub unlisted_later : (xs ys zs : List PricedSet) (old mid : List ListedSet) (why : BookFault) → IsGrown most xs old mid → IsUnlistedFor most ys mid why
      → IsUnlistedFor most (xs ++ (ys ++ zs)) old why
  unlisted_later xs ys zs old mid Memory g u = tt
  unlisted_later xs ys zs old mid SetsFull g u = record {
    more = g.more ++ u.more;
    only = new_both old g.more xs (ys ++ zs) u.more g.listing.only (new_before (old ++ g.more) ys zs u.more (rw g.is at u.only));
    full = omega (arith, u.full, ap (λ (l : List ListedSet). length l) g.is, length-append old g.more, length-append g.more u.more);
  }
  unlisted_later xs ys zs old mid ForeignInstance g u = absurd u
  unlisted_later xs ys zs old mid JournalFull g u = absurd u
  unlisted_later xs ys zs old mid NotALeaf g u = absurd u
  unlisted_later xs ys zs old mid WrongRegion g u = absurd u
  unlisted_later xs ys zs old mid NotHigher g u = absurd u
  unlisted_later xs ys zs old mid Lower g u = absurd u
  unlisted_later xs ys zs old mid LeavesFull g u = absurd u
  unlisted_later xs ys zs old mid TooDeep g u = absurd u
  unlisted_later xs ys zs old mid RowsFull g u = absurd u

  pub unlisted_after : (xs ys : List PricedSet) (old mid : List ListedSet) → IsGrown most xs old mid → (why : BookFault) → IsUnlistedFor most ys mid why
      → IsUnlistedFor most (xs ++ ys) old why
  unlisted_after xs ys old mid g why u = subst (λ (zs : List PricedSet). IsUnlistedFor most (xs ++ zs) old why) (append-nil ys) (unlisted_later xs ys [] old mid why g u)

  pub unlisted_before : (ys zs : List PricedSet) (old : List ListedSet) → length old ≤ most → (why : BookFault) → IsUnlistedFor most ys old why
      → IsUnlistedFor most (ys ++ zs) old why
  unlisted_before ys zs old few why u = unlisted_later [] ys zs old old why (grown_none old few) u

-- a beginning
pub begins_itself : {X : Type 0} (old : List X) → Begins old old
begins_itself old = ([], sym (append-nil old))

pub begins_more : {X : Type 0} (old mid new : List X) → Begins old mid → Begins mid new → Begins old new
begins_more old mid new b c = (b.0 ++ c.0, c.1 ∙ (ap (λ l. l ++ c.0) b.1 ∙ append_assoc old b.0 c.0))

pub taken_back : {X : Type 0} (old new : List X) (n : ℕ) → n ≡ length old → Begins old new → take n new ≡ old
taken_back old new n e b = rw (e, b.1) (take-append_seam old b.0)

-- ---- the sets of a slice, one after the other

pub record Gathering (most : ℕ) (sets : List Priced) (old now : List Listed) (i : ℕ) : Type 0 where
  pub grown : IsGrown most (take i (sets_of sets)) (map listed_set old) (map listed_set now)
  pub begins : Begins old now

module _ (most : ℕ) (sets : List Priced) (old : List Listed) where
  pub gathering_none : length (map listed_set old) ≤ most → Gathering most sets old old 0
  gathering_none few = record { grown = grown_none most (map listed_set old) few; begins = begins_itself old }

  pub gathering_more : (now next : List Listed) (i : ℕ) (s : Priced) → i < length sets → s ≡ get_or sets i s → Gathering most sets old now i
      → IsGrown most (set_of s ∷ []) (map listed_set now) (map listed_set next) → Begins now next → Gathering most sets old next (i + 1)
  gathering_more now next i s within is h g b = record {
    grown = rw (first_sets sets i s within is) (grown_both most (take i (sets_of sets)) (set_of s ∷ []) (map listed_set old) (map listed_set now) (map listed_set next) h.grown g);
    begins = begins_more old now next h.begins b;
  }

  pub gathering_all : (now : List Listed) (i : ℕ) → length sets ≤ i → Gathering most sets old now i → IsGrown most (sets_of sets) (map listed_set old) (map listed_set now)
  gathering_all now i all h = rw (take_all i (sets_of sets) (omega (arith, length-map sets set_of))) at h.grown

  -- what is refused for one of them is refused for all
  pub gathering_stops : (now : List Listed) (i : ℕ) (s : Priced) → i < length sets → s ≡ get_or sets i s → Gathering most sets old now i
      → (why : BookFault) → IsUnlistedFor most (set_of s ∷ []) (map listed_set now) why → IsUnlistedFor most (sets_of sets) (map listed_set old) why
  gathering_stops now i s within is h why u =
      let parts : take i (sets_of sets) ++ (set_of s ∷ [] ++ drop (i + 1) (sets_of sets)) ≡ sets_of sets =
      sym (append_assoc (take i (sets_of sets)) (set_of s ∷ []) (drop (i + 1) (sets_of sets)))
      ∙ (ap (λ l. l ++ drop (i + 1) (sets_of sets)) (sym (first_sets sets i s within is)) ∙ take-append-drop (i + 1) (sets_of sets)) in
      subst (λ (l : List PricedSet). IsUnlistedFor most l (map listed_set old) why) parts
      (unlisted_later most (take i (sets_of sets)) (set_of s ∷ []) (drop (i + 1) (sets_of sets)) (map listed_set old) (map listed_set now) why h.grown u)
