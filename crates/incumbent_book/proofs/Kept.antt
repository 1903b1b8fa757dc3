-- A book stays a book when an event is added. Which demands a call meets, one after the other.
use Rattle.std.proofs.Common.{◌≡◌, ℕ, zero, suc, ◌+◌, ◌<◌, ◌≤◌, true, false, List, [], ◌∷◌, ◌++◌, Option, Some, None, Result, Ok, Err, length, refl, ap, sym, subst, ◌∙◌, ◌⊎◌, arith, inl, inr, length-append}
use Rattle.std.specs.Prelude.{slice_get, slice_set, option_map, map}
use Rattle.std.specs.List.{AllByRecursion}
use Rattle.std.specs.Result.{OnOk}
use Rattle.std.proofs.lemmas.Bool.{cases_eq, cases_lt}
use Rattle.std.proofs.lemmas.Option.{slice_get-map, get_or_from_slice_get, slice_get_past}
use Rattle.std.proofs.lemmas.List.{map-set, map-append}
use Rattle.std.proofs.Math.ListN.{length-map}
use Rattle.solomon_reader.specs.Problem.{Problem, customer_count}
use Rattle.solomon_reader.specs.Region.{Among}
use Rattle.solomon_reader.specs.AmongLaws.{weaker, among_all}
use Rattle.solomon_reader.specs.SetPrices.{ListedSet, PricedSet, listed_of}
use Rattle.solomon_reader.specs.SubsetRows.{SubsetRow, PricedRow}
use Rattle.solomon_reader.specs.CertificateText.{IsListedRow}
use Rattle.priced_sets.specs.Sets.{MayBeListed}
use Rattle.solomon_reader.specs.Plan.{Arc as Pair}
use Rattle.schedule.specs.Solution.{Solution, IsSolution}
use Rattle.branching.specs.declared.arc.Arc.{Arc}
use Rattle.branching.specs.Arcs.{pair}
use Rattle.prices.specs.ValuedPrices.{ValuedPrices, IsValued}
use Rattle.solomon_reader.specs.History.{Limits, IsLeaf, IsCheaper, value_of, depth_of, split_count, used_number, unused_number}
use Rattle.incumbent_book.specs.Contents.{Contents, OwnPrices, own_prices, no_prices, IsBook, IsListing, IsRowListing, Lists, LacksRoom, LacksRowRoom, AreListed, AreRowsListed, bare, pricing_at}
use Rattle.incumbent_book.specs.Faults.{IsAccepted, reprice, split, Call, LacksRoomFor, LacksRowRoomFor, MeetsBelow, IsLowestFault, IsRefusedFor, IsFirstFault}
use Rattle.incumbent_book.specs.Replies.{opened, IsRoot, AreOpen, with_offer, with_incumbent, with_prices, with_split}
use Rattle.incumbent_book.specs.SetLists.{IsGrown}
use Rattle.incumbent_book.specs.RowLists.{IsRowGrown}
use Rattle.incumbent_book.specs.Growing.{AreUnlistedFor}
use Rattle.incumbent_book.specs.Arena.{open_leaf, leaf_at, new_leaf, prices_of, StandsAt}
use Rattle.incumbent_book.specs.Keeping.{IsConsistent, IsLeafOf}
use Rattle.incumbent_book.specs.declared.fault.BookFault.TheVariants.{ForeignInstance, JournalFull, NotALeaf, WrongRegion, NotHigher, Lower, LeavesFull, TooDeep, Memory, SetsFull, RowsFull}
use Rattle.incumbent_book.specs.declared.node.Leaf.{Leaf}
use Rattle.incumbent_book.specs.declared.node.Node.{Node}
use Rattle.incumbent_book.specs.declared.node.Node.TheVariants.{Open, Split}
use Rattle.incumbent_book.specs.declared.fault.BookFault.{BookFault}
use Rattle.incumbent_book.proofs.Histories.{best-better, best-kept, which_number, same_depth, used_depth, unused_depth}
use Rattle.incumbent_book.proofs.SetLists.{still_listed, all_both, all_left, all_right}
use Rattle.incumbent_book.proofs.Leaves.{get_set_same, get_set_other, get_front, get_behind, leaf_within}
use Rattle.incumbent_book.proofs.Trees.{open_node, open_at, leaf_is, leaf_there, no_leaf, after_offer, after_prices, after_split}

-- what is added to a list may be listed, where that holds of the sets
known_after : (p : Problem) (listed : List ListedSet) (sets : List PricedSet) (more : List ListedSet) → AllByRecursion (MayBeListed p) listed
    → AllByRecursion (λ s. MayBeListed p (listed_of s)) sets → IsListing listed sets more → AllByRecursion (MayBeListed p) (listed ++ more)
known_after p listed sets more before may listing =
    all_both (MayBeListed p) listed more before
    (weaker (λ l. (¬ Among l listed) × Among l (map listed_of sets)) (MayBeListed p) (λ l k. among_all (MayBeListed p) (map listed_of sets) (all_mapped p sets may) l k.1) more listing.only.are)
  where
    all_mapped : (p : Problem) (sets : List PricedSet) → AllByRecursion (λ s. MayBeListed p (listed_of s)) sets → AllByRecursion (MayBeListed p) (map listed_of sets)
    all_mapped p [] h = tt
    all_mapped p (s ∷ sets) h = (h.0, all_mapped p sets h.1)

-- so it is with rows
rows_known_after : (n : ℕ) (old more new : List SubsetRow) → AllByRecursion (IsListedRow n) old → AllByRecursion (IsListedRow n) more → IsRowListing old more new
    → AllByRecursion (IsListedRow n) new
rows_known_after n old more new before may listing =
    weaker (λ r. Among r old ⊎ Among r more) (IsListedRow n) (λ r from. elim from [ inl a ↦ among_all (IsListedRow n) old before r a | inr a ↦ among_all (IsListedRow n) more may r a ]) new listing.only

-- the rows of prices
bare_known : (n : ℕ) (rows : List PricedRow) → AllByRecursion (λ s. IsListedRow n s.row) rows → AllByRecursion (IsListedRow n) (bare rows)
bare_known n [] h = tt
bare_known n (s ∷ rows) h = (h.0, bare_known n rows h.1)

-- rows that were listed stay so
still_there : (old more new rows : List SubsetRow) → IsRowListing old more new → AreRowsListed old rows → AreRowsListed new rows
still_there old more new rows listing h = weaker (λ r. Among r old) (λ r. Among r new) (among_all (λ r. Among r new) old listing.stay) rows h

module _ (b : Contents) (nodes : List Node) (is : IsConsistent b nodes) where
  abbrev n : ℕ
  n = customer_count b.problem

  pub leaf_pricing : (m : ℕ) (leaf : Leaf) → leaf_at nodes m ≡ Some leaf → leaf.priced ≡ pricing_at b m
  leaf_pricing m leaf e =
      let o = open_at b.problem b.neighbours b.root b.past nodes is.arena m leaf e in
      let got : slice_get b.prices m ≡ Some (own_prices leaf.priced) =
      ap (λ (ps : List OwnPrices). slice_get ps m) is.prices ∙ (slice_get-map prices_of nodes m ∙ ap (option_map prices_of) (open_node nodes m leaf e)) in
      let own = sym (get_or_from_slice_get b.prices m (own_prices leaf.priced) no_prices got) in
      λ i. record { problem = o.problem i; region = o.region i; neighbours = o.neighbours i; prices = (own i).customers; sets = (own i).sets; rows = (own i).rows; value = o.value i }

  pub kept_book : IsBook b
  kept_book = record {
    legal = is.legal;
    limits = is.limits;
    within = is.within;
    plan = is.plan;
    best = is.best;
    count = ap (λ (ps : List OwnPrices). length ps) is.prices ∙ (length-map nodes prices_of ∙ is.arena.count);
    leaves = λ m at.
        (let l = leaf_there b.problem b.neighbours b.root b.past nodes is.arena m at in
        subst IsValued (leaf_pricing m l.0 l.1) (open_at b.problem b.neighbours b.root b.past nodes is.arena m l.0 l.1).pricing);
    few = is.few;
    known = is.known;
    named = λ m at.
        (let l = leaf_there b.problem b.neighbours b.root b.past nodes is.arena m at in
        subst (λ (f : ValuedPrices). AreListed b.listed f.sets) (leaf_pricing m l.0 l.1) (is.named m l.0 l.1));
    few_rows = is.few_rows;
    rows_known = is.rows_known;
    rows_in_order = is.rows_in_order;
    rows_named = λ m at.
        (let l = leaf_there b.problem b.neighbours b.root b.past nodes is.arena m at in
        subst (λ (f : ValuedPrices). AreRowsListed b.rows (bare f.rows)) (leaf_pricing m l.0 l.1) (is.rows_named m l.0 l.1));
  }

  -- the leaf that the nodes have at a number is that of the book
  pub kept_leaf : (m : ℕ) (found : Option Leaf) → found ≡ leaf_at nodes m → IsLeafOf b m found
  kept_leaf m None e = no_leaf b.problem b.neighbours b.root b.past nodes is.arena m (sym e)
  kept_leaf m (Some leaf) e = (
    leaf_is b.problem b.neighbours b.root b.past nodes is.arena m leaf (sym e),
    leaf_pricing m leaf (sym e),
    (open_at b.problem b.neighbours b.root b.past nodes is.arena m leaf (sym e)).depth,
  )

  -- a leaf is an open node, with this value
  pub kept_open : (m : ℕ) → IsLeaf b.past m → (leaf : Leaf) × (leaf_at nodes m ≡ Some leaf) × (leaf.priced.value ≡ value_of b.root b.past m) × (leaf.depth ≡ depth_of b.past m)
  kept_open m at =
      let l = leaf_there b.problem b.neighbours b.root b.past nodes is.arena m at in
      let o = open_at b.problem b.neighbours b.root b.past nodes is.arena m l.0 l.1 in
      (l.0, l.1, o.value, o.depth)

  pub kept_keep : (worker cost : ℕ) → length b.past < b.limits.events → ¬ IsCheaper b.past cost → IsConsistent (with_offer b worker cost) nodes
  kept_keep worker cost room dearer = record {
    legal = (((λ t. absurd cc), (λ cheaper. absurd (dearer cheaper))), is.legal);
    limits = is.limits;
    within = record { events = omega arith; leaves = is.within.leaves; depth = is.within.depth };
    plan = is.plan;
    best = best-kept b.past worker cost (option_map (λ s. s.cost) b.incumbent) is.best dearer;
    arena = after_offer b.problem b.neighbours b.root b.past nodes is.arena worker cost false;
    prices = is.prices;
    few = is.few;
    known = is.known;
    named = is.named;
    few_rows = is.few_rows;
    rows_known = is.rows_known;
    rows_in_order = is.rows_in_order;
    rows_named = is.rows_named;
  }

  pub kept_replace : (worker : ℕ) (plan : Solution) → length b.past < b.limits.events → IsSolution plan → plan.problem ≡ b.problem
      → IsCheaper b.past plan.cost → IsConsistent (with_incumbent b worker plan) nodes
  kept_replace worker plan room solution same cheaper = record {
    legal = (((λ t. cheaper), (λ c. refl)), is.legal);
    limits = is.limits;
    within = record { events = omega arith; leaves = is.within.leaves; depth = is.within.depth };
    plan = (solution, same);
    best = best-better b.past worker plan.cost cheaper;
    arena = after_offer b.problem b.neighbours b.root b.past nodes is.arena worker plan.cost true;
    prices = is.prices;
    few = is.few;
    known = is.known;
    named = is.named;
    few_rows = is.few_rows;
    rows_known = is.rows_known;
    rows_in_order = is.rows_in_order;
    rows_named = is.rows_named;
  }

  -- what holds of the new prices of a leaf and of all other leaves
  all_raised : (P : ValuedPrices → Type 0) (m : ℕ) (f : ValuedPrices) (old : Leaf) → leaf_at nodes m ≡ Some old → P f → ((j : ℕ) (l : Leaf) → leaf_at nodes j ≡ Some l → P l.priced)
      → (j : ℕ) (l : Leaf) → leaf_at (slice_set nodes m (Open (new_leaf old.depth f))) j ≡ Some l → P l.priced
  all_raised P m f old was new others j l e = elim (cases_eq j m) [
    | inl s ↦
        (let same : Some (new_leaf old.depth f) ≡ Some l =
        ap open_leaf (sym (get_set_same nodes m (Open (new_leaf old.depth f)) (leaf_within nodes m old was))) ∙ (sym (ap (leaf_at (slice_set nodes m (Open (new_leaf old.depth f)))) s) ∙ e) in
        let one : new_leaf old.depth f ≡ l = cc in
        subst (λ (k : Leaf). P k.priced) one new)
    | inr d ↦ others j l (ap open_leaf (sym (get_set_other nodes m j (Open (new_leaf old.depth f)) d)) ∙ e)
  ]

  pub kept_raise : (worker m : ℕ) (f : ValuedPrices) (old : Leaf) → IsAccepted b (reprice m f) → IsValued f → leaf_at nodes m ≡ Some old
      → (more : List ListedSet) → IsListing b.listed f.sets more → length (b.listed ++ more) ≤ b.most_sets
      → (rows : List SubsetRow) → IsRowGrown b.most_rows (bare f.rows) b.rows rows
      → IsConsistent (with_prices b worker m f more rows) (slice_set nodes m (Open (new_leaf old.depth f)))
  kept_raise worker m f old accepted pricing was more listing few rows grown =
      let room = accepted.met JournalFull (omega arith) in
      let at = accepted.met WrongRegion (omega arith) in record {
        legal = (record { leaf = accepted.met NotALeaf (omega arith); higher = accepted.met NotHigher (omega arith) }, is.legal);
        limits = is.limits;
        within = record { events = omega arith; leaves = is.within.leaves; depth = is.within.depth };
        plan = is.plan;
        best = is.best;
        arena =
            after_prices b.problem b.neighbours b.root b.past nodes is.arena worker m old f was (accepted.met ForeignInstance (omega arith)) at.region at.neighbours pricing;
        prices = ap (λ (ps : List OwnPrices). slice_set ps m (own_prices f)) is.prices ∙ sym (map-set prices_of nodes m (Open (new_leaf old.depth f)));
        few = (few, is.few.1);
        known = known_after b.problem b.listed f.sets more is.known (rw (accepted.met ForeignInstance (omega arith)) at pricing.sets_are.listed) listing;
        named = all_raised (λ g. AreListed (b.listed ++ more) g.sets) m f old was listing.all (λ j l e. still_listed b.listed more l.priced.sets (is.named j l e));
        few_rows = (grown.few, is.few_rows.1);
        rows_known = rows_known_after n b.rows (bare f.rows) rows is.rows_known (bare_known n f.rows (rw (accepted.met ForeignInstance (omega arith)) at pricing.rows_are.listed)) grown.listing;
        rows_in_order = grown.listing.in_order;
        rows_named = all_raised (λ g. AreRowsListed rows (bare g.rows)) m f old was grown.listing.all
            (λ j l e. still_there b.rows (bare f.rows) rows (bare l.priced.rows) grown.listing (is.rows_named j l e));
      }

  -- the same with a list that grew
  pub raised_is : (worker m : ℕ) (f : ValuedPrices) (more new : List ListedSet) (rows : List SubsetRow) → new ≡ b.listed ++ more
      → record (with_prices b worker m f [] rows) { listed = new } ≡ with_prices b worker m f more rows
  raised_is worker m f more new rows e = ap (λ (l : List ListedSet). record (with_prices b worker m f [] rows) { listed = l }) e

  pub split_is : (worker m : ℕ) (a : Pair) (x y : ValuedPrices) (more new : List ListedSet) (rows : List SubsetRow) → new ≡ b.listed ++ more
      → record (with_split b worker m a x y [] rows) { listed = new } ≡ with_split b worker m a x y more rows
  split_is worker m a x y more new rows e = ap (λ (l : List ListedSet). record (with_split b worker m a x y [] rows) { listed = l }) e

  -- what holds of the prices at both children and of all other leaves
  all_split : (P : ValuedPrices → Type 0) (m : ℕ) (arc : Arc) (x y : ValuedPrices) (old : Leaf) → leaf_at nodes m ≡ Some old → P x → P y → ((j : ℕ) (l : Leaf) → leaf_at nodes j ≡ Some l → P l.priced)
      → (j : ℕ) (l : Leaf)
      → leaf_at (slice_set nodes m (Split arc (length nodes) (length nodes + 1)) ++ Open (new_leaf (old.depth + 1) x) ∷ Open (new_leaf (old.depth + 1) y) ∷ []) j ≡ Some l
      → P l.priced
  all_split P m arc x y old was at_x at_y others j l e =
      let node : Node = Split arc (length nodes) (length nodes + 1) in
      let front : List Node = slice_set nodes m node in
      let first : Leaf = new_leaf (old.depth + 1) x in
      let second : Leaf = new_leaf (old.depth + 1) y in
      let back : List Node = Open first ∷ Open second ∷ [] in
      elim (cases_lt j (length front)) [
        | inl h ↦
            (let got : leaf_at front j ≡ Some l = ap open_leaf (sym (get_front front back j h)) ∙ e in
            elim (cases_eq j m) [
              | inl s ↦
                  absurd (let none : leaf_at front m ≡ None = ap open_leaf (get_set_same nodes m node (leaf_within nodes m old was)) in
                  let c : None ≡ Some l = sym none ∙ (sym (ap (leaf_at front) s) ∙ got) in cc)
              | inr d ↦ others j l (ap open_leaf (sym (get_set_other nodes m j node d)) ∙ got)
            ])
        | inr h ↦ elim (cases_eq j (length front + 0)) [
          | inl u ↦
              (let same : Some first ≡ Some l = ap open_leaf (sym (get_behind front back j 0 u)) ∙ e in
              let one : first ≡ l = cc in
              subst (λ (k : Leaf). P k.priced) one at_x)
          | inr nu ↦ elim (cases_eq j (length front + 1)) [
            | inl w ↦
                (let same : Some second ≡ Some l = ap open_leaf (sym (get_behind front back j 1 w)) ∙ e in
                let one : second ≡ l = cc in
                subst (λ (k : Leaf). P k.priced) one at_y)
            | inr nw ↦
                (let far : length (front ++ back) ≤ j = omega (arith, length-append front back) in
                absurd (let c : None ≡ Some l = sym (ap open_leaf (slice_get_past (front ++ back) j far)) ∙ e in cc))
          ]
        ]
      ]

  pub kept_split : (worker m : ℕ) (arc : Arc) (x y : ValuedPrices) (old : Leaf) → IsAccepted b (split m (pair arc) x y) → IsValued x → IsValued y → leaf_at nodes m ≡ Some old
      → (more : List ListedSet) → IsListing b.listed (x.sets ++ y.sets) more → length (b.listed ++ more) ≤ b.most_sets
      → (rows : List SubsetRow) → IsRowGrown b.most_rows (bare x.rows ++ bare y.rows) b.rows rows
      → IsConsistent (with_split b worker m (pair arc) x y more rows)
      (slice_set nodes m (Split arc (length nodes) (length nodes + 1)) ++ Open (new_leaf (old.depth + 1) x) ∷ Open (new_leaf (old.depth + 1) y) ∷ [])
  kept_split worker m arc x y old accepted xv yv was more listing few rows grown =
      let room = accepted.met JournalFull (omega arith) in
      let leaves = accepted.met LeavesFull (omega arith) in
      let deep = accepted.met TooDeep (omega arith) in
      let problems = accepted.met ForeignInstance (omega arith) in
      let children = accepted.met WrongRegion (omega arith) in
      let higher = accepted.met Lower (omega arith) in
      let s = split_count b.past in record {
        legal = (
          record {
            leaf = accepted.met NotALeaf (omega arith);
            undecided = children.undecided;
            used = refl;
            unused = refl;
            used_value = higher.0;
            unused_value = higher.1;
          },
          is.legal,
        );
        limits = is.limits;
        within = record {
          events = omega arith;
          leaves = omega arith;
          depth = λ j h. elim (which_number n b.root b.past worker m (pair arc) (used_number s) (unused_number s) x.value y.value j h) [
            | inl made ↦
                omega (arith, same_depth n b.root b.past worker m (pair arc) (used_number s) (unused_number s) x.value y.value j made, is.within.depth j made)
            | inr r ↦ elim r [
              | inl e ↦ omega (arith, used_depth n b.root b.past worker m (pair arc) (used_number s) (unused_number s) x.value y.value j e)
              | inr e ↦ omega (arith, unused_depth n b.root b.past worker m (pair arc) (used_number s) (unused_number s) x.value y.value j e)
            ]
          ];
        };
        plan = is.plan;
        best = is.best;
        arena =
            after_split b.problem b.neighbours b.root b.past nodes is.arena is.legal worker m arc old x y was problems.0 problems.1 children.used.region children.unused.region
            children.used.neighbours children.unused.neighbours xv yv;
        prices = ap (λ (ps : List OwnPrices). slice_set ps m no_prices ++ own_prices x ∷ own_prices y ∷ []) is.prices
            ∙ sym (map-append prices_of (slice_set nodes m (Split arc (length nodes) (length nodes + 1))) (Open (new_leaf (old.depth + 1) x) ∷ Open (new_leaf (old.depth + 1) y) ∷ [])
            ∙ ap (λ (ps : List OwnPrices). ps ++ own_prices x ∷ own_prices y ∷ []) (map-set prices_of nodes m (Split arc (length nodes) (length nodes + 1))));
        few = (few, is.few.1);
        known = known_after b.problem b.listed (x.sets ++ y.sets) more is.known
            (all_both (λ s. MayBeListed b.problem (listed_of s)) x.sets y.sets (rw problems.0 at xv.sets_are.listed) (rw problems.1 at yv.sets_are.listed)) listing;
        named = all_split (λ g. AreListed (b.listed ++ more) g.sets) m arc x y old was
            (all_left (λ s. Among (listed_of s) (b.listed ++ more)) x.sets y.sets listing.all) (all_right (λ s. Among (listed_of s) (b.listed ++ more)) x.sets y.sets listing.all)
            (λ j l e. still_listed b.listed more l.priced.sets (is.named j l e));
        few_rows = (grown.few, is.few_rows.1);
        rows_known = rows_known_after n b.rows (bare x.rows ++ bare y.rows) rows is.rows_known
            (all_both (IsListedRow n) (bare x.rows) (bare y.rows) (bare_known n x.rows (rw problems.0 at xv.rows_are.listed)) (bare_known n y.rows (rw problems.1 at yv.rows_are.listed))) grown.listing;
        rows_in_order = grown.listing.in_order;
        rows_named = all_split (λ g. AreRowsListed rows (bare g.rows)) m arc x y old was
            (all_left (λ r. Among r rows) (bare x.rows) (bare y.rows) grown.listing.all) (all_right (λ r. Among r rows) (bare x.rows) (bare y.rows) grown.listing.all)
            (λ j l e. still_there b.rows (bare x.rows ++ bare y.rows) rows (bare l.priced.rows) grown.listing (is.rows_named j l e));
      }

-- ---- Which demands a call meets, one after the other.

-- a fault that isn't want of memory is what is told
pub told : (b : Contents) (call : Call) (f : BookFault) → IsLowestFault b call f → IsRefusedFor b call f
told b call Memory low = absurd (low.0 tt)
told b call ForeignInstance low = low
told b call JournalFull low = low
told b call NotALeaf low = low
told b call WrongRegion low = low
told b call NotHigher low = low
told b call Lower low = low
told b call LeavesFull low = low
told b call TooDeep low = low
told b call SetsFull low = absurd (low.0 tt)
told b call RowsFull low = absurd (low.0 tt)

-- what was refused for its sets or its rows
unlisted_told : (b : Contents) (call : Call) (sets : List PricedSet) (rows : List SubsetRow) → (LacksRoom b.most_sets b.listed sets → LacksRoomFor b call)
    → (LacksRowRoom b.most_rows b.rows rows → LacksRowRoomFor b call) → (f : BookFault) → IsAccepted b call → AreUnlistedFor b.most_sets b.most_rows sets rows b.listed b.rows f
    → IsRefusedFor b call f
unlisted_told b call sets rows lacks lacks_row Memory accepted u = accepted
unlisted_told b call sets rows lacks lacks_row SetsFull accepted u = (accepted, lacks u)
unlisted_told b call sets rows lacks lacks_row RowsFull accepted u = (accepted, lacks_row u)
unlisted_told b call sets rows lacks lacks_row ForeignInstance accepted u = absurd u
unlisted_told b call sets rows lacks lacks_row JournalFull accepted u = absurd u
unlisted_told b call sets rows lacks lacks_row NotALeaf accepted u = absurd u
unlisted_told b call sets rows lacks lacks_row WrongRegion accepted u = absurd u
unlisted_told b call sets rows lacks lacks_row NotHigher accepted u = absurd u
unlisted_told b call sets rows lacks lacks_row Lower accepted u = absurd u
unlisted_told b call sets rows lacks lacks_row LeavesFull accepted u = absurd u
unlisted_told b call sets rows lacks lacks_row TooDeep accepted u = absurd u

pub unlisted_reprice : (b : Contents) (m : ℕ) (f : ValuedPrices) (why : BookFault) → IsAccepted b (reprice m f)
    → AreUnlistedFor b.most_sets b.most_rows f.sets (bare f.rows) b.listed b.rows why → IsRefusedFor b (reprice m f) why
unlisted_reprice b m f why accepted u = unlisted_told b (reprice m f) f.sets (bare f.rows) (λ l. l) (λ l. l) why accepted u

pub unlisted_split : (b : Contents) (m : ℕ) (a : ℕ × ℕ) (x y : ValuedPrices) (why : BookFault) → IsAccepted b (split m a x y)
    → AreUnlistedFor b.most_sets b.most_rows (x.sets ++ y.sets) (bare x.rows ++ bare y.rows) b.listed b.rows why → IsRefusedFor b (split m a x y) why
unlisted_split b m a x y why accepted u = unlisted_told b (split m a x y) (x.sets ++ y.sets) (bare x.rows ++ bare y.rows) (λ l. l) (λ l. l) why accepted u

pub no_error : {T E P : Type 0} (r : Result T E) → ((e : E) → r ≡ Err e → ⊥) → OnOk r P → P
no_error (Ok x) none holds = holds
no_error (Err e) none holds = absurd (none e refl)

pub none_told : (b : Contents) (call : Call) (r : Option BookFault) → IsFirstFault b call r → ((f : BookFault) → r ≡ Some f → ⊥) → MeetsBelow b call 10
none_told b call None is none = is
none_told b call (Some f) is none = absurd (none f refl)

-- ---- A new book.

new_node : (root : ValuedPrices) (m : ℕ) (node : Node) → slice_get (Open (new_leaf 0 root) ∷ []) m ≡ Some node → (m ≡ 0) × (Open (new_leaf 0 root) ≡ node)
new_node root zero node e = (refl, cc)
new_node root (suc m) node e = absurd (let c : None ≡ Some node = e in cc)

pub kept_new : (root : ValuedPrices) (limits : Limits) (sets rows : ℕ) (lists : Lists) → IsRoot root → AreOpen root limits sets rows → IsValued root → IsGrown sets root.sets [] lists.sets
    → IsRowGrown rows (bare root.rows) [] lists.rows → IsConsistent (opened root limits sets rows lists) (Open (new_leaf 0 root) ∷ [])
kept_new root limits sets rows lists at opens valued grown grown_rows =
    let limited = opens.limits_are in record {
      legal = tt;
      limits = limited;
      within = record { events = omega arith; leaves = omega (arith, limited.leaves.0); depth = λ m h. omega arith };
      plan = tt;
      best = refl;
      arena = record {
        count = refl;
        stand = λ m node e.
            (let n = new_node root m node e in
            subst (StandsAt root.problem root.neighbours root.value [] m) n.1
            (record { whole = refl; depth = refl; problem = refl; region = at; neighbours = refl; value = refl; pricing = valued }));
      };
      prices = refl;
      few = (grown.few, opens.most);
      known = rw grown.is (known_after root.problem [] root.sets grown.more tt valued.sets_are.listed grown.listing);
      named = λ m l e.
          (let n = new_node root m (Open l) (open_node (Open (new_leaf 0 root) ∷ []) m l e) in
          let one : new_leaf 0 root ≡ l = cc in
          subst (λ (k : Leaf). AreListed lists.sets k.priced.sets) one (rw grown.is grown.listing.all));
      few_rows = (grown_rows.few, opens.most_rows);
      rows_known = rows_known_after (customer_count root.problem) [] (bare root.rows) lists.rows tt (bare_known (customer_count root.problem) root.rows valued.rows_are.listed) grown_rows.listing;
      rows_in_order = grown_rows.listing.in_order;
      rows_named = λ m l e.
          (let n = new_node root m (Open l) (open_node (Open (new_leaf 0 root) ∷ []) m l e) in
          let one : new_leaf 0 root ≡ l = cc in
          subst (λ (k : Leaf). AreRowsListed lists.rows (bare k.priced.rows)) one grown_rows.listing.all);
    }
