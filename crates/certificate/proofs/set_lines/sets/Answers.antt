use Rattle.std.proofs.lemmas.Result.{err_from_is_err_and}
use Rattle.std.proofs.lemmas.List.{map-append, length_push}
use Rattle.std.proofs.Common.{◌≡◌, ℕ, ◌-◌, suc, true, false, List, Option, None, Result, sym, ◌∙◌, map, length, arith, [], ◌∷◌, ◌++◌}
use Rattle.std.specs.Prelude.{codes}
use Rattle.tenths.specs.Parts.{parts}
use Rattle.solomon_reader.specs.declared.limits.TheConstants.{MOST_SETS}
use Rattle.solomon_reader.specs.SetPrices.{ListedSet}
use Rattle.certificate.specs.declared.fault.CertFault.{CertFault}
use Rattle.certificate.specs.declared.fault.CertFault.TheVariants.{TooManySets}
use Rattle.certificate.specs.Lines.{here}
use Rattle.certificate.specs.Reading.{begins, set_in, sets_at}
use Rattle.certificate.specs.Text.{listed_set_of}
use Rattle.certificate.proofs.Loops.{items_end, items_fail, items_full, items_cut, items_more}
use Rattle.certificate.proofs.set_lines.sets.Goals as goal

abbrev item : ℕ → Option ListedSet → ℕ → List (List ℕ) → Result ListedSet CertFault
item n = λ before k ws. set_in n k ws

abbrev full : ℕ → CertFault
full k = TooManySets k

abbrev seen : ListedSet → Option ListedSet
seen = λ s. None

pub returns-in_err-set : goal.returns-in_err-set
returns-in_err-set c =
    let p = err_from_is_err_and c.from_residual.result c.from_residual.ensures.1 in
    let l = c.loop-alloc in
    let n = c.args.size in
    let first : begins (codes "S") (parts 32 l.line.text.now) ≡ true = sym c.begins.ensures ∙ c.loop-alloc-test.true in
    rw (p.1, p.2) (λ ne. items_fail (codes "S") (item n) full seen (map listed_set_of l.sets.items) None (here l.line l.lines) (sets_at n (here c.args.first c.args.lines.now)) first
    (MOST_SETS - length l.sets.items) c.in_err-set.field-0.0 (c.in_err-set.ensures ne) l.invariant.1)

pub returns-then-len : goal.returns-then-len
returns-then-len c =
    let l = c.loop-alloc in
    let n = c.args.size in
    let first : begins (codes "S") (parts 32 l.line.text.now) ≡ true = sym c.begins.ensures ∙ c.loop-alloc-test.true in
    let none : MOST_SETS - length l.sets.items ≡ 0 = omega (arith, c.if-len.true, c.len.ensures) in
    λ ne. items_full (codes "S") (item n) full seen (map listed_set_of l.sets.items) None (here l.line l.lines) (sets_at n (here c.args.first c.args.lines.now)) first
    (MOST_SETS - length l.sets.items) (listed_set_of c.in_ok-set.set) none c.in_ok-set.ensures l.invariant.1

pub returns-in_err-line : goal.returns-in_err-line
returns-in_err-line c =
    let p = err_from_is_err_and c.from_residual-in_err-line.result c.from_residual-in_err-line.ensures.1 in
    let l = c.loop-alloc in
    let n = c.args.size in
    let first : begins (codes "S") (parts 32 l.line.text.now) ≡ true = sym c.begins.ensures ∙ c.loop-alloc-test.true in
    let less = MOST_SETS - length l.sets.items - 1 in
    let some : MOST_SETS - length l.sets.items ≡ suc less = omega (arith, c.if-len.false, c.len.ensures) in
    rw (p.1, p.2) (λ ne. items_cut (codes "S") (item n) full seen (map listed_set_of l.sets.items) None (here l.line l.lines) (sets_at n (here c.args.first c.args.lines.now)) first
    (MOST_SETS - length l.sets.items) less (listed_set_of c.in_ok-set.set) c.in_err-line.field-0.0 some c.in_ok-set.ensures (c.in_err-line.ensures ne) l.invariant.1)

pub loop-alloc-preserved : goal.loop-alloc-preserved
loop-alloc-preserved c =
    let l = c.loop-alloc in
    let n = c.args.size in
    let first : begins (codes "S") (parts 32 l.line.text.now) ≡ true = sym c.begins.ensures ∙ c.loop-alloc-test.true in
    let more = length_push l.sets.items c.in_ok-set.set in
    let some : MOST_SETS - length l.sets.items ≡ suc (MOST_SETS - length (l.sets.items ++ (c.in_ok-set.set ∷ []))) = omega (arith, c.if-len.false, c.len.ensures, more) in
    rw (c.in_ok-push.ensures.items, map-append) (
      omega (arith, c.if-len.false, c.len.ensures, more),
      items_more (codes "S") (item n) full seen (map listed_set_of l.sets.items) None (here l.line l.lines) (sets_at n (here c.args.first c.args.lines.now)) first
          (MOST_SETS - length l.sets.items) (MOST_SETS - length (l.sets.items ++ (c.in_ok-set.set ∷ []))) (listed_set_of c.in_ok-set.set) (here c.in_ok-line.line c.next_line.new.lines) some
          c.in_ok-set.ensures c.in_ok-line.ensures l.invariant.1,
    )

pub returns : goal.returns
returns c =
    let l = c.loop-alloc in
    let n = c.args.size in
    let first : begins (codes "S") (parts 32 l.line.text.now) ≡ false = sym c.begins.ensures ∙ c.loop-alloc-test.false in
    items_end (codes "S") (item n) full seen (map listed_set_of l.sets.items) None (here l.line l.lines) (sets_at n (here c.args.first c.args.lines.now))
    (MOST_SETS - length l.sets.items) first l.invariant.1
