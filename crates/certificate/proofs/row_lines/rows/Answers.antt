use Rattle.std.proofs.lemmas.Result.{err_from_is_err_and}
use Rattle.std.proofs.lemmas.List.{map-append, length_push}
use Rattle.std.proofs.Common.{◌≡◌, ℕ, ◌-◌, suc, true, false, List, Option, Some, Result, sym, ◌∙◌, map, length, arith, [], ◌∷◌, ◌++◌}
use Rattle.std.specs.Prelude.{codes}
use Rattle.std.specs.Option.{option_map}
use Rattle.tenths.specs.Parts.{parts}
use Rattle.solomon_reader.specs.declared.limits.TheConstants.{MOST_ROWS}
use Rattle.solomon_reader.specs.SubsetRows.{SubsetRow}
use Rattle.certificate.specs.declared.fault.CertFault.{CertFault}
use Rattle.certificate.specs.declared.fault.CertFault.TheVariants.{TooManyRows}
use Rattle.certificate.specs.Lines.{here}
use Rattle.certificate.specs.Reading.{begins, row_in, rows_at}
use Rattle.certificate.specs.Text.{row_of}
use Rattle.certificate.proofs.Loops.{items_end, items_fail, items_full, items_cut, items_more}
use Rattle.certificate.proofs.row_lines.rows.Goals as goal

abbrev item : ℕ → Option SubsetRow → ℕ → List (List ℕ) → Result SubsetRow CertFault
item n = λ before k ws. row_in n before k ws

abbrev full : ℕ → CertFault
full k = TooManyRows k

abbrev seen : SubsetRow → Option SubsetRow
seen = λ s. Some s

pub returns-in_err-row : goal.returns-in_err-row
returns-in_err-row c =
    let p = err_from_is_err_and c.from_residual.result c.from_residual.ensures.1 in
    let l = c.loop-alloc in
    let n = c.args.size in
    let first : begins (codes "R") (parts 32 l.line.text.now) ≡ true = sym c.begins.ensures ∙ c.loop-alloc-test.true in
    rw (p.1, p.2) (λ ne. items_fail (codes "R") (item n) full seen (map row_of l.rows.items) (option_map row_of c.loop-alloc.before) (here l.line l.lines) (rows_at n (here c.args.first c.args.lines.now)) first
    (MOST_ROWS - length l.rows.items) c.in_err-row.field-0.0 (c.in_err-row.ensures ne) l.invariant.1)

pub returns-then-len : goal.returns-then-len
returns-then-len c =
    let l = c.loop-alloc in
    let n = c.args.size in
    let first : begins (codes "R") (parts 32 l.line.text.now) ≡ true = sym c.begins.ensures ∙ c.loop-alloc-test.true in
    let none : MOST_ROWS - length l.rows.items ≡ 0 = omega (arith, c.if-len.true, c.len.ensures) in
    λ ne. items_full (codes "R") (item n) full seen (map row_of l.rows.items) (option_map row_of c.loop-alloc.before) (here l.line l.lines) (rows_at n (here c.args.first c.args.lines.now)) first
    (MOST_ROWS - length l.rows.items) (row_of c.in_ok-row.row) none c.in_ok-row.ensures l.invariant.1

pub returns-in_err-line : goal.returns-in_err-line
returns-in_err-line c =
    let p = err_from_is_err_and c.from_residual-in_err-line.result c.from_residual-in_err-line.ensures.1 in
    let l = c.loop-alloc in
    let n = c.args.size in
    let first : begins (codes "R") (parts 32 l.line.text.now) ≡ true = sym c.begins.ensures ∙ c.loop-alloc-test.true in
    let less = MOST_ROWS - length l.rows.items - 1 in
    let some : MOST_ROWS - length l.rows.items ≡ suc less = omega (arith, c.if-len.false, c.len.ensures) in
    rw (p.1, p.2) (λ ne. items_cut (codes "R") (item n) full seen (map row_of l.rows.items) (option_map row_of c.loop-alloc.before) (here l.line l.lines) (rows_at n (here c.args.first c.args.lines.now)) first
    (MOST_ROWS - length l.rows.items) less (row_of c.in_ok-row.row) c.in_err-line.field-0.0 some c.in_ok-row.ensures (c.in_err-line.ensures ne) l.invariant.1)

pub loop-alloc-preserved : goal.loop-alloc-preserved
loop-alloc-preserved c =
    let l = c.loop-alloc in
    let n = c.args.size in
    let first : begins (codes "R") (parts 32 l.line.text.now) ≡ true = sym c.begins.ensures ∙ c.loop-alloc-test.true in
    let more = length_push l.rows.items c.in_ok-row.row in
    let some : MOST_ROWS - length l.rows.items ≡ suc (MOST_ROWS - length (l.rows.items ++ (c.in_ok-row.row ∷ []))) = omega (arith, c.if-len.false, c.len.ensures, more) in
    rw (c.in_ok-push.ensures.items, map-append) (
      omega (arith, c.if-len.false, c.len.ensures, more),
      items_more (codes "R") (item n) full seen (map row_of l.rows.items) (option_map row_of c.loop-alloc.before) (here l.line l.lines) (rows_at n (here c.args.first c.args.lines.now)) first
          (MOST_ROWS - length l.rows.items) (MOST_ROWS - length (l.rows.items ++ (c.in_ok-row.row ∷ []))) (row_of c.in_ok-row.row) (here c.in_ok-line.line c.next_line.new.lines) some
          c.in_ok-row.ensures c.in_ok-line.ensures l.invariant.1,
    )

pub returns : goal.returns
returns c =
    let l = c.loop-alloc in
    let n = c.args.size in
    let first : begins (codes "R") (parts 32 l.line.text.now) ≡ false = sym c.begins.ensures ∙ c.loop-alloc-test.false in
    items_end (codes "R") (item n) full seen (map row_of l.rows.items) (option_map row_of c.loop-alloc.before) (here l.line l.lines) (rows_at n (here c.args.first c.args.lines.now))
    (MOST_ROWS - length l.rows.items) first l.invariant.1
