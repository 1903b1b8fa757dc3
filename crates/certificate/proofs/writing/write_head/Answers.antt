use Rattle.std.proofs.Common.{◌≡◌, ℕ, List, ◌++◌, codes, map, sym, ap, ◌∙◌}
use Rattle.std.specs.List.{flat_map}
use Rattle.std.proofs.lemmas.List.Folds.{flat_map-map}
use Rattle.tenths.specs.Text.{tenths_text, line}
use Rattle.solomon_reader.specs.SetPrices as shared
use Rattle.solomon_reader.specs.SubsetRows as shared_rows
use Rattle.solomon_reader.specs.Bound.{listed_sets, listed_rows}
use Rattle.solomon_reader.specs.CertificateText.{Content, first_line}
use Rattle.certificate.specs.declared.sets.ListedSet.{ListedSet}
use Rattle.certificate.specs.declared.rows.SubsetRow.{SubsetRow}
use Rattle.certificate.specs.Text.{content_of, listed_set_of, row_of, name_lines, set_text, row_text}
use Rattle.certificate.proofs.Texts.{head_parts}
use Rattle.tenths.proofs.Writes.{writes_err, writes_then, takes_then, fails_then, fails_first}
use Rattle.certificate.proofs.writing.write_head.Goals as goal

abbrev names : Content → List ℕ
names x = first_line x.version ++ flat_map line (name_lines x)

abbrev bound : Content → List ℕ
bound x = line (codes "BOUND " ++ tenths_text x.bound)

abbrev sets : Content → List ℕ
sets x = flat_map line (map set_text (listed_sets x.version))

abbrev rows : Content → List ℕ
rows x = flat_map line (map row_text (listed_rows x.version))

-- the lines of the code's sets are those of the version's
sets_same : (x : Content) (found : List ListedSet) → map listed_set_of found ≡ listed_sets x.version → flat_map (λ s. line (set_text (listed_set_of s))) found ≡ sets x
sets_same x found e =
    sym (flat_map-map (λ s. line (set_text s)) listed_set_of found) ∙ ap (λ (w : List shared.ListedSet). flat_map (λ s. line (set_text s)) w) e ∙ sym (flat_map-map line set_text (listed_sets x.version))

rows_same : (x : Content) (found : List SubsetRow) → map row_of found ≡ listed_rows x.version → flat_map (λ s. line (row_text (row_of s))) found ≡ rows x
rows_same x found e =
    sym (flat_map-map (λ s. line (row_text s)) row_of found) ∙ ap (λ (w : List shared_rows.SubsetRow). flat_map (λ s. line (row_text s)) w) e ∙ sym (flat_map-map line row_text (listed_rows x.version))

pub returns-in_err-write_names : goal.returns-in_err-write_names
returns-in_err-write_names g c =
    let x = content_of c.args.parts.now in
    writes_err c.from_residual.result _ _ _ c.from_residual.ensures.0
    (rw (head_parts x) (fails_first _ _ (((names x ++ bound x) ++ sets x) ++ rows x) (codes "TREE\n") (fails_first _ _ ((names x ++ bound x) ++ sets x) (rows x)
    (fails_first _ _ (names x ++ bound x) (sets x) (fails_first _ _ (names x) (bound x) c.in_err-write_names.ensures)))))

pub returns-in_err-write_tenths_line : goal.returns-in_err-write_tenths_line
returns-in_err-write_tenths_line g c =
    let x = content_of c.args.parts.now in
    writes_err c.from_residual-in_err-write_tenths_line.result _ _ _ c.from_residual-in_err-write_tenths_line.ensures.0
    (rw (head_parts x) (fails_first _ _ (((names x ++ bound x) ++ sets x) ++ rows x) (codes "TREE\n") (fails_first _ _ ((names x ++ bound x) ++ sets x) (rows x)
    (fails_first _ _ (names x ++ bound x) (sets x) (fails_then _ _ _ (names x) (bound x) c.in_ok-write_names.ensures c.in_err-write_tenths_line.ensures)))))

pub returns-in_err-write_sets : goal.returns-in_err-write_sets
returns-in_err-write_sets g c =
    let x = content_of c.args.parts.now in
    let first = takes_then _ _ _ (names x) (bound x) c.in_ok-write_names.ensures c.in_ok-write_tenths_line.ensures in
    let now = rw (sets_same x c.sets.result.now c.sets.ensures) at c.in_err-write_sets.ensures in
    writes_err c.from_residual-in_err-write_sets.result _ _ _ c.from_residual-in_err-write_sets.ensures.0
    (rw (head_parts x) (fails_first _ _ (((names x ++ bound x) ++ sets x) ++ rows x) (codes "TREE\n") (fails_first _ _ ((names x ++ bound x) ++ sets x) (rows x)
    (fails_then _ _ _ (names x ++ bound x) (sets x) first now))))

pub returns-in_err-write_rows : goal.returns-in_err-write_rows
returns-in_err-write_rows g c =
    let x = content_of c.args.parts.now in
    let first = takes_then _ _ _ (names x) (bound x) c.in_ok-write_names.ensures c.in_ok-write_tenths_line.ensures in
    let second = takes_then _ _ _ (names x ++ bound x) (sets x) first (rw (sets_same x c.sets.result.now c.sets.ensures) at c.in_ok-write_sets.ensures) in
    let now = rw (rows_same x c.rows.result.now c.rows.ensures) at c.in_err-write_rows.ensures in
    writes_err c.from_residual-in_err-write_rows.result _ _ _ c.from_residual-in_err-write_rows.ensures.0
    (rw (head_parts x) (fails_first _ _ (((names x ++ bound x) ++ sets x) ++ rows x) (codes "TREE\n") (fails_then _ _ _ ((names x ++ bound x) ++ sets x) (rows x) second now)))

pub returns : goal.returns
returns g c =
    let x = content_of c.args.parts.now in
    let first = takes_then _ _ _ (names x) (bound x) c.in_ok-write_names.ensures c.in_ok-write_tenths_line.ensures in
    let second = takes_then _ _ _ (names x ++ bound x) (sets x) first (rw (sets_same x c.sets.result.now c.sets.ensures) at c.in_ok-write_sets.ensures) in
    let third = takes_then _ _ _ ((names x ++ bound x) ++ sets x) (rows x) second (rw (rows_same x c.rows.result.now c.rows.ensures) at c.in_ok-write_rows.ensures) in
    rw (head_parts x) (writes_then c.write_text.result _ _ _ (((names x ++ bound x) ++ sets x) ++ rows x) (codes "TREE\n") third c.write_text.ensures)
