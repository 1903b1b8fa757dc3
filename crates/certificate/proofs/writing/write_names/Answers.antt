use Rattle.std.proofs.Common.{rules, ◌≡◌, ℕ, List, [], ◌∷◌, ◌++◌, codes, decimal, sym, ap, ◌∙◌, append_assoc, subst}
use Rattle.std.specs.List.{flat_map}
use Rattle.tenths.specs.Sink.{Writes}
use Rattle.tenths.specs.Text.{line}
use Rattle.solomon_reader.specs.CertificateText.{Content, first_line}
use Rattle.certificate.specs.Text.{version_of, content_of, name_lines}
use Rattle.certificate.proofs.writing.write_names.Goals as goal
use Rattle.certificate.proofs.writing.write_names.Goals.{in-One, in-Two, in-WithSets, in-WithRows}

-- the pieces that are written, one after another
pieces : List ℕ → List ℕ → List ℕ → List ℕ
pieces name size neighbours = codes "INSTANCE " ++ (name ++ (codes "\nCUSTOMERS " ++ (size ++ (codes "\nNEIGHBOURS " ++ (neighbours ++ codes "\n")))))

line_then : (text w rest : List ℕ) → line (text ++ w) ++ rest ≡ text ++ (w ++ (10 ∷ rest))
line_then text w rest = append_assoc (text ++ w) (10 ∷ []) rest ∙ append_assoc text w (10 ∷ rest)

lines-pieces : (name size neighbours : List ℕ)
    → line (codes "INSTANCE " ++ name) ++ (line (codes "CUSTOMERS " ++ size) ++ (line (codes "NEIGHBOURS " ++ neighbours) ++ [])) ≡ pieces name size neighbours
unfolding pieces
lines-pieces name size neighbours =
    let third = line (codes "NEIGHBOURS " ++ neighbours) ++ [] in
    let second = line (codes "CUSTOMERS " ++ size) ++ third in
    line_then (codes "INSTANCE ") name second
    ∙ ap (λ (w : List ℕ). codes "INSTANCE " ++ (name ++ (10 ∷ w)))
    (line_then (codes "CUSTOMERS ") size third ∙ ap (λ (w : List ℕ). codes "CUSTOMERS " ++ (size ++ (10 ∷ w))) (line_then (codes "NEIGHBOURS ") neighbours []))

pieces-are-lines : (x : Content) (name size neighbours : List ℕ) → name ≡ x.name → size ≡ decimal x.size → neighbours ≡ decimal x.neighbours
    → pieces name size neighbours ≡ flat_map line (name_lines x)
pieces-are-lines x name size neighbours a b c = rw (a, b, c) (sym (lines-pieces x.name (decimal x.size) (decimal x.neighbours)))

pub returns : goal.returns
unfolding pieces
returns g c =
    let first : c.match-parts.first.now ≡ first_line (version_of c.args.parts.now.version) = elim c.match-parts.branch [
      | in-One w ↦ search rules
      | in-Two w ↦ search rules
      | in-WithSets w ↦ search rules
      | in-WithRows w ↦ search rules
    ] in
    subst (λ (w : List ℕ). Writes (g.W.Sink.held c.args.sink.now) (g.W.Sink.held c.write_pieces.new.sink) c.write_pieces.result w)
    (ap (λ (w : List ℕ). w ++ pieces c.as_slice.result.now c.as_bytes.result.now c.as_bytes-2.result.now) first
    ∙ ap (λ (w : List ℕ). first_line (version_of c.args.parts.now.version) ++ w)
    (pieces-are-lines (content_of c.args.parts.now) c.as_slice.result.now c.as_bytes.result.now c.as_bytes-2.result.now
    c.as_slice.ensures.value (c.as_bytes.ensures.value ∙ c.format.ensures.text) (c.as_bytes-2.ensures.value ∙ c.format-2.ensures.text)))
    c.write_pieces.ensures
