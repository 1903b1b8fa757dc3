use Rattle.std.proofs.Common.{◌≡◌, ℕ, List, [], ◌++◌, codes, decimal, map, sym, ap, ◌∙◌, subst}
use Rattle.std.specs.List.{flat_map}
use Rattle.std.proofs.lemmas.List.{append-nil}
use Rattle.std.proofs.lemmas.List.Folds.{flat_map-map}
use Rattle.tenths.specs.Sink.{Writes}
use Rattle.tenths.specs.Text.{spaced, line}
use Rattle.solomon_reader.specs.SetPrices.{ListedSet}
use Rattle.certificate.specs.Text.{listed_set_of, set_text}
use Rattle.certificate.proofs.writing.write_set.Goals as goal

-- the pieces that are written, and the line
written : (s : ListedSet) (need members : List ℕ) → need ≡ decimal s.need → members ≡ s.members
    → line ((codes "S " ++ (need ++ [])) ++ flat_map (λ n. spaced (decimal n)) members) ≡ line (set_text s)
written s need members e f =
    let front : need ++ [] ≡ decimal s.need = append-nil need ∙ e in
    ap (λ (w : List ℕ). line ((codes "S " ++ w) ++ flat_map (λ n. spaced (decimal n)) members)) front
    ∙ ap (λ (w : List ℕ). line ((codes "S " ++ decimal s.need) ++ w)) (sym (flat_map-map spaced decimal members) ∙ ap (λ (w : List ℕ). flat_map spaced (map decimal w)) f)

pub returns : goal.returns
returns g c =
    subst (λ (w : List ℕ). Writes (g.W.Sink.held c.args.sink.now) (g.W.Sink.held c.write_number_line.new.sink) c.write_number_line.result w)
    (written (listed_set_of c.args.set.now) c.as_bytes.result.now c.as_slice-members.result.now (c.as_bytes.ensures.value ∙ c.format.ensures.text) c.as_slice-members.ensures.value) c.write_number_line.ensures
