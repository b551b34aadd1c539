-- Whether a source has vectors, by its sections.
use Rattle.std.proofs.Common.{◌++◌, ◌∷◌, [], Bool, if◌then◌else◌, sym, ap, ◌∙◌}
use Rattle.std.proofs.lemmas.List.{append-nil}
use Rattle.reports.specs.Warnings.{warned}
use Rattle.reports.specs.declared.warning.Cause.TheVariants.{NoVectors}
use Rattle.reports.proofs.WarnedNames.{any_sections}
use Rattle.reports.proofs.whole.find_no_vectors.Goals as goal

pub returns-in_ok-add : goal.returns-in_ok-add
returns-in_ok-add c =
    let m = c.args.module.now in
    let found = c.args.found.now in
    c.in_ok-add.ensures
    ∙ ap (λ (b : Bool). found ++ (if b then [] else warned NoVectors m.place [] ∷ []))
    (sym c.if-not-has_vectors.true ∙ any_sections m.sections c.as_slice.result.now c.has_vectors.result c.as_slice.ensures c.has_vectors.ensures)

pub returns-else-not-has_vectors : goal.returns-else-not-has_vectors
returns-else-not-has_vectors c =
    let m = c.args.module.now in
    let found = c.args.found.now in
    sym (append-nil found)
    ∙ ap (λ (b : Bool). found ++ (if b then [] else warned NoVectors m.place [] ∷ []))
    (sym c.if-not-has_vectors.false ∙ any_sections m.sections c.as_slice.result.now c.has_vectors.result c.as_slice.ensures c.has_vectors.ensures)
