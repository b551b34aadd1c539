-- A constant reads what its names read.
use Rattle.std.proofs.Common.{◌≡◌, Option, None, Some, map, ap, ◌∙◌}
use Rattle.design_checks.proofs.Common.{flat_map, Extension, view, term_of, view_use, first_read, positions_of, read_of, reads_used}
use Rattle.abel_tree.specs.declared.words.Extension.TheVariants as extension
use Rattle.design_checks.proofs.LearntName.{kept_is}
use Rattle.design_checks.proofs.UsesRead.{names_are_read}
use Rattle.design_checks.proofs.learning.constant_uses.Goals as goal

pub returns : goal.returns
returns c d knows =
    let r = c.args.names.now.rule in
    let t = view c.args.expr.now in
    let named = ap (map view_use) c.as_slice-list.ensures.value ∙ c.in_ok-uses.ensures in
    let same : (e : Option Extension) → first_read r d (flat_map (reads_used d.known e) (map view_use c.as_slice-list.result.now)) ≡ read_of r d (term_of d.known t) e =
    λ e. ap (λ us. first_read r d (flat_map (reads_used d.known e) us)) named ∙ ap (first_read r d) (names_are_read d.known e t) in
    kept_is (read_of r d (term_of d.known t)) _ _ _ _ _ _ _ _ _ (positions_of d (term_of d.known t)) _
    (c.in_ok-first_in.ensures d knows ∙ same None)
    (c.in_ok-first_in-2.ensures d knows ∙ same (Some extension.Q))
    (c.in_ok-first_in-3.ensures d knows ∙ same (Some extension.Fb))
    (c.in_ok-first_in-4.ensures d knows ∙ same (Some extension.Pin))
    (c.in_ok-first_in-5.ensures d knows ∙ same (Some extension.Clk))
    (c.in_ok-first_in-6.ensures d knows ∙ same (Some extension.Oe))
    (c.in_ok-first_in-7.ensures d knows ∙ same (Some extension.Ar))
    (c.in_ok-first_in-8.ensures d knows ∙ same (Some extension.Sp))
    (c.in_ok-first_in-9.ensures d knows ∙ same (Some extension.D))
    (c.in_ok-positions_of.ensures d knows)
