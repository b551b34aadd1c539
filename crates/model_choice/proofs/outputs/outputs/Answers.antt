-- One name more.
use Rattle.std.proofs.Common.{◌≡◌, ℕ, ◌+◌, ◌&&◌, Bool, [], ◌∷◌, ◌++◌, if◌then◌else◌, filter, get_or, length, map, take, sym, ap, ap₂, ◌∙◌, arith}
use Rattle.std.proofs.lemmas.List.{get_or-map, length-map, map-id}
use Rattle.std.proofs.lemmas.List.FromFn.{filter_of_map_range_with_len_more}
use Rattle.std.specs.List.{range_with_len}
use Rattle.abel_meaning.specs.Declarations.{is_unnumbered}
use Rattle.abel_meaning.specs.Designs.{no_name}
use Rattle.abel_tree.specs.Entries.{Entry, view_declared}
use Rattle.model_choice.proofs.outputs.outputs.Goals as goal

abbrev is_output : Entry → Bool
is_output x = x.assigned && is_unnumbered x.kind

pub loop-number-preserved : goal.loop-number-preserved
loop-number-preserved c =
    let l = c.loop-number in
    let names = c.args.names.now in
    let test : ℕ → Bool = λ s. is_output (get_or (map view_declared names) s no_name) in
    let here : get_or (map view_declared names) l.number no_name ≡ view_declared c.index-names-number.result =
    get_or-map view_declared names l.number c.index-names-number.result no_name c.loop-number-test.true ∙ ap view_declared (sym c.index-names-number.is) in
    let says : c.is_output.result ≡ test l.number = c.is_output.ensures ∙ ap is_output (sym here) in
    c.in_ok-add_if.ensures
    ∙ (ap₂ (λ ys b. ys ++ (if b then l.number ∷ [] else [])) l.invariant says
    ∙ sym (filter_of_map_range_with_len_more test (λ s. s) 0 l.number l.number (omega arith)))

pub returns : goal.returns
returns c =
    let l = c.loop-number in
    let names = c.args.names.now in
    let test : ℕ → Bool = λ s. is_output (get_or (map view_declared names) s no_name) in
    let long = length-map names view_declared in
    let count : l.number ≡ length (map view_declared names) = let end = l.auto.number-end in omega (arith, long, end, c.loop-number-test.false) in
    c.truncate.ensures.items
    ∙ ap (take 8) (l.invariant ∙ ap (filter test) (map-id (range_with_len 0 l.number) ∙ ap (range_with_len 0) count))
