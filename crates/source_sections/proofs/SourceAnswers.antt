-- The answer for the units of a source, by its module.
use Rattle.std.proofs.Common.{◌≡◌, Bool, false, Option, None, Some, List, [], Result, Ok, Err, OnOk, IfErr, length, map, sym, ap, ap₂, subst, ◌∙◌}
use Rattle.source_sections.proofs.Common.{Table, Names, entries_of, view_decl, view_module, Design, after_declarations, design_for, given_formulas, Walked, Walks, WalksSections, view_sections, source_units, sections_manners, sections_places, arena, earlier, first_refusal, section_order, all_refused, fault_behind, sections_refused, Entry, first_append, constants_refused, SectionFault}
use Rattle.abel_tree.specs.declared.declarations.Decl.{Decl}
use Rattle.abel_tree.specs.declared.sections.Module.{Module}
use Rattle.abel_tree.specs.declared.sections.Section.{Section}
use Rattle.std.specs.Result.{result_err}

-- the design of a module with these names
abbrev pub designed : Table → Names → Module → Design
designed t n m = design_for t (entries_of n) (view_module m)

-- what is walked of the sections is walked of the source
pub source_walked : (t : Table) (n : Names) (m : Module) (list : List Section) (decls : List Decl) (on : Bool) (old new : Walked)
    → list ≡ m.sections → decls ≡ m.decls → on ≡ after_declarations false (map view_decl decls) → WalksSections t n on (view_sections list) old new
    → Walks [] (source_units (designed t n m)) (given_formulas (designed t n m)) (sections_places (designed t n m).context (designed t n m).sections) (sections_manners (designed t n m).context [] (designed t n m).sections) old new
source_walked t n m list decls on old new e k o h =
    let started = subst (λ b. WalksSections t n b (view_sections list) old new) (o ∙ ap (λ ds. after_declarations false (map view_decl ds)) k) h in
    subst (λ xs. WalksSections t n (after_declarations false (map view_decl m.decls)) (view_sections xs) old new) e started

-- the answer of a check of all constants is their first refusal
pub constants_told : (es : List Entry) (r : Result Unit SectionFault) → OnOk r (constants_refused es ≡ []) → IfErr r (λ f. first_refusal section_order (constants_refused es) ≡ Some f) → result_err r ≡ first_refusal section_order (constants_refused es)
constants_told es (Ok t) accepted refused = ap (first_refusal section_order) (sym accepted)
constants_told es (Err f) accepted refused = sym refused

-- the first of all that is refused is that of the constants or that of the walk
pub source_told : (t : Table) (n : Names) (m : Module) (constant : Option SectionFault) (old new : Walked)
    → Walks [] (source_units (designed t n m)) (given_formulas (designed t n m)) (sections_places (designed t n m).context (designed t n m).sections) (sections_manners (designed t n m).context [] (designed t n m).sections) old new
    → old.fault ≡ None → old.exprs ≡ [] → constant ≡ first_refusal section_order (constants_refused (entries_of n)) → earlier section_order constant new.fault ≡ first_refusal section_order (sections_refused (designed t n m))
source_told t n m constant old new w f e k =
    let us = source_units (designed t n m) in
    ap₂ (earlier section_order) k (w.fault ∙ ap₂ (λ f es. fault_behind f (length (arena es)) us) f e)
    ∙ sym (first_append section_order (constants_refused (entries_of n)) (all_refused (length (arena [])) us))
