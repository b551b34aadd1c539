-- An EQUATIONS section, a table, a state diagram, and what nothing is walked of.
use Rattle.std.proofs.Common.{◌≡◌, ℕ, None, Some, ap, inl, inr, map, refl, subst, sym, ◌∙◌}
use Rattle.source_sections.proofs.Common.{SectionTree, ADiagram, ATable, Equations, view, view_list, view_row, view_section, view_state, view_stmt, context_for, formulas, Walks, walks_none, WalksSection, section_manners, section_places, units_of_section}
use Rattle.std.proofs.lemmas.Result.{on_ok_weaker}
use Rattle.abel_meaning.specs.Diagrams.{diagram_gives}
use Rattle.abel_meaning.specs.Statements.{statements_give}
use Rattle.abel_meaning.specs.Tables.{table_gives}
use Rattle.abel_meaning.specs.Terms.{term_of}
use Rattle.equations.specs.StatementUnits.{statements_manners, statements_places, units_of_statements}
use Rattle.section_targets.proofs.MetWords.{high_bit}
use Rattle.source_sections.proofs.SectionsWalked.{section_walked}
use Rattle.source_sections.proofs.walking.walk_section.Goals as goal

pub walk_statements-requires : goal.walk_statements-requires
walk_statements-requires g c = record { guard = (high_bit c.args.out.now.exprs c.args.guard.when c.requires).0 }

pub returns-in-Equations : goal.returns-in-Equations
returns-in-Equations g c =
    on_ok_weaker c.walk_statements.result
    (λ k block b all a.
    let d = context_for g.D.Device.table c.args.scope.now in
    let old = c.args.out.now in
    let ss = view_list c.as_slice.result.now in
    section_walked d c.args.guard.dontcare block all (record c.args.guard { block = None }) None (view_section c.args.section.now) (Equations (map view_stmt c.as_slice.result.now)) old c.walk_statements.new.out
    (λ h. Walks all (units_of_statements d h.holds all ss) (statements_give (formulas d) d h ss) (statements_places d ss) (statements_manners d ss) old c.walk_statements.new.out)
    (ap view_section c.in-Equations.is ∙ ap (λ xs. Equations (map view_stmt xs)) (sym c.as_slice.ensures)) (high_bit old.exprs c.args.guard.when c.requires).1 refl refl (λ w. w) (k all a))
    c.walk_statements.ensures.walks

pub returns-in-Table : goal.returns-in-Table
returns-in-Table g c =
    on_ok_weaker c.walk_table.result
    (λ k block b all a.
    let d = context_for g.D.Device.table c.args.scope.now in
    let old = c.args.out.now in
    let t = c.in-Table.table in
    let s = ATable t.place (view t.inputs) t.clocked (view t.outputs) (map view_row t.rows) in
    section_walked d c.args.guard.dontcare block all c.args.guard (Some block) (view_section c.args.section.now) s old c.walk_table.new.out
    (λ h. Walks all (units_of_section d all s) (table_gives (formulas d) d h t.clocked (term_of d.known (view t.inputs)) (term_of d.known (view t.outputs)) (map view_row t.rows)) (section_places d s) (section_manners d all s) old c.walk_table.new.out)
    (ap view_section c.in-Table.is) (high_bit old.exprs c.args.guard.when c.requires).1 refl b (λ w. w) (k all a))
    c.walk_table.ensures.walks

pub returns-in-Diagram : goal.returns-in-Diagram
returns-in-Diagram g c =
    on_ok_weaker c.walk_diagram.result
    (λ k block b all a.
    let d = context_for g.D.Device.table c.args.scope.now in
    let old = c.args.out.now in
    let x = c.in-Diagram.diagram in
    let s = ADiagram x.place (view x.registers) (map view_state x.states) in
    section_walked d c.args.guard.dontcare block all c.args.guard (Some block) (view_section c.args.section.now) s old c.walk_diagram.new.out
    (λ h. Walks all (units_of_section d all s) (diagram_gives (formulas d) d h (term_of d.known (view x.registers)) (map view_state x.states)) (section_places d s) (section_manners d all s) old c.walk_diagram.new.out)
    (ap view_section c.in-Diagram.is) (high_bit old.exprs c.args.guard.when c.requires).1 refl b (λ w. w) (k all a))
    c.walk_diagram.ensures.walks

pub returns-in-Declarations : goal.returns-in-Declarations
returns-in-Declarations g c =
    let Stays = λ (s : SectionTree). (block : ℕ) → c.args.guard.block ≡ Some block → WalksSection g.D.Device.table c.args.scope.now c.args.guard.dontcare block s c.args.out.now c.args.out.now in
    elim c.in-Declarations.is [
      | inl x ↦ subst Stays (sym (ap view_section x.1)) (λ block b all a. walks_none all c.args.out.now a)
      | inr m ↦ elim m [
        | inl x ↦ subst Stays (sym (ap view_section x.1)) (λ block b all a. walks_none all c.args.out.now a)
        | inr x ↦ subst Stays (sym (ap view_section x.1)) (λ block b all a. walks_none all c.args.out.now a)
      ]
    ]
