-- If nothing is refused of several units, of an assignment, of a table or of a diagram, nothing is refused of their
-- parts, and the signals of their targets are nodes and pins of cells.
use Rattle.std.proofs.Common.{◌≡◌, ℕ, ◌==◌, Bool, true, false, ◌&&◌, ◌||◌, Option, Some, List, [], ◌∷◌, ◌++◌, inl, inr, refl, ap, subst, None, sym, ◌∙◌, length}
use Rattle.design.proofs.Common.{list_any, and_parts, true_from_ne_false, eqb-true, or_cases, Place, Extension, is_data, Context, name_at, some_signals, NotAnOutput, Manner, manner_of, is_output_kind, is_output, may_be_assigned, no_output, mixed, aims_refused, left_empty, right_empty, positions_of, among, Named, signals_of, assigned_each, is_assigned, Tree, RowTree, term_of, expression_found, CountedUnit, units_refused, is_clocked, StateTree, Found, TargetFound, target_member, refused_append, unless_any, assigned_aims, taken_refused, assign_refused, registers_refused, register_manners, units_of_states, units_behind, units_of_diagram, if_none}
use Rattle.section_targets.specs.declared.aim.Aim.{Aim}
use Rattle.set_expr.specs.declared.fault.SectionFault.{SectionFault}
use Rattle.abel_meaning.specs.CountedBlocks.{table_units}
use Rattle.truth_tables.specs.OutputHeaders.{output_header}
use Rattle.truth_tables.specs.TableUnits.{some_aims, outputs_refused, header_refused, row_units, units_of_table}
use Rattle.truth_tables.proofs.OutputPositions.{header_signals}
use Rattle.design.proofs.AssignedData.{assigned_among}
use Rattle.design.proofs.NamedTerms.{IsWithin}
use Rattle.abel_tree.specs.declared.words.Sign.{Sign}
use Rattle.state_diagrams.specs.DiagramUnits as diagram
use Rattle.truth_tables.specs.Gives as gives
use Rattle.truth_tables.specs.TableUnits as tables

-- ---- units

pub first_units : (us vs : List CountedUnit) → units_refused (us ++ vs) ≡ [] → units_refused us ≡ []
first_units us vs h = left_empty (units_refused us) (units_refused vs) (sym (refused_append us vs) ∙ h)

pub last_units : (us vs : List CountedUnit) → units_refused (us ++ vs) ≡ [] → units_refused vs ≡ []
last_units us vs h = right_empty (units_refused us) (units_refused vs) (sym (refused_append us vs) ∙ h)

-- a target with how its signals are assigned
abbrev pub IsTargetClear : Context → List Manner → Option Extension → (complement clocked : Bool) → TargetFound → Type 0
IsTargetClear d before e c k x = (x.refusals ≡ []) × (aims_refused d before e c k x.aims ≡ [])

pub assign_clear : (d : Context) (before : List Manner) (e : Option Extension) (c : Bool) (sign : Sign) (q : Place) (x : TargetFound) (f : Found) → assign_refused d before e c sign q x f ++ [] ≡ [] → IsTargetClear d before e c (is_clocked sign) x
assign_clear d before e c sign q x f h =
    let taken = taken_refused x.refusals q (length x.aims) f in
    let later = aims_refused d before e c (is_clocked sign) (assigned_aims x) in
    let all = left_empty (assign_refused d before e c sign q x f) [] h in
    let own = left_empty x.refusals (taken ++ later) all in
    (own, subst (λ rs. aims_refused d before e c (is_clocked sign) (unless_any rs x.aims) ≡ []) own (right_empty taken later (right_empty x.refusals (taken ++ later) all)))

both_clear : (rs more : List SectionFault) → if_none rs more ≡ [] → (rs ≡ []) × (more ≡ [])
both_clear [] more h = (refl, h)
both_clear (r ∷ rs) more h = absurd cc

header_clear : (rs : List SectionFault) (p : Place) (us : List CountedUnit) → units_refused (units_behind rs p us) ≡ [] → (rs ≡ []) × (units_refused us ≡ [])
header_clear [] p us h = (refl, h)
header_clear (r ∷ rs) p us h = absurd cc

-- the registers as targets, and the states after them
pub diagram_clear : (d : Context) (before : List Manner) (p : Place) (registers : Tree) (xs : List StateTree) → units_refused (units_of_diagram d before p registers xs) ≡ []
    → IsTargetClear d before None false true (target_member d registers)
    × (units_refused (units_of_states d (diagram.signals_of (target_member d registers).aims) (before ++ register_manners (target_member d registers)) [] xs) ≡ [])
diagram_clear d before p registers xs h =
    let x = target_member d registers in
    let parts = header_clear (registers_refused d before x) p (units_of_states d (diagram.signals_of x.aims) (before ++ register_manners x) [] xs) h in
    (both_clear x.refusals (aims_refused d before None false true x.aims) parts.0, parts.1)

-- ---- the signals of targets

-- some aim is at the signal
abbrev pub is_aimed : ℕ → List Aim → Bool
is_aimed s aims = list_any (λ (a : Aim). a.signal == s) aims

pub aimed_among : (s : ℕ) (aims : List Aim) → among s (some_signals (positions_of aims)) ≡ is_aimed s aims
aimed_among s [] = refl
aimed_among s (a ∷ aims) = ap (λ b. (a.signal == s) || b) (aimed_among s aims)

module _ (d : Context) (s : ℕ) where
  -- a node, or the pin of a cell
  abbrev pub IsOutput : Type 0
  IsOutput = is_output_kind d.device (name_at d s).kind ≡ true

  output_there : (j : ℕ) (p : Place) (m : Manner) → no_output d.device (name_at d j) p m ≡ [] → j ≡ s → IsOutput
  output_there j p m h e =
      let output = true_from_ne_false (is_output d.device (name_at d j) m.extension) (λ other. let bad : NotAnOutput p (Some m.signal) ∷ [] ≡ [] = rw other at h in cc) in
      subst (λ n. is_output_kind d.device (name_at d n).kind ≡ true) e
      (and_parts (is_output_kind d.device (name_at d j).kind) (may_be_assigned m.extension && (is_data m.extension || (name_at d j).assigned)) output).0

  -- each signal of a target that isn't refused is an output
  pub aimed_output : (before : List Manner) (e : Option Extension) (c k : Bool) (aims : List Aim) → aims_refused d before e c k aims ≡ [] → is_aimed s aims ≡ true → IsOutput
  aimed_output before e c k [] h a = absurd cc
  aimed_output before e c k (x ∷ aims) h a =
      let m = manner_of e c k x in
      let own = no_output d.device (name_at d x.signal) x.place m in
      let mix = mixed before (name_at d x.signal) x.place m in
      let rest = aims_refused d (before ++ m ∷ []) e c k aims in
      elim (or_cases (x.signal == s) (is_aimed s aims) a) [
        | inl here ↦ output_there x.signal x.place m (left_empty own mix (left_empty (own ++ mix) rest h)) (eqb-true x.signal s here)
        | inr there ↦ aimed_output (before ++ m ∷ []) e c k aims (right_empty (own ++ mix) rest h) there
      ]

-- ---- tables

header_aimed : (s : ℕ) (xs : List (Option Aim)) → among s (some_signals (gives.signals_of xs)) ≡ is_aimed s (some_aims xs)
header_aimed s [] = refl
header_aimed s (None ∷ xs) = header_aimed s xs
header_aimed s (Some a ∷ xs) = ap (λ b. (a.signal == s) || b) (header_aimed s xs)

table_header_clear : (rs : List SectionFault) (p : Place) (us : List CountedUnit) → units_refused (tables.units_behind rs p us) ≡ [] → rs ≡ []
table_header_clear [] p us h = refl
table_header_clear (r ∷ rs) p us h = absurd cc

pub table_output : (d : Context) (s : ℕ) (ks : List Named) (within : IsWithin s ks d.known) (before : List Manner) (p : Place) (inputs : Tree) (k : Bool) (outputs : Tree) (rows : List RowTree) → units_refused (units_of_table d before p inputs k outputs rows) ≡ []
    → is_assigned (assigned_each k (signals_of ks outputs)) s ≡ true → IsOutput d s
table_output d s ks within before p inputs k outputs rows h a =
    let x = output_header d outputs in
    let us = row_units d k (term_of d.known inputs) (term_of d.known outputs) rows (table_units d inputs rows) in
    let parts = both_clear x.refusals (aims_refused d before None false k (some_aims x.outputs))
    (right_empty (expression_found d.names inputs).refusals (outputs_refused d before k x) (table_header_clear (header_refused d before k inputs outputs) p us h)) in
    aimed_output d s before None false k (some_aims x.outputs) parts.1
    (sym (header_aimed s x.outputs) ∙ ap (λ ts. among s (some_signals ts)) (sym (header_signals d outputs parts.0)) ∙ within outputs (sym (assigned_among s k (signals_of ks outputs)) ∙ a))
