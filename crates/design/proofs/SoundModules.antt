-- A module is accepted whose declarations and sections are, and so are the names that are declared of it.
use Rattle.std.proofs.Common.{◌≡◌, ℕ, ◌==◌, true, Some, List, [], ◌∷◌, ◌++◌, length, refl, sym, subst, ◌∙◌, ◌<◌, take, get_or, ap, inl, inr, IsSome, slice_get}
use Rattle.design.proofs.Common.{Cell, Table, arena, SectionTree, ADiagram, ModuleTree, cell_on, Context, Design, design_of, sections_parts, given_uses, constants_refused, Manner, is_cell_pin, is_output_kind, units_refused, all_refused, limit_refused, right_empty, section_manners, units_of_section, units_of_sections, AssignedAreOnCells, AssignedHaveData, HasBareHeader, HaveBareHeaders, IsAccepted, HasSoundSections, HasSoundDeclarations, cases_lt, get_or_past, slice_get-get_or, ANode, ADeviceName, Entry, no_name, names_of, NamesAreAccepted, IsSignalOf, Any-from_list_any, flat_map, parts_in_section, some_place}
use Rattle.source_sections.specs.SectionAnswers.{source_units}
use Rattle.design.proofs.AssignedNames.{own_names, own_assigned, names_within, by_sections, signal_there}
use Rattle.design.proofs.BareTargets.{member_bare}
use Rattle.design.proofs.FreeRegisters.{free_may_choose}
use Rattle.design.proofs.GivenSections.{IsPart, sections_part}
use Rattle.design.proofs.GivenSignals.{AnyUse, data_formulas, targets}
use Rattle.design.proofs.ClearTargets.{first_units, last_units, diagram_clear}
use Rattle.abel_tree.specs.SoundNames.{IsSoundKind}
use Rattle.declared_names.specs.AcceptedNames.{PinsAreApart, BuffersAreAllowed}

-- ---- cells

cell_there : (t : Table) (pin : ℕ) → is_cell_pin t pin ≡ true → IsSome (cell_on t pin)
cell_there t pin h =
    let test = λ (c : Cell). c.pin == pin in
    let at = Any-from_list_any test t.cells h in
    subst IsSome (sym (some_place test at.1 t.cells at.0 at.2 (ap test at.3 ∙ at.4)).1) refl

-- ---- sections

header_bare : (d : Context) (before : List Manner) (x : SectionTree) → units_refused (units_of_section d before x) ≡ [] → HasBareHeader d x
header_bare d before (ADiagram place registers states) h = member_bare d registers (diagram_clear d before place registers states h).0.0
header_bare d before _ h = tt

headers_bare : (d : Context) (before : List Manner) (ss : List SectionTree) → units_refused (units_of_sections d before ss) ≡ [] → HaveBareHeaders d ss
headers_bare d before [] h = tt
headers_bare d before (x ∷ ss) h =
    let more = before ++ section_manners d before x in
    let us = units_of_section d before x in
    let vs = units_of_sections d more ss in
    (header_bare d before x (first_units us vs h), headers_bare d more ss (last_units us vs h))

-- nothing is refused of the units of sound sections
units_clear : (d : Design) → HasSoundSections d → units_refused (source_units d) ≡ []
units_clear d h =
    let base = length (arena []) in
    right_empty (limit_refused base (source_units d)) (units_refused (source_units d)) (right_empty (constants_refused d.context.names) (all_refused base (source_units d)) h)

module _ (t : Table) (m : ModuleTree) where
  abbrev d : Design
  d = design_of t m

  part : (s : ℕ) → IsPart d.context AnyUse (λ e j. IsSignalOf d.context j) (λ e j is. is) s (own_names t m) (targets d refl) (HaveBareHeaders d.context m.sections) (source_units d) (flat_map parts_in_section m.sections) (sections_parts m.sections) (own_assigned t m) (given_uses d)
  part s = sections_part d.context AnyUse (λ e j. IsSignalOf d.context j) (λ e j is. is) s (own_names t m) (targets d refl) d.starts_dontcare 0 [] m.sections

  pub data_there : AssignedHaveData d
  data_there s h = data_formulas d s ∙ (part s).given (names_within t m s) (by_sections t m s h)

  pub on_cells : HasSoundSections d → AssignedAreOnCells d.context
  on_cells r s pin negated kind h =
      cell_there t pin (subst (λ k. is_output_kind t k ≡ true) kind ((part s).output (names_within t m s) (units_clear d r) (by_sections t m s h)))

pub all_accepted : (t : Table) (m : ModuleTree) → HasSoundDeclarations (design_of t m).context → HasSoundSections (design_of t m) → IsAccepted (design_of t m)
all_accepted t m n r =
    let clear = units_clear (design_of t m) r in
    let headers = headers_bare (design_of t m).context [] m.sections clear in
    record {
      names = record { known = refl; pins = n.pins; nodes = n.nodes; signals = signal_there t m; buffers = n.buffers; cells = on_cells t m r };
      free = free_may_choose t m ((part t m 0).are_bare clear) headers;
      data_given = data_there t m;
      headers = headers;
    }

-- ---- names

-- the number of a node that is sound
node_below : (pins : ℕ) (es : List Entry) → ((k : ℕ) (e : Entry) → slice_get es k ≡ Some e → IsSoundKind pins (take k es) e.kind) → (s n : ℕ) → (get_or es s no_name).kind ≡ ANode n → n < 128
node_below pins es sound s n kind =
    elim (cases_lt s (length es)) [
      | inl within ↦ subst (IsSoundKind pins (take s es)) kind (sound s (get_or es s no_name) (slice_get-get_or es s no_name within))
      | inr past ↦ absurd (let bad : ADeviceName ≡ ANode n = sym (ap (λ (e : Entry). e.kind) (get_or_past es s no_name past)) ∙ kind in cc)
    ]

pub names_accepted : NamesAreAccepted
names_accepted t m names same sound apart allowed = record {
  known = refl;
  pins = subst PinsAreApart same apart;
  nodes = node_below t.pins (names_of t m) (subst (λ es. (k : ℕ) (e : Entry) → slice_get es k ≡ Some e → IsSoundKind t.pins (take k es) e.kind) same sound.kinds);
  signals = signal_there t m;
  buffers = subst (BuffersAreAllowed t) same allowed;
}
