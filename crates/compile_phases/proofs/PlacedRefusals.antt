-- What is refused of a placed module is refused of its source, and there is one placed module.
use Rattle.std.proofs.Common.{◌≡◌, ℕ, Some, List, [], ◌∷◌, refl, sym, ap, ◌∙◌}
use Rattle.compile_phases.proofs.Common.{Table, Entry, ModuleTree, names_of, name_order, first_name_refusal, name_refusals, IsPinned, IsPlacedModule, Pins, module_wishes, placed_with, with_pins, CompileFault, Source, Place, Fit, OutOfMemory, Expand, Scan, Parse, Names, Sections, Design, Width, IsNameFault, IsOfPlacing, IsOfSource, IsRefusedBy, IsRefusedFor}
use Rattle.pin_matching.proofs.One.{kept_cannot, one_taken}
use Rattle.placer.specs.declared.fault.PlaceFault.{PlaceFault}
use Rattle.placer.specs.declared.fault.PlaceFault.TheVariants as placing
use Rattle.placer.specs.Following.{HasNumberedNames}
use Rattle.placer.specs.Signals.{to_place}
use Rattle.compile_phases.specs.Placings.{IsUnplacedFor}
use Rattle.compile_phases.proofs.NotRefused.{no_first}

-- ---- the name

named_same : (es : List Entry) (xs : Pins) (m : ModuleTree) → (placed_with es xs m).name ≡ m.name
named_same es [] m = refl
named_same es (x ∷ xs) m = refl

pub placed_name : (t : Table) (m placed : ModuleTree) → IsPlacedModule t m placed → placed.name ≡ m.name
placed_name t m placed is = ap (λ (x : ModuleTree). x.name) is.pinned.is ∙ named_same (names_of t m) (with_pins (to_place t (names_of t m)) is.pinned.pins) m

-- ---- refusals

pub of_placed : (t : Table) (m placed : ModuleTree) (e : CompileFault) → IsPlacedModule t m placed → HasNumberedNames t placed → IsRefusedFor t placed e → IsRefusedBy t m e
of_placed t m placed (Source (Names f) line) is numbered h = absurd (no_first name_order (name_refusals t placed) f numbered.none h.0)
of_placed t m placed (Source (Expand f) line) is numbered h = absurd h
of_placed t m placed (Source (Scan f) line) is numbered h = absurd h
of_placed t m placed (Source (Parse f) line) is numbered h = absurd h
of_placed t m placed (Source (Sections f) line) is numbered h = record { placed = placed; is = is; so = h }
of_placed t m placed (Source (Design f) line) is numbered h = record { placed = placed; is = is; so = h }
of_placed t m placed (Source (Width f) line) is numbered h = record { placed = placed; is = is; so = h }
of_placed t m placed (Place f line) is numbered h = absurd h
of_placed t m placed (Fit f line) is numbered h = (h.0, record { placed = placed; is = is; so = h.1 })
of_placed t m placed OutOfMemory is numbered h = tt

-- ---- one fate

pub one_placed : (t : Table) (m a b : ModuleTree) → IsPinned t m a → IsPinned t m b → a ≡ b
one_placed t m a b is also =
    is.is ∙ (ap (λ ps. placed_with (names_of t m) (with_pins (to_place t (names_of t m)) ps) m) (one_taken (module_wishes t m) is.pins also.pins is.taken also.taken) ∙ sym also.is)

pub placed_not_unplaced : (t : Table) (m placed : ModuleTree) (f : PlaceFault) (line : List ℕ) → IsPlacedModule t m placed → IsUnplacedFor f line t m → ⊥
placed_not_unplaced t m placed (placing.NoPlacement signals places) line is h = kept_cannot (module_wishes t m) h.0.set places h.0.kept is.pinned.pins is.pinned.taken.is_assignment
placed_not_unplaced t m placed placing.OutOfMemory line is h = h

pub unplaced_names : (t : Table) (m : ModuleTree) (f : PlaceFault) (line : List ℕ) → IsUnplacedFor f line t m → name_refusals t m ≡ []
unplaced_names t m (placing.NoPlacement signals places) line h = h.0.names
unplaced_names t m placing.OutOfMemory line h = absurd h

-- ---- what the phases before the sections refuse

pub by_declared : (t : Table) (m : ModuleTree) (e : CompileFault) → IsOfSource (IsNameFault (λ f. first_name_refusal t m ≡ Some f)) e → IsRefusedBy t m e
by_declared t m (Source (Names f) line) h = h
by_declared t m (Source (Expand f) line) h = absurd h
by_declared t m (Source (Scan f) line) h = absurd h
by_declared t m (Source (Parse f) line) h = absurd h
by_declared t m (Source (Sections f) line) h = absurd h
by_declared t m (Source (Design f) line) h = absurd h
by_declared t m (Source (Width f) line) h = absurd h
by_declared t m (Place f line) h = absurd h
by_declared t m (Fit f line) h = absurd h
by_declared t m OutOfMemory h = tt

pub by_placing : (t : Table) (m : ModuleTree) (e : CompileFault) → IsOfPlacing (λ f line. IsUnplacedFor f line t m) e → IsRefusedBy t m e
by_placing t m (Source f line) h = absurd h
by_placing t m (Place f line) h = h
by_placing t m (Fit f line) h = absurd h
by_placing t m OutOfMemory h = tt
