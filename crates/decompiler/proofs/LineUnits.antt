-- Nothing is refused of a line of a decompiled source: neither of its target nor of its sum.
use Rattle.std.proofs.Common.{◌≡◌, ℕ, ◌≤◌, Bool, true, false, if◌then◌else◌, List, [], ◌∷◌, ◌++◌, length, map, refl, sym, ap, ◌∙◌, arith, append-nil, ◌||◌}
use Rattle.decompiler.proofs.Common.{AllByRecursion, Place, IsDevice, Table, Const, Tree, AName, Statement, AnAssign, ModuleTree, guard_nodes, value_nodes, Design, design_of, bits_of, formulas, targets_of, term_of, SectionFault, MixedAssignment, expression_found, names_found, Manner, is_against_kind, mixed, no_output, TargetFound, left_side, CountedUnit, assign_refused, assigned_aims, assigned_manners, statement_manners, statement_places, units_of_statement, PinLiteral, SumLine, name_text, word, IsLine, IsSourceTree, source_of, each_weaker, signal_of, IsDeclaredLiteral, known_is}
use Rattle.abel_tree.specs.declared.words.Sign.TheVariants as sign
use Rattle.section_targets.specs.declared.aim.Aim.{Aim}
use Rattle.section_targets.specs.Manners.{aims_refused}
use Rattle.decompiler.proofs.EachTree.{sum_holds}
use Rattle.decompiler.proofs.FoundBits.{IsFoundBit, IsFoundPin, IsFoundTree, found_steps, value_passes}
use Rattle.decompiler.proofs.PlainNames.{pin_found}
use Rattle.decompiler.proofs.SmallBits.{IsKnownPin, IsSmall, IsSmallTree, small_steps, unguarded_nodes, weight}
use Rattle.decompiler.proofs.Weights.{sum_weight}
use Rattle.decompiler.proofs.LineManners.{IsAimed, IsGoodLine, IsLineManner, aimed, is_output_line, kind_agrees, line_manner, none_differs, x}

module _ (t : Table) (fuses : List Bool) (laws : IsDevice t) (m : ModuleTree) (is : IsSourceTree (source_of t fuses) m) where
  abbrev d : Design
  d = design_of t m

  abbrev signal : ℕ → ℕ
  signal pin = signal_of t fuses pin

  -- ---- the unit of a line

  module _ (l : SumLine) (good : IsGoodLine t fuses laws m is l) (s : Statement) (line : IsLine l s) where
    found_pin : (k : PinLiteral) → IsDeclaredLiteral t fuses laws k → IsFoundPin (names_found d.context.names) k
    found_pin k of = pin_found t fuses laws m is k.pin of.1

    value_found : IsFoundBit (expression_found d.context.names line.value)
    value_found =
        sum_holds (IsFoundPin (names_found d.context.names)) (IsFoundTree (names_found d.context.names)) (found_steps (names_found d.context.names)) l.products line.value
        (
        each_weaker (AllByRecursion (IsDeclaredLiteral t fuses laws)) (AllByRecursion (IsFoundPin (names_found d.context.names)))
        (λ p all. each_weaker (IsDeclaredLiteral t fuses laws) (IsFoundPin (names_found d.context.names)) found_pin p all) l.products good.1.literals
        )
        line.sum

    pub known_pin : (k : PinLiteral) → IsDeclaredLiteral t fuses laws k → IsKnownPin d.context k
    known_pin k of = record { signal = signal k.pin; known = known_is t fuses laws m is k.pin of.1 }

    value_small : IsSmall d.context (term_of d.context.known line.value) (weight line.value)
    value_small =
        sum_holds (IsKnownPin d.context) (IsSmallTree d.context) (small_steps d.context) l.products line.value
        (
        each_weaker (AllByRecursion (IsDeclaredLiteral t fuses laws)) (AllByRecursion (IsKnownPin d.context))
        (λ p all. each_weaker (IsDeclaredLiteral t fuses laws) (IsKnownPin d.context) known_pin p all) l.products good.1.literals
        )
        line.sum

    abbrev aim : IsAimed t fuses laws m is l good (left_side d.context line.place line.target)
    aim = aimed t fuses laws m is l good line.place line.target line.named

    abbrev one_aim : TargetFound
    one_aim = record { refusals = []; aims = record { signal = signal l.pin; place = aim.place } ∷ [] }

    abbrev written : Statement
    written = AnAssign line.place l.negated (AName (word (name_text l.pin) line.named.0) l.extension) sign.Equal line.sign_place line.value

    written_is : s ≡ written
    written_is = line.is ∙ ap (λ (target : Tree). AnAssign line.place l.negated target sign.Equal line.sign_place line.value) line.named.1

    aim_is : left_side d.context line.place (AName (word (name_text l.pin) line.named.0) l.extension) ≡ one_aim
    aim_is = ap (left_side d.context line.place) (sym line.named.1) ∙ aim.equals

    pub manner_is : statement_manners d.context s ≡ line_manner t fuses laws m is l ∷ []
    manner_is =
        ap (statement_manners d.context) written_is
        ∙ ap (λ (found : TargetFound). assigned_manners l.extension l.negated sign.Equal (assigned_aims found)) aim_is

    -- its signal is at one place
    pub record IsPlacedAt (ps : List Place) : Type 0 where
      pub place : Place
      pub equals : ps ≡ place ∷ []

    pub place_is : IsPlacedAt (statement_places d.context s)
    place_is = record {
      place = aim.place;
      equals = ap (statement_places d.context) written_is ∙ ap (λ (found : TargetFound). map (λ (a : Aim). a.place) (assigned_aims found)) aim_is;
    }

    -- nothing is refused, after lines
    line_passes : (before : List Manner) → AllByRecursion (IsLineManner t fuses laws m is) before
        → assign_refused d.context before l.extension l.negated sign.Equal line.sign_place one_aim (expression_found d.context.names line.value) ≡ []
    line_passes before all =
        let allowed : no_output t (x t fuses laws m is l good) aim.place (line_manner t fuses laws m is l) ≡ [] = rw (is_output_line t fuses laws m is l good) refl in
        ap (λ (rs : List SectionFault). rs ++ aims_refused d.context before l.extension l.negated false one_aim.aims) (value_passes line.sign_place (expression_found d.context.names line.value) value_found)
        ∙ append-nil (no_output t (x t fuses laws m is l good) aim.place (line_manner t fuses laws m is l) ++ mixed before (x t fuses laws m is l good) aim.place (line_manner t fuses laws m is l))
        ∙ ap (λ (rs : List SectionFault). rs ++ mixed before (x t fuses laws m is l good) aim.place (line_manner t fuses laws m is l)) allowed
        ∙ ap (λ (b : Bool). mixed_if (b || is_against_kind (x t fuses laws m is l good) (line_manner t fuses laws m is l))) (none_differs t fuses laws m is before all l good)
        ∙ ap mixed_if (kind_agrees t fuses laws m is l good)
      where
        mixed_if : Bool → List SectionFault
        mixed_if b = if b then mixed_at ∷ [] else []
          where
            mixed_at : SectionFault
            mixed_at = MixedAssignment aim.place (signal l.pin)

    pub record IsLineUnit (before : List Manner) (us : List CountedUnit) : Type 0 where
      pub unit : CountedUnit
      pub equals : us ≡ unit ∷ []
      pub refusals : unit.refusals ≡ []
      pub nodes : unit.nodes ≤ 2832
      -- those of its value, as nothing surrounds it
      pub counted : unit.nodes ≡ (bits_of d.context (term_of d.context.known line.value)).nodes

    pub unit_is : (before : List Manner) → AllByRecursion (IsLineManner t fuses laws m is) before → IsLineUnit before (units_of_statement d.context (Const true) before s)
    unit_is before all = record {
      unit = record { place = line.place; refusals = refusals; nodes = nodes };
      equals = ap (units_of_statement d.context (Const true) before) written_is;
      refusals = ap (λ (found : TargetFound). assign_refused d.context before l.extension l.negated sign.Equal line.sign_place found (expression_found d.context.names line.value)) aim_is ∙ line_passes before all;
      nodes = omega (arith, no_guard, value_small.nodes, sum_weight l.products line.value good.0.short line.sum, good.0.few);
      counted = omega (arith, no_guard);
    }
      where
        width : ℕ
        width = length (targets_of (term_of d.context.known (AName (word (name_text l.pin) line.named.0) l.extension)))

        refusals : List SectionFault
        refusals = assign_refused d.context before l.extension l.negated sign.Equal line.sign_place (left_side d.context line.place (AName (word (name_text l.pin) line.named.0) l.extension)) (expression_found d.context.names line.value)

        nodes : ℕ
        nodes = value_nodes d.context (Const true) width line.value

        no_guard : guard_nodes (Const true) ((formulas d.context).word width (term_of d.context.known line.value)) ≡ 0
        no_guard = unguarded_nodes ((formulas d.context).word width (term_of d.context.known line.value))
