-- Nothing is refused of the design of a decompiled source.
use Rattle.std.proofs.Common.{◌≡◌, Bool, List, [], ◌++◌, map, ap, ◌∙◌}
use Rattle.decompiler.proofs.Common.{AllByRecursion, IsDevice, Table, arena, Formula, ModuleTree, Design, design_of, Contribution, Contributions, AreContributed, SparesPowerDown, no_controls, other_levels, refuses, targets_refused, Rule, missing_uses, RefusedUse, told, unwritten, IsSourceTree, lines_of, source_of, leaf_of, signal_of, given_is, DesignsAreUnrefused}
use Rattle.design_checks.specs.Verdict.{HasSoundSignals}
use Rattle.design_checks.specs.declared.rules.Rule.TheVariants as rule
use Rattle.decompiler.proofs.LineManners.{IsGoodLine}
use Rattle.decompiler.proofs.PlainNames.{names_plain}
use Rattle.decompiler.proofs.UnrefusedSections.{good_lines}
use Rattle.decompiler.proofs.CellChains.{no_signal_loop, no_signal_path}
use Rattle.decompiler.proofs.LineTargets.{each_of_line}
use Rattle.decompiler.proofs.PinTargets.{IsOf, no_nodes, targets_pass}
use Rattle.decompiler.proofs.ReadUses.{all_written, none_missing, none_unread}

module _ (t : Table) (fuses : List Bool) (laws : IsDevice t) (m : ModuleTree) (is : IsSourceTree (source_of t fuses) m) (found : Contributions)
    (of : AreContributed (design_of t m) found) where
  abbrev d : Design
  d = design_of t m

  abbrev fs : List Formula
  fs = arena found.exprs

  abbrev cs : List Contribution
  cs = found.list

  pub all_of : AllByRecursion (IsOf t fuses laws m is fs) cs
  all_of =
      each_of_line (signal_of t fuses) (leaf_of t) (IsGoodLine t fuses laws m is) fs cs (lines_of t fuses)
      (of.gives ∙ given_is t fuses laws m is) (good_lines t fuses laws m is)

  rule_passes : (r : Rule) → targets_refused (refuses t fs r) d.context.names cs ≡ []
  rule_passes r = targets_pass t fuses laws m is fs r cs all_of

  controls_pass : SparesPowerDown t fuses → no_controls d fs cs ≡ []
  controls_pass spares =
      ap (λ (rs : List RefusedUse). (rs ++ other_levels t fs d.context.names cs) ++ (unwritten d ++ map told (missing_uses d))) (rule_passes rule.Controls)
      ∙ ap (λ (rs : List RefusedUse). rs ++ (unwritten d ++ map told (missing_uses d))) (rule_passes rule.Levels)
      ∙ ap (λ (rs : List RefusedUse). rs ++ map told (missing_uses d)) (all_written t fuses laws m is spares (good_lines t fuses laws m is))
      ∙ ap (map told) (none_missing t fuses laws m is spares (good_lines t fuses laws m is))

  pub sound : SparesPowerDown t fuses → HasSoundSignals d fs cs
  sound spares = record {
    kinds = record { kinds = rule_passes rule.Kinds; nodes = no_nodes 0 d.context.names (names_plain t fuses laws m is) };
    uses = record {
      controls = record { controls = controls_pass spares; any = rule_passes rule.DontCares };
      paths = ap (map told) (none_unread t fuses laws m is spares (good_lines t fuses laws m is));
    };
  }

pub designs_unrefused : DesignsAreUnrefused
designs_unrefused t fuses m laws long is no_loop no_path spares found of = record {
  signals = sound t fuses laws m is found of spares;
  no_loop = no_signal_loop t fuses laws long m is no_loop;
  no_path = λ s. no_signal_path t fuses laws long m is s no_path;
}
