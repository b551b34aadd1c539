-- What is contributed is to names of the source.
use Rattle.std.proofs.Common.{ℕ, ◌<◌, List, [], ◌∷◌, map, length, sym, ap, subst, ◌∙◌}
use Rattle.netlist_rows.proofs.Common.{All-cons, All-nil, arena, entries_of, is_signal, view_module, AreToNames}
use Rattle.std.proofs.lemmas.Bool.{true≢false}
use Rattle.pld_device.specs.Table.{Table}
use Rattle.abel_meaning.specs.Designs.{Design, design_of}
use Rattle.set_expr.specs.declared.contributions.Contribution.{Contribution}
use Rattle.set_expr.specs.Given.{view_contribution}
use Rattle.section_targets.proofs.KnownTargets.{IsSignalOf}
use Rattle.netlist_laws.proofs.SoundLeaves.{inside}
use Rattle.design.proofs.GivenSignals.{EachSignal, given_signals}
use Rattle.netlist_rows.specs.declared.drawing.Drawn.{Drawn}
use Rattle.netlist_rows.specs.Drawn.{IsDrawn}

module _ (t : Table) (s : Drawn) (is : IsDrawn t s) where
  abbrev d : Design
  d = design_of t (view_module s.module)

  signal_inside : (v : ℕ) → IsSignalOf d.context v → v < length d.context.names
  signal_inside v signal = inside d.context v (λ device. true≢false (sym signal ∙ ap is_signal device))

  each_inside : (cs : List Contribution) → EachSignal (IsSignalOf d.context) (map (view_contribution (arena s.contributions.exprs)) cs) → AreToNames (length d.context.names) cs
  each_inside [] each = All-nil (λ (c : Contribution). c.target.signal < length d.context.names)
  each_inside (c ∷ cs) each = All-cons (λ (c : Contribution). c.target.signal < length d.context.names) c cs (signal_inside c.target.signal each.0) (each_inside cs each.1)

  pub drawn_to_names : AreToNames (length (entries_of s.names)) s.contributions.list
  drawn_to_names =
      subst (λ xs. AreToNames (length xs) s.contributions.list) (sym is.names)
      (each_inside s.contributions.list (subst (EachSignal (IsSignalOf d.context)) (sym is.gives) (given_signals d is.accepted.names.known is.accepted.headers)))
