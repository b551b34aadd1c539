-- When a design is refused for its signals, and for what (this project's rule).
use Rattle.std.specs.Prelude.{◌≡◌, ℕ, Some, List, [], map}
use Rattle.design_checks.specs.Prelude.{Place, Table, Formula, Names, Entry, first_refusal, view_section, Design, Contribution, IsContextOf}
use Rattle.abel_tree.specs.declared.sections.Module.{Module}
use Rattle.abel_meaning.specs.SignalReads.{given_formulas}
use Rattle.set_expr.specs.declared.contributions.Contributions.{Contributions}
use Rattle.set_expr.specs.Given.{given}
use Rattle.design_checks.specs.declared.refused.RefusedUse.{RefusedUse}
use Rattle.design_checks.specs.SignalsRefused.{registered_nodes}
use Rattle.design_checks.specs.UsesRefused.{use_order}
use Rattle.design_checks.specs.declared.fault.DesignFault.{DesignFault}
use Rattle.design_checks.specs.declared.fault.DesignFault.TheVariants as fault
use Rattle.design_checks.specs.Refused.{wrong_kinds, no_controls, any_controls, no_paths}

-- the design of a module's names and sections, to which this is contributed
pub record IsDesignFor (t : Table) (n : Names) (m : Module) (found : Contributions) (d : Design) : Type 0 where
  pub design : IsContextOf t n d.context
  pub sections : d.sections ≡ map view_section m.sections
  pub gives : given found ≡ given_formulas d

-- the first of a list of refusals is this one
abbrev pub IsFirst : List RefusedUse → Place → ℕ → Type 0
IsFirst rs p s = first_refusal use_order rs ≡ Some (record { place = p; name = s })

-- no signal is on a cell of a wrong kind, and no node is registered
pub record KindsPass (t : Table) (xs : List Entry) (cs : List Contribution) : Type 0 where
  pub kinds : wrong_kinds t xs cs ≡ []
  pub nodes : registered_nodes 0 xs ≡ []

-- no control is refused: each signal has those that are assigned and read, and none is assigned by `?=`
pub record ControlsPass (d : Design) (fs : List Formula) (cs : List Contribution) : Type 0 where
  pub controls : no_controls d fs cs ≡ []
  pub any : any_controls d.context.names cs ≡ []

-- nor is a use of what no column carries
pub record UsesPass (d : Design) (fs : List Formula) (cs : List Contribution) : Type 0 where
  pub controls : ControlsPass d fs cs
  pub paths : no_paths d ≡ []

-- what is refused of signals: kinds of refusals are in this order, and those of one kind by place
abbrev pub IsSignalRefused : Design → List Formula → List Contribution → DesignFault → Type 0
IsSignalRefused d fs cs (fault.WrongKind p s) = IsFirst (wrong_kinds d.context.device d.context.names cs) p s
IsSignalRefused d fs cs (fault.RegisteredNode p s) = (wrong_kinds d.context.device d.context.names cs ≡ []) × IsFirst (registered_nodes 0 d.context.names) p s
IsSignalRefused d fs cs (fault.NoSuchControl p s) = KindsPass d.context.device d.context.names cs × IsFirst (no_controls d fs cs) p s
IsSignalRefused d fs cs (fault.DontCareControl p s) =
    KindsPass d.context.device d.context.names cs × (no_controls d fs cs ≡ []) × IsFirst (any_controls d.context.names cs) p s
IsSignalRefused d fs cs (fault.NoReadPath p s) = KindsPass d.context.device d.context.names cs × ControlsPass d fs cs × IsFirst (no_paths d) p s
IsSignalRefused d fs cs fault.OutOfMemory = Unit {0}
IsSignalRefused d fs cs _ = ⊥

-- nothing is refused of a design's kinds, nodes, controls and uses
pub record HasSoundSignals (d : Design) (fs : List Formula) (cs : List Contribution) : Type 0 where
  pub kinds : KindsPass d.context.device d.context.names cs
  pub uses : UsesPass d fs cs
