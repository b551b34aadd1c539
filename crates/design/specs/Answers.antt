-- When a design is refused, and for what (this project's rule).
use Rattle.std.specs.Prelude.{◌≡◌, ℕ, Bool, true, All, Some, List, get_or}
use Rattle.design.specs.Prelude.{Place, Formula, IsSoundNetlist, ModuleTree, Table, design_of, is_before, place_order, plain_netlist, Design, name_at, IsSignalLoop, HasNoSignalLoop, IsSignalPath, HasNoSignalPath, Contribution, DesignFault}
use Rattle.abel_tree.specs.declared.words.Extension.TheVariants as extension
use Rattle.bit_expr.specs.declared.netlist.Netlist.{Netlist}
use Rattle.gathering.specs.Amounts.{first_target, target_place}
use Rattle.gathering.specs.Placed.{IsPlaced}
use Rattle.netlist_laws.specs.FittedCorrect.{MeansTheSame}
use Rattle.netlist_laws.specs.Gathered.{netlist_of}
use Rattle.design_checks.specs.declared.fault.DesignFault.TheVariants as fault
use Rattle.design_checks.specs.Verdict.{HasSoundSignals, IsSignalRefused}

-- nothing is refused of a design: neither its signals, nor does one wait for itself, nor a reset read a register
pub record HasNoRefusal (d : Design) (fs : List Formula) (cs : List Contribution) : Type 0 where
  pub signals : HasSoundSignals d fs cs
  pub no_loop : HasNoSignalLoop d
  pub no_path : (s : ℕ) → HasNoSignalPath d s

-- the netlist of a module of which nothing is refused, to whose targets this is contributed: it has its parts in their
-- ranges, does what the module does, and each cell is at the first target of its signal
pub record IsGathered (t : Table) (m : ModuleTree) (fs : List Formula) (cs : List Contribution) (net : Netlist) : Type 0 where
  pub unrefused : HasNoRefusal (design_of t m) fs cs
  pub netlist : plain_netlist net ≡ netlist_of t m
  pub sound : IsSoundNetlist t net
  pub same : MeansTheSame t m (plain_netlist net)
  pub places : All (IsPlaced cs) net.cells

-- ---- chains

-- signals, each of which reads the next, and the last the first, which is the earliest declared on any such loop; it
-- is declared here
pub record IsFirstLoop (d : Design) (p : Place) (chain : List ℕ) : Type 0 where
  pub loop : IsSignalLoop d chain
  pub place : p ≡ (name_at d.context (get_or chain 0 0)).place

-- the first target of the reset of s is here
abbrev pub IsResetAt : List Contribution → (s : ℕ) → Place → Type 0
IsResetAt cs s p = target_place (first_target s extension.Ar cs) ≡ Some p

-- one place precedes another
abbrev pub is_sooner : Place → Place → Bool
is_sooner p q = is_before place_order p q

-- signals from a reset at this place to a register; from no reset that precedes it there is such a path
pub record IsFirstPath (d : Design) (cs : List Contribution) (p : Place) (path : List ℕ) : Type 0 where
  pub reset : ℕ
  pub stands : IsResetAt cs reset p
  pub leads : IsSignalPath d reset path
  pub first : (r : ℕ) (q : Place) → IsResetAt cs r q → is_sooner q p ≡ true → HasNoSignalPath d r

-- ---- all kinds

-- the design is refused so: for its signals; if nothing of them is refused, for a loop; and if there isn't one, for a path
-- from a reset to a register
abbrev pub IsDesignRefused : Design → List Formula → List Contribution → DesignFault → Type 0
IsDesignRefused d fs cs (fault.Loop p chain) = HasSoundSignals d fs cs × IsFirstLoop d p chain
IsDesignRefused d fs cs (fault.ResetReadsRegister p path) =
    HasSoundSignals d fs cs × HasNoSignalLoop d × IsFirstPath d cs p path
IsDesignRefused d fs cs f = IsSignalRefused d fs cs f
