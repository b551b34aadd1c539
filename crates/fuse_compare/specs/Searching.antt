-- Private: what a search for a difference is on (this project's rule).
use Rattle.std.specs.Prelude.{List}
use Rattle.fuse_compare.specs.Prelude.{bits, Lookups}
use Rattle.fuse_compare.specs.Cut.{AreFreePins, AreKeptQs, AreOnce, DifferWithin}
use Rattle.fuse_compare.specs.States.{AreVariables}
use Rattle.fuse_compare.specs.Told.{IsTold, SameShape}
use Rattle.fuse_compare.specs.declared.cut.Cut.{Cut}
use Rattle.fuse_compare.specs.declared.variable.Variable.{Variable}

-- the cut is one of these two logics
pub record IsCut (a b : Lookups) (cut : Cut) : Type 0 where
  pub within : DifferWithin a b cut.own.items
  pub free : AreFreePins a (bits 32 cut.free)
  pub kept : AreKeptQs a (bits 32 cut.kept)

-- two logics that can be compared state by state, variables that each are once, and a cut
pub record CanSearch (a b : Lookups) (vars : List Variable) (cut : Cut) : Type 0 where
  pub shape : SameShape a b
  pub first : IsTold a
  pub second : IsTold b
  pub are : AreVariables vars
  pub once : AreOnce vars
  pub is_cut : IsCut a b cut
