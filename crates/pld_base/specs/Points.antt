-- Points: a level for each pin, a Q for each cell and a value for each node.
use Rattle.std.specs.Prelude.{◌≡◌, Bool, List, length}
use Rattle.pld_base.specs.declared.point.Point.{Point}
use Rattle.pld_base.specs.Bits.{bits}

-- a point as lists of truth values, each read from place 0
pub record Levels : Type 0 where
  pub pins : List Bool
  pub q : List Bool
  pub nodes : List Bool

-- 32 pins, 32 cells and 128 nodes
pub record IsPoint (at : Levels) : Type 0 where
  pub pins : length at.pins ≡ 32
  pub q : length at.q ≡ 32
  pub nodes : length at.nodes ≡ 128

-- what a `Point` says
abbrev pub levels_of : Point → Levels
levels_of p = record { pins = bits 32 p.pins; q = bits 32 p.q; nodes = bits 128 p.nodes }
