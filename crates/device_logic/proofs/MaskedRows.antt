-- A device whose rows are masks.
use Rattle.device_logic.proofs.Common.{IsPoint, levels_of, length-bits}
use Rattle.pld_base.specs.declared.point.Point.{Point}

pub is_point : (p : Point) → IsPoint (levels_of p)
is_point p = record { pins = length-bits 32 p.pins; q = length-bits 32 p.q; nodes = length-bits 128 p.nodes }
