-- What the check of a diagram's registers finds (ABEL-HDL Reference Manual, state diagrams).
use Rattle.std.specs.Prelude.{◌≡◌, ◌≤◌, None, List, length}
use Rattle.state_diagrams.specs.Prelude.{first_refusal, Tree, Context, section_order, Manner, AreNamed, target_member}
use Rattle.section_targets.specs.declared.sides.Side.{Side}
use Rattle.state_diagrams.specs.DiagramUnits.{registers_refused}

-- their first refusal after what was assigned before, and if nothing is refused the registers from the left
pub record AreRegisters (d : Context) (before : List Manner) (t : Tree) (s : Side) : Type 0 where
  pub fault : s.fault ≡ first_refusal section_order (registers_refused d before (target_member d t))
  pub aims : s.fault ≡ None → s.aims ≡ (target_member d t).aims
  pub few : s.fault ≡ None → length s.aims ≤ 32
  pub inside : AreNamed (length d.names) s.aims
