-- What the sections so far give; then what is left to be passed on.
use Rattle.std.proofs.Common.{◌≡◌, ◌≤◌, map, length, take, replicate}
use Rattle.declared_names.proofs.Common.{flat_map, view_declared, view_module, view_section_parts, all_marked, clear, passed, all_marks, given_by, numbers_read, section_gives}
use Rattle.declared_names.proofs.numbers.Numbers.marks_by.Given as goal

abbrev pub invariant-loop-section : goal.invariant-loop-section
invariant-loop-section l =
    l.marks.items
    ≡ all_marked (replicate (length l.names) clear) (flat_map (section_gives l.follow (numbers_read (length l.names) (map view_declared l.names))) (map view_section_parts (take l.section-index l.sections)))

abbrev pub decreases-loop-number : goal.decreases-loop-number
decreases-loop-number l = l.number

abbrev pub invariant-loop-number : goal.invariant-loop-number
invariant-loop-number l = record {
  within : l.number ≤ length l.names;
  left : passed (given_by l.follow (map view_declared l.names)) l.number l.marks.items ≡ all_marks l.follow (map view_declared l.names) (view_module l.source).sections;
}
