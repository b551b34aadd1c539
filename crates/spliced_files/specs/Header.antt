-- The name in the header of a fuse file (this project's rule: its own headers are `ABEL-HDL`, the module's name and the
-- device's).
use Rattle.std.specs.Prelude.{ℕ, ◌+◌, ◌-◌, ◌==◌, nat_le, nat_eq, ◌&&◌, if◌then◌else◌, Bool, List, [], drop, get_or, length, take, codes}
use Rattle.std.specs.List.{ends_with, starts_with}
use Rattle.spliced_files.specs.Prelude.{pieces, space}

-- what precedes the first asterisk
abbrev pub design_of : List ℕ → List ℕ
design_of text = get_or (pieces text) 0 []

-- it begins with `ABEL-HDL ` and ends with a blank and the device's name
abbrev pub has_marks : (design device : List ℕ) → Bool
has_marks design device =
    starts_with nat_eq design (codes "ABEL-HDL ")
    && (ends_with nat_eq design device && get_or design (length design - length device - 1) 0 == space)

-- what stands between the two, if they are there; else the whole text
abbrev pub title_of : (design device : List ℕ) → List ℕ
title_of design device =
    if nat_le (10 + length device) (length design) && has_marks design device
    then take (length design - (10 + length device)) (drop 9 design)
    else design
