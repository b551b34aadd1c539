-- The numbers of a span.
use Rattle.std.specs.Prelude.{ℕ, ◌+◌, ◌-◌, if◌then◌else◌, nat_le, min}

-- how many numbers of a span there is room for
abbrev pub range_length : (room first last : ℕ) → ℕ
range_length room first last = min room ((if nat_le first last then last - first else first - last) + 1)
