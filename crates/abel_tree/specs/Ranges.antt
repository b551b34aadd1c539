-- Ranges of names and of numbers (ABEL-HDL Reference Manual, sets and pin declarations).
use Rattle.std.specs.Prelude.{ℕ, ◌+◌, ◌-◌, ◌*◌, ◌==◌, Bool, false, not, ◌&&◌, ◌||◌, Option, None, Some, List, [], ◌∷◌, ◌++◌, if◌then◌else◌, nat_le, nat_lt, min, map, drop, fold, take, take_while, reverse, length, bytes_eq}
use Rattle.std.specs.List.{range_with_len}
use Rattle.std.specs.Fmt.{decimal}
use Rattle.abel_tree.specs.declared.words.Word.{Word}
use Rattle.abel_tree.specs.declared.words.Item.{Item}
use Rattle.abel_tree.specs.declared.words.Number.{Number}
use Rattle.abel_tree.specs.declared.words.Span.{Span}

-- an ASCII digit
abbrev pub is_digit : ℕ → Bool
is_digit c = nat_le 48 c && nat_le c 57

-- the digits at the end of a name, and what precedes them
abbrev pub last_digits : List ℕ → List ℕ
last_digits name = reverse (take_while is_digit (reverse name))

abbrev pub stem : List ℕ → List ℕ
stem name = take (length name - length (last_digits name)) name

-- one to four digits without a needless zero
abbrev pub is_run : List ℕ → Bool
is_run [] = false
is_run (c ∷ cs) = (length cs == 0 || not (c == 48)) && nat_lt (length cs) 4

-- the two ends name a range
abbrev pub ends_agree : (first last : List ℕ) → Bool
ends_agree first last = is_run (last_digits first) && is_run (last_digits last) && bytes_eq (stem first) (stem last)

-- the number that digits write
abbrev pub number_of : List ℕ → ℕ
number_of digits = fold (λ n c. 10 * n + (c - 48)) 0 digits

-- all numbers from the first up or down to the last
abbrev pub numbers_between : ℕ → ℕ → List ℕ
numbers_between i j =
    if nat_le i j then range_with_len i (j - i + 1)
    else map (λ k. i - k) (range_with_len 0 (i - j + 1))

-- all names from the first up or down to the last
abbrev pub names_between : (first last : List ℕ) → List (List ℕ)
names_between first last =
    map (λ k. stem first ++ decimal k) (numbers_between (number_of (last_digits first)) (number_of (last_digits last)))

-- the names of a range, none if its ends don't agree
abbrev pub range_names : (first last : List ℕ) → List (List ℕ)
range_names first last = if ends_agree first last then names_between first last else []

-- an item of a declaration: whether it is a bad range, and its names
abbrev pub is_bad_to : (first : List ℕ) → Option Word → Bool
is_bad_to first None = false
is_bad_to first (Some last) = not (ends_agree first last.text)

abbrev pub is_bad : Item → Bool
is_bad i = is_bad_to i.first.text i.last

abbrev pub names_to : (first : List ℕ) → Option Word → List (List ℕ)
names_to first None = first ∷ []
names_to first (Some last) = range_names first last.text

abbrev pub item_names : Item → List (List ℕ)
item_names i = names_to i.first.text i.last

-- how many numbers a declaration gives, and the first of them, so many as there is room for: a span may be far too
-- long to be written out
abbrev pub span_count : ℕ → Option Number → ℕ
span_count first None = 1
span_count first (Some last) = (if nat_le first last.value then last.value - first else first - last.value) + 1

abbrev pub count_numbers : List Span → ℕ
count_numbers [] = 0
count_numbers (s ∷ ss) = span_count s.first.value s.last + count_numbers ss

abbrev pub span_numbers : (room : ℕ) → ℕ → Option Number → List ℕ
span_numbers room first None = first ∷ []
span_numbers room first (Some last) =
    if nat_le first last.value then range_with_len first (min room (last.value - first + 1))
    else map (λ k. first - k) (range_with_len 0 (min room (first - last.value + 1)))

abbrev pub numbers_of : (room : ℕ) → List Span → List ℕ
numbers_of room [] = []
numbers_of room (s ∷ ss) = span_numbers room s.first.value s.last ++ numbers_of (room - span_count s.first.value s.last) ss
