-- What a page calls the pins (this project's rule).
use Rattle.std.specs.Prelude.{ℕ, Bool, false, Option, None, Some, List, []}
use Rattle.abel_tree.specs.Entries.{Entry}
use Rattle.fuse_listing.specs.Listing.{literal_text, name_on, names_complement}

-- the name that there may be is assigned
abbrev pub is_assigned : Option Entry → Bool
is_assigned (Some e) = e.assigned
is_assigned None = false

-- what has the level of the pin: the name, or `!` and the name if that is the level's complement
abbrev pub label_for : Entry → List ℕ
label_for e = literal_text (names_complement (Some e)) e.name

-- that of the name that there may be, no text if there isn't one
abbrev pub label_if_any : Option Entry → List ℕ
label_if_any (Some e) = label_for e
label_if_any None = []

-- the label of a pin, by its first name
abbrev pub label_of : List Entry → (pin : ℕ) → List ℕ
label_of es pin = label_if_any (name_on es pin)
