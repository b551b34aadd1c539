-- Names with their kinds, by the marks of what is assigned and what is held; and the registers among them that are declared
-- `buffer` (this project's rule).
use Rattle.declared_names.specs.Prelude.{enumerate_from, Words, Entry, view_declared, is_signal, is_registered, is_buffer, is_open, settled_words, flat_map, Table, NameFault, always_inverts}
use Rattle.std.specs.Prelude.{ℕ, Bool, map, not, ◌&&◌, ◌||◌, List, [], ◌∷◌, if◌then◌else◌, get_or, false, Option, None, Some, slice_get}
use Rattle.abel_tree.specs.declared.names.Declared.{Declared}
use Rattle.pld_device.specs.declared.flip.Flip.{Flip}
use Rattle.declared_names.specs.declared.held.Held.{Held}
use Rattle.declared_names.specs.declared.marks.Mark.{Mark}
use Rattle.declared_names.specs.Marking.{clear, is_marked}
use Rattle.decls.specs.declared.fault.NameFault.TheVariants as fault
use Rattle.decls.specs.declared.reading.Buffered.{Buffered}

-- one kind, one polarity or none, and perhaps DC
abbrev pub attribute_words : (registered buffer free dc : Bool) → Words
attribute_words registered buffer free dc =
    record { combinational = not registered; registered = registered; buffer = buffer && not free; invert = not buffer && not free; dc = dc }

-- the name of this number is held
abbrev pub is_held_at : Held → ℕ → Bool
is_held_at held s = held.all || (get_or held.read.items s clear).strong

-- a signal's words with its kind
abbrev pub words_by : Flip → (held : Bool) → Words → (registered : Bool) → Words
words_by flip held words registered =
    settled_words words registered (is_buffer flip words) (registered && (is_open flip words && not held))

-- a name with its kind
abbrev pub kind_by : Flip → Mark → (held : Bool) → Entry → Entry
kind_by flip m held e =
    record e {
      words = if is_signal e.kind then words_by flip held e.words (is_registered e.words m.strong) else e.words;
      assigned = is_signal e.kind && is_marked m;
    }

-- all names by their numbers
abbrev pub kinds_by : Flip → List Mark → Held → List Declared → List Entry
kinds_by flip ms held ds =
    map (λ (x : ℕ × Declared). kind_by flip (get_or ms x.0 clear) (is_held_at held x.0) (view_declared x.1)) (enumerate_from 0 ds)

-- ---- registers that are declared `buffer`

-- a signal that is registered
abbrev pub is_register : Option Entry → Bool
is_register None = false
is_register (Some e) = is_signal e.kind && e.words.registered

-- one name that a string with `buffer` is for
abbrev pub register_refused : List Entry → Buffered → List NameFault
register_refused es b = if is_register (slice_get es b.number) then fault.BadAttribute b.place ∷ [] else []

-- several
abbrev pub registers_refused : List Entry → List Buffered → List NameFault
registers_refused es bs = flat_map (register_refused es) bs

-- if the device always inverts
abbrev pub refused_for : Table → List Entry → List Buffered → List NameFault
refused_for t es bs = if always_inverts t then registers_refused es bs else []
