-- The declared names with their kinds and polarities (ABEL-HDL Reference Manual, ISTYPE; the defaults are this
-- project's rule).
use Rattle.std.specs.Prelude.{ℕ, suc, Bool, true, false, not, ◌&&◌, ◌||◌, List, [], ◌∷◌, if◌then◌else◌}
use Rattle.abel_meaning.specs.Prelude.{Always, AfterRegister, BeforeRegister, Table, Assigned, named_of, sections_assign, is_assigned, is_clocked_target, Words, Entry, is_signal, SectionTree, ModuleTree}
use Rattle.pld_device.specs.declared.flip.Flip.{Flip}
use Rattle.abel_meaning.specs.Declarations.{declared_names}
use Rattle.abel_meaning.specs.Held.{Holds, holds_of, is_held}

-- a register's pin equals Q if neither word is said
abbrev pub is_buffer_by_default : Flip → Bool
is_buffer_by_default Always = false
is_buffer_by_default AfterRegister = true
is_buffer_by_default BeforeRegister = false

-- the signal is registered: a word says so, or none does and some assignment to it is on the clock
abbrev pub is_registered : Words → (clocked : Bool) → Bool
is_registered words clocked = words.registered || (not words.combinational && clocked)

-- its pin equals Q if it is a register, or may be chosen to
abbrev pub is_buffer : Flip → Words → Bool
is_buffer flip words = words.buffer || (not words.invert && is_buffer_by_default flip)

-- neither word is said, and the pin of a register may equal Q or its complement
abbrev pub is_open : Flip → Words → Bool
is_open flip words = not words.buffer && (not words.invert && is_buffer_by_default flip)

-- a register is free if neither word is said and nothing holds it
abbrev pub stays_free : Flip → Holds → ℕ → Words → (registered : Bool) → Bool
stays_free flip held s words registered = registered && (is_open flip words && not (is_held held s))

-- the words as kind and polarity say them: neither word of one that is free
abbrev pub settled_words : Words → (registered buffer free : Bool) → Words
settled_words words registered buffer free =
    record {
      combinational = not registered;
      registered = registered;
      buffer = buffer && not free;
      invert = not buffer && not free;
      dc = words.dc;
    }

-- a signal's words with its kind; s is its place in the list of names
abbrev pub words_with_kind : Flip → Holds → ℕ → Words → (registered : Bool) → Words
words_with_kind flip held s words registered =
    settled_words words registered (is_buffer flip words) (stays_free flip held s words registered)

-- a name with its kind
abbrev pub with_kind : Flip → Holds → List Assigned → ℕ → Entry → Entry
with_kind flip held found s e =
    record e {
      words = if is_signal e.kind
          then words_with_kind flip held s e.words (is_registered e.words (is_clocked_target found s))
          else e.words;
      assigned = is_assigned found s;
    }

-- all names with their kinds, the first of which has this place
abbrev pub with_kinds : Flip → Holds → List Assigned → ℕ → List Entry → List Entry
with_kinds flip held found s [] = []
with_kinds flip held found s (e ∷ es) = with_kind flip held found s e ∷ with_kinds flip held found (suc s) es

-- what the sections assign by these names, and what they hold
abbrev pub with_assigned : Flip → List SectionTree → List Entry → List Entry
with_assigned flip sections es = with_kinds flip (holds_of es sections) (sections_assign (named_of es) sections) 0 es

-- the names of a module for a device, in the order of their declarations
abbrev pub names_of : Table → ModuleTree → List Entry
names_of t m = with_assigned t.flip m.sections (declared_names m)
