-- How words end that are no command on files (this project's rule).
use Rattle.std.specs.Prelude.{ℕ, List, [], ◌∷◌, ◌++◌, if◌then◌else◌, codes}
use Rattle.std.specs.Str.{bytes_eq}
use Rattle.fuse_commands.specs.Prelude.{Ending, ends}

-- the words that the program takes
unfoldable pub usage : List ℕ
usage =
    codes "usage: abel-fuses grade DEVICE IN\n"
    ++ codes "       abel-fuses vectors [-at-most N] DEVICE IN OUT\n"
    ++ codes "       abel-fuses port FROM IN TO OUT\n"
    ++ codes "       abel-fuses compare FROM A TO B\n"
    ++ codes "       abel-fuses read DEVICE IN OUT [mend]\n"
    ++ codes "       abel-fuses write DEVICE IN OUT FORM [sign TEXT] [secured]\n"
    ++ codes "       abel-fuses --help\n"
    ++ codes "       abel-fuses --version\n"

-- what `--version` prints
unfoldable pub version : List ℕ
version = codes "abel-fuses 0.1.0\n"

-- the usage text with 0 if it is asked for, and with 1 for all words that are no command
abbrev pub word_ending : List ℕ → Ending
word_ending word =
    if bytes_eq word (codes "--help") then ends 0 usage
    else if bytes_eq word (codes "--version") then ends 0 version
    else ends 1 usage

abbrev pub other_ending : List (List ℕ) → Ending
other_ending (word ∷ []) = word_ending word
other_ending _ = ends 1 usage
