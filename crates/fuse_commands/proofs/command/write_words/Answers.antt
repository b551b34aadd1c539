-- Fewer than four words are no `write`.
use Rattle.std.proofs.Common.{◌≡◌, ℕ, ◌<◌, List, [], ◌∷◌, length, Option, None, arith, refl, string_bytes}
use Rattle.std.proofs.lemmas.List.{length-map}
use Rattle.fuse_commands.specs.View.{texts}
use Rattle.fuse_commands.specs.Words.{Command, write_words}
use Rattle.fuse_commands.proofs.command.write_words.Goals as goal

abbrev none : Option Command
none = None

too_few : (words : List (List ℕ)) → length words < 4 → none ≡ write_words words
too_few [] few = refl
too_few (a ∷ []) few = refl
too_few (a ∷ b ∷ []) few = refl
too_few (a ∷ b ∷ c ∷ []) few = refl
too_few (a ∷ b ∷ c ∷ d ∷ more) few = absurd (omega (arith, few))

pub returns-in_default : goal.returns-in_default
returns-in_default c = too_few (texts c.args.words.now) (let size = length-map c.args.words.now string_bytes in omega (arith, size, c.in_default.len_below))
