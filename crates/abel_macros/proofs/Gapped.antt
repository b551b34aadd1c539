-- A gap, from a place in it that is in the plain text.
use Rattle.std.proofs.Common.{◌≡◌, ℕ, true, List, ◌∷◌, refl, ◌∙◌}
use Rattle.abel_macros.proofs.Common.{Mode, is_plain, ends_gap, gap_in, gap}
use Rattle.text_pieces.specs.declared.mode.Mode.TheVariants as mode

same_gap : (m : Mode) (w : List ℕ) → is_plain m ≡ true → gap w ≡ gap_in m w
same_gap mode.Plain w h = refl
same_gap mode.Quoted w h = absurd cc
same_gap mode.Escaped w h = absurd cc
same_gap mode.Note w h = absurd cc
same_gap mode.Line w h = absurd cc

pub plain_gap : (m : Mode) (w v : List ℕ) → is_plain m ≡ true → gap_in m w ≡ gap v → gap w ≡ gap v
plain_gap m w v h e = same_gap m w h ∙ e

ending_plain : (m : Mode) (b : ℕ) (bs : List ℕ) → ends_gap m b bs ≡ true → is_plain m ≡ true
ending_plain mode.Plain b bs h = refl
ending_plain mode.Quoted b bs h = absurd cc
ending_plain mode.Escaped b bs h = absurd cc
ending_plain mode.Note b bs h = absurd cc
ending_plain mode.Line b bs h = absurd cc

pub ended_gap : (m : Mode) (b : ℕ) (w v bs : List ℕ) → w ≡ b ∷ bs → ends_gap m b bs ≡ true → gap_in m w ≡ gap v → gap w ≡ gap v
ended_gap m b w v bs e h g = plain_gap m w v (ending_plain m b bs h) g
