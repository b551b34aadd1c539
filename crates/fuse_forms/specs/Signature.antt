-- The signature, 64 fuses that no row and no cell reads (GAL16V8 and GAL22V10 datasheets; that a character has its highest bit
-- first is the way of other assemblers).
use Rattle.std.specs.Prelude.{ℕ, suc, ◌-◌, ◌/◌, ◌%◌, nat_le, nat_lt, ◌&&◌, Bool, if◌then◌else◌, List, [], ◌∷◌, get_or}
use Rattle.fuse_forms.specs.Prelude.{bits, is_on}

-- the level of a fuse of the signature
abbrev pub signature_bit : List ℕ → (place : ℕ) → Bool
signature_bit text place = is_on (bits 32 (get_or text (place / 8) 0)) (7 - place % 8)

-- the level of a fuse that has this one
abbrev pub signed_level : List ℕ → (first fuse : ℕ) → (level : Bool) → Bool
signed_level text first fuse level = if nat_le first fuse && nat_lt (fuse - first) 64 then signature_bit text (fuse - first) else level

-- the levels from a fuse on
abbrev pub signed_from : (fuse : ℕ) → List ℕ → (first : ℕ) → List Bool → List Bool
signed_from fuse text first [] = []
signed_from fuse text first (level ∷ levels) = signed_level text first fuse level ∷ signed_from (suc fuse) text first levels

-- all levels, with the text in the signature
abbrev pub signed : List ℕ → (first : ℕ) → List Bool → List Bool
signed = signed_from 0
