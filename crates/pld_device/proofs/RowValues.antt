-- When a row is true, column by column, and the places of its fuses.
use Rattle.std.proofs.Common.{◌≡◌, ◌↔◌, zero, suc, Bool, true, false, ◌||◌, List, [], ◌∷◌, refl, arith}
use Rattle.pld_device.proofs.Common.{and_parts, true≢false, row_is_true, CarriesAll}

carries : (fuses columns : List Bool) → row_is_true fuses columns ≡ true → CarriesAll fuses columns
carries [] columns holds k fuse column off = absurd (omega arith)
carries (f ∷ fuses) [] holds k fuse column off = absurd (omega arith)
carries (true ∷ fuses) (c ∷ columns) holds zero fuse column off = absurd (true≢false off)
carries (false ∷ fuses) (c ∷ columns) holds zero fuse column off = (and_parts c (row_is_true fuses columns) holds).0
carries (f ∷ fuses) (c ∷ columns) holds (suc k) fuse column off =
    carries fuses columns ((and_parts (f || c) (row_is_true fuses columns) holds).1) k (omega arith) (omega arith) off

holds_from : (fuses columns : List Bool) → CarriesAll fuses columns → row_is_true fuses columns ≡ true
holds_from [] columns all = refl
holds_from (f ∷ fuses) [] all = refl
holds_from (true ∷ fuses) (c ∷ columns) all = holds_from fuses columns (λ k fuse column off. all (suc k) (omega arith) (omega arith) off)
holds_from (false ∷ fuses) (c ∷ columns) all =
    rw (all 0 (omega arith) (omega arith) refl, holds_from fuses columns (λ k fuse column off. all (suc k) (omega arith) (omega arith) off)) refl

pub row_is_true-columns : (fuses columns : List Bool) → (row_is_true fuses columns ≡ true) ↔ CarriesAll fuses columns
row_is_true-columns fuses columns = (carries fuses columns, holds_from fuses columns)
