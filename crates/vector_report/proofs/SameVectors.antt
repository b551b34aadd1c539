-- Vectors with the same characters are the same.
use Rattle.std.proofs.Common.{◌≡◌, ℕ, List, ap}
use Rattle.std.specs.Bool.{Decides}
use Rattle.std.specs.Str.{bytes_eq}
use Rattle.std.proofs.lemmas.Bool.Decides.{Decides-like}
use Rattle.std.proofs.lemmas.Slice.Eq.{bytes_eq-Decides}
use Rattle.vector_report.proofs.Common.{Vector}

same_chars : (a b : Vector) → a.chars ≡ b.chars → a ≡ b
same_chars a b same = ap (λ (chars : List ℕ). let v : Vector = record { chars = chars } in v) same

pub vector_decides : (a b : Vector) → Decides (bytes_eq a.chars b.chars) (a ≡ b)
vector_decides a b =
    Decides-like (bytes_eq a.chars b.chars) (same_chars a b) (λ same. ap (λ (v : Vector). v.chars) same) (bytes_eq-Decides a.chars b.chars)
