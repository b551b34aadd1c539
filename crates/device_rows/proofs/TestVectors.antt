-- Vectors that each pass a test are test vectors.
use Rattle.std.proofs.Common.{◌≡◌, true, List, [], ◌∷◌}
use Rattle.std.specs.Prelude.{All}
use Rattle.std.specs.List.{list_all}
use Rattle.std.proofs.lemmas.Bool.{and_parts}
use Rattle.std.proofs.lemmas.List.Elements.{All-nil, All-cons}
use Rattle.pld_base.specs.declared.point.Vector.{Vector}
use Rattle.pld_device.specs.Table.{Table}
use Rattle.jedec_file.specs.Fields.{is_test_char}
use Rattle.jedec_file.specs.TestVectors.{IsTestVector, chars_of}

pub all_test : (t : Table) (vs : List Vector) → list_all (λ v. list_all is_test_char (chars_of t v)) vs ≡ true → All (IsTestVector t) vs
all_test t [] e = All-nil (IsTestVector t)
all_test t (v ∷ vs) e = All-cons (IsTestVector t) v vs (and_parts _ _ e).0 (all_test t vs (and_parts _ _ e).1)
