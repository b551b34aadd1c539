-- What is reported of the fuses of a module with its test vectors.
use Rattle.std.proofs.Common.{◌≡◌, ℕ, ◌≤◌, Bool, List, length, Ok, sym, ap, ◌∙◌, subst, arith}
use Rattle.abel_compile.proofs.Common.{Table, canonical_file, Entry, ModuleTree, design_of, names_of, source_vectors, design_cells, summary_of, Compiled, IsToldOf, fuses_and_vectors}
use Rattle.jedec_file.specs.FuseFile.{file_of}
use Rattle.fuse_listing.specs.Listing.{listing_text}

pub told_of : (t : Table) (declared : List Entry) (m : ModuleTree) (fuses : List Bool) (name : List ℕ) (es : List Entry) (count : ℕ) (vectors : List (List ℕ)) (c : Compiled) → vectors ≡ source_vectors t m
    → name ≡ m.name.text → es ≡ names_of t m → count ≡ design_cells (design_of t m).context
    → c.file.items ≡ canonical_file t name fuses vectors → (length name ≤ 31 → length c.file.items ≤ 400000)
    → file_of t c.file.items ≡ Ok (fuses_and_vectors t fuses vectors)
    → c.listing.items ≡ listing_text t fuses declared es → c.summary.items ≡ summary_of t count fuses
    → IsToldOf t declared m fuses c
told_of t declared m fuses name es count vectors c vectors_are name_is es_is count_is file short back listing line =
    record {
      canonical = file ∙ ap (λ (x : List ℕ). canonical_file t x fuses vectors) name_is ∙ ap (λ (vs : List (List ℕ)). canonical_file t m.name.text fuses vs) vectors_are;
      within = λ few. let most = short (subst (λ (x : List ℕ). length x ≤ 31) (sym name_is) few) in let low : length c.file.items ≤ 1048576 = omega (arith, most) in low;
      reads_back = subst (λ (vs : List (List ℕ)). file_of t c.file.items ≡ Ok (fuses_and_vectors t fuses vs)) vectors_are back;
      listing = listing ∙ ap (λ (xs : List Entry). listing_text t fuses declared xs) es_is;
      summary = line ∙ ap (λ (n : ℕ). summary_of t n fuses) count_is;
    }
