-- A vector of a module has a character for each pin of the device, at most 31.
use Rattle.std.proofs.Common.{◌≡◌, ℕ, ◌≤◌, List, [], ◌∷◌, ◌++◌, get_or, length, map, arith}
use Rattle.compile_phases.proofs.Common.{IsDevice, Table, ModuleTree, SectionTree, RowTree, Declarations, Equations, ATable, ADiagram, SomeVectors, DontCareSection, Context, design_of}
use Rattle.std.specs.List.{All, range_with_len}
use Rattle.std.proofs.lemmas.List.{length-map}
use Rattle.std.proofs.lemmas.List.Elements.{All-append, All-map, All-nil}
use Rattle.std.proofs.lemmas.List.FromFn.{length-range_with_len}
use Rattle.abel_meaning.specs.Terms.{Term, term_of}
use Rattle.abel_meaning.specs.Vectors.{pin_char, row_chars, section_vectors, sections_vectors, source_vectors}

abbrev pub IsNarrow : List ℕ → Type 0
IsNarrow chars = length chars ≤ 31

module _ (d : Context) (few : d.device.pins ≤ 31) where
  row_narrow : (inputs outputs : Term) (row : RowTree) → IsNarrow (row_chars d inputs outputs row)
  row_narrow inputs outputs row =
      omega (arith, few, length-map (range_with_len 1 d.device.pins) (pin_char d inputs outputs row), length-range_with_len 1 d.device.pins)

  section_narrow : (s : SectionTree) → All IsNarrow (section_vectors d s)
  section_narrow (Declarations list) = All-nil IsNarrow
  section_narrow (Equations list) = All-nil IsNarrow
  section_narrow (ATable place inputs clocked outputs rows) = All-nil IsNarrow
  section_narrow (ADiagram place registers states) = All-nil IsNarrow
  section_narrow (SomeVectors _ place inputs outputs rows) =
      All-map IsNarrow (row_chars d (term_of d.known inputs) (term_of d.known outputs)) rows
      (λ k row within. row_narrow (term_of d.known inputs) (term_of d.known outputs) (get_or rows k row))
  section_narrow (DontCareSection which) = All-nil IsNarrow

  sections_narrow : (ss : List SectionTree) → All IsNarrow (sections_vectors d ss)
  sections_narrow [] = All-nil IsNarrow
  sections_narrow (s ∷ ss) = All-append IsNarrow (section_vectors d s) (sections_vectors d ss) (section_narrow s) (sections_narrow ss)

pub vectors_narrow : (t : Table) → IsDevice t → (m : ModuleTree) → All IsNarrow (source_vectors t m)
vectors_narrow t laws m = let few = laws.sizes.pins_high in sections_narrow (design_of t m).context (omega (arith, few)) (design_of t m).sections
