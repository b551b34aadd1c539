-- Some part of the sections is the target of an enable if the sections have one.
use Rattle.std.proofs.Common.{◌≡◌, ℕ, Bool, true, false, ◌||◌, List, [], ◌∷◌, if◌then◌else◌, map, refl, sym, ap, ap₂, ◌∙◌}
use Rattle.placer.proofs.Common.{list_any, flat_map, list_any-append, Part, SectionTree, PartTree, view_part, view_section_parts, read_parts, parts_of, with_parts}
use Rattle.abel_meaning.specs.Reads.{has_enables, is_enable_part}
use Rattle.name_uses.proofs.HoldingParts.{Follows}
use Rattle.name_uses.specs.declared.part.Part.{Part as SourcePart}
use Rattle.name_uses.specs.declared.source.SectionParts.{SectionParts}
use Rattle.placer.specs.PartReads.{enables_it}
use Rattle.placer.proofs.PartsRead.{any_given, in_sections}

abbrev yes : ℕ → Bool
yes n = true

-- one number if it is so
abbrev one_if : Bool → List ℕ
one_if b = if b then 0 ∷ [] else []

found_if : (b : Bool) → list_any yes (one_if b) ≡ b
found_if true = refl
found_if false = refl

gives : Follows (λ (p : PartTree). one_if (enables_it p)) (λ (u : Part). one_if (is_enable_part u))
gives = record { target = λ sign t. refl; value = λ target t. refl; read = λ t. refl; outputs = λ clocked t. refl; entry = λ t. refl }

viewed : (ps : List SourcePart) → list_any (λ (p : SourcePart). enables_it (view_part p)) ps ≡ list_any enables_it (map view_part ps)
viewed [] = refl
viewed (p ∷ ps) = ap (λ b. enables_it (view_part p) || b) (viewed ps)

pub all_viewed : (ss : List SectionParts) → list_any (λ (s : SectionParts). list_any (λ (p : SourcePart). enables_it (view_part p)) s.parts.items) ss ≡ list_any enables_it (flat_map parts_of (map view_section_parts ss))
all_viewed [] = refl
all_viewed (s ∷ ss) =
    ap₂ (λ a b. a || b) (viewed s.parts.items) (all_viewed ss)
    ∙ sym (list_any-append enables_it (map view_part s.parts.items) (flat_map parts_of (map view_section_parts ss)))

pub some_enable : (xs : List SectionTree) → list_any enables_it (flat_map parts_of (map with_parts xs)) ≡ has_enables xs
some_enable xs =
    sym (any_given yes enables_it (λ (p : PartTree). one_if (enables_it p)) (λ p. found_if (enables_it p)) (flat_map parts_of (map with_parts xs)))
    ∙ ap (list_any yes) (in_sections (λ (p : PartTree). one_if (enables_it p)) (λ (u : Part). one_if (is_enable_part u)) gives (λ t. refl) xs)
    ∙ any_given yes is_enable_part (λ (u : Part). one_if (is_enable_part u)) (λ u. found_if (is_enable_part u)) (flat_map read_parts xs)
