-- Whether a string of a module says `buffer`: one of its declarations, or of its sections.
use Rattle.std.proofs.Common.{◌≡◌, Bool, true, false, ◌||◌, List, [], ◌∷◌, ◌++◌, map, refl, sym, ap, ap₂, ◌∙◌}
use Rattle.decls.proofs.Common.{list_any, append-nil, list_any-append, Decl, Section, view_decl, view_section, section_declarations, says_buffer}
use Rattle.decls.proofs.FirstStrings.{sections_append}

abbrev pub some_say : List Decl → Bool
some_say ds = list_any (λ (d : Decl). says_buffer (view_decl d)) ds

abbrev pub sections_say : List Section → Bool
sections_say xs = list_any (λ (x : Section). list_any says_buffer (section_declarations (view_section x ∷ []))) xs

some_same : (ds : List Decl) → some_say ds ≡ list_any says_buffer (map view_decl ds)
some_same [] = refl
some_same (d ∷ ds) = ap (λ b. says_buffer (view_decl d) || b) (some_same ds)

-- the declarations of one section
pub one_same : (ds : List Decl) → some_say ds ≡ list_any says_buffer (map view_decl ds ++ [])
one_same ds = some_same ds ∙ ap (list_any says_buffer) (sym (append-nil (map view_decl ds)))

sections_same : (xs : List Section) → sections_say xs ≡ list_any says_buffer (section_declarations (map view_section xs))
sections_same [] = refl
sections_same (x ∷ xs) =
    ap (λ b. list_any says_buffer (section_declarations (view_section x ∷ [])) || b) (sections_same xs)
    ∙ (sym (list_any-append says_buffer (section_declarations (view_section x ∷ [])) (section_declarations (map view_section xs)))
    ∙ ap (list_any says_buffer) (sym (sections_append (view_section x ∷ []) (map view_section xs))))

module_same : (ds : List Decl) (xs : List Section) → (some_say ds || sections_say xs) ≡ list_any says_buffer (map view_decl ds ++ section_declarations (map view_section xs))
module_same ds xs =
    ap₂ (λ a b. a || b) (some_same ds) (sections_same xs)
    ∙ sym (list_any-append says_buffer (map view_decl ds) (section_declarations (map view_section xs)))

pub found_before : (ds : List Decl) (xs : List Section) → some_say ds ≡ true → true ≡ list_any says_buffer (map view_decl ds ++ section_declarations (map view_section xs))
found_before ds xs h = ap (λ b. b || sections_say xs) (sym h) ∙ module_same ds xs

pub found_behind : (ds : List Decl) (xs : List Section) → some_say ds ≡ false → sections_say xs ≡ list_any says_buffer (map view_decl ds ++ section_declarations (map view_section xs))
found_behind ds xs h = ap (λ b. b || sections_say xs) (sym h) ∙ module_same ds xs
