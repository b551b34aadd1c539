-- Names that are assigned, one after the other.
use Rattle.std.proofs.Common.{◌≡◌, ℕ, ◌+◌, ◌<◌, Bool, true, false, ◌||◌, List, [], ◌∷◌, ◌++◌, length, drop, get_or, map, Some, None, Bor, bytes_eq, filter_map, if◌then◌else◌, refl, sym, ap, ap₂, ◌∙◌, append_assoc}
use Rattle.std.specs.List.{list_any}
use Rattle.std.proofs.lemmas.List.{drop_more}
use Rattle.abel_tree.specs.View.{view_section, view_stmt}
use Rattle.abel_tree.specs.declared.sections.Section.{Section}
use Rattle.abel_tree.specs.declared.statements.Stmt.{Stmt}
use Rattle.abel_tree.specs.declared.words.Word.{Word}
use Rattle.reports.specs.Warnings.{is_vectors, name_assigned, seconds, warned}
use Rattle.reports.specs.declared.warning.Cause.TheVariants.{SecondAssignment}
use Rattle.reports.specs.declared.warning.Warning.{Warning}

-- names that are read elsewhere
abbrev pub names_at : List (Bor (List ℕ)) → List (List ℕ)
names_at seen = map (λ (s : Bor (List ℕ)). s.now) seen

seen_at : (name : List ℕ) (seen : List (Bor (List ℕ))) → list_any (λ (s : Bor (List ℕ)). bytes_eq name s.now) seen ≡ list_any (bytes_eq name) (names_at seen)
seen_at name [] = refl
seen_at name (s ∷ seen) = ap (λ b. bytes_eq name s.now || b) (seen_at name seen)

pub seen_as : (name bytes : List ℕ) (seen slice : List (Bor (List ℕ))) (is : Bool) → bytes ≡ name → slice ≡ seen → is ≡ list_any (λ (s : Bor (List ℕ)). bytes_eq bytes s.now) slice
    → is ≡ list_any (bytes_eq name) (names_at seen)
seen_as name bytes seen slice is e same told =
    told ∙ (ap₂ (λ (n : List ℕ) (xs : List (Bor (List ℕ))). list_any (λ (s : Bor (List ℕ)). bytes_eq n s.now) xs) e same ∙ seen_at name seen)

-- an assignment of a name that is seen is reported
pub second_told : (seen : List (List ℕ)) (w : Word) (ws : List Word) (before : List Warning) → true ≡ list_any (bytes_eq w.text) seen
    → (before ++ warned SecondAssignment w.place w.text ∷ []) ++ seconds seen ws ≡ before ++ seconds seen (w ∷ ws)
second_told seen w ws before is =
    append_assoc before (warned SecondAssignment w.place w.text ∷ []) (seconds seen ws)
    ∙ ap (λ (b : Bool). before ++ (if b then warned SecondAssignment w.place w.text ∷ seconds seen ws else seconds (seen ++ w.text ∷ []) ws)) is

-- another name is seen from then on
pub second_seen : (seen : List (List ℕ)) (w : Word) (ws : List Word) (before : List Warning) → false ≡ list_any (bytes_eq w.text) seen
    → before ++ seconds (seen ++ w.text ∷ []) ws ≡ before ++ seconds seen (w ∷ ws)
second_seen seen w ws before is =
    ap (λ (b : Bool). before ++ (if b then warned SecondAssignment w.place w.text ∷ seconds seen ws else seconds (seen ++ w.text ∷ []) ws)) is

-- the names that statements from one on assign
abbrev pub names_from : List Stmt → ℕ → List Word
names_from statements k = filter_map name_assigned (map view_stmt (drop k statements))

pub names_more : (statements : List Stmt) (k : ℕ) (s : Stmt) (w : Word) → k < length statements → get_or statements k s ≡ s → Some w ≡ name_assigned (view_stmt s)
    → names_from statements k ≡ w ∷ names_from statements (k + 1)
names_more statements k s w low at is = rw (drop_more statements k s low, at, sym is) refl

pub names_skip : (statements : List Stmt) (k : ℕ) (s : Stmt) → k < length statements → get_or statements k s ≡ s → None ≡ name_assigned (view_stmt s)
    → names_from statements k ≡ names_from statements (k + 1)
names_skip statements k s low at is = rw (drop_more statements k s low, at, sym is) refl

-- a test of sections by what they represent
any_viewed : (xs : List Section) → list_any (λ (s : Section). is_vectors (view_section s)) xs ≡ list_any is_vectors (map view_section xs)
any_viewed [] = refl
any_viewed (x ∷ xs) = ap (λ b. is_vectors (view_section x) || b) (any_viewed xs)

pub any_sections : (all slice : List Section) (has : Bool) → slice ≡ all → has ≡ list_any (λ (s : Section). is_vectors (view_section s)) slice
    → has ≡ list_any is_vectors (map view_section all)
any_sections all slice has same is = is ∙ (ap (λ (xs : List Section). list_any (λ (s : Section). is_vectors (view_section s)) xs) same ∙ any_viewed all)
