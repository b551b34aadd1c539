-- Looking a name up in the table.
use Rattle.std.proofs.Common.{◌≡◌, ℕ, ◌+◌, Bool, true, false, List, [], ◌∷◌, ◌++◌, Option, Some, None, map, refl, sym, ap, ◌∙◌, if◌then◌else◌, cond, is_some, option_map, option_copied}
use Rattle.decls.proofs.Common.{Vec, position, position_from, position_from-zero, bytes_eq, lookup, keys_of, Table, Kind, APin, ANode, AConstant, ADeviceName, Entry, kind_of, find, passes, view_meaning, Known, kept_kind, kept, view_known, wanted}
use denote.Ref.{Bor}

abbrev pub known_kind : Option Known → Option Kind
known_kind o = option_map (λ x. view_meaning x.meaning) o

-- ---- kinds

chosen_kind : (b : Bool) (x : Known) (o : Option Known) (p : Option Kind) → known_kind o ≡ p → known_kind (cond b (Some x) o) ≡ (if b then Some (view_meaning x.meaning) else p)
chosen_kind true x o p e = refl
chosen_kind false x o p e = e

found_rows : (name : List ℕ) (rows : List (Vec ℕ × Known)) → known_kind (lookup (λ k. bytes_eq name k.items) rows) ≡ kind_of (map view_known rows) name
found_rows name [] = refl
found_rows name (x ∷ rows) = chosen_kind (bytes_eq name x.0.items) x.1 (lookup (λ k. bytes_eq name k.items) rows) (kind_of (map view_known rows) name) (found_rows name rows)

chosen_kept : (t : Table) (b : Bool) (k : Kind) (o : Option Kind) (p : Option Kind) → o ≡ option_map (kept_kind t) p → (if b then Some (kept_kind t k) else o) ≡ option_map (kept_kind t) (if b then Some k else p)
chosen_kept t true k o p e = refl
chosen_kept t false k o p e = e

found_kept : (t : Table) (name : List ℕ) (es : List Entry) → kind_of (map (kept t) es) name ≡ option_map (kept_kind t) (kind_of es name)
found_kept t name [] = refl
found_kept t name (e ∷ es) = chosen_kept t (bytes_eq name e.name) e.kind (kind_of (map (kept t) es) name) (kind_of es name) (found_kept t name es)

-- what the table finds
pub found : (t : Table) (rows : List (Vec ℕ × Known)) (es : List Entry) (name : List ℕ) → map view_known rows ≡ map (kept t) es → known_kind (lookup (λ k. bytes_eq name k.items) rows) ≡ option_map (kept_kind t) (kind_of es name)
found t rows es name e = found_rows name rows ∙ (ap (λ xs. kind_of xs name) e ∙ found_kept t name es)

wanted_kept : (t : Table) (signal : Bool) (k : Kind) → wanted signal (kept_kind t k) ≡ wanted signal k
wanted_kept t true (APin n b) = refl
wanted_kept t true (ANode n) = refl
wanted_kept t true (AConstant v) = refl
wanted_kept t true ADeviceName = refl
wanted_kept t false (APin n b) = refl
wanted_kept t false (ANode n) = refl
wanted_kept t false (AConstant v) = refl
wanted_kept t false ADeviceName = refl

passes_kept : (t : Table) (signal : Bool) (o : Option Kind) → passes (wanted signal) (option_map (kept_kind t) o) ≡ passes (wanted signal) o
passes_kept t signal None = refl
passes_kept t signal (Some k) = wanted_kept t signal k

-- whether a found name is as wanted
pub is_as_wanted : (t : Table) (signal b : Bool) (k : Kind) (r : Option (Bor Known)) (o : Option Kind) → known_kind (option_copied r) ≡ option_map (kept_kind t) o → known_kind (option_copied r) ≡ Some k → b ≡ wanted signal k → b ≡ passes (wanted signal) o
is_as_wanted t signal b k r o e f g = g ∙ (ap (passes (wanted signal)) (sym f ∙ e) ∙ passes_kept t signal o)

pub is_unknown : (t : Table) (signal : Bool) (r : Option (Bor Known)) (o : Option Kind) → known_kind (option_copied r) ≡ option_map (kept_kind t) o → r ≡ None → false ≡ passes (wanted signal) o
is_unknown t signal r o e f = ap (λ x. passes (wanted signal) (known_kind (option_copied x))) (sym f) ∙ (ap (passes (wanted signal)) e ∙ passes_kept t signal o)

pub is_found : (t : Table) (r : Option (Bor Known)) (o : Option Kind) → known_kind (option_copied r) ≡ option_map (kept_kind t) o → is_some o ≡ is_some r
is_found t None None e = refl
is_found t None (Some m) e = absurd cc
is_found t (Some x) None e = absurd cc
is_found t (Some x) (Some m) e = refl

pub none_found : (r : Option (Bor Known)) → is_some r ≡ false → option_copied r ≡ None
none_found None e = refl
none_found (Some x) e = absurd cc

-- ---- numbers

number_rows : (name : List ℕ) (i : ℕ) (rows : List (Vec ℕ × Known)) → position_from (λ k. bytes_eq name k.items) i (keys_of rows) ≡ position_from (λ (e : Entry). bytes_eq name e.name) i (map view_known rows)
number_rows name i [] = refl
number_rows name i (x ∷ rows) = ap (cond (bytes_eq name x.0.items) (Some i)) (number_rows name (i + 1) rows)

number_kept : (t : Table) (name : List ℕ) (i : ℕ) (es : List Entry) → position_from (λ (e : Entry). bytes_eq name e.name) i (map (kept t) es) ≡ position_from (λ (e : Entry). bytes_eq name e.name) i es
number_kept t name i [] = refl
number_kept t name i (e ∷ es) = ap (cond (bytes_eq name e.name) (Some i)) (number_kept t name (i + 1) es)

pub number_found : (t : Table) (rows : List (Vec ℕ × Known)) (es : List Entry) (name : List ℕ) → map view_known rows ≡ map (kept t) es → position (λ k. bytes_eq name k.items) (keys_of rows) ≡ find es name
number_found t rows es name e =
    position_from-zero (λ k. bytes_eq name k.items) (keys_of rows)
    ∙ (number_rows name 0 rows ∙ (ap (position_from (λ (x : Entry). bytes_eq name x.name) 0) e ∙ (number_kept t name 0 es
    ∙ sym (position_from-zero (λ (x : Entry). bytes_eq name x.name) es))))

-- a name that has a number keeps it
kept_chosen : (b : Bool) (i n : ℕ) (o p : Option ℕ) → (o ≡ Some n → p ≡ Some n) → cond b (Some i) o ≡ Some n → cond b (Some i) p ≡ Some n
kept_chosen true i n o p f e = e
kept_chosen false i n o p f e = f e

number_stays_from : (name : List ℕ) (i n : ℕ) (es fs : List Entry) → position_from (λ (x : Entry). bytes_eq name x.name) i es ≡ Some n → position_from (λ (x : Entry). bytes_eq name x.name) i (es ++ fs) ≡ Some n
number_stays_from name i n [] fs e = absurd cc
number_stays_from name i n (x ∷ es) fs e = kept_chosen (bytes_eq name x.name) i n _ _ (number_stays_from name (i + 1) n es fs) e

pub number_stays : (name : List ℕ) (n : ℕ) (es fs : List Entry) → find es name ≡ Some n → find (es ++ fs) name ≡ Some n
number_stays name n es fs e =
    position_from-zero (λ (x : Entry). bytes_eq name x.name) (es ++ fs)
    ∙ number_stays_from name 0 n es fs (sym (position_from-zero (λ (x : Entry). bytes_eq name x.name) es) ∙ e)
