-- Devices with as many fuses and pins read a fuse file alike.
use Rattle.std.proofs.Common.{◌≡◌, ℕ, ◌+◌, ◌-◌, Bool, false, ◌&&◌, ◌||◌, if◌then◌else◌, Option, Some, None, List, [], ◌∷◌, Ok, Err, length, map, refl, ap, ap₂, ◌∙◌, unwrap_or}
use Rattle.std.specs.Prelude.{◌==◌, nat_lt, filter_map, option_and_then}
use Rattle.std.specs.List.{concat, list_all, range_with_len}
use Rattle.pld_device.specs.Table.{Table}
use Rattle.jedec_file.specs.declared.field.Field.{Field}
use Rattle.jedec_file.specs.declared.jedec_fault.JedecFault.TheVariants as fault
use Rattle.jedec_file.specs.FieldLists.{behind_design, field_at, fields_from, fields_of, pieces}
use Rattle.jedec_file.specs.Fields.{each_of, field_of, level_of, levels_field, levels_from, number, order_field, trimmed, vector_field, words}
use Rattle.jedec_file.specs.Frame.{Framed, frame_of}
use Rattle.jedec_file.specs.FuseFile.{by_pins, contents_of, default_of, ends_by, file_of, fuse_count, fuses_said, is_pin_count, is_size, last_of, level_at, order_of, pin_count, pin_order, size_of, size_said, vector_at, vectors_of}
use Rattle.jedec_file.specs.Refusals.{Read, ◌>>=◌}

-- both have as many fuses and pins, and the same smaller number of fuses
pub record SameSizes (t u : Table) : Type 0 where
  pub fuses : t.fuses ≡ u.fuses
  pub short : t.short ≡ u.short
  pub pins : t.pins ≡ u.pins

-- a step that is followed alike
step_same : {A B : Type 0} (first : Read A) (next other : A → Read B) → ((x : A) → next x ≡ other x)
    → ◌>>=◌ {A = A} {B = B} first next ≡ ◌>>=◌ {A = A} {B = B} first other
step_same (Ok x) next other alike = alike x
step_same (Err e) next other alike = refl

-- a number of fuses that is said, if it fits
abbrev size_if : ℕ → Bool → Read ℕ
size_if n fits = if fits then Ok n else Err fault.WrongSize

module _ (t u : Table) (same : SameSizes t u) where
  -- ---- fields

  levels_same : (first : ℕ) (levels : List Bool) → levels_from t first levels ≡ levels_from u first levels
  levels_same first [] = refl
  levels_same first (level ∷ levels) = rw same.fuses refl

  levels_by : (first : Option ℕ) (levels : Option (List Bool))
      → option_and_then (λ n. option_and_then (levels_from t n) levels) first ≡ option_and_then (λ n. option_and_then (levels_from u n) levels) first
  levels_by None levels = refl
  levels_by (Some n) None = refl
  levels_by (Some n) (Some levels) = levels_same n levels

  levels_field_same : (ws : List (List ℕ)) → levels_field t ws ≡ levels_field u ws
  levels_field_same [] = refl
  levels_field_same (first ∷ rest) = levels_by (number first) (each_of level_of (concat rest))

  order_field_same : (ws : List (List ℕ)) → order_field t ws ≡ order_field u ws
  order_field_same ws = rw same.pins refl

  vector_field_same : (ws : List (List ℕ)) → vector_field t ws ≡ vector_field u ws
  vector_field_same [] = refl
  vector_field_same (first ∷ rest) = rw same.pins refl

  field_same : (letter : ℕ) (text : List ℕ) → field_of t letter text ≡ field_of u letter text
  unfolding field_of
  field_same letter text = rw (levels_field_same (words text), order_field_same (words text), vector_field_same (words text)) refl

  at_same : (at : ℕ) (text : List ℕ) → field_at t at text ≡ field_at u at text
  unfolding field_at
  at_same at [] = refl
  at_same at (letter ∷ text) = rw (field_same letter text) refl

  from_same : (at : ℕ) (ps : List (List ℕ)) → fields_from t at ps ≡ fields_from u at ps
  unfolding fields_from
  from_same at [] = refl
  from_same at (piece ∷ []) = refl
  from_same at (piece ∷ next ∷ rest) =
      rw (at_same (at + (length piece - length (trimmed piece))) (trimmed piece), from_same (at + length piece + 1) (next ∷ rest)) refl

  behind_same : (at : ℕ) (ps : List (List ℕ)) → behind_design t at ps ≡ behind_design u at ps
  unfolding behind_design
  behind_same at [] = refl
  behind_same at (design ∷ []) = refl
  behind_same at (design ∷ next ∷ rest) = from_same (at + length design + 1) (next ∷ rest)

  -- ---- what they say

  pin_count_same : (count : Option ℕ) → is_pin_count t count ≡ is_pin_count u count
  pin_count_same None = refl
  pin_count_same (Some n) = ap (λ pins. n == pins) same.pins

  is_size_same : (fields : List Field) (n : ℕ) → is_size t fields n ≡ is_size u fields n
  is_size_same fields n =
      ap₂ (λ fuses short. (n == fuses || n == short) && (is_pin_count t (last_of pin_count fields) && list_all (ends_by n) fields)) same.fuses same.short
      ∙ ap (λ fits. (n == u.fuses || n == u.short) && (fits && list_all (ends_by n) fields)) (pin_count_same (last_of pin_count fields))

  said_same : (fields : List Field) (count : Option ℕ) → size_said t fields count ≡ size_said u fields count
  said_same fields None = refl
  said_same fields (Some n) = ap (λ (fits : Bool). size_if n fits) (is_size_same fields n)

  size_same : (fields : List Field) → size_of t fields ≡ size_of u fields
  unfolding size_of
  size_same fields = said_same fields (last_of fuse_count fields)

  fuses_same : (fields : List Field) (listed : ℕ) (default : Bool) → fuses_said t fields listed default ≡ fuses_said u fields listed default
  unfolding fuses_said
  fuses_same fields listed default =
      ap (λ count. map (λ n. if nat_lt n listed then unwrap_or (last_of (level_at n) fields) default else false) (range_with_len 0 count)) same.fuses

  order_same : (fields : List Field) → order_of t fields ≡ order_of u fields
  order_same fields = ap (λ pins. unwrap_or (last_of pin_order fields) (range_with_len 1 pins)) same.pins

  vectors_same : (fields : List Field) → vectors_of t fields ≡ vectors_of u fields
  unfolding vectors_of
  vectors_same fields =
      ap (λ order. map (by_pins order) (filter_map (λ n. last_of (vector_at n) fields) (range_with_len 1 65535))) (order_same fields)

  contents_same : (fields : List Field) → contents_of t fields ≡ contents_of u fields
  unfolding contents_of
  contents_same fields =
      rw (size_same fields)
      (step_same (size_of u fields) _ _ (λ listed.
      step_same (default_of fields listed) _ _ (λ default.
      rw (fuses_same fields listed default, vectors_same fields) refl)))

  -- ---- the file

  pub file_same : (bytes : List ℕ) → file_of t bytes ≡ file_of u bytes
  unfolding file_of
  file_same bytes =
      step_same (frame_of bytes) _ _ (λ framed.
      rw (behind_same framed.at (pieces framed.text)) (step_same (fields_of u framed) _ _ contents_same))
