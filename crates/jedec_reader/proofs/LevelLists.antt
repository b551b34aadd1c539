-- What lists of levels say of each fuse, one field more.
use Rattle.std.proofs.Common.{◌≡◌, ℕ, ◌+◌, ◌<◌, Bool, List, [], Option, None, length, take, get_or, replicate, refl, ap, ◌∙◌, sym, arith, subst, All}
use Rattle.jedec_reader.proofs.Common.{option_or, get_or-replicate, length-replicate, All-get_or, fill_by_all, get_or-map-range_with_len, length-map-range_with_len, Field, last_of, level_at, Table, FieldFits, levels_said, HasPut}
use Rattle.jedec_file.specs.declared.field.Field.TheVariants as field
use Rattle.jedec_reader.proofs.LastOf.{more_said}

-- a field of a list of fields that all fit
pub fits_at : (t : Table) (fs : List Field) (i : ℕ) (f : Field) → All (FieldFits t) fs → i < length fs → f ≡ get_or fs i f → FieldFits t f
fits_at t fs i f all low here = subst (FieldFits t) (sym here) (All-get_or (FieldFits t) fs i f low all)

-- nothing is said before the first field
pub said_none : (count : ℕ) → replicate count None ≡ levels_said [] count
said_none count = fill_by_all (λ n. last_of (level_at n) []) (replicate count None) count None (length-replicate count None) (λ k low. get_or-replicate count k None None low)

-- one entry a fuse
pub said_length : (fs : List Field) (count : ℕ) (table : List (Option Bool)) → table ≡ levels_said fs count → length table ≡ count
said_length fs count table is = ap length is ∙ length-map-range_with_len (λ n. last_of (level_at n) fs) 0 count

-- a list of levels over what was said before
pub said_put : (fs : List Field) (i : ℕ) (f : Field) (first : ℕ) (levels : List Bool) (count : ℕ) (old new : List (Option Bool)) → i < length fs → f ≡ get_or fs i f
    → f ≡ field.Levels first levels → HasPut first levels old new → length new ≡ length old → old ≡ levels_said (take i fs) count → new ≡ levels_said (take (i + 1) fs) count
said_put fs i f first levels count old new low here is put len so_far =
    fill_by_all (λ n. last_of (level_at n) (take (i + 1) fs)) new count None
    (len ∙ (ap length so_far ∙ length-map-range_with_len (λ n. last_of (level_at n) (take i fs)) 0 count))
    (λ n below. more_said (level_at n) fs i f (get_or old n None) (get_or new n None) low here
    (ap (λ (table : List (Option Bool)). get_or table n None) so_far ∙ get_or-map-range_with_len (λ n. last_of (level_at n) (take i fs)) 0 count n n None below (omega arith))
    (put n ∙ ap (λ g. option_or (level_at n g) (get_or old n None)) (sym is)))

-- another field says no level
other_level : (n : ℕ) (f : Field) → ((first : ℕ) (levels : List Bool) → f ≡ field.Levels first levels → ⊥) → level_at n f ≡ None
other_level n (field.FuseCount c) other = refl
other_level n (field.PinCount c) other = refl
other_level n (field.DefaultFuse b) other = refl
other_level n (field.Levels first levels) other = absurd (other first levels refl)
other_level n (field.FuseSum s) other = refl
other_level n (field.DefaultTest b) other = refl
other_level n (field.PinOrder order) other = refl
other_level n (field.Vector number chars) other = refl
other_level n field.Passed other = refl

pub said_other : (fs : List Field) (i : ℕ) (f : Field) (count : ℕ) (table : List (Option Bool)) → i < length fs → f ≡ get_or fs i f
    → ((first : ℕ) (levels : List Bool) → f ≡ field.Levels first levels → ⊥) → table ≡ levels_said (take i fs) count → table ≡ levels_said (take (i + 1) fs) count
said_other fs i f count table low here other so_far =
    fill_by_all (λ n. last_of (level_at n) (take (i + 1) fs)) table count None
    (ap length so_far ∙ length-map-range_with_len (λ n. last_of (level_at n) (take i fs)) 0 count)
    (λ n below. more_said (level_at n) fs i f (get_or table n None) (get_or table n None) low here
    (ap (λ (all : List (Option Bool)). get_or all n None) so_far ∙ get_or-map-range_with_len (λ n. last_of (level_at n) (take i fs)) 0 count n n None below (omega arith))
    (ap (λ o. option_or o (get_or table n None)) (sym (other_level n f other))))
