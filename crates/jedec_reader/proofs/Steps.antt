-- The steps from fields to the file, as the code takes them.
use Rattle.std.proofs.Common.{◌≡◌, ℕ, ◌+◌, ◌≤◌, Bool, true, false, List, [], ◌∷◌, Option, Some, None, Result, Ok, Err, length, take, get_or, refl, ap, ◌∙◌, sym, arith, inl, inr, IfOk, IfErr, ◌==◌, ◌&&◌, ◌||◌, if◌then◌else◌, nat_lt, is_none, map, position, unwrap_or}
use Rattle.jedec_reader.proofs.Common.{position_or_len, range_with_len, eqb-true, cases_Bool, length-map, fill_by_all, get_or-map-range_with_len, length-map-range_with_len, take-map-range_with_len, Field, JedecFault, last_of, fuse_count, pin_count, default_fuse, level_at, sum_said, default_test, size_of, default_of, none_unlisted, fuses_said, fuse_sum_read, sum_agrees, vectors_of, contents_of, Read, Refuses, Gives, Table, levels_said, default_in, filled, size_fits}
use Rattle.jedec_file.specs.declared.jedec_fault.JedecFault.TheVariants as fault
use Rattle.jedec_file.specs.FuseSums.{fuse_sum_of}

-- ---- refusals

-- a refusal of a step is that of the whole
pub refuses_with : {A B : Type 0} (e : JedecFault) (step : Read A) (whole : Read B) → ((f : JedecFault) → step ≡ Err f → whole ≡ Err f) → Refuses e step → Refuses e whole
refuses_with fault.OutOfMemory step whole through is = tt
refuses_with fault.NoStart step whole through is = through _ is
refuses_with fault.NoEnd step whole through is = through _ is
refuses_with (fault.FileSum read found) step whole through is = through _ is
refuses_with (fault.BadField at) step whole through is = through _ is
refuses_with (fault.UnsupportedField at) step whole through is = through _ is
refuses_with fault.WrongSize step whole through is = through _ is
refuses_with (fault.Unlisted n) step whole through is = through _ is
refuses_with (fault.FuseSum read found) step whole through is = through _ is

-- ---- sizes

pub size_found : (t : Table) (fs : List Field) (pins : Option ℕ) (count : ℕ) → Some count ≡ last_of fuse_count fs → pins ≡ last_of pin_count fs → size_fits t pins fs count ≡ true → size_of t fs ≡ Ok count
unfolding size_of
size_found t fs pins count is pins_is fits = rw (← is, ← pins_is, fits) refl

pub size_misfit : (t : Table) (fs : List Field) (pins : Option ℕ) (count : ℕ) → Some count ≡ last_of fuse_count fs → pins ≡ last_of pin_count fs → size_fits t pins fs count ≡ false → size_of t fs ≡ Err fault.WrongSize
unfolding size_of
size_misfit t fs pins count is pins_is misfit = rw (← is, ← pins_is, misfit) refl

pub size_unsaid : (t : Table) (fs : List Field) → None ≡ last_of fuse_count fs → size_of t fs ≡ Err fault.WrongSize
unfolding size_of
size_unsaid t fs is = rw (← is) refl

one_of : (a b : ℕ) (x y rest : Bool) → (x ≡ true → a ≤ b) → (y ≡ true → a ≤ b) → ((x || y) && rest) ≡ true → a ≤ b
one_of a b true y rest left right is = left refl
one_of a b false true rest left right is = right refl
one_of a b false false rest left right is = absurd cc

pub size_few : (t : Table) (fs : List Field) (pins : Option ℕ) (count : ℕ) → t.short ≤ t.fuses → size_fits t pins fs count ≡ true → count ≤ t.fuses
size_few t fs pins count short fits =
    one_of count t.fuses (count == t.fuses) (count == t.short) _
    (λ is. omega (arith, eqb-true count t.fuses is)) (λ is. omega (arith, eqb-true count t.short is)) fits

-- ---- levels

position_or_len-map : {A B : Type 0} (p : B → Bool) (f : A → B) (xs : List A) → position_or_len p (map f xs) ≡ position_or_len (λ x. p (f x)) xs
position_or_len-map p f [] = refl
position_or_len-map p f (x ∷ xs) = elim (cases_Bool (p (f x))) [
  | inl passes ↦ rw passes refl
  | inr fails ↦ rw fails (ap (λ n. 1 + n) (position_or_len-map p f xs))
]

position-map : {A B : Type 0} (p : B → Bool) (f : A → B) (xs : List A) → position p (map f xs) ≡ position (λ x. p (f x)) xs
position-map p f xs = rw (position_or_len-map p f xs, length-map xs f) refl

pub default_found : (fs : List Field) (fuses listed : ℕ) (table : List (Option Bool)) (said : Option Bool) → table ≡ levels_said fs fuses → listed ≤ fuses → said ≡ last_of default_fuse fs
    → default_in (take listed table) said ≡ default_of fs listed
unfolding default_of
default_found fs fuses listed table (Some level) is few said_is = rw (← said_is) refl
default_found fs fuses listed table None is few said_is =
    rw (← said_is, is, take-map-range_with_len (λ n. last_of (level_at n) fs) 0 fuses listed few)
    (ap none_unlisted (position-map is_none (λ n. last_of (level_at n) fs) (range_with_len 0 listed)))

pub default_read : (t : Table) (fs : List Field) (listed : ℕ) (table : List (Option Bool)) (said : Option Bool) (front : List (Option Bool)) (default : Bool) → table ≡ levels_said fs t.fuses → listed ≤ t.fuses
    → said ≡ last_of default_fuse fs → front ≡ take listed table → default_in front said ≡ Ok default → default_of fs listed ≡ Ok default
default_read t fs listed table said front default is few said_is front_is found =
    sym (default_found fs t.fuses listed table said is few said_is) ∙ (ap (λ (f : List (Option Bool)). default_in f said) (sym front_is) ∙ found)

filled_levels : (t : Table) (fs : List Field) (listed : ℕ) (default : Bool) (table : List (Option Bool)) → table ≡ levels_said fs t.fuses → filled table listed default ≡ fuses_said t fs listed default
unfolding fuses_said
filled_levels t fs listed default table is =
    fill_by_all level (filled table listed default) t.fuses false
    (length-map-range_with_len entry 0 (length table) ∙ count)
    (λ k low. get_or-map-range_with_len entry 0 (length table) k k false (omega (arith, low, count)) (omega arith)
    ∙ ap (λ (said : Option Bool). if nat_lt k listed then unwrap_or said default else false) (ap (λ (all : List (Option Bool)). get_or all k None) is ∙ get_or-map-range_with_len (λ n. last_of (level_at n) fs) 0 t.fuses k k None low (omega arith)))
  where
    level : ℕ → Bool
    level n = if nat_lt n listed then unwrap_or (last_of (level_at n) fs) default else false

    entry : ℕ → Bool
    entry n = if nat_lt n listed then unwrap_or (get_or table n None) default else false

    count : length table ≡ t.fuses
    count = ap length is ∙ length-map-range_with_len (λ n. last_of (level_at n) fs) 0 t.fuses

pub levels_read : (t : Table) (fs : List Field) (listed : ℕ) (default : Bool) (table lent : List (Option Bool)) (levels : List Bool) → table ≡ levels_said fs t.fuses → lent ≡ table
    → levels ≡ filled lent listed default → levels ≡ fuses_said t fs listed default
levels_read t fs listed default table lent levels is lent_is levels_are =
    levels_are ∙ (ap (λ (all : List (Option Bool)). filled all listed default) lent_is ∙ filled_levels t fs listed default table is)

pub fuses_said-length : (t : Table) (fs : List Field) (listed : ℕ) (default : Bool) → length (fuses_said t fs listed default) ≡ t.fuses
unfolding fuses_said
fuses_said-length t fs listed default = length-map-range_with_len (λ n. if nat_lt n listed then unwrap_or (last_of (level_at n) fs) default else false) 0 t.fuses

pub sum_found : (fs : List Field) (listed : ℕ) (levels : List Bool) (said : Option ℕ) → said ≡ last_of sum_said fs → sum_agrees said (fuse_sum_of (take listed levels)) ≡ fuse_sum_read fs listed levels
unfolding fuse_sum_read
sum_found fs listed levels said is = rw is refl

-- ---- the file

module _ (t : Table) (fs : List Field) where
  pub size_refused : (e : JedecFault) → size_of t fs ≡ Err e → contents_of t fs ≡ Err e
  unfolding contents_of
  size_refused e is = rw is refl

  module _ (listed : ℕ) (size : size_of t fs ≡ Ok listed) where
    pub default_refused : (e : JedecFault) → default_of fs listed ≡ Err e → contents_of t fs ≡ Err e
    unfolding contents_of
    default_refused e is = rw (size, is) refl

    module _ (default : Bool) (default_is : default_of fs listed ≡ Ok default) where
      pub sum_refused : (e : JedecFault) → fuse_sum_read fs listed (fuses_said t fs listed default) ≡ Err e → contents_of t fs ≡ Err e
      unfolding contents_of
      sum_refused e is = rw (size, default_is, is) refl

      pub all_read : (sum : ℕ) → fuse_sum_read fs listed (fuses_said t fs listed default) ≡ Ok sum
          → contents_of t fs ≡ Ok (record { fuses = fuses_said t fs listed default; listed = listed; vectors = vectors_of t fs; default_level = unwrap_or (last_of default_test fs) false })
      unfolding contents_of
      all_read sum is = rw (size, default_is, is) refl

-- ---- answers

-- what a call gives, by its two answers
pub gives_ok : {X Y : Type 0} (view : X → Y) (answer : Result X JedecFault) (read : Read Y) → Gives view answer read → IfOk answer (λ x. read ≡ Ok (view x))
gives_ok view (Ok x) read is = is
gives_ok view (Err e) read is = tt

pub gives_err : {X Y : Type 0} (view : X → Y) (answer : Result X JedecFault) (read : Read Y) → Gives view answer read → IfErr answer (λ e. Refuses e read)
gives_err view (Ok x) read is = tt
gives_err view (Err e) read is = is
