-- A fuse file has at most as many vectors as there are numbers of vectors.
use Rattle.std.proofs.Common.{◌≡◌, ℕ, ◌+◌, ◌≤◌, List, [], ◌∷◌, map, length, Option, Some, None, Ok, Err, subst, arith, filter_map}
use Rattle.grade_report.proofs.Common.{cons_option, range_with_len, length-map, length-range_with_len, Field, fields_of, frame_of, FuseFile, by_pins, contents_of, default_of, file_of, fuse_sum_read, last_of, fuses_said, order_of, size_of, vector_at, vectors_of, Read, ◌>>=◌, Table}

-- ---- of lists

few_with : {Y : Type 0} (said : Option Y) (rest : List Y) (n : ℕ) → length rest ≤ n → length (cons_option said rest) ≤ n + 1
few_with (Some y) rest n few = omega (arith, few)
few_with None rest n few = omega (arith, few)

few_kept : {X Y : Type 0} (says : X → Option Y) (xs : List X) → length (filter_map says xs) ≤ length xs
few_kept says [] = omega arith
few_kept says (x ∷ xs) = let more = few_with (says x) (filter_map says xs) (length xs) (few_kept says xs) in omega (arith, more)

few_numbered : {Y Z : Type 0} (shape : Y → Z) (says : ℕ → Option Y) (from count : ℕ)
    → length (map shape (filter_map says (range_with_len from count))) ≤ count
few_numbered shape says from count =
    let few = few_kept says (range_with_len from count) in
    omega (arith, few, length-map (filter_map says (range_with_len from count)) shape, length-range_with_len from count)

-- ---- of files

-- a file that is read has few vectors
abbrev IsFew : Read FuseFile → Type 0
IsFew (Ok file) = length file.vectors ≤ 65535
IsFew (Err fault) = Unit {0}

few_behind : {A : Type 0} (first : Read A) (next : A → Read FuseFile) → ((x : A) → IsFew (next x)) → IsFew (first >>= next)
few_behind (Ok x) next few = few x
few_behind (Err fault) next few = tt

few_contents : (t : Table) (fields : List Field) → IsFew (contents_of t fields)
unfolding contents_of vectors_of
few_contents t fields =
    few_behind (size_of t fields) _ (λ listed.
    few_behind (default_of fields listed) _ (λ default.
    few_behind (fuse_sum_read fields listed (fuses_said t fields listed default)) _ (λ sum.
    few_numbered (by_pins (order_of t fields)) (λ n. last_of (vector_at n) fields) 1 65535)))

few_read : (t : Table) (bytes : List ℕ) → IsFew (file_of t bytes)
unfolding file_of
few_read t bytes = few_behind (frame_of bytes) _ (λ framed. few_behind (fields_of t framed) _ (λ fields. few_contents t fields))

pub few_vectors : (t : Table) (bytes : List ℕ) (file : FuseFile) → file_of t bytes ≡ Ok file → length file.vectors ≤ 65535
few_vectors t bytes file read = subst IsFew read (few_read t bytes)
