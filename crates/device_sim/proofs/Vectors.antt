-- The points of the vectors' run, one vector after another.
use Rattle.std.proofs.Common.{◌≡◌, ℕ, suc, zero, ◌-◌, ◌<◌, ◌≤◌, Bool, if◌then◌else◌, Option, Some, List, [], ◌∷◌, ◌++◌, length, drop, slice_get, get_or, flat_map, ◌+◌, add-one, drop-cons, append_assoc, append-nil, refl, ap, sym, ◌∙◌, arith}
use Rattle.device_sim.proofs.Common.{drop_all, Vector, Levels, Lookups, logic_of, Mismatch, at_pins, level_before, level_turned, has_clock, outsides_of, vector_mismatches, chars_at, all_chars_at, point_after, points_after, last_after, mismatches_after}
use Rattle.std.proofs.Math.Seq.{drop-append_seam}

-- an entry of the first of two lists
slice_get-append : {A : Type 0} (xs ys : List A) (k : ℕ) → k < length xs → slice_get (xs ++ ys) k ≡ slice_get xs k
slice_get-append [] ys k within = absurd (omega arith)
slice_get-append (x ∷ xs) ys zero within = refl
slice_get-append (x ∷ xs) ys (suc k) within = slice_get-append xs ys k (omega arith)

module _ (m : Lookups) where
  length-points_after : (before : Option Levels) (outsides : List (List Bool)) → length (points_after m before outsides) ≡ length outsides
  length-points_after before [] = refl
  length-points_after before (o ∷ outsides) = ap suc (length-points_after (Some (point_after m before o)) outsides)

  -- the points of two lists of levels are those of the first, and from the last of them on those of the second
  points_after-append : (before : Option Levels) (first second : List (List Bool)) → points_after m before (first ++ second) ≡ points_after m before first ++ points_after m (last_after m before first) second
  points_after-append before [] second = refl
  points_after-append before (o ∷ first) second = ap (λ ps. point_after m before o ∷ ps) (points_after-append (Some (point_after m before o)) first second)

  -- the last point is the last one
  last_point : (before : Option Levels) (o : List Bool) (rest : List (List Bool)) → slice_get (points_after m before (o ∷ rest)) (length rest) ≡ last_after m before (o ∷ rest)
  last_point before o [] = refl
  last_point before o (next ∷ rest) = last_point (Some (point_after m before o)) next rest

  -- of the points of some levels and later ones, the last of the former, and the latter
  pub point_between : (before : Option Levels) (o : List Bool) (rest later : List (List Bool)) → slice_get (points_after m before ((o ∷ rest) ++ later)) (length (o ∷ rest) - 1) ≡ last_after m before (o ∷ rest)
  point_between before o rest later =
      let one : length (o ∷ rest) - 1 ≡ length rest = omega arith in
      rw (one, points_after-append before (o ∷ rest) later)
      (slice_get-append (points_after m before (o ∷ rest)) (points_after m (last_after m before (o ∷ rest)) later) (length rest) (omega (arith, length-points_after before (o ∷ rest)))
      ∙ last_point before o rest)

  pub points_behind : (before : Option Levels) (first later : List (List Bool)) → drop (length first) (points_after m before (first ++ later)) ≡ points_after m (last_after m before first) later
  points_behind before first later =
      rw (points_after-append before first later, ← length-points_after before first)
      (drop-append_seam (points_after m before first) (points_after m (last_after m before first) later))

  -- a vector's outside levels are some
  pub some_outside : (default : Bool) (chars : List ℕ) → (o : List Bool) × (rest : List (List Bool)) × (outsides_of default chars ≡ o ∷ rest)
  unfolding outsides_of
  some_outside default chars =
      (at_pins (level_before default) chars, (if has_clock chars then at_pins (level_turned default) chars ∷ at_pins (level_before default) chars ∷ [] else []), refl)

  -- a vector that is tested at its last point, and the vectors after it
  pub next_vector : (default : Bool) (number : ℕ) (before : Option Levels) (at : Levels) (chars : List ℕ) (vectors : List (List ℕ)) → last_after m before (outsides_of default chars) ≡ Some at → mismatches_after m default number before (chars ∷ vectors) ≡ vector_mismatches (logic_of m) at number 1 chars ++ mismatches_after m default (suc number) (Some at) vectors
  unfolding mismatches_after
  next_vector default number before at chars vectors last =
      let some = some_outside default chars in
      let here : slice_get (points_after m before (outsides_of default chars ++ flat_map (outsides_of default) vectors)) (length (outsides_of default chars) - 1) ≡ Some at =
      rw some.2 (point_between before some.0 some.1 (flat_map (outsides_of default) vectors)) ∙ (rw some.2 at last) in
      let behind : drop (length (outsides_of default chars)) (points_after m before (outsides_of default chars ++ flat_map (outsides_of default) vectors)) ≡ points_after m (Some at) (flat_map (outsides_of default) vectors) =
      points_behind before (outsides_of default chars) (flat_map (outsides_of default) vectors) ∙ ap (λ b. points_after m b (flat_map (outsides_of default) vectors)) last in
      rw (here, behind) refl

  -- a vector's mismatches, and those of the vectors after it
  pub more_vectors : (pins : ℕ) (default : Bool) (vectors : List Vector) (i : ℕ) (v : Vector) (before : Option Levels) (at : Levels) (list more whole : List Mismatch) → i < length vectors → last_after m before (outsides_of default (chars_at pins (get_or vectors i v))) ≡ Some at → more ≡ list ++ vector_mismatches (logic_of m) at (i + 1) 1 (chars_at pins (get_or vectors i v)) → whole ≡ list ++ mismatches_after m default (i + 1) before (all_chars_at pins (drop i vectors)) → whole ≡ more ++ mismatches_after m default (i + 1 + 1) (Some at) (all_chars_at pins (drop (i + 1) vectors))
  more_vectors pins default vectors i v before at list more whole within last more_is whole_is =
      let front : all_chars_at pins (drop i vectors) ≡ chars_at pins (get_or vectors i v) ∷ all_chars_at pins (drop (suc i) vectors) = rw (drop-cons vectors i v within) refl in
      let unfolded = rw (front, next_vector default (i + 1) before at (chars_at pins (get_or vectors i v)) (all_chars_at pins (drop (suc i) vectors)) last) at whole_is in
      let behind : drop (i + 1) vectors ≡ drop (suc i) vectors = ap (λ n. drop n vectors) (add-one i) in
      rw (more_is, append_assoc, add-one (i + 1), behind) unfolded

  -- no vectors, no mismatches
  pub no_vectors : (default : Bool) (number : ℕ) (before : Option Levels) → mismatches_after m default number before [] ≡ []
  unfolding mismatches_after
  no_vectors default number before = refl

  -- after the last vector the list is whole
  pub after_all : (pins : ℕ) (default : Bool) (vectors : List Vector) (i : ℕ) (before : Option Levels) (list whole : List Mismatch) → length vectors ≤ i → whole ≡ list ++ mismatches_after m default (i + 1) before (all_chars_at pins (drop i vectors)) → list ≡ whole
  after_all pins default vectors i before list whole past whole_is =
      let end : drop i vectors ≡ [] = drop_all i vectors past in
      let same : whole ≡ list ++ [] = rw (end, no_vectors default (i + 1) before) at whole_is in
      sym (same ∙ append-nil list)
