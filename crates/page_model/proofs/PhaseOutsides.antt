-- The points of vectors drive what the vectors drive.
use Rattle.std.proofs.Common.{◌≡◌, ℕ, ◌-◌, Bool, true, false, if◌then◌else◌, List, [], ◌∷◌, ◌++◌, flat_map, map, length, refl, ap, ap₂, sym, ◌∙◌, inl, inr, append-nil}
use Rattle.std.specs.Prelude.{◌==◌, codes, replicate}
use Rattle.std.proofs.lemmas.Bool.{cases_Bool, eqb-false, eqb-true, ne_eqb}
use Rattle.std.proofs.lemmas.Grind.{flat_map-append}
use Rattle.std.proofs.lemmas.List.{length-map}
use Rattle.jedec_file.specs.Fields.{is_among}
use Rattle.device_sim.specs.VectorRun.{at_pins, has_clock, level_before, level_turned, outsides_of}
use Rattle.page_model.specs.Phases.{DriveTheSame, phase_char, phases}

-- a test of two numbers the other way round
turned_test : (a b : ℕ) → (a == b) ≡ false → (b == a) ≡ false
turned_test a b off = ne_eqb b a (λ e. eqb-false a b off (sym e))

-- a character at rest drives its level before, and one that is turned its level then
rested_drives : (default : Bool) (char : ℕ) → level_before default (phase_char false char) ≡ level_before default char
rested_drives default char =
    elim (cases_Bool (char == 67)) [
      | inl is ↦ rw (eqb-true char 67 is) refl
      | inr not_c ↦
          elim (cases_Bool (char == 75)) [
            | inl is ↦ rw (eqb-true char 75 is) refl
            | inr not_k ↦ rw (not_c, not_k) refl
          ]
    ]

turned_drives : (default : Bool) (char : ℕ) → level_before default (phase_char true char) ≡ level_turned default char
turned_drives default char =
    elim (cases_Bool (char == 67)) [
      | inl is ↦ rw (eqb-true char 67 is) refl
      | inr not_c ↦
          elim (cases_Bool (char == 75)) [
            | inl is ↦ rw (eqb-true char 75 is) refl
            | inr not_k ↦ other not_c not_k
          ]
    ]
  where
    other : (char == 67) ≡ false → (char == 75) ≡ false → level_before default (phase_char true char) ≡ level_turned default char
    other not_c not_k = rw (not_c, not_k, turned_test char 67 not_c, turned_test char 75 not_k) refl

-- neither is a clock
no_clock : (turned : Bool) (char : ℕ) → is_among (codes "CK") (phase_char turned char) ≡ false
no_clock turned char =
    elim (cases_Bool (char == 67)) [
      | inl is ↦ rw (eqb-true char 67 is) (of_c turned)
      | inr not_c ↦
          elim (cases_Bool (char == 75)) [
            | inl is ↦ rw (eqb-true char 75 is) (of_k turned)
            | inr not_k ↦ other turned not_c not_k
          ]
    ]
  where
    of_c : (b : Bool) → is_among (codes "CK") (phase_char b 67) ≡ false
    of_c true = refl
    of_c false = refl

    of_k : (b : Bool) → is_among (codes "CK") (phase_char b 75) ≡ false
    of_k true = refl
    of_k false = refl

    other : (b : Bool) → (char == 67) ≡ false → (char == 75) ≡ false → is_among (codes "CK") (phase_char b char) ≡ false
    other true not_c not_k = rw (not_c, not_k, turned_test char 67 not_c, turned_test char 75 not_k) refl
    other false not_c not_k = rw (not_c, not_k, turned_test char 67 not_c, turned_test char 75 not_k) refl

clockless : (turned : Bool) (chars : List ℕ) → has_clock (map (phase_char turned) chars) ≡ false
clockless turned [] = refl
clockless turned (char ∷ chars) = rw (no_clock turned char) (clockless turned chars)

-- characters that drive the same levels drive the same at their pins
same_pins : (level other : ℕ → Bool) (f : ℕ → ℕ) → ((char : ℕ) → level (f char) ≡ other char) → (chars : List ℕ) → at_pins level (map f chars) ≡ at_pins other chars
unfolding at_pins
same_pins level other f same chars = rw (length-map chars f) (ap (λ (ls : List Bool). false ∷ (ls ++ replicate (31 - length chars) false)) (mapped chars))
  where
    mapped : (cs : List ℕ) → map level (map f cs) ≡ map other cs
    mapped [] = refl
    mapped (c ∷ cs) = ap₂ (λ (x : Bool) (xs : List Bool). x ∷ xs) (same c) (mapped cs)

-- a point of a vector has the levels of its characters then
one_point : (default turned : Bool) (other : ℕ → Bool) → ((char : ℕ) → level_before default (phase_char turned char) ≡ other char) → (chars : List ℕ) → outsides_of default (map (phase_char turned) chars) ≡ at_pins other chars ∷ []
unfolding outsides_of
one_point default turned other same chars =
    rw (clockless turned chars) (ap (λ (o : List Bool). o ∷ []) (same_pins (level_before default) other (phase_char turned) same chars))

-- the levels of a vector with a clock, and of one without
clocked_outsides : (default : Bool) (chars : List ℕ) → has_clock chars ≡ true
    → outsides_of default chars ≡ at_pins (level_before default) chars ∷ at_pins (level_turned default) chars ∷ at_pins (level_before default) chars ∷ []
unfolding outsides_of
clocked_outsides default chars some = rw some refl

three_levels : (a b : List (List Bool)) (x y : List Bool) → a ≡ x ∷ [] → b ≡ y ∷ [] → a ++ (b ++ (a ++ [])) ≡ x ∷ y ∷ x ∷ []
three_levels a b x y is also = rw (is, also) refl

-- the points of a vector, together
with_clock : (default : Bool) (chars : List ℕ) → has_clock chars ≡ true → flat_map (outsides_of default) (phases chars) ≡ outsides_of default chars
with_clock default chars some =
    let p = map (phase_char false) chars in
    let q = map (phase_char true) chars in
    let three : phases chars ≡ p ∷ q ∷ p ∷ [] = rw some refl in
    ap (flat_map (outsides_of default)) three
    ∙ (three_levels (outsides_of default p) (outsides_of default q) (at_pins (level_before default) chars) (at_pins (level_turned default) chars)
    (one_point default false (level_before default) (rested_drives default) chars)
    (one_point default true (level_turned default) (turned_drives default) chars)
    ∙ sym (clocked_outsides default chars some))

without_clock : (default : Bool) (chars : List ℕ) → has_clock chars ≡ false → flat_map (outsides_of default) (phases chars) ≡ outsides_of default chars
without_clock default chars none =
    let one : phases chars ≡ chars ∷ [] = rw none refl in
    ap (flat_map (outsides_of default)) one ∙ append-nil (outsides_of default chars)

vector_same : (default : Bool) (chars : List ℕ) → flat_map (outsides_of default) (phases chars) ≡ outsides_of default chars
vector_same default chars =
    elim (cases_Bool (has_clock chars)) [
      | inl some ↦ with_clock default chars some
      | inr none ↦ without_clock default chars none
    ]

pub drive_the_same : DriveTheSame
drive_the_same default [] = refl
drive_the_same default (chars ∷ vectors) =
    flat_map-append (outsides_of default) (phases chars) (flat_map phases vectors)
    ∙ ap₂ (λ (xs ys : List (List Bool)). xs ++ ys) (vector_same default chars) (drive_the_same default vectors)
