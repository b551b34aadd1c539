-- A literal of a turned cube is the turned literal of the cube, and leaving it out is turning what is left.
use Rattle.std.proofs.Common.{◌≡◌, ◌≢◌, ◌⊎◌, inl, inr, ℕ, suc, ◌+◌, ◌-◌, ◌^◌, ◌<◌, ◌≤◌, min, Bool, true, false, not, ◌&&◌, if◌then◌else◌, List, [], ◌∷◌, length, refl, sym, ◌∙◌, ap, ap₂, arith, bit_and, ◌==◌}
use Rattle.fit_plans.proofs.Common.{bit_at, bit_not, w32, cases_eq, bit_at-lt, bit_at-pow_other, bit_at-zero, bit_at_and, bit_at_not, pow_below, Cube, asks, fits, has_from, literal_cube, without, turned, levels_turned}
use Rattle.fit_plans.proofs.TurnedCubes.{exchanged, fits_turned, one_or_zero, stays, taken}

-- the level that a literal of the turned cube has in the cube itself
abbrev pub turned_level : (mask v : ℕ) → Bool → Bool
turned_level mask v level = if bit_at mask v == 1 then not level else level

module _ (mask : ℕ) (low : mask < 2 ^ 32) where
  -- ---- the bits of a turned cube

  yes_on : (c : Cube) (u : ℕ) → u < 32 → bit_at mask u ≡ 1 → bit_at (turned mask c).yes u ≡ bit_at c.no u
  yes_on c u within on = exchanged c.yes c.no mask u low within ∙ taken (bit_at c.yes u) (bit_at c.no u) (bit_at mask u) (bit_at-lt c.yes u) (bit_at-lt c.no u) on

  no_on : (c : Cube) (u : ℕ) → u < 32 → bit_at mask u ≡ 1 → bit_at (turned mask c).no u ≡ bit_at c.yes u
  no_on c u within on = exchanged c.no c.yes mask u low within ∙ taken (bit_at c.no u) (bit_at c.yes u) (bit_at mask u) (bit_at-lt c.no u) (bit_at-lt c.yes u) on

  yes_off : (c : Cube) (u : ℕ) → u < 32 → bit_at mask u ≡ 0 → bit_at (turned mask c).yes u ≡ bit_at c.yes u
  yes_off c u within off = exchanged c.yes c.no mask u low within ∙ stays (bit_at c.yes u) (bit_at c.no u) (bit_at mask u) (bit_at-lt c.yes u) (bit_at-lt c.no u) off

  no_off : (c : Cube) (u : ℕ) → u < 32 → bit_at mask u ≡ 0 → bit_at (turned mask c).no u ≡ bit_at c.no u
  no_off c u within off = exchanged c.no c.yes mask u low within ∙ stays (bit_at c.no u) (bit_at c.yes u) (bit_at mask u) (bit_at-lt c.no u) (bit_at-lt c.yes u) off

  -- ---- literals

  level_on : (v : ℕ) (level : Bool) → bit_at mask v ≡ 1 → turned_level mask v level ≡ not level
  level_on v level on = rw on refl

  level_off : (v : ℕ) (level : Bool) → bit_at mask v ≡ 0 → turned_level mask v level ≡ level
  level_off v level off = rw off refl

  -- the turned cube asks what the cube asks at the turned level
  pub asks_turned : (c : Cube) (v : ℕ) (level : Bool) → v < 32 → asks v level (turned mask c) ≡ asks v (turned_level mask v level) c
  asks_turned c v level within =
      elim (one_or_zero (bit_at mask v) (bit_at-lt mask v)) [
        | inl on ↦ rw (level_on v level on) (asks_on level on)
        | inr off ↦ rw (level_off v level off) (asks_off level off)
      ]
    where
      asks_on : (level : Bool) → bit_at mask v ≡ 1 → asks v level (turned mask c) ≡ asks v (not level) c
      asks_on true on = ap (λ n. n == 1) (yes_on c v within on)
      asks_on false on = ap (λ n. n == 1) (no_on c v within on)

      asks_off : (level : Bool) → bit_at mask v ≡ 0 → asks v level (turned mask c) ≡ asks v level c
      asks_off true off = ap (λ n. n == 1) (yes_off c v within off)
      asks_off false off = ap (λ n. n == 1) (no_off c v within off)

  -- the literal of the other level has the two bits exchanged
  yes_not : (v u : ℕ) (level : Bool) → bit_at (literal_cube v (not level)).yes u ≡ bit_at (literal_cube v level).no u
  yes_not v u true = refl
  yes_not v u false = refl

  no_not : (v u : ℕ) (level : Bool) → bit_at (literal_cube v (not level)).no u ≡ bit_at (literal_cube v level).yes u
  no_not v u true = refl
  no_not v u false = refl

  -- and none at another variable
  yes_other : (v u : ℕ) (level : Bool) → u ≢ v → bit_at (literal_cube v level).yes u ≡ 0
  yes_other v u true apart = bit_at-pow_other v u apart
  yes_other v u false apart = bit_at-zero u

  no_other : (v u : ℕ) (level : Bool) → u ≢ v → bit_at (literal_cube v level).no u ≡ 0
  no_other v u true apart = bit_at-zero u
  no_other v u false apart = bit_at-pow_other v u apart

  -- at a variable of the mask the turned literal has the two bits exchanged, at another one it has them
  literal_on : (v u : ℕ) (level : Bool) → bit_at mask u ≡ 1
      → (bit_at (literal_cube v (turned_level mask v level)).yes u ≡ bit_at (literal_cube v level).no u) × (bit_at (literal_cube v (turned_level mask v level)).no u ≡ bit_at (literal_cube v level).yes u)
  literal_on v u level on = by (cases_eq u v)
    where
      by : (u ≡ v) ⊎ (u ≢ v) → (bit_at (literal_cube v (turned_level mask v level)).yes u ≡ bit_at (literal_cube v level).no u) × (bit_at (literal_cube v (turned_level mask v level)).no u ≡ bit_at (literal_cube v level).yes u)
      by (inl same) = let here = level_on v level (sym (ap (bit_at mask) same) ∙ on) in rw here (yes_not v u level, no_not v u level)
      by (inr apart) =
          (yes_other v u (turned_level mask v level) apart ∙ sym (no_other v u level apart), no_other v u (turned_level mask v level) apart ∙ sym (yes_other v u level apart))

  literal_off : (v u : ℕ) (level : Bool) → bit_at mask u ≡ 0
      → (bit_at (literal_cube v (turned_level mask v level)).yes u ≡ bit_at (literal_cube v level).yes u) × (bit_at (literal_cube v (turned_level mask v level)).no u ≡ bit_at (literal_cube v level).no u)
  literal_off v u level off = by (cases_eq u v)
    where
      by : (u ≡ v) ⊎ (u ≢ v) → (bit_at (literal_cube v (turned_level mask v level)).yes u ≡ bit_at (literal_cube v level).yes u) × (bit_at (literal_cube v (turned_level mask v level)).no u ≡ bit_at (literal_cube v level).no u)
      by (inl same) = let here = level_off v level (sym (ap (bit_at mask) same) ∙ off) in rw here (refl, refl)
      by (inr apart) =
          (yes_other v u (turned_level mask v level) apart ∙ sym (yes_other v u level apart), no_other v u (turned_level mask v level) apart ∙ sym (no_other v u level apart))

  -- ---- a cube without a literal

  narrow : (v : ℕ) (level : Bool) → v < 32 → ((literal_cube v level).yes < 2 ^ 32) × ((literal_cube v level).no < 2 ^ 32)
  narrow v true within = (pow_below v 32 within, omega arith)
  narrow v false within = (omega arith, pow_below v 32 within)

  left_bit : (a l u : ℕ) → l < 2 ^ 32 → u < 32 → bit_at (bit_and a (bit_not w32 l)) u ≡ min (bit_at a u) (1 - bit_at l u)
  left_bit a l u l_low within = bit_at_and a (bit_not w32 l) u ∙ ap (min (bit_at a u)) (bit_at_not w32 l u l_low within)

  fits_left : (v u : ℕ) (level : Bool) (c : Cube) (x : Bool) → v < 32 → u < 32
      → fits (bit_at (without (literal_cube v level) (turned mask c)).yes u) (bit_at (without (literal_cube v level) (turned mask c)).no u) x
      ≡ fits (bit_at (without (literal_cube v (turned_level mask v level)) c).yes u) (bit_at (without (literal_cube v (turned_level mask v level)) c).no u) (if bit_at mask u == 1 then not x else x)
  fits_left v u level c x v_in u_in =
      let l = narrow v level v_in in
      let k = narrow v (turned_level mask v level) v_in in
      let yes_is = left_bit (turned mask c).yes (literal_cube v level).yes u l.0 u_in in
      let no_is = left_bit (turned mask c).no (literal_cube v level).no u l.1 u_in in
      let yes_was = left_bit c.yes (literal_cube v (turned_level mask v level)).yes u k.0 u_in in
      let no_was = left_bit c.no (literal_cube v (turned_level mask v level)).no u k.1 u_in in
      elim (one_or_zero (bit_at mask u) (bit_at-lt mask u)) [
        | inl on ↦
            let bits = literal_on v u level on in
            let yes_same = yes_is ∙ (ap₂ (λ a b. min a (1 - b)) (yes_on c u u_in on) (sym bits.1) ∙ sym no_was) in
            let no_same = no_is ∙ (ap₂ (λ a b. min a (1 - b)) (no_on c u u_in on) (sym bits.0) ∙ sym yes_was) in
            ap₂ (λ a b. fits a b x) yes_same no_same
            ∙ (fits_turned (bit_at (without (literal_cube v (turned_level mask v level)) c).yes u) (bit_at (without (literal_cube v (turned_level mask v level)) c).no u) x
            ∙ sym (ap (λ n. fits (bit_at (without (literal_cube v (turned_level mask v level)) c).yes u) (bit_at (without (literal_cube v (turned_level mask v level)) c).no u) (if n == 1 then not x else x)) on))
        | inr off ↦
            let bits = literal_off v u level off in
            let yes_same = yes_is ∙ (ap₂ (λ a b. min a (1 - b)) (yes_off c u u_in off) (sym bits.0) ∙ sym yes_was) in
            let no_same = no_is ∙ (ap₂ (λ a b. min a (1 - b)) (no_off c u u_in off) (sym bits.1) ∙ sym no_was) in
            ap₂ (λ a b. fits a b x) yes_same no_same
            ∙ sym (ap (λ n. fits (bit_at (without (literal_cube v (turned_level mask v level)) c).yes u) (bit_at (without (literal_cube v (turned_level mask v level)) c).no u) (if n == 1 then not x else x)) off)
      ]

  -- the points of a turned cube without a literal are those of the cube without the turned one, turned
  left_from : (v u : ℕ) (level : Bool) (c : Cube) (p : List Bool) → v < 32 → u + length p ≤ 32
      → has_from u (without (literal_cube v level) (turned mask c)) p ≡ has_from u (without (literal_cube v (turned_level mask v level)) c) (levels_turned mask u p)
  left_from v u level c [] v_in few = refl
  left_from v u level c (x ∷ p) v_in few =
      ap₂ (λ a b. a && b) (fits_left v u level c x v_in (omega (arith, few))) (left_from v (suc u) level c p v_in (omega (arith, few)))

  pub left_turned : (v : ℕ) (level : Bool) (c : Cube) (p : List Bool) → v < 32 → length p ≤ 32
      → has_from 0 (without (literal_cube v level) (turned mask c)) p ≡ has_from 0 (without (literal_cube v (turned_level mask v level)) c) (levels_turned mask 0 p)
  left_turned v level c p v_in few = left_from v 0 level c p v_in (omega (arith, few))
