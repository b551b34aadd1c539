-- What is decided if the first logic rests, variable by variable.
use Rattle.std.proofs.Common.{◌≡◌, ℕ, suc, ◌<◌, Bool, true, false, not, ◌&&◌, ◌==◌, List, [], ◌∷◌, length, get_or, set, refl, ap, sym, ◌∙◌, subst, length-set, get_or-set_same, get_or-set_other, lt-ltb, arith, nat_lt}
use Rattle.fuse_compare.proofs.Common.{eqb-false, or_parts, true≢false, is_on, same_level, IsPoint, Levels, Lookups, rest_of, IsWide, rests_once, HoldsWith, holds, RowMask, AreFreePins, AreKeptQs, DifferWithin, IsDecided, some_holds, AlikeAt, Varies, has_pin, has_q, IsTold, SameShape, Variable, Pin, Q}
use Rattle.fuse_compare.proofs.AlikeThere.{alike_there}

-- ---- states that vary some variables

pub pin_kept : (vs : List Variable) (o s o' s' : List Bool) → Varies vs o s o' s' → (k : ℕ) → has_pin vs k ≡ false → is_on o' k ≡ is_on o k
pin_kept [] o s o' s' varies k none = ap (λ xs. is_on xs k) (sym varies.0)
pin_kept (Pin j ∷ vs) o s o' s' varies k none =
    let parts = or_parts (j == k) (has_pin vs k) none in
    pin_kept vs (set o j varies.0) s o' s' varies.1 k parts.1 ∙ get_or-set_other o j k varies.0 false (λ e. eqb-false j k parts.0 (sym e))
pin_kept (Q c ∷ vs) o s o' s' varies k none = pin_kept vs o (set s c varies.0) o' s' varies.1 k none

pub q_kept : (vs : List Variable) (o s o' s' : List Bool) → Varies vs o s o' s' → (c : ℕ) → has_q vs c ≡ false → is_on s' c ≡ is_on s c
q_kept [] o s o' s' varies c none = ap (λ xs. is_on xs c) (sym varies.1)
q_kept (Pin j ∷ vs) o s o' s' varies c none = q_kept vs (set o j varies.0) s o' s' varies.1 c none
q_kept (Q d ∷ vs) o s o' s' varies c none =
    let parts = or_parts (d == c) (has_q vs c) none in
    q_kept vs o (set s d varies.0) o' s' varies.1 c parts.1 ∙ get_or-set_other s d c varies.0 false (λ e. eqb-false d c parts.0 (sym e))

outside_wide : (vs : List Variable) (o s o' s' : List Bool) → Varies vs o s o' s' → IsWide o → IsWide o'
outside_wide [] o s o' s' varies wide = subst IsWide varies.0 wide
outside_wide (Pin j ∷ vs) o s o' s' varies wide = outside_wide vs (set o j varies.0) s o' s' varies.1 (length-set o j varies.0 ∙ wide)
outside_wide (Q c ∷ vs) o s o' s' varies wide = outside_wide vs o (set s c varies.0) o' s' varies.1 wide

stored_wide : (vs : List Variable) (o s o' s' : List Bool) → Varies vs o s o' s' → IsWide s → IsWide s'
stored_wide [] o s o' s' varies wide = subst IsWide varies.1 wide
stored_wide (Pin j ∷ vs) o s o' s' varies wide = stored_wide vs (set o j varies.0) s o' s' varies.1 wide
stored_wide (Q c ∷ vs) o s o' s' varies wide = stored_wide vs o (set s c varies.0) o' s' varies.1 (length-set s c varies.0 ∙ wide)

-- ---- one variable more has its level

same_on : (on x : Bool) → x ≡ on → same_level on x ≡ true
same_on true x e = e
same_on false x e = ap not e

module _ (a : Lookups) (o s : List Bool) (decided more : RowMask) (on : Bool) where
  -- a pin that no cell drives has its outside level
  pub pin_decided : (k : ℕ) (vs : List Variable) → k < 32 → IsWide o → has_pin vs k ≡ false → (pins : List Bool) → AreFreePins a pins → is_on pins k ≡ true
      → HoldsWith decided more (λ at. same_level on (is_on at.pins k)) → IsDecided a (Pin k ∷ vs) o s decided → IsDecided a vs (set o k on) s more
  pin_decided k vs low wide last pins free is_free with_more is o' s' varies at rests =
      with_more at rests.is_point ∙ rw (is o' s' (on, varies) at rests, same_on on (is_on at.pins k) level) refl
    where
      undriven : is_on at.pins k ≡ is_on o' k
      undriven = rests.settled.undriven k low (λ c within enabled here. true≢false (sym enabled ∙ free k is_free c within here at rests.is_point))

      level : is_on at.pins k ≡ on
      level = undriven ∙ (pin_kept vs (set o k on) s o' s' varies k last ∙ get_or-set_same o k on false (subst (λ l. k < l) (sym wide) low))

  -- so has every pin, if nothing more is said of it
  pub pin_passed : (k : ℕ) (vs : List Variable) → IsDecided a (Pin k ∷ vs) o s decided → IsDecided a vs (set o k on) s decided
  pin_passed k vs is o' s' varies at rests = is o' s' (on, varies) at rests

  stored_level : (c : ℕ) (vs : List Variable) → c < 32 → IsWide s → has_q vs c ≡ false → (o' s' : List Bool) → Varies vs o (set s c on) o' s' → is_on s' c ≡ on
  stored_level c vs low wide last o' s' varies = q_kept vs o (set s c on) o' s' varies c last ∙ get_or-set_same s c on false (subst (λ l. c < l) (sym wide) low)

  -- a Q that is stored as 0 is 0
  pub zero_decided : (c : ℕ) (vs : List Variable) → c < 32 → IsWide s → has_q vs c ≡ false → on ≡ false
      → HoldsWith decided more (λ at. same_level on (is_on at.q c)) → IsDecided a (Q c ∷ vs) o s decided → IsDecided a vs o (set s c on) more
  zero_decided c vs low wide last off with_more is o' s' varies at rests =
      with_more at rests.is_point ∙ rw (is o' s' (on, varies) at rests, same_on on (is_on at.q c) (level ∙ sym off)) refl
    where
      nothing : (x y : Bool) → (x && (y && false)) ≡ false
      nothing false y = refl
      nothing true false = refl
      nothing true true = refl

      level : is_on at.q c ≡ false
      level = rests.registers c low ∙ rw (stored_level c vs low wide last o' s' varies ∙ off) (nothing (lt_cells c && a.stores c) (not (a.reset at c)))
        where
          lt_cells : ℕ → Bool
          lt_cells d = nat_lt d a.cells

  -- a register that is never reset has what is stored
  pub kept_decided : (c : ℕ) (vs : List Variable) → c < 32 → IsWide s → has_q vs c ≡ false → (cells : List Bool) → AreKeptQs a cells → is_on cells c ≡ true
      → HoldsWith decided more (λ at. same_level on (is_on at.q c)) → IsDecided a (Q c ∷ vs) o s decided → IsDecided a vs o (set s c on) more
  kept_decided c vs low wide last cells kept is_kept with_more is o' s' varies at rests =
      with_more at rests.is_point ∙ rw (is o' s' (on, varies) at rests, same_on on (is_on at.q c) level) refl
    where
      level : is_on at.q c ≡ on
      level =
          let register = kept c is_kept in
          rests.registers c low ∙ rw (lt-ltb c a.cells register.0, register.1, register.2 at rests.is_point, stored_level c vs low wide last o' s' varies) refl

  pub q_passed : (c : ℕ) (vs : List Variable) → IsDecided a (Q c ∷ vs) o s decided → IsDecided a vs o (set s c on) decided
  q_passed c vs is o' s' varies at rests = is o' s' (on, varies) at rests

-- ---- if no own row can be true

pub alike_past : (a b : Lookups) → SameShape a b → IsTold a → IsTold b → (own : List RowMask) → DifferWithin a b own → (vs : List Variable) (o s : List Bool) → IsWide o → IsWide s
    → (decided : RowMask) → IsDecided a vs o s decided → ((at : Levels) → IsPoint at → holds decided at ≡ true → some_holds own at ≡ false)
    → (o' s' : List Bool) → Varies vs o s o' s' → AlikeAt a b o' s'
alike_past a b shape ta tb own within vs o s o_wide s_wide decided is none o' s' varies =
    let the = rests_once a ta.ordered o' s' (outside_wide vs o s o' s' varies o_wide) (stored_wide vs o s o' s' varies s_wide) in
    let point = the.at_rest.is_point in
    alike_there a b shape ta tb o' s' (rest_of a o' s') the (within (rest_of a o' s') point (none (rest_of a o' s') point (is o' s' varies (rest_of a o' s') the.at_rest)))

-- ---- masks of which none holds

pub none_holds : (masks : List RowMask) (at : Levels) → ((k : ℕ) (d : RowMask) → k < length masks → holds (get_or masks k d) at ≡ false) → some_holds masks at ≡ false
none_holds [] at none = refl
none_holds (mask ∷ masks) at none = rw (none 0 mask (omega arith), none_holds masks at (λ k d low. none (suc k) d (omega (arith, low)))) refl
