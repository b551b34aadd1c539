-- No two names have one number; if each pin has a number, names are sound, and no two are one pin.
use Rattle.std.proofs.Common.{◌≡◌, ℕ, ◌<◌, ◌==◌, true, false, not, List, length, get_or, sym, ap, ◌∙◌, inl, inr, eqb-true, take, arith, []}
use Rattle.declared_names.proofs.Common.{true≢false, cases_Bool, list_any_at, get_or_from_slice_get, slice_get_within, Names, Kind, APin, Entry, entries_of, SoundNames, are_numbered, is_unnumbered, no_name, AreDeclaredFor, NumbersAreApart, PinsAreApart, cases_lt, eqb-true, get_or-take, get_or_past, length-take, slice_get-get_or, is_on_pin, is_taken, IsNewPin, AreSound, sound_at}
use Rattle.pld_base.specs.declared.device_name.DeviceName.{DeviceName}

-- ---- pins

not_taken : (n : ℕ) (earlier : List Entry) (k : Kind) → (n == 0) ≡ false → is_on_pin n k ≡ true → IsNewPin earlier k → is_taken earlier n ≡ false
not_taken n earlier (APin pin negated) numbered is new =
    let same = eqb-true pin n is in
    ap (is_taken earlier) (sym same) ∙ new (ap (λ m. m == 0) same ∙ numbered)
not_taken n earlier _ numbered is new = absurd cc

-- what is a pin is a name of the list
pub within : (n : ℕ) (es : List Entry) (k : ℕ) → is_on_pin n (get_or es k no_name).kind ≡ true → k < length es
within n es k is =
    elim (cases_lt k (length es)) [
      | inl less ↦ less
      | inr past ↦ absurd (true≢false (sym is ∙ ap (λ (e : Entry). is_on_pin n e.kind) (get_or_past es k no_name past)))
    ]

module _ (pins : ℕ) (es : List Entry) (sound : AreSound pins [] es) where
  not_both : (n i j : ℕ) → (n == 0) ≡ false → i < j → is_on_pin n (get_or es i no_name).kind ≡ true → is_on_pin n (get_or es j no_name).kind ≡ true → ⊥
  not_both n i j numbered less first second =
      let inside = within n es j second in
      let new = not_taken n (take j es) (get_or es j no_name).kind numbered second (sound_at pins [] es sound j (get_or es j no_name) (slice_get-get_or es j no_name inside)).pin in
      let short : i < length (take j es) = omega (arith, length-take j es, less, inside) in
      let there : is_taken (take j es) n ≡ true = list_any_at (λ (e : Entry). is_on_pin n e.kind) (take j es) i no_name short (ap (λ (e : Entry). is_on_pin n e.kind) (get_or-take j es i no_name less) ∙ first) in
      true≢false (sym there ∙ new)

  pub numbers_apart : NumbersAreApart es
  numbers_apart n i j numbered first second =
      elim (cases_lt i j) [
        | inl less ↦ absurd (not_both n i j numbered less first second)
        | inr most ↦
            elim (cases_lt j i) [
              | inl less ↦ absurd (not_both n j i numbered less second first)
              | inr least ↦ omega (arith, most, least)
            ]
      ]

-- ---- if each pin has a number

-- a name of the list has a number, if it is a pin
numbered_at : (es : List Entry) (k : ℕ) → k < length es → are_numbered es ≡ true → is_unnumbered (get_or es k no_name).kind ≡ false
numbered_at es k low numbered =
    elim (cases_Bool (is_unnumbered (get_or es k no_name).kind)) [
      | inl none ↦ absurd (true≢false (sym numbered ∙ ap not (list_any_at (λ (e : Entry). is_unnumbered e.kind) es k no_name low none)))
      | inr has ↦ has
    ]

pub numbered_sound : (name : DeviceName) (pins : ℕ) (n : Names) → AreDeclaredFor name pins n → are_numbered (entries_of n) ≡ true → SoundNames name pins n
numbered_sound name pins n are numbered = record {
  device = are.device;
  kinds = λ k e is.
      let low = slice_get_within (entries_of n) k e is in
      are.kinds k e is (sym (ap (λ (x : Entry). is_unnumbered x.kind) (get_or_from_slice_get (entries_of n) k e no_name is)) ∙ numbered_at (entries_of n) k low numbered);
}

-- a pin of the number 0 has none
zero_is_none : (pin : ℕ) (k : Kind) → (pin == 0) ≡ true → is_on_pin pin k ≡ true → is_unnumbered k ≡ true
zero_is_none pin (APin p negated) zero is = ap (λ m. m == 0) (eqb-true p pin is) ∙ zero
zero_is_none pin _ zero is = absurd cc

pub numbered_apart : (es : List Entry) → NumbersAreApart es → are_numbered es ≡ true → PinsAreApart es
numbered_apart es apart numbered pin i j first second =
    elim (cases_Bool (pin == 0)) [
      | inl zero ↦ absurd (true≢false (sym (zero_is_none pin (get_or es i no_name).kind zero first) ∙ numbered_at es i (within pin es i first) numbered))
      | inr some ↦ apart pin i j some first second
    ]
