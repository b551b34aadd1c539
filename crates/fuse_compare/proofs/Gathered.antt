-- Variables that are gathered one after another.
use Rattle.std.proofs.Common.{◌≡◌, ◌≢◌, ◌⊎◌, ℕ, ◌+◌, ◌<◌, ◌≤◌, Bool, true, false, ◌&&◌, ◌||◌, ◌==◌, List, [], ◌∷◌, ◌++◌, length, set, refl, sym, ◌∙◌, ap, subst, inl, inr, arith, get_or-set_same, get_or-set_other, ne_eqb, nat_lt}
use Rattle.fuse_compare.proofs.Common.{cases_Bool, cases_eq, cases_lt, eq-eqb, eqb-false, eqb-true, false_from_ne_true, le-ltb, lt-ltb, or_cases, or_left, or_parts, or_right, true≢false, get_or_past, bits, is_on, is_on-zero, length-bits, stores, Table, IsWide, HasKnownPins, HasKnownQs, HoldsRegisters, knows_pin, knows_q, AreOnce, AreChosen, known_of, AreVariables, has_pin, has_q, Variable, Pin, Q}
use Rattle.fuse_compare.specs.DeviceKnown.QsChosen.{SameKinds, OtherKinds}

-- ---- one variable more

pub has_pin_more : (vs : List Variable) (j k : ℕ) → has_pin (vs ++ Pin j ∷ []) k ≡ (has_pin vs k || (j == k))
has_pin_more [] j k = at_end (j == k)
  where
    at_end : (x : Bool) → (x || false) ≡ x
    at_end true = refl
    at_end false = refl
has_pin_more (Pin i ∷ vs) j k = ap (λ x. (i == k) || x) (has_pin_more vs j k) ∙ grouped (i == k) (has_pin vs k) (j == k)
  where
    grouped : (x y z : Bool) → (x || (y || z)) ≡ ((x || y) || z)
    grouped true y z = refl
    grouped false y z = refl
has_pin_more (Q c ∷ vs) j k = has_pin_more vs j k

pub has_pin_same : (vs : List Variable) (c k : ℕ) → has_pin (vs ++ Q c ∷ []) k ≡ has_pin vs k
has_pin_same [] c k = refl
has_pin_same (Pin i ∷ vs) c k = ap (λ x. (i == k) || x) (has_pin_same vs c k)
has_pin_same (Q d ∷ vs) c k = has_pin_same vs c k

pub has_q_more : (vs : List Variable) (d c : ℕ) → has_q (vs ++ Q d ∷ []) c ≡ (has_q vs c || (d == c))
has_q_more [] d c = at_end (d == c)
  where
    at_end : (x : Bool) → (x || false) ≡ x
    at_end true = refl
    at_end false = refl
has_q_more (Pin i ∷ vs) d c = has_q_more vs d c
has_q_more (Q e ∷ vs) d c = ap (λ x. (e == c) || x) (has_q_more vs d c) ∙ grouped (e == c) (has_q vs c) (d == c)
  where
    grouped : (x y z : Bool) → (x || (y || z)) ≡ ((x || y) || z)
    grouped true y z = refl
    grouped false y z = refl

pub has_q_same : (vs : List Variable) (k c : ℕ) → has_q (vs ++ Pin k ∷ []) c ≡ has_q vs c
has_q_same [] k c = refl
has_q_same (Pin i ∷ vs) k c = has_q_same vs k c
has_q_same (Q e ∷ vs) k c = ap (λ x. (e == c) || x) (has_q_same vs k c)

pub are_more_pin : (vs : List Variable) (k : ℕ) → AreVariables vs → k < 32 → AreVariables (vs ++ Pin k ∷ [])
are_more_pin [] k are low = (low, tt)
are_more_pin (Pin i ∷ vs) k are low = (are.0, are_more_pin vs k are.1 low)
are_more_pin (Q c ∷ vs) k are low = (are.0, are_more_pin vs k are.1 low)

pub are_more_q : (vs : List Variable) (c : ℕ) → AreVariables vs → c < 32 → AreVariables (vs ++ Q c ∷ [])
are_more_q [] c are low = (low, tt)
are_more_q (Pin i ∷ vs) c are low = (are.0, are_more_q vs c are.1 low)
are_more_q (Q d ∷ vs) c are low = (are.0, are_more_q vs c are.1 low)

other_end : (j k : ℕ) → (j == k) ≡ false → (k == j) ≡ false
other_end j k differ = ne_eqb k j (λ e. eqb-false j k differ (sym e))

pub once_more_pin : (vs : List Variable) (k : ℕ) → AreOnce vs → has_pin vs k ≡ false → AreOnce (vs ++ Pin k ∷ [])
once_more_pin [] k once none = (refl, tt)
once_more_pin (Pin j ∷ vs) k once none =
    let parts = or_parts (j == k) (has_pin vs k) none in
    (has_pin_more vs k j ∙ rw (once.0, other_end j k parts.0) refl, once_more_pin vs k once.1 parts.1)
once_more_pin (Q c ∷ vs) k once none = (has_q_same vs k c ∙ once.0, once_more_pin vs k once.1 none)

pub once_more_q : (vs : List Variable) (c : ℕ) → AreOnce vs → has_q vs c ≡ false → AreOnce (vs ++ Q c ∷ [])
once_more_q [] c once none = (refl, tt)
once_more_q (Pin j ∷ vs) c once none = (has_pin_same vs c j ∙ once.0, once_more_q vs c once.1 none)
once_more_q (Q d ∷ vs) c once none =
    let parts = or_parts (d == c) (has_q vs c) none in
    (has_q_more vs c d ∙ rw (once.0, other_end d c parts.0) refl, once_more_q vs c once.1 parts.1)

-- what is only below a number isn't at it
none_at : (test : ℕ → Bool) (n : ℕ) → ((k : ℕ) → test k ≡ true → k < n) → test n ≡ false
none_at test n below = false_from_ne_true (test n) (λ is. let low = below n is in omega (arith, low))

-- ---- with two fuse lists of a device

module _ (t : Table) (a b : List Bool) where
  -- a pin that is known
  pub pin_in : (k : ℕ) (vs : List Variable) → k < 32 → HasKnownPins t a b k vs → knows_pin t a b k ≡ true → HasKnownPins t a b (k + 1) (vs ++ Pin k ∷ [])
  pin_in k vs low has known = record {
    are = are_more_pin vs k has.are low;
    once = once_more_pin vs k has.once (none_at (has_pin vs) k has.below);
    below = λ i is. elim (or_cases (has_pin vs i) (k == i) (sym (has_pin_more vs k i) ∙ is)) [
      | inl there ↦ let less = has.below i there in omega (arith, less)
      | inr here ↦ let same = eqb-true k i here in omega (arith, same)
    ];
    known = record {
      pins = λ i is. elim (or_cases (has_pin vs i) (k == i) (sym (has_pin_more vs k i) ∙ is)) [
        | inl there ↦ has.known.pins i there
        | inr here ↦ subst (λ n. knows_pin t a b n ≡ true) (eqb-true k i here) known
      ];
      q = λ c is. has.known.q c (sym (has_q_same vs k c) ∙ is);
    };
    each = λ i below is. has_pin_more vs k i ∙ elim (cases_lt i k) [
      | inl earlier ↦ or_left (has_pin vs i) (k == i) (has.each i earlier is)
      | inr last ↦ or_right (has_pin vs i) (k == i) (eq-eqb k i (omega (arith, below, last)))
    ];
    no_q = λ c. has_q_same vs k c ∙ has.no_q c;
  }

  -- one that isn't
  pub pin_out : (k : ℕ) (vs : List Variable) → HasKnownPins t a b k vs → knows_pin t a b k ≡ false → HasKnownPins t a b (k + 1) vs
  pin_out k vs has unknown = record {
    are = has.are;
    once = has.once;
    below = λ i is. let less = has.below i is in omega (arith, less);
    known = has.known;
    each = λ i below is. elim (cases_lt i k) [
      | inl earlier ↦ has.each i earlier is
      | inr last ↦ let same : i ≡ k = omega (arith, below, last) in absurd (true≢false (sym is ∙ subst (λ n. knows_pin t a b n ≡ false) (sym same) unknown))
    ];
    no_q = has.no_q;
  }

  pub pins_first : (vs : List Variable) → HasKnownPins t a b 32 vs → HasKnownQs t a b 0 vs
  pins_first vs has = record {
    are = has.are;
    once = has.once;
    below = λ c is. absurd (true≢false (sym is ∙ has.no_q c));
    known = has.known;
    pins = has.each;
    each = λ c below is. absurd (omega (arith, below));
  }

  -- a Q that is known
  pub q_in : (c : ℕ) (vs : List Variable) → c < 32 → HasKnownQs t a b c vs → knows_q t a b c ≡ true → HasKnownQs t a b (c + 1) (vs ++ Q c ∷ [])
  q_in c vs low has known = record {
    are = are_more_q vs c has.are low;
    once = once_more_q vs c has.once (none_at (has_q vs) c has.below);
    below = λ d is. elim (or_cases (has_q vs d) (c == d) (sym (has_q_more vs c d) ∙ is)) [
      | inl there ↦ let less = has.below d there in omega (arith, less)
      | inr here ↦ let same = eqb-true c d here in omega (arith, same)
    ];
    known = record {
      pins = λ k is. has.known.pins k (sym (has_pin_same vs c k) ∙ is);
      q = λ d is. elim (or_cases (has_q vs d) (c == d) (sym (has_q_more vs c d) ∙ is)) [
        | inl there ↦ has.known.q d there
        | inr here ↦ subst (λ n. knows_q t a b n ≡ true) (eqb-true c d here) known
      ];
    };
    pins = λ k within is. has_pin_same vs c k ∙ has.pins k within is;
    each = λ d below is. has_q_more vs c d ∙ elim (cases_lt d c) [
      | inl earlier ↦ or_left (has_q vs d) (c == d) (has.each d earlier is)
      | inr last ↦ or_right (has_q vs d) (c == d) (eq-eqb c d (omega (arith, below, last)))
    ];
  }

  pub q_out : (c : ℕ) (vs : List Variable) → HasKnownQs t a b c vs → knows_q t a b c ≡ false → HasKnownQs t a b (c + 1) vs
  q_out c vs has unknown = record {
    are = has.are;
    once = has.once;
    below = λ d is. let less = has.below d is in omega (arith, less);
    known = has.known;
    pins = has.pins;
    each = λ d below is. elim (cases_lt d c) [
      | inl earlier ↦ has.each d earlier is
      | inr last ↦ let same : d ≡ c = omega (arith, below, last) in absurd (true≢false (sym is ∙ subst (λ n. knows_q t a b n ≡ false) (sym same) unknown))
    ];
  }

  -- ---- the registers

  pub registers_none : HoldsRegisters t a b 0 (bits 32 0)
  registers_none d = elim (cases_lt d 32) [
    | inl within ↦ is_on-zero 32 d within ∙ sym (rw (le-ltb d 0 (omega arith)) refl)
    | inr past ↦ get_or_past (bits 32 0) d false (omega (arith, past, length-bits 32 0)) ∙ sym (rw (le-ltb d 0 (omega arith)) refl)
  ]

  pub register_in : (c : ℕ) (stored : List Bool) → IsWide stored → c < 32 → HoldsRegisters t a b c stored → (stores t a c || stores t b c) ≡ true
      → HoldsRegisters t a b (c + 1) (set stored c true)
  register_in c stored wide low holds is d = elim (cases_eq d c) [
    | inl same ↦
        rw same (get_or-set_same stored c true false (subst (λ l. c < l) (sym wide) low) ∙ sym (rw (lt-ltb c (c + 1) (omega arith)) is))
    | inr other ↦ get_or-set_other stored c d true false other ∙ (holds d ∙ ap (λ x. x && (stores t a d || stores t b d)) (later d c other))
  ]
    where
      later : (i n : ℕ) → i ≢ n → nat_lt i n ≡ nat_lt i (n + 1)
      later i n differ = elim (cases_lt i n) [
        | inl below ↦ lt-ltb i n below ∙ sym (lt-ltb i (n + 1) (omega (arith, below)))
        | inr past ↦ le-ltb i n past ∙ sym (le-ltb i (n + 1) (omega (arith, past, differ)))
      ]

  pub register_out : (c : ℕ) (stored : List Bool) → HoldsRegisters t a b c stored → (stores t a c || stores t b c) ≡ false → HoldsRegisters t a b (c + 1) stored
  register_out c stored holds none d = holds d ∙ elim (cases_lt d c) [
    | inl below ↦ rw (lt-ltb d c below, lt-ltb d (c + 1) (omega (arith, below))) refl
    | inr past ↦ rw (le-ltb d c past) (by_last (cases_eq d c) past)
  ]
    where
      by_last : (d ≡ c) ⊎ (d ≢ c) → c ≤ d → false ≡ (nat_lt d (c + 1) && (stores t a d || stores t b d))
      by_last (inl same) past = rw (same, none, lt-ltb c (c + 1) (omega arith)) refl
      by_last (inr other) past = sym (rw (le-ltb d (c + 1) (omega (arith, past, other))) refl)

  -- ---- the choice

  module _ (vs : List Variable) (fixed : List Bool) (wide : IsWide fixed) (holds : HoldsRegisters t a b (length t.cells) fixed) where
    at_one : (c : ℕ) → c < length t.cells → is_on fixed c ≡ (stores t a c || stores t b c)
    at_one c within = holds c ∙ rw (lt-ltb c (length t.cells) within) refl

    pub chosen_same : ((c : ℕ) → c < length t.cells → stores t a c ≡ stores t b c) → HasKnownQs t a b (length t.cells) vs → AreChosen t a b vs fixed
    chosen_same same has = record {
      are = has.are;
      wide = wide;
      pins = has.pins;
      q = SameKinds same (λ c within none. or_parts ((known_of t a).q c) ((known_of t b).q c) (unread c within none));
      at_one = at_one;
    }
      where
        unread : (c : ℕ) → c < length t.cells → has_q vs c ≡ false → knows_q t a b c ≡ false
        unread c within none = elim (cases_Bool (knows_q t a b c)) [
          | inl known ↦ absurd (true≢false (sym (has.each c within known) ∙ none))
          | inr unknown ↦ unknown
        ]

    pub chosen_other : (c : ℕ) → c < length t.cells → stores t a c ≢ stores t b c → HasKnownPins t a b 32 vs → AreChosen t a b vs fixed
    chosen_other c within other has = record {
      are = has.are;
      wide = wide;
      pins = has.each;
      q = OtherKinds c within other has.no_q;
      at_one = at_one;
    }
