-- The states of a search have no level at which no pin is, and no Q if no register is.
use Rattle.std.proofs.Common.{◌≡◌, ◌⊎◌, ℕ, ◌<◌, Bool, true, ◌||◌, ◌==◌, not, List, [], ◌∷◌, length, set, get_or, sym, ◌∙◌, ap, subst, inl, inr, nat_lt}
use Rattle.fuse_compare.proofs.Common.{and_parts, eqb-true, ltb-true, or_cases, or_left, or_right, bits, is_on, Carry, Cell, is_enable_pin, IsDevice, IsPair, IsSignalPin, stores, Table, cell_at, no_cell, AreKnown, HoldsRegisters, IsPlainState, enables_some, is_level_of, known_of, some_read, Varies, has_pin, has_q, Difference, Variable, Pin, Q}
use Rattle.pld_device.specs.declared.carry.Carry.TheVariants as carry
use Rattle.fuse_compare.proofs.Uncut.{no_level, set_on}
use Rattle.fuse_compare.proofs.DeviceKnows.{enables_is, knows_reads, one_cell, some_of}

-- a level of a state is one of the first state, or of a variable
pub pin_from : (vs : List Variable) (o s o' s' : List Bool) → Varies vs o s o' s' → (k : ℕ) → is_on o' k ≡ true → (is_on o k ≡ true) ⊎ (has_pin vs k ≡ true)
pin_from [] o s o' s' varies k on = inl (ap (λ xs. is_on xs k) varies.0 ∙ on)
pin_from (Pin j ∷ vs) o s o' s' varies k on = elim (pin_from vs (set o j varies.0) s o' s' varies.1 k on) [
  | inl first ↦
      elim (set_on o j k varies.0 first) [
        | inl there ↦ inl there
        | inr here ↦ inr (or_left (j == k) (has_pin vs k) here)
      ]
  | inr later ↦ inr (or_right (j == k) (has_pin vs k) later)
]
pin_from (Q c ∷ vs) o s o' s' varies k on = pin_from vs o (set s c varies.0) o' s' varies.1 k on

pub q_from : (vs : List Variable) (o s o' s' : List Bool) → Varies vs o s o' s' → (c : ℕ) → is_on s' c ≡ true → (is_on s c ≡ true) ⊎ (has_q vs c ≡ true)
q_from [] o s o' s' varies c on = inl (ap (λ xs. is_on xs c) varies.1 ∙ on)
q_from (Pin j ∷ vs) o s o' s' varies c on = q_from vs (set o j varies.0) s o' s' varies.1 c on
q_from (Q d ∷ vs) o s o' s' varies c on = elim (q_from vs o (set s d varies.0) o' s' varies.1 c on) [
  | inl first ↦
      elim (set_on s d c varies.0 first) [
        | inl there ↦ inl there
        | inr here ↦ inr (or_left (d == c) (has_q vs c) here)
      ]
  | inr later ↦ inr (or_right (d == c) (has_q vs c) later)
]

module _ (t : Table) (laws : IsDevice t) (a b : List Bool) where
  -- a pin that is known is one for signals
  level_is_signal : (fuses : List Bool) (k : ℕ) (x : Carry) → IsPair t x → is_level_of t fuses k x ≡ true → IsSignalPin t k
  level_is_signal fuses k (carry.Pin p) is carried = subst (IsSignalPin t) (eqb-true p k carried) is.0
  level_is_signal fuses k (carry.Cell c) is carried =
      subst (IsSignalPin t) (eqb-true (cell_at t c).pin k (and_parts (not (stores t fuses c)) ((cell_at t c).pin == k) carried).1) (laws.cells c no_cell is).pin

  known_is_signal : (fuses : List Bool) (k : ℕ) → (known_of t fuses).pins k ≡ true → IsSignalPin t k
  known_is_signal fuses k known = elim (or_cases (some_read t fuses (is_level_of t fuses k)) (enables_some t k) known) [
    | inl read ↦
        let found = some_of t laws fuses (is_level_of t fuses k) read in
        level_is_signal fuses k (get_or t.pairs found.0 (carry.Pin 0)) (laws.pairs found.0 (carry.Pin 0) found.1) found.2
    | inr enables ↦
        let found = one_cell (λ (cell : Cell). is_enable_pin k cell.enable) t.cells enables in
        (laws.cells found.0 no_cell found.1).enable_pin k (enables_is k (cell_at t found.0).enable found.2)
  ]

  module _ (vars : List Variable) (fixed : List Bool) (known : AreKnown t a b vars) (registers : HoldsRegisters t a b (length t.cells) fixed) (d : Difference)
      (varies : Varies vars (bits 32 0) fixed (bits 32 d.outside) (bits 32 d.stored)) where
    signal_at : (k : ℕ) → is_on (bits 32 d.outside) k ≡ true → IsSignalPin t k
    signal_at k on = elim (pin_from vars (bits 32 0) fixed (bits 32 d.outside) (bits 32 d.stored) varies k on) [
      | inl first ↦ absurd (no_level k first)
      | inr variable ↦
          elim (or_cases ((known_of t a).pins k) ((known_of t b).pins k) (known.pins k variable)) [
            | inl of_a ↦ known_is_signal a k of_a
            | inr of_b ↦ known_is_signal b k of_b
          ]
    ]

    stored_at : (c : ℕ) → is_on (bits 32 d.stored) c ≡ true → (c < length t.cells) × ((stores t a c ≡ true) ⊎ (stores t b c ≡ true))
    stored_at c on = elim (q_from vars (bits 32 0) fixed (bits 32 d.outside) (bits 32 d.stored) varies c on) [
      | inl first ↦
          let parts = and_parts (nat_lt c (length t.cells)) (stores t a c || stores t b c) (sym (registers c) ∙ first) in
          (ltb-true c (length t.cells) parts.0, or_cases (stores t a c) (stores t b c) parts.1)
      | inr variable ↦
          elim (or_cases ((known_of t a).q c) ((known_of t b).q c) (known.q c variable)) [
            | inl of_a ↦ let is = (knows_reads t laws a).registers c of_a in (is.0, inl is.1)
            | inr of_b ↦ let is = (knows_reads t laws b).registers c of_b in (is.0, inr is.1)
          ]
    ]

    pub plain_state : IsPlainState t a b d
    plain_state = record { outside = signal_at; stored = stored_at }
