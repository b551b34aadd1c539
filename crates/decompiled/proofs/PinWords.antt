-- What the names of a decompiled source are: which are registers, and which of them invert.
use Rattle.std.proofs.Common.{◌≡◌, ℕ, zero, suc, ◌+◌, ◌<◌, ◌≤◌, ◌⊎◌, inl, inr, Bool, true, false, not, is_some, Option, Some, None, List, length, refl, sym, ap, subst, ◌∙◌, arith, eqb-true, ◌==◌, ◌&&◌}
use Rattle.decompiled.proofs.Common.{find, range_with_len, and_parts, cases_Bool, cases_lt, eq-eqb, true≢false, Place, Flip, IsDevice, pin_complements, is_inverted, stores, Table, cell_at, own_pins, Assigned, is_assigned, is_clocked_target, APin, Entry, follows_q, is_stored, ModuleTree, is_free, entry, design_of, name_at, Holds, with_kind, name_text, IsSourceTree, said, follows_by, has_lines, is_register_on, register_on, source_of, signal_of}
use Rattle.decompiled.proofs.SourcePins.{IsDeclared}
use Rattle.decompiled.proofs.SourceNames.{held, found, name_is, pin_named}
use Rattle.decompiled.proofs.AssignedPins.{cell_assigned, cell_clocked, free_unassigned, free_unclocked}

-- ---- what is found in a range

module _ (passes : ℕ → Bool) where
  -- what is found passes, and nothing passes if none is found
  pub found_passes : (a n c : ℕ) → find passes (range_with_len a n) ≡ Some c → (passes c ≡ true) × (c < a + n)
  found_passes a zero c is = absurd cc
  found_passes a (suc n) c is = by_test (passes a) refl (λ later. found_passes (a + 1) n c later)
    where
      same : Some a ≡ Some c → a ≡ c
      same e = cc

      by_test : (b : Bool) → passes a ≡ b → (find passes (range_with_len (a + 1) n) ≡ Some c → (passes c ≡ true) × (c < a + 1 + n)) → (passes c ≡ true) × (c < a + suc n)
      by_test true holds later = let here : a ≡ c = same (rw holds at is) in (ap passes (sym here) ∙ holds, omega (arith, here))
      by_test false fails later = let there = later (rw fails at is) in (there.0, omega (arith, there.1))

  pub none_passes : (a n c : ℕ) → find passes (range_with_len a n) ≡ None → a ≤ c → c < a + n → passes c ≡ false
  none_passes a zero c is low high = absurd (omega arith)
  none_passes a (suc n) c is low high = by_test (passes a) refl (λ later less. none_passes (a + 1) n c later less (omega (arith, high)))
    where
      by_test : (b : Bool) → passes a ≡ b → (find passes (range_with_len (a + 1) n) ≡ None → a + 1 ≤ c → passes c ≡ false) → passes c ≡ false
      by_test true holds later = absurd (some_none (rw holds at is))
        where
          some_none : Some a ≡ None → ⊥
          some_none e = cc
      by_test false fails later = elim (cases_lt a c) [
        | inl before ↦ later (rw fails at is) (omega (arith, before))
        | inr past ↦ let same : a ≡ c = omega (arith, past, low) in ap passes (sym same) ∙ fails
      ]

-- ---- words

-- what a name says of its pin: a register if a word says so and it is assigned, with its polarity, and never free
pub record AreWords (follows : Option Bool) (assigned : Bool) (x : Entry) : Type 0 where
  pub stored : is_stored x ≡ (is_some follows && assigned)
  pub buffer : (b : Bool) → follows ≡ Some b → follows_q x ≡ b
  pub free : is_free x ≡ false

said_buffer : said (Some true) ≡ record { combinational = false; registered = true; buffer = true; invert = false; dc = false }
said_buffer = refl

said_invert : said (Some false) ≡ record { combinational = false; registered = true; buffer = false; invert = true; dc = false }
said_invert = refl

and_false : (b : Bool) → (b && false) ≡ false
and_false true = refl
and_false false = refl

same_bool : (a b : Bool) → Some a ≡ Some b → a ≡ b
same_bool a b e = cc

module _ (flip : Flip) (held : Holds) (found : List Assigned) (s : ℕ) (name : List ℕ) (p : Place) (pin : ℕ) where
  abbrev named : Option Bool → Entry
  named follows = with_kind flip held found s (entry name p (APin pin false) (said follows))

  pub words_are : (follows : Option Bool) → (follows ≡ None → is_clocked_target found s ≡ false) → AreWords follows (is_assigned found s) (named follows)
  words_are None unclocked =
      let c : is_clocked_target found s ≡ false = unclocked refl in
      record {
        stored = ap (λ (b : Bool). b && is_assigned found s) c;
        buffer = λ b e. absurd cc;
        free = ap (λ (b : Bool). (b && is_assigned found s) && (not (named None).words.buffer && not (named None).words.invert)) c;
      }
  words_are (Some true) unclocked = record { stored = refl; buffer = λ b e. same_bool true b e; free = and_false (is_assigned found s) }
  words_are (Some false) unclocked = record { stored = refl; buffer = λ b e. same_bool false b e; free = and_false (is_assigned found s) }

-- ---- the names of a decompiled source

module _ (t : Table) (fuses : List Bool) (laws : IsDevice t) (m : ModuleTree) (is : IsSourceTree (source_of t fuses) m) where
  abbrev pub name : ℕ → Entry
  name pin = name_at (design_of t m).context (signal_of t fuses pin)

  -- no cell is on the pin
  abbrev pub HasNoCell : ℕ → Type 0
  HasNoCell pin = (c : ℕ) → c < length t.cells → (cell_at t c).pin ≡ pin → ⊥

  -- a cell is, or none
  pub on_cell : (pin : ℕ) → ((c : ℕ) × (c < length t.cells) × ((cell_at t c).pin ≡ pin)) ⊎ HasNoCell pin
  on_cell pin = by_cell (find (λ c. (cell_at t c).pin == pin) (range_with_len 0 (length t.cells))) refl
    where
      by_cell : (o : Option ℕ) → find (λ c. (cell_at t c).pin == pin) (range_with_len 0 (length t.cells)) ≡ o → ((c : ℕ) × (c < length t.cells) × ((cell_at t c).pin ≡ pin)) ⊎ HasNoCell pin
      by_cell (Some c) e =
          let there = found_passes (λ c. (cell_at t c).pin == pin) 0 (length t.cells) c e in
          inl (c, omega (arith, there.1), eqb-true (cell_at t c).pin pin there.0)
      by_cell None e = inr (λ c within same. true≢false (sym (eq-eqb (cell_at t c).pin pin same) ∙ none_passes (λ c. (cell_at t c).pin == pin) 0 (length t.cells) c e (omega arith) (omega (arith, within))))

  -- ---- registers on pins

  pub register_is : (c : ℕ) → c < length t.cells → stores t fuses c ≡ true → register_on t fuses (cell_at t c).pin ≡ Some c
  register_is c within stored = by_cell (register_on t fuses (cell_at t c).pin) refl
    where
      passes : is_register_on t fuses (cell_at t c).pin c ≡ true
      passes = rw (eq-eqb (cell_at t c).pin (cell_at t c).pin refl) stored

      by_cell : (o : Option ℕ) → register_on t fuses (cell_at t c).pin ≡ o → register_on t fuses (cell_at t c).pin ≡ Some c
      by_cell None e = absurd (true≢false (sym passes ∙ none_passes (is_register_on t fuses (cell_at t c).pin) 0 (length t.cells) c e (omega arith) (omega (arith, within))))
      by_cell (Some d) e =
          let there = found_passes (is_register_on t fuses (cell_at t c).pin) 0 (length t.cells) d e in
          let both = and_parts ((cell_at t d).pin == (cell_at t c).pin) (stores t fuses d) there.0 in
          e ∙ ap Some ((own_pins t laws).apart d c (omega (arith, there.1)) within (eqb-true (cell_at t d).pin (cell_at t c).pin both.0))

  pub no_register : (c : ℕ) → c < length t.cells → stores t fuses c ≡ false → register_on t fuses (cell_at t c).pin ≡ None
  no_register c within plain = by_cell (register_on t fuses (cell_at t c).pin) refl
    where
      by_cell : (o : Option ℕ) → register_on t fuses (cell_at t c).pin ≡ o → register_on t fuses (cell_at t c).pin ≡ None
      by_cell None e = e
      by_cell (Some d) e =
          let there = found_passes (is_register_on t fuses (cell_at t c).pin) 0 (length t.cells) d e in
          let both = and_parts ((cell_at t d).pin == (cell_at t c).pin) (stores t fuses d) there.0 in
          let same : d ≡ c = (own_pins t laws).apart d c (omega (arith, there.1)) within (eqb-true (cell_at t d).pin (cell_at t c).pin both.0) in
          absurd (true≢false (sym both.1 ∙ ap (stores t fuses) same ∙ plain))

  pub free_pin : (pin : ℕ) → HasNoCell pin → register_on t fuses pin ≡ None
  free_pin pin none = by_cell (register_on t fuses pin) refl
    where
      by_cell : (o : Option ℕ) → register_on t fuses pin ≡ o → register_on t fuses pin ≡ None
      by_cell None e = e
      by_cell (Some d) e =
          let there = found_passes (is_register_on t fuses pin) 0 (length t.cells) d e in
          absurd (none d (omega (arith, there.1)) (eqb-true (cell_at t d).pin pin (and_parts ((cell_at t d).pin == pin) (stores t fuses d) there.0).0))

  -- ---- words

  unclocked : (pin : ℕ) → IsDeclared t fuses laws pin → follows_by t fuses (register_on t fuses pin) ≡ None → is_clocked_target (found t fuses laws m is) (signal_of t fuses pin) ≡ false
  unclocked pin dec plain = elim (on_cell pin) [
    | inl at ↦ on_this at.0 at.1 at.2
    | inr none ↦ free_unclocked t fuses laws m is pin dec none
  ]
    where
      on_this : (c : ℕ) → c < length t.cells → (cell_at t c).pin ≡ pin → is_clocked_target (found t fuses laws m is) (signal_of t fuses pin) ≡ false
      on_this c within same =
          let dec_c : IsDeclared t fuses laws (cell_at t c).pin = subst (IsDeclared t fuses laws) (sym same) dec in
          let clocked : is_clocked_target (found t fuses laws m is) (signal_of t fuses pin) ≡ stores t fuses c = subst (λ (q : ℕ). is_clocked_target (found t fuses laws m is) (signal_of t fuses q) ≡ stores t fuses c) same (cell_clocked t fuses laws m is c within dec_c) in
          elim (cases_Bool (stores t fuses c)) [
            | inl stored ↦ absurd (some_none (sym (ap (follows_by t fuses) (ap (register_on t fuses) (sym same) ∙ register_is c within stored)) ∙ plain))
            | inr not_stored ↦ clocked ∙ not_stored
          ]
        where
          some_none : {b : Bool} → Some b ≡ None → ⊥
          some_none e = cc

  pub pin_words : (pin : ℕ) → IsDeclared t fuses laws pin → AreWords (follows_by t fuses (register_on t fuses pin)) (is_assigned (found t fuses laws m is) (signal_of t fuses pin)) (name pin)
  pin_words pin dec =
      subst (AreWords (follows_by t fuses (register_on t fuses pin)) (is_assigned (found t fuses laws m is) (signal_of t fuses pin))) (sym (name_is t fuses laws m is pin dec))
      (words_are t.flip (held t fuses laws m is) (found t fuses laws m is) (signal_of t fuses pin) (name_text pin) (pin_named t fuses laws m is pin dec).place pin (follows_by t fuses (register_on t fuses pin)) (unclocked pin dec))

  pub kind_is : (pin : ℕ) → IsDeclared t fuses laws pin → (name pin).kind ≡ APin pin false
  kind_is pin dec = ap (λ (x : Entry). x.kind) (name_is t fuses laws m is pin dec)

  assigned_as : (pin : ℕ) → IsDeclared t fuses laws pin → (name pin).assigned ≡ is_assigned (found t fuses laws m is) (signal_of t fuses pin)
  assigned_as pin dec = ap (λ (x : Entry). x.assigned) (name_is t fuses laws m is pin dec)

  -- the name of a cell's pin
  pub record IsCellName (c : ℕ) (x : Entry) : Type 0 where
    pub kind : x.kind ≡ APin (cell_at t c).pin false
    pub assigned : x.assigned ≡ has_lines t fuses c
    pub stored : is_stored x ≡ stores t fuses c
    pub follows : stores t fuses c ≡ true → follows_q x ≡ not (pin_complements t.flip true (is_inverted t fuses c))
    pub free : is_free x ≡ false

  pub cell_name : (c : ℕ) → c < length t.cells → IsDeclared t fuses laws (cell_at t c).pin → IsCellName c (name (cell_at t c).pin)
  cell_name c within dec =
      let words = pin_words (cell_at t c).pin dec in
      let has : is_assigned (found t fuses laws m is) (signal_of t fuses (cell_at t c).pin) ≡ has_lines t fuses c = cell_assigned t fuses laws m is c within dec in
      record {
        kind = kind_is (cell_at t c).pin dec;
        assigned = assigned_as (cell_at t c).pin dec ∙ has;
        stored = words.stored ∙ ap (λ (b : Bool). is_some (follows_by t fuses (register_on t fuses (cell_at t c).pin)) && b) has ∙ stored_by (stores t fuses c) refl;
        follows = λ stored. words.buffer (not (pin_complements t.flip true (is_inverted t fuses c))) (ap (follows_by t fuses) (register_is c within stored));
        free = words.free;
      }
    where
      stored_by : (b : Bool) → stores t fuses c ≡ b → (is_some (follows_by t fuses (register_on t fuses (cell_at t c).pin)) && has_lines t fuses c) ≡ stores t fuses c
      stored_by true e =
          ap (λ (o : Option ℕ). is_some (follows_by t fuses o) && has_lines t fuses c) (register_is c within e)
          ∙ (rw e refl)
      stored_by false e = ap (λ (o : Option ℕ). is_some (follows_by t fuses o) && has_lines t fuses c) (no_register c within e) ∙ sym e

  -- a pin without a cell is no register
  pub free_plain : (pin : ℕ) → IsDeclared t fuses laws pin → HasNoCell pin → is_stored (name pin) ≡ false
  free_plain pin dec none =
      (pin_words pin dec).stored ∙ ap (λ (o : Option ℕ). is_some (follows_by t fuses o) && is_assigned (found t fuses laws m is) (signal_of t fuses pin)) (free_pin pin none)

  pub free_unassigned_name : (pin : ℕ) → IsDeclared t fuses laws pin → HasNoCell pin → (name pin).assigned ≡ false
  free_unassigned_name pin dec none = assigned_as pin dec ∙ free_unassigned t fuses laws m is pin dec none
