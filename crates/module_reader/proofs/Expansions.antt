-- An expansion ends or is refused, and is refused once: if a turn is refused, every later one leaves all as it is.
use Rattle.std.proofs.Common.{◌≡◌, ℕ, zero, suc, ◌+◌, ◌-◌, ◌≤◌, inl, inr, List, Result, Ok, Err, refl, sym, ap, subst, ◌∙◌, arith, ◌≢◌}
use Rattle.module_reader.proofs.Common.{cases_lt, Place, place_past, first_place, Cause, TooLong, ExpansionLimit, BadDirective, Unsupported, Config, turn, turned, after, IsExpanded, IsRefusal}
use Rattle.abel_expand.specs.declared.fault.ExpandFault.{ExpandFault}
use Rattle.abel_expand.specs.declared.fault.ExpandFault.TheVariants as fault
use Rattle.abel_expand.specs.Runs.{IsRefused}
use Rattle.module_reader.proofs.Ends.{Ended, still}

-- ---- a refused turn

-- it changes nothing
no_turn : (c : Config) (cause : Cause) → turn c ≡ Err cause → turned c ≡ c
no_turn c cause e = subst (λ (r : Result Config Cause). elim r [ Ok d ↦ d | Err f ↦ c ] ≡ c) (sym e) refl

-- and no number of turns after it does
stays : (text : List ℕ) (n k : ℕ) (cause : Cause) → turn (after n text) ≡ Err cause → after (k + n) text ≡ after n text
stays text n zero cause e = let none : 0 + n ≡ n = omega arith in ap (λ (i : ℕ). after i text) none
stays text n (suc k) cause e =
    let one_more : suc k + n ≡ suc (k + n) = omega arith in
    ap (λ (i : ℕ). after i text) one_more ∙ ap turned (stays text n k cause e) ∙ no_turn (after n text) cause e

stays_until : (text : List ℕ) (n m : ℕ) (cause : Cause) → n ≤ m → turn (after n text) ≡ Err cause → after m text ≡ after n text
stays_until text n m cause below e =
    let k : m ≡ m - n + n = omega arith in
    ap (λ (i : ℕ). after i text) k ∙ stays text n (m - n) cause e

-- ---- it ends, or is refused

ended_then : (text w v : List ℕ) (cause : Cause) (e : IsExpanded text w) (r : IsRefused text cause v) → e.0 ≤ r.0 → ⊥
ended_then text w v cause e r below =
    let k : r.0 - e.0 + e.0 ≡ r.0 = omega arith in
    r.1 ((subst (λ (i : ℕ). Ended (after i text) w) k (still text w e.0 (r.0 - e.0) (record { rest = e.1; done = e.2 }))).rest)

refused_then : (text w v : List ℕ) (cause : Cause) (e : IsExpanded text w) (r : IsRefused text cause v) → r.0 ≤ e.0 → ⊥
refused_then text w v cause e r below = r.1 (sym (ap (λ (c : Config). c.rest) (stays_until text r.0 e.0 cause below r.2)) ∙ e.1)

never_both : (text w v : List ℕ) (cause : Cause) → IsExpanded text w → IsRefused text cause v → ⊥
never_both text w v cause e r =
    elim (cases_lt r.0 e.0) [
      | inl before ↦ refused_then text w v cause e r (omega arith)
      | inr below ↦ ended_then text w v cause e r below
    ]

-- ---- it is refused once

abbrev refusal : Cause → Result Config Cause
refusal c = Err c

refused_alike : (text v u : List ℕ) (cause other : Cause) (r : IsRefused text cause v) (s : IsRefused text other u) → r.0 ≤ s.0 → (cause ≡ other) × (v ≡ u)
refused_alike text v u cause other r s below =
    let same : after s.0 text ≡ after r.0 text = stays_until text r.0 s.0 cause below r.2 in
    let both : refusal cause ≡ refusal other = sym r.2 ∙ ap turn (sym same) ∙ s.2 in
    (cc, sym r.3 ∙ ap (λ (c : Config). c.done) (sym same) ∙ s.3)

refused_once : (text v u : List ℕ) (cause other : Cause) → IsRefused text cause v → IsRefused text other u → (cause ≡ other) × (v ≡ u)
refused_once text v u cause other r s =
    elim (cases_lt s.0 r.0) [
      | inl before ↦ let alike = refused_alike text u v other cause s r (omega arith) in (sym alike.0, sym alike.1)
      | inr below ↦ refused_alike text v u cause other r s below
    ]

-- ---- the same of faults

abbrev fault_at : Cause → Place → ExpandFault
fault_at TooLong p = fault.TooLong p
fault_at ExpansionLimit p = fault.ExpansionLimit p
fault_at BadDirective p = fault.BadDirective p
fault_at Unsupported p = fault.Unsupported p

-- a refusal has a cause, and follows what was done
cause_of : (text v : List ℕ) (f : ExpandFault) → f ≢ fault.OutOfMemory → IsRefusal text v f → (cause : Cause) × (f ≡ fault_at cause (place_past first_place v)) × IsRefused text cause v
cause_of text v (fault.TooLong p) some r = (TooLong, ap (fault_at TooLong) r.0, r.1)
cause_of text v (fault.ExpansionLimit p) some r = (ExpansionLimit, ap (fault_at ExpansionLimit) r.0, r.1)
cause_of text v (fault.BadDirective p) some r = (BadDirective, ap (fault_at BadDirective) r.0, r.1)
cause_of text v (fault.Unsupported p) some r = (Unsupported, ap (fault_at Unsupported) r.0, r.1)
cause_of text v fault.OutOfMemory some r = absurd (some refl)

-- a text that expands has no refusal
pub no_refusal : (text w v : List ℕ) (f : ExpandFault) → f ≢ fault.OutOfMemory → IsExpanded text w → IsRefusal text v f → ⊥
no_refusal text w v f some e r = let c = cause_of text v f some r in never_both text w v c.0 e c.2

-- and any other one refusal
pub one_refusal : (text v u : List ℕ) (f g : ExpandFault) → f ≢ fault.OutOfMemory → g ≢ fault.OutOfMemory → IsRefusal text v f → IsRefusal text u g → f ≡ g
one_refusal text v u f g some more r s =
    let c = cause_of text v f some r in
    let d = cause_of text u g more s in
    let same = refused_once text v u c.0 d.0 c.2 d.2 in
    c.1 ∙ ap (λ (x : Cause). fault_at x (place_past first_place v)) same.0 ∙ ap (λ (x : List ℕ). fault_at d.0 (place_past first_place x)) same.1 ∙ sym d.1
