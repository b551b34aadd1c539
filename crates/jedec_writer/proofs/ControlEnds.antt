-- The number after the last control fuse, one entry or one list more at a time.
use Rattle.std.proofs.Common.{◌≡◌, ℕ, zero, suc, ◌<◌, ◌≤◌, List, [], ◌∷◌, ◌++◌, map, drop, slice_get, All, None, Some, refl, sym, ap, ◌∙◌, arith, max}
use Rattle.jedec_writer.proofs.Common.{nat_tests, FuseBit, Table, IsDevice, past, control_fuses, fuses_named}
use Rattle.std.proofs.Math.Nat.{zero-max, max-zero}
use Rattle.std.proofs.Math.Seq.{drop-nil}

max_assoc : (a b c : ℕ) → max (max a b) c ≡ max a (max b c)
max_assoc a b c = omega (arith)

past_cons : (n : ℕ) (ns : List ℕ) → past (n ∷ ns) ≡ max (suc n) (past ns)
past_cons n ns = grind (arith, nat_tests)

pub past_append : (ns ms : List ℕ) → past (ns ++ ms) ≡ max (past ns) (past ms)
past_append [] ms = sym (zero-max (past ms))
past_append (n ∷ ns) ms =
    past_cons n (ns ++ ms) ∙ ap (max (suc n)) (past_append ns ms)
    ∙ sym (max_assoc (suc n) (past ns) (past ms)) ∙ ap (λ (k : ℕ). max k (past ms)) (sym (past_cons n ns))

-- an entry of a list of fixed fuses, and those after it
pub fixed_more : (bits : List FuseBit) (i : ℕ)
    → max (past (fuses_named (slice_get bits i ∷ []))) (past (map (λ (bit : FuseBit). bit.fuse) (drop (suc i) bits)))
    ≡ past (map (λ (bit : FuseBit). bit.fuse) (drop i bits))
fixed_more [] i = rw (drop-nil (suc i), drop-nil i) refl
fixed_more (bit ∷ bits) zero =
    let fixed = map (λ (bit : FuseBit). bit.fuse) bits in
    ap (λ (k : ℕ). max k (past fixed)) (past_cons bit.fuse [] ∙ max-zero (suc bit.fuse)) ∙ sym (past_cons bit.fuse fixed)
fixed_more (bit ∷ bits) (suc i) = fixed_more bits i

-- a switch of a row, and those after it
pub switch_more : (ns : List ℕ) (i n : ℕ) → slice_get ns i ≡ Some n → max (suc n) (past (drop (suc i) ns)) ≡ past (drop i ns)
switch_more [] i n found = absurd cc
switch_more (m ∷ ns) zero n found =
    let same : n ≡ m = cc in
    ap (λ (k : ℕ). max (suc k) (past ns)) same ∙ sym (past_cons m ns)
switch_more (m ∷ ns) (suc i) n found = switch_more ns i n found

pub no_switch : (ns : List ℕ) (i : ℕ) → slice_get ns i ≡ None → past (drop (suc i) ns) ≡ past (drop i ns)
no_switch [] i found = rw (drop-nil (suc i), drop-nil i) refl
no_switch (m ∷ ns) zero found = absurd cc
no_switch (m ∷ ns) (suc i) found = no_switch ns i found

-- what was passed, one entry, and those after it
pub goes_on : (end more next rest all : ℕ) → max end rest ≡ all → max more next ≡ rest → max (max end more) next ≡ all
goes_on end more next rest all is step = max_assoc end more next ∙ ap (max end) step ∙ is

-- the greatest of the four lists' ends
abbrev pub four_ends : Table → ℕ
four_ends t =
    max
    (max (max (past (fuses_named t.inverted)) (past (fuses_named t.registered))) (past t.row_switches))
    (past (map (λ (bit : FuseBit). bit.fuse) t.fixed))

pub four_parts : (t : Table) → four_ends t ≡ past (control_fuses t)
four_parts t =
    let fixed = map (λ (bit : FuseBit). bit.fuse) t.fixed in
    sym
    (past_append (fuses_named t.inverted ++ fuses_named t.registered ++ t.row_switches) fixed
    ∙ ap (λ (k : ℕ). max k (past fixed))
    (past_append (fuses_named t.inverted ++ fuses_named t.registered) t.row_switches
    ∙ ap (λ (k : ℕ). max k (past t.row_switches)) (past_append (fuses_named t.inverted) (fuses_named t.registered))))

past_below : (ns : List ℕ) (limit : ℕ) → All (λ n. n < limit) ns → past ns ≤ limit
past_below [] limit below = omega arith
past_below (n ∷ ns) limit below =
    let first : n < limit = below 0 n (omega arith) in
    let rest : past ns ≤ limit = past_below ns limit (λ k d within. below (suc k) d (omega (arith, within))) in
    let step : past (n ∷ ns) ≡ max (suc n) (past ns) = past_cons n ns in
    omega (arith, first, rest, step)

-- no control fuse is past the device's fuses
pub control_inside : (t : Table) → IsDevice t → past (control_fuses t) ≤ t.fuses
control_inside t device = past_below (control_fuses t) t.fuses (λ k d within. (device.control_listed k d within).below)
