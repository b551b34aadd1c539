-- The bits of the cells that are chosen, one more at a time.
use Rattle.std.proofs.Common.{◌≡◌, ℕ, ◌+◌, ◌<◌, ◌≤◌, Bool, true, false, ◌&&◌, nat_lt, List, length, set, refl, sym, ap, ◌∙◌, arith, inl, inr, get_or-set_same, get_or-set_other}
use Rattle.source_machine.proofs.Common.{cases_eq, cases_lt, le-ltb, lt-ltb, get_or_past, bits, is_on, is_on-zero, length-bits, Table, PlainNetlist, wanted_at, is_free_wanted, AreChosen, chosen}

-- the levels of the first places, and 0 after them
abbrev pub HasFirst : (ℕ → Bool) → (n : ℕ) → List Bool → Type 0
HasFirst x n levels = (k : ℕ) → is_on levels k ≡ (nat_lt k n && x k)

pub none_yet : (x : ℕ → Bool) → HasFirst x 0 (bits 32 0)
none_yet x k =
    elim (cases_lt k 32) [
      | inl less ↦ is_on-zero 32 k less
      | inr past ↦ get_or_past (bits 32 0) k false (omega (arith, past, length-bits 32 0))
    ]
    ∙ sym (ap (λ b. b && x k) (le-ltb k 0 (omega arith)))

pub one_more : (x : ℕ → Bool) (n : ℕ) (levels next : List Bool) (on : Bool) → n < length levels → HasFirst x n levels → next ≡ set levels n on → on ≡ x n
    → HasFirst x (n + 1) next
one_more x n levels next on low before is here k =
    ap (λ xs. is_on xs k) is ∙ elim (cases_eq k n) [
      | inl same ↦ rw (same, lt-ltb n (n + 1) (omega arith)) (get_or-set_same levels n on false low ∙ here)
      | inr other ↦ get_or-set_other levels n k on false other ∙ (before k ∙ ap (λ b. b && x k) (counted other))
    ]
  where
    counted : (k ≡ n → ⊥) → nat_lt k n ≡ nat_lt k (n + 1)
    counted other =
        elim (cases_lt k n) [
          | inl less ↦ lt-ltb k n less ∙ sym (lt-ltb k (n + 1) (omega (arith, less)))
          | inr past ↦ elim (cases_lt n k) [
            | inl behind ↦ le-ltb k n past ∙ sym (le-ltb k (n + 1) (omega (arith, behind)))
            | inr also ↦ absurd (other (omega (arith, past, also)))
          ]
        ]

-- once all cells are counted, these are the cells that are chosen
pub all_counted : (t : Table) (net : PlainNetlist) (inverted complemented n : ℕ) → length t.cells ≤ n → HasFirst (chosen t net inverted) n (bits 32 complemented) → AreChosen t net inverted complemented
all_counted t net inverted complemented n all first c =
    first c ∙ elim (cases_lt c (length t.cells)) [
      | inl less ↦ ap (λ b. b && chosen t net inverted c) (lt-ltb c n (omega (arith, less, all)))
      | inr past ↦ rw (le-ltb c (length t.cells) past) (never (nat_lt c n) (is_free_wanted (wanted_at net c)))
    ]
  where
    never : (in_cells free : Bool) → (in_cells && (free && false)) ≡ (free && false)
    never true free = refl
    never false true = refl
    never false false = refl
