-- If the OR of a cell's rows is needed and if it is allowed, by its function's `one` and `any`.
use Rattle.std.proofs.Common.{◌≡◌, Bool, true, false, not, ◌&&◌, ◌||◌, refl, ap, sym, ◌∙◌, inl, inr}
use Rattle.fitter.proofs.Common.{cases_Bool, same_level, complement_if, allows, allows_plain, Wanted, as_named}
use Rattle.abel_meaning.specs.Functions.{Function}

pub twice_complement : (a b v : Bool) → complement_if a (complement_if b v) ≡ complement_if (complement_if a b) v
twice_complement true true true = refl
twice_complement true true false = refl
twice_complement true false v = refl
twice_complement false b v = refl

named_complement : (w : Wanted) (a v : Bool) → as_named w (complement_if a v) ≡ complement_if (as_named w a) v
named_complement w a v =
    elim (cases_Bool w.raw) [
      | inl raw ↦ rw raw refl
      | inr cooked ↦
          rw cooked (ap (complement_if w.negated) (twice_complement (w.registered && not w.buffer) a v)
          ∙ twice_complement w.negated (complement_if (w.registered && not w.buffer) a) v)
    ]

-- a value that the OR may have, if it is the complement of a level or a next Q
pub or_may : (w : Wanted) (f : Function Bool) (complements v : Bool)
    → allows f (as_named w (complement_if complements v)) ≡ allows_plain f.one f.any (complement_if (complement_if f.complement (as_named w complements)) v)
or_may w f complements v =
    ap (λ x. allows_plain f.one f.any x)
    (ap (complement_if f.complement) (named_complement w complements v) ∙ twice_complement f.complement (as_named w complements) v)

-- ---- rows that have what `one` has

pub needed_one : (one any : Bool) → not (allows_plain one any false) ≡ same_level one true
needed_one true any = refl
needed_one false true = refl
needed_one false false = refl

pub allowed_one : (one any : Bool) → allows_plain one any true ≡ same_level (one || any) true
allowed_one true any = refl
allowed_one false true = refl
allowed_one false false = refl

-- ---- and rows that have the complement

pub needed_other : (one any : Bool) → not (allows_plain one any true) ≡ same_level (one || any) false
needed_other true any = refl
needed_other false true = refl
needed_other false false = refl

pub allowed_other : (one any : Bool) → allows_plain one any false ≡ same_level one false
allowed_other true any = refl
allowed_other false true = refl
allowed_other false false = refl
