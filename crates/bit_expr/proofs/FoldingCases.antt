-- The folding rules by what the operands are found to be.
use Rattle.std.proofs.Common.{◌≡◌, Bool, true, false, not, Some, None, refl}
use Rattle.bit_expr.proofs.Common.{Formula, Const, Read, Not, And, Or, Xor, free, fresh, make_not, make_and, make_or, make_xor, constant_level, inner_of}

-- a formula that has a level is the constant
pub constant_is : (f : Formula) (on : Bool) → Some on ≡ constant_level f → f ≡ Const on
constant_is (Const level) on e = cc
constant_is (Read l) on e = absurd (cc)
constant_is (Not f) on e = absurd (cc)
constant_is (And f g) on e = absurd (cc)
constant_is (Or f g) on e = absurd (cc)
constant_is (Xor f g) on e = absurd (cc)

-- Not
pub not_constant : (f : Formula) (on : Bool) → Some on ≡ constant_level f → make_not f ≡ free (Const (not on))
unfolding make_not
not_constant f on e = rw (constant_is f on e) refl

pub not_inner : (f g : Formula) → Some g ≡ inner_of f → make_not f ≡ free g
unfolding make_not
not_inner (Const level) g e = absurd (cc)
not_inner (Read l) g e = absurd (cc)
not_inner (Not f) g e = let same : g ≡ f = cc in rw same refl
not_inner (And f h) g e = absurd (cc)
not_inner (Or f h) g e = absurd (cc)
not_inner (Xor f h) g e = absurd (cc)

pub not_makes : (f : Formula) → None ≡ constant_level f → None ≡ inner_of f → make_not f ≡ fresh (Not f)
unfolding make_not
not_makes (Const level) c i = absurd (cc)
not_makes (Not f) c i = absurd (cc)
not_makes f c i = refl

-- And
pub and_one_left : (f g : Formula) → Some true ≡ constant_level f → make_and f g ≡ free g
unfolding make_and
and_one_left f g e = rw (constant_is f true e) refl

pub and_zero_left : (f g : Formula) → Some false ≡ constant_level f → make_and f g ≡ free (Const false)
unfolding make_and
and_zero_left f g e = rw (constant_is f false e) refl

and_with_one : (f : Formula) → make_and f (Const true) ≡ free f
unfolding make_and
and_with_one (Const true) = refl
and_with_one (Const false) = refl
and_with_one f = refl

and_with_zero : (f : Formula) → make_and f (Const false) ≡ free (Const false)
unfolding make_and
and_with_zero (Const true) = refl
and_with_zero (Const false) = refl
and_with_zero f = refl

pub and_one_right : (f g : Formula) → Some true ≡ constant_level g → make_and f g ≡ free f
and_one_right f g e = rw (constant_is g true e) (and_with_one f)

pub and_zero_right : (f g : Formula) → Some false ≡ constant_level g → make_and f g ≡ free (Const false)
and_zero_right f g e = rw (constant_is g false e) (and_with_zero f)

pub and_makes : (f g : Formula) → None ≡ constant_level f → None ≡ constant_level g → make_and f g ≡ fresh (And f g)
unfolding make_and
and_makes (Const level) g c d = absurd (cc)
and_makes f (Const level) c d = absurd (cc)
and_makes f g c d = refl

-- Or
pub or_one_left : (f g : Formula) → Some true ≡ constant_level f → make_or f g ≡ free (Const true)
unfolding make_or
or_one_left f g e = rw (constant_is f true e) refl

pub or_zero_left : (f g : Formula) → Some false ≡ constant_level f → make_or f g ≡ free g
unfolding make_or
or_zero_left f g e = rw (constant_is f false e) refl

or_with_one : (f : Formula) → make_or f (Const true) ≡ free (Const true)
unfolding make_or
or_with_one (Const true) = refl
or_with_one (Const false) = refl
or_with_one f = refl

or_with_zero : (f : Formula) → make_or f (Const false) ≡ free f
unfolding make_or
or_with_zero (Const true) = refl
or_with_zero (Const false) = refl
or_with_zero f = refl

pub or_one_right : (f g : Formula) → Some true ≡ constant_level g → make_or f g ≡ free (Const true)
or_one_right f g e = rw (constant_is g true e) (or_with_one f)

pub or_zero_right : (f g : Formula) → Some false ≡ constant_level g → make_or f g ≡ free f
or_zero_right f g e = rw (constant_is g false e) (or_with_zero f)

pub or_makes : (f g : Formula) → None ≡ constant_level f → None ≡ constant_level g → make_or f g ≡ fresh (Or f g)
unfolding make_or
or_makes (Const level) g c d = absurd (cc)
or_makes f (Const level) c d = absurd (cc)
or_makes f g c d = refl

-- Xor
pub xor_one_left : (f g : Formula) → Some true ≡ constant_level f → make_xor f g ≡ make_not g
unfolding make_xor
xor_one_left f g e = rw (constant_is f true e) refl

pub xor_zero_left : (f g : Formula) → Some false ≡ constant_level f → make_xor f g ≡ free g
unfolding make_xor
xor_zero_left f g e = rw (constant_is f false e) refl

xor_with_one : (f : Formula) → make_xor f (Const true) ≡ make_not f
unfolding make_xor make_not
xor_with_one (Const true) = refl
xor_with_one (Const false) = refl
xor_with_one f = refl

xor_with_zero : (f : Formula) → make_xor f (Const false) ≡ free f
unfolding make_xor make_not
xor_with_zero (Const true) = refl
xor_with_zero (Const false) = refl
xor_with_zero f = refl

pub xor_one_right : (f g : Formula) → Some true ≡ constant_level g → make_xor f g ≡ make_not f
xor_one_right f g e = rw (constant_is g true e) (xor_with_one f)

pub xor_zero_right : (f g : Formula) → Some false ≡ constant_level g → make_xor f g ≡ free f
xor_zero_right f g e = rw (constant_is g false e) (xor_with_zero f)

pub xor_makes : (f g : Formula) → None ≡ constant_level f → None ≡ constant_level g → make_xor f g ≡ fresh (Xor f g)
unfolding make_xor
xor_makes (Const level) g c d = absurd (cc)
xor_makes f (Const level) c d = absurd (cc)
xor_makes f g c d = refl
