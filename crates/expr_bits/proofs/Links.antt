-- What is found of an expression and what its term amounts to: the same shape, and X only if nothing is made of it.
use Rattle.std.proofs.Common.{◌≡◌, ℕ, zero, suc, ◌+◌, Bool, true, false, None, Some, List, [], ◌∷◌, ◌++◌, replicate, refl, sym, ap, ap₂, ◌∙◌, subst}
use Rattle.expr_bits.proofs.Common.{Binary, Extension, Unary, Context, Shape, Number, Single, Set, Value, width_of, member_width, meeting, met_unknown_by, Term, Terms, extended, extended_each, constant_of, set_value, empty_point, is_relation, binary_by, binary_value, unary_value}
use Rattle.abel_meaning.specs.Terms as term

-- ---- values of one kind

pub record SameKind (v c : Value) : Type 0 where
  pub shape : c.shape ≡ v.shape
  pub number : v.shape ≡ Number → c.number ≡ v.number

pub same_kind : (v : Value) → SameKind v v
same_kind v = record { shape = refl; number = λ e. refl }

pub kind_then : (v u w : Value) → SameKind v u → SameKind u w → SameKind v w
kind_then v u w a b = record { shape = b.shape ∙ a.shape; number = λ e. b.number (a.shape ∙ e) ∙ a.number e }

pub unary_kind : (sign : Unary) (v c : Value) → SameKind v c → SameKind (unary_value sign v) (unary_value sign c)
unary_kind sign v c k = record { shape = k.shape; number = λ e. rw (k.shape, k.number e) refl }

both_numbers : (s t : Shape) → meeting s t ≡ Number → (s ≡ Number) × (t ≡ Number)
both_numbers Number t e = (refl, e)
both_numbers Single Number e = absurd cc
both_numbers _ _ e = absurd cc

by_kind : (relation : Bool) (sign : Binary) (v c u e : Value) → SameKind v c → SameKind u e → SameKind (binary_by relation sign v u) (binary_by relation sign c e)
by_kind true sign v c u e k l = record { shape = refl; number = λ p. absurd cc }
by_kind false sign v c u e k l =
    record {
      shape = ap₂ meeting k.shape l.shape;
      number = λ p. rw (k.shape, l.shape, k.number (both_numbers v.shape u.shape p).0, l.number (both_numbers v.shape u.shape p).1) refl;
    }

pub binary_kind : (sign : Binary) (v c u e : Value) → SameKind v c → SameKind u e → SameKind (binary_value sign v u) (binary_value sign c e)
binary_kind sign v c u e k l = by_kind (is_relation sign) sign v c u e k l

-- ---- no position is X

abbrev pub AllKnown : List Bool → Type 0
AllKnown [] = Unit {0}
AllKnown (b ∷ bs) = (b ≡ false) × AllKnown bs

pub known_append : (xs ys : List Bool) → AllKnown xs → AllKnown ys → AllKnown (xs ++ ys)
known_append [] ys a b = b
known_append (x ∷ xs) ys a b = (a.0, known_append xs ys a.1 b)

pub known_spread : (w : ℕ) (x : Bool) → x ≡ false → AllKnown (replicate w x)
known_spread zero x e = tt
known_spread (suc w) x e = (e, known_spread w x e)

pub known_met : (w : ℕ) (s : Shape) (xs : List Bool) → AllKnown xs → AllKnown (met_unknown_by w s xs)
known_met w Single (x ∷ xs) a = known_spread w x a.0
known_met w (Set v) xs a = a
known_met w _ _ a = known_spread w false refl

known_by : (relation : Bool) (sign : Binary) (v u : Value) → AllKnown (binary_by relation sign v u).unknown
known_by true sign v u = (refl, tt)
known_by false sign v u = known_spread (width_of (meeting v.shape u.shape)) false refl

pub known_binary : (sign : Binary) (v u : Value) → AllKnown (binary_value sign v u).unknown
known_binary sign v u = known_by (is_relation sign) sign v u

-- ---- nothing is made of X

abbrev mutual
  pub Sound : Context → Term → Type 0
  Sound d (term.Set ts) = AllSound d ts
  Sound d (term.UnaryOf sign t) = AllKnown (constant_of d t).unknown
  Sound d _ = Unit {0}

  pub AllSound : Context → Terms → Type 0
  AllSound d term.NoTerm = Unit {0}
  AllSound d (term.Before t ts) = Sound d t × AllSound d ts

-- ---- an extension changes no shape

flags_by : (relation : Bool) (sign : Binary) (v c u e : Value) → SameKind v c → SameKind u e → (binary_by relation sign c e).unknown ≡ (binary_by relation sign v u).unknown
flags_by true sign v c u e k l = refl
flags_by false sign v c u e k l = ap (λ s. replicate (width_of s) false) (ap₂ meeting k.shape l.shape)

pub record Alike (v c : Value) (before after : Type 0) : Type 0 where
  pub kind : SameKind v c
  pub unknown : c.unknown ≡ v.unknown
  pub sound : before → after

mutual
  pub extended_alike : (d : Context) (e : Extension) (t : Term) → Alike (constant_of d t) (constant_of d (extended e t)) (Sound d t) (Sound d (extended e t))
  extended_alike d e (term.Read s None) = record { kind = record { shape = refl; number = λ p. absurd cc }; unknown = refl; sound = λ s. tt }
  extended_alike d e (term.Read s (Some f)) = record { kind = same_kind _; unknown = refl; sound = λ s. tt }
  extended_alike d e (term.Set ts) = set_alike d e ts
  extended_alike d e (term.UnaryOf sign t) =
      let a = extended_alike d e t in
      record {
        kind = unary_kind sign (constant_of d t) (constant_of d (extended e t)) a.kind;
        unknown = a.unknown;
        sound = λ s. subst AllKnown (sym a.unknown) s;
      }
  extended_alike d e (term.BinaryOf sign t u) =
      let a = extended_alike d e t in
      let b = extended_alike d e u in
      record {
        kind = binary_kind sign (constant_of d t) (constant_of d (extended e t)) (constant_of d u) (constant_of d (extended e u)) a.kind b.kind;
        unknown = flags_by (is_relation sign) sign (constant_of d t) (constant_of d (extended e t)) (constant_of d u) (constant_of d (extended e u)) a.kind b.kind;
        sound = λ s. tt;
      }
  extended_alike d e _ = record { kind = same_kind _; unknown = refl; sound = λ s. tt }

  set_alike : (d : Context) (e : Extension) (ts : Terms) → Alike (set_value d empty_point ts) (set_value d empty_point (extended_each e ts)) (AllSound d ts) (AllSound d (extended_each e ts))
  set_alike d e term.NoTerm = record { kind = same_kind _; unknown = refl; sound = λ s. tt }
  set_alike d e (term.Before t ts) =
      let a = extended_alike d e t in
      let b = set_alike d e ts in
      record {
        kind = record {
          shape = ap₂ (λ s r. Set (member_width s + width_of r)) a.kind.shape b.kind.shape;
          number = λ p. absurd cc;
        };
        unknown = ap₂ (λ xs ys. xs ++ ys) b.unknown (ap₂ (λ s xs. met_unknown_by (member_width s) s xs) a.kind.shape a.unknown);
        sound = λ s. (a.sound s.0, b.sound s.1);
      }
