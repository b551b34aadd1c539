-- Forms for grammars that a look at the next token alone doesn't decide (this project's rule).
use Rattle.std.specs.Prelude.{◌≡◌, ℕ, zero, suc, Bool, true, false, ◌&&◌, List, [], ◌∷◌, ◌++◌, Result, Ok, Err, if◌then◌else◌}
use Rattle.abel_grammar.specs.Form.{Form, ◌then◌, followed, made, given}
use Rattle.abel_grammar.specs.Reading.{Reader, Syntax, ◌>>=◌, starts, ◌then_read◌, read_made, read_given}

-- a form, with the token that it starts with
abbrev pub placed : {X A : Type 0} → Form X A → Form X (X × A)
placed {X} {A} a = record {
  spells = λ ts t rest. (us : List X) × (ts ≡ t.0 ∷ us) × a.spells ts t.1 rest;
  begins = λ us. a.begins us;
}

-- a form so many times
abbrev pub times : {X A : Type 0} → ℕ → Form X A → Form X (List A)
times zero a = given []
times (suc n) a = made (λ x. x.0 ∷ x.1) (a then times n a)

-- lists, one after the other
abbrev pub flatten : {A : Type 0} → List (List A) → List A
flatten [] = []
flatten (l ∷ ls) = l ++ flatten ls

-- a form, unless nothing follows
abbrev pub unless : {X A : Type 0} → Bool → A → Form X A → Form X A
unless true x a = given x
unless false x a = a

-- ---- the same, read

-- a form, with the token that it starts with
abbrev pub read_placed : {X A : Type 0} → Reader X A → Reader X (X × A)
read_placed a [] = Err (Syntax [])
read_placed a (x ∷ ts) = a (x ∷ ts) >>= λ y. Ok ((x, y.0), y.1)

-- a form so many times
abbrev pub read_times : {X A : Type 0} → ℕ → Reader X A → Reader X (List A)
read_times zero a = read_given []
read_times (suc n) a = read_made (λ x. x.0 ∷ x.1) (a then_read read_times n a)

-- a form, unless nothing follows
abbrev pub read_unless : {X A : Type 0} → Bool → A → Reader X A → Reader X A
read_unless true x a = read_given x
read_unless false x a = a

-- nothing is read
abbrev pub read_nothing : {X A : Type 0} → Reader X A
read_nothing ts = Err (Syntax ts)

-- the first form if the tokens pass a test, and else the second
abbrev pub read_picked : {X A : Type 0} → (List X → Bool) → Reader X A → Reader X A → Reader X A
read_picked pick a b ts = if pick ts then a ts else b ts

-- the next two tokens pass a test each
abbrev pub starts_two : {X : Type 0} → (X → Bool) → (X → Bool) → List X → Bool
starts_two one two [] = false
starts_two one two (x ∷ ts) = one x && starts two ts
