-- Reading a form from left to right, with a look at the next token (this project's rule).
use Rattle.std.specs.Prelude.{ℕ, zero, suc, Bool, false, List, [], ◌∷◌, length, Option, Some, None, Result, Ok, Err, if◌then◌else◌}
use Rattle.abel_grammar.specs.Form.{entries_of, grouped}

-- why reading stopped, and the tokens that are left
pub data Stop (X : Type 0) : Type 0 where
  Syntax : (left : List X) → Stop X
  TooDeep : (left : List X) → Stop X

-- the tokens that are left where reading stopped
abbrev pub left_of : {X : Type 0} → Stop X → List X
left_of (Syntax left) = left
left_of (TooDeep left) = left

-- from tokens to what those at the front spell, and the tokens after them
abbrev pub Reader : Type 0 → Type 0 → Type 0
Reader X T = List X → Result (T × List X) (Stop X)

-- one step and then the next, which takes what the first gave
infixl 10 ◌>>=◌
abbrev pub ◌>>=◌ : {A B S : Type 0} → Result A S → (A → Result B S) → Result B S
(Ok x) >>= f = f x
(Err e) >>= f = Err e

-- the next token passes a test
abbrev pub starts : {X : Type 0} → (X → Bool) → List X → Bool
starts test [] = false
starts test (x ∷ ts) = test x

-- the tokens after the next one, if it passes a test
abbrev pub behind : {X : Type 0} → (X → Bool) → List X → Option (List X)
behind test [] = None
behind test (x ∷ ts) = if test x then Some ts else None

-- one token that passes a test
abbrev pub read_token : {X : Type 0} → (X → Bool) → Reader X X
read_token test [] = Err (Syntax [])
read_token test (x ∷ ts) = if test x then Ok (x, ts) else Err (Syntax (x ∷ ts))

-- one form and then another, which may depend on what the first spells
abbrev pub read_followed : {X A B : Type 0} → Reader X A → (A → Reader X B) → Reader X (A × B)
read_followed a b ts = a ts >>= λ x. b x.0 x.1 >>= λ y. Ok ((x.0, y.0), y.1)

-- one form and then another
infixr 30 ◌then_read◌
abbrev pub ◌then_read◌ : {X A B : Type 0} → Reader X A → Reader X B → Reader X (A × B)
a then_read b = read_followed a (λ _. b)

-- the first form if the next token starts it, and else the second
abbrev pub read_either : {X A : Type 0} → (X → Bool) → Reader X A → Reader X A → Reader X A
read_either first a b ts = if starts first ts then a ts else b ts

-- a form if the next token starts it
abbrev pub read_optional : {X A : Type 0} → (X → Bool) → Reader X A → Reader X (Option A)
read_optional first a ts =
    if starts first ts then (a ts >>= λ x. Ok (Some x.0, x.1)) else Ok (None, ts)

-- a form again and again while the next token starts it, at most so many times
abbrev pub read_many : {X A : Type 0} → (X → Bool) → Reader X A → ℕ → Reader X (List A)
read_many first a zero ts = Ok ([], ts)
read_many first a (suc n) ts =
    if starts first ts then
    (a ts >>= λ x. read_many first a n x.1 >>= λ xs. Ok (x.0 ∷ xs.0, xs.1))
    else Ok ([], ts)

-- a form again and again while the next token starts it
abbrev pub read_repeated : {X A : Type 0} → (X → Bool) → Reader X A → Reader X (List A)
read_repeated first a ts = read_many first a (length ts) ts

-- a form, and what is made of what it spells
abbrev pub read_made : {X A B : Type 0} → (A → B) → Reader X A → Reader X B
read_made f a ts = a ts >>= λ x. Ok (f x.0, x.1)

-- entries with a sign between any two
abbrev pub read_separated : {X A : Type 0} → (X → Bool) → Reader X A → Reader X (List A)
read_separated sign a =
    read_made entries_of (a then_read read_repeated sign (read_token sign then_read a))

-- a form and what is joined to it from the left, as long as the next token starts such a part
abbrev pub read_chain : {X A B : Type 0} → (A → B → A) → (X → Bool) → Reader X A → Reader X B
    → Reader X A
read_chain join first a b =
    read_made (λ x. grouped join x.0 x.1) (a then_read read_repeated first b)

-- a construct that is one nesting too deep, if the next token starts it
abbrev pub read_deep : {X A : Type 0} → (X → Bool) → Reader X A
read_deep first ts = if starts first ts then Err (TooDeep ts) else Err (Syntax ts)

-- no tokens
abbrev pub read_given : {X A : Type 0} → A → Reader X A
read_given x ts = Ok (x, ts)
