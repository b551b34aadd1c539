-- What a form and its reader owe each other.
--
-- In the files of laws a and b are forms and a' and b' the same forms at the next depth of nesting; ra, rb, ra' and
-- rb' read them; fa and fb pass the tokens that they may start with, ga and gb those that may go on after them; na
-- and nb say whether they may take no token; la and lb are their laws. us, ts and rest are lists of tokens, c a
-- front of one, t and u trees, s what is spelled or why reading stopped, and e, d, h, k equations.
use Rattle.std.proofs.Common.{◌≡◌, ◌≤◌, ◌<◌, ◌⊎◌, inl, inr, Bool, true, false, cond, List, [], ◌∷◌, ◌++◌, length, Result, Ok, Err, refl, sym, ap, subst, arith, length-append, ◌||◌}
use Rattle.abel_grammar.proofs.Common.{Form, Stop, Syntax, TooDeep, left_of, Reader, ◌>>=◌, starts}

-- no further than the tokens that follow
abbrev pub Within : {X T : Type 0} → List X → Result (T × List X) (Stop X) → Type 0
Within more (Ok x) = length x.1 ≤ length more
Within more (Err s) = length (left_of s) ≤ length more

-- f is the form at one depth of nesting, and f' at the next; r and r' read them. first passes the tokens that f may
-- start with, and goes t those that may go on after t. Where null is false, f takes a token at least.
pub record Lawful {X T : Type 0} (f f' : Form X T) (r r' : Reader X T) (first : X → Bool) (goes : T → X → Bool) (null : Bool) : Type 0 where
  pub place : (ts : List X) (t : T) (rest : List X) → f.spells ts t rest → (c : List X) × (ts ≡ c ++ rest) × ((other : List X) → f.spells (c ++ other) t other)
  pub whole : (us : List X) (t : T) → f.spells us t [] → f.begins us
  pub nil : f.begins []
  pub opens : (x : X) (us : List X) → f.begins (x ∷ us) → first x ≡ true
  pub takes : (ts : List X) (t : T) (rest : List X) → f.spells ts t rest → ((starts first ts ≡ true) × (length rest < length ts)) ⊎ ((null ≡ true) × (ts ≡ rest))
  pub sound : (ts : List X) (x : T × List X) → r ts ≡ Ok x → f.spells ts x.0 x.1
  pub only : (ts : List X) (t : T) (rest : List X) → f.spells ts t rest → starts (goes t) rest ≡ false → r ts ≡ Ok (t, rest)
  pub front : (ts : List X) (s : Stop X) → r ts ≡ Err s → (c : List X) × (ts ≡ c ++ left_of s) × f.begins c
  pub covers : (us more : List X) → f.begins us → Within more (r (us ++ more))
  pub grows : (ts : List X) (t : T) (rest : List X) → f.spells ts t rest → f'.spells ts t rest
  pub grows_begins : (us : List X) → f.begins us → f'.begins us
  pub deep : (ts left : List X) → r ts ≡ Err (TooDeep left) → (c : List X) × (x : X) × (rest : List X) × (ts ≡ c ++ x ∷ rest) × (left ≡ x ∷ rest) × f'.begins (c ++ x ∷ [])
  pub same_ok : (ts : List X) (x : T × List X) → r ts ≡ Ok x → r' ts ≡ Ok x
  pub same_err : (ts left : List X) → r ts ≡ Err (Syntax left) → r' ts ≡ Err (Syntax left)

-- ---- small tools

pub result_cases : {A S : Type 0} (r : Result A S) → ((x : A) × (r ≡ Ok x)) ⊎ ((s : S) × (r ≡ Err s))
result_cases (Ok x) = inl (x, refl)
result_cases (Err s) = inr (s, refl)

pub bind_ok : {A B S : Type 0} (r : Result A S) (f : A → Result B S) (y : B) → (r >>= f) ≡ Ok y → (x : A) × (r ≡ Ok x) × (f x ≡ Ok y)
bind_ok (Ok x) f y e = (x, refl, e)
bind_ok (Err s) f y e = absurd cc

pub bind_err : {A B S : Type 0} (r : Result A S) (f : A → Result B S) (s : S) → (r >>= f) ≡ Err s → (r ≡ Err s) ⊎ ((x : A) × (r ≡ Ok x) × (f x ≡ Err s))
bind_err (Ok x) f s e = inr (x, refl, e)
bind_err (Err d) f s e = inl cc

pub chosen : {A : Type 0} (b : Bool) (x y z : A) → cond b x y ≡ z → ((b ≡ true) × (x ≡ z)) ⊎ ((b ≡ false) × (y ≡ z))
chosen true x y z e = inl (refl, e)
chosen false x y z e = inr (refl, e)

pub or_left : (a b : Bool) → a ≡ true → (a || b) ≡ true
or_left true b e = refl
or_left false b e = absurd cc

pub or_right : (a b : Bool) → b ≡ true → (a || b) ≡ true
or_right true b e = refl
or_right false b e = e

pub or_false : (a b : Bool) → (a || b) ≡ false → (a ≡ false) × (b ≡ false)
or_false true b e = absurd cc
or_false false b e = (refl, e)

pub starts_apart : {X : Type 0} (f g : X → Bool) → ((x : X) → f x ≡ true → g x ≡ false) → (ts : List X) → starts f ts ≡ true → starts g ts ≡ false
starts_apart f g h [] e = absurd cc
starts_apart f g h (x ∷ ts) e = h x e

pub starts_wider : {X : Type 0} (f g : X → Bool) → ((x : X) → f x ≡ true → g x ≡ true) → (ts : List X) → starts f ts ≡ true → starts g ts ≡ true
starts_wider f g h [] e = absurd cc
starts_wider f g h (x ∷ ts) e = h x e

pub starts_or_false : {X : Type 0} (f g : X → Bool) (ts : List X) → starts (λ x. f x || g x) ts ≡ false → (starts f ts ≡ false) × (starts g ts ≡ false)
starts_or_false f g [] e = (refl, refl)
starts_or_false f g (x ∷ ts) e = or_false (f x) (g x) e

pub starts_append : {X : Type 0} (f : X → Bool) (ts more : List X) → starts f ts ≡ true → starts f (ts ++ more) ≡ true
starts_append f [] more e = absurd cc
starts_append f (x ∷ ts) more e = e

-- reading leaves no more than there was
module _ {X T : Type 0} (f f' : Form X T) (r r' : Reader X T) (first : X → Bool) (goes : T → X → Bool) (null : Bool) (laws : Lawful f f' r r' first goes null) where
  pub never_grows : (ts : List X) → Within ts (r ts)
  never_grows ts =
      elim (result_cases (r ts)) [
        | inl (x, e) ↦
            let p = laws.place ts x.0 x.1 (laws.sound ts x e) in
            subst (λ (y : Result (T × List X) (Stop X)). Within ts y) (sym e) (omega (arith, ap length p.1, length-append p.0 x.1))
        | inr (s, e) ↦
            let p = laws.front ts s e in
            subst (λ (y : Result (T × List X) (Stop X)). Within ts y) (sym e) (omega (arith, ap length p.1, length-append p.0 (left_of s)))
      ]

pub Within-less : {X T : Type 0} (ts more : List X) (y : Result (T × List X) (Stop X)) → Within ts y → length ts ≤ length more → Within more y
Within-less ts more (Ok x) w le = omega arith
Within-less ts more (Err s) w le = omega arith
