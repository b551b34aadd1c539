-- What a list of a graph's vertices says of each place, and what is said of a value that there may be.
use Rattle.std.proofs.Common.{◌≡◌, ℕ, ◌<◌, true, ◌==◌, List, get_or, refl, Option, Some, None, IfSome, All, IfNone}
use Rattle.device_logic.proofs.Common.{eq-eqb, list_any_at, has}

pub each_in : (count : ℕ) (list : List ℕ) → ((v : ℕ) → has list v ≡ true → v < count) → All (λ v. v < count) list
each_in count list inside = λ k d low. inside (get_or list k d) (list_any_at (λ x. get_or list k d == x) list k d low (eq-eqb (get_or list k d) (get_or list k d) refl))

-- what is said of a value that there may be
pub some_weaker : {X : Type 0} (o : Option X) (P Q : X → Type 0) → ((x : X) → P x → Q x) → IfSome o P → IfSome o Q
some_weaker None P Q f is = is
some_weaker (Some x) P Q f is = f x is

pub none_weaker : {X : Type 0} (o : Option X) (P Q : Type 0) → (P → Q) → IfNone o P → IfNone o Q
none_weaker None P Q f is = f is
none_weaker (Some x) P Q f is = is
