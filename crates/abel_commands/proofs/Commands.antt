-- A command has as many inputs as its task works on.
use Rattle.std.proofs.Common.{◌≡◌, ℕ, Bool, true, false, cond, List, [], ◌∷◌, length, Option, Some, None, get_or, refl, sym, subst, arith, codes, option_and_then, option_map}
use Rattle.abel_commands.proofs.Common.{DeviceName, word_device, Command, Task, Compare, Demo, command_of, on_device, on_file, on_files, on_nothing, seed_of, source_count}
use Rattle.std.specs.Str.{bytes_eq}

abbrev IsCounted : Option Command → Type 0
IsCounted None = Unit {0}
IsCounted (Some c) = length c.inputs ≡ source_count c.task

counted_if : (b : Bool) (x y : Option Command) → IsCounted x → IsCounted y → IsCounted (cond b x y)
counted_if true x y one other = one
counted_if false x y one other = other

counted_task : (b : Bool) (task : Task) (other : Option Task) (input : List ℕ) → source_count task ≡ 1 → IsCounted (option_map (λ x. on_file x input) other)
    → IsCounted (option_map (λ x. on_file x input) (cond b (Some task) other))
counted_task true task other input one counted = sym one
counted_task false task other input one counted = counted

counted_device : (word input : List ℕ) (device : Option DeviceName) → IsCounted (option_and_then (λ d. on_device word d input) device)
counted_device word input None = tt
counted_device word input (Some d) =
    counted_task (bytes_eq word (codes "simulate")) _ _ input refl
    (counted_task (bytes_eq word (codes "check")) _ _ input refl
    (counted_task (bytes_eq word (codes "decompile")) _ _ input refl tt))

counted_pair : (first second : List ℕ) (device : Option DeviceName) → IsCounted (option_map (λ d. on_files (Compare d) first second) device)
counted_pair first second None = tt
counted_pair first second (Some d) = refl

counted_seed : (seed : Option ℕ) → IsCounted (option_map (λ n. on_nothing (Demo n)) seed)
counted_seed None = tt
counted_seed (Some n) = refl

counted : (words : List (List ℕ)) → IsCounted (command_of words)
counted [] = tt
counted (first ∷ []) = tt
counted (first ∷ second ∷ []) =
    counted_if (bytes_eq first (codes "list")) _ _ refl
    (counted_if (bytes_eq first (codes "demo")) _ _ (counted_seed (seed_of second)) tt)
counted (first ∷ second ∷ third ∷ []) =
    counted_if (bytes_eq first (codes "compile")) _ _ refl (counted_device first third (word_device second))
counted (first ∷ second ∷ third ∷ fourth ∷ []) = counted_if (bytes_eq first (codes "compare")) _ _ (counted_pair third fourth (word_device second)) tt
counted (first ∷ second ∷ third ∷ fourth ∷ fifth ∷ more) = tt

pub inputs_counted : (words : List (List ℕ)) (c : Command) → command_of words ≡ Some c → length c.inputs ≡ source_count c.task
inputs_counted words c is = subst IsCounted is (counted words)

-- a list of one element
pub one_only : (xs : List (List ℕ)) → length xs ≡ 1 → xs ≡ get_or xs 0 [] ∷ []
one_only [] size = absurd (omega (arith, size))
one_only (x ∷ []) size = refl
one_only (x ∷ y ∷ more) size = absurd (omega (arith, size))
