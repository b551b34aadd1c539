-- What reading a fuse file gives: a value, or the first refusal (this project's rule: refusals are in the
-- order of the steps).
use Rattle.std.specs.Prelude.{◌≡◌, Option, Some, None, Result, Ok, Err, ⊤}
use Rattle.jedec_file.specs.declared.jedec_fault.JedecFault.{JedecFault}
use Rattle.jedec_file.specs.declared.jedec_fault.JedecFault.TheVariants as fault

-- a value, or why the bytes are no fuse file
abbrev pub Read : Type 0 → Type 0
Read A = Result A JedecFault

-- the second step on what the first one gives; a refusal of the first one is
infixl 10 ◌>>=◌
abbrev pub ◌>>=◌ : {A B : Type 0} → Read A → (A → Read B) → Read B
(Ok x) >>= next = next x
(Err e) >>= next = Err e

-- the value that there is, else a refusal
abbrev pub some_or : {A : Type 0} → JedecFault → Option A → Read A
some_or e (Some x) = Ok x
some_or e None = Err e

-- a call's fault is the refusal that reading gives, or says that memory ran out
abbrev pub Refuses : {A : Type 0} → JedecFault → Read A → Type 0
Refuses fault.OutOfMemory read = ⊤
Refuses e read = read ≡ Err e

-- what a call answers, seen by `view`, is what reading gives, unless memory ran out
abbrev pub Gives : {X Y : Type 0} → (X → Y) → Read X → Read Y → Type 0
Gives view (Ok x) read = read ≡ Ok (view x)
Gives view (Err e) read = Refuses e read
