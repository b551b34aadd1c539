-- What a pass over a module knows: once something is refused, names that follow it may be left out, since no refusal
-- of theirs can be the first.
use Rattle.std.specs.Prelude.{◌≡◌, ◌≤◌, ℕ, Bool, true, false, not, ◌||◌, Option, None, Some, is_some, List, [], ◌∷◌, ◌++◌, take}
use Rattle.decls.specs.Prelude.{list_all, Place, Table, Item, Word, sooner, first_refusal, given_names, all_said, no_words}
use Rattle.decls.specs.declared.fault.NameFault.{NameFault}
use Rattle.decls.specs.declared.pass.Pass.{Pass}
use Rattle.decls.specs.Attributes.{strings_refused}
use Rattle.decls.specs.FaultOrder.{place_of, name_order}
use Rattle.decls.specs.NamesBefore.{words_of_names}
use Rattle.decls.specs.Shown.{Shows}
use Rattle.decls.specs.Steps.{Progress, refuse_all}
use Rattle.decls.specs.Walked.{all_told}

-- one place precedes another
abbrev pub stands_before : Place → Place → Bool
stands_before p q = sooner p.line p.column 0 q.line q.column 0

-- something is refused before this place
abbrev pub is_behind : Option NameFault → Place → Bool
is_behind None p = false
is_behind (Some f) p = stands_before (place_of f) p

abbrev pub items_behind : Option NameFault → List Item → Bool
items_behind o items = list_all (λ (i : Item). is_behind o i.first.place) items

abbrev pub words_behind : Option NameFault → List Word → Bool
words_behind o words = list_all (λ (w : Word). is_behind o w.place) words

abbrev pub AreBehind : Option NameFault → List NameFault → Type 0
AreBehind o [] = Unit {0}
AreBehind o (f ∷ fs) = (is_behind o (place_of f) ≡ true) × AreBehind o fs

-- refusals at this place
abbrev pub AreAt : Place → List NameFault → Type 0
AreAt p [] = Unit {0}
AreAt p (f ∷ fs) = (place_of f ≡ p) × AreAt p fs

-- what is refused on the way from one progress to another follows what was refused first
pub record Adds (o : Option NameFault) (s n : Progress) : Type 0 where
  pub more : List NameFault
  pub faults : n.faults ≡ s.faults ++ more
  pub behind : AreBehind o more

-- where something is refused, this may be left out
pub record MayLeave (o : Option NameFault) (s n : Progress) : Type 0 where
  pub refused : is_some o ≡ true
  pub adds : Adds o s n

-- a device, and whether names may be left out
pub record Way : Type 0 where
  pub table : Table
  pub skips : Bool

abbrev pub way : Table → Bool → Way
way t skips = record { table = t; skips = skips }

-- the table shows all as long as no name is left out; the first refusal it has also after that, unless it is lost
pub record Follows (w : Way) (d : Pass) (s : Progress) : Type 0 where
  pub skips : d.skips ≡ w.skips
  pub shown : d.skipped ≡ false → Shows w.table d.table s
  pub first : d.lost ≡ false → d.table.fault ≡ first_refusal name_order s.faults
  pub allowed : d.skipped ≡ true → w.skips ≡ true
  pub refused : d.skipped ≡ true → d.lost ≡ false → is_some d.table.fault ≡ true
  pub found : d.skipped ≡ false → d.lost ≡ false

-- the names of a module are wanted if nothing is refused, and where registers wait that may be refused before that
abbrev pub wants_names : (wait : Bool) → Option NameFault → Bool
wants_names wait fault = not (is_some fault) || wait

-- numbers for so many names: all that there are, or the first of them where names may be left out
pub record HasNumbers (skips : Bool) (room : ℕ) (numbers all : List ℕ) : Type 0 where
  pub whole : skips ≡ false → numbers ≡ all
  pub first : (m : ℕ) → m ≤ room → take m numbers ≡ take m all

-- an ISTYPE declaration whose items are looked at already
abbrev pub items_told : List Item → (attributes : List Word) → Progress → Progress
items_told names attributes s =
    all_told (all_said attributes) (given_names names)
    (refuse_all (strings_refused (words_of_names s.entries (given_names names)) no_words attributes) s)
