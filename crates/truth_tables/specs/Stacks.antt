-- Private: walks over what lies on a stack, from its top: each element represents a term, and what the terms of those below
-- give precedes what was put (this project's rule).
use Rattle.std.specs.Prelude.{◌≡◌, ◌<◌, ℕ, Bool, true, false, List, [], ◌++◌, Option, reverse, ◌&&◌, map}
use Rattle.truth_tables.specs.Prelude.{AllZip, flat_map, list_all, sum_by, zip, Context, targets_of, Term, marks_of, names_found}
use Rattle.truth_tables.specs.declared.part.Part.{Part}
use Rattle.truth_tables.specs.HeaderSignals.{names_positions}
use Rattle.truth_tables.specs.EntryTerms.{term_parts, IsPart}
use Rattle.abel_meaning.specs.Rows as meant
use Rattle.abel_meaning.specs.Terms as term
use Rattle.truth_tables.specs.declared.mark.Mark.{Mark}
use Rattle.truth_tables.specs.declared.part.Pair.{Pair}
use Rattle.truth_tables.specs.EntryMarks.{view_mark}
use Rattle.truth_tables.specs.RowEntries.{meets}
use Rattle.truth_tables.specs.ClearParts.{IsClearPair}

-- what a walk asks of each term: whether it passes, what it gives, and how many steps it takes
pub record Walking (T M : Type 0) : Type 0 where
  pub passes : T → Bool
  pub gives : T → List M
  pub size : T → ℕ

-- these terms pass and give what one term does, before what was put
pub record Opened {T M : Type 0} (w : Walking T M) (t : T) (terms : List T) (old new : List M) : Type 0 where
  pub passes : w.passes t ≡ list_all w.passes terms
  pub gives : list_all w.passes terms ≡ true → w.gives t ++ old ≡ flat_map w.gives terms ++ new

-- a term was taken from a stack: its terms lie there, or what it gives was put
pub record Taken {A T M : Type 0} (S : A → T → Type 0) (w : Walking T M) (t : T) (stack later : List A) (old new : List M) : Type 0 where
  pub more : List A
  pub terms : List T
  pub pushed : later ≡ stack ++ more
  pub stand : AllZip S more terms
  pub opened : Opened w t terms old new
  pub fewer : sum_by w.size terms < w.size t

-- one step
abbrev pub IsStep : {A T M : Type 0} → (A → T → Type 0) → Walking T M → T → Bool → (stack later : List A) → (old new : List M) → Type 0
IsStep S w t false stack later old new = w.passes t ≡ false
IsStep S w t true stack later old new = Taken S w t stack later old new

-- how far a walk is
pub record Walked {A T M : Type 0} (S : A → T → Type 0) (w : Walking T M) (t : T) (stack : List A) (put : List M) : Type 0 where
  pub terms : List T
  pub stand : AllZip S stack terms
  pub opened : Opened w t terms [] put

-- ---- the parts of headers as signals position by position

abbrev pub listing : Walking Term (Option ℕ)
listing = record { passes = names_positions; gives = targets_of; size = term_parts }

-- a term's parts were put onto the stack, or its signals after those that were listed
abbrev pub IsListed : Context → Term → Bool → (stack later : List Part) → (old new : List (Option ℕ)) → Type 0
IsListed d t b stack later old new = IsStep (IsPart d) listing t b stack later (reverse old) (reverse new)

-- ---- parts of headers beside what represents them in entries, as pairs of terms

-- marks that were put from the last position on
abbrev pub seen : List Mark → List meant.Mark
seen ms = reverse (map view_mark ms)

abbrev pub is_set : Term → Bool
is_set (term.Set ts) = true
is_set _ = false

abbrev pub both_sets : Term → Term → Bool
both_sets h e = is_set h && is_set e

-- ---- pairs

abbrev pub meeting : Context → Walking (Term × Term) meant.Mark
meeting d =
    record {
      passes = λ (x : Term × Term). meets d x.0 x.1;
      gives = λ (x : Term × Term). marks_of d x.0 x.1;
      size = λ (x : Term × Term). term_parts x.0;
    }

-- both represent terms, and nothing is refused of what is asked of them
abbrev pub IsPair : Context → Pair → Term × Term → Type 0
IsPair d p x = IsPart d p.header x.0 × IsPart d p.given x.1 × IsClearPair (names_found d.names) p

-- as many pairs as there are of both
abbrev pub paired : List Part → List Part → List Pair
paired xs ys = map (λ (x : Part × Part). record { header = x.0; given = x.1 }) (zip xs ys)

-- ---- steps

-- what is no set on both sides meets as a whole or not, and its marks are put
abbrev pub IsPut : Context → (h e : Term) → Bool → (old new : List Mark) → Type 0
IsPut d h e false old new = meets d h e ≡ false
IsPut d h e true old new = (meets d h e ≡ true) × (marks_of d h e ++ seen old ≡ seen new)

abbrev pub IsMet : Context → (h e : Term) → Bool → (stack later : List Pair) → (old new : List Mark) → Type 0
IsMet d h e b stack later old new = IsStep (IsPair d) (meeting d) (h, e) b stack later (seen old) (seen new)
