-- The outputs of a table's header with their places, and what is refused of it (ABEL-HDL Reference Manual, truth tables;
-- a position that is X is no output: this project's rule).
use Rattle.std.specs.Prelude.{ℕ, Option, None, Some, List, [], ◌∷◌, ◌++◌, length, map, if◌then◌else◌, bytes_eq, codes}
use Rattle.truth_tables.specs.Prelude.{option_map, Place, find, range_names, Tree, ANumber, ASpecial, AName, ASet, AParen, AUnary, ABinary, SetMember, OneMember, SpanMember, Members, NoMember, MoreMembers, Context, targets_of, Term, term_named, SectionFault, MisplacedSpecial, NotAnOutput, first_place, name_found, names_found, found_use, Aim}
use Rattle.set_expr.specs.Refusals.{too_wide}
use Rattle.section_targets.specs.TargetSignals.{first_name}
use Rattle.truth_tables.specs.HeaderSignals.{names_positions}

-- what is found of an output header: its refusals, and its positions from the left, none at X
pub record HeaderFound : Type 0 where
  pub refusals : List SectionFault
  pub outputs : List (Option Aim)

abbrev pub refused_header : SectionFault → HeaderFound
refused_header r = record { refusals = r ∷ []; outputs = [] }

abbrev pub header_of : List (Option Aim) → HeaderFound
header_of xs = record { refusals = []; outputs = xs }

-- the positions that a term has, all at this place
abbrev pub outputs_at : Place → List (Option ℕ) → List (Option Aim)
outputs_at p ss = map (λ (s : Option ℕ). option_map (λ k. record { signal = k; place = p }) s) ss

-- a name with what is refused of it and what it represents: signals without extension, X, and sets of these; a name that
-- is refused has no position
abbrev pub named_outputs : List SectionFault → Place → Option ℕ → Term → HeaderFound
named_outputs [] p name t =
    if names_positions t then header_of (outputs_at p (targets_of t)) else refused_header (NotAnOutput p name)
named_outputs (r ∷ rs) p name t = record { refusals = r ∷ rs; outputs = [] }

-- a name at its place
abbrev pub header_name : Context → Place → List ℕ → HeaderFound
header_name d p text =
    named_outputs (found_use p (name_found (names_found d.names) text)).refusals p (find d.names text)
    (term_named d.known text)

abbrev pub both_headers : HeaderFound → HeaderFound → HeaderFound
both_headers x y = record { refusals = x.refusals ++ y.refusals; outputs = x.outputs ++ y.outputs }

-- a set at its bracket
abbrev pub header_set : Place → HeaderFound → HeaderFound
header_set p x = record x { refusals = x.refusals ++ too_wide p (length x.outputs) }

-- the names of a range, all at the place of its first end
abbrev pub header_range : Context → Place → List (List ℕ) → HeaderFound
header_range d p [] = header_of []
header_range d p (name ∷ names) = both_headers (header_name d p name) (header_range d p names)

-- `.X.` is a position, `.C.` and `.Z.` are not
abbrev pub header_special : (letter : ℕ) → Place → HeaderFound
header_special letter p =
    if bytes_eq (letter ∷ []) (codes "X") then header_of (None ∷ [])
    else refused_header (MisplacedSpecial p)

-- what is found of an output header, and of each member of one
abbrev mutual
  pub output_header : Context → Tree → HeaderFound
  output_header d (ANumber n) = refused_header (NotAnOutput n.place None)
  output_header d (ASpecial letter p) = header_special letter p
  output_header d (AName word None) = header_name d word.place word.text
  output_header d (AName word (Some e)) = refused_header (NotAnOutput word.place (find d.names word.text))
  output_header d (ASet p ms None) = header_set p (output_members d ms)
  output_header d (ASet p ms (Some e)) = refused_header (NotAnOutput p None)
  output_header d (AParen p t) = output_header d t
  output_header d (AUnary sign p t) = refused_header (NotAnOutput p None)
  output_header d (ABinary sign p t u) = refused_header (NotAnOutput (first_place t) (first_name d.names t))

  pub output_members : Context → Members → HeaderFound
  output_members d NoMember = header_of []
  output_members d (MoreMembers m ms) = both_headers (output_member d m) (output_members d ms)

  pub output_member : Context → SetMember → HeaderFound
  output_member d (OneMember t) = output_header d t
  output_member d (SpanMember first last) = header_range d first.place (range_names first.text last.text)
