-- The signals of a target with their places, and what is no target (ABEL-HDL Reference Manual, equations and sets).
use Rattle.std.specs.Prelude.{ℕ, get_or, Bool, true, false, ◌&&◌, Option, None, Some, List, [], ◌∷◌, ◌++◌, length, map, if◌then◌else◌}
use Rattle.section_targets.specs.Prelude.{Place, Entry, find, Tree, ASpecial, AName, ASet, AParen, ABinary, SetMember, OneMember, SpanMember, Members, NoMember, MoreMembers, Context, targets_of, some_signals, Term, Terms, term_named, SectionFault, MisplacedSpecial, NotAnOutput, first_place, Found, too_wide, is_signal, no_name}
use Rattle.abel_tree.specs.declared.words.Word.{Word}
use Rattle.abel_tree.specs.Ranges.{range_names}
use Rattle.abel_meaning.specs.Terms as term
use Rattle.set_expr.specs.FoundNames.{name_found, names_found, found_use}
use Rattle.section_targets.specs.declared.aim.Aim.{Aim}

-- what is found of a target: its refusals, and its signals from the left
pub record TargetFound : Type 0 where
  pub refusals : List SectionFault
  pub aims : List Aim

-- signals that all are at one place
abbrev pub aim_at : Place → (signal : ℕ) → Aim
aim_at p s = record { signal = s; place = p }

abbrev pub aims_at : Place → List ℕ → List Aim
aims_at p ss = map (aim_at p) ss

-- a term is a signal, or a set of such, with no extension
abbrev mutual
  pub names_signals : Term → Bool
  names_signals (term.Read s None) = true
  names_signals (term.Set ts) = all_name_signals ts
  names_signals _ = false

  pub all_name_signals : Terms → Bool
  all_name_signals term.NoTerm = true
  all_name_signals (term.Before t ts) = names_signals t && all_name_signals ts

-- a name represents no signals
abbrev pub no_signals : Place → Option ℕ → Term → List SectionFault
no_signals p name t = if names_signals t then [] else NotAnOutput p name ∷ []

-- a name at its place p; q is the place of its signals
abbrev pub target_use : (p q : Place) → (name : Option ℕ) → Found → Term → TargetFound
target_use p q name f t =
    record {
      refusals = f.refusals ++ (f.specials ++ no_signals q name t);
      aims = aims_at q (some_signals (targets_of t));
    }

abbrev pub target_name : Context → (p q : Place) → List ℕ → TargetFound
target_name d p q text =
    target_use p q (find d.names text) (found_use p (name_found (names_found d.names) text)) (term_named d.known text)

-- the name that an expression begins with
abbrev pub first_name : List Entry → Tree → Option ℕ
first_name es (AName word e) = find es word.text
first_name es (ABinary sign p t u) = first_name es t
first_name es _ = None

abbrev pub no_target : SectionFault → TargetFound
no_target r = record { refusals = r ∷ []; aims = [] }

abbrev pub targets_both : TargetFound → TargetFound → TargetFound
targets_both x y = record { refusals = x.refusals ++ y.refusals; aims = x.aims ++ y.aims }

-- a set of targets at its bracket
abbrev pub target_set : Place → TargetFound → TargetFound
target_set p x = record x { refusals = x.refusals ++ too_wide p (length x.aims) }

-- the names of a range, all at the place of its first end
abbrev pub target_range : Context → Place → List (List ℕ) → TargetFound
target_range d p [] = record { refusals = []; aims = [] }
target_range d p (name ∷ names) = targets_both (target_name d p p name) (target_range d p names)

-- what is found of a member of a target; what is no name alone is refused at its beginning
abbrev mutual
  pub target_member : Context → Tree → TargetFound
  target_member d (ASpecial letter p) = no_target (MisplacedSpecial p)
  target_member d (AName word None) = target_name d word.place word.place word.text
  target_member d (ASet p ms None) = target_set p (target_members d ms)
  target_member d (AParen p t) = target_member d t
  target_member d t = no_target (NotAnOutput (first_place t) (first_name d.names t))

  pub target_members : Context → Members → TargetFound
  target_members d NoMember = record { refusals = []; aims = [] }
  target_members d (MoreMembers m ms) = targets_both (target_one d m) (target_members d ms)

  pub target_one : Context → SetMember → TargetFound
  target_one d (OneMember t) = target_member d t
  target_one d (SpanMember first last) = target_range d first.place (range_names first.text last.text)

-- the name of this number is a signal's
abbrev pub is_signal_number : List Entry → Option ℕ → Bool
is_signal_number es None = false
is_signal_number es (Some n) = is_signal (get_or es n no_name).kind

-- the place of the signals of a side that is a name, with or without `!`: a signal at the beginning of the side,
-- and what a constant brings at the constant's name
abbrev pub start_at : Context → (begin used : Place) → List ℕ → Place
start_at d p q text = if is_signal_number d.names (find d.names text) then p else q

abbrev pub start_of : Context → (begin : Place) → Word → Place
start_of d p word = start_at d p word.place word.text

-- what is found of the left side of an assignment, which begins at this place and has its extension outside
abbrev pub left_side : Context → Place → Tree → TargetFound
left_side d p (AName word e) = target_name d word.place (start_of d p word) word.text
left_side d p (ASet q ms e) = target_set q (target_members d ms)
left_side d p t = target_member d t
