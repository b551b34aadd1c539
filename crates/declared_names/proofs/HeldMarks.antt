-- What sections hold is what their parts give, and marks find which registers are held.
use Rattle.std.proofs.Common.{◌≡◌, ℕ, Bool, Option, Some, None, List, ◌++◌, refl, sym, ap, ap₂, ◌∙◌, true, false, ◌||◌, if◌then◌else◌, [], ◌∷◌, map, ◌==◌, ◌&&◌, slice_get}
use Rattle.declared_names.proofs.Common.{append-nil, flat_map-append, asks_q, read_in, read_in_member, read_in_members, read_names, range_names, Tree, AName, ASet, AParen, AUnary, ABinary, SetMember, OneMember, SpanMember, Members, NoMember, MoreMembers, Extension, use_reads, uses_read, innermost, UsedName, member_used, members_used, names_used, flat_map, list_any, list_any-append, Part, part_reads, part_shares, parts_read, sections_parts, target_extension, without_extension, is_raw, SectionTree, Reads, part_gives, sections_give, section_shares, shares_all, PartedSection, with_parts, and-false, and-true, Kind, AConstant, ADeviceName, Entry, is_signal, held_after, held_by, held_meant, held_of, holds_of, value_of, all_marks, value_uses, PartTree, view_part, view_section_parts}
use Rattle.abel_tree.specs.declared.words.Extension.TheVariants.{Q}
use Rattle.name_uses.proofs.HoldingParts.{sections_followed}
use Rattle.name_uses.specs.declared.part.Part.{Part as SourcePart}
use Rattle.name_uses.specs.declared.source.SectionParts.{SectionParts}
use Rattle.abel_meaning.specs.Held.{Held}
use Rattle.declared_names.proofs.Looked.{Standing, marked_in_the_end}
use Rattle.declared_names.proofs.Passing.{at, strong_alone}
use Rattle.declared_names.proofs.AmongNumbers.{among}

-- ---- the names of an expression

-- an extension counts before that around it
nearest : (as_q : Bool) (own outer : Option Extension) → asks_q (asks_q as_q outer) own ≡ asks_q as_q (innermost own outer)
nearest as_q None outer = refl
nearest as_q _ outer = refl

module _ {A : Type 0} (of : List ℕ → Bool → List A) (as_q : Bool) where
  both : (xs ys : List A) (us vs : List UsedName) → xs ≡ uses_read of as_q us → ys ≡ uses_read of as_q vs → xs ++ ys ≡ uses_read of as_q (us ++ vs)
  both xs ys us vs e f = ap₂ (λ x y. x ++ y) e f ∙ sym (flat_map-append (use_reads of as_q) us vs)

  mutual
    pub read_used : (outer : Option Extension) (t : Tree) → read_in of (asks_q as_q outer) t ≡ uses_read of as_q (names_used outer t)
    read_used outer (AName word e) = ap (of word.text) (nearest as_q e outer) ∙ sym (append-nil (of word.text (asks_q as_q (innermost e outer))))
    read_used outer (ASet place ms e) = ap (λ q. read_in_members of q ms) (nearest as_q e outer) ∙ members_read (innermost e outer) ms
    read_used outer (AParen place t) = read_used outer t
    read_used outer (AUnary sign place t) = read_used outer t
    read_used outer (ABinary sign place t u) =
        both (read_in of (asks_q as_q outer) t) (read_in of (asks_q as_q outer) u) (names_used outer t) (names_used outer u) (read_used outer t) (read_used outer u)
    read_used outer _ = refl

    members_read : (outer : Option Extension) (ms : Members) → read_in_members of (asks_q as_q outer) ms ≡ uses_read of as_q (members_used outer ms)
    members_read outer NoMember = refl
    members_read outer (MoreMembers m ms) =
        both (read_in_member of (asks_q as_q outer) m) (read_in_members of (asks_q as_q outer) ms) (member_used outer m) (members_used outer ms) (member_read outer m) (members_read outer ms)

    member_read : (outer : Option Extension) (m : SetMember) → read_in_member of (asks_q as_q outer) m ≡ uses_read of as_q (member_used outer m)
    member_read outer (OneMember t) = read_used outer t
    member_read outer (SpanMember first last) = sym (append-nil (read_names of (asks_q as_q outer) (range_names first.text last.text)))

-- ---- what is read

module _ {A : Type 0} (of : List ℕ → Bool → List A) where
  each_read : (ps : List Part) → parts_read of ps ≡ flat_map (part_reads of) ps
  each_read [] = refl
  each_read (p ∷ ps) = ap (λ us. part_reads of p ++ us) (each_read ps)

  raw : (t : Tree) (b : Bool) → uses_read of false (if b then names_used (Some Q) (without_extension t) else []) ≡ (if b then read_in of true (without_extension t) else [])
  raw t true = sym (read_used of false (Some Q) (without_extension t))
  raw t false = refl

  pub sections_read : (xs : List SectionTree) → sections_give Reads of xs ≡ parts_read of (sections_parts xs)
  sections_read xs =
      sections_followed (part_gives Reads of) (part_reads of)
      (record {
        target = λ sign t. raw t (is_raw (target_extension t));
        value = λ target t. sym (read_used of false None t);
        read = λ t. sym (read_used of false None t);
        outputs = λ clocked t. refl;
        entry = λ t. refl;
      })
      (λ t. refl) xs
      ∙ sym (each_read (sections_parts xs))

-- ---- what holds all registers

-- one item if a test holds
abbrev if_so : Bool → List Bool
if_so b = if b then true ∷ [] else []

abbrev found : List Bool → Bool
found bs = list_any (λ b. b) bs

found_one : (b : Bool) → found (if_so b) ≡ b
found_one true = refl
found_one false = refl

found_each : {B : Type 0} (give : B → List Bool) (test : B → Bool) → ((x : B) → found (give x) ≡ test x) → (xs : List B) → found (flat_map give xs) ≡ list_any test xs
found_each give test one [] = refl
found_each give test one (x ∷ xs) = list_any-append (λ b. b) (give x) (flat_map give xs) ∙ ap₂ (λ b c. b || c) (one x) (found_each give test one xs)

any_map : {A B : Type 0} (p : B → Bool) (f : A → B) (xs : List A) → list_any p (map f xs) ≡ list_any (λ x. p (f x)) xs
any_map p f [] = refl
any_map p f (x ∷ xs) = ap (λ b. p (f x) || b) (any_map p f xs)

pub parts_share : (ss : List SectionParts) → list_any (λ (s : SectionParts). list_any (λ (p : SourcePart). shares_all (view_part p)) s.parts.items) ss ≡ list_any section_shares (map view_section_parts ss)
parts_share [] = refl
parts_share (s ∷ ss) = ap₂ (λ a b. a || b) (sym (any_map shares_all view_part s.parts.items)) (parts_share ss)

pub sections_share : (xs : List SectionTree) → list_any section_shares (map with_parts xs) ≡ list_any part_shares (sections_parts xs)
sections_share xs =
    let give = λ (p : PartTree). if_so (shares_all p) in
    let in_section = λ (x : PartedSection). found_each give shares_all (λ p. found_one (shares_all p)) x.parts in
    sym (found_each (λ (x : PartedSection). flat_map give x.parts) section_shares in_section (map with_parts xs))
    ∙ (ap found (sections_followed give (λ p. if_so (part_shares p))
    (record { target = λ sign t. refl; value = λ target t. refl; read = λ t. refl; outputs = λ clocked t. refl; entry = λ t. refl }) (λ t. refl) xs)
    ∙ found_each (λ p. if_so (part_shares p)) part_shares (λ p. found_one (part_shares p)) (sections_parts xs))

-- ---- what is marked

abbrev held : Standing Held ℕ
held = record {
  name_of = λ k. k.name;
  gives = λ k as_q. k.signals as_q;
  make = λ ks s e. record { name = e.name; signals = held_meant ks s e.kind };
  named = λ ks s e. refl;
  look = held_by;
  look_none = λ name as_q. refl;
  look_first = λ k ks name as_q. refl;
  after = held_after;
  after_none = λ ks s. refl;
  after_more = λ ks s e es. refl;
}

module _ (es : List Entry) (xs : List SectionTree) (s : ℕ) (x : Entry) (g : slice_get es s ≡ Some x) where
  at_pin : (k : ℕ) (c : Bool) → among s (if c then k ∷ [] else []) ≡ (((k == s) && c) || false)
  at_pin k true = ap (λ b. b || false) (sym (and-true (k == s)))
  at_pin k false = ap (λ b. b || false) (sym (and-false (k == s)))

  of_kind : (ks : List Held) (k : ℕ) (c : Bool) (kd : Kind)
      → among s (held_meant ks k kd c) ≡ ((is_signal kd && ((k == s) && (false || c))) || among s (uses_read (held_by ks) c (value_uses Reads (value_of kd))))
  of_kind ks k c (AConstant value) = ap (among s) (read_used (held_by ks) c None value)
  of_kind ks k c ADeviceName = refl
  of_kind ks k c _ = at_pin k c

  -- the signal is marked strongly in the end if its Q is read, or its raw input is set
  pub is_read : is_signal x.kind ≡ true → (at (all_marks Reads es xs) s).strong ≡ among s (holds_of es xs).signals
  is_read sig =
      strong_alone (is_signal x.kind) (at (all_marks Reads es xs) s) sig
      ∙ (marked_in_the_end held Reads es s x g false (λ j. j == s) (λ ks k e c. of_kind ks k c e.kind) xs ∙ ap (among s) (sections_read (held_by (held_of es)) xs))
