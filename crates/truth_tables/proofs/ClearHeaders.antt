-- Of an output header in which nothing is refused nothing is refused as of an expression: it has signals and X alone, and at
-- most 32 positions.
use Rattle.std.proofs.Common.{◌≡◌, ℕ, ◌+◌, Bool, true, false, Option, None, Some, List, [], ◌∷◌, ◌++◌, if◌then◌else◌, length, bytes_eq, codes, refl, sym, ap, ap₂, ◌∙◌, subst, arith}
use Rattle.truth_tables.proofs.Common.{length-append, option_map, Place, find, range_names, Tree, ASpecial, AName, ASet, AParen, OneMember, SpanMember, Members, NoMember, MoreMembers, Names, IsOver, Context, Value, member_width, width_of, targets_of, all_targets, Term, Terms, term_named, constant_of, SectionFault, MisplacedSpecial, NotAnOutput, Found, found_use, name_found, names_found, expression_found, too_wide, left_empty, right_empty, names_positions, all_name_positions, is_number, header_of, refused_header, outputs_at, named_outputs, header_name, header_range, header_special, output_header, output_members, length-map, Word, set_value, empty_point, HasKind, both_empty, all_found, found_of, found_special, range_found, refused_there, one_position, found_set, members_refused, members_width, members_specials, members_value, large_member, large_number, width_with, value_or_none}
use Rattle.abel_meaning.specs.Numbers as number
use Rattle.abel_meaning.specs.Terms as term
use Rattle.set_expr.specs.Refusals.{unless_refused}
use Rattle.truth_tables.proofs.NamesInOrder.{left_true, right_true}
use Rattle.truth_tables.proofs.PartLaws.{IsValued, over_valued}

-- ---- shapes that have so many positions

record HasPositions (s : number.Shape) (n : ℕ) : Type 0 where
  pub other : is_number s ≡ false
  pub width : member_width s ≡ n

abbrev HasPositionsIf : Option Value → ℕ → Type 0
HasPositionsIf None n = ⊥
HasPositionsIf (Some v) n = HasPositions v.shape n

mutual
  term_positions : (d : Context) (t : Term) → names_positions t ≡ true → HasPositions (constant_of d t).shape (length (targets_of t))
  term_positions d term.X h = record { other = refl; width = refl }
  term_positions d (term.Read s None) h = record { other = refl; width = refl }
  term_positions d (term.Set ts) h = let e = set_positions d ts h in record { other = ap is_number e; width = ap member_width e }
  term_positions d _ h = absurd cc

  set_positions : (d : Context) (ts : Terms) → all_name_positions ts ≡ true → (set_value d empty_point ts).shape ≡ number.Set (length (all_targets ts))
  set_positions d term.NoTerm h = refl
  set_positions d (term.Before t ts) h =
      ap₂ (λ m w. number.Set (m + w)) (term_positions d t (left_true (names_positions t) (all_name_positions ts) h)).width
      (ap width_of (set_positions d ts (right_true (names_positions t) (all_name_positions ts) h)))
      ∙ ap number.Set (sym (length-append (targets_of t) (all_targets ts)))

-- ---- what is found, with so many positions

record IsWhole (f : Found) (n : ℕ) : Type 0 where
  pub refusals : f.refusals ≡ []
  pub value : HasPositionsIf f.value n

record AreWhole (p : Place) (fs : List Found) (n : ℕ) : Type 0 where
  pub refusals : members_refused p fs ≡ []
  pub width : members_width fs ≡ n
  pub shape : (members_value fs).shape ≡ number.Set n

kind_positions : (o : Option Value) (v : Value) (n : ℕ) → HasKind o v → HasPositions v.shape n → HasPositionsIf o n
kind_positions None v n k h = absurd k
kind_positions (Some u) v n k h = subst (λ s. HasPositions s n) k.shape h

number_small : (p : Place) (s : number.Shape) (k : ℕ) → is_number s ≡ false → large_number p s k ≡ []
number_small p number.Number k h = absurd cc
number_small p _ k h = refl

value_small : (p : Place) (o : Option Value) (n : ℕ) → HasPositionsIf o n → large_member p o ≡ []
value_small p None n h = absurd h
value_small p (Some v) n h = number_small p v.shape v.number h.other

value_width : (o : Option Value) (n : ℕ) → HasPositionsIf o n → width_with o ≡ n
value_width None n h = absurd h
value_width (Some v) n h = h.width

value_member : (o : Option Value) (n : ℕ) → HasPositionsIf o n → member_width (value_or_none o).shape ≡ n
value_member None n h = absurd h
value_member (Some v) n h = h.width

whole_more : (p : Place) (f : Found) (fs : List Found) (m n : ℕ) → IsWhole f m → AreWhole p fs n → AreWhole p (f ∷ fs) (m + n)
whole_more p f fs m n h a =
    record {
      refusals = both_empty (f.refusals ++ large_member p f.value) (members_refused p fs) (both_empty f.refusals (large_member p f.value) h.refusals (value_small p f.value m h.value)) a.refusals;
      width = ap₂ (λ x y. x + y) (value_width f.value m h.value) a.width;
      shape = ap₂ (λ x y. number.Set (x + y)) (value_member f.value m h.value) (ap width_of a.shape);
    }

unless_made : (rs xs : List SectionFault) (v : Value) → rs ≡ [] → unless_refused rs xs v ≡ record { refusals = []; specials = xs; value = Some v }
unless_made rs xs v e = rw e refl

set_whole : (p : Place) (fs : List Found) (n : ℕ) → AreWhole p fs n → too_wide p n ≡ [] → IsWhole (found_set p fs) n
set_whole p fs n a w =
    subst (λ (f : Found). IsWhole f n) (sym (unless_made (members_refused p fs ++ too_wide p (members_width fs)) (members_specials fs) (members_value fs) (both_empty (members_refused p fs) (too_wide p (members_width fs)) a.refusals (ap (too_wide p) a.width ∙ w))))
    (record { refusals = refl; value = record { other = ap is_number a.shape; width = ap member_width a.shape } })

-- ---- headers

outputs_long : (p : Place) (ss : List (Option ℕ)) → length (outputs_at p ss) ≡ length ss
outputs_long p ss = length-map ss (λ (s : Option ℕ). option_map (λ k. record { signal = k; place = p }) s)

special_whole : (letter : ℕ) (p : Place) → (header_special letter p).refusals ≡ [] → IsWhole (found_special letter p) (length (header_special letter p).outputs)
special_whole letter p e = by_letter (bytes_eq (letter ∷ []) (codes "X")) e
  where
    by_letter : (b : Bool) → (if b then header_of (None ∷ []) else refused_header (MisplacedSpecial p)).refusals ≡ []
        → IsWhole (if b then record { refusals = []; specials = MisplacedSpecial p ∷ []; value = Some (one_position true) } else refused_there (MisplacedSpecial p)) (length (if b then header_of (None ∷ []) else refused_header (MisplacedSpecial p)).outputs)
    by_letter true e = record { refusals = refl; value = record { other = refl; width = refl } }
    by_letter false e = absurd cc

module _ (n : Names) (d : Context) (is : IsOver n d) where
  name_whole : (p : Place) (w : List ℕ) → (header_name d p w).refusals ≡ [] → IsWhole (found_use p (name_found (names_found d.names) w)) (length (header_name d p w).outputs)
  name_whole p w e = by_refusals f.refusals refl e
    where
      t : Term
      t = term_named d.known w

      f : Found
      f = found_use p (name_found (names_found d.names) w)

      word : Word
      word = record { text = w; place = p }

      by_names : (b : Bool) → names_positions t ≡ b → f.refusals ≡ [] → (if b then header_of (outputs_at p (targets_of t)) else refused_header (NotAnOutput p (find d.names w))).refusals ≡ []
          → IsWhole f (length (if b then header_of (outputs_at p (targets_of t)) else refused_header (NotAnOutput p (find d.names w))).outputs)
      by_names true h k e =
          record {
            refusals = k;
            value = subst (HasPositionsIf f.value) (sym (outputs_long p (targets_of t))) (kind_positions f.value (constant_of d t) (length (targets_of t)) (subst (λ es. IsValued (expression_found es (AName word None)) (constant_of d t)) (sym is.names) (over_valued n d is (AName word None)) k) (term_positions d t h));
          }
      by_names false h k e = absurd cc

      by_refusals : (rs : List SectionFault) → f.refusals ≡ rs → (named_outputs rs p (find d.names w) t).refusals ≡ [] → IsWhole f (length (named_outputs rs p (find d.names w) t).outputs)
      by_refusals [] k e = by_names (names_positions t) refl k e
      by_refusals (r ∷ rs) k e = absurd cc

  range_whole : (p q : Place) (names : List (List ℕ)) (fs : List Found) (m : ℕ) → AreWhole p fs m → (header_range d q names).refusals ≡ [] → AreWhole p (range_found (names_found d.names) q names fs) (length (header_range d q names).outputs + m)
  range_whole p q [] fs m a e = subst (AreWhole p fs) (omega arith) a
  range_whole p q (w ∷ names) fs m a e =
      let x = header_name d q w in
      let y = header_range d q names in
      let f = found_use q (name_found (names_found d.names) w) in
      subst (AreWhole p (f ∷ range_found (names_found d.names) q names fs)) (omega (arith, length-append x.outputs y.outputs))
      (whole_more p f (range_found (names_found d.names) q names fs) (length x.outputs) (length y.outputs + m) (name_whole q w (left_empty x.refusals y.refusals e)) (range_whole p q names fs m a (right_empty x.refusals y.refusals e)))

  mutual
    tree_whole : (t : Tree) → (output_header d t).refusals ≡ [] → IsWhole (found_of (names_found d.names) t) (length (output_header d t).outputs)
    tree_whole (ASpecial letter p) e = special_whole letter p e
    tree_whole (AName word None) e = name_whole word.place word.text e
    tree_whole (ASet p ms None) e =
        let x = output_members d ms in
        set_whole p (all_found (names_found d.names) ms) (length x.outputs) (members_whole p ms (left_empty x.refusals (too_wide p (length x.outputs)) e)) (right_empty x.refusals (too_wide p (length x.outputs)) e)
    tree_whole (AParen p t) e = tree_whole t e
    tree_whole _ e = absurd cc

    members_whole : (p : Place) (ms : Members) → (output_members d ms).refusals ≡ [] → AreWhole p (all_found (names_found d.names) ms) (length (output_members d ms).outputs)
    members_whole p NoMember e = record { refusals = refl; width = refl; shape = refl }
    members_whole p (MoreMembers (OneMember t) ms) e =
        let x = output_header d t in
        let y = output_members d ms in
        subst (AreWhole p (found_of (names_found d.names) t ∷ all_found (names_found d.names) ms)) (sym (length-append x.outputs y.outputs))
        (whole_more p (found_of (names_found d.names) t) (all_found (names_found d.names) ms) (length x.outputs) (length y.outputs) (tree_whole t (left_empty x.refusals y.refusals e)) (members_whole p ms (right_empty x.refusals y.refusals e)))
    members_whole p (MoreMembers (SpanMember first last) ms) e =
        let names = range_names first.text last.text in
        let x = header_range d first.place names in
        let y = output_members d ms in
        subst (AreWhole p (range_found (names_found d.names) first.place names (all_found (names_found d.names) ms))) (sym (length-append x.outputs y.outputs))
        (range_whole p first.place names (all_found (names_found d.names) ms) (length y.outputs) (members_whole p ms (right_empty x.refusals y.refusals e)) (left_empty x.refusals y.refusals e))

  pub outputs_unrefused : (t : Tree) → (output_header d t).refusals ≡ [] → (expression_found d.names t).refusals ≡ []
  outputs_unrefused t e = (tree_whole t e).refusals
