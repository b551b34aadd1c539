-- How terms are written, and what their positions are, one part more.
use Rattle.std.proofs.Common.{◌≡◌, ℕ, ◌+◌, Bool, true, false, List, [], ◌∷◌, ◌++◌, refl, sym, ap, ap₂, ◌∙◌, add-zero, add_assoc, zero-add, Option, None, Some, ◌&&◌, bytes_eq, if◌then◌else◌, append-nil, codes}
use Rattle.design_checks.proofs.Common.{Extension, range_names, SetMember, OneMember, SpanMember, members_of, Term, Terms, Read, Set, UnaryOf, NoTerm, Before, Known, extended, extended_each, extended_if, member_before, named_before, term_named, term_of, terms_of, Written, joined, none_written, written_of, written_of_all, list_all, list_all-append, Context, targets_of, all_targets, some_signals, X, Pulse, Release, special_term, targets_more, range_targets, some_append, extended_targets, positions_by, all_positions, are_by_pin, positions_of, is_enabled_by_pin, not_written}
use Rattle.abel_tree.specs.declared.words.Unary.TheVariants as unary

-- ---- joined parts

joined_whole : (x y : Written) → x.whole ≡ true → joined x y ≡ record { count = x.count + y.count; whole = y.whole }
joined_whole x y e = rw e refl

joined_other : (x y : Written) → x.whole ≡ false → joined x y ≡ x
joined_other x y e = rw e refl

none_first : (x : Written) → joined none_written x ≡ x
none_first x = ap (λ (n : ℕ). record { count = n; whole = x.whole }) (zero-add x.count)

joined_none : (x : Written) → joined x none_written ≡ x
joined_none x = by x.whole refl
  where
    by : (b : Bool) → x.whole ≡ b → joined x none_written ≡ x
    by true e = joined_whole x none_written e ∙ ap₂ (λ (n : ℕ) (b : Bool). record { count = n; whole = b }) (add-zero x.count) (sym e)
    by false e = joined_other x none_written e

joined_assoc : (x y z : Written) → joined (joined x y) z ≡ joined x (joined y z)
joined_assoc x y z = by x.whole y.whole refl refl
  where
    by : (b c : Bool) → x.whole ≡ b → y.whole ≡ c → joined (joined x y) z ≡ joined x (joined y z)
    by false c e f = ap (λ w. joined w z) (joined_other x y e) ∙ (joined_other x z e ∙ sym (joined_other x (joined y z) e))
    by true true e f =
        ap (λ w. joined w z) (joined_whole x y e)
        ∙ (joined_whole (record { count = x.count + y.count; whole = y.whole }) z f
        ∙ (ap (λ (n : ℕ). record { count = n; whole = z.whole }) (add_assoc x.count y.count z.count)
        ∙ (sym (joined_whole x (record { count = y.count + z.count; whole = z.whole }) e)
        ∙ ap (joined x) (sym (joined_whole y z f)))))
    by true false e f =
        ap (λ w. joined w z) (joined_whole x y e)
        ∙ (joined_other (record { count = x.count + y.count; whole = y.whole }) z f
        ∙ (sym (joined_whole x y e) ∙ ap (joined x) (sym (joined_other y z f))))

-- ---- members

range_first : (ks : List Known) (names : List (List ℕ)) (ts : Terms) → written_of_all (named_before ks names ts) ≡ joined (written_of_all (named_before ks names NoTerm)) (written_of_all ts)
range_first ks [] ts = sym (none_first (written_of_all ts))
range_first ks (n ∷ names) ts =
    ap (joined (written_of (term_named ks n))) (range_first ks names ts)
    ∙ sym (joined_assoc (written_of (term_named ks n)) (written_of_all (named_before ks names NoTerm)) (written_of_all ts))

member_first : (ks : List Known) (m : SetMember) (ts : Terms) → written_of_all (member_before ks m ts) ≡ joined (written_of_all (member_before ks m NoTerm)) (written_of_all ts)
member_first ks (OneMember t) ts = ap (λ w. joined w (written_of_all ts)) (sym (joined_none (written_of (term_of ks t))))
member_first ks (SpanMember first last) ts = range_first ks (range_names first.text last.text) ts

-- one member more
members_written : (ks : List Known) (ms : List SetMember) (m : SetMember)
    → written_of_all (terms_of ks (members_of (ms ++ m ∷ []))) ≡ joined (written_of_all (terms_of ks (members_of ms))) (written_of_all (member_before ks m NoTerm))
members_written ks [] m = sym (none_first (written_of_all (member_before ks m NoTerm)))
members_written ks (x ∷ ms) m =
    let here = written_of_all (member_before ks x NoTerm) in
    let before = written_of_all (terms_of ks (members_of ms)) in
    let more = written_of_all (member_before ks m NoTerm) in
    member_first ks x (terms_of ks (members_of (ms ++ m ∷ [])))
    ∙ (ap (joined here) (members_written ks ms m)
    ∙ (sym (joined_assoc here before more)
    ∙ ap (λ w. joined w more) (sym (member_first ks x (terms_of ks (members_of ms))))))

-- one name of a range more
range_written : (ks : List Known) (names : List (List ℕ)) (n : List ℕ)
    → written_of_all (named_before ks (names ++ n ∷ []) NoTerm) ≡ joined (written_of_all (named_before ks names NoTerm)) (written_of (term_named ks n))
range_written ks [] n = joined_none (written_of (term_named ks n)) ∙ sym (none_first (written_of (term_named ks n)))
range_written ks (x ∷ names) n =
    ap (joined (written_of (term_named ks x))) (range_written ks names n)
    ∙ sym (joined_assoc (written_of (term_named ks x)) (written_of_all (named_before ks names NoTerm)) (written_of (term_named ks n)))

-- ---- extensions

mutual
  extended_written : (e : Extension) (t : Term) → written_of (extended e t) ≡ written_of t
  extended_written e (Set ts) = each_written e ts
  extended_written e (UnaryOf unary.Not t) = extended_written e t
  extended_written e (Read s None) = refl
  extended_written e (Read s (Some f)) = refl
  extended_written e _ = refl

  each_written : (e : Extension) (ts : Terms) → written_of_all (extended_each e ts) ≡ written_of_all ts
  each_written e NoTerm = refl
  each_written e (Before t ts) = ap₂ joined (extended_written e t) (each_written e ts)

-- ---- positions

by_pin_append : (d : Context) (xs ys : List (Option ℕ)) → are_by_pin d (xs ++ ys) ≡ are_by_pin d xs && are_by_pin d ys
by_pin_append d xs ys = ap (list_all (is_enabled_by_pin d)) (some_append xs ys) ∙ list_all-append (is_enabled_by_pin d) (some_signals xs) (some_signals ys)

-- one member more
pub members_more : (d : Context) (ks : List Known) (ms : List SetMember) (m : SetMember)
    → all_positions d (terms_of ks (members_of (ms ++ m ∷ [])))
    ≡ positions_by (joined (written_of_all (terms_of ks (members_of ms))) (written_of_all (member_before ks m NoTerm)))
    (are_by_pin d (all_targets (terms_of ks (members_of ms))) && are_by_pin d (all_targets (member_before ks m NoTerm)))
members_more d ks ms m =
    ap₂ positions_by (members_written ks ms m)
    (ap (are_by_pin d) (targets_more ks ms m) ∙ by_pin_append d (all_targets (terms_of ks (members_of ms))) (all_targets (member_before ks m NoTerm)))

-- one name of a range more
pub range_more : (d : Context) (ks : List Known) (names : List (List ℕ)) (n : List ℕ)
    → all_positions d (named_before ks (names ++ n ∷ []) NoTerm)
    ≡ positions_by (joined (written_of_all (named_before ks names NoTerm)) (written_of (term_named ks n)))
    (are_by_pin d (all_targets (named_before ks names NoTerm)) && are_by_pin d (targets_of (term_named ks n)))
range_more d ks names n =
    ap₂ positions_by (range_written ks names n)
    (ap (are_by_pin d) (range_targets ks names n) ∙ by_pin_append d (all_targets (named_before ks names NoTerm)) (targets_of (term_named ks n)))

-- one member alone
pub one_member : (d : Context) (t : Term) → all_positions d (Before t NoTerm) ≡ positions_of d t
one_member d t = ap₂ positions_by (joined_none (written_of t)) (ap (are_by_pin d) (append-nil (targets_of t)))

-- an extension changes no position
pub extended_positions : (d : Context) (e : Option Extension) (t : Term) → positions_of d (extended_if e t) ≡ positions_of d t
extended_positions d None t = refl
extended_positions d (Some e) t = ap₂ positions_by (extended_written e t) (ap (are_by_pin d) (extended_targets e t))

-- .X., .C. and .Z. have none
pub special_positions : (d : Context) (letter : ℕ) → positions_of d (special_term letter) ≡ positions_by not_written true
special_positions d letter = by_tests (bytes_eq (letter ∷ []) (codes "X")) (bytes_eq (letter ∷ []) (codes "C"))
  where
    by_tests : (a b : Bool) → positions_of d (if a then X else if b then Pulse else Release) ≡ positions_by not_written true
    by_tests true b = refl
    by_tests false true = refl
    by_tests false false = refl
