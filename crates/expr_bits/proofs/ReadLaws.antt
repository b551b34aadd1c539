-- What terms read: with extensions, and by the names of an expression.
use Rattle.std.proofs.Common.{◌≡◌, ℕ, ◌||◌, Bool, true, false, Option, None, Some, List, [], ◌∷◌, ◌++◌, if◌then◌else◌, bytes_eq, codes, refl, sym, ap, ap₂, ◌∙◌}
use Rattle.expr_bits.proofs.Common.{list_any, or_assoc, or-false, Extension, innermost, range_names, Tree, ANumber, ASpecial, AName, ASet, AParen, AUnary, ABinary, SetMember, OneMember, SpanMember, Members, NoMember, MoreMembers, Context, Term, Terms, NoTerm, Before, Known, extended, extended_each, extended_if, member_before, named_before, term_named, term_of, terms_of, Reads, ALeaf, ASignal, Asked, Finds, IsReads, leaf_under, names_to, no_reads, reads_leaf, reads_signal, some_of_read, some_read, told_by, used_answer}
use Rattle.std.proofs.lemmas.List.Folds.{list_any-append}
use Rattle.abel_tree.specs.declared.words.Extension.TheVariants as extension
use Rattle.abel_meaning.specs.Terms as term
use Rattle.name_uses.specs.NamesUsed.{UsedName, names_used, members_used, member_used}

-- ---- as the code has it

-- the same under each extension
abbrev pub alike : (signal leaf : Bool) → Reads
alike s l = record { signal = s; bare = l; q = l; fb = l; pin = l; control = l }

pub alike_leaf : (s l : Bool) (e : Option Extension) → leaf_under (alike s l) e ≡ l
alike_leaf s l None = refl
alike_leaf s l (Some extension.Q) = refl
alike_leaf s l _ = refl

pub nothing_found : Finds no_reads (λ q. false)
nothing_found ASignal = refl
nothing_found (ALeaf e) = alike_leaf false false e

pub nothing_read : (d : Context) (n : ℕ) → IsReads d no_reads (term.Number n)
nothing_read d n ASignal = refl
nothing_read d n (ALeaf e) = alike_leaf false false e

-- one more of several
pub more_found : {A : Type 0} (r s u : Reads) (f : Asked → A → Bool) (xs ys : List A) (x : A) → ys ≡ xs ++ x ∷ [] → ((q : Asked) → told_by u q ≡ (told_by r q || told_by s q)) → Finds r (λ q. list_any (f q) xs) → Finds s (λ q. f q x) → Finds u (λ q. list_any (f q) ys)
more_found r s u f xs ys x all both h k q =
    both q ∙ ap₂ (λ a b. a || b) (h q) (k q) ∙ ap (λ b. list_any (f q) xs || b) (sym (or-false (f q x))) ∙ sym (list_any-append (f q) xs (x ∷ []))
    ∙ ap (list_any (f q)) (sym all)

-- ---- with an extension of its own, under which each bare read is one under another

module _ (passes : ℕ → Option Extension → Bool) (e f : Option Extension) (x : Extension) (same : (s : ℕ) → passes s (Some x) ≡ passes s f) where
  mutual
    extended_read : (t : Term) → some_read passes e (extended x t) ≡ some_read passes f t
    extended_read (term.Read s None) = same s
    extended_read (term.Set ts) = each_read ts
    extended_read (term.UnaryOf sign t) = extended_read t
    extended_read (term.BinaryOf sign t u) = ap₂ (λ a b. a || b) (extended_read t) (extended_read u)
    extended_read _ = refl

    each_read : (ts : Terms) → some_of_read passes e (extended_each x ts) ≡ some_of_read passes f ts
    each_read NoTerm = refl
    each_read (Before t ts) = ap₂ (λ a b. a || b) (extended_read t) (each_read ts)

-- ---- by the names that an expression uses, where `counts` is the extension of a use that counts

module _ (passes : ℕ → Option Extension → Bool) (counts : Option Extension → Option Extension) (known : List Known) (inside : (o x : Option Extension) (t : Term) → some_read passes (counts o) (extended_if x t) ≡ some_read passes (counts (innermost x o)) t) where
  abbrev name_passes : Option Extension → List ℕ → Bool
  name_passes o name = some_read passes (counts o) (term_named known name)

  abbrev use_passes : UsedName → Bool
  use_passes u = list_any (name_passes u.extension) (names_to u.first u.last)

  special_read : (o : Option Extension) (b c : Bool) → some_read passes (counts o) (if b then term.X else if c then term.Pulse else term.Release) ≡ false
  special_read o false false = refl
  special_read o _ _ = refl

  range_read : (o : Option Extension) (names : List (List ℕ)) (ts : Terms) → some_of_read passes (counts o) (named_before known names ts) ≡ (list_any (name_passes o) names || some_of_read passes (counts o) ts)
  range_read o [] ts = refl
  range_read o (n ∷ names) ts =
      ap (λ b. name_passes o n || b) (range_read o names ts)
      ∙ sym (or_assoc (name_passes o n) (list_any (name_passes o) names) (some_of_read passes (counts o) ts))

  mutual
    tree_read : (o : Option Extension) (t : Tree) → some_read passes (counts o) (term_of known t) ≡ list_any use_passes (names_used o t)
    tree_read o (ANumber n) = refl
    tree_read o (ASpecial letter place) = special_read o (bytes_eq (letter ∷ []) (codes "X")) (bytes_eq (letter ∷ []) (codes "C"))
    tree_read o (AName word x) =
        inside o x (term_named known word.text) ∙ sym (or-false (name_passes (innermost x o) word.text))
        ∙ sym (or-false (name_passes (innermost x o) word.text || false))
    tree_read o (ASet place ms x) = inside o x (term.Set (terms_of known ms)) ∙ members_read (innermost x o) ms
    tree_read o (AParen place t) = tree_read o t
    tree_read o (AUnary sign place t) = tree_read o t
    tree_read o (ABinary sign place t u) =
        ap₂ (λ a b. a || b) (tree_read o t) (tree_read o u) ∙ sym (list_any-append use_passes (names_used o t) (names_used o u))

    members_read : (o : Option Extension) (ms : Members) → some_of_read passes (counts o) (terms_of known ms) ≡ list_any use_passes (members_used o ms)
    members_read o NoMember = refl
    members_read o (MoreMembers m ms) =
        member_read o m (terms_of known ms) ∙ ap (λ b. list_any use_passes (member_used o m) || b) (members_read o ms)
        ∙ sym (list_any-append use_passes (member_used o m) (members_used o ms))

    member_read : (o : Option Extension) (m : SetMember) (ts : Terms) → some_of_read passes (counts o) (member_before known m ts) ≡ (list_any use_passes (member_used o m) || some_of_read passes (counts o) ts)
    member_read o (OneMember t) ts = ap (λ b. b || some_of_read passes (counts o) ts) (tree_read o t)
    member_read o (SpanMember first last) ts =
        range_read o (range_names first.text last.text) ts
        ∙ ap (λ b. b || some_of_read passes (counts o) ts) (sym (or-false (list_any (name_passes o) (range_names first.text last.text))))

-- ---- whether a signal is read, and a leaf

signal_inside : (o x : Option Extension) (t : Term) → reads_signal (extended_if x t) ≡ reads_signal t
signal_inside o None t = refl
signal_inside o (Some x) t = extended_read (λ s e. true) None None x (λ s. refl) t

leaf_inside : (d : Context) (e o x : Option Extension) (t : Term) → reads_leaf d (innermost o e) (extended_if x t) ≡ reads_leaf d (innermost (innermost x o) e) t
leaf_inside d e o None t = refl
leaf_inside d e o (Some x) t = extended_read _ (innermost o e) (Some x) x (λ s. refl) t

pub uses_read : (d : Context) (known : List Known) (r : Reads) (t : Tree) → Finds r (λ q. list_any (used_answer d known q) (names_used None t)) → IsReads d r (term_of known t)
uses_read d known r t h ASignal = h ASignal ∙ sym (tree_read _ (λ o. None) known signal_inside None t)
uses_read d known r t h (ALeaf e) = h (ALeaf e) ∙ sym (tree_read _ (λ o. innermost o e) known (leaf_inside d e) None t)
