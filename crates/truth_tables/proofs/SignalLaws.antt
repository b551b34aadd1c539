-- The signals of headers, part by part.
use Rattle.std.proofs.Common.{◌≡◌, ℕ, Bool, true, false, ◌&&◌, Option, None, Some, List, [], ◌∷◌, ◌++◌, if◌then◌else◌, bytes_eq, reverse, refl, sym, ap, ◌∙◌, append-nil, codes}
use Rattle.truth_tables.proofs.Common.{is_some, flat_map, list_all, reverse-append, Extension, Context, targets_of, all_targets, Term, Terms, extended_if, special_term, Part, list_of, each_extended, names_positions, all_name_positions, AreParts, is_operand, IsListed, all_extended, set_extended, list_extended}
use Rattle.std.proofs.lemmas.Slice.Eq.{bytes_eq-Decides}
use Rattle.abel_meaning.specs.Terms as term
use Rattle.truth_tables.proofs.PartLaws.{operand_case, set_fewer, some_parts}

-- ---- what one part is

listed_named : (ts : Terms) → all_name_positions ts ≡ list_all names_positions (list_of ts)
listed_named term.NoTerm = refl
listed_named (term.Before t ts) = ap (λ b. names_positions t && b) (listed_named ts)

listed_signals : (ts : Terms) → all_targets ts ≡ flat_map targets_of (list_of ts)
listed_signals term.NoTerm = refl
listed_signals (term.Before t ts) = ap (λ ss. targets_of t ++ ss) (listed_signals ts)

pub put_set : (d : Context) (t : Term) (e : Option Extension) (ts : Terms) (ps stack later : List Part) (ss : List (Option ℕ)) → t ≡ extended_if e (term.Set ts) → AreParts d ps (each_extended e (list_of ts)) → later ≡ stack ++ ps → IsListed d t true stack later ss ss
put_set d t e ts ps stack later ss h k p =
    let us = all_extended e ts in
    let all : list_of us ≡ each_extended e (list_of ts) = list_extended e ts in
    record {
      more = ps;
      terms = each_extended e (list_of ts);
      pushed = p;
      stand = k;
      opened = record {
        passes = ap names_positions (h ∙ set_extended e ts) ∙ listed_named us ∙ ap (list_all names_positions) all;
        gives = λ _. ap (λ xs. xs ++ reverse ss) (ap targets_of (h ∙ set_extended e ts) ∙ listed_signals us ∙ ap (flat_map targets_of) all);
      };
      fewer = set_fewer t e ts h;
    }

-- one position
pub put_one : (d : Context) (t : Term) (s : Option ℕ) (stack : List Part) (old new : List (Option ℕ)) → names_positions t ≡ true → targets_of t ≡ s ∷ [] → new ≡ old ++ s ∷ [] → IsListed d t true stack stack old new
put_one d t s stack old new n k p =
    record {
      more = [];
      terms = [];
      pushed = sym (append-nil stack);
      stand = tt;
      opened = record {
        passes = n;
        gives = λ _. ap (λ xs. xs ++ reverse old) k ∙ sym (ap reverse p ∙ reverse-append old (s ∷ []));
      };
      fewer = some_parts t;
    }

pub operand_unnamed : (t : Term) → is_operand t ≡ true → names_positions t ≡ false
operand_unnamed t k = operand_case (λ u. names_positions u ≡ false) (λ n. refl) (λ sign u. refl) (λ sign u v. refl) t k

pub extended_unnamed : (s : ℕ) (e : Option Extension) → is_some e ≡ true → names_positions (term.Read s e) ≡ false
extended_unnamed s None h = absurd cc
extended_unnamed s (Some e) h = refl

pub other_unnamed : (letter : ℕ) → (letter ≡ 88 → ⊥) → names_positions (special_term letter) ≡ false
other_unnamed letter h = by_letter (bytes_eq (letter ∷ []) (codes "X")) (bytes_eq (letter ∷ []) (codes "C")) refl
  where
    by_letter : (a b : Bool) → bytes_eq (letter ∷ []) (codes "X") ≡ a → names_positions (if a then term.X else if b then term.Pulse else term.Release) ≡ false
    by_letter true b e =
        let same : letter ∷ [] ≡ codes "X" = (bytes_eq-Decides (letter ∷ []) (codes "X")).0 e in
        absurd (h cc)
    by_letter false true e = refl
    by_letter false false e = refl
