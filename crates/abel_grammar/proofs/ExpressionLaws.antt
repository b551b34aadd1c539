-- The laws of expressions, at each depth of nesting.
use Rattle.std.proofs.Common.{◌≡◌, ℕ, zero, suc, ◌≤◌, ◌⊎◌, inl, inr, Bool, true, false, List, [], ◌∷◌, ◌++◌, length, None, Result, Ok, refl, sym, ap, subst, ◌∙◌, arith, length-append, ◌&&◌}
use Rattle.abel_grammar.proofs.Common.{Form, token, ◌then◌, either, made, nothing, Stop, Reader, starts, ◌then_read◌, read_many, read_made, read_either, read_deep, starts_two, Token, Tree, ANumber, SetMember, OneMember, Terminal, Identifier, Number, Special, Extension, Open, Close, Left, Right, Comma, Range, Not, Minus, Semicolon, DontCare, Text, number_of, terminal_of, among, one, each_apart_by, name, number, text, ext, word_of, numeral_of, end, dont_care, dont_care_of, read_one, read_apart_by, read_name, read_number, read_text, read_ext, read_end, read_dont_care, name_tree_of, name_tree, number_tree, special_of, special, simple, relations, sums, products, joined, level, expr_over, paren_of, paren, span_member_of, span_member, member, set_of, set, negated_of, negations, negated, operand, expr, set_at, read_name_tree, read_number_tree, read_special, read_simple, read_link, read_level, read_expr_over, read_paren, read_span_member, read_member, read_set, read_negated, read_operand, read_expr, read_set_at}
use Rattle.abel_grammar.proofs.Laws.{Within}
use Rattle.abel_grammar.proofs.PickLaws.{picked_laws}
use Rattle.abel_grammar.proofs.ClassLaws as laws
use Rattle.abel_grammar.proofs.Sets.{Obeys, Keeps, disjoint, one_laws, some_laws, then_laws, or_laws, perhaps, turned, apart_laws, widened, too_deep}

-- ---- words

pub name_laws : Keeps name read_name (Identifier ∷ []) [] false
unfolding name read_name
name_laws = turned word_of (Identifier ∷ []) [] false (one_laws Identifier)

pub number_laws : Keeps number read_number (Number ∷ []) [] false
unfolding number read_number
number_laws = turned numeral_of (Number ∷ []) [] false (one_laws Number)

pub text_laws : Keeps text read_text (Text ∷ []) [] false
unfolding text read_text
text_laws = turned word_of (Text ∷ []) [] false (one_laws Text)

pub end_laws : Keeps end read_end (Semicolon ∷ []) (Semicolon ∷ []) true
end_laws = perhaps (Semicolon ∷ []) [] (one_laws Semicolon)

ext_laws : Keeps ext read_ext (Extension ∷ []) (Extension ∷ []) true
ext_laws = perhaps (Extension ∷ []) [] (one_laws Extension)

pub dont_care_laws : Keeps dont_care read_dont_care (DontCare ∷ []) (Semicolon ∷ []) false
unfolding dont_care read_dont_care
dont_care_laws =
    turned dont_care_of (DontCare ∷ []) (Semicolon ∷ []) false
    (then_laws (DontCare ∷ []) [] (Semicolon ∷ []) (Semicolon ∷ []) false true (one_laws DontCare) end_laws refl)

-- ---- what needs no nesting

pub name_tree_laws : Keeps name_tree read_name_tree (Identifier ∷ []) (Extension ∷ []) false
unfolding name_tree read_name_tree
name_tree_laws =
    turned name_tree_of (Identifier ∷ []) (Extension ∷ []) false
    (then_laws (Identifier ∷ []) [] (Extension ∷ []) (Extension ∷ []) false true name_laws ext_laws refl)

number_tree_laws : Keeps number_tree read_number_tree (Number ∷ []) [] false
unfolding number_tree read_number_tree
number_tree_laws = turned ANumber (Number ∷ []) [] false number_laws

special_laws : Keeps special read_special (Special ∷ []) [] false
unfolding special read_special
special_laws = turned special_of (Special ∷ []) [] false (one_laws Special)

simple_laws : Keeps simple read_simple (Identifier ∷ Number ∷ Special ∷ []) (Extension ∷ []) false
unfolding read_simple
simple_laws =
    or_laws (Identifier ∷ []) (Number ∷ Special ∷ []) (Extension ∷ []) [] name_tree_laws
    (or_laws (Number ∷ []) (Special ∷ []) [] [] number_tree_laws special_laws refl) refl

-- ---- levels of priority

-- what an expression may start with, and what may go on after it
abbrev pub exprs : List Terminal
exprs = Not ∷ Minus ∷ Open ∷ Left ∷ Identifier ∷ Number ∷ Special ∷ []

abbrev pub behind_e1 : List Terminal
behind_e1 = Extension ∷ []

abbrev pub behind_e2 : List Terminal
behind_e2 = products ++ behind_e1

abbrev pub behind_e3 : List Terminal
behind_e3 = sums ++ behind_e2

abbrev pub behind_expr : List Terminal
behind_expr = relations ++ behind_e3

level_laws : {a a' : Form Token Tree} {ra ra' : Reader Token Tree} (signs goes : List Terminal) → Obeys a a' ra ra' exprs goes false
    → Obeys (token (among signs) then a) (token (among signs) then a') (read_link signs ra) (read_link signs ra') signs goes false → disjoint signs goes ≡ true
    → Obeys (level signs a) (level signs a') (read_level signs ra) (read_level signs ra') exprs ((signs ++ goes) ++ goes) false
level_laws signs goes la ll d = laws.chained number_of terminal_of joined _ _ _ _ _ _ _ _ exprs goes signs goes la ll d d

module _ (a a' : Form Token Tree) (ra ra' : Reader Token Tree) (la : Obeys a a' ra ra' exprs behind_e1 false) where
  pub product_laws : Obeys (token (among products) then a) (token (among products) then a') (read_link products ra) (read_link products ra') products behind_e1 false
  product_laws = then_laws products [] exprs behind_e1 false false (some_laws products) la refl

  e2_laws : Obeys (level products a) (level products a') (read_level products ra) (read_level products ra') exprs behind_e2 false
  e2_laws = widened exprs ((products ++ behind_e1) ++ behind_e1) exprs behind_e2 false (level_laws products behind_e1 la product_laws refl) refl refl

  pub sum_laws : Obeys (token (among sums) then level products a) (token (among sums) then level products a') (read_link sums (read_level products ra)) (read_link sums (read_level products ra')) sums behind_e2 false
  sum_laws = then_laws sums [] exprs behind_e2 false false (some_laws sums) e2_laws refl

  e3_laws : Obeys (level sums (level products a)) (level sums (level products a')) (read_level sums (read_level products ra)) (read_level sums (read_level products ra')) exprs behind_e3 false
  e3_laws = widened exprs ((sums ++ behind_e2) ++ behind_e2) exprs behind_e3 false (level_laws sums behind_e2 e2_laws sum_laws refl) refl refl

  pub relation_laws : Obeys (token (among relations) then level sums (level products a)) (token (among relations) then level sums (level products a')) (read_link relations (read_level sums (read_level products ra)))
      (read_link relations (read_level sums (read_level products ra'))) relations behind_e3 false
  relation_laws = then_laws relations [] exprs behind_e3 false false (some_laws relations) e3_laws refl

  expr_over_laws : Obeys (expr_over a) (expr_over a') (read_expr_over ra) (read_expr_over ra') exprs behind_expr false
  unfolding expr_over read_expr_over
  expr_over_laws = widened exprs ((relations ++ behind_e3) ++ behind_e3) exprs behind_expr false (level_laws relations behind_e3 e3_laws relation_laws refl) refl refl

-- ---- parentheses

module _ (e e' : Form Token Tree) (r r' : Reader Token Tree) (le : Obeys e e' r r' exprs behind_expr false) where
  paren_laws : Obeys (paren e) (paren e') (read_paren r) (read_paren r') (Open ∷ []) [] false
  unfolding paren read_paren
  paren_laws =
      turned paren_of (Open ∷ []) [] false
      (then_laws (Open ∷ []) [] exprs [] false false (one_laws Open)
      (then_laws exprs behind_expr (Close ∷ []) [] false false le (one_laws Close) refl) refl)

-- ---- members: a range begins with a name and `..`, and no expression does

pub span_member_laws : Keeps span_member read_span_member (Identifier ∷ []) [] false
unfolding span_member read_span_member
span_member_laws =
    turned span_member_of (Identifier ∷ []) [] false
    (then_laws (Identifier ∷ []) [] (Range ∷ []) [] false false name_laws
    (then_laws (Range ∷ []) [] (Identifier ∷ []) [] false false (one_laws Range) name_laws refl) refl)

abbrev is_name : Token → Bool
is_name x = among (Identifier ∷ []) x

abbrev is_range : Token → Bool
is_range x = among (Range ∷ []) x

abbrev at_two : List Token → Bool
at_two ts = starts_two is_name is_range ts

-- the tokens that two tests pass
two_are : (ts : List Token) → at_two ts ≡ true → (x : Token) × (y : Token) × (us : List Token) × (ts ≡ x ∷ y ∷ us) × (is_name x ≡ true) × (is_range y ≡ true)
two_are [] e = absurd cc
two_are (x ∷ []) e = absurd (none (is_name x) e)
  where
    none : (b : Bool) → (b && false) ≡ true → ⊥
    none true e = cc
    none false e = cc
two_are (x ∷ y ∷ us) e = let p = both (is_name x) (is_range y) e in (x, y, us, refl, p.0, p.1)
  where
    both : (a b : Bool) → (a && b) ≡ true → (a ≡ true) × (b ≡ true)
    both true b e = (refl, e)
    both false b e = absurd cc

two_pass : (x y : Token) (us : List Token) → is_name x ≡ true → is_range y ≡ true → at_two (x ∷ y ∷ us) ≡ true
two_pass x y us e d = rw (e, d) refl

bool_cases : (v : Bool) → (v ≡ true) ⊎ (v ≡ false)
bool_cases true = inl refl
bool_cases false = inr refl

abbrev behind_member : List Terminal
behind_member = Range ∷ behind_expr

abbrev read_as : Tree → List Token → Result (Tree × List Token) (Stop Token)
read_as t rest = Ok (t, rest)

module _ (e e' : Form Token Tree) (r r' : Reader Token Tree) (le : Obeys e e' r r' exprs behind_expr false)
    (begun : (x : Token) → is_name x ≡ true → e.begins (x ∷ []))
    (alone : (x y : Token) (us : List Token) → is_name x ≡ true → is_range y ≡ true → (t : Tree) × (r (x ∷ y ∷ us) ≡ Ok (t, y ∷ us))) where
  span_starts : (ts : List Token) (t : SetMember) (rest : List Token) → span_member.spells ts t rest → at_two ts ≡ true
  unfolding span_member name
  span_starts ts t rest ((w, (k, v)), (mid, (x, (d, i), f), (mid2, (g, j), q)), z) =
      subst (λ (m : List Token). at_two m ≡ true) (sym (d ∙ ap (λ (m : List Token). x ∷ m) g)) (two_pass x k mid2 i j)

  one_starts : (ts : List Token) (t : SetMember) (rest : List Token) → (made OneMember e).spells ts t rest → starts (among behind_member) rest ≡ false → at_two ts ≡ false
  one_starts ts t rest s d =
      elim (bool_cases (at_two ts)) [
        | inl h ↦
            let p = two_are ts h in
            let a = alone p.0 p.1 p.2 p.4 p.5 in
            let one : r ts ≡ Ok (s.0, rest) = le.only ts s.0 rest s.1 (outside_starts rest d) in
            let two : r ts ≡ Ok (a.0, p.1 ∷ p.2) = ap r p.3 ∙ a.1 in
            let is : rest ≡ p.1 ∷ p.2 = same_rest s.0 a.0 rest (p.1 ∷ p.2) (sym one ∙ two) in
            absurd (passes p.1 p.2 p.5 (subst (λ (m : List Token). starts (among behind_member) m ≡ false) is d))
        | inr h ↦ h
      ]
    where
      outside_starts : (m : List Token) → starts (among behind_member) m ≡ false → starts (among behind_expr) m ≡ false
      outside_starts [] h = refl
      outside_starts (y ∷ m) h = laws.outside number_of terminal_of behind_expr behind_member refl y h

      same_rest : (t u : Tree) (m k : List Token) → read_as t m ≡ read_as u k → m ≡ k
      same_rest t u m k h = let is : (t, m) ≡ (u, k) = cc in ap (λ (q : Tree × List Token). q.1) is

      passes : (y : Token) (m : List Token) → is_range y ≡ true → starts (among behind_member) (y ∷ m) ≡ false → ⊥
      passes y m i h = let j : among behind_member y ≡ true = laws.among_within number_of terminal_of (Range ∷ []) behind_member refl y i in cc

  begin_span : (us more : List Token) → span_member.begins us → at_two (us ++ more) ≡ false → e.begins us
  unfolding span_member name
  begin_span [] more h d = le.nil
  begin_span (x ∷ []) more (inl h) d = begun x h
  begin_span (x ∷ y ∷ us) more (inl h) d = absurd h
  begin_span us more (inr (w, [], (x, (k, i), f), h)) d = subst (λ (m : List Token). e.begins m) (sym k) (begun x i)
  begin_span us more (inr (w, y ∷ mid, (x, (k, i), f), h)) d =
      let j : is_range y ≡ true = (word_range_laws.opens y mid h) in
      let t : at_two (us ++ more) ≡ true = subst (λ (m : List Token). at_two (m ++ more) ≡ true) (sym k) (two_pass x y (mid ++ more) i j) in
      absurd (let no : ⊥ = cc in no)
    where
      word_range_laws : Keeps (one Range then name) (read_one Range then_read read_name) (Range ∷ []) [] false
      word_range_laws = then_laws (Range ∷ []) [] (Identifier ∷ []) [] false false (one_laws Range) name_laws refl

  begin_one : (us more : List Token) → e.begins us → at_two (us ++ more) ≡ true → span_member.begins us
  unfolding span_member name
  begin_one [] more h d = inl tt
  begin_one (x ∷ []) more h d = inl (let p = two_are (x ∷ more) d in head_is x more p.0 (p.1 ∷ p.2) p.3 p.4)
    where
      head_is : (x : Token) (more : List Token) (y : Token) (us : List Token) → x ∷ more ≡ y ∷ us → is_name y ≡ true → is_name x ≡ true
      head_is x more y us k i = let is : y ≡ x = cc in subst (λ (z : Token). is_name z ≡ true) is i
  begin_one (x ∷ y ∷ us) more h d =
      let p = two_first x y (us ++ more) d in
      let a = alone x y (us ++ more) p.0 p.1 in
      let w : Within more (r (x ∷ y ∷ (us ++ more))) = le.covers (x ∷ y ∷ us) more h in
      let v : length (y ∷ (us ++ more)) ≤ length more = subst (λ (q : Result (Tree × List Token) (Stop Token)). Within more q) a.1 w in
      absurd (omega (arith, length-append us more))
    where
      two_first : (x y : Token) (us : List Token) → at_two (x ∷ y ∷ us) ≡ true → (is_name x ≡ true) × (is_range y ≡ true)
      two_first x y us k = both (is_name x) (is_range y) k
        where
          both : (a b : Bool) → (a && b) ≡ true → (a ≡ true) × (b ≡ true)
          both true b e = (refl, e)
          both false b e = absurd cc

  pub member_laws : Obeys (member e) (member e') (read_member r) (read_member r') exprs behind_member false
  unfolding read_member
  member_laws =
      picked_laws span_member span_member (made OneMember e) (made OneMember e') read_span_member read_span_member (read_made OneMember r) (read_made OneMember r') at_two (among exprs) (λ t x. among behind_member x)
      (widened (Identifier ∷ []) [] exprs behind_member false span_member_laws refl refl) (widened exprs behind_expr exprs behind_member false (turned OneMember exprs behind_expr false le) refl refl)
      (λ ts t rest s d. span_starts ts t rest s) one_starts begin_span begin_one

  pub members_laws : Obeys (each_apart_by Comma (member e)) (each_apart_by Comma (member e')) (read_apart_by Comma (read_member r)) (read_apart_by Comma (read_member r')) exprs (Comma ∷ behind_member) false
  members_laws = apart_laws Comma exprs behind_member member_laws refl refl

  set_laws : Obeys (set e) (set e') (read_set r) (read_set r') (Left ∷ []) (Extension ∷ []) false
  unfolding set read_set
  set_laws =
      turned set_of (Left ∷ []) (Extension ∷ []) false
      (then_laws (Left ∷ []) [] exprs (Extension ∷ []) false false (one_laws Left)
      (then_laws exprs (Comma ∷ behind_member) (Right ∷ []) (Extension ∷ []) false false members_laws
      (then_laws (Right ∷ []) [] (Extension ∷ []) (Extension ∷ []) false true (one_laws Right) ext_laws refl) refl) refl)

-- ---- a name alone is an expression, and is read as one before `..`

level_alone : (signs : List Terminal) (ra : Reader Token Tree) (ts : List Token) (t : Tree) (rest : List Token) → ra ts ≡ Ok (t, rest) → starts (among signs) rest ≡ false → read_level signs ra ts ≡ Ok (t, rest)
level_alone signs ra ts t rest e d = rw (e, many_none (length rest) (read_link signs ra) rest d) refl
  where
    many_none : (n : ℕ) (r : Reader Token (Token × Tree)) (m : List Token) → starts (among signs) m ≡ false → read_many (among signs) r n m ≡ Ok ([], m)
    many_none zero r m h = refl
    many_none (suc n) r m h = rw h refl

simple_alone : (x y : Token) (us : List Token) → is_name x ≡ true → is_range y ≡ true → read_simple (x ∷ y ∷ us) ≡ Ok (name_tree_of (word_of x, None), y ∷ us)
unfolding read_simple read_name_tree read_name
simple_alone x y us e d =
    let n : among (Extension ∷ []) y ≡ false = laws.among_apart number_of terminal_of (Range ∷ []) (Extension ∷ []) refl y d in
    rw (e, n) refl

operand_alone : (n : ℕ) (x y : Token) (us : List Token) → is_name x ≡ true → is_range y ≡ true → read_operand n (x ∷ y ∷ us) ≡ Ok (name_tree_of (word_of x, None), y ∷ us)
unfolding read_operand
operand_alone zero x y us e d =
    let a : among negations x ≡ false = laws.among_apart number_of terminal_of (Identifier ∷ []) negations refl x e in
    let b : among (Open ∷ []) x ≡ false = laws.among_apart number_of terminal_of (Identifier ∷ []) (Open ∷ []) refl x e in
    let c : among (Left ∷ []) x ≡ false = laws.among_apart number_of terminal_of (Identifier ∷ []) (Left ∷ []) refl x e in
    rw (a, b, c) (simple_alone x y us e d)
operand_alone (suc n) x y us e d =
    let a : among negations x ≡ false = laws.among_apart number_of terminal_of (Identifier ∷ []) negations refl x e in
    let b : among (Open ∷ []) x ≡ false = laws.among_apart number_of terminal_of (Identifier ∷ []) (Open ∷ []) refl x e in
    let c : among (Left ∷ []) x ≡ false = laws.among_apart number_of terminal_of (Identifier ∷ []) (Left ∷ []) refl x e in
    rw (a, b, c) (simple_alone x y us e d)

pub expr_alone : (n : ℕ) (x y : Token) (us : List Token) → is_name x ≡ true → is_range y ≡ true → (t : Tree) × (read_expr n (x ∷ y ∷ us) ≡ Ok (t, y ∷ us))
unfolding read_expr_over
expr_alone n x y us e d =
    let t = name_tree_of (word_of x, None) in
    let a = level_alone products (read_operand n) (x ∷ y ∷ us) t (y ∷ us) (operand_alone n x y us e d) (laws.among_apart number_of terminal_of (Range ∷ []) products refl y d) in
    let b = level_alone sums (read_level products (read_operand n)) (x ∷ y ∷ us) t (y ∷ us) a (laws.among_apart number_of terminal_of (Range ∷ []) sums refl y d) in
    (t, level_alone relations (read_level sums (read_level products (read_operand n))) (x ∷ y ∷ us) t (y ∷ us) b (laws.among_apart number_of terminal_of (Range ∷ []) relations refl y d))

operand_begun : (n : ℕ) (x : Token) → is_name x ≡ true → (operand n).begins (x ∷ [])
unfolding operand name_tree name
operand_begun zero x e = inr (inr (inr (inl (inl e))))
operand_begun (suc n) x e = inr (inr (inr (inl (inl e))))

pub expr_begun : (n : ℕ) (x : Token) → is_name x ≡ true → (expr n).begins (x ∷ [])
unfolding expr_over
expr_begun n x e = inl (inl (inl (operand_begun n x e)))

-- ---- signs before an operand

module _ (o o' : Form Token Tree) (r r' : Reader Token Tree) (lo : Obeys o o' r r' exprs behind_e1 false) where
  negated_laws : Obeys (negated o) (negated o') (read_negated r) (read_negated r') negations behind_e1 false
  unfolding negated read_negated
  negated_laws = turned negated_of negations behind_e1 false (then_laws negations [] exprs behind_e1 false false (some_laws negations) lo refl)

-- ---- operands at each depth

negated_deep : (o : Form Token Tree) (r : Reader Token Tree) → Obeys nothing (negated o) (read_deep (among negations)) (read_negated r) negations behind_e1 false
unfolding negated read_negated
negated_deep o r = too_deep negated_of negations o r behind_e1

paren_deep : (e : Form Token Tree) (r : Reader Token Tree) → Obeys nothing (paren e) (read_deep (among (Open ∷ []))) (read_paren r) (Open ∷ []) [] false
unfolding paren read_paren
paren_deep e r = too_deep paren_of (Open ∷ []) (e then one Close) (r then_read read_one Close) []

set_deep : (e : Form Token Tree) (r : Reader Token Tree) → Obeys nothing (set e) (read_deep (among (Left ∷ []))) (read_set r) (Left ∷ []) (Extension ∷ []) false
unfolding set read_set
set_deep e r = too_deep set_of (Left ∷ []) (each_apart_by Comma (member e) then one Right then ext) (read_apart_by Comma (read_member r) then_read read_one Right then_read read_ext) (Extension ∷ [])

operands_laws : {a a' b b' c c' : Form Token Tree} {ra ra' rb rb' rc rc' : Reader Token Tree} → Obeys a a' ra ra' negations behind_e1 false → Obeys b b' rb rb' (Open ∷ []) [] false → Obeys c c' rc rc' (Left ∷ []) (Extension ∷ []) false
    → Obeys (either a (either b (either c simple))) (either a' (either b' (either c' simple))) (read_either (among negations) ra (read_either (among (Open ∷ [])) rb (read_either (among (Left ∷ [])) rc read_simple)))
    (read_either (among negations) ra' (read_either (among (Open ∷ [])) rb' (read_either (among (Left ∷ [])) rc' read_simple))) exprs behind_e1 false
operands_laws la lb lc =
    widened exprs (Extension ∷ Extension ∷ Extension ∷ []) exprs behind_e1 false
    (or_laws negations (Open ∷ Left ∷ Identifier ∷ Number ∷ Special ∷ []) behind_e1 (Extension ∷ Extension ∷ []) la
    (or_laws (Open ∷ []) (Left ∷ Identifier ∷ Number ∷ Special ∷ []) [] (Extension ∷ Extension ∷ []) lb
    (or_laws (Left ∷ []) (Identifier ∷ Number ∷ Special ∷ []) (Extension ∷ []) (Extension ∷ []) lc simple_laws refl) refl) refl) refl refl

pub operand_laws : (n : ℕ) → Obeys (operand n) (operand (suc n)) (read_operand n) (read_operand (suc n)) exprs behind_e1 false
unfolding operand read_operand
operand_laws zero =
    operands_laws (negated_deep (operand zero) (read_operand zero)) (paren_deep (expr_over (operand zero)) (read_expr_over (read_operand zero))) (set_deep (expr_over (operand zero)) (read_expr_over (read_operand zero)))
operand_laws (suc n) =
    let le = expr_over_laws _ _ _ _ (operand_laws n) in
    operands_laws (negated_laws _ _ _ _ (operand_laws n)) (paren_laws _ _ _ _ le) (set_laws _ _ _ _ le (expr_begun n) (expr_alone n))

pub expr_laws : (n : ℕ) → Obeys (expr n) (expr (suc n)) (read_expr n) (read_expr (suc n)) exprs behind_expr false
expr_laws n = expr_over_laws _ _ _ _ (operand_laws n)

pub set_at_laws : (n : ℕ) → Obeys (set_at n) (set_at (suc n)) (read_set_at n) (read_set_at (suc n)) (Left ∷ []) (Extension ∷ []) false
unfolding set_at read_set_at
set_at_laws zero = set_deep (expr zero) (read_expr zero)
set_at_laws (suc n) = set_laws _ _ _ _ (expr_laws n) (expr_begun n) (expr_alone n)
