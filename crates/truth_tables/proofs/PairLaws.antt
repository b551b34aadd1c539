-- Headers and entries met pair by pair.
use Rattle.std.proofs.Common.{◌≡◌, ℕ, zero, suc, ◌+◌, ◌-◌, ◌/◌, ◌%◌, ◌==◌, ◌<◌, ◌≤◌, Bool, true, false, ◌&&◌, Option, List, [], ◌∷◌, ◌++◌, length, map, reverse, replicate, refl, sym, ap, ap₂, ◌∙◌, subst, arith, append-nil, Bor}
use Rattle.truth_tables.proofs.Common.{AllZip, flat_map, list_all, sum_by, zip, and-false, map-append, reverse-append, replicate-append-replicate, sum_by-cons, Expr, Member, Extension, view, map_reverse, Context, digits, digits_low_first, part_marks, part_width, marks_of, all_marks, Term, Terms, extended_if, special_term, term_of, constant_of, Shape, HasShape, Mark, Pair, Part, names_found, AreClearParts, view_mark, list_of, each_extended, seen, is_set, both_sets, meeting, paired, IsPair, IsPut, IsMet, term_parts, IsNumeral, IsOperator, IsPart, AreParts, is_operand, is_number, meets, all_meet, meets_whole, all_extended, set_extended, list_extended}
use Rattle.abel_meaning.specs.Rows as meant
use Rattle.abel_meaning.specs.Terms as term
use Rattle.set_expr.specs.declared.shaped.Shape.TheVariants as shape
use Rattle.truth_tables.specs.declared.part.Part.TheVariants as part
use Rattle.truth_tables.proofs.PartLaws.{operand_case, operator_operand, operator_shape, special_case, set_fewer, some_parts}
use Rattle.std.proofs.lemmas.Slice.Zip.{AllZip-long}

-- ---- marks

pub seen_append : (ms ns : List Mark) → seen (ms ++ ns) ≡ seen ns ++ seen ms
seen_append ms ns = ap reverse (map-append view_mark ms ns) ∙ reverse-append (map view_mark ms) (map view_mark ns)

pub replicate_more : {A : Type 0} (n : ℕ) (x : A) → replicate n x ++ x ∷ [] ≡ replicate (suc n) x
replicate_more n x =
    let e : n + 1 ≡ suc n = omega arith in
    replicate-append-replicate n 1 x ∙ ap (λ k. replicate k x) e

reverse_same : {A : Type 0} (n : ℕ) (x : A) → reverse (replicate n x) ≡ replicate n x
reverse_same zero x = refl
reverse_same (suc n) x = reverse-append (x ∷ []) (replicate n x) ∙ ap (λ xs. xs ++ x ∷ []) (reverse_same n x) ∙ replicate_more n x

map_same : {A B : Type 0} (f : A → B) (n : ℕ) (x : A) → map f (replicate n x) ≡ replicate n (f x)
map_same f zero x = refl
map_same f (suc n) x = ap (λ xs. f x ∷ xs) (map_same f n x)

-- the bits that are left, one position further
pub digits_left : (w i n : ℕ) → i < w → digits_low_first (w - i) n ≡ (n % 2 == 1) ∷ digits_low_first (w - (i + 1)) (n / 2)
digits_left w i n h =
    let e : w - i ≡ suc (w - (i + 1)) = omega arith in
    ap (λ k. digits_low_first k n) e

-- ---- as a whole

-- what is no set on both sides meets as a whole
abbrev AsWhole : Context → (h e : Term) → Type 0
AsWhole d h e = (meets d h e ≡ meets_whole d e) × (marks_of d h e ≡ part_marks d (part_width d h) e)

as_whole : (d : Context) (h e : Term) → both_sets h e ≡ false → AsWhole d h e
as_whole d (term.Set hs) (term.Set es) k = absurd cc
as_whole d _ _ k = (refl, refl)

operand_whole : (d : Context) (e : Term) → is_operand e ≡ true → meets_whole d e ≡ is_number (constant_of d e).shape
operand_whole d e k = operand_case (λ t. meets_whole d t ≡ is_number (constant_of d t).shape) (λ n. refl) (λ sign t. refl) (λ sign t u. refl) e k

operand_marks : (d : Context) (w : ℕ) (e : Term) → is_operand e ≡ true → part_marks d w e ≡ map meant.Level (digits w (constant_of d e).number)
operand_marks d w e k = operand_case (λ t. part_marks d w t ≡ map meant.Level (digits w (constant_of d t).number)) (λ n. refl) (λ sign t. refl) (λ sign t u. refl) e k

-- marks that were put make a whole
put_marks : (d : Context) (h e : Term) (w : ℕ) (old new : List Mark) → both_sets h e ≡ false → w ≡ part_width d h → meets_whole d e ≡ true → part_marks d w e ++ seen old ≡ seen new → IsPut d h e true old new
put_marks d h e w old new k p m s = ((as_whole d h e k).0 ∙ m, ap (λ xs. xs ++ seen old) ((as_whole d h e k).1 ∙ ap (λ n. part_marks d n e) (sym p)) ∙ s)

pub put_number : (d : Context) (h e : Term) (w n : ℕ) (old new : List Mark) → IsNumeral d e n → both_sets h e ≡ false → w ≡ part_width d h → map view_mark new ≡ map view_mark old ++ map meant.Level (digits_low_first w n) → IsPut d h e true old new
put_number d h e w n old new i k p s =
    let lows = digits_low_first w n in
    put_marks d h e w old new k p (operand_whole d e i.operand ∙ ap is_number i.shape)
    (ap (λ xs. xs ++ seen old) (operand_marks d w e i.operand ∙ ap (λ m. map meant.Level (digits w m)) i.number ∙ map_reverse meant.Level lows)
    ∙ sym (ap reverse s ∙ reverse-append (map view_mark old) (map meant.Level lows)))

pub put_same : (d : Context) (h e : Term) (letter w : ℕ) (m : Mark) (old new : List Mark) → e ≡ special_term letter → part_marks d w (special_term letter) ≡ replicate w (view_mark m) → both_sets h e ≡ false → w ≡ part_width d h → new ≡ old ++ replicate w m → IsPut d h e true old new
put_same d h e letter w m old new t q k p s =
    put_marks d h e w old new k p (ap (meets_whole d) t ∙ special_case (λ u. meets_whole d u ≡ true) refl refl refl letter)
    (ap (λ xs. xs ++ seen old) (ap (part_marks d w) t ∙ q ∙ sym (reverse_same w (view_mark m)) ∙ ap reverse (sym (map_same view_mark w m)))
    ∙ sym (ap seen s ∙ seen_append old (replicate w m)))

-- an operator that has bits meets nothing as a whole
bits_unmet : (d : Context) (h : Term) (x : Expr) (e : Term) → IsOperator d x e → both_sets h e ≡ false → is_number (constant_of d (term_of d.known (view x))).shape ≡ false → meets d h e ≡ false
bits_unmet d h x e o k n = (as_whole d h e k).0 ∙ operand_whole d e (operator_operand d x e o) ∙ ap is_number (operator_shape d x e o) ∙ n

pub shape_unmet : (d : Context) (h : Term) (x : Expr) (e : Term) (s : Shape) → IsOperator d x e → both_sets h e ≡ false → ((n : ℕ) → s ≡ shape.Number n → ⊥) → HasShape s (constant_of d (term_of d.known (view x))) → meets d h e ≡ false
shape_unmet d h x e (shape.Number n) o k other s = absurd (other n refl)
shape_unmet d h x e _ o k other s = bits_unmet d h x e o k (ap is_number s)

-- ---- a set beside a set

paired_stand : (d : Context) (hs es : List Part) (ts us : List Term) → AreParts d hs ts → AreParts d es us → AreClearParts true (names_found d.names) hs → AreClearParts false (names_found d.names) es → AllZip (IsPair d) (paired hs es) (zip ts us)
paired_stand d [] es (t ∷ ts) us h k x y = absurd h
paired_stand d (x ∷ hs) es [] us h k z y = absurd h
paired_stand d (x ∷ hs) [] (t ∷ ts) (u ∷ us) h k z w = absurd k
paired_stand d (x ∷ hs) (y ∷ es) (t ∷ ts) [] h k z w = absurd k
paired_stand d (x ∷ hs) (y ∷ es) (t ∷ ts) (u ∷ us) h k z w = ((h.0, k.0, record { header = z.0; given = w.0 }), paired_stand d hs es ts us h.1 k.1 z.1 w.1)
paired_stand d _ _ _ _ h k z w = tt

sets_meet : (d : Context) (us vs : Terms) → length (list_of us) ≡ length (list_of vs) → all_meet d us vs ≡ list_all (meeting d).passes (zip (list_of us) (list_of vs))
sets_meet d term.NoTerm term.NoTerm e = refl
sets_meet d (term.Before u us) (term.Before v vs) e = ap (λ b. meets d u v && b) (sets_meet d us vs (omega (arith, e)))
sets_meet d _ _ e = absurd cc

sets_differ : (d : Context) (us vs : Terms) → (length (list_of us) ≡ length (list_of vs) → ⊥) → all_meet d us vs ≡ false
sets_differ d term.NoTerm term.NoTerm e = absurd (e refl)
sets_differ d (term.Before u us) (term.Before v vs) e = ap (λ b. meets d u v && b) (sets_differ d us vs (λ h. e (ap suc h))) ∙ and-false (meets d u v)
sets_differ d _ _ e = refl

sets_marks : (d : Context) (us vs : Terms) → all_marks d us vs ≡ flat_map (meeting d).gives (zip (list_of us) (list_of vs))
sets_marks d (term.Before u us) (term.Before v vs) = ap (λ xs. marks_of d u v ++ xs) (sets_marks d us vs)
sets_marks d _ _ = refl

zipped_parts : (d : Context) (ts us : List Term) → sum_by (meeting d).size (zip ts us) ≤ sum_by term_parts ts
zipped_parts d (t ∷ ts) (u ∷ us) = omega (arith, zipped_parts d ts us, sum_by-cons (meeting d).size (t, u) (zip ts us), sum_by-cons term_parts t ts)
zipped_parts d _ _ = omega arith

module _ (d : Context) (h e : Term) (o i : Option Extension) (ts us : Terms) (hs es : List Part) (stack later : List Pair) (ms : List Mark) (ih : h ≡ extended_if o (term.Set ts)) (ie : e ≡ extended_if i (term.Set us))
    (sh : AreParts d hs (each_extended o (list_of ts))) (se : AreParts d es (each_extended i (list_of us))) where
  xs : Terms
  xs = all_extended o ts

  ys : Terms
  ys = all_extended i us

  headers : AreParts d hs (list_of xs)
  unfolding xs
  headers = subst (AreParts d hs) (sym (list_extended o ts)) sh

  entries : AreParts d es (list_of ys)
  unfolding ys
  entries = subst (AreParts d es) (sym (list_extended i us)) se

  pub sets_unmet : (length hs ≡ length es → ⊥) → IsMet d h e false stack later ms ms
  unfolding xs ys
  sets_unmet p =
      ap₂ (meets d) (ih ∙ set_extended o ts) (ie ∙ set_extended i us)
      ∙ sets_differ d xs ys (λ l. p (sym (AllZip-long (IsPart d) hs (list_of xs) headers) ∙ l ∙ AllZip-long (IsPart d) es (list_of ys) entries))

  pub sets_met : length hs ≡ length es → later ≡ stack ++ paired hs es → AreClearParts true (names_found d.names) hs → AreClearParts false (names_found d.names) es → IsMet d h e true stack later ms ms
  unfolding xs ys
  sets_met p q ch ce =
      let lengths : length (list_of xs) ≡ length (list_of ys) = AllZip-long (IsPart d) hs (list_of xs) headers ∙ p ∙ sym (AllZip-long (IsPart d) es (list_of ys) entries) in
      record {
        more = paired hs es;
        terms = zip (list_of xs) (list_of ys);
        pushed = q;
        stand = paired_stand d hs es (list_of xs) (list_of ys) headers entries ch ce;
        opened = record {
          passes = ap₂ (meets d) (ih ∙ set_extended o ts) (ie ∙ set_extended i us) ∙ sets_meet d xs ys lengths;
          gives = λ _. ap (λ zs. zs ++ seen ms) (ap₂ (marks_of d) (ih ∙ set_extended o ts) (ie ∙ set_extended i us) ∙ sets_marks d xs ys);
        };
        fewer = omega (arith, zipped_parts d (list_of xs) (list_of ys), ap (sum_by term_parts) (list_extended o ts), set_fewer h o ts ih);
      }

-- ---- steps

pub step_whole : (d : Context) (h e : Term) (b : Bool) (stack : List Pair) (old new : List Mark) → IsPut d h e b old new → IsMet d h e b stack stack old new
step_whole d h e false stack old new p = p
step_whole d h e true stack old new p = record { more = []; terms = []; pushed = sym (append-nil stack); stand = tt; opened = record { passes = p.0; gives = λ _. p.1 }; fewer = some_parts h }

operand_not : (t : Term) → is_operand t ≡ true → is_set t ≡ false
operand_not t k = operand_case (λ u. is_set u ≡ false) (λ n. refl) (λ sign u. refl) (λ sign u v. refl) t k

part_not : (d : Context) (x : Part) (t : Term) → ((e : Bor Expr) (ms : Bor (List Member)) (o : Option Extension) → x ≡ part.Set e ms o → ⊥) → IsPart d x t → is_set t ≡ false
part_not d (part.Set e ms o) t n i = absurd (n e ms o refl)
part_not d (part.Signal s e) t n i = ap is_set i
part_not d (part.Number m) t n i = operand_not t i.operand
part_not d (part.Special letter) t n i = ap is_set i ∙ special_case (λ u. is_set u ≡ false) refl refl refl letter
part_not d (part.Operator y) t n i = operand_not t (operator_operand d y.now t i)

pub header_not : (d : Context) (x : Part) (h e : Term) → ((a : Bor Expr) (ms : Bor (List Member)) (o : Option Extension) → x ≡ part.Set a ms o → ⊥) → IsPart d x h → both_sets h e ≡ false
header_not d x h e n i = ap (λ b. b && is_set e) (part_not d x h n i)

pub given_not : (d : Context) (x : Part) (h e : Term) → ((a : Bor Expr) (ms : Bor (List Member)) (o : Option Extension) → x ≡ part.Set a ms o → ⊥) → IsPart d x e → both_sets h e ≡ false
given_not d x h e n i = ap (λ b. is_set h && b) (part_not d x e n i) ∙ and-false (is_set h)
