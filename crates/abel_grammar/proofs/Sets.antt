-- The laws of forms with lists of terminals for what may start a form and what may go on after it; what doesn't
-- depend on this grammar, except for the terminals.
use Rattle.std.proofs.Common.{◌≡◌, ◌<◌, inl, inr, Bool, true, false, List, [], ◌∷◌, ◌++◌, length, Option, None, Ok, refl, ◌||◌, ◌&&◌, not, ◌==◌}
use Rattle.abel_grammar.proofs.Common.{Form, token, ◌then◌, followed, either, optional, repeated, made, nothing, Reader, read_token, ◌then_read◌, read_followed, read_either, read_optional, read_repeated, read_made, read_deep, placed, unless, read_placed, read_unless, Token, Terminal, number_of, terminal_of, among, one, each_apart_by, read_one, read_apart_by}
use Rattle.abel_grammar.proofs.Laws.{Lawful}
use Rattle.abel_grammar.proofs.FollowedLaws.{followed_laws}
use Rattle.abel_grammar.proofs.EitherLaws.{either_laws}
use Rattle.abel_grammar.proofs.OptionalLaws.{optional_laws, behind_option}
use Rattle.abel_grammar.proofs.RepeatedLaws.{repeated_laws}
use Rattle.abel_grammar.proofs.MadeLaws.{relaxed_laws}
use Rattle.abel_grammar.proofs.FurtherLaws.{placed_laws, opening_laws, unless_laws}
use Rattle.abel_grammar.proofs.ClassLaws as laws

abbrev pub disjoint : List Terminal → List Terminal → Bool
disjoint ks js = laws.disjoint number_of terminal_of ks js

abbrev pub subset : List Terminal → List Terminal → Bool
subset ks js = laws.subset number_of terminal_of ks js

abbrev pub pick : Bool → List Terminal → List Terminal
pick b ks = laws.pick number_of terminal_of b ks

-- what a form and its reader owe each other, where what may go on doesn't depend on the tree
abbrev pub Obeys : {T : Type 0} → Form Token T → Form Token T → Reader Token T → Reader Token T → List Terminal → List Terminal → Bool → Type 0
Obeys f f' r r' first goes null = Lawful f f' r r' (among first) (λ _ x. among goes x) null

-- the same of a form that doesn't nest
abbrev pub Keeps : {T : Type 0} → Form Token T → Reader Token T → List Terminal → List Terminal → Bool → Type 0
Keeps f r first goes null = Obeys f f r r first goes null

pub one_laws : (t : Terminal) → Keeps (one t) (read_one t) (t ∷ []) [] false
one_laws t = laws.a_token number_of terminal_of (t ∷ [])

pub some_laws : (ts : List Terminal) → Keeps (token (among ts)) (read_token (among ts)) ts [] false
some_laws ts = laws.a_token number_of terminal_of ts

pub then_laws : {A B : Type 0} {a a' : Form Token A} {b b' : Form Token B} {ra ra' : Reader Token A} {rb rb' : Reader Token B} (fa ga fb gb : List Terminal) (na nb : Bool)
    → Obeys a a' ra ra' fa ga na → Obeys b b' rb rb' fb gb nb → disjoint fb ga ≡ true → Obeys (a then b) (a' then b') (ra then_read rb) (ra' then_read rb') (fa ++ pick na fb) (gb ++ pick nb ga) (na && nb)
then_laws fa ga fb gb na nb la lb d = laws.in_turn number_of terminal_of _ _ _ _ _ _ _ _ fa ga fb gb na nb la (λ _. lb) d

-- a token, and then a form
pub word_then : {B : Type 0} {b b' : Form Token B} {rb rb' : Reader Token B} (t : Terminal) (fb gb : List Terminal) → Obeys b b' rb rb' fb gb false → disjoint fb [] ≡ true → Obeys (one t then b) (one t then b') (read_one t then_read rb) (read_one t then_read rb') (t ∷ []) (gb ++ []) false
word_then t fb gb lb d = then_laws (t ∷ []) [] fb gb false false (one_laws t) lb d

pub or_laws : {T : Type 0} {a a' b b' : Form Token T} {ra ra' rb rb' : Reader Token T} (fa fb ga gb : List Terminal) → Obeys a a' ra ra' fa ga false → Obeys b b' rb rb' fb gb false → disjoint fb fa ≡ true
    → Obeys (either a b) (either a' b') (read_either (among fa) ra rb) (read_either (among fa) ra' rb') (fa ++ fb) (ga ++ gb) false
or_laws fa fb ga gb la lb d = laws.one_of number_of terminal_of _ _ _ _ _ _ _ _ fa fb ga gb la lb d

pub perhaps : {T : Type 0} {a a' : Form Token T} {ra ra' : Reader Token T} (fa ga : List Terminal) → Obeys a a' ra ra' fa ga false → Obeys (optional a) (optional a') (read_optional (among fa) ra) (read_optional (among fa) ra') fa (fa ++ ga) true
perhaps fa ga la = laws.perhaps number_of terminal_of _ _ _ _ fa ga la

pub any_number : {T : Type 0} {a a' : Form Token T} {ra ra' : Reader Token T} (fa ga : List Terminal) → Obeys a a' ra ra' fa ga false → disjoint fa ga ≡ true → Obeys (repeated a) (repeated a') (read_repeated (among fa) ra) (read_repeated (among fa) ra') fa (fa ++ ga) true
any_number fa ga la d = laws.any_number number_of terminal_of _ _ _ _ fa ga la d

pub turned : {A B : Type 0} (f : A → B) {a a' : Form Token A} {ra ra' : Reader Token A} (fa ga : List Terminal) (na : Bool) → Obeys a a' ra ra' fa ga na → Obeys (made f a) (made f a') (read_made f ra) (read_made f ra') fa ga na
turned f fa ga na la = laws.turned number_of terminal_of f _ _ _ _ fa ga na la

pub apart_laws : {A : Type 0} {a a' : Form Token A} {ra ra' : Reader Token A} (t : Terminal) (first goes : List Terminal) → Obeys a a' ra ra' first goes false → disjoint first [] ≡ true → disjoint (t ∷ []) goes ≡ true
    → Obeys (each_apart_by t a) (each_apart_by t a') (read_apart_by t ra) (read_apart_by t ra') first (t ∷ goes) false
apart_laws t first goes la d e = laws.with_signs number_of terminal_of _ _ _ _ (t ∷ []) first goes la d e

-- more that may start a form, or go on after it
pub widened : {T : Type 0} {a a' : Form Token T} {ra ra' : Reader Token T} (fa ga fb gb : List Terminal) (na : Bool) → Obeys a a' ra ra' fa ga na → subset fa fb ≡ true → subset ga gb ≡ true → Obeys a a' ra ra' fb gb na
widened {T} fa ga fb gb na la d e =
    relaxed_laws _ _ _ _ (among fa) (among fb) _ (λ (t : T) (x : Token). among gb x) na la (λ x h. laws.among_within number_of terminal_of fa fb d x h) (λ t x h. laws.outside number_of terminal_of ga gb e x h)

pub placed_obeys : {A : Type 0} {a a' : Form Token A} {ra ra' : Reader Token A} (fa ga : List Terminal) → Obeys a a' ra ra' fa ga false → Obeys (placed a) (placed a') (read_placed ra) (read_placed ra') fa ga false
placed_obeys fa ga la = placed_laws _ _ _ _ (among fa) (λ t x. among ga x) la

-- what opens a nesting, if none may be opened
pub too_deep : {A B : Type 0} (f : Token × A → B) (ks : List Terminal) (a : Form Token A) (r : Reader Token A) (goes : List Terminal)
    → Obeys nothing (made f (token (among ks) then a)) (read_deep (among ks)) (read_made f (read_token (among ks) then_read r)) ks goes false
too_deep f ks a r goes = opening_laws f (among ks) a r (λ t x. among goes x)

-- a form whose followers depend on what it spells, after one whose followers don't
or_none : (b c : Bool) → b ≡ false → (b || (false && c)) ≡ false
or_none true c e = absurd cc
or_none false c e = refl

or_first : (b c : Bool) → (b || (false && c)) ≡ true → b ≡ true
or_first true c e = refl
or_first false c e = absurd cc

pub led_by : {A B : Type 0} {a a' : Form Token A} {b b' : Form Token B} {ra ra' : Reader Token A} {rb rb' : Reader Token B} (fa ga fb : List Terminal) (gb : B → Token → Bool)
    → Obeys a a' ra ra' fa ga false → Lawful b b' rb rb' (among fb) gb false → disjoint fb ga ≡ true
    → Lawful (a then b) (a' then b') (ra then_read rb) (ra' then_read rb') (among fa) (λ t x. gb t.1 x) false
led_by {A} {B} {a} {a'} {b} {b'} {ra} {ra'} {rb} {rb'} fa ga fb gb la lb d =
    relaxed_laws _ _ _ _ _ (among fa) _ (λ (t : A × B) (x : Token). gb t.1 x) false
    (followed_laws a a' (λ _. b) (λ _. b') ra ra' (λ _. rb) (λ _. rb') (among fa) (λ (t : A). among fb) (among fb) (λ (t : A) (x : Token). among ga x) (λ (t : A) (u : B) (x : Token). gb u x) false false
    la (λ _. lb) (λ t x h. laws.among_apart number_of terminal_of fb ga d x h) (λ t x h. h))
    (λ x h. or_first (among fa x) (among fb x) h) (λ t x h. or_none (gb t.1 x) (among ga x) h)

-- each part takes a token
pub shorter_by : {T : Type 0} {f f' : Form Token T} {r r' : Reader Token T} (first : Token → Bool) (goes : T → Token → Bool) → Lawful f f' r r' first goes false → (ts : List Token) (x : T × List Token) → r ts ≡ Ok x → length x.1 < length ts
shorter_by first goes la ts x e = elim (la.takes ts x.0 x.1 (la.sound ts x e)) [ inl h ↦ h.1 | inr (n, d) ↦ absurd cc ]

-- a choice of two forms whose followers depend on what they spell
pub or_trails : {T : Type 0} {a a' b b' : Form Token T} {ra ra' rb rb' : Reader Token T} (fa fb first : List Terminal) (goes : T → Token → Bool) → Lawful a a' ra ra' (among fa) goes false → Lawful b b' rb rb' (among fb) goes false
    → disjoint fb fa ≡ true → subset fa first ≡ true → subset fb first ≡ true → Lawful (either a b) (either a' b') (read_either (among fa) ra rb) (read_either (among fa) ra' rb') (among first) goes false
or_trails fa fb first goes la lb d e i =
    relaxed_laws _ _ _ _ _ (among first) _ goes false (either_laws _ _ _ _ _ _ _ _ (among fa) (among fb) goes la lb (λ x h. laws.among_apart number_of terminal_of fb fa d x h))
    (λ x h. either_one (among fa x) (among fb x) (among first x) (λ k. laws.among_within number_of terminal_of fa first e x k) (λ k. laws.among_within number_of terminal_of fb first i x k) h) (λ t x h. h)
  where
    either_one : (p q r : Bool) → (p ≡ true → r ≡ true) → (q ≡ true → r ≡ true) → (p || q) ≡ true → r ≡ true
    either_one true q r f g h = f refl
    either_one false q r f g h = g h

-- what goes on after the tree may be said of the tree
pub trails : {T : Type 0} {a a' : Form Token T} {ra ra' : Reader Token T} (fa ga : List Terminal) (goes : T → Token → Bool) → Obeys a a' ra ra' fa ga false → ((t : T) (x : Token) → goes t x ≡ false → among ga x ≡ false) → Lawful a a' ra ra' (among fa) goes false
trails fa ga goes la h = relaxed_laws _ _ _ _ (among fa) (among fa) _ goes false la (λ x k. k) h

-- ---- if a token goes on after open trees alone

-- ks may go on after any tree, and js after an open one
abbrev pub behind_open : {T : Type 0} → List Terminal → List Terminal → (T → Bool) → T → Token → Bool
behind_open ks js opened t x = among ks x || (opened t && among js x)

pub open_false : (k o j : Bool) → k ≡ false → j ≡ false → (k || (o && j)) ≡ false
open_false true o j h e = absurd cc
open_false false true j h e = e
open_false false false j h e = refl

pub closed_false : (k j : Bool) → k ≡ false → (k || (false && j)) ≡ false
closed_false true j h = absurd cc
closed_false false j h = refl

-- what goes on after nothing of ks and js goes on after no tree
pub all_behind : {T : Type 0} (ks js both : List Terminal) (opened : T → Bool) → subset ks both ≡ true → subset js both ≡ true → (t : T) (x : Token) → among both x ≡ false → behind_open ks js opened t x ≡ false
all_behind ks js both opened d e t x h = open_false (among ks x) (opened t) (among js x) (laws.outside number_of terminal_of ks both d x h) (laws.outside number_of terminal_of js both e x h)

-- a list of such trees
pub many_open : {T : Type 0} {a a' : Form Token T} {ra ra' : Reader Token T} (fa ks js both : List Terminal) (opened : T → Bool) → Lawful a a' ra ra' (among fa) (behind_open ks js opened) false
    → subset ks both ≡ true → subset js both ≡ true → disjoint fa both ≡ true → Obeys (repeated a) (repeated a') (read_repeated (among fa) ra) (read_repeated (among fa) ra') fa (fa ++ both) true
many_open {T} fa ks js both opened la d e i =
    relaxed_laws _ _ _ _ _ (among fa) _ (λ (t : List T) (x : Token). among (fa ++ both) x) true
    (repeated_laws _ _ _ _ (among fa) (among both) (behind_open ks js opened) la (all_behind ks js both opened d e) (λ x h. laws.among_apart number_of terminal_of fa both i x h))
    (λ x h. h) (λ t x h. among_parts fa both x h)
  where
    among_parts : (fs gs : List Terminal) (x : Token) → among (fs ++ gs) x ≡ false → (among fs x || among gs x) ≡ false
    among_parts [] gs x h = h
    among_parts (f ∷ fs) gs x h = one (number_of f == number_of (terminal_of x)) (among fs x) (among gs x) (among (fs ++ gs) x) (among_parts fs gs x) h
      where
        one : (f p q r : Bool) → (r ≡ false → (p || q) ≡ false) → (f || r) ≡ false → ((f || p) || q) ≡ false
        one true p q r g h = absurd cc
        one false p q r g h = g h

-- a tail that is answered unless the tree before is opened, and may be missing
module _ {T S : Type 0} (a a' : Form Token T) (ra ra' : Reader Token T) (fa ks js : List Terminal) (opened : T → Bool) (la : Lawful a a' ra ra' (among fa) (behind_open ks js opened) false)
    (b b' : Form Token S) (rb rb' : Reader Token S) (gb : S → Token → Bool) (lb : Lawful b b' rb rb' (among js) gb false) (d : disjoint js ks ≡ true) where
  abbrev pub part_behind : T × Option S → Token → Bool
  part_behind t x = (not (opened t.0) && behind_option (among js) gb t.1 x) || (true && behind_open ks js opened t.0 x)

  tail_apart : (t : T) (x : Token) → opened t ≡ false → among js x ≡ true → behind_open ks js opened t x ≡ false
  tail_apart t x e h = rw e (closed_false (among ks x) (among js x) (laws.among_apart number_of terminal_of js ks d x h))

  pub part_laws : Lawful (followed a (λ t. unless (opened t) None (optional b))) (followed a' (λ t. unless (opened t) None (optional b'))) (read_followed ra (λ t. read_unless (opened t) None (read_optional (among js) rb)))
      (read_followed ra' (λ t. read_unless (opened t) None (read_optional (among js) rb'))) (among fa) part_behind false
  part_laws =
      relaxed_laws _ _ _ _ _ (among fa) _ part_behind false
      (unless_laws a a' ra ra' (among fa) (behind_open ks js opened) false la opened None (optional b) (optional b') (read_optional (among js) rb) (read_optional (among js) rb') (among js) (behind_option (among js) gb) true
      (optional_laws b b' rb rb' (among js) gb lb) tail_apart)
      (λ x h. or_first (among fa x) (among js x) h) (λ t x h. h)

-- a form whose followers depend on what it spells, after one that may take no token
pub led_by_some : {A B : Type 0} {a a' : Form Token A} {b b' : Form Token B} {ra ra' : Reader Token A} {rb rb' : Reader Token B} (fa ga fb first : List Terminal) (gb : B → Token → Bool)
    → Obeys a a' ra ra' fa ga true → Lawful b b' rb rb' (among fb) gb false → disjoint fb ga ≡ true → subset fa first ≡ true → subset fb first ≡ true
    → Lawful (a then b) (a' then b') (ra then_read rb) (ra' then_read rb') (among first) (λ t x. gb t.1 x) false
led_by_some {A} {B} {a} {a'} {b} {b'} {ra} {ra'} {rb} {rb'} fa ga fb first gb la lb d e i =
    relaxed_laws _ _ _ _ _ (among first) _ (λ (t : A × B) (x : Token). gb t.1 x) false
    (followed_laws a a' (λ _. b) (λ _. b') ra ra' (λ _. rb) (λ _. rb') (among fa) (λ (t : A). among fb) (among fb) (λ (t : A) (x : Token). among ga x) (λ (t : A) (u : B) (x : Token). gb u x) true false
    la (λ _. lb) (λ t x h. laws.among_apart number_of terminal_of fb ga d x h) (λ t x h. h))
    (λ x h. one_of (among fa x) (among fb x) (among first x) (λ k. laws.among_within number_of terminal_of fa first e x k) (λ k. laws.among_within number_of terminal_of fb first i x k) h) (λ t x h. or_none (gb t.1 x) (among ga x) h)
  where
    one_of : (p q r : Bool) → (p ≡ true → r ≡ true) → (q ≡ true → r ≡ true) → (p || (true && q)) ≡ true → r ≡ true
    one_of true q r f g h = f refl
    one_of false q r f g h = g h

-- a form that may take no token and whose followers depend on what it spells, after one that takes one
pub led_by_less : {A B : Type 0} {a a' : Form Token A} {b b' : Form Token B} {ra ra' : Reader Token A} {rb rb' : Reader Token B} (fa ga fb : List Terminal) (gb : B → Token → Bool)
    → Obeys a a' ra ra' fa ga false → Lawful b b' rb rb' (among fb) gb true → disjoint fb ga ≡ true
    → Lawful (a then b) (a' then b') (ra then_read rb) (ra' then_read rb') (among fa) (λ t x. gb t.1 x || (true && among ga x)) false
led_by_less {A} {B} {a} {a'} {b} {b'} {ra} {ra'} {rb} {rb'} fa ga fb gb la lb d =
    relaxed_laws _ _ _ _ _ (among fa) _ (λ (t : A × B) (x : Token). gb t.1 x || (true && among ga x)) false
    (followed_laws a a' (λ _. b) (λ _. b') ra ra' (λ _. rb) (λ _. rb') (among fa) (λ (t : A). among fb) (among fb) (λ (t : A) (x : Token). among ga x) (λ (t : A) (u : B) (x : Token). gb u x) false true
    la (λ _. lb) (λ t x h. laws.among_apart number_of terminal_of fb ga d x h) (λ t x h. h))
    (λ x h. or_first (among fa x) (among fb x) h) (λ t x h. h)
