-- Arguments and parameters, one after another.
use Rattle.std.proofs.Common.{◌≡◌, ℕ, suc, ◌-◌, ◌<◌, Bool, true, false, List, [], ◌∷◌, ◌++◌, Option, None, Some, refl, sym, ap, ◌∙◌, arith, append_assoc, if◌then◌else◌}
use Rattle.abel_macros.proofs.Common.{Vec, map-append, joined, ◌>>=◌, given, starts_byte, rest_of, gap, name, argument, arguments_in, parameters_in, texts, names}
use Rattle.abel_lexer.proofs.RadixForms.{unwrapped}
use Rattle.abel_macros.proofs.Behind.{behind_all}

abbrev Found : Type 0
Found = Option (List (List ℕ) × List ℕ)

pub texts_push : (ws : List (Vec (List ℕ))) (w : Vec (List ℕ)) → texts (ws ++ w ∷ []) ≡ texts ws ++ joined w.items ∷ []
texts_push ws w = map-append (λ v. joined v.items) ws (w ∷ [])

pub names_push : (ws : List (Vec ℕ)) (w : Vec ℕ) → names (ws ++ w ∷ []) ≡ names ws ++ w.items ∷ []
names_push ws w = map-append (λ v. v.items) ws (w ∷ [])

-- what precedes a list goes before what a list of one more holds
longer_front : (front : List (List ℕ)) (a : List ℕ) (o : Found) → behind_all (front ++ a ∷ []) o ≡ behind_all front (o >>= λ more. Some (a ∷ more.0, more.1))
longer_front front a None = refl
longer_front front a (Some r) = ap (λ (z : List (List ℕ)). Some (z, r.1)) (append_assoc front (a ∷ []) r.0)

-- ---- arguments

module _ (front : List (List ℕ)) (text : List ℕ) (more : ℕ) (r : Found) (some : 0 < more) (read : behind_all front (arguments_in more text) ≡ r) where
  opened : behind_all front (argument text >>= λ a. if starts_byte 41 a.1 then Some (a.0 ∷ [], rest_of a.1) else (arguments_in (more - 1) (rest_of a.1) >>= λ ms. Some (a.0 ∷ ms.0, ms.1))) ≡ r
  opened = let m : more ≡ suc (more - 1) = omega arith in sym (ap (λ (k : ℕ). behind_all front (arguments_in k text)) m) ∙ read

  pub argument_none : argument text ≡ None → r ≡ None
  argument_none e =
      sym opened ∙ ap (λ (o : Option (List ℕ × List ℕ)). behind_all front (o >>= λ a. if starts_byte 41 a.1 then Some (a.0 ∷ [], rest_of a.1) else (arguments_in (more - 1) (rest_of a.1) >>= λ ms. Some (a.0 ∷ ms.0, ms.1)))) e

  module _ (a end : List ℕ) (e : argument text ≡ Some (a, end)) where
    taken : behind_all front (if starts_byte 41 end then Some (a ∷ [], rest_of end) else (arguments_in (more - 1) (rest_of end) >>= λ ms. Some (a ∷ ms.0, ms.1))) ≡ r
    taken =
        sym (ap (λ (o : Option (List ℕ × List ℕ)). behind_all front (o >>= λ a. if starts_byte 41 a.1 then Some (a.0 ∷ [], rest_of a.1) else (arguments_in (more - 1) (rest_of a.1) >>= λ ms. Some (a.0 ∷ ms.0, ms.1)))) e) ∙ opened

    pub argument_last : (all : List (List ℕ)) (behind : List ℕ) → true ≡ starts_byte 41 end → behind ≡ rest_of end → all ≡ front ++ a ∷ [] → r ≡ Some (all, behind)
    argument_last all behind c b l =
        sym taken ∙ ap (λ (t : Bool). behind_all front (if t then Some (a ∷ [], rest_of end) else (arguments_in (more - 1) (rest_of end) >>= λ ms. Some (a ∷ ms.0, ms.1)))) (sym c)
        ∙ ap (λ (z : List (List ℕ)). Some (z, rest_of end)) (sym l) ∙ ap (λ (z : List ℕ). Some (all, z)) (sym b)

    pub argument_next : (all : List (List ℕ)) (behind : List ℕ) → false ≡ starts_byte 41 end → behind ≡ rest_of end → all ≡ front ++ a ∷ [] → behind_all all (arguments_in (more - 1) behind) ≡ r
    argument_next all behind c b l =
        ap (λ (z : List (List ℕ)). behind_all z (arguments_in (more - 1) behind)) l ∙ ap (λ (z : List ℕ). behind_all (front ++ a ∷ []) (arguments_in (more - 1) z)) b ∙ longer_front front a (arguments_in (more - 1) (rest_of end))
        ∙ ap (λ (t : Bool). behind_all front (if t then Some (a ∷ [], rest_of end) else (arguments_in (more - 1) (rest_of end) >>= λ ms. Some (a ∷ ms.0, ms.1)))) c ∙ taken

pub arguments_out : (front : List (List ℕ)) (text : List ℕ) (more : ℕ) (r : Found) → more ≡ 0 → behind_all front (arguments_in more text) ≡ r → r ≡ None
arguments_out front text more r z read = sym read ∙ ap (λ (k : ℕ). behind_all front (arguments_in k text)) z

-- ---- parameters

abbrev behind_name : ℕ → List ℕ × List ℕ → Found
behind_name k p =
    if starts_byte 41 (gap p.1) then Some (p.0 ∷ [], rest_of (gap p.1))
    else (given (starts_byte 44 (gap p.1)) (rest_of (gap p.1)) >>= λ behind. parameters_in k behind >>= λ ps. Some (p.0 ∷ ps.0, ps.1))

module _ (front : List (List ℕ)) (text : List ℕ) (more : ℕ) (r : Found) (some : 0 < more) (read : behind_all front (parameters_in more text) ≡ r) where
  opened_name : behind_all front (name text >>= λ p. behind_name (more - 1) p) ≡ r
  opened_name = let m : more ≡ suc (more - 1) = omega arith in sym (ap (λ (k : ℕ). behind_all front (parameters_in k text)) m) ∙ read

  pub parameter_none : name text ≡ None → r ≡ None
  parameter_none e = sym opened_name ∙ ap (λ (o : Option (List ℕ × List ℕ)). behind_all front (o >>= λ p. behind_name (more - 1) p)) e

  module _ (n end : List ℕ) (e : name text ≡ Some (n, end)) where
    taken_name : behind_all front (behind_name (more - 1) (n, end)) ≡ r
    taken_name = sym (ap (λ (o : Option (List ℕ × List ℕ)). behind_all front (o >>= λ p. behind_name (more - 1) p)) e) ∙ opened_name

    abbrev chosen : Bool → Option (List ℕ) → Found
    chosen t o = if t then Some (n ∷ [], rest_of (gap end)) else (o >>= λ behind. parameters_in (more - 1) behind >>= λ ps. Some (n ∷ ps.0, ps.1))

    -- a byte that was passed was there
    stood : (t : Bool) (rest behind : List ℕ) → given t rest ≡ Some behind → (t ≡ true) × (rest ≡ behind)
    stood true rest behind g = (refl, unwrapped g)
    stood false rest behind g = absurd cc

    pub parameter_last : (all : List (List ℕ)) (behind : List ℕ) → given (starts_byte 41 (gap end)) (rest_of (gap end)) ≡ Some behind → all ≡ front ++ n ∷ [] → r ≡ Some (all, behind)
    parameter_last all behind c l =
        let s = stood (starts_byte 41 (gap end)) (rest_of (gap end)) behind c in
        sym taken_name ∙ ap (λ (t : Bool). behind_all front (chosen t (given (starts_byte 44 (gap end)) (rest_of (gap end))))) s.0
        ∙ ap (λ (z : List (List ℕ)). Some (z, rest_of (gap end))) (sym l) ∙ ap (λ (z : List ℕ). Some (all, z)) s.1

    pub parameter_broken : starts_byte 41 (gap end) ≡ false → starts_byte 44 (gap end) ≡ false → r ≡ None
    parameter_broken c d =
        sym taken_name ∙ ap (λ (t : Bool). behind_all front (chosen t (given (starts_byte 44 (gap end)) (rest_of (gap end))))) c
        ∙ ap (λ (t : Bool). behind_all front (chosen false (given t (rest_of (gap end))))) d

    pub parameter_next : (all : List (List ℕ)) (behind : List ℕ) → starts_byte 41 (gap end) ≡ false → given (starts_byte 44 (gap end)) (rest_of (gap end)) ≡ Some behind → all ≡ front ++ n ∷ []
        → behind_all all (parameters_in (more - 1) behind) ≡ r
    parameter_next all behind c d l =
        ap (λ (z : List (List ℕ)). behind_all z (parameters_in (more - 1) behind)) l ∙ longer_front front n (parameters_in (more - 1) behind)
        ∙ sym (ap (λ (o : Option (List ℕ)). behind_all front (chosen false o)) d) ∙ sym (ap (λ (t : Bool). behind_all front (chosen t (given (starts_byte 44 (gap end)) (rest_of (gap end))))) c) ∙ taken_name

pub parameters_out : (front : List (List ℕ)) (text : List ℕ) (more : ℕ) (r : Found) → more ≡ 0 → behind_all front (parameters_in more text) ≡ r → r ≡ None
parameters_out front text more r z read = sym read ∙ ap (λ (k : ℕ). behind_all front (parameters_in k text)) z
