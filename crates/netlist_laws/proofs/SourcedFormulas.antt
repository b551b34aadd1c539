-- What the formula of a contribution names is read by what the contribution uses.
use Rattle.std.proofs.Common.{◌≡◌, ℕ, true, false, ◌||◌, List, [], ◌∷◌, ◌++◌, map, length, refl, sym, ap, ◌∙◌, replicate}
use Rattle.netlist_laws.proofs.Common.{or_left, or_right, length-reverse, list_any-append, Levels, Leaf, make_not, make_and, make_or, Formula, Const, formula_value, Evaluator, Contribution, Context, Design, Follows, seen, make_source, met_word, bits_of, bits_of_all, formulas, digits_low_first, met, member_width, meeting, given_formulas, Source, Zero, LeafRead, source_of, word_follows, SignalUse, term_uses, all_term_uses, reads_of_terms, given_uses, holds_leaf, use_reads, uses_read}
use Rattle.abel_meaning.specs.Sections.{contributions}
use Rattle.abel_meaning.specs.Terms.{Term, Terms}
use Rattle.abel_meaning.specs.Terms as term
use Rattle.abel_meaning.specs.Values.{is_relation, constant_of, term_value}
use Rattle.abel_meaning.proofs.DigitLaws.{length_digits}
use Rattle.abel_meaning.proofs.Walk.{contributions_seen}
use Rattle.abel_meaning.proofs.TermValues.{length_map}
use Rattle.netlist_laws.proofs.NamedLeaves.{NamesOnly, EachNames, of_constant, of_not, of_and, of_or, each_joined, each_reversed}
use Rattle.netlist_laws.proofs.NamedWords.{of_unary, of_binary, of_met}

module _ (d : Context) where
  -- the leaf is read by one of the uses
  abbrev pub ReadBy : List SignalUse → Leaf → Type 0
  ReadBy us l = uses_read d us l ≡ true

  pub by_left : (us vs : List SignalUse) (l : Leaf) → ReadBy us l → ReadBy (us ++ vs) l
  by_left us vs l e = list_any-append (use_reads d l) us vs ∙ or_left (uses_read d us l) (uses_read d vs l) e

  pub by_right : (us vs : List SignalUse) (l : Leaf) → ReadBy vs l → ReadBy (us ++ vs) l
  by_right us vs l e = list_any-append (use_reads d l) us vs ∙ or_right (uses_read d us l) (uses_read d vs l) e

  wider : (P R : Leaf → Type 0) → ((l : Leaf) → P l → R l) → (fs : List Formula) → EachNames P fs → EachNames R fs
  wider P R more [] here = tt
  wider P R more (f ∷ fs) here = ((λ l e. more l (here.0 l e)), wider P R more fs here.1)

  of_source : (s : Source) → NamesOnly (λ l. (holds_leaf s l || false) ≡ true) (make_source s).what
  unfolding make_not
  of_source Zero l e = absurd cc
  of_source (LeafRead false leaf) l e = or_left _ false e
  of_source (LeafRead true leaf) l e = or_left _ false e

  mutual
    -- the bits of a term name what its reads read
    pub bits_named : (t : Term) → EachNames (ReadBy (term_uses t)) (bits_of d t).what
    bits_named (term.Number n) = tt
    bits_named term.X = (of_constant (ReadBy []) false, tt)
    bits_named term.Pulse = tt
    bits_named term.Release = tt
    bits_named (term.Read s e) = (of_source (source_of d s e), tt)
    bits_named (term.Set ts) = all_named ts
    bits_named (term.UnaryOf sign t) = of_unary (ReadBy (term_uses t)) sign (bits_of d t).what (bits_named t)
    bits_named (term.BinaryOf sign t u) =
        of_binary (ReadBy (term_uses t ++ term_uses u)) (is_relation sign) sign (meeting (constant_of d t).shape (constant_of d u).shape) (constant_of d t) (constant_of d u) (bits_of d t).what (bits_of d u).what
        (wider (ReadBy (term_uses t)) (ReadBy (term_uses t ++ term_uses u)) (by_left (term_uses t) (term_uses u)) (bits_of d t).what (bits_named t))
        (wider (ReadBy (term_uses u)) (ReadBy (term_uses t ++ term_uses u)) (by_right (term_uses t) (term_uses u)) (bits_of d u).what (bits_named u))

    all_named : (ts : Terms) → EachNames (ReadBy (all_term_uses ts)) (bits_of_all d ts).what
    all_named term.NoTerm = tt
    all_named (term.Before t ts) =
        let us = term_uses t ++ all_term_uses ts in
        each_joined (ReadBy us) (bits_of_all d ts).what (met_word (member_width (constant_of d t).shape) (constant_of d t) (bits_of d t).what)
        (wider (ReadBy (all_term_uses ts)) (ReadBy us) (by_right (term_uses t) (all_term_uses ts)) (bits_of_all d ts).what (all_named ts))
        (of_met (ReadBy us) (member_width (constant_of d t).shape) (constant_of d t) (bits_of d t).what
        (wider (ReadBy (term_uses t)) (ReadBy us) (by_left (term_uses t) (all_term_uses ts)) (bits_of d t).what (bits_named t)))

  -- ---- formulas with what they use

  -- a formula, and uses that read all that it names
  pub record Sourced : Type 0 where
    pub formula : Formula
    pub uses : List SignalUse
    pub named : NamesOnly (ReadBy uses) formula

  abbrev each_sourced : (us : List SignalUse) (fs : List Formula) → EachNames (ReadBy us) fs → List Sourced
  each_sourced us [] here = []
  each_sourced us (f ∷ fs) here = record { formula = f; uses = us; named = here.0 } ∷ each_sourced us fs here.1

  its_formulas : (us : List SignalUse) (fs : List Formula) (here : EachNames (ReadBy us) fs) → map (λ (x : Sourced). x.formula) (each_sourced us fs here) ≡ fs
  its_formulas us [] here = refl
  its_formulas us (f ∷ fs) here = ap (λ gs. f ∷ gs) (its_formulas us fs here.1)

  its_uses : (us : List SignalUse) (fs : List Formula) (here : EachNames (ReadBy us) fs) → map (λ (x : Sourced). x.uses) (each_sourced us fs here) ≡ replicate (length fs) us
  its_uses us [] here = refl
  its_uses us (f ∷ fs) here = ap (λ vs. us ∷ vs) (its_uses us fs here.1)

  pub word_named : (w : ℕ) (t : Term) → EachNames (ReadBy (term_uses t)) ((formulas d).word w t)
  word_named w t =
      let us = term_uses t in
      each_reversed (ReadBy us) (met_word w (constant_of d t) (bits_of d t).what) (of_met (ReadBy us) w (constant_of d t) (bits_of d t).what (bits_named t))

  abbrev word_sourced : ℕ → Term → List Sourced
  word_sourced w t = each_sourced (term_uses t) ((formulas d).word w t) (word_named w t)

  -- a target of w signals takes w bits
  pub word_length : (w : ℕ) (t : Term) → length ((formulas d).word w t) ≡ w
  word_length w t =
      let at : Levels = record { pins = []; q = []; nodes = [] } in
      let n = met w (term_value d at t) in
      sym (length_map (formula_value at) ((formulas d).word w t)) ∙ ap (λ bs. length bs) (word_follows d at w t)
      ∙ length-reverse (digits_low_first w n) ∙ length_digits w n

  abbrev sourced : Evaluator Sourced
  sourced =
      record {
        constant = λ b. record { formula = Const b; uses = []; named = of_constant (ReadBy []) b };
        not = λ x. record { formula = (make_not x.formula).what; uses = x.uses; named = of_not (ReadBy x.uses) x.formula x.named };
        both = λ x y. record {
          formula = (make_and x.formula y.formula).what;
          uses = x.uses ++ y.uses;
          named = of_and (ReadBy (x.uses ++ y.uses)) x.formula y.formula (λ l e. by_left x.uses y.uses l (x.named l e)) (λ l e. by_right x.uses y.uses l (y.named l e));
        };
        either = λ x y. record {
          formula = (make_or x.formula y.formula).what;
          uses = x.uses ++ y.uses;
          named = of_or (ReadBy (x.uses ++ y.uses)) x.formula y.formula (λ l e. by_left x.uses y.uses l (x.named l e)) (λ l e. by_right x.uses y.uses l (y.named l e));
        };
        word = word_sourced;
      }

  formulas_followed : Follows (λ (x : Sourced). x.formula) sourced (formulas d)
  formulas_followed =
      record {
        constant = λ b. refl;
        negates = λ x. refl;
        both = λ x y. refl;
        either = λ x y. refl;
        word = λ w t. its_formulas (term_uses t) ((formulas d).word w t) (word_named w t);
      }

  uses_followed : Follows (λ (x : Sourced). x.uses) sourced reads_of_terms
  uses_followed =
      record {
        constant = λ b. refl;
        negates = λ x. refl;
        both = λ x y. refl;
        either = λ x y. refl;
        word = λ w t. its_uses (term_uses t) ((formulas d).word w t) (word_named w t) ∙ ap (λ n. replicate n (term_uses t)) (word_length w t);
      }

module _ (d : Design) where
  -- the contributions as formulas with what they use
  abbrev pub sourced_contributions : List (Contribution (Sourced d.context))
  sourced_contributions = contributions (sourced d.context) d

  pub formulas_are : map (seen (λ (x : Sourced d.context). x.formula)) sourced_contributions ≡ given_formulas d
  formulas_are = contributions_seen (λ (x : Sourced d.context). x.formula) (sourced d.context) (formulas d.context) (formulas_followed d.context) d

  pub uses_are : map (seen (λ (x : Sourced d.context). x.uses)) sourced_contributions ≡ given_uses d
  uses_are = contributions_seen (λ (x : Sourced d.context). x.uses) (sourced d.context) reads_of_terms (uses_followed d.context) d
