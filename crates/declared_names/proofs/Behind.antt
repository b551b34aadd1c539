-- If nothing is refused, a register follows Q, or may, only if the device complements after it.
use Rattle.std.proofs.Common.{◌≡◌, ◌≢◌, ℕ, ◌==◌, Bool, true, false, not, ◌&&◌, ◌||◌, if◌then◌else◌, Option, Some, None, List, [], ◌∷◌, ◌++◌, get_or, option_map, refl, sym, ap, ap₂, subst, ◌∙◌, arith, zero-add, slice_get, unwrap_or}
use Rattle.declared_names.proofs.Common.{All, list_all, and_parts, true≢false, nat_tests, get_or_from_slice_get, slice_get_within, unwrap_or-slice_get, Flip, Table, Assigned, named_of, sections_assign, is_assigned, is_clocked_target, Entry, find, is_signal, is_stored, follows_q, SectionTree, ModuleTree, GivenName, declared_names, no_name, Holds, holds_of, is_held, is_buffer_by_default, is_registered, words_with_kind, with_kind, with_kinds, names_of, none_left, none_right, Targets, is_marked, all_marks, all_declarations, always_inverts, all_buffered, is_register_at, buffers_refused, module_buffers_refused, names_once, read_refusals, name_refusals, BuffersAreAllowed, module_accepted, AreSound}
use Rattle.std.proofs.lemmas.Bool.{or_right}
use Rattle.std.proofs.lemmas.List.Elements.{All-get_or}
use Rattle.pld_base.specs.Models.{has_modes}
use Rattle.pld_device.specs.declared.flip.Flip.TheVariants.{Always, AfterRegister, BeforeRegister}
use Rattle.pld_device.specs.Macrocells.{pin_complements}
use Rattle.declared_names.proofs.AssignedMarks.{is_found}
use Rattle.declared_names.proofs.Passing.{at}
use Rattle.decls.specs.declared.fault.NameFault.TheVariants as fault
use Rattle.decls.proofs.Among.{of_among}
use Rattle.declared_names.proofs.Buffers.{kinds_at}
use Rattle.decls.proofs.Placed.{found_at}
use Rattle.decls.proofs.SaidBuffers.{IsTold}

-- none of these names is a register's
none_registered : (found : List Assigned) (es : List Entry) (xs : List GivenName) → buffers_refused found es xs ≡ [] → list_all (λ (x : GivenName). not (is_register_at found es (find es x.name))) xs ≡ true
none_registered found es [] h = refl
none_registered found es (x ∷ xs) h = by (is_register_at found es (find es x.name)) h (none_registered found es xs)
  where
    rest : Bool
    rest = list_all (λ (y : GivenName). not (is_register_at found es (find es y.name))) xs

    by : (b : Bool) → (if b then fault.BadAttribute x.place ∷ [] else []) ++ buffers_refused found es xs ≡ [] → (buffers_refused found es xs ≡ [] → rest ≡ true) → (not b && rest) ≡ true
    by true g more = absurd cc
    by false g more = more g

-- a settled name, or what is past the end
pub name_at_or : (flip : Flip) (held : Holds) (found : List Assigned) (es : List Entry) (s : ℕ) (o : Option Entry) → slice_get es s ≡ o
    → get_or (with_kinds flip held found 0 es) s no_name ≡ unwrap_or (option_map (with_kind flip held found s) o) no_name
name_at_or flip held found es s o is =
    sym (unwrap_or-slice_get (with_kinds flip held found 0 es) s no_name)
    ∙ ap (λ (x : Option Entry). unwrap_or x no_name) (kinds_at flip held found 0 es s ∙ ap₂ (λ n (x : Option Entry). option_map (with_kind flip held found n) x) (zero-add s) is)

inverts : (t : Table) → t.clock ≢ 0 → pin_complements t.flip true false ≡ true → always_inverts t ≡ true
inverts t clock complements = ap₂ (λ a b. (a && b)) (or_right (has_modes t.name) (not (t.clock == 0)) (ap not (other t.clock clock))) complements
  where
    other : (n : ℕ) → n ≢ 0 → (n == 0) ≡ false
    other n apart = grind (arith, nat_tests)

-- what is buffer, or may be, but not by default, was said to be
was_said : (said other default registered held : Bool) → default ≡ false
    → not (not (said || (other && default)) && not (registered && ((not said && (other && default)) && not held))) ≡ true → said ≡ true
was_said true other default registered held none is = refl
was_said false other true registered held none is = absurd cc
was_said false true false true held none is = absurd cc
was_said false true false false held none is = absurd cc
was_said false false false true held none is = absurd cc
was_said false false false false held none is = absurd cc

-- what is assigned is a signal
abbrev AssignsSignals : List Assigned → List Entry → Type 0
AssignsSignals found es = (s : ℕ) (e : Entry) → slice_get es s ≡ Some e → is_assigned found s ≡ true → is_signal e.kind ≡ true

assigns_signals : (es : List Entry) (sections : List SectionTree) → AssignsSignals (sections_assign (named_of es) sections) es
assigns_signals es sections s e is target = (and_parts (is_signal e.kind) (is_marked (at (all_marks Targets es sections) s)) (is_found es sections s e is ∙ target)).0

module _ (t : Table) (held : Holds) (found : List Assigned) (es : List Entry) (xs : List GivenName) (sound : AreSound t.pins [] es) (told : All (IsTold xs) es) (targets : AssignsSignals found es) (none : always_inverts t ≡ true → buffers_refused found es xs ≡ []) where
  told_at : (s : ℕ) (e : Entry) → slice_get es s ≡ Some e → IsTold xs e
  told_at s e is = subst (IsTold xs) (get_or_from_slice_get es s e e is) (All-get_or (IsTold xs) es s e (slice_get_within es s e is) told)

  -- a name of which `buffer` is said is no register
  no_register : always_inverts t ≡ true → (s : ℕ) (e : Entry) → slice_get es s ≡ Some e → is_signal e.kind ≡ true → e.words.buffer ≡ true → is_registered e.words (is_clocked_target found s) ≡ true → ⊥
  no_register inverted s e is signal said registered =
      let quiet = of_among (λ name. not (is_register_at found es (find es name))) xs e.name (none_registered found es xs (none inverted)) (told_at s e is signal said) in
      let here : (is_signal e.kind && is_registered e.words (is_clocked_target found s)) ≡ true = ap₂ (λ a b. a && b) signal registered in
      let at : is_register_at found es (find es e.name) ≡ true = ap (is_register_at found es) (found_at t.pins es sound s e is) ∙ rw is here in
      true≢false (sym quiet ∙ ap not at)

  not_behind : (flip : Flip) → always_inverts t ≡ true → is_buffer_by_default flip ≡ false → (s : ℕ) (e : Entry) → slice_get es s ≡ Some e → is_signal e.kind ≡ true → is_stored (with_kind flip held found s e) ≡ true → follows_q (with_kind flip held found s e) ≡ true → ⊥
  not_behind flip inverted default s e is signal = by (is_signal e.kind) signal
    where
      registered : Bool
      registered = is_registered e.words (is_clocked_target found s)

      by : (b : Bool) → b ≡ true
          → ((if b then words_with_kind flip held s e.words registered else e.words).registered && is_assigned found s) ≡ true
          → not (if b then words_with_kind flip held s e.words registered else e.words).invert ≡ true → ⊥
      by true here stored follows =
          no_register inverted s e is signal (was_said e.words.buffer (not e.words.invert) (is_buffer_by_default flip) registered (is_held held s) default follows)
          (and_parts registered (is_assigned found s) stored).0
      by false other stored follows = absurd cc

  behind : (flip : Flip) → t.flip ≡ flip → t.clock ≢ 0 → (s : ℕ) (e : Entry) → slice_get es s ≡ Some e → is_signal e.kind ≡ true → is_stored (with_kind flip held found s e) ≡ true → follows_q (with_kind flip held found s e) ≡ true → flip ≡ AfterRegister
  behind Always same clock s e is signal stored follows = absurd (not_behind Always (inverts t clock (ap (λ f. pin_complements f true false) same)) refl s e is signal stored follows)
  behind AfterRegister same clock s e is signal stored follows = refl
  behind BeforeRegister same clock s e is signal stored follows = absurd (not_behind BeforeRegister (inverts t clock (ap (λ f. pin_complements f true false) same)) refl s e is signal stored follows)

  pub allowed : BuffersAreAllowed t (with_kinds t.flip held found 0 es)
  allowed s stored follows clock = by (slice_get es s) refl
    where
      by : (o : Option Entry) → slice_get es s ≡ o → t.flip ≡ AfterRegister
      by None is = absurd (true≢false (sym stored ∙ ap is_stored (name_at_or t.flip held found es s None is)))
      by (Some e) is =
          let here = name_at_or t.flip held found es s (Some e) is in
          let register : is_stored (with_kind t.flip held found s e) ≡ true = sym (ap is_stored here) ∙ stored in
          let assigned = (and_parts (with_kind t.flip held found s e).words.registered (is_assigned found s) register).1 in
          behind t.flip refl clock s e is (targets s e is assigned) register (sym (ap follows_q here) ∙ follows)

-- ---- the module

pub module_buffers : (t : Table) (m : ModuleTree) → name_refusals t m ≡ [] → BuffersAreAllowed t (names_of t m)
module_buffers t m h =
    let xs = all_buffered [] (all_declarations m) in
    let all = module_accepted t m (none_left (read_refusals t m) (module_buffers_refused t m) h) in
    let refused = λ (es : List Entry). buffers_refused (sections_assign (named_of es) m.sections) es xs in
    allowed t (holds_of (declared_names m) m.sections) (sections_assign (named_of (declared_names m)) m.sections) (declared_names m) xs
    all.sure.sound
    all.told
    (assigns_signals (declared_names m) m.sections)
    (λ inverted. subst (λ es. refused es ≡ []) all.sure.once (sym (ap (λ b. if b then refused (names_once m) else []) inverted) ∙ none_right (read_refusals t m) (module_buffers_refused t m) h))
