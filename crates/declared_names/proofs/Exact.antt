-- What is answered if nothing is refused.
use Rattle.std.proofs.Common.{◌≡◌, Bool, true, false, ◌&&◌, if◌then◌else◌, Option, List, [], ◌∷◌, ◌++◌, map, refl, sym, ap, ap₂, subst, ◌∙◌}
use Rattle.declared_names.proofs.Common.{list_any, append-nil, or_parts, Flip, Table, Names, named_of, sections_assign, Entry, entries_of, first_refusal, IsNamed, are_named, module_uses, Declaration, SomePins, SomeNodes, SomeAttributes, ModuleTree, GivenName, all_said, declared_names, holds_of, names_of, with_assigned, NameFault, Buffered, all_declarations, name_order, always_inverts, all_buffered, buffered, buffers_refused, first_name_refusal, name_refusals, module_buffers_refused, names_once, read_refusals, names_behind, buffered_names, kept, none_left, AreDeclaredFor, NumbersAreApart, BuffersAreAllowed, refused_for, Accepted, module_accepted, AreSound, sound_alike, sound_at, says_buffer, registers_wait}
use Rattle.declared_names.proofs.Buffers.{refused_same}
use Rattle.decls.proofs.NamesAlike.{alike_settled, extends_alike, named_more}
use Rattle.declared_names.proofs.Behind.{module_buffers}
use Rattle.declared_names.proofs.Apart.{numbers_apart}

-- the first refusal of all, by what was read, settled and refused of registers
pub first_same : (t : Table) (m : ModuleTree) (flip : Flip) (read settled : List Entry) (bs : List Buffered) (f r : Option NameFault) → flip ≡ t.flip → read ≡ map (kept t) (names_once m) → settled ≡ with_assigned flip m.sections read → bs ≡ buffered_names m → f ≡ first_refusal name_order (read_refusals t m)
    → ((fs : List NameFault) → f ≡ first_refusal name_order fs → r ≡ first_refusal name_order (fs ++ refused_for t settled bs)) → r ≡ first_name_refusal t m
first_same t m flip read settled bs f r l n s b e k =
    let names : settled ≡ with_assigned t.flip m.sections (map (kept t) (names_once m)) = s ∙ ap₂ (λ x es. with_assigned x m.sections es) l n in
    k (read_refusals t m) e
    ∙ ap (λ fs. first_refusal name_order (read_refusals t m ++ fs)) (ap₂ (refused_for t) names b ∙ refused_same t m)

-- ---- a refusal of what is read is the answer if no register waits

quiet_if : {A : Type 0} (b : Bool) (xs : List A) → b ≡ false → (if b then xs else []) ≡ []
quiet_if true xs e = absurd cc
quiet_if false xs e = refl

quiet_declaration : (es : List Entry) (d : Declaration) → says_buffer d ≡ false → buffered es d ≡ []
quiet_declaration es (SomePins names numbers attributes) h = quiet_if (all_said attributes).buffer _ h
quiet_declaration es (SomeNodes names numbers attributes) h = quiet_if (all_said attributes).buffer _ h
quiet_declaration es (SomeAttributes names attributes) h = quiet_if (all_said attributes).buffer _ h
quiet_declaration es _ h = refl

-- if no string says `buffer`, there is no name that such a string is for
quiet_declarations : (before ds : List Declaration) → list_any says_buffer ds ≡ false → all_buffered before ds ≡ []
quiet_declarations before [] h = refl
quiet_declarations before (d ∷ ds) h =
    let both = or_parts (says_buffer d) (list_any says_buffer ds) h in
    ap₂ (λ xs ys. xs ++ ys) (quiet_declaration (names_behind before) d both.0) (quiet_declarations (before ++ d ∷ []) ds both.1)

none_wait : (t : Table) (m : ModuleTree) → registers_wait t m ≡ false → module_buffers_refused t m ≡ []
none_wait t m h = by (always_inverts t) h
  where
    refused : List GivenName → List NameFault
    refused xs = buffers_refused (sections_assign (named_of (names_once m)) m.sections) (names_once m) xs

    by : (b : Bool) → (b && list_any says_buffer (all_declarations m)) ≡ false → (if b then refused (all_buffered [] (all_declarations m)) else []) ≡ []
    by true g = ap refused (quiet_declarations [] (all_declarations m) g)
    by false g = refl

pub final_fault : (t : Table) (m : ModuleTree) (f : Option NameFault) (wait : Bool) → f ≡ first_refusal name_order (read_refusals t m) → wait ≡ registers_wait t m → wait ≡ false → first_name_refusal t m ≡ f
final_fault t m f wait e same h =
    ap (λ fs. first_refusal name_order (read_refusals t m ++ fs)) (none_wait t m (sym same ∙ h))
    ∙ (ap (first_refusal name_order) (append-nil (read_refusals t m)) ∙ sym e)

module _ (t : Table) (m : ModuleTree) (h : name_refusals t m ≡ []) where
  nothing_read : read_refusals t m ≡ []
  nothing_read = none_left (read_refusals t m) (module_buffers_refused t m) h

  all : Accepted t (all_declarations m) (module_uses m)
  all = module_accepted t m nothing_read

  -- the table's names are those that are declared
  names_same : map (kept t) (names_once m) ≡ declared_names m
  names_same = ap (map (kept t)) all.sure.once ∙ all.sure.same

  pub settled_same : (flip : Flip) (read settled : List Entry) → flip ≡ t.flip → read ≡ map (kept t) (names_once m) → settled ≡ with_assigned flip m.sections read → settled ≡ names_of t m
  settled_same flip read settled l n s = s ∙ ap₂ (λ x es. with_assigned x m.sections es) l (n ∙ names_same)

  pub entries_sound : AreSound t.pins [] (names_of t m)
  entries_sound =
      sound_alike t.pins [] [] (declared_names m) (names_of t m) tt
      (alike_settled t.flip (holds_of (declared_names m) m.sections) (sections_assign (named_of (declared_names m)) m.sections) 0 (declared_names m))
      all.sure.sound

  entries_known : are_named (names_of t m) (module_uses m) ≡ true
  entries_known =
      named_more (declared_names m) (names_of t m) (module_uses m)
      (extends_alike (declared_names m) (names_of t m) (alike_settled t.flip (holds_of (declared_names m) m.sections) (sections_assign (named_of (declared_names m)) m.sections) 0 (declared_names m)))
      all.known

  module _ (n : Names) (same : entries_of n ≡ names_of t m) where
    pub names_sound : n.device ≡ t.name → AreDeclaredFor t.name t.pins n
    names_sound d = record {
      device = d;
      kinds = λ k e is numbered. (sound_at t.pins [] (entries_of n) (subst (AreSound t.pins []) (sym same) entries_sound) k e is).kind numbered;
    }

    pub names_apart : NumbersAreApart (entries_of n)
    names_apart = subst NumbersAreApart (sym same) (numbers_apart t.pins (names_of t m) entries_sound)

    pub names_allowed : BuffersAreAllowed t (entries_of n)
    names_allowed = subst (BuffersAreAllowed t) (sym same) (module_buffers t m h)

    pub names_known : IsNamed n m
    names_known = subst (λ es. are_named es (module_uses m) ≡ true) (sym same) entries_known
