-- The registers of the names as the table keeps them are those of the names as they are declared.
use Rattle.std.proofs.Common.{◌≡◌, ℕ, zero, suc, ◌+◌, Bool, false, ◌&&◌, if◌then◌else◌, Option, Some, None, List, [], ◌∷◌, ◌++◌, ◌<◌, map, take, length, get_or, refl, sym, ap, ap₂, ◌∙◌, append_assoc, add-zero, suc-add, add-suc, zero-add, slice_get, option_map}
use Rattle.declared_names.proofs.Common.{append-nil, flat_map-append, get_or_default, take_more, Flip, Table, Assigned, Named, meant, named_after, named_of, sections_assign, is_clocked_target, Kind, APin, Words, Entry, find, is_signal, ModuleTree, GivenName, Holds, holds_of, is_registered, is_buffer, settled_words, stays_free, with_kind, slice_get-map, with_kinds, with_assigned, NameFault, Buffered, all_declarations, always_inverts, all_buffered, is_register_at, buffers_refused, names_once, module_buffers_refused, buffered_names, number_if, numbered, kept, kept_kind, is_register, register_refused, registers_refused, refused_for}
use Rattle.pld_base.specs.declared.place.Place.{Place}
use Rattle.decls.specs.declared.fault.NameFault.TheVariants as fault

-- ---- what targets name does not depend on the numbers of pins and nodes

meant_kept : (t : Table) (ks : List Named) (s : ℕ) (k : Kind) → meant ks s (kept_kind t k) ≡ meant ks s k
meant_kept t ks s (APin pin negated) = refl
meant_kept t ks s _ = refl

after_kept : (t : Table) (ks : List Named) (s : ℕ) (es : List Entry) → named_after ks s (map (kept t) es) ≡ named_after ks s es
after_kept t ks s [] = refl
after_kept t ks s (e ∷ es) =
    ap (λ ns. named_after (ks ++ record { name = e.name; signals = ns } ∷ []) (suc s) (map (kept t) es)) (meant_kept t ks s e.kind)
    ∙ after_kept t (ks ++ record { name = e.name; signals = meant ks s e.kind } ∷ []) (suc s) es

-- ---- one name

abbrev pub registered_by : List Assigned → ℕ → Option Entry → Bool
registered_by found s None = false
registered_by found s (Some e) = is_signal e.kind && is_registered e.words (is_clocked_target found s)

registered_kept : (t : Table) (k : Kind) (w : Words) (r b f : Bool) → (is_signal (kept_kind t k) && (if is_signal (kept_kind t k) then settled_words w r b f else w).registered) ≡ (is_signal k && r)
registered_kept t (APin pin negated) w r b f = refl
registered_kept t _ w r b f = refl

pub kinds_at : (flip : Flip) (held : Holds) (found : List Assigned) (k : ℕ) (es : List Entry) (s : ℕ) → slice_get (with_kinds flip held found k es) s ≡ option_map (with_kind flip held found (k + s)) (slice_get es s)
kinds_at flip held found k [] _ = refl
kinds_at flip held found k (e ∷ es) zero = ap (λ n. Some (with_kind flip held found n e)) (sym (add-zero k))
kinds_at flip held found k (e ∷ es) (suc s) = kinds_at flip held found (suc k) es s ∙ ap (λ n. option_map (with_kind flip held found n) (slice_get es s)) (suc-add k s ∙ sym (add-suc k s))

settled_at : (t : Table) (flip : Flip) (held : Holds) (found : List Assigned) (es : List Entry) (n : ℕ) → is_register (slice_get (with_kinds flip held found 0 (map (kept t) es)) n) ≡ is_register_at found es (Some n)
settled_at t flip held found es n =
    ap is_register (kinds_at flip held found 0 (map (kept t) es) n ∙ ap₂ (λ k (o : Option Entry). option_map (with_kind flip held found k) o) (zero-add n) (slice_get-map (kept t) es n))
    ∙ by (slice_get es n) refl
  where
    by : (o : Option Entry) → slice_get es n ≡ o → is_register (option_map (with_kind flip held found n) (option_map (kept t) o)) ≡ is_register_at found es (Some n)
    by None e = rw e refl
    by (Some x) e = let r = is_registered x.words (is_clocked_target found n) in rw e (registered_kept t x.kind x.words r (is_buffer flip x.words) (stays_free flip held n x.words r))

pub declared_at : (found : List Assigned) (es : List Entry) (n : ℕ) → registered_by found n (slice_get es n) ≡ is_register_at found es (Some n)
declared_at found es n = by (slice_get es n) refl
  where
    by : (o : Option Entry) → slice_get es n ≡ o → registered_by found n o ≡ is_register_at found es (Some n)
    by None e = rw e refl
    by (Some x) e = rw e refl

-- ---- all names

-- what a read after a list's end gives
abbrev pub no_name : Buffered
no_name = record { place = record { line = 0; column = 0 }; number = 0 }

-- one name more, after other refusals
pub one_more : (es : List Entry) (fs : List NameFault) (bs : List Buffered) (k : ℕ) (d : Buffered) → k < length bs → fs ++ registers_refused es (take (k + 1) bs) ≡ (fs ++ registers_refused es (take k bs)) ++ register_refused es (get_or bs k d)
one_more es fs bs k d h =
    let b = get_or bs k d in
    let front = registers_refused es (take k bs) in
    ap (λ l. fs ++ registers_refused es l) (take_more bs k b h ∙ ap (λ x. take k bs ++ x ∷ []) (sym (get_or_default bs k d b h)))
    ∙ (ap (λ l. fs ++ l) (flat_map-append (register_refused es) (take k bs) (b ∷ []) ∙ ap (λ l. front ++ l) (append-nil (register_refused es b)))
    ∙ sym (append_assoc fs front (register_refused es b)))

module _ (t : Table) (flip : Flip) (held : Holds) (found : List Assigned) (es : List Entry) where
  abbrev settled : List Entry
  settled = with_kinds flip held found 0 (map (kept t) es)

  one_same : (p : Place) (o : Option ℕ) → registers_refused settled (number_if p o) ≡ (if is_register_at found es o then fault.BadAttribute p ∷ [] else [])
  one_same p None = refl
  one_same p (Some n) =
      append-nil (if is_register (slice_get settled n) then fault.BadAttribute p ∷ [] else [])
      ∙ ap (λ b. if b then fault.BadAttribute p ∷ [] else []) (settled_at t flip held found es n)

  buffers_same : (xs : List GivenName) → registers_refused settled (numbered es xs) ≡ buffers_refused found es xs
  buffers_same [] = refl
  buffers_same (x ∷ xs) =
      flat_map-append (register_refused settled) (number_if x.place (find es x.name)) (numbered es xs)
      ∙ ap₂ (λ a b. a ++ b) (one_same x.place (find es x.name)) (buffers_same xs)

-- what is refused of the names of a table is what is refused of the module
pub refused_same : (t : Table) (m : ModuleTree) → refused_for t (with_assigned t.flip m.sections (map (kept t) (names_once m))) (buffered_names m) ≡ module_buffers_refused t m
refused_same t m =
    let es = names_once m in
    let xs = all_buffered [] (all_declarations m) in
    let held = holds_of (map (kept t) es) m.sections in
    ap (λ l. if always_inverts t then l else [])
    (ap (λ ks. registers_refused (with_kinds t.flip held (sections_assign ks m.sections) 0 (map (kept t) es)) (numbered es xs)) (after_kept t [] 0 es)
    ∙ buffers_same t t.flip held (sections_assign (named_of es) m.sections) es xs)
