-- One more name in the table.
use Rattle.std.proofs.Common.{◌≡◌, ℕ, true, false, List, [], ◌∷◌, ◌++◌, Option, Some, map, refl, sym, ap, ap₂, ◌∙◌, is_some}
use Rattle.decls.proofs.Common.{Vec, map-append, Place, Table, Kind, Words, Entry, kind_of, view_meaning, earlier, first_refusal, first_push, entry, NameFault, Known, NameTable, name_order, Progress, refuse, entered, Shows, kept_kind, kept, view_known, view_said, view_given}
use Rattle.decls.specs.declared.fault.NameFault.TheVariants.{Redeclared}

-- the running first refusal
pub refused_first : (fs : List NameFault) (f : NameFault) (before next : Option NameFault) → before ≡ first_refusal name_order fs → next ≡ earlier name_order before (Some f) → next ≡ first_refusal name_order (fs ++ f ∷ [])
refused_first fs f before next e g = g ∙ (ap (λ o. earlier name_order o (Some f)) e ∙ sym (first_push name_order fs f))

pub again : (t : Table) (d : NameTable) (s : Progress) (p : Place) (name : List ℕ) (k : Kind) (w : Words) (text : List ℕ) → is_some (kind_of s.entries name) ≡ true → text ≡ name → Shows t d (refuse (Redeclared p text) s) → Shows t d (entered name p k w s)
again t d s p name k w text e f sh = rw (e, sym f) sh

-- a row after the others
one_more : (t : Table) (es : List Entry) (rows : List (Vec ℕ × Known)) (name : List ℕ) (key : Vec ℕ) (k : Kind) (x : Known) → key.items ≡ name → view_meaning x.meaning ≡ kept_kind t k → map view_known rows ≡ map (kept t) es
    → map view_known (rows ++ (key, x) ∷ []) ≡ map (kept t) (es ++ entry name x.place k (view_said x.said) ∷ [])
one_more t es rows name key k x e f g =
    map-append view_known rows ((key, x) ∷ [])
    ∙ (ap₂ (λ xs y. xs ++ y ∷ []) g (rw (e, f) refl) ∙ sym (map-append (kept t) es (entry name x.place k (view_said x.said) ∷ [])))

pub newly : (t : Table) (d n : NameTable) (s : Progress) (name : List ℕ) (k : Kind) (x : Known) (key : Vec ℕ)
    → is_some (kind_of s.entries name) ≡ false → key.items ≡ name → view_meaning x.meaning ≡ kept_kind t k
    → n ≡ record d { names = n.names } → n.names.entries ≡ d.names.entries ++ (key, x) ∷ []
    → Shows t d s → Shows t n (entered name x.place k (view_said x.said) s)
newly t d n s name k x key e f g h i sh =
    rw e (record {
      pins = ap (λ (y : NameTable). y.pins) h ∙ sh.pins;
      ground = ap (λ (y : NameTable). y.ground) h ∙ sh.ground;
      rows = ap (map view_known) i ∙ one_more t s.entries d.names.entries name key k x f g sh.rows;
      device = ap (λ (y : NameTable). y.has_device) h ∙ sh.device;
      nodes = ap (λ (y : NameTable). y.nodes) h ∙ sh.nodes;
      taken = ap (λ (y : NameTable). y.taken.items) h ∙ sh.taken;
      waiting = ap (λ (y : NameTable). map view_given y.waiting.items) h ∙ sh.waiting;
      first = ap (λ (y : NameTable). y.fault) h ∙ sh.first;
    })
