-- Lists of sources, each within the limit, and the loop that reads them.
use Rattle.std.proofs.Common.{◌≡◌, ℕ, ◌+◌, ◌<◌, ◌≤◌, List, [], ◌∷◌, ◌++◌, length, get_or, map, take, All, Some, Option, refl, sym, ap, ◌∙◌, subst, arith, option_map, slice_get, string_bytes, String, unwrap_or}
use Rattle.abel_commands.proofs.Common.{Vec, get_or-map, map-append, map_more, slice_get-map, slice_get_within, get_or_from_slice_get, Map, SameFiles, bytes_at, limit, sources_seen, texts}
use Rattle.std.specs.declared.alloc.Global.{Global}
use Rattle.std.proofs.lemmas.List.Elements.{All-append, All-cons, All-nil}

abbrev AllWithin : List (List ℕ) → Type 0
AllWithin sources = All (λ source. length source ≤ limit) sources

-- an item of a list of sources is within the limit
pub within_item : (sources : List (Vec ℕ)) (place : ℕ) (source : Vec ℕ) → AllWithin (sources_seen sources) → slice_get sources place ≡ Some source → length source.items ≤ limit
within_item sources place source all is =
    let seen : slice_get (sources_seen sources) place ≡ Some source.items = slice_get-map (λ (s : Vec ℕ). s.items) sources place ∙ ap (λ (s : Option (Vec ℕ)). option_map (λ (v : Vec ℕ). v.items) s) is in
    subst (λ (bytes : List ℕ). length bytes ≤ limit) (get_or_from_slice_get (sources_seen sources) place source.items [] seen)
    (all place [] (slice_get_within (sources_seen sources) place source.items seen))

-- one source more
pub one_more : (sources : List (Vec ℕ)) (source : Vec ℕ) (next : List (Vec ℕ)) → next ≡ sources ++ source ∷ [] → sources_seen next ≡ sources_seen sources ++ source.items ∷ []
one_more sources source next is = ap sources_seen is ∙ map-append (λ (s : Vec ℕ). s.items) sources (source ∷ [])

pub within_more : (sources : List (Vec ℕ)) (source : Vec ℕ) (next : List (Vec ℕ)) → next ≡ sources ++ source ∷ [] → length source.items ≤ limit
    → AllWithin (sources_seen sources) → AllWithin (sources_seen next)
within_more sources source next is within all =
    subst AllWithin (sym (one_more sources source next is))
    (All-append (λ s. length s ≤ limit) (sources_seen sources) (source.items ∷ []) all (All-cons (λ s. length s ≤ limit) source.items [] within (All-nil (λ s. length s ≤ limit))))

-- the loop is at a name
module _ (files : Map) (names : List (String Global)) (place : ℕ) (name : String Global) (lt : place < length names) (is : name ≡ get_or names place name) where
  -- the text at its place is its own
  pub at_name : get_or (texts names) place [] ≡ string_bytes name
  at_name = get_or-map string_bytes names place name [] lt ∙ ap string_bytes (sym is)

  -- the bytes under one name more
  pub own_more : (sources : List (Vec ℕ)) (source : Vec ℕ) (next : List (Vec ℕ)) → next ≡ sources ++ source ∷ []
      → sources_seen sources ≡ map (bytes_at files) (texts (take place names)) → source.items ≡ bytes_at files (string_bytes name)
      → sources_seen next ≡ map (bytes_at files) (texts (take (place + 1) names))
  own_more sources source next more before read =
      let names_more : texts (take (place + 1) names) ≡ texts (take place names) ++ string_bytes name ∷ [] =
      map_more string_bytes names place name lt ∙ ap (λ (w : String Global). texts (take place names) ++ string_bytes w ∷ []) (sym is) in
      one_more sources source next more
      ∙ ap (λ (xs : List (List ℕ)). xs ++ source.items ∷ []) before
      ∙ ap (λ (bytes : List ℕ). map (bytes_at files) (texts (take place names)) ++ bytes ∷ []) read
      ∙ sym (ap (map (bytes_at files)) names_more ∙ map-append (bytes_at files) (texts (take place names)) (string_bytes name ∷ []))

-- the bytes under a name while the files stay the same
pub bytes_same : (old new : Map) (name : List ℕ) → SameFiles old new → bytes_at new name ≡ bytes_at old name
bytes_same old new name same = ap (λ (found : Option (List ℕ)). unwrap_or found []) (same name)
