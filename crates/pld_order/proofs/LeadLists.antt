-- Lists of vertices that lead to ends, and the paths through them.
use Rattle.std.proofs.Common.{◌≡◌, ◌⊎◌, ℕ, ◌+◌, ◌<◌, ◌≤◌, Bool, true, false, ◌&&◌, eqb, List, [], ◌∷◌, ◌++◌, length, get_or, refl, ap, sym, ◌∙◌, subst, arith, inl, inr}
use Rattle.pld_order.proofs.Common.{IsDistinct, cases_Bool, cases_lt, true≢false, false_from_ne_true, and_parts, and_from, or_left, or_right, length_push, get_or_push, get_or_append_left, list_any_at, apart_from_distinct, is_on, has, IsChain, IsPath, HasNoPath, IsSetOf, AreLeading, IsClosed, LeadsInto, NoneLeadsInto, HasNoneOf, AreApart, reads_of}
use Rattle.pld_order.proofs.Lists.{eqb_same, has_push, place_of, few, inside_push, once_push}
use Rattle.pld_order.proofs.OneOfBoth.{search_below}
use Rattle.pld_order.proofs.Walks.{chain_push}

-- ---- the list grows, and is closed

pub lead_none : (count : ℕ) (reads : ℕ → ℕ → Bool) (ends : ℕ → Bool) → AreLeading count reads ends []
unfolding IsDistinct
lead_none count reads ends = record { inside = λ v found. absurd (true≢false (sym found)); once = tt; lead = λ i low. absurd (omega arith) }

module _ (sets : List (List Bool)) (ends set : List Bool) (xs : List ℕ) (few_sets : length sets ≤ 256) (is : IsSetOf xs set) where
  -- one of the list that v reads
  read_of : (v : ℕ) → (AreApart (get_or sets v []) set → ⊥) → (j : ℕ) × (j < length xs) × (reads_of sets v (get_or xs j 0) ≡ true)
  read_of v meets =
      elim (search_below (λ w. reads_of sets v w && is_on set w) 256) [
        | inl there ↦
            let parts = and_parts (reads_of sets v there.0) (is_on set there.0) there.2 in
            let place = place_of xs there.0 (sym (is there.0) ∙ parts.1) in
            (place.0, place.1, subst (λ w. reads_of sets v w ≡ true) (sym place.2) parts.0)
        | inr none ↦ absurd (meets (λ w low reads on. true≢false (sym (and_from (reads_of sets v w) (is_on set w) reads on) ∙ none w low)))
      ]

  pub lead_more : (v : ℕ) → AreLeading (length sets) (reads_of sets) (is_on ends) xs → LeadsInto sets ends set v → AreLeading (length sets) (reads_of sets) (is_on ends) (xs ++ v ∷ [])
  lead_more v leading more = record {
    inside = inside_push xs (length sets) v leading.inside more.inside;
    once = once_push xs v leading.once (sym (is v) ∙ more.new);
    lead = lead;
  }
    where
      -- the place of an earlier one
      earlier : (i j : ℕ) → i ≤ length xs → j < i → reads_of sets (get_or (xs ++ v ∷ []) i 0) (get_or xs j 0) ≡ true → reads_of sets (get_or (xs ++ v ∷ []) i 0) (get_or (xs ++ v ∷ []) j 0) ≡ true
      earlier i j low less reads = subst (λ w. reads_of sets (get_or (xs ++ v ∷ []) i 0) w ≡ true) (sym (get_or_append_left xs (v ∷ []) 0 j (omega (arith, low, less)))) reads

      at : (i : ℕ) (x : ℕ) → i ≤ length xs → get_or (xs ++ v ∷ []) i 0 ≡ x
          → (is_on ends x ≡ true) ⊎ ((j : ℕ) × (j < i) × (reads_of sets x (get_or xs j 0) ≡ true))
          → (is_on ends (get_or (xs ++ v ∷ []) i 0) ≡ true) ⊎ ((j : ℕ) × (j < i) × (reads_of sets (get_or (xs ++ v ∷ []) i 0) (get_or (xs ++ v ∷ []) j 0) ≡ true))
      at i x low here (inl end) = inl (subst (λ y. is_on ends y ≡ true) (sym here) end)
      at i x low here (inr there) = inr (there.0, there.1, earlier i there.0 low there.1 (subst (λ y. reads_of sets y (get_or xs there.0 0) ≡ true) (sym here) there.2))

      new : (i : ℕ) → i ≡ length xs → (is_on ends v ≡ true) ⊎ ((j : ℕ) × (j < i) × (reads_of sets v (get_or xs j 0) ≡ true))
      new i last =
          elim more.leads [
            | inl end ↦ inl end
            | inr meets ↦ let there = read_of v meets in inr (there.0, omega (arith, last, there.1), there.2)
          ]

      lead : (i : ℕ) → i < length (xs ++ v ∷ []) → (is_on ends (get_or (xs ++ v ∷ []) i 0) ≡ true) ⊎ ((j : ℕ) × (j < i) × (reads_of sets (get_or (xs ++ v ∷ []) i 0) (get_or (xs ++ v ∷ []) j 0) ≡ true))
      lead i low =
          elim (cases_lt i (length xs)) [
            | inl less ↦ at i (get_or xs i 0) (omega (arith, less)) (get_or_append_left xs (v ∷ []) 0 i less) (leading.lead i less)
            | inr past ↦ (
                let last : i ≡ length xs = omega (arith, low, past, length_push xs v) in
                at i v (omega (arith, last)) (get_or_push xs v 0 i (sym last)) (new i last))
          ]

  pub closed_of : AreLeading (length sets) (reads_of sets) (is_on ends) xs → NoneLeadsInto sets ends set → IsClosed (length sets) (reads_of sets) (is_on ends) xs
  closed_of leading none v v_in out =
      let apart = none v v_in (is v ∙ out) in (
        apart.0,
        λ w there. false_from_ne_true (reads_of sets v w) (λ reads. let w_in = leading.inside w there in apart.1 w (omega (arith, w_in, few_sets)) reads (is w ∙ there)),
      )

pub lead_short : (count : ℕ) (reads : ℕ → ℕ → Bool) (ends : ℕ → Bool) (xs : List ℕ) (v : ℕ) → AreLeading count reads ends xs → v < count → has xs v ≡ false → length xs + 1 ≤ count
lead_short count reads ends xs v leading v_in new = subst (λ n. n ≤ count) (length_push xs v) (few (xs ++ v ∷ []) count (once_push xs v leading.once new) (inside_push xs count v leading.inside v_in))

-- ---- a walk through the list

-- the walk so far, from a start to a place
pub record IsFollowed (reads : ℕ → ℕ → Bool) (list : List ℕ) (start : ℕ) (path : List ℕ) (place : ℕ) : Type 0 where
  pub within : place < length list
  pub chain : IsChain reads path (get_or list place 0)
  pub once : IsDistinct eqb path
  pub behind : (x : ℕ) → has path x ≡ true → (k : ℕ) × (place < k) × (k < length list) × (get_or list k 0 ≡ x)
  pub short : length path + place < length list
  pub first : get_or (path ++ get_or list place 0 ∷ []) 0 0 ≡ get_or list start 0

module _ (count : ℕ) (reads : ℕ → ℕ → Bool) (ends : ℕ → Bool) (list : List ℕ) (leading : AreLeading count reads ends list) where
  pub followed_none : (start : ℕ) → start < length list → IsFollowed reads list start [] start
  unfolding IsDistinct
  followed_none start within = record {
    within = within;
    chain = tt;
    once = tt;
    behind = λ x found. absurd (true≢false (sym found));
    short = omega (arith, within);
    first = refl;
  }

  module _ (start : ℕ) (path : List ℕ) (place : ℕ) (walk : IsFollowed reads list start path place) where
    -- its place is new
    is_new : has path (get_or list place 0) ≡ false
    is_new = false_from_ne_true (has path (get_or list place 0)) (λ found.
        let there = walk.behind (get_or list place 0) found in
        true≢false (sym (eqb_same (get_or list place 0)) ∙ (ap (eqb (get_or list place 0)) (sym there.3) ∙ apart_from_distinct eqb list place there.0 0 leading.once there.1 there.2)))

    once_more : IsDistinct eqb (path ++ get_or list place 0 ∷ [])
    once_more = once_push path (get_or list place 0) walk.once is_new

    pub in_list : has list (get_or list place 0) ≡ true
    in_list = list_any_at (λ x. eqb (get_or list place 0) x) list place 0 walk.within (eqb_same (get_or list place 0))

    pub followed_more : (next : ℕ) → next < place → reads (get_or list place 0) (get_or list next 0) ≡ true → IsFollowed reads list start (path ++ get_or list place 0 ∷ []) next
    followed_more next less on = record {
      within = let within = walk.within in omega (arith, within, less);
      chain = chain_push reads path (get_or list place 0) (get_or list next 0) walk.chain on;
      once = once_more;
      behind = λ x found.
          elim (has_push path (get_or list place 0) x found) [
            | inl before ↦ let there = walk.behind x before in (there.0, omega (arith, less, there.1), there.2, there.3)
            | inr here ↦ (place, less, walk.within, sym here)
          ];
      short = let short = walk.short in omega (arith, short, less, length_push path (get_or list place 0));
      first = get_or_append_left (path ++ get_or list place 0 ∷ []) (get_or list next 0 ∷ []) 0 0 (omega (arith, length_push path (get_or list place 0))) ∙ walk.first;
    }

    -- at an end the walk is a path
    pub followed_path : ends (get_or list place 0) ≡ true → IsPath count reads (eqb (get_or list start 0)) ends (path ++ get_or list place 0 ∷ [])
    followed_path end = record {
      before = path;
      last = get_or list place 0;
      is = refl;
      inside = inside_push path count (get_or list place 0) in_path (leading.inside (get_or list place 0) in_list);
      begins = rw walk.first (eqb_same (get_or list start 0));
      leads = walk.chain;
      arrives = end;
    }
      where
        in_path : (x : ℕ) → has path x ≡ true → x < count
        in_path x found =
            let there = walk.behind x found in
            leading.inside x (subst (λ y. has list y ≡ true) there.3 (list_any_at (λ y. eqb (get_or list there.0 0) y) list there.0 0 there.2 (eqb_same (get_or list there.0 0))))

    pub path_once : IsDistinct eqb (path ++ get_or list place 0 ∷ [])
    path_once = once_more

    -- if it is no end, it reads an earlier one
    pub reads_earlier : ends (get_or list place 0) ≡ false → (j : ℕ) × (j < place) × (reads (get_or list place 0) (get_or list j 0) ≡ true)
    reads_earlier no_end =
        elim (leading.lead place walk.within) [
          | inl end ↦ absurd (true≢false (sym end ∙ no_end))
          | inr there ↦ there
        ]

    pub first_earlier : ends (get_or list place 0) ≡ false → (next : ℕ) → ((k : ℕ) → k < next → reads (get_or list place 0) (get_or list k 0) ≡ false) → next < place
    first_earlier no_end next none =
        let there = reads_earlier no_end in
        elim (cases_lt there.0 next) [
          | inl less ↦ absurd (true≢false (sym there.2 ∙ none there.0 less))
          | inr more ↦ omega (arith, more, there.1)
        ]

  -- ---- no other vertex is the first of a path

  pub first_leads : IsClosed count reads ends list → (xs : List ℕ) (last : ℕ) → ((v : ℕ) → has (xs ++ last ∷ []) v ≡ true → v < count) → IsChain reads xs last → ends last ≡ true → has list (get_or (xs ++ last ∷ []) 0 0) ≡ true
  first_leads closed [] last inside chain end =
      elim (cases_Bool (has list last)) [
        | inl there ↦ there
        | inr out ↦ absurd (true≢false (sym end ∙ (closed last (inside last (or_left (eqb last last) false (eqb_same last))) out).0))
      ]
  first_leads closed (x ∷ xs) last inside chain end =
      let next = first_leads closed xs last (λ v there. inside v (or_right (eqb v x) (has (xs ++ last ∷ []) v) there)) chain.1 end in
      elim (cases_Bool (has list x)) [
        | inl there ↦ there
        | inr out ↦ absurd (true≢false (sym (reads_next xs chain.0) ∙ (closed x (inside x (or_left (eqb x x) (has (xs ++ last ∷ []) x) (eqb_same x))) out).1 (get_or (xs ++ last ∷ []) 0 0) next))
      ]
    where
      reads_next : (ys : List ℕ) → reads x (get_or ys 0 last) ≡ true → reads x (get_or (ys ++ last ∷ []) 0 0) ≡ true
      reads_next [] on = on
      reads_next (y ∷ ys) on = on

  pub no_path : (starts : List Bool) → IsClosed count reads ends list → HasNoneOf list starts → HasNoPath count reads (is_on starts) ends
  no_path starts closed none path is =
      let there = place_of list (get_or path 0 0) (subst (λ p. has list (get_or p 0 0) ≡ true) (sym is.is) (first_leads closed is.before is.last (subst (λ p. (v : ℕ) → has p v ≡ true → v < count) is.is is.inside) is.leads is.arrives)) in
      true≢false (sym is.begins ∙ (ap (is_on starts) (sym there.2) ∙ none there.0 there.1))
