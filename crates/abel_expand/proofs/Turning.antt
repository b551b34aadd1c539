-- What a turn makes of the parts of a reader.
use Rattle.std.proofs.Common.{◌≡◌, ◌-◌, ◌+◌, ◌*◌, ◌<◌, ◌≤◌, ℕ, Bool, true, false, List, [], ◌∷◌, ◌++◌, Result, Ok, Err, length, take, drop, refl, sym, ap, ◌∙◌, subst, arith, add-one, append-nil, length-drop, length-append, ◌==◌, nat_lt}
use Rattle.abel_expand.proofs.Common.{take-length, take-append_seam, drop-append_seam, take-append-drop, length-take-le, Place, place_past, first_place, Kept, tables_of, Tables, Cause, TooLong, ExpansionLimit, Done, Rewritten, Refused, move, Config, turn, moved, within_limits, limit, most_rewritings, changed, IsFront, after, turned, IsRefused, Stands, left_to_do}
use Rattle.std.specs.Global.{Vec}
use Rattle.std.proofs.lemmas.Bool.{eqb-true, eq-eqb, lt-ltb, le-ltb}
use Rattle.text_rewriting.specs.declared.front.Change.{Change}
use Rattle.text_rewriting.specs.declared.front.Front.TheVariants as front

not_true : (b : Bool) → (b ≡ true → ⊥) → b ≡ false
not_true true h = absurd (h refl)
not_true false h = refl

first_none : (v w : List ℕ) → v ++ w ≡ [] → v ≡ []
first_none [] w e = refl
first_none (x ∷ v) w e = absurd cc

none_taken : (n : ℕ) (rest : List ℕ) → take n rest ≡ [] → drop n rest ≡ rest
none_taken n rest e = sym (ap (λ (v : List ℕ). v ++ drop n rest) e) ∙ take-append-drop n rest

turned_to : (c d : Config) → turn c ≡ Ok d → turned c ≡ d
turned_to c d e = ap (λ (r : Result Config Cause). elim r [ Ok d ↦ d | Err f ↦ c ]) e

-- the parts of a reader if nothing waits
module _ (text : List ℕ) (turns given done rewritings : ℕ) (k : Kept) (waiting : List ℕ) (copied : ℕ) (rest : List ℕ) (place : Place)
    (s : Stands text turns given done rewritings k waiting copied rest place) (none : drop given (after turns text).done ≡ []) where
  pub none_waits : waiting ≡ []
  none_waits = first_none waiting (take copied rest) (sym s.waits ∙ none)

  none_copied : take copied rest ≡ []
  none_copied = ap (λ (w : List ℕ). w ++ take copied rest) (sym none_waits) ∙ sym s.waits ∙ none

  pub rest_is : (after turns text).rest ≡ rest
  rest_is = s.behind ∙ none_taken copied rest none_copied

  pub all_given : given ≡ done
  all_given = omega (arith, s.most, s.length_done, ap length none, length-drop given (after turns text).done)

  pub given_is : take given (after turns text).done ≡ (after turns text).done
  given_is = ap (λ (n : ℕ). take n (after turns text).done) (all_given ∙ sym s.length_done) ∙ take-length (after turns text).done

  pub room : done + length rest ≤ limit
  room = omega (arith, s.fits, ap length rest_is)

  pub move_is : move (after turns text).tables (after turns text).rest ≡ move (tables_of k) rest
  move_is = ap (λ (t : Tables). move t (after turns text).rest) s.tables ∙ ap (move (tables_of k)) rest_is

  -- what is given stays
  still_given : (v : List ℕ) → take given ((after turns text).done ++ v) ≡ take given (after turns text).done
  still_given v =
      let c : Config = after turns text in
      let e : given ≡ length c.done = all_given ∙ sym s.length_done in
      ap (λ (n : ℕ). take n (c.done ++ v)) e ∙ take-append_seam c.done v ∙ sym given_is

  stands_done : (l : Kept) (v behind waiting' : List ℕ) (copied' : ℕ) (rest' : List ℕ) → move (tables_of k) rest ≡ Done (tables_of l) v behind → waiting' ++ take copied' rest' ≡ v → drop copied' rest' ≡ behind
      → length v + length behind ≤ length rest → length behind < length rest
      → Stands text (turns + 1) given (done + length v) rewritings l waiting' copied' rest' place × (left_to_do (after (turns + 1) text) < left_to_do (after turns text))
  stands_done l v behind waiting' copied' rest' m wb rb fit fall =
      let c : Config = after turns text in
      let d : Config = record { done = c.done ++ v; tables = tables_of l; rewritings = c.rewritings; rest = behind } in
      let t : turn c ≡ Ok d = ap (moved c) (move_is ∙ m) in
      let e : after (turns + 1) text ≡ d = ap (λ (n : ℕ). after n text) (add-one turns) ∙ turned_to c d t in
      let whole : given ≡ length c.done = all_given ∙ sym s.length_done in
      let r : length c.rest ≡ length rest = ap length rest_is in
      let n : length (after (turns + 1) text).rest ≡ length behind = ap (λ (x : Config). length x.rest) e in
      let q : (most_rewritings - (after (turns + 1) text).rewritings) * (limit + 1) ≡ (most_rewritings - c.rewritings) * (limit + 1) = ap (λ (x : Config). (most_rewritings - x.rewritings) * (limit + 1)) e in (
        record {
          tables = ap (λ (x : Config). x.tables) e;
          counted = ap (λ (x : Config). x.rewritings) e ∙ s.counted;
          waits = ap (λ (x : Config). drop given x.done) e ∙ ap (λ (n : ℕ). drop n (c.done ++ v)) whole ∙ drop-append_seam c.done v ∙ sym wb;
          behind = ap (λ (x : Config). x.rest) e ∙ sym rb;
          length_done = ap (λ (x : Config). length x.done) e ∙ omega (arith, length-append c.done v, s.length_done);
          most = omega (arith, s.most);
          fits = omega (arith, n, s.fits, r);
          few = s.few;
          work = omega (arith, n, s.work, r);
          placed = s.placed ∙ ap (place_past first_place) (sym (ap (λ (x : Config). take given x.done) e ∙ still_given v));
          line = s.line;
          column = s.column;
          first = s.first;
        },
        omega (arith, n, r, q),
      )

  -- bytes that are done unchanged
  pub copy_turn : (most n : ℕ) → IsFront (tables_of k) rest most (move (tables_of k) rest) (front.Copy n)
      → Stands text (turns + 1) given (done + n) rewritings k waiting n rest place × (left_to_do (after (turns + 1) text) < left_to_do (after turns text))
  copy_turn most n f =
      let l : length (take n rest) ≡ n = length-take-le n rest f.2 in
      let x = stands_done k (take n rest) (drop n rest) waiting n rest f.0 (ap (λ (w : List ℕ). w ++ take n rest) none_waits) refl (omega (arith, l, length-drop n rest, f.2)) (omega (arith, length-drop n rest, f.1, f.2)) in
      (subst (λ (i : ℕ). Stands text (turns + 1) given (done + i) rewritings k waiting n rest place) l x.0, x.1)

  -- something defined, and bytes done for a form
  pub said_turn : (l : Kept) (most : ℕ) (c : Change) (bytes : Vec ℕ) (end : ℕ) (rest' : List ℕ) → IsFront (tables_of k) rest most (move (tables_of k) rest) (front.Said c bytes end)
      → tables_of l ≡ changed c (tables_of k) → rest' ≡ drop end rest
      → Stands text (turns + 1) given (done + length bytes.items) rewritings l bytes.items 0 rest' place × (left_to_do (after (turns + 1) text) < left_to_do (after turns text))
  said_turn l most c bytes end rest' f t e =
      stands_done l bytes.items (drop end rest) bytes.items 0 rest' (f.0 ∙ ap (λ (x : Tables). Done x bytes.items (drop end rest)) (sym t)) (append-nil bytes.items) e
      (omega (arith, length-drop end rest, f.2, f.3)) (omega (arith, length-drop end rest, f.1, f.2))

  -- a turn that rewrites
  module _ (result behind : List ℕ) (m : move (tables_of k) rest ≡ Rewritten result behind) where
    abbrev next : Config
    next = record { done = (after turns text).done; tables = (after turns text).tables; rewritings = (after turns text).rewritings + 1; rest = result ++ behind }

    rewrites : turn (after turns text) ≡ within_limits ((after turns text).rewritings == most_rewritings) (nat_lt limit (length (after turns text).done + length (result ++ behind))) next
    rewrites = ap (moved (after turns text)) (move_is ∙ m)

    pub limit_refused : rewritings ≡ most_rewritings → turn (after turns text) ≡ Err ExpansionLimit
    limit_refused h =
        let c : Config = after turns text in
        rewrites ∙ ap (λ (b : Bool). within_limits b (nat_lt limit (length c.done + length (result ++ behind))) next) (eq-eqb c.rewritings most_rewritings (s.counted ∙ h))

    fewer : (rewritings ≡ most_rewritings → ⊥) → ((after turns text).rewritings == most_rewritings) ≡ false
    fewer h = not_true ((after turns text).rewritings == most_rewritings) (λ e. h (sym s.counted ∙ eqb-true (after turns text).rewritings most_rewritings e))

    pub too_long : (rewritings ≡ most_rewritings → ⊥) → limit < done + (length result + length behind) → turn (after turns text) ≡ Err TooLong
    too_long h l =
        let c : Config = after turns text in
        let long : nat_lt limit (length c.done + length (result ++ behind)) ≡ true = lt-ltb limit (length c.done + length (result ++ behind)) (omega (arith, s.length_done, length-append result behind)) in
        rewrites ∙ ap (λ (b : Bool). within_limits b (nat_lt limit (length c.done + length (result ++ behind))) next) (fewer h) ∙ ap (λ (b : Bool). within_limits false b next) long

    pub rewriting_turn : (rest' : List ℕ) → (rewritings ≡ most_rewritings → ⊥) → done + (length result + length behind) ≤ limit → rest' ≡ result ++ behind
        → Stands text (turns + 1) given done (rewritings + 1) k waiting 0 rest' place × (left_to_do (after (turns + 1) text) < left_to_do (after turns text))
    rewriting_turn rest' h l r =
        let c : Config = after turns text in
        let a : length (result ++ behind) ≡ length result + length behind = length-append result behind in
        let short : nat_lt limit (length c.done + length (result ++ behind)) ≡ false = le-ltb limit (length c.done + length (result ++ behind)) (omega (arith, s.length_done, a)) in
        let t : turn c ≡ Ok next = rewrites ∙ ap (λ (b : Bool). within_limits b (nat_lt limit (length c.done + length (result ++ behind))) next) (fewer h) ∙ ap (λ (b : Bool). within_limits false b next) short in
        let e : after (turns + 1) text ≡ next = ap (λ (n : ℕ). after n text) (add-one turns) ∙ turned_to c next t in
        let n : length (after (turns + 1) text).rest ≡ length (result ++ behind) = ap (λ (x : Config). length x.rest) e in
        let q : (after (turns + 1) text).rewritings ≡ rewritings + 1 = ap (λ (x : Config). x.rewritings) e ∙ ap (λ (m : ℕ). m + 1) s.counted in
        let fewer_left : rewritings < most_rewritings = omega (arith, h, s.few) in (
          record {
            tables = ap (λ (x : Config). x.tables) e ∙ s.tables;
            counted = q;
            waits = ap (λ (x : Config). drop given x.done) e ∙ none ∙ sym (ap (λ (w : List ℕ). w ++ []) none_waits);
            behind = ap (λ (x : Config). x.rest) e ∙ sym r;
            length_done = ap (λ (x : Config). length x.done) e ∙ s.length_done;
            most = s.most;
            fits = omega (arith, n, a, l);
            few = omega (arith, fewer_left);
            work = omega (arith, n, a, l, s.work);
            placed = s.placed ∙ ap (place_past first_place) (sym (ap (λ (x : Config). take given x.done) e));
            line = s.line;
            column = s.column;
            first = s.first;
          },
          omega (arith, n, a, l, q, s.counted, fewer_left),
        )

  pub refused_as : (cause : Cause) → move (tables_of k) rest ≡ Refused cause → turn (after turns text) ≡ Err cause
  refused_as cause m = ap (moved (after turns text)) (move_is ∙ m)

  -- a refused turn refuses the text, after the bytes given
  pub is_refused : (cause : Cause) → turn (after turns text) ≡ Err cause → ((after turns text).rest ≡ [] → ⊥) → IsRefused text cause (take given (after turns text).done)
  is_refused cause t some = (turns, some, t, sym given_is)
