-- What is known of the source's own end, where bytes are taken from the rest and put before it.
use Rattle.std.proofs.Common.{◌≡◌, ◌-◌, ◌+◌, ◌<◌, ◌≤◌, ℕ, List, ◌∷◌, ◌++◌, length, take, drop, refl, sym, ap, ◌∙◌, arith, add-one, length-drop, length-append}
use Rattle.abel_expand.proofs.Common.{call_at, called_by, goes_on, next_at, drop-append-add, append_assoc, drop-drop, take-append-drop, Place, Kept, Tables, Done, Rewritten, move, last, limit, after, Reading, lesser, own_behind, own_left, to_come, StandsThere, IsOwnEnd, Stands}
use Rattle.abel_expand.specs.declared.standing.Origin.TheVariants as origin

-- the last bytes stay where bytes are taken
last_behind : (n k : ℕ) (old new : List ℕ) → new ≡ drop k old → k ≤ length old → n ≤ length new → last n new ≡ last n old
last_behind n k old new e h l =
    let m : length new ≡ length old - k = ap length e ∙ length-drop k old in
    let s : k + (length new - n) ≡ length old - n = omega (arith, m, h, l) in
    ap (drop (length new - n)) e ∙ drop-drop (length new - n) k old ∙ ap (λ (i : ℕ). drop i old) s

-- and where bytes are put in front
last_before : (n : ℕ) (v old new : List ℕ) → new ≡ v ++ old → n ≤ length old → last n new ≡ last n old
last_before n v old new e l =
    let m : length new ≡ length v + length old = ap length e ∙ length-append v old in
    let s : length new - n ≡ length v + (length old - n) = omega (arith, m, l) in
    ap (λ (i : ℕ). drop i new) s ∙ ap (drop (length v + (length old - n))) e ∙ drop-append-add v old (length old - n)

-- the whole text is the source's own before the first turn
pub own_whole : (text : List ℕ) → IsOwnEnd text 0 (length text) text
own_whole text = record { counted = refl; ends = λ n below within. refl }

module _ (text : List ℕ) (turns own : ℕ) (rest : List ℕ) (o : IsOwnEnd text turns own rest) where
  -- a byte is taken
  pub own_next : (b : ℕ) (more : List ℕ) → rest ≡ b ∷ more → IsOwnEnd text turns own more
  own_next b more e =
      let s : 1 ≤ length rest = omega (arith, ap length e) in
      let f : more ≡ drop 1 rest = sym (ap (drop 1) e) in
      record {
        counted = o.counted;
        ends = λ n below within. last_behind n 1 rest more f s within ∙ o.ends n below (omega (arith, ap length e, within));
      }

  -- if no more is left than is its own, the source goes on with the rest
  pub own_here : (offset : ℕ) → length rest ≤ own → offset + length rest ≡ length text → drop offset text ≡ rest
  own_here offset h e =
      let z : length rest - length rest ≡ 0 = omega arith in
      let d : offset ≡ length text - length rest = omega (arith, e) in
      ap (λ (k : ℕ). drop k text) d ∙ sym (o.ends (length rest) h (omega arith)) ∙ ap (λ (k : ℕ). drop k rest) z

  -- a turn that does bytes
  counted_done : (t : Tables) (w behind : List ℕ) → move (after turns text).tables (after turns text).rest ≡ Done t w behind → own_left (turns + 1) text ≡ own
  counted_done t w behind m = ap (λ (n : ℕ). own_left n text) (add-one turns) ∙ ap (own_behind (own_left turns text)) m ∙ o.counted

  pub own_done : (t : Tables) (w behind : List ℕ) (k : ℕ) (rest' : List ℕ) → move (after turns text).tables (after turns text).rest ≡ Done t w behind
      → rest' ≡ drop k rest → k ≤ length rest → IsOwnEnd text (turns + 1) own rest'
  own_done t w behind k rest' m e h =
      let l : length rest' ≡ length rest - k = ap length e ∙ length-drop k rest in
      record {
        counted = counted_done t w behind m;
        ends = λ n below within. last_behind n k rest rest' e h within ∙ o.ends n below (omega (arith, l, within));
      }

  -- a turn that rewrites
  pub own_rewritten : (result behind : List ℕ) (k : ℕ) (rest' : List ℕ) → move (after turns text).tables (after turns text).rest ≡ Rewritten result behind
      → behind ≡ drop k rest → k ≤ length rest → rest' ≡ result ++ behind → IsOwnEnd text (turns + 1) (lesser own (length behind)) rest'
  own_rewritten result behind k rest' m b h e =
      let l : length behind ≡ length rest - k = ap length b ∙ length-drop k rest in
      record {
        counted = ap (λ (n : ℕ). own_left n text) (add-one turns) ∙ ap (own_behind (own_left turns text)) m ∙ ap (λ (n : ℕ). lesser n (length behind)) o.counted;
        ends = λ n below within.
            let i : n ≤ length behind = omega (arith, below) in
            last_before n result behind rest' e i ∙ last_behind n k rest behind b h i ∙ o.ends n (omega (arith, below)) (omega (arith, i, l));
      }

-- the outermost call stays where a turn does bytes
pub call_done : (text : List ℕ) (turns call : ℕ) (t : Tables) (w behind : List ℕ) → call_at turns text ≡ call → move (after turns text).tables (after turns text).rest ≡ Done t w behind
    → call_at (turns + 1) text ≡ call
call_done text turns call t w behind e m =
    ap (λ (n : ℕ). call_at n text) (add-one turns) ∙ ap (called_by (length text) (own_left turns text) (length (after turns text).rest) (call_at turns text)) m ∙ e

-- where the source goes on, by the parts of a reader of which nothing waits
pub next_is : (text : List ℕ) (turns own call : ℕ) (rest : List ℕ) → own_left turns text ≡ own → call_at turns text ≡ call → (after turns text).rest ≡ rest
    → next_at turns text ≡ goes_on (length text) own (length rest) call
next_is text turns own call rest counted called left =
    ap (λ (n : ℕ). goes_on (length text) n (length (after turns text).rest) (call_at turns text)) counted
    ∙ ap (λ (w : List ℕ). goes_on (length text) own (length w) (call_at turns text)) left ∙ ap (goes_on (length text) own (length rest)) called

-- and is there after a rewriting
pub call_rewritten : (text : List ℕ) (turns : ℕ) (result behind : List ℕ) → move (after turns text).tables (after turns text).rest ≡ Rewritten result behind → call_at (turns + 1) text ≡ next_at turns text
call_rewritten text turns result behind m =
    ap (λ (n : ℕ). call_at n text) (add-one turns) ∙ ap (called_by (length text) (own_left turns text) (length (after turns text).rest) (call_at turns text)) m

-- what waits and what follows it are what is said and the rest
module _ (text : List ℕ) (turns given done rewritings : ℕ) (k : Kept) (waiting : List ℕ) (copied : ℕ) (rest : List ℕ) (place : Place)
    (s : Stands text turns given done rewritings k waiting copied rest place) where
  pub to_come_is : drop given (after turns text).done ++ (after turns text).rest ≡ waiting ++ rest
  to_come_is =
      ap (λ (w : List ℕ). w ++ (after turns text).rest) s.waits ∙ ap (λ (w : List ℕ). (waiting ++ take copied rest) ++ w) s.behind
      ∙ append_assoc waiting (take copied rest) (drop copied rest) ∙ ap (λ (w : List ℕ). waiting ++ w) (take-append-drop copied rest)

  pub length_to_come : length (drop given (after turns text).done ++ (after turns text).rest) ≡ length waiting + length rest
  length_to_come = ap length to_come_is ∙ length-append waiting rest

  -- so they have at most as many bytes as a text may have
  pub few_to_come : length waiting + length rest ≤ limit
  few_to_come =
      omega (arith, length_to_come, length-append (drop given (after turns text).done) (after turns text).rest, length-drop given (after turns text).done, s.length_done, s.fits)

-- a byte that is said for a form
pub said_there : (r : Reading) (b own left : ℕ) → own_left r.turns r.text ≡ own → left ≡ 1 + length (to_come r) → (r.standing.origin ≡ origin.Source → ⊥)
    → (r.standing.origin ≡ origin.Call → own < left) → (own < left → r.standing.origin ≡ origin.Call) → StandsThere r b
said_there r b own left counted l none call before =
    record {
      source = λ e. absurd (none e);
      call = λ e. omega (arith, call e, counted, l);
      before = λ h. before (omega (arith, h, counted, l));
    }

-- a byte of the rest
pub copied_there : (r : Reading) (b own left : ℕ) (rest more : List ℕ) → left ≡ length rest → IsOwnEnd r.text r.turns own rest → rest ≡ b ∷ more → to_come r ≡ more
    → (r.standing.origin ≡ origin.Source → (left ≤ own) × (r.standing.offset + left ≡ length r.text))
    → (r.standing.origin ≡ origin.Call → own < left) → (own < left → r.standing.origin ≡ origin.Call) → StandsThere r b
copied_there r b own left rest more n o e f source call before =
    let l : left ≡ 1 + length (to_come r) = omega (arith, n, ap length e, ap length f) in
    record {
      source = λ h. own_here r.text r.turns own rest o r.standing.offset (omega (arith, n, (source h).0)) (omega (arith, n, (source h).1)) ∙ e ∙ ap (λ (w : List ℕ). b ∷ w) (sym f);
      call = λ h. omega (arith, call h, o.counted, l);
      before = λ h. before (omega (arith, h, o.counted, l));
    }
