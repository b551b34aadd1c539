-- How the parts of a reader represent a configuration.
use Rattle.std.specs.Prelude.{◌≡◌, ℕ, ◌+◌, ◌-◌, ◌*◌, ◌≤◌, List, ◌++◌, length, take, drop}
use Rattle.pld_base.specs.declared.place.Place.{Place}
use Rattle.abel_lexer.specs.Scans.{place_past, first_place}
use Rattle.abel_macros.specs.Kept.{Kept, tables_of}
use Rattle.abel_macros.specs.Turns.{Config, limit, most_rewritings}
use Rattle.text_rewriting.specs.Marks.{last}
use Rattle.abel_expand.specs.Runs.{after}
use Rattle.abel_expand.specs.Origins.{own_left}

-- after so many turns: the bytes that wait, and so many of the rest after them, are done and not given
pub record Stands (text : List ℕ) (turns given done rewritings : ℕ) (k : Kept) (waiting : List ℕ) (copied : ℕ) (rest : List ℕ) (place : Place) : Type 0 where
  pub tables : (after turns text).tables ≡ tables_of k
  pub counted : (after turns text).rewritings ≡ rewritings
  pub waits : drop given (after turns text).done ≡ waiting ++ take copied rest
  pub behind : (after turns text).rest ≡ drop copied rest
  pub length_done : length (after turns text).done ≡ done
  pub most : given ≤ done
  pub fits : done + length (after turns text).rest ≤ limit
  pub few : rewritings ≤ most_rewritings
  pub work : turns + length (after turns text).rest ≤ (rewritings + 1) * (limit + 1)
  pub placed : place ≡ place_past first_place (take given (after turns text).done)
  pub line : place.line ≤ given + 1
  pub column : place.column ≤ given + 1
  pub first : 1 ≤ place.column

-- so many bytes at the end of the rest are the source's own
pub record IsOwnEnd (text : List ℕ) (turns own : ℕ) (rest : List ℕ) : Type 0 where
  pub counted : own_left turns text ≡ own
  pub ends : (n : ℕ) → n ≤ own → n ≤ length rest → last n rest ≡ last n text

-- what is left to do: it falls at each turn
abbrev pub left_to_do : Config → ℕ
left_to_do c = (most_rewritings - c.rewritings) * (limit + 1) + length c.rest
