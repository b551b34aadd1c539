-- Each turn reads one entry.
use Rattle.std.proofs.Common.{◌≡◌, [], ◌∷◌, ◌++◌, length, map, sym, ◌∙◌}
use Rattle.section_parsers.proofs.Common.{map_push, list_turn, read_repeated, view_decl, among, decl_starts, read_decl, decl_shorter}
use Rattle.section_parsers.proofs.declarations.decls.Goals as goal

pub list-smaller : goal.list-smaller
list-smaller c = decl_shorter c.args.depth c.list.rest.now (view_decl c.in_ok-next.next, c.in_ok-next.after.now) c.in_ok-next.ensures

pub list-preserved : goal.list-preserved
list-preserved c =
    let e : map view_decl c.push.new.self.items ≡ map view_decl c.list.list.items ++ view_decl c.in_ok-next.next ∷ [] = rw c.in_ok-push.ensures.items (map_push _ c.list.list.items c.in_ok-next.next) in
    rw e (list_turn (read_decl c.args.depth) (among decl_starts) (decl_shorter c.args.depth) (map view_decl c.list.list.items) c.list.rest.now (view_decl c.in_ok-next.next, c.in_ok-next.after.now)
    (read_repeated (among decl_starts) (read_decl c.args.depth) c.args.tokens.now) (sym c.starts.ensures ∙ c.list-test.true) c.in_ok-next.ensures c.list.invariant)
