-- No declaration so far names a device.
use Rattle.std.proofs.Common.{◌≡◌, None, map, take}
use Rattle.decls.proofs.Common.{view_decl, first_string}
use Rattle.decls.proofs.device.string_among.Given as goal

abbrev pub invariant-loop-decl : goal.invariant-loop-decl
invariant-loop-decl l = first_string (map view_decl (take l.decl-index l.decls)) ≡ None
